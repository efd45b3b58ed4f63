-- The faults of the code.
use Rattle.std.specs.Prelude.{ℕ, Bool, List, ⊤}
use Rattle.vod_thin_syntax.specs.declared.fault.SyntaxFault.{SyntaxFault}
use Rattle.vod_thin_syntax.specs.declared.fault.SyntaxFault.TheVariants as syntax
use Rattle.vod_thin.specs.declared.fault.ThinFault.{ThinFault}
use Rattle.vod_thin.specs.declared.fault.ThinFault.TheVariants.{At, Memory}
use Rattle.vod_thin.specs.Thin.{IsRefused}

abbrev pub fault_of : SyntaxFault → ThinFault
fault_of (syntax.At place) = At place
fault_of syntax.Memory = Memory

-- a source is refused so
abbrev pub IsFault : List ℕ → Bool → ThinFault → Type 0
IsFault source more (At place) = IsRefused source more place
IsFault source more Memory = ⊤
