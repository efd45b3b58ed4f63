-- Which sources are of the thin form, the design of each, and where others are refused.
use Rattle.std.specs.Prelude.{◌≡◌, ℕ, Bool, false, List, [], Option, None, Some}
use Rattle.vod_token.specs.declared.Token.{Token}
use Rattle.vod_thin_design.specs.Netlist.{Netlist}
use Rattle.vod_thin_syntax.specs.Limit.{sooner, limit_of}
use Rattle.vod_thin_syntax.specs.Refusal.{Reads, IsRefusedAt}
use Rattle.vod_thin_syntax.specs.Syntax.{Value, Module, printed}
use Rattle.vod_thin.specs.Rules.{least, faults}
use Rattle.vod_thin.specs.Netlists.{design_of}

-- where the first token begins that is past a limit, or the first name that breaks a rule
abbrev pub first_fault : List ℕ → List Token → Module Value → Option ℕ
first_fault source ts m = sooner (limit_of source ts) (least (faults (printed m)))

-- a source reads as a module without a fault, and has its design
pub record IsThin (source : List ℕ) (d : Netlist) : Type 0 where
  pub tokens : List Token
  pub tree : Module Value
  pub reads : Reads source tokens tree
  pub faultless : first_fault source tokens tree ≡ None
  pub design : d ≡ design_of tree

-- A source is refused at a place: there it isn't of the form; or it reads as a module, to its end, and has its first fault there.
pub data IsRefused (source : List ℕ) : Bool → ℕ → Type 0 where
  unread : (more : Bool) (place : ℕ) → IsRefusedAt source more place → IsRefused source more place
  faulty : (ts : List Token) (m : Module Value) (place : ℕ) → Reads source ts m → first_fault source ts m ≡ Some place → IsRefused source false place
