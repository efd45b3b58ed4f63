-- Why an expression is refused.
use Rattle.std.specs.Prelude.{◌≡◌, ℕ, Bool, false, List, Some}
use Rattle.vod_operand.specs.declared.fault.Fault.{Fault}
use Rattle.vod_operand.specs.Operands.{Looked, first}
use Rattle.vod_operand.specs.declared.fault.Fault.TheVariants as faults
use Rattle.vod_width.specs.declared.types.Own.{Own}
use Rattle.vod_width.specs.declared.types.WidthFault.{WidthFault}
use Rattle.vod_width.specs.declared.types.WidthFault.TheVariants as refusals

-- a refusal names the first of several faults; want of memory aside
abbrev pub Refused : WidthFault → List Fault → Type 0
Refused (refusals.Rule place) fs = first fs ≡ Some (faults.Rule place)
Refused (refusals.Width place) fs = first fs ≡ Some (faults.Width place)
Refused refusals.Open fs = first fs ≡ Some faults.Open
Refused refusals.Memory fs = Unit {0}

abbrev pub refusal_of : Fault → WidthFault
refusal_of (faults.Rule place) = refusals.Rule place
refusal_of (faults.Width place) = refusals.Width place
refusal_of faults.Open = refusals.Open

-- an expression without a value is refused at its own place; want of memory aside
abbrev pub HasNoValue : WidthFault → Bool → ℕ → Type 0
HasNoValue (refusals.Rule p) known place = (known ≡ false) × (p ≡ place)
HasNoValue (refusals.Width p) known place = ⊥
HasNoValue refusals.Open known place = ⊥
HasNoValue refusals.Memory known place = Unit {0}

-- what an expression is by itself
abbrev pub IsOwn : Own → Looked → Type 0
IsOwn o x = (o.width ≡ x.width) × (o.signed ≡ x.signed) × (o.constant ≡ x.constant)
