-- What the code finds of parameters.
use Rattle.std.specs.Prelude.{◌≡◌, ℕ, ◌≤◌, Bool, List, [], ◌∷◌, Option, None, Some}
use Rattle.std.specs.Option.{option_map}
use Rattle.vod_bits.specs.Bit.{Bit}
use Rattle.vod_bits.specs.declared.TheConstants.{WIDTH}
use Rattle.vod_operand.specs.declared.fault.Fault.{Fault}
use Rattle.vod_operand.specs.Operands.{Looked, first}
use Rattle.vod_width.specs.declared.types.Constant.{Constant}
use Rattle.vod_width.specs.declared.decls.Declared.{Declared}
use Rattle.vod_width.specs.declared.decls.Declared.TheVariants as stands
use Rattle.vod_width.specs.declared.decls.Sort.TheVariants as sorts
use Rattle.vod_width.specs.Sizes.{constant_faults}
use Rattle.vod_constants.specs.declared.bounds.Span.{Span}
use Rattle.vod_constants.specs.declared.parameters.Given.{Given}
use Rattle.vod_constants.specs.declared.parameters.Given.TheVariants as given
use Rattle.vod_constants.specs.declared.parameters.Valued.{Valued}
use Rattle.vod_constants.specs.declared.parameters.Ranged.{Ranged}
use Rattle.vod_constants.specs.Constants.{default_value, typed}

abbrev pub signed_constant : Constant → List Bit × Bool
signed_constant c = (c.value, c.signed)

abbrev pub signed_value : Option Constant → Option (List Bit × Bool)
signed_value c = option_map signed_constant c

-- a value that is formed exactly where nothing is at fault
pub record IsValued (v : Valued) (x : Looked) : Type 0 where
  pub value : signed_value v.value ≡ default_value x
  pub fault : v.fault ≡ first (constant_faults x)

-- a range that is formed exactly where nothing is at fault
abbrev pub if_sound : List Fault → Span → Option Span
if_sound [] span = Some span
if_sound (f ∷ fs) span = None

abbrev pub IsSize : ℕ → Type 0
IsSize width = (1 ≤ width) × (width ≤ WIDTH)

pub record IsRanged (r : Ranged) (faults : List Fault) (formed : Span) : Type 0 where
  pub range : r.span ≡ if_sound faults formed
  pub fault : r.fault ≡ first faults
  pub size : (s : Span) → r.span ≡ Some s → IsSize s.width

abbrev pub chosen : Given → Option Constant → Option Constant
chosen given.Default own = own
chosen (given.Value c) own = Some c
chosen given.Open own = None

abbrev pub typed_by : Bool → Option Span → Option (List Bit × Bool) → Declared
typed_by signed None v = stands.Open sorts.Constant
typed_by signed (Some span) v = typed signed [] span v
