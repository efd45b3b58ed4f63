-- What parameters stand for.
use Rattle.std.proofs.Common.{◌≡◌, Bool, List, [], ◌∷◌, Option, None, Some, refl, sym, subst}
use Rattle.vod_bits.specs.Bit.{Bit}
use Rattle.vod_operand.specs.declared.fault.Fault.{Fault}
use Rattle.vod_operand.specs.Operands.{Looked, first}
use Rattle.vod_width.specs.declared.types.Constant.{Constant}
use Rattle.vod_width.specs.declared.types.WidthFault.{WidthFault}
use Rattle.vod_width.specs.Refusals.{Refused, refusal_of}
use Rattle.vod_constants.specs.declared.bounds.Span.{Span}
use Rattle.vod_constants.specs.declared.parameters.Given.{Given}
use Rattle.vod_constants.specs.declared.parameters.Given.TheVariants as given
use Rattle.vod_constants.specs.Constants.{default_value, given_value, typed}
use Rattle.vod_constants.specs.Found.{signed_value, chosen, typed_by, if_sound, IsRanged}
use Rattle.vod_constants.proofs.Facts.{named_first}

unranged_by : (fs : List Fault) (f : Fault) (s : Span) → first fs ≡ Some f → None ≡ if_sound fs s
unranged_by [] f s h = absurd (cc)
unranged_by (g ∷ fs) f s h = refl

pub unranged : (f : Fault) (fs : List Fault) (s : Span) (r : WidthFault) → r ≡ refusal_of f → Refused r fs → IsRanged (record { span = None; fault = Some f }) fs s
unranged f fs s r h k =
    let is = named_first f fs (subst (λ w. Refused w fs) h k) in
    record { range = unranged_by fs f s is; fault = sym is; size = λ t e. absurd (cc) }

pub chosen_value : (g : Given) (own : Option Constant) (x : Looked) → signed_value own ≡ default_value x → signed_value (chosen g own) ≡ given_value g x
chosen_value given.Default own x h = h
chosen_value (given.Value c) own x h = refl
chosen_value given.Open own x h = refl

pub typed_sound : (signed : Bool) (fs : List Fault) (s : Span) (v : Option (List Bit × Bool)) → typed_by signed (if_sound fs s) v ≡ typed signed fs s v
typed_sound signed [] s v = refl
typed_sound signed (f ∷ fs) s None = refl
typed_sound signed (f ∷ fs) s (Some v) = refl
