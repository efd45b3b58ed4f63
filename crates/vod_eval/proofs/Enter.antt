-- The variables of a function as it is entered.
use Rattle.std.proofs.Common.{◌≡◌, ℕ, zero, suc, ◌+◌, ◌≤◌, ◌<◌, List, [], ◌∷◌, ◌++◌, length, take, slice_get, get_or, Option, None, Some, option_map, Bor, false, refl, sym, ◌∙◌, ap, arith, add-one}
use Rattle.std.specs.Option.{option_copied}
use Rattle.vod_bits.specs.Bit.{Bit}
use Rattle.vod_design.specs.declared.sized.SizedExpr.{SizedExpr}
use Rattle.vod_design.specs.declared.statement.Size.{Size}
use Rattle.vod_design.specs.Values.{Operand}
use Rattle.vod_design.specs.Run.{entered}
use Rattle.vod_eval.specs.Scenes.{operand, with_signs, input_bits}

pub entered_length : (fill : Bit) (inputs : List Size) (arguments : List Operand) → length (entered fill inputs arguments) ≡ length inputs
entered_length fill [] arguments = refl
entered_length fill (x ∷ xs) [] = ap suc (entered_length fill xs [])
entered_length fill (x ∷ xs) (a ∷ arguments) = ap suc (entered_length fill xs arguments)

-- one input more
entered_next : (fill : Bit) (inputs : List Size) (arguments : List Operand) (i : ℕ) (d : Size) → i < length inputs
    → entered fill (take (suc i) inputs) arguments ≡ entered fill (take i inputs) arguments ++ input_bits fill (get_or inputs i d) (slice_get arguments i) ∷ []
entered_next fill [] arguments i d h = absurd (omega arith)
entered_next fill (x ∷ xs) [] zero d h = refl
entered_next fill (x ∷ xs) (a ∷ arguments) zero d h = refl
entered_next fill (x ∷ xs) [] (suc i) d h = ap (λ ys. input_bits fill x None ∷ ys) (entered_next fill xs [] i d (omega arith))
entered_next fill (x ∷ xs) (a ∷ arguments) (suc i) d h = ap (λ ys. input_bits fill x (Some a) ∷ ys) (entered_next fill xs arguments i d (omega arith))

pub entered_more : (fill : Bit) (inputs : List Size) (arguments : List Operand) (i : ℕ) (x : Size) (v : List Bit) → x ≡ get_or inputs i x → i < length inputs → v ≡ input_bits fill x (slice_get arguments i)
    → entered fill (take (i + 1) inputs) arguments ≡ entered fill (take i inputs) arguments ++ v ∷ []
entered_more fill inputs arguments i x v is h e =
    rw add-one (entered_next fill inputs arguments i x h ∙ ap (λ y. entered fill (take i inputs) arguments ++ y ∷ []) (ap (λ s. input_bits fill s (slice_get arguments i)) (sym is) ∙ sym e))

-- the operand that an argument is
pub with_signs_get : (values : List (List Bit)) (es : List SizedExpr) (i : ℕ) (d : List Bit) → length es ≤ length values
    → slice_get (with_signs (take (length es) values) es) i ≡ option_map (λ e. operand (get_or values i d) e.signed) (slice_get es i)
with_signs_get [] [] i d h = refl
with_signs_get (v ∷ values) [] i d h = refl
with_signs_get [] (e ∷ es) i d h = absurd (omega arith)
with_signs_get (v ∷ values) (e ∷ es) zero d h = refl
with_signs_get (v ∷ values) (e ∷ es) (suc i) d h = with_signs_get values es i d (omega arith)

-- an argument behind a reference, and itself
pub copied_map : {X : Type 0} (f : SizedExpr → X) (o : Option (Bor SizedExpr)) → option_map (λ (e : Bor SizedExpr). f e.now) o ≡ option_map f (option_copied o)
copied_map f None = refl
copied_map f (Some e) = refl

abbrev pub no_size : Size
no_size = record { width = 0; signed = false }
