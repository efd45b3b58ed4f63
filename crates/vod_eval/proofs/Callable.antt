-- Calls of functions by number.
use Rattle.std.proofs.Common.{◌≡◌, ℕ, zero, suc, ◌+◌, ◌*◌, ◌≤◌, ◌<◌, nat_lt, Bool, true, false, cond, ◌==◌, ◌≢◌, List, [], ◌∷◌, map, length, take, slice_get, get_or, Option, Some, None, option_and_then, refl, ap, sym, ◌∙◌, arith, inl, inr}
use Rattle.std.proofs.Math.Nat.{mul-le-mul_right}
use Rattle.std.proofs.lemmas.List.{get_or_read}
use Rattle.std.proofs.lemmas.Bool.{lt-ltb, le-ltb, ltb-true}
use Rattle.std.proofs.lemmas.Bool.Decides.{eqb_tells, nat_tests}
use Rattle.vod_bits.specs.Bit.{Bit}
use Rattle.vod_design.specs.declared.sized.SizedExpr.{SizedExpr}
use Rattle.vod_design.specs.declared.statement.Function.{Function}
use Rattle.vod_design.specs.declared.statement.Part.{Part}
use Rattle.vod_design.specs.Values.{Values, Frame, Operand, bounded, select_bits}
use Rattle.vod_design.specs.Eval.{Calls, operand_of}
use Rattle.vod_design.specs.Run.{assigned, written, target_of, run, nothing, frame_of, result_of, call_below}
use Rattle.vod_eval.specs.Room.{most, function_room, call_room}
use Rattle.vod_eval.specs.Scenes.{with_signs, operand}
use Rattle.vod_eval.proofs.Layers.{sign_of}

-- the function of a number, where it is below k
abbrev pub found : List Function → ℕ → ℕ → Option Function
found functions k n = cond (nat_lt n k) (slice_get functions n) None

same_found : {X O : Type 0} (G : ℕ → Option O → X) (get : ℕ → Option O) (k n : ℕ) → n ≡ k → G k (get k) ≡ G n (cond (nat_lt n (suc k)) (get n) None)
same_found G get k n e = let below : nat_lt k (suc k) ≡ true = lt-ltb k (suc k) (omega arith) in rw (e, below) refl

other_found : {X O : Type 0} (G : ℕ → Option O → X) (get : ℕ → Option O) (k n : ℕ) (y : X) → n ≢ k → y ≡ G n (cond (nat_lt n k) (get n) None) → y ≡ G n (cond (nat_lt n (suc k)) (get n) None)
other_found G get k n y ne h = let same : nat_lt n k ≡ nat_lt n (suc k) = grind (arith, nat_tests) in h ∙ ap (λ b. G n (cond b (get n) None)) same

step_found : {X O : Type 0} (G : ℕ → Option O → X) (get : ℕ → Option O) (k n : ℕ) (y : X) → y ≡ G n (cond (nat_lt n k) (get n) None)
    → cond (n == k) (G k (get k)) y ≡ G n (cond (nat_lt n (suc k)) (get n) None)
step_found G get k n y h = elim (eqb_tells n k) [ inl e ↦ rw e.0 (same_found G get k n e.1) | inr e ↦ rw e.0 (other_found G get k n y e.1 h) ]

none_found : {X O : Type 0} (G : ℕ → Option O → X) (get : ℕ → Option O) (n : ℕ) → G n None ≡ G n (cond (nat_lt n 0) (get n) None)
none_found G get n = let e : nat_lt n 0 ≡ false = le-ltb n 0 (omega arith) in rw e refl

pub calls_at : (fill : Bit) (functions : List Function) (k n : ℕ) (arguments : List Operand) → call_below fill functions k n arguments ≡ result_of fill (call_below fill functions n) (found functions k n) arguments
calls_at fill functions zero n arguments = none_found (λ m o. result_of fill (call_below fill functions m) o arguments) (slice_get functions) n
calls_at fill functions (suc k) n arguments =
    step_found (λ m o. result_of fill (call_below fill functions m) o arguments) (slice_get functions) k n (call_below fill functions k n arguments) (calls_at fill functions k n arguments)

pub rooms_at : (functions : List Function) (k n : ℕ) → call_room functions k n ≡ function_room (call_room functions n) (found functions k n)
rooms_at functions zero n = none_found (λ m o. function_room (call_room functions m) o) (slice_get functions) n
rooms_at functions (suc k) n =
    step_found (λ m o. function_room (call_room functions m) o) (slice_get functions) k n (call_room functions k n) (rooms_at functions k n)

taken : {O : Type 0} (b : Bool) (o : Option O) (x : O) → cond b o None ≡ Some x → (b ≡ true) × (o ≡ Some x)
taken true o x h = (refl, h)
taken false o x h = absurd (cc)

pub found_below : (functions : List Function) (k n : ℕ) (f : Function) → found functions k n ≡ Some f → (n < k) × (slice_get functions n ≡ Some f)
found_below functions k n f h = let t = taken (nat_lt n k) (slice_get functions n) f h in (ltb-true n k t.0, t.1)

pub most_get : {A : Type 0} (f : A → ℕ) (xs : List A) (n : ℕ) (x : A) → slice_get xs n ≡ Some x → f x ≤ most (map f xs)
most_get f [] n x h = absurd (cc)
most_get f (y ∷ xs) zero x h = let e : y ≡ x = cc in let same : f y ≡ f x = ap f e in omega arith
most_get f (y ∷ xs) (suc n) x h = let more : f x ≤ most (map f xs) = most_get f xs n x h in omega arith

pub most_found : {A : Type 0} (f : A → ℕ) (xs : List A) (n : Option ℕ) (x : A) → option_and_then (slice_get xs) n ≡ Some x → f x ≤ most (map f xs)
most_found f xs None x h = absurd (cc)
most_found f xs (Some n) x h = most_get f xs n x h

-- the measure falls at a call
pub below_base : (n k b m : ℕ) → n < k → m < b → n * b + m < k * b
below_base n k b m h l = omega (arith, mul-le-mul_right b h)

pub operand_back : (fill : Bit) (calls : Calls) (values : Values) (frame : Frame) (e : SizedExpr) → operand (operand_of fill calls values frame e).bits e.signed ≡ operand_of fill calls values frame e
operand_back fill calls values frame e = ap (λ s. operand (operand_of fill calls values frame e).bits s) (sym (sign_of fill calls values frame e))

pub signs_back : (fill : Bit) (calls : Calls) (values : Values) (frame : Frame) (es : List SizedExpr)
    → with_signs (map (λ e. (operand_of fill calls values frame e).bits) es) es ≡ map (operand_of fill calls values frame) es
signs_back fill calls values frame [] = refl
signs_back fill calls values frame (e ∷ es) =
    let head : operand (operand_of fill calls values frame e).bits e.signed ≡ operand_of fill calls values frame e = operand_back fill calls values frame e in
    let more : with_signs (map (λ e. (operand_of fill calls values frame e).bits) es) es ≡ map (operand_of fill calls values frame) es = signs_back fill calls values frame es in
    cc

-- the parts take no more indices than they are
pub assigned_take : (fill : Bit) (parts : List Part) (indices : List (List Bit)) (value : List Bit) (frame : Frame) → assigned fill parts indices value frame ≡ assigned fill parts (take (length parts) indices) value frame
assigned_take fill [] indices value frame = refl
assigned_take fill (p ∷ parts) [] value frame = refl
assigned_take fill (p ∷ parts) (index ∷ indices) value frame = assigned_take fill parts indices value (written fill (target_of p.target index) (select_bits fill p.low (bounded p.width) value) frame)

-- the value of a call, where the function's body was run over its variables
pub call_value : (fill : Bit) (functions : List Function) (k n : ℕ) (arguments : List Operand) (f : Function) (frame entry : Frame) (index : ℕ) (r : List Bit) → found functions k n ≡ Some f
    → entry ≡ frame_of fill f arguments → frame ≡ run fill (call_below fill functions n) (nothing fill) f.body entry → index ≡ length f.inputs + length f.locals → r ≡ get_or frame index r → index < length frame
    → r ≡ call_below fill functions k n arguments
call_value fill functions k n arguments f frame entry index r h e g i is l =
    get_or_read frame index r l is (fill ∷ []) ∙ ap (λ xs. get_or xs index (fill ∷ [])) (g ∙ ap (run fill (call_below fill functions n) (nothing fill) f.body) e)
    ∙ ap (λ m. get_or (run fill (call_below fill functions n) (nothing fill) f.body (frame_of fill f arguments)) m (fill ∷ [])) i
    ∙ sym (calls_at fill functions k n arguments ∙ ap (λ o. result_of fill (call_below fill functions n) o arguments) h)
