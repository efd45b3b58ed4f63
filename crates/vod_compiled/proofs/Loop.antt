-- Steps from a place on.
use Rattle.std.proofs.Common.{◌≡◌, ℕ, suc, ◌+◌, ◌-◌, ◌<◌, ◌≤◌, min, List, ◌∷◌, length, drop, get_or, refl, sym, ◌∙◌, ap, arith, inl, inr}
use Rattle.std.proofs.lemmas.Bool.{cases_lt}
use Rattle.std.proofs.lemmas.List.{drop-drop, drop_all}
use Rattle.std.proofs.Math.Seq.{drop-cons}
use Rattle.vod_compiled.specs.declared.step.Step.{Step}
use Rattle.vod_compiled.specs.declared.step.Input.{Input}
use Rattle.vod_compiled.specs.declared.step.Op.{Op}
use Rattle.vod_compiled.specs.declared.step.Op.TheVariants as op
use Rattle.vod_compiled.specs.Steps.{Cells, World, op_bits, put, after_op, left_out_op, after, left_out, exec}
use Rattle.vod_compiled.proofs.Works.{skip}

one_more : (w : World) (s : Step) (rest : List Step) (cells : Cells) → exec w 0 (s ∷ rest) cells ≡ exec w 0 (drop (left_out w cells s) rest) (after w cells s)
unfolding exec
one_more w s rest cells = skip w (left_out w cells s) rest (after w cells s)

pub step_more : (w : World) (steps : List Step) (at : ℕ) (s : Step) (cells now : Cells) (n : ℕ) → at < length steps → s ≡ get_or steps at s → now ≡ after w cells s → n ≡ left_out w cells s
    → exec w 0 (drop at steps) cells ≡ exec w 0 (drop (at + 1 + n) steps) now
step_more w steps at s cells now n h is p q =
    let whole : drop at steps ≡ s ∷ drop (suc at) steps = drop-cons steps at s h ∙ ap (λ x. x ∷ drop (suc at) steps) (sym is) in
    let count : suc at + n ≡ at + 1 + n = omega arith in
    let rest : drop n (drop (suc at) steps) ≡ drop (at + 1 + n) steps = drop-drop n (suc at) steps ∙ ap (λ k. drop k steps) count in
    ap (λ xs. exec w 0 xs cells) whole ∙ one_more w s (drop (suc at) steps) cells ∙ ap (λ k. exec w 0 (drop k (drop (suc at) steps)) (after w cells s)) (sym q)
    ∙ ap (λ xs. exec w 0 xs (after w cells s)) rest ∙ ap (exec w 0 (drop (at + 1 + n) steps)) (sym p)

-- a place past the end is as good as another one
pub past_end : (w : World) (steps : List Step) (i j : ℕ) (cells : Cells) → length steps ≤ i → length steps ≤ j → exec w 0 (drop i steps) cells ≡ exec w 0 (drop j steps) cells
past_end w steps i j cells h k = ap (λ xs. exec w 0 xs cells) (drop_all i steps h ∙ sym (drop_all j steps k))

pub at_end : (w : World) (steps : List Step) (i : ℕ) (cells : Cells) → length steps ≤ i → cells ≡ exec w 0 (drop i steps) cells
unfolding exec
at_end w steps i cells h = sym (ap (λ xs. exec w 0 xs cells) (drop_all i steps h))

-- the place of the next step
pub next_place : (w : World) (steps : List Step) (at n i : ℕ) (cells : Cells) → at < length steps → i ≡ at + (1 + min n (length steps - at - 1)) → exec w 0 (drop i steps) cells ≡ exec w 0 (drop (at + 1 + n) steps) cells
next_place w steps at n i cells h is =
    elim (cases_lt n (length steps - at - 1)) [
      | inl l ↦ let e : i ≡ at + 1 + n = omega arith in ap (λ k. exec w 0 (drop k steps) cells) e
      | inr r ↦ past_end w steps i (at + 1 + n) cells (omega arith) (omega arith)
    ]

-- a step that is neither a test nor a first branch puts its value into its cell, and leaves nothing out
pub puts : (w : World) (cells : Cells) (s : Step) (o : Op) → ((t : Input) (n : ℕ) → o ≡ op.Test t n → ⊥) → ((t a : Input) (n : ℕ) → o ≡ op.First t a n → ⊥) → put cells s.to (op_bits w cells s o) ≡ after_op w cells s o
puts w cells s (op.Test t n) no_test no_first = absurd (no_test t n refl)
puts w cells s (op.First t a n) no_test no_first = absurd (no_first t a n refl)
puts w cells s (op.Copy a) no_test no_first = refl
puts w cells s (op.Select x low n) no_test no_first = refl
puts w cells s (op.Index x least a) no_test no_first = refl
puts w cells s (op.Word m place) no_test no_first = refl
puts w cells s (op.WordIndex m least a) no_test no_first = refl
puts w cells s (op.Unary o a) no_test no_first = refl
puts w cells s (op.Binary o a b) no_test no_first = refl
puts w cells s (op.Comparison o a b) no_test no_first = refl
puts w cells s (op.LogicalNot a) no_test no_first = refl
puts w cells s (op.Logical o a b) no_test no_first = refl
puts w cells s (op.Reduction o a) no_test no_first = refl
puts w cells s (op.Shift o a b) no_test no_first = refl
puts w cells s (op.Join a) no_test no_first = refl
puts w cells s (op.Replicate n a) no_test no_first = refl
puts w cells s (op.GateStart o) no_test no_first = refl
puts w cells s (op.GateInput o a) no_test no_first = refl
puts w cells s (op.GateEnd o) no_test no_first = refl
puts w cells s (op.Second t b) no_test no_first = refl

pub goes_on : (w : World) (cells : Cells) (o : Op) → ((t : Input) (n : ℕ) → o ≡ op.Test t n → ⊥) → ((t a : Input) (n : ℕ) → o ≡ op.First t a n → ⊥) → 0 ≡ left_out_op w cells o
goes_on w cells (op.Test t n) no_test no_first = absurd (no_test t n refl)
goes_on w cells (op.First t a n) no_test no_first = absurd (no_first t a n refl)
goes_on w cells (op.Copy a) no_test no_first = refl
goes_on w cells (op.Select x low n) no_test no_first = refl
goes_on w cells (op.Index x least a) no_test no_first = refl
goes_on w cells (op.Word m place) no_test no_first = refl
goes_on w cells (op.WordIndex m least a) no_test no_first = refl
goes_on w cells (op.Unary o a) no_test no_first = refl
goes_on w cells (op.Binary o a b) no_test no_first = refl
goes_on w cells (op.Comparison o a b) no_test no_first = refl
goes_on w cells (op.LogicalNot a) no_test no_first = refl
goes_on w cells (op.Logical o a b) no_test no_first = refl
goes_on w cells (op.Reduction o a) no_test no_first = refl
goes_on w cells (op.Shift o a b) no_test no_first = refl
goes_on w cells (op.Join a) no_test no_first = refl
goes_on w cells (op.Replicate n a) no_test no_first = refl
goes_on w cells (op.GateStart o) no_test no_first = refl
goes_on w cells (op.GateInput o a) no_test no_first = refl
goes_on w cells (op.GateEnd o) no_test no_first = refl
goes_on w cells (op.Second t b) no_test no_first = refl
