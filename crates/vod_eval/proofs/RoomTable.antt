-- The rooms of calls as a table.
use Rattle.std.proofs.Common.{◌≡◌, ℕ, zero, suc, ◌+◌, ◌≤◌, ◌<◌, List, [], ◌∷◌, ◌++◌, length, slice_get, Some, refl, sym, ◌∙◌, ap, arith, inl, inr}
use Rattle.std.proofs.lemmas.List.{length-append, get_or_past, get_or_append_left}
use Rattle.std.proofs.lemmas.Bool.{cases_lt}
use Rattle.std.proofs.lemmas.Bool.Decides.{eqb_tells}
use Rattle.vod_design.specs.declared.statement.Function.{Function}
use Rattle.vod_eval.specs.Room.{room_in, statement_room, function_room, call_room}
use Rattle.vod_eval.proofs.Kept.{get_seam}

-- the rooms of calls of the first k functions
abbrev pub table_of : List Function → ℕ → List ℕ
table_of functions zero = []
table_of functions (suc k) = table_of functions k ++ call_room functions (suc k) k ∷ []

pub table_length : (functions : List Function) (k : ℕ) → length (table_of functions k) ≡ k
table_length functions zero = refl
table_length functions (suc k) = omega (arith, length-append (table_of functions k) (call_room functions (suc k) k ∷ []), table_length functions k)

room_past : (functions : List Function) (k n : ℕ) → k ≤ n → call_room functions k n ≡ 0
room_past functions zero n h = refl
room_past functions (suc k) n h = elim (eqb_tells n k) [ inl e ↦ absurd (omega (arith, e.1)) | inr e ↦ rw e.0 (room_past functions k n (omega arith)) ]

-- a row more of a table
behind_row : (rows : List ℕ) (k m n : ℕ) → length rows ≡ k → k < n → room_in (rows ++ m ∷ []) n ≡ 0
behind_row rows k m n e h = get_or_past (rows ++ m ∷ []) n 0 (omega (arith, length-append rows (m ∷ [])))

pub table_is : (functions : List Function) (k n : ℕ) → room_in (table_of functions k) n ≡ call_room functions k n
table_is functions zero n = refl
table_is functions (suc k) n =
    let rows = table_of functions k in
    let m = call_room functions (suc k) k in
    let count = table_length functions k in
    elim (eqb_tells n k) [
      | inl e ↦ let last : room_in (rows ++ m ∷ []) n ≡ m = ap (λ j. room_in (rows ++ m ∷ []) j) (e.1 ∙ sym count) ∙ get_seam rows m [] 0 in last ∙ ap (call_room functions (suc k)) (sym e.1)
      | inr e ↦ rw e.0 (elim (cases_lt n k) [
        | inl l ↦ get_or_append_left rows (m ∷ []) 0 n (omega (arith, count)) ∙ table_is functions k n
        | inr r ↦ behind_row rows k m n count (omega (arith, e.1)) ∙ sym (room_past functions k n r)
      ])
    ]

pub table : (functions : List Function) (k : ℕ) → room_in (table_of functions k) ≡ call_room functions k
table functions k = λ i n. table_is functions k n i

-- what a call of the function at the end of a table takes
pub next_room : (functions : List Function) (k : ℕ) (f : Function) → slice_get functions k ≡ Some f
    → call_room functions (suc k) k ≡ length f.inputs + length f.locals + 1 + statement_room (room_in (table_of functions k)) f.body
next_room functions k f h =
    elim (eqb_tells k k) [
      | inl e ↦ rw e.0 (ap (function_room (call_room functions k)) h ∙ ap (λ calls. length f.inputs + length f.locals + 1 + statement_room calls f.body) (sym (table functions k)))
      | inr e ↦ absurd (e.1 refl)
    ]
