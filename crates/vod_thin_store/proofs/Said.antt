-- What is said of vectors, and of one batch more.
use Rattle.std.proofs.Common.{◌≡◌, ℕ, ◌<◌, ◌≤◌, ◌+◌, ◌-◌, ◌*◌, arith, List, [], ◌∷◌, ◌++◌, length, refl, sym, ap, ◌∙◌, append_assoc}
use Rattle.std.specs.Prelude.{Bool, true, false, ◌==◌, if◌then◌else◌}
use Rattle.std.proofs.lemmas.Bool.Decides.{nat_tests}
use Rattle.std.proofs.lemmas.List.{append-nil, nil_from_length}
use Rattle.vod_thin_design.specs.declared.thin.Vector.{Vector}
use Rattle.vod_thin_design.specs.Vectors.{last_time, last_time_after}
use Rattle.vod_thin_code.specs.Held.{ack, said_from, said}

-- of the vectors of one batch, one line is said
said-whole : (held fresh last : ℕ) (vs : List Vector) → 1 ≤ fresh + length vs → fresh + length vs ≤ 64 → fresh < 64 →
    said_from held fresh last vs ≡ ack (held + length vs) (last_time_after last vs)
said-whole held fresh last [] some few lt =
    let more : (fresh == 0) ≡ false = grind (arith, nat_tests) in
    let count : held ≡ held + 0 = omega arith in
    ap (λ b. if b then [] else ack held last) more ∙ ap (λ n. ack n last) count
said-whole held fresh last (v ∷ vs) some few lt = by_test (fresh + 1 == 64) refl (λ lt. said-whole (held + 1) (fresh + 1) v.time vs (omega arith) (omega arith) lt)
  where
    count : held + 1 + length vs ≡ held + length (v ∷ vs)
    count = omega arith

    by_test : (b : Bool) → (fresh + 1 == 64) ≡ b → (fresh + 1 < 64 → said_from (held + 1) (fresh + 1) v.time vs ≡ ack (held + 1 + length vs) (last_time_after v.time vs)) →
        (if b then ack (held + 1) v.time ++ said_from (held + 1) 0 v.time vs else said_from (held + 1) (fresh + 1) v.time vs) ≡ ack (held + length (v ∷ vs)) (last_time_after v.time vs)
    by_test true e more =
        (let full : fresh + 1 ≡ 64 = grind (arith, nat_tests) in
        let none : vs ≡ [] = nil_from_length vs (omega arith) in
        let end : held + 1 ≡ held + length (v ∷ vs) = omega arith in
        ap (λ ws. ack (held + 1) v.time ++ said_from (held + 1) 0 v.time ws) none ∙ append-nil (ack (held + 1) v.time)
        ∙ ap (λ n. ack n v.time) end ∙ sym (ap (λ ws. ack (held + length (v ∷ vs)) (last_time_after v.time ws)) none))
    by_test false e more =
        (let open_is : fresh + 1 < 64 = grind (arith, nat_tests) in
        more open_is ∙ ap (λ n. ack n (last_time_after v.time vs)) count)

-- behind whole batches, one line is said of one batch more
said-behind : (held fresh last n : ℕ) (front batch : List Vector) → fresh + length front ≡ 64 * n → fresh < 64 → 1 ≤ length batch → length batch ≤ 64 →
    said_from held fresh last (front ++ batch) ≡ said_from held fresh last front ++ ack (held + length front + length batch) (last_time_after last (front ++ batch))
said-behind held fresh last n [] batch whole lt some few =
    let none : fresh ≡ 0 = omega arith in
    let test : (fresh == 0) ≡ true = grind (arith, nat_tests) in
    let count : held + length batch ≡ held + 0 + length batch = omega arith in
    said-whole held fresh last batch (omega arith) (omega arith) lt
    ∙ ap (λ n. ack n (last_time_after last batch)) count
    ∙ sym (ap (λ b. (if b then [] else ack held last) ++ ack (held + 0 + length batch) (last_time_after last batch)) test)
said-behind held fresh last n (v ∷ front) batch whole lt some few =
    by_test (fresh + 1 == 64) refl (λ m f e lt. said-behind (held + 1) f v.time m front batch e lt some few)
  where
    line : List ℕ
    line = ack (held + 1 + length front + length batch) (last_time_after v.time (front ++ batch))

    count : ack (held + 1 + length front + length batch) (last_time_after v.time (front ++ batch)) ≡ ack (held + length (v ∷ front) + length batch) (last_time_after v.time (front ++ batch))
    count = (let same : held + 1 + length front + length batch ≡ held + length (v ∷ front) + length batch = omega arith in ap (λ n. ack n (last_time_after v.time (front ++ batch))) same)

    by_test : (b : Bool) → (fresh + 1 == 64) ≡ b →
        ((m f : ℕ) → f + length front ≡ 64 * m → f < 64 →
        said_from (held + 1) f v.time (front ++ batch) ≡ said_from (held + 1) f v.time front ++ ack (held + 1 + length front + length batch) (last_time_after v.time (front ++ batch))) →
        (if b then ack (held + 1) v.time ++ said_from (held + 1) 0 v.time (front ++ batch) else said_from (held + 1) (fresh + 1) v.time (front ++ batch))
        ≡ (if b then ack (held + 1) v.time ++ said_from (held + 1) 0 v.time front else said_from (held + 1) (fresh + 1) v.time front)
        ++ ack (held + length (v ∷ front) + length batch) (last_time_after v.time (front ++ batch))
    by_test true e more =
        (let full : fresh + 1 ≡ 64 = grind (arith, nat_tests) in
        let left : 0 + length front ≡ 64 * (n - 1) = omega arith in
        ap (λ xs. ack (held + 1) v.time ++ xs) (more (n - 1) 0 left (omega arith) ∙ ap (λ xs. said_from (held + 1) 0 v.time front ++ xs) count)
        ∙ sym (append_assoc (ack (held + 1) v.time) (said_from (held + 1) 0 v.time front) (ack (held + length (v ∷ front) + length batch) (last_time_after v.time (front ++ batch)))))
    by_test false e more =
        (let open_is : fresh + 1 < 64 = grind (arith, nat_tests) in
        let left : fresh + 1 + length front ≡ 64 * n = omega arith in
        more n (fresh + 1) left open_is ∙ ap (λ xs. said_from (held + 1) (fresh + 1) v.time front ++ xs) count)

pub said-more : (n : ℕ) (front batch : List Vector) → length front ≡ 64 * n → 1 ≤ length batch → length batch ≤ 64 →
    said (front ++ batch) ≡ said front ++ ack (length front + length batch) (last_time (front ++ batch))
said-more n front batch whole some few =
    let start : 0 + length front ≡ 64 * n = omega arith in
    let count : 0 + length front + length batch ≡ length front + length batch = omega arith in
    said-behind 0 0 0 n front batch start (omega arith) some few ∙ ap (λ k. said front ++ ack k (last_time (front ++ batch))) count
