-- The listed places of each signal.
use Rattle.std.proofs.Common.{◌≡◌, ℕ, ◌+◌, ◌<◌, ◌==◌, ◌||◌, ◌&&◌, zero, suc, Bool, true, false, List, [], ◌∷◌, ◌++◌, length, get_or, set, take, replicate, arith, refl, ap, ◌∙◌, sym, subst, ⊎_elim, eq-eqb, length-set, get_or-set_same, get_or-set_other}
use Rattle.std.proofs.lemmas.Bool.{cases_eq, ne_eqb}
use Rattle.std.proofs.lemmas.List.{length-replicate, get_or-replicate, take_more, length-take-le}
use Rattle.vod_thin_design.specs.declared.thin.Block.{Block}
use Rattle.vod_thin_design.specs.Netlist.{Netlist, has}
use Rattle.vod_thin_queue.specs.Step.{waits_for}
use Rattle.vod_thin_queue.specs.State.{list_at}
use Rattle.vod_thin_queue.specs.Index.{passes_at, IsIndex}
use Rattle.vod_thin_queue.proofs.Has.{or-false, has-append, has-push}

and-false : (b : Bool) → (b && false) ≡ false
and-false true = refl
and-false false = refl

and-true : (b : Bool) → (b && true) ≡ b
and-true true = refl
and-true false = refl

eqb-suc : (m n : ℕ) → (suc m == suc n) ≡ (m == n)
eqb-suc m n = ⊎_elim (λ e. eq-eqb (suc m) (suc n) (ap suc e) ∙ sym (eq-eqb m n e)) (λ e. ne_eqb (suc m) (suc n) (λ s. e (omega arith)) ∙ sym (ne_eqb m n e)) (cases_eq m n)

-- one more item passes at its place, or doesn't
pub passes_at-push : {A : Type 0} (test : A → Bool) (xs : List A) (x : A) (k : ℕ) → passes_at test (xs ++ x ∷ []) k ≡ (passes_at test xs k || (test x && (length xs == k)))
passes_at-push test [] x zero = sym (and-true (test x))
passes_at-push test [] x (suc k) =
    let at : (0 == suc k) ≡ false = ne_eqb 0 (suc k) (λ e. omega arith) in
    sym (ap (λ b. test x && b) at ∙ and-false (test x))
passes_at-push test (first ∷ xs) x zero =
    let at : (suc (length xs) == 0) ≡ false = ne_eqb (suc (length xs)) 0 (λ e. omega arith) in
    sym (ap (λ b. test first || (test x && b)) at ∙ ap (λ b. test first || b) (and-false (test x)) ∙ or-false (test first))
passes_at-push test (first ∷ xs) x (suc k) =
    passes_at-push test xs x k ∙ ap (λ b. passes_at test xs k || (test x && b)) (sym (eqb-suc (length xs) k))

-- the list of one signal, where there is one, has one more number
pub has-list_at-push : (lists : List (List ℕ)) (signal place s k : ℕ) → s < length lists → has (list_at (set lists signal (list_at lists signal ++ place ∷ [])) s) k ≡ (has (list_at lists s) k || ((signal == s) && (place == k)))
has-list_at-push lists signal place s k h =
    ⊎_elim
    (λ same. let test = eq-eqb signal s same in
    let at : list_at (set lists s (list_at lists s ++ place ∷ [])) s ≡ list_at lists s ++ place ∷ [] = get_or-set_same lists s (list_at lists s ++ place ∷ []) [] h in
    let at' : list_at (set lists signal (list_at lists signal ++ place ∷ [])) s ≡ list_at lists s ++ place ∷ [] =
    subst (λ t. list_at (set lists t (list_at lists t ++ place ∷ [])) s ≡ list_at lists s ++ place ∷ []) (sym same) at in
    rw (at', test) (has-push (list_at lists s) place k))
    (λ other. let test = ne_eqb signal s other in
    let at : list_at (set lists signal (list_at lists signal ++ place ∷ [])) s ≡ list_at lists s =
    get_or-set_other lists signal s (list_at lists signal ++ place ∷ []) [] (λ e. other (sym e)) in
    rw (at, test) (sym (or-false (has (list_at lists s) k))))
    (cases_eq signal s)

pub or_both : (h a b p : Bool) → ((h || (a && p)) || (b && p)) ≡ (h || ((a || b) && p))
or_both true a b p = refl
or_both false true true true = refl
or_both false true true false = refl
or_both false true false true = refl
or_both false true false false = refl
or_both false false true p = refl
or_both false false false p = refl

-- the index goes on with one more item
pub IsIndex-push : {A : Type 0} (test : ℕ → A → Bool) (xs : List A) (x : A) (signals : ℕ) (old new : List (List ℕ)) → IsIndex test xs signals old → length new ≡ length old →
    ((s k : ℕ) → s < length old → has (list_at new s) k ≡ (has (list_at old s) k || (test s x && (length xs == k)))) → IsIndex test (xs ++ x ∷ []) signals new
IsIndex-push test xs x signals old new i same added = record {
  covers = same ∙ i.covers;
  exact = λ s k h. added s k (omega (arith, i.covers)) ∙ ap (λ b. b || (test s x && (length xs == k))) (i.exact s k h) ∙ sym (passes_at-push (test s) xs x k);
}

pub IsIndex-more : {A : Type 0} (test : ℕ → A → Bool) (xs items : List A) (i : ℕ) (x : A) (signals : ℕ) (old new : List (List ℕ)) → items ≡ xs → i < length items → x ≡ get_or items i x → IsIndex test (take i xs) signals old → length new ≡ length old →
    ((s k : ℕ) → s < length old → has (list_at new s) k ≡ (has (list_at old s) k || (test s x && (i == k)))) → IsIndex test (take (i + 1) xs) signals new
IsIndex-more test xs items i x signals old new same h is index len added =
    let len_take : length (take i xs) ≡ i = length-take-le i xs (rw (← same) (omega arith)) in
    let h' : i < length xs = rw (← same) h in
    let is' : get_or xs i x ≡ x = sym (rw same at is) in
    rw (take_more xs i x h', is')
    (IsIndex-push test (take i xs) x signals old new index len
    (λ s k l. rw len_take (added s k l)))

-- one more block, in the list of its clock
pub IsIndex-more_one : (d : Netlist) (items : List Block) (i : ℕ) (x : Block) (signals : ℕ) (old new : List (List ℕ)) → items ≡ d.blocks → i < length items → x ≡ get_or items i x → IsIndex waits_for (take i d.blocks) signals old →
    length new ≡ length old → new ≡ set old x.clock (list_at old x.clock ++ i ∷ []) → IsIndex waits_for (take (i + 1) d.blocks) signals new
IsIndex-more_one d items i x signals old new same h is index len pushed =
    IsIndex-more waits_for d.blocks items i x signals old new same h is index len
    (λ s k l. rw pushed (has-list_at-push old x.clock i s k l))

-- the place in the lists of what an expression reads, by its operands
pub added_one : (read : List ℕ) (s place : ℕ) (old new : List (List ℕ)) → read ≡ s ∷ [] → new ≡ set old s (list_at old s ++ place ∷ []) → (t k : ℕ) → t < length old →
    has (list_at new t) k ≡ (has (list_at old t) k || (has read t && (place == k)))
added_one read s place old new is pushed t k l =
    rw (is, pushed) (has-list_at-push old s place t k l ∙ ap (λ b. has (list_at old t) k || (b && (place == k))) (sym (or-false (s == t))))

pub added_both : (read first last : List ℕ) (place : ℕ) (old mid new : List (List ℕ)) → read ≡ first ++ last → length mid ≡ length old →
    ((t k : ℕ) → t < length old → has (list_at mid t) k ≡ (has (list_at old t) k || (has first t && (place == k)))) →
    ((t k : ℕ) → t < length mid → has (list_at new t) k ≡ (has (list_at mid t) k || (has last t && (place == k)))) →
    (t k : ℕ) → t < length old → has (list_at new t) k ≡ (has (list_at old t) k || (has read t && (place == k)))
added_both read first last place old mid new is len to_mid to_new t k l =
    to_new t k (rw len l) ∙ ap (λ b. b || (has last t && (place == k))) (to_mid t k l) ∙ or_both (has (list_at old t) k) (has first t) (has last t) (place == k)
    ∙ ap (λ b. has (list_at old t) k || (b && (place == k))) (sym (ap (λ ns. has ns t) is ∙ has-append first last t))
