-- The vectors of a payload, one by one.
use Rattle.std.proofs.Common.{◌≡◌, ℕ, ◌<◌, ◌^◌, List, [], ◌∷◌, ◌++◌, length, All, refl, sym, ap, ◌∙◌, subst, arith, append_assoc}
use Rattle.std.specs.Prelude.{true, false, ◌==◌}
use Rattle.std.proofs.lemmas.Grind.{flat_map-append}
use Rattle.std.proofs.lemmas.List.Elements.{All-nil, All-push, All-head, All-tail}
use Rattle.vod_thin_design.specs.declared.thin.Vector.{Vector}
use Rattle.vod_thin_design.specs.Netlist.{Netlist}
use Rattle.vod_thin_design.specs.Vectors.{IsLawful}
use Rattle.vod_thin_code.specs.Bytes.{vector_bytes, batch_bytes, IsInForm}
use Rattle.vod_thin_code.proofs.Batches.{same_vector}
use Rattle.vod_thin_script.proofs.Lawful.{lawful_front}
use Rattle.vod_thin_replay.specs.Replay.{AddsPayload, IsUnlawful}

-- vectors were read from the front of a payload and added to those of before; the rest is left
pub record HasAdded (d : Netlist) (payload : List ℕ) (before : List Vector) (rest : List ℕ) (after : List Vector) : Type 0 where
  pub done : List Vector
  pub bytes : payload ≡ batch_bytes done ++ rest
  pub forms : All (IsInForm d) done
  pub added : after ≡ before ++ done

append_none : {X : Type 0} (xs : List X) → xs ++ [] ≡ xs
append_none [] = refl
append_none (x ∷ xs) = ap (λ ys. x ∷ ys) (append_none xs)

pub added_none : (d : Netlist) (payload : List ℕ) (before : List Vector) → HasAdded d payload before payload before
added_none d payload before = record { done = []; bytes = refl; forms = All-nil (IsInForm d); added = sym (append_none before) }

batch_push : (vs : List Vector) (v : Vector) → batch_bytes (vs ++ v ∷ []) ≡ batch_bytes vs ++ vector_bytes v
batch_push vs v = flat_map-append vector_bytes vs (v ∷ []) ∙ ap (λ bs. batch_bytes vs ++ bs) (append_none (vector_bytes v))

pub added_more : (d : Netlist) (payload : List ℕ) (before : List Vector) (rest : List ℕ) (after after' : List Vector) (v : Vector) (behind : List ℕ) →
    HasAdded d payload before rest after → IsInForm d v → rest ≡ vector_bytes v ++ behind → after' ≡ after ++ v ∷ [] → HasAdded d payload before behind after'
added_more d payload before rest after after' v behind had form here pushed = record {
  done = had.done ++ v ∷ [];
  bytes = had.bytes ∙ ap (λ bs. batch_bytes had.done ++ bs) here ∙ sym (append_assoc (batch_bytes had.done) (vector_bytes v) behind) ∙ ap (λ bs. bs ++ behind) (sym (batch_push had.done v));
  forms = All-push (IsInForm d) had.done v had.forms form;
  added = pushed ∙ ap (λ vs. vs ++ v ∷ []) had.added ∙ append_assoc before had.done (v ∷ []);
}

pub added_all : (d : Netlist) (payload : List ℕ) (before : List Vector) (rest : List ℕ) (after : List Vector) → HasAdded d payload before rest after → rest ≡ [] → AddsPayload d payload before after
added_all d payload before rest after had none = record {
  batch = had.done;
  bytes = had.bytes ∙ ap (λ bs. batch_bytes had.done ++ bs) none ∙ append_none (batch_bytes had.done);
  forms = had.forms;
  added = had.added;
}

-- vectors whose payload begins with that of others begin with these
begins : (d : Netlist) → length d.inputs < 2 ^ 32 → (done batch : List Vector) (rest : List ℕ) → All (IsInForm d) done → All (IsInForm d) batch → batch_bytes done ++ rest ≡ batch_bytes batch →
    (more : List Vector) × (batch ≡ done ++ more) × (rest ≡ batch_bytes more)
begins d few [] batch rest forms forms' e = (batch, refl, e)
begins d few (v ∷ done) [] rest forms forms' e = absurd (omega (arith, ap length e))
begins d few (v ∷ done) (w ∷ batch) rest forms forms' e =
    let one = same_vector d few v w (batch_bytes done ++ rest) (batch_bytes batch) (All-head (IsInForm d) v done forms) (All-head (IsInForm d) w batch forms') (sym (append_assoc (vector_bytes v) (batch_bytes done) rest) ∙ e) in
    let more = begins d few done batch rest (All-tail (IsInForm d) v done forms) (All-tail (IsInForm d) w batch forms') one.1 in
    (more.0, ap (λ x. x ∷ batch) (sym one.0) ∙ ap (λ xs. v ∷ xs) more.1, more.2)

form_at : (d : Netlist) (done : List Vector) (v : Vector) (vs : List Vector) → All (IsInForm d) (done ++ v ∷ vs) → IsInForm d v
form_at d [] v vs all = All-head (IsInForm d) v vs all
form_at d (w ∷ done) v vs all = form_at d done v vs (All-tail (IsInForm d) w (done ++ v ∷ vs) all)

-- what is left begins with no vector in form
pub unread : (d : Netlist) → length d.inputs < 2 ^ 32 → (payload : List ℕ) (before : List Vector) (rest : List ℕ) (after : List Vector) → HasAdded d payload before rest after → (length rest == 0) ≡ false →
    ((v : Vector) (behind : List ℕ) → IsInForm d v → rest ≡ vector_bytes v ++ behind → ⊥) → IsUnlawful d payload before
unread d few payload before rest after had some none batch bytes forms lawful =
    let more = begins d few had.done batch rest had.forms forms (sym had.bytes ∙ bytes) in
    by_more more.0 more.1 more.2
  where
    by_more : (more : List Vector) → batch ≡ had.done ++ more → rest ≡ batch_bytes more → ⊥
    by_more [] all left = absurd (let none_left : (length rest == 0) ≡ true = ap (λ bs. length bs == 0) left in cc)
    by_more (v ∷ vs) all left =
        let all_forms : All (IsInForm d) (had.done ++ v ∷ vs) = subst (All (IsInForm d)) all forms in
        none v (batch_bytes vs) (form_at d had.done v vs all_forms) left

-- the vector that is next isn't lawful
pub unadded : (d : Netlist) → length d.inputs < 2 ^ 32 → (payload : List ℕ) (before : List Vector) (rest : List ℕ) (after : List Vector) (v : Vector) (behind : List ℕ) →
    HasAdded d payload before rest after → IsInForm d v → rest ≡ vector_bytes v ++ behind → (IsLawful d (after ++ v ∷ []) → ⊥) → IsUnlawful d payload before
unadded d few payload before rest after v behind had form here refused batch bytes forms lawful =
    let next : HasAdded d payload before behind (after ++ v ∷ []) = added_more d payload before rest after (after ++ v ∷ []) v behind had form here refl in
    let more = begins d few next.done batch behind next.forms forms (sym next.bytes ∙ bytes) in
    let whole : before ++ batch ≡ (after ++ v ∷ []) ++ more.0 =
    ap (λ vs. before ++ vs) more.1 ∙ sym (append_assoc before next.done more.0) ∙ ap (λ vs. vs ++ more.0) (sym next.added) in
    refused (lawful_front d (after ++ v ∷ []) more.0 (subst (IsLawful d) whole lawful))
