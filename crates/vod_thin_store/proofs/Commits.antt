-- What is left where a record is appended, and then a text is said.
use Rattle.std.proofs.Common.{◌≡◌, ℕ, ◌⊎◌, inl, inr, arith, List, ◌++◌, take, refl, ap, ◌∙◌}
use Rattle.vod_deck.specs.Outcomes.{Outcome, View, From, Only, Says, SaysAll, IsSaid, Elapses, Leaves}
use Rattle.vod_deck.proofs.Leaves.{leaves-wider, leaves-call}
use Rattle.vod_log.specs.Format.{Reading, committed}
use Rattle.vod_log.specs.Tail.{HoldsEither}
use Rattle.vod_thin_store.specs.Stored.{HasSaid, Commits}

-- an outcome of now is one of before, or was left since
pub left-now : (old new : View) (P : Outcome → Type 0) → Leaves old new P → ((c : Outcome) → old.left_since old.moment c → old.may_leave c) →
    ((c : Outcome) → new.may_leave c → new.left_since old.moment c) → (c : Outcome) → new.may_leave c → old.may_leave c ⊎ P c
left-now old new P leaves only counts c now =
    elim (leaves.nothing_else old.moment c (omega arith) (counts c now)) [
      | inl since ↦ inl (only c since)
      | inr here ↦ inr here
    ]

-- an outcome has the text of one of before
pub record HasTextOf (outcomes : Outcome → Type 0) (c : Outcome) : Type 0 where
  pub origin : Outcome
  pub was : outcomes origin
  pub text : c.said ≡ origin.said

pub text-of : (old new : View) (one two : Reading) → Leaves old new (From old.may_leave (HoldsEither one two)) → ((c : Outcome) → old.left_since old.moment c → old.may_leave c) →
    ((c : Outcome) → new.may_leave c → new.left_since old.moment c) → (c : Outcome) → new.may_leave c → HasTextOf old.may_leave c
text-of old new one two leaves only counts c now =
    elim (left-now old new (From old.may_leave (HoldsEither one two)) leaves only counts c now) [
      | inl was ↦ record { origin = c; was = was; text = refl }
      | inr from ↦ record { origin = from.0; was = from.1; text = from.2.said }
    ]

module _ (old mid new : View) (text : List ℕ) (texts : (c : Outcome) → mid.may_leave c → HasTextOf old.may_leave c) where
  pub commits-said : IsSaid mid new text → (c : Outcome) → new.may_leave c → From old.may_leave (HasSaid text) c
  commits-said said c now =
      let from : From mid.may_leave (SaysAll mid.may_leave text) c = said c now in
      let before : HasTextOf old.may_leave from.0 = texts from.0 from.1 in
      (before.origin, before.was, from.2.said ∙ ap (λ xs. xs ++ text) before.text)

  pub commits-crashes : (one two : Reading) → Leaves old mid (From old.may_leave (HoldsEither one two)) → committed mid.bytes ≡ two → Only mid.bytes mid.may_leave →
      Elapses mid new (Says mid.may_leave text) → Leaves old new (From old.may_leave (Commits one two text))
  commits-crashes one two leaves held lasts time =
      leaves-call old mid new (From old.may_leave (Commits one two text)) (Says mid.may_leave text)
      (leaves-wider old mid (From old.may_leave (HoldsEither one two)) (From old.may_leave (Commits one two text)) leaves (λ c from. (from.0, from.1, inl from.2))) time
      (λ c from.
      let m : Outcome = from.0 in
      let before : HasTextOf old.may_leave m = texts m from.1 in
      let file : committed m.file ≡ two = ap committed (lasts m from.1) ∙ held in
      (before.origin, before.was, step m c before.origin file before.text from.2))
    where
      step : (m c e : Outcome) → committed m.file ≡ two → m.said ≡ e.said → Says mid.may_leave text m c → Commits one two text e c
      step m c e file same (inl is) = inl (record { file = inr (ap (λ o. committed o.file) is ∙ file); said = ap (λ o. o.said) is ∙ same })
      step m c e file same (inr (k, all)) = inr (record { file = ap committed all.file ∙ file; count = k; front = all.said ∙ ap (λ xs. xs ++ take k text) same })
