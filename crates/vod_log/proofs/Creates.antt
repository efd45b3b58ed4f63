-- What a crash may leave while a log is opened for appending.
use Rattle.std.proofs.Common.{◌≡◌, ℕ, ◌≤◌, ◌<◌, inl, inr, List, [], ◌∷◌, length, get_or, refl, sym, ◌∙◌, ap, subst, arith}
use Rattle.std.specs.Prelude.{true, false, nat_le, None, if◌then◌else◌}
use Rattle.std.proofs.lemmas.List.{get_or_default, drop_all}
use Rattle.std.proofs.lemmas.Bool.Decides.{nat_tests}
use Rattle.vod_deck.specs.Outcomes.{View, Holds, Writes, Stays, From, Only, Elapses, SameOutcomes, Leaves}
use Rattle.vod_deck.proofs.Leaves.{leaves-none, leaves-call, leaves-same}
use Rattle.vod_log.specs.Format.{reading, committed}
use Rattle.vod_log.specs.Opened.{LogView, IsLogOf}
use Rattle.vod_log.specs.Tail.{EndsAt, IsSettled, IsUnchanged, Opens}
use Rattle.vod_log.proofs.Readings.{Ends, ends}

module _ (old mid : View) (first : Elapses old mid Stays) where
  -- the file is made to last
  pub opens-sync : Leaves old mid (From old.may_leave (Opens old.bytes))
  opens-sync =
      leaves-call old old mid (From old.may_leave (Opens old.bytes)) Stays (leaves-none old (From old.may_leave (Opens old.bytes))) first
      (λ c from. (from.0, from.1, record { file = inl (ap (λ o. o.file) from.2); said = ap (λ o. o.said) from.2 }))

  -- and its length or its records are read
  pub opens-same : (new : View) → SameOutcomes mid new → Leaves old new (From old.may_leave (Opens old.bytes))
  opens-same new same = leaves-same old mid new (From old.may_leave (Opens old.bytes)) opens-sync same

  -- or a closed gate is written
  pub opens-write : (same new : View) → SameOutcomes mid same → Only old.bytes mid.may_leave → length old.bytes ≤ 1 → Elapses same new (Writes 0 1) →
      Leaves old new (From old.may_leave (Opens old.bytes))
  opens-write same new unmoved lasts short second =
      leaves-call old same new (From old.may_leave (Opens old.bytes)) (Writes 0 1) (opens-same same unmoved) second
      (λ c from.
      let here : mid.may_leave from.0 = unmoved.may_leave from.0 from.1 in
      let before : From old.may_leave Stays from.0 = first.outcomes from.0 here in
      let one : length from.0.file ≤ 1 = omega (arith, ap length (lasts from.0 here)) in
      let zero_one : length before.0.file ≤ 1 = omega (arith, one, ap (λ o. length o.file) before.2) in (
        before.0,
        before.1,
        record { file = inr (short, zero_one, omega (arith, from.2.file.no_longer, one)); said = from.2.said ∙ ap (λ o. o.said) before.2 },
      ))

pub more-than-one : (n : ℕ) → nat_le n 1 ≡ false → 1 < n
more-than-one n e = grind (arith, nat_tests)

-- a log of more than one byte ends at a closed gate
pub opened-ends : (bytes : List ℕ) (log : LogView) → 1 < length bytes → IsLogOf (committed bytes) log → EndsAt bytes log.gate log.last
opened-ends bytes log long is =
    let t : nat_le (length bytes) 1 ≡ false = grind (arith, nat_tests) in
    let whole : committed bytes ≡ reading None 0 0 bytes = ap (λ x. if x then record { entries = []; gate = 0; last = None; framed = true } else reading None 0 0 bytes) t in
    let r : Ends 0 0 bytes (reading None 0 0 bytes).gate = ends bytes None 0 0 (ap (λ x. x.framed) (sym whole) ∙ is.framed) in
    let gate : log.gate ≡ r.k = is.gate_is ∙ ap (λ x. x.gate) whole ∙ r.gate_is ∙ omega arith in
    let closed : get_or bytes r.k 0 ≡ 0 = get_or_default bytes r.k 0 1 r.inside ∙ r.closed in
    record {
      framed = is.framed;
      gate_is = sym is.gate_is;
      last_is = sym is.last_is;
      inside = omega (arith, gate, r.inside);
      closed = ap (λ k. get_or bytes k 0) gate ∙ closed;
    }

pub opened-settled : (old mid same new : View) (log : LogView) → 1 < length old.bytes → Only old.bytes mid.may_leave → mid.bytes ≡ old.bytes → SameOutcomes mid same → same.bytes ≡ mid.bytes → IsUnchanged same new →
    IsLogOf (committed same.bytes) log → IsSettled new log.gate log.last
opened-settled old mid same new log long lasts bytes unmoved still later is =
    let e : new.bytes ≡ old.bytes = later.bytes ∙ still ∙ bytes in
    let P : List ℕ → Type 0 = λ b. IsLogOf (committed b) log in
    record {
      ends = opened-ends new.bytes log (omega (arith, long, ap length e)) (subst P (sym later.bytes) is);
      lasts = λ c now. lasts c (unmoved.may_leave c (later.outcomes.may_leave c now)) ∙ sym e;
    }

-- a created log is one closed gate
pub created-bytes : (old new : List ℕ) → length old ≤ 1 → Holds old 0 (0 ∷ []) new → new ≡ 0 ∷ []
created-bytes old new short held =
    held ∙ ap (λ xs. 0 ∷ xs) (drop_all 1 old short)

pub created-log : (bytes : List ℕ) → bytes ≡ 0 ∷ [] → IsLogOf (committed bytes) (record { records = []; gate = 0; last = None })
created-log bytes e =
    let P : List ℕ → Type 0 = λ b. IsLogOf (committed b) (record { records = []; gate = 0; last = None }) in
    subst P (sym e) (record { framed = refl; records = refl; gate_is = refl; last_is = refl })

pub created-ends : (bytes : List ℕ) → bytes ≡ 0 ∷ [] → EndsAt bytes 0 None
created-ends bytes e =
    let P : List ℕ → Type 0 = λ b. EndsAt b 0 None in
    subst P (sym e) (record { framed = refl; gate_is = refl; last_is = refl; inside = omega arith; closed = refl })
