-- What one event does to a disk and to its outcomes.
use Rattle.std.proofs.Common.{◌≡◌, ℕ, zero, suc, ◌-◌, ◌≤◌, inl, inr, List, [], ◌∷◌, ◌++◌, length, take, refl, sym, ◌∙◌, ap, subst, arith, length-append}
use Rattle.std.specs.Prelude.{Bool, true, false}
use Rattle.std.proofs.lemmas.List.{take_all, take-append-le}
use Rattle.std.proofs.lemmas.Bool.{cases_lt}
use Rattle.vod_deck.specs.Outcomes.{Outcome, Writes, Stays, IsLongest, SaysAll, Says, From, Only}
use Rattle.vod_deck.specs.InMemory.{Piece, Disk, IsDisk, IsOutcome, IsFront, IsTorn, laid, after}
use Rattle.vod_deck.specs.InMemory.Event.{Write, Sync, Give, Sure}
use Rattle.vod_deck.proofs.Files.{torn-same, torn-laid, length-laid}

pub disk-held : (d : Disk) (bytes texts : List ℕ) (sure : ℕ) (w : Piece) → IsDisk d bytes texts sure → w.at ≤ length bytes →
    IsDisk (after d (Write w true)) (laid w.at w.bytes bytes) texts sure
disk-held d bytes texts sure w is le =
    let low : w.at ≤ length d.reads = omega (arith, ap length is.reads) in
    record {
      reads = ap (λ f. laid w.at w.bytes f) is.reads;
      given = is.given;
      sure_is = is.sure_is;
      within = is.within;
      joined = (omega (arith, is.reaches), is.joined);
      reaches = omega (arith, is.reaches, length-laid w.at w.bytes d.reads);
      torn = (d.reads, is.torn, torn-laid w.at w.bytes d.reads low);
    }

pub disk-failed : (d : Disk) (bytes texts : List ℕ) (sure : ℕ) (w : Piece) → IsDisk d bytes texts sure → w.at ≤ length bytes →
    IsDisk (after d (Write w false)) bytes texts sure
disk-failed d bytes texts sure w is le =
    let low : w.at ≤ length d.reads = omega (arith, ap length is.reads) in
    record {
      reads = is.reads;
      given = is.given;
      sure_is = is.sure_is;
      within = is.within;
      joined = (omega (arith, is.reaches), is.joined);
      reaches = omega (arith, is.reaches);
      torn = (d.reads, is.torn, torn-same w.at (length w.bytes) d.reads);
    }

pub disk-sync : (d : Disk) (bytes texts : List ℕ) (sure : ℕ) → IsDisk d bytes texts sure → IsDisk (after d Sync) bytes texts sure
disk-sync d bytes texts sure is = record {
  reads = is.reads;
  given = is.given;
  sure_is = is.sure_is;
  within = is.within;
  joined = tt;
  reaches = omega arith;
  torn = refl;
}

pub disk-give : (d : Disk) (bytes texts : List ℕ) (sure : ℕ) (text : List ℕ) → IsDisk d bytes texts sure →
    IsDisk (after d (Give text)) bytes (texts ++ text) sure
disk-give d bytes texts sure text is = record {
  reads = is.reads;
  given = ap (λ t. t ++ text) is.given;
  sure_is = is.sure_is;
  within = omega (arith, is.within, length-append d.given text);
  joined = is.joined;
  reaches = is.reaches;
  torn = is.torn;
}

pub disk-sure : (d : Disk) (bytes texts : List ℕ) (sure : ℕ) → IsDisk d bytes texts sure → IsDisk (after d Sure) bytes texts (length texts)
disk-sure d bytes texts sure is = record {
  reads = is.reads;
  given = is.given;
  sure_is = ap length is.given;
  within = omega arith;
  joined = is.joined;
  reaches = is.reaches;
  torn = is.torn;
}

pub outcome-write : (d : Disk) (w : Piece) (held : Bool) (c : Outcome) → IsOutcome (after d (Write w held)) c →
    From (IsOutcome d) (Writes w.at (length w.bytes)) c
outcome-write d w held c now =
    let before : Outcome = record { file = now.file.0; said = c.said } in
    (before, record { file = now.file.1; said = now.said }, record { file = now.file.2; said = refl })

pub outcome-sync : (d : Disk) (bytes texts : List ℕ) (sure : ℕ) → IsDisk d bytes texts sure → (c : Outcome) → IsOutcome (after d Sync) c →
    From (IsOutcome d) Stays c
outcome-sync d bytes texts sure is c now =
    let P : List ℕ → Type 0 = λ f. IsTorn d.writes d.file f in
    (c, record { file = subst P (sym now.file) is.torn; said = now.said }, refl)

pub only-sync : (d : Disk) (bytes texts : List ℕ) (sure : ℕ) → IsDisk d bytes texts sure → Only bytes (IsOutcome (after d Sync))
only-sync d bytes texts sure is c now = now.file ∙ sym is.reads

-- all text so far is an outcome's text, and none is longer
all-given : (d : Disk) → d.sure ≤ length d.given → (c : Outcome) → IsTorn d.writes d.file c.file →
    IsOutcome d (record { file = c.file; said = d.given })
all-given d within c torn = record { file = torn; said = (length d.given, within, sym (take_all (length d.given) d.given (omega arith))) }

given-longest : (d : Disk) (c : Outcome) → IsLongest (IsOutcome d) (record { file = c.file; said = d.given })
given-longest d c e now = (now.said.0, now.said.2)

take-past : (n : ℕ) (a b : List ℕ) → length a ≤ n → take n (a ++ b) ≡ a ++ take (n - length a) b
take-past n [] b le = ap (λ m. take m b) (omega arith)
take-past zero (x ∷ a) b le = absurd (omega arith)
take-past (suc n) (x ∷ a) b le =
    let same : suc n - length (x ∷ a) ≡ n - length a = omega arith in
    rw same (ap (λ l. x ∷ l) (take-past n a b (omega arith)))

pub outcome-give : (d : Disk) (text : List ℕ) → d.sure ≤ length d.given → (c : Outcome) → IsOutcome (after d (Give text)) c →
    From (IsOutcome d) (Says (IsOutcome d) text) c
outcome-give d text within c now =
    let front : IsFront (after d (Give text)) c.said = now.said in
    elim (cases_lt (length d.given) front.0) [
      | inl past ↦ (
        record { file = c.file; said = d.given },
        all-given d within c now.file,
        inr (front.0 - length d.given, record { file = refl; said = front.2 ∙ take-past front.0 d.given text (omega arith); longest = given-longest d c }),
      )
      | inr inside ↦
          (c, record { file = now.file; said = (front.0, front.1, front.2 ∙ take-append-le front.0 d.given text inside) }, inl refl)
    ]

pub outcome-sure : (d : Disk) → d.sure ≤ length d.given → (c : Outcome) → IsOutcome (after d Sure) c → From (IsOutcome d) Stays c
outcome-sure d within c now =
    let front : IsFront (after d Sure) c.said = now.said in
    (c, record { file = now.file; said = (front.0, omega (arith, within, front.1), front.2) }, refl)

pub outcome-said : (d : Disk) (text : List ℕ) → d.sure ≤ length d.given → (c : Outcome) → IsOutcome (after (after d (Give text)) Sure) c →
    From (IsOutcome d) (SaysAll (IsOutcome d) text) c
outcome-said d text within c now =
    let front : IsFront (after (after d (Give text)) Sure) c.said = now.said in (
      record { file = c.file; said = d.given },
      all-given d within c now.file,
      record { file = refl; said = front.2 ∙ take_all front.0 (d.given ++ text) front.1; longest = given-longest d c },
    )
