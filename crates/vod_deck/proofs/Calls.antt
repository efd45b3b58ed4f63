-- What a call that did something adds to a deck in memory.
use Rattle.std.proofs.Common.{◌≡◌, ℕ, ◌≤◌, List, [], ◌∷◌, ◌++◌, length, take, refl, sym, ◌∙◌, ap, subst, arith, append_assoc, length-append}
use Rattle.std.specs.Prelude.{Bool, true, false}
use Rattle.std.proofs.lemmas.List.{take_all, append-nil}
use Rattle.vod_deck.specs.Outcomes.{Outcome, Writes, Stays, SaysAll, Says, From, Only, Elapses, IsLive}
use Rattle.vod_deck.specs.InMemory.{Piece, Event, Disk, IsDisk, IsMemory, IsOutcome, IsTorn, laid, after, run, fresh, events_of, stop_view}
use Rattle.vod_deck.specs.InMemory.Event.{Write, Sync, Give, Sure}
use Rattle.vod_deck.specs.declared.in_memory.Call.{Call}
use Rattle.vod_deck.specs.declared.in_memory.Call.TheVariants.{Wrote, Synced, Said}
use Rattle.vod_deck.proofs.Events.{events-more, total_wrote-last, total_said-last}
use Rattle.vod_deck.proofs.Elapses.{run-last, elapses-event, elapses-still, elapses-then}
use Rattle.vod_deck.proofs.Disks.{disk-held, disk-failed, disk-sync, disk-give, disk-sure, outcome-write, outcome-sync, only-sync, outcome-give, outcome-sure, outcome-said}

module _ (first bytes wrote texts : List ℕ) (calls : List Call) (sure : ℕ) (is : IsMemory first bytes wrote texts calls sure) where
  abbrev pub now : Disk
  now = run (fresh first) (events_of wrote texts calls)

  history-call : (more said : List ℕ) (call : Call) →
      events_of (wrote ++ more) (texts ++ said) (calls ++ call ∷ []) ≡ events_of wrote texts calls ++ events_of more said (call ∷ [])
  history-call more said call = events-more wrote texts more said calls (call ∷ []) is.all_wrote is.all_said

  pub history-write : (at : ℕ) (piece : List ℕ) (held : Bool) →
      events_of (wrote ++ piece) texts (calls ++ Wrote at (length piece) held ∷ []) ≡ events_of wrote texts calls ++ Write (record { at = at; bytes = piece }) held ∷ []
  history-write at piece held =
      let e : events_of (wrote ++ piece) (texts ++ []) (calls ++ Wrote at (length piece) held ∷ []) ≡ events_of wrote texts calls ++ Write (record { at = at; bytes = take (length piece) piece }) held ∷ [] =
      history-call piece [] (Wrote at (length piece) held) in
      let whole : take (length piece) piece ≡ piece = take_all (length piece) piece (omega arith) in
      ap (λ t. events_of (wrote ++ piece) t (calls ++ Wrote at (length piece) held ∷ [])) (sym (append-nil texts)) ∙ e
      ∙ ap (λ b. events_of wrote texts calls ++ Write (record { at = at; bytes = b }) held ∷ []) whole

  pub history-sync : events_of wrote texts (calls ++ Synced true ∷ []) ≡ events_of wrote texts calls ++ Sync ∷ []
  history-sync =
      ap (λ b. events_of b texts (calls ++ Synced true ∷ [])) (sym (append-nil wrote))
      ∙ ap (λ t. events_of (wrote ++ []) t (calls ++ Synced true ∷ [])) (sym (append-nil texts))
      ∙ history-call [] [] (Synced true)

  pub history-failed-sync : events_of wrote texts (calls ++ Synced false ∷ []) ≡ events_of wrote texts calls
  history-failed-sync =
      ap (λ b. events_of b texts (calls ++ Synced false ∷ [])) (sym (append-nil wrote))
      ∙ ap (λ t. events_of (wrote ++ []) t (calls ++ Synced false ∷ [])) (sym (append-nil texts))
      ∙ history-call [] [] (Synced false) ∙ append-nil (events_of wrote texts calls)

  pub history-say : (text : List ℕ) →
      events_of wrote (texts ++ text) (calls ++ Said (length text) true ∷ []) ≡ (events_of wrote texts calls ++ Give text ∷ []) ++ Sure ∷ []
  history-say text =
      let whole : take (length text) text ≡ text = take_all (length text) text (omega arith) in
      ap (λ b. events_of b (texts ++ text) (calls ++ Said (length text) true ∷ [])) (sym (append-nil wrote))
      ∙ history-call [] text (Said (length text) true)
      ∙ ap (λ t. events_of wrote texts calls ++ Give t ∷ Sure ∷ []) whole
      ∙ sym (append_assoc (events_of wrote texts calls) (Give text ∷ []) (Sure ∷ []))

  pub history-failed-say : (text : List ℕ) →
      events_of wrote (texts ++ text) (calls ++ Said (length text) false ∷ []) ≡ events_of wrote texts calls ++ Give text ∷ []
  history-failed-say text =
      let whole : take (length text) text ≡ text = take_all (length text) text (omega arith) in
      ap (λ b. events_of b (texts ++ text) (calls ++ Said (length text) false ∷ [])) (sym (append-nil wrote))
      ∙ history-call [] text (Said (length text) false)
      ∙ ap (λ t. events_of wrote texts calls ++ Give t ∷ []) whole

  -- the disk after one more event
  last-disk : (e : Event) (es : List Event) (b t : List ℕ) (s : ℕ) → es ≡ events_of wrote texts calls ++ e ∷ [] →
      IsDisk (after now e) b t s → IsDisk (run (fresh first) es) b t s
  last-disk e es b t s same disk =
      let P : Disk → Type 0 = λ d. IsDisk d b t s in
      let at_end : run (fresh first) es ≡ after now e = ap (λ x. run (fresh first) x) same ∙ run-last (fresh first) (events_of wrote texts calls) e in
      subst P (sym at_end) disk

  pub memory-write : (at : ℕ) (piece : List ℕ) → at ≤ length bytes →
      IsMemory first (laid at piece bytes) (wrote ++ piece) texts (calls ++ Wrote at (length piece) true ∷ []) sure
  memory-write at piece le = record {
    all_wrote = omega (arith, total_wrote-last calls (Wrote at (length piece) true), is.all_wrote, length-append wrote piece);
    all_said = omega (arith, total_said-last calls (Wrote at (length piece) true), is.all_said);
    disk = last-disk (Write (record { at = at; bytes = piece }) true) (events_of (wrote ++ piece) texts (calls ++ Wrote at (length piece) true ∷ [])) (laid at piece bytes) texts sure
        (history-write at piece true) (disk-held now bytes texts sure (record { at = at; bytes = piece }) is.disk le);
  }

  pub memory-failed-write : (at : ℕ) (piece : List ℕ) → at ≤ length bytes →
      IsMemory first bytes (wrote ++ piece) texts (calls ++ Wrote at (length piece) false ∷ []) sure
  memory-failed-write at piece le = record {
    all_wrote = omega (arith, total_wrote-last calls (Wrote at (length piece) false), is.all_wrote, length-append wrote piece);
    all_said = omega (arith, total_said-last calls (Wrote at (length piece) false), is.all_said);
    disk = last-disk (Write (record { at = at; bytes = piece }) false) (events_of (wrote ++ piece) texts (calls ++ Wrote at (length piece) false ∷ [])) bytes texts sure
        (history-write at piece false) (disk-failed now bytes texts sure (record { at = at; bytes = piece }) is.disk le);
  }

  pub memory-sync : IsMemory first bytes wrote texts (calls ++ Synced true ∷ []) sure
  memory-sync = record {
    all_wrote = omega (arith, total_wrote-last calls (Synced true), is.all_wrote);
    all_said = omega (arith, total_said-last calls (Synced true), is.all_said);
    disk = last-disk Sync (events_of wrote texts (calls ++ Synced true ∷ [])) bytes texts sure history-sync (disk-sync now bytes texts sure is.disk);
  }

  pub memory-failed-sync : IsMemory first bytes wrote texts (calls ++ Synced false ∷ []) sure
  memory-failed-sync = record {
    all_wrote = omega (arith, total_wrote-last calls (Synced false), is.all_wrote);
    all_said = omega (arith, total_said-last calls (Synced false), is.all_said);
    disk =
        let P : List Event → Type 0 = λ es. IsDisk (run (fresh first) es) bytes texts sure in
        subst P (sym history-failed-sync) is.disk;
  }

  pub memory-say : (text : List ℕ) → IsMemory first bytes wrote (texts ++ text) (calls ++ Said (length text) true ∷ []) (length (texts ++ text))
  memory-say text = record {
    all_wrote = omega (arith, total_wrote-last calls (Said (length text) true), is.all_wrote);
    all_said = omega (arith, total_said-last calls (Said (length text) true), is.all_said, length-append texts text);
    disk =
        let P : Disk → Type 0 = λ d. IsDisk d bytes (texts ++ text) (length (texts ++ text)) in
        let at_end : run (fresh first) (events_of wrote (texts ++ text) (calls ++ Said (length text) true ∷ [])) ≡ after (after now (Give text)) Sure =
        ap (λ x. run (fresh first) x) (history-say text) ∙ run-last (fresh first) (events_of wrote texts calls ++ Give text ∷ []) Sure
        ∙ ap (λ d. after d Sure) (run-last (fresh first) (events_of wrote texts calls) (Give text)) in
        subst P (sym at_end) (disk-sure (after now (Give text)) bytes (texts ++ text) sure (disk-give now bytes texts sure text is.disk));
  }

  pub memory-failed-say : (text : List ℕ) → IsMemory first bytes wrote (texts ++ text) (calls ++ Said (length text) false ∷ []) sure
  memory-failed-say text = record {
    all_wrote = omega (arith, total_wrote-last calls (Said (length text) false), is.all_wrote);
    all_said = omega (arith, total_said-last calls (Said (length text) false), is.all_said, length-append texts text);
    disk = last-disk (Give text) (events_of wrote (texts ++ text) (calls ++ Said (length text) false ∷ [])) bytes (texts ++ text) sure
        (history-failed-say text) (disk-give now bytes texts sure text is.disk);
  }

  module _ (b b' : List ℕ) (f f' r r' : ℕ) where
    pub elapses-write : (at : ℕ) (piece : List ℕ) (held : Bool) →
        Elapses (stop_view first (events_of wrote texts calls) b f r)
        (stop_view first (events_of (wrote ++ piece) texts (calls ++ Wrote at (length piece) held ∷ [])) b' f' r') (Writes at (length piece))
    elapses-write at piece held =
        let w : Piece = record { at = at; bytes = piece } in
        let P : List Event → Type 0 = λ es. Elapses (stop_view first (events_of wrote texts calls) b f r) (stop_view first es b' f' r') (Writes at (length piece)) in
        subst P (sym (history-write at piece held))
        (elapses-event first (events_of wrote texts calls) (Write w held) b b' f f' r r' (Writes at (length piece)) (λ c left. outcome-write now w held c left))

    pub elapses-sync : Elapses (stop_view first (events_of wrote texts calls) b f r)
        (stop_view first (events_of wrote texts (calls ++ Synced true ∷ [])) b' f' r') Stays
    elapses-sync =
        let P : List Event → Type 0 = λ es. Elapses (stop_view first (events_of wrote texts calls) b f r) (stop_view first es b' f' r') Stays in
        subst P (sym history-sync)
        (elapses-event first (events_of wrote texts calls) Sync b b' f f' r r' Stays (λ c left. outcome-sync now bytes texts sure is.disk c left))

    pub elapses-failed-sync : Elapses (stop_view first (events_of wrote texts calls) b f r)
        (stop_view first (events_of wrote texts (calls ++ Synced false ∷ [])) b' f' r') Stays
    elapses-failed-sync =
        let P : List Event → Type 0 = λ es. Elapses (stop_view first (events_of wrote texts calls) b f r) (stop_view first es b' f' r') Stays in
        subst P (sym history-failed-sync) (elapses-still first (events_of wrote texts calls) b b' f f' r r' Stays (λ c. refl))

    pub elapses-failed-say : (text : List ℕ) → Elapses (stop_view first (events_of wrote texts calls) b f r)
        (stop_view first (events_of wrote (texts ++ text) (calls ++ Said (length text) false ∷ [])) b' f' r') (Says (IsOutcome now) text)
    elapses-failed-say text =
        let P : List Event → Type 0 = λ es. Elapses (stop_view first (events_of wrote texts calls) b f r) (stop_view first es b' f' r') (Says (IsOutcome now) text) in
        subst P (sym (history-failed-say text))
        (elapses-event first (events_of wrote texts calls) (Give text) b b' f f' r r' (Says (IsOutcome now) text) (λ c left. outcome-give now text is.disk.within c left))

    pub elapses-say : (text : List ℕ) → Elapses (stop_view first (events_of wrote texts calls) b f r)
        (stop_view first (events_of wrote (texts ++ text) (calls ++ Said (length text) true ∷ [])) b' f' r') (Says (IsOutcome now) text)
    elapses-say text =
        let P : List Event → Type 0 = λ es. Elapses (stop_view first (events_of wrote texts calls) b f r) (stop_view first es b' f' r') (Says (IsOutcome now) text) in
        let mid : List Event = events_of wrote texts calls ++ Give text ∷ [] in
        let given : Disk = after now (Give text) in
        let sure_last : (c : Outcome) → IsOutcome (after (run (fresh first) mid) Sure) c → From (IsOutcome (run (fresh first) mid)) Stays c =
        λ c left.
        let Q : Disk → Type 0 = λ d. IsOutcome (after d Sure) c → From (IsOutcome d) Stays c in
        subst Q (sym (run-last (fresh first) (events_of wrote texts calls) (Give text)))
        (outcome-sure given (disk-give now bytes texts sure text is.disk).within c) left in
        subst P (sym (history-say text))
        (elapses-then (stop_view first (events_of wrote texts calls) b f r) (stop_view first mid b f r) (stop_view first (mid ++ Sure ∷ []) b' f' r') (Says (IsOutcome now) text)
        (elapses-event first (events_of wrote texts calls) (Give text) b b f f r r (Says (IsOutcome now) text) (λ c left. outcome-give now text is.disk.within c left))
        (elapses-event first mid Sure b b' f f' r r' Stays sure_last))

  pub lasts-sync : Only bytes (IsOutcome (run (fresh first) (events_of wrote texts (calls ++ Synced true ∷ []))))
  lasts-sync =
      let P : Disk → Type 0 = λ d. Only bytes (IsOutcome d) in
      let at_end : run (fresh first) (events_of wrote texts (calls ++ Synced true ∷ [])) ≡ after now Sync =
      ap (λ x. run (fresh first) x) history-sync ∙ run-last (fresh first) (events_of wrote texts calls) Sync in
      subst P (sym at_end) (only-sync now bytes texts sure is.disk)

  pub whole-say : (text : List ℕ) (c : Outcome) →
      IsOutcome (run (fresh first) (events_of wrote (texts ++ text) (calls ++ Said (length text) true ∷ []))) c → From (IsOutcome now) (SaysAll (IsOutcome now) text) c
  whole-say text c left =
      let Q : Disk → Type 0 = λ d. IsOutcome d c in
      let at_end : run (fresh first) (events_of wrote (texts ++ text) (calls ++ Said (length text) true ∷ [])) ≡ after (after now (Give text)) Sure =
      ap (λ x. run (fresh first) x) (history-say text) ∙ run-last (fresh first) (events_of wrote texts calls ++ Give text ∷ []) Sure
      ∙ ap (λ d. after d Sure) (run-last (fresh first) (events_of wrote texts calls) (Give text)) in
      outcome-said now text is.disk.within c (subst Q at_end left)

  -- the file as a read gives it is one of the outcomes, with all the text
  pub live-memory : (faults bytes_read : ℕ) → IsLive (stop_view first (events_of wrote texts calls) bytes faults bytes_read)
  live-memory faults bytes_read =
      let P : List ℕ → Type 0 = λ f. IsTorn now.writes now.file f in
      let all : now.given ≡ take (length now.given) now.given = sym (take_all (length now.given) now.given (omega arith)) in
      (now.given, record { file = subst P (sym is.disk.reads) is.disk.torn; said = (length now.given, is.disk.within, all) })
