-- A deck that holds the first vectors, and one batch more.
use Rattle.std.proofs.Common.{◌≡◌, ℕ, ◌<◌, ◌≤◌, ◌⊎◌, inl, inr, ◌+◌, ◌*◌, ◌^◌, arith, List, [], ◌∷◌, ◌++◌, length, take, drop, map, refl, sym, ap, ◌∙◌, subst, All, append_assoc, length-append, length-take, length-drop}
use Rattle.std.specs.Prelude.{true, min, Option, Some}
use Rattle.std.specs.List.Sorted.{IsStrictlyIncreasing}
use Rattle.std.proofs.lemmas.List.{append-nil, map-append, take-append-drop, take_at}
use Rattle.vod_deck.specs.Outcomes.{Outcome, View, From, Leaves}
use Rattle.vod_deck.proofs.Leaves.{leaves-wider, leaves-then}
use Rattle.vod_thin_design.specs.declared.thin.Vector.{Vector}
use Rattle.vod_thin_design.specs.Netlist.{Netlist}
use Rattle.vod_thin_design.specs.Vectors.{IsVector, IsLawful, assigned, times, known_since, last_time}
use Rattle.vod_log.specs.declared.header.Header.{Header}
use Rattle.vod_log.specs.declared.header.Counts.{Counts}
use Rattle.vod_log.specs.Format.{Entry, committed, follows}
use Rattle.vod_log.specs.Tail.{Continues, IsSettled, appended, frame_header}
use Rattle.vod_thin_code.specs.Bytes.{batch_bytes, record_bytes, IsInForm}
use Rattle.vod_thin_code.specs.Held.{counts, batch_header, ack, said, IsHeld, IsSound}
use Rattle.vod_thin_store.specs.Stored.{HasSaid, BeginsWith, first_batches, payloads_of, HoldsBatches, Adds, Commits, known_by, EndsWith, HasStored}
use Rattle.vod_thin_store.proofs.Vectors.{Rises, lawful-rises, last-of, last-more, last-within, known-front, All-front, All-back, lawful-front, in-form}
use Rattle.vod_thin_store.proofs.Said.{said-more}
use Rattle.vod_thin_store.proofs.Frames.{FrameLaws, Fits, header-of, frame-continues, batch-follows, batch-fits}
use Rattle.vod_thin_store.proofs.Held.{held-same, held-batch, payloads-more, first-more}

-- what is known of the vectors of a call
pub record IsScript (d : Netlist) (vs : List Vector) (known : Option ℕ) : Type 0 where
  pub lawful : IsLawful d vs
  pub rise : All (λ v. IsStrictlyIncreasing (assigned v.moves)) vs
  pub few : length vs < 4096
  pub known_is : known ≡ known_since d vs

-- vectors are a front, a batch behind it, and a rest
pub record IsCut (vs front batch : List Vector) : Type 0 where
  pub rest : List Vector
  pub whole : vs ≡ (front ++ batch) ++ rest
  pub some : 1 ≤ length batch
  pub few : length batch ≤ 64

-- the next vectors are a batch, where some are left
pub next-cut : (vs : List Vector) (k : ℕ) → k < length vs → IsCut vs (take k vs) (take 64 (drop k vs))
next-cut vs k lt = record {
  rest = drop 64 (drop k vs);
  whole = sym (append_assoc (take k vs) (take 64 (drop k vs)) (drop 64 (drop k vs)) ∙ ap (λ xs. take k vs ++ xs) (take-append-drop 64 (drop k vs)) ∙ take-append-drop k vs);
  some = omega (arith, length-take 64 (drop k vs), length-drop k vs);
  few = omega (arith, length-take 64 (drop k vs));
}

pub made-cut : (vs : List Vector) (k : ℕ) (batch : List Vector) → k < length vs → batch ≡ take 64 (drop k vs) → IsCut vs (take k vs) batch
made-cut vs k batch lt is = subst (λ xs. IsCut vs (take k vs) xs) (sym is) (next-cut vs k lt)

-- the vectors so far are whole batches, or all
pub next-batches : (vs : List Vector) (k n : ℕ) (batch : List Vector) → k ≡ min (64 * n) (length vs) → k < length vs → batch ≡ take 64 (drop k vs) →
    k + length batch ≡ min (64 * (n + 1)) (length vs)
next-batches vs k n batch at lt is = omega (arith, ap length is, length-take 64 (drop k vs), length-drop k vs)

-- the counts behind a batch, as they are written
abbrev pub written : ℕ → List Vector → ℕ → Option ℕ → Counts
written k batch last since = record { vectors = k + length batch; last = last; known = since }

module _ (d : Netlist) (vs : List Vector) (known : Option ℕ) (script : IsScript d vs known) (k : ℕ) (most : k ≤ length vs) (batch : List Vector) (cut : IsCut vs (take k vs) batch) where
  abbrev front : List Vector
  front = take k vs

  front-size : length front ≡ k
  front-size = omega (arith, length-take k vs)

  both-size : length (front ++ batch) ≡ k + length batch
  both-size = omega (arith, front-size, length-append front batch)

  pub more-within : k + length batch ≤ length vs
  more-within = omega (arith, both-size, ap length cut.whole, length-append (front ++ batch) cut.rest)

  pub take-more : take (k + length batch) vs ≡ front ++ batch
  take-more = ap (λ xs. take (k + length batch) xs) cut.whole ∙ take_at (front ++ batch) cut.rest (k + length batch) both-size

  whole : vs ≡ front ++ (batch ++ cut.rest)
  whole = cut.whole ∙ append_assoc front batch cut.rest

  both-lawful : IsLawful d (front ++ batch)
  both-lawful = lawful-front d (front ++ batch) cut.rest (subst (IsLawful d) cut.whole script.lawful)

  front-known : known_since d front ≡ known_by known (last_time front)
  front-known =
      known-front d [] 0 front (batch ++ cut.rest) (subst (Rises 0) whole (lawful-rises d vs script.lawful))
      ∙ ap (λ xs. known_by (known_since d xs) (last_time front)) (sym whole)
      ∙ ap (λ o. known_by o (last_time front)) (sym script.known_is)

  both-known : known_since d (front ++ batch) ≡ known_by known (last_time (front ++ batch))
  both-known =
      known-front d [] 0 (front ++ batch) cut.rest (subst (Rises 0) cut.whole (lawful-rises d vs script.lawful))
      ∙ ap (λ xs. known_by (known_since d xs) (last_time (front ++ batch))) (sym cut.whole)
      ∙ ap (λ o. known_by o (last_time (front ++ batch))) (sym script.known_is)

  pub batch-forms : All (IsInForm d) batch
  batch-forms =
      let all_rise : All (λ v. IsStrictlyIncreasing (assigned v.moves)) ((front ++ batch) ++ cut.rest) = subst (All (λ v. IsStrictlyIncreasing (assigned v.moves))) cut.whole script.rise in
      let times_are : All (λ t. (1 ≤ t) × (t < 2 ^ 63)) (times front ++ times batch) = subst (All (λ t. (1 ≤ t) × (t < 2 ^ 63))) (map-append (λ (v : Vector). v.time) front batch) both-lawful.within in
      in-form d batch (All-back (λ t. (1 ≤ t) × (t < 2 ^ 63)) (times front) (times batch) times_are) (All-back (IsVector d) front batch both-lawful.forms)
      (All-back (λ v. IsStrictlyIncreasing (assigned v.moves)) front batch (All-front (λ v. IsStrictlyIncreasing (assigned v.moves)) (front ++ batch) cut.rest all_rise))

  -- the counts that are written are those of the vectors so far
  pub counts-are : (last : ℕ) (since : Option ℕ) → last ≡ last_time batch → since ≡ known_by known last → written k batch last since ≡ counts d (front ++ batch)
  counts-are last since time is =
      let latest : last ≡ last_time (front ++ batch) = time ∙ sym (last-of front batch cut.some) in
      let then : since ≡ known_since d (front ++ batch) = is ∙ ap (λ t. known_by known t) latest ∙ sym both-known in
      ap (λ n. let a : Counts = record { vectors = n; last = last; known = since } in a) (sym both-size)
      ∙ ap (λ n. let a : Counts = record { vectors = length (front ++ batch); last = n; known = since } in a) latest
      ∙ ap (λ n. let a : Counts = record { vectors = length (front ++ batch); last = last_time (front ++ batch); known = n } in a) then

  abbrev pub header : Header
  header = batch_header (length front) batch (counts d (front ++ batch))

  abbrev pub frame : List ℕ
  frame = record_bytes header (batch_bytes batch)

  -- the frame of the batch
  pub frame-is : (after : Counts) (bytes : List ℕ) → after ≡ counts d (front ++ batch) → bytes ≡ record_bytes (batch_header k batch after) (batch_bytes batch) → bytes ≡ frame
  frame-is after bytes same is = is ∙ ap (λ n. record_bytes (batch_header n batch after) (batch_bytes batch)) (sym front-size) ∙ ap (λ a. record_bytes (batch_header (length front) batch a) (batch_bytes batch)) same

  last-within-both : last_time (front ++ batch) < 2 ^ 63
  last-within-both = last-within 0 (front ++ batch) (omega arith) both-lawful.within

  frame-fits : length (batch_bytes batch) ≤ 787200 → Fits header (batch_bytes batch)
  frame-fits short =
      batch-fits known (length front) batch (counts d (front ++ batch)) (omega (arith, both-size, front-size)) (omega (arith, both-size, more-within, script.few)) last-within-both both-known short

  pub goes-on : FrameLaws → (last : Option Header) → EndsWith d front last → length (batch_bytes batch) ≤ 787200 → Continues last frame
  goes-on laws last ends short =
      let after : ends.header.after ≡ length front = ap (λ c. c.vectors) ends.has_counts in
      let time : ends.header.last ≡ last_time front = ap (λ c. c.last) ends.has_counts in
      let since : ends.header.known ≡ known_by known ends.header.last = ap (λ c. c.known) ends.has_counts ∙ front-known ∙ ap (λ t. known_by known t) (sym time) in
      let later : last_time front < last_time (front ++ batch) = last-more front batch cut.some (lawful-rises d (front ++ batch) both-lawful) in
      let right : follows (Some ends.header) header ≡ true =
      batch-follows known ends.header header refl (sym after) (omega (arith, after, both-size, front-size, cut.some)) (omega (arith, after, both-size, front-size, cut.few)) (omega (arith, both-size, more-within, script.few))
      (omega (arith, time, later)) last-within-both since both-known short in
      subst (λ o. Continues o frame) (sym ends.is) (frame-continues laws (Some ends.header) header (batch_bytes batch) (frame-fits short) right)

  pub ends-more : FrameLaws → length (batch_bytes batch) ≤ 787200 → EndsWith d (take (k + length batch) vs) (Some (frame_header frame))
  ends-more laws short = subst (λ xs. EndsWith d xs (Some (frame_header frame))) (sym take-more) (record {
    header = header;
    is = ap (λ h. Some h) (header-of laws header (batch_bytes batch) (frame-fits short));
    has_counts = refl;
  })

  -- the batch is appended and acknowledged
  module _ (laws : FrameLaws) (source : List ℕ) (short : length (batch_bytes batch) ≤ 787200) (next : batch ≡ take 64 (drop k vs)) (lt : k < length vs) (entry old : View) (gate : ℕ) (last : Option Header)
      (stored : HasStored d source vs k entry old gate last) where
    abbrev pub line : List ℕ
    line = ack (length (front ++ batch)) (last_time (front ++ batch))

    whole-so-far : k ≡ 64 * stored.count
    whole-so-far = omega (arith, stored.reached)

    -- the payloads of the next batch too
    batches-more : (bytes : List ℕ) → committed bytes ≡ appended (committed old.bytes) gate frame → payloads_of bytes ≡ map batch_bytes (first_batches (stored.count + 1) vs)
    batches-more bytes same =
        let here : batch ≡ take 64 (drop (64 * stored.count) vs) = next ∙ ap (λ n. take 64 (drop n vs)) whole-so-far in
        payloads-more laws d source front batch old.bytes bytes gate stored.held (frame-fits short) same
        ∙ ap (λ ps. ps ++ batch_bytes batch ∷ []) stored.batches
        ∙ sym (map-append batch_bytes (first_batches stored.count vs) (batch ∷ []))
        ∙ ap (λ bs. map batch_bytes bs) (ap (λ b. first_batches stored.count vs ++ b ∷ []) here ∙ sym (first-more stored.count vs))

    said-is : said (front ++ batch) ≡ said front ++ line
    said-is = said-more stored.count front batch (front-size ∙ whole-so-far) cut.some cut.few ∙ ap (λ m. said front ++ ack m (last_time (front ++ batch))) (sym (length-append front batch))

    sound-front : (bytes : List ℕ) → committed bytes ≡ committed old.bytes → IsSound d source 4096 front bytes
    sound-front bytes same = record {
      held = held-same d source 4096 front old.bytes bytes same stored.held;
      lawful = lawful-front d front batch both-lawful;
      no_image = omega (arith, front-size, most, script.few);
    }

    both-held : (bytes : List ℕ) → committed bytes ≡ appended (committed old.bytes) gate frame → IsHeld d source 4096 (front ++ batch) bytes
    both-held bytes same = held-batch laws d source front batch old.bytes bytes gate stored.held (frame-fits short) cut.some cut.few batch-forms same

    sound-both : (bytes : List ℕ) → committed bytes ≡ appended (committed old.bytes) gate frame → IsSound d source 4096 (take (k + length batch) vs) bytes
    sound-both bytes same = subst (λ xs. IsSound d source 4096 xs bytes) (sym take-more) (record {
      held = both-held bytes same;
      lawful = both-lawful;
      no_image = omega (arith, both-size, more-within, script.few);
    })

    adds-front : (e o c : Outcome) → committed c.file ≡ committed old.bytes → o.said ≡ e.said ++ said front → c.said ≡ o.said → Adds d source vs e c
    adds-front e o c same before text =
        (k, record { most = most; sound = sound-front c.file same; batches = (stored.count, ap (λ r. map (λ (e : Entry). e.payload) (drop 1 r.entries)) same ∙ stored.batches); front = said front; text = text ∙ before; begins = ([], sym (append-nil (said front))) })

    adds-both : (e o c : Outcome) (more : List ℕ) → committed c.file ≡ appended (committed old.bytes) gate frame → o.said ≡ e.said ++ said front → c.said ≡ o.said ++ more → BeginsWith line more → Adds d source vs e c
    adds-both e o c more same before text begins = (
      k + length batch,
      record {
        most = more-within;
        sound = sound-both c.file same;
        batches = (stored.count + 1, batches-more c.file same);
        front = said front ++ more;
        text = text ∙ ap (λ xs. xs ++ more) before ∙ append_assoc e.said (said front) more;
        begins = (begins.0, ap (λ xs. said xs) take-more ∙ said-is ∙ ap (λ xs. said front ++ xs) begins.1 ∙ sym (append_assoc (said front) more begins.0));
      },
    )

    adds-step : (e o c : Outcome) → o.said ≡ e.said ++ said front → Commits (committed old.bytes) (appended (committed old.bytes) gate frame) line o c → Adds d source vs e c
    adds-step e o c before (inl either) = by_file either.file
      where
        by_file : (committed c.file ≡ committed old.bytes) ⊎ (committed c.file ≡ appended (committed old.bytes) gate frame) → Adds d source vs e c
        by_file (inl same) = adds-front e o c same before either.said
        by_file (inr same) = adds-both e o c [] same before (either.said ∙ sym (append-nil o.said)) (line, refl)
    adds-step e o c before (inr begun) = adds-both e o c (take begun.count line) begun.file before begun.front (drop begun.count line, sym (take-append-drop begun.count line))

    -- as the calls say it
    module _ (bytes text : List ℕ) (bytes-are : bytes ≡ frame) (text-is : text ≡ line) (new : View)
        (leaves : Leaves old new (From old.may_leave (Commits (committed old.bytes) (appended (committed old.bytes) gate bytes) text))) where
      leaves-same : Leaves old new (From old.may_leave (Commits (committed old.bytes) (appended (committed old.bytes) gate frame) line))
      leaves-same =
          subst (λ t. Leaves old new (From old.may_leave (Commits (committed old.bytes) (appended (committed old.bytes) gate frame) t))) text-is
          (subst (λ f. Leaves old new (From old.may_leave (Commits (committed old.bytes) (appended (committed old.bytes) gate f) text))) bytes-are leaves)

      pub crashes-more : Leaves entry new (From entry.may_leave (Adds d source vs))
      crashes-more =
          leaves-then entry old new (From entry.may_leave (Adds d source vs)) stored.crashes
          (leaves-wider old new (From old.may_leave (Commits (committed old.bytes) (appended (committed old.bytes) gate frame) line)) (From entry.may_leave (Adds d source vs)) leaves-same
          (λ c from.
          let before : From entry.may_leave (HasSaid (said front)) from.0 = stored.outcomes from.0 from.1 in
          (before.0, before.1, adds-step before.0 from.0 c before.2 from.2)))

      pub stored-more : (gate' : ℕ) (last' : Option Header) → committed new.bytes ≡ appended (committed old.bytes) gate bytes → IsSettled new gate' last' →
          ((c : Outcome) → new.may_leave c → From old.may_leave (HasSaid text) c) → HasStored d source vs (k + length batch) entry new gate' last'
      stored-more gate' last' same settled says = record {
        held = subst (λ xs. IsHeld d source 4096 xs new.bytes) (sym take-more) (both-held new.bytes (same ∙ ap (λ f. appended (committed old.bytes) gate f) bytes-are));
        count = stored.count + 1;
        reached = next-batches vs k stored.count batch stored.reached lt next;
        batches = batches-more new.bytes (same ∙ ap (λ f. appended (committed old.bytes) gate f) bytes-are);
        settled = settled;
        outcomes = λ c now.
            let from : From old.may_leave (HasSaid text) c = says c now in
            let before : From entry.may_leave (HasSaid (said front)) from.0 = stored.outcomes from.0 from.1 in (
              before.0,
              before.1,
              from.2 ∙ ap (λ xs. xs ++ text) before.2 ∙ append_assoc before.0.said (said front) text
                  ∙ ap (λ xs. before.0.said ++ xs) (ap (λ xs. said front ++ xs) text-is ∙ sym (ap (λ xs. said xs) take-more ∙ said-is)),
            );
        crashes = crashes-more;
      }
