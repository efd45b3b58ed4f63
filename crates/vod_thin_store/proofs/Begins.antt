-- A head is appended to an empty log, and batches behind it.
use Rattle.std.proofs.Common.{◌≡◌, ℕ, ◌≤◌, ◌⊎◌, inl, inr, ◌^◌, arith, List, [], ◌++◌, length, refl, sym, ap, ◌∙◌, subst}
use Rattle.std.specs.Prelude.{Option, None, Some}
use Rattle.std.proofs.lemmas.List.{append-nil}
use Rattle.vod_deck.specs.Outcomes.{Outcome, View, From, Leaves}
use Rattle.vod_deck.proofs.Leaves.{leaves-none, leaves-wider, leaves-then}
use Rattle.vod_thin_design.specs.declared.thin.Vector.{Vector}
use Rattle.vod_thin_design.specs.Netlist.{Netlist}
use Rattle.vod_thin_design.specs.Vectors.{IsLawful}
use Rattle.vod_log.specs.declared.header.Header.{Header}
use Rattle.vod_log.specs.Format.{committed, follows}
use Rattle.vod_log.specs.Tail.{Continues, IsSettled, HoldsEither, appended, frame_header}
use Rattle.vod_thin_code.specs.Bytes.{head_bytes, record_bytes}
use Rattle.vod_thin_code.specs.Held.{head_header, IsHeld}
use Rattle.vod_thin_store.specs.Stored.{HasSaid, HoldsFirst, Adds, Records, EndsWith}
use Rattle.vod_thin_store.proofs.Commits.{HasTextOf}
use Rattle.vod_thin_store.proofs.Frames.{FrameLaws, Fits, header-of, frame-continues, head-fits, head-follows, head-first}
use Rattle.vod_thin_store.proofs.Held.{held-head, payloads-none}
use Rattle.vod_thin_store.proofs.Vectors.{lawful-front}

-- the frame of the head
module _ (laws : FrameLaws) (source : List ℕ) (short : length source ≤ 2 ^ 20) (bytes : List ℕ) (bytes-are : bytes ≡ record_bytes (head_header source) (head_bytes 4096 source)) where
  fits : Fits (head_header source) (head_bytes 4096 source)
  fits = head-fits source short (head_bytes 4096 source) (omega arith)

  header-is : frame_header bytes ≡ head_header source
  header-is = ap (λ f. frame_header f) bytes-are ∙ header-of laws (head_header source) (head_bytes 4096 source) fits

  pub head-goes-on : Continues None bytes
  head-goes-on = subst (λ f. Continues None f) (sym bytes-are) (frame-continues laws None (head_header source) (head_bytes 4096 source) fits (head-follows source short))

  pub head-none : (last : Option Header) → Continues last bytes → last ≡ None
  head-none last goes_on = head-first source last (ap (λ h. follows last h) (sym header-is) ∙ goes_on.right)

  pub head-ends : (d : Netlist) (last : Option Header) → last ≡ Some (frame_header bytes) → EndsWith d [] last
  head-ends d last is = record { header = head_header source; is = is ∙ ap (λ h. Some h) header-is; has_counts = refl }

  module _ (d : Netlist) (vs : List Vector) (lawful : IsLawful d vs) (old : View) (gate : ℕ) (last : Option Header) (settled : IsSettled old gate last) where
    pub head-held : (c : List ℕ) → Continues last bytes → committed c ≡ appended (committed old.bytes) gate bytes → IsHeld d source 4096 [] c
    head-held c goes_on same = held-head laws d source old.bytes c gate fits (settled.ends.last_is ∙ head-none last goes_on) (same ∙ ap (λ f. appended (committed old.bytes) gate f) bytes-are)

    begun : (e c : Outcome) → IsHeld d source 4096 [] c.file → c.said ≡ e.said → Adds d source vs e c
    begun e c held text = (
      0,
      record {
        most = omega arith;
        sound = record { held = held; lawful = lawful-front d [] vs lawful; no_image = omega arith };
        batches = (0, payloads-none d source c.file held);
        front = [];
        text = text ∙ sym (append-nil e.said);
        begins = ([], refl);
      },
    )

    pub head-crashes : (new : View) → (Continues last bytes → Leaves old new (From old.may_leave (HoldsEither (committed old.bytes) (appended (committed old.bytes) gate bytes)))) →
        ((Continues last bytes → ⊥) → new ≡ old) → Leaves old new (From old.may_leave (Records d source vs))
    head-crashes new appends stays = by_last last refl
      where
        step : Continues last bytes → (e c : Outcome) → e.file ≡ old.bytes → HoldsEither (committed old.bytes) (appended (committed old.bytes) gate bytes) e c → Records d source vs e c
        step goes_on e c file either = by_file either.file
          where
            by_file : (committed c.file ≡ committed old.bytes) ⊎ (committed c.file ≡ appended (committed old.bytes) gate bytes) → Records d source vs e c
            by_file (inl same) = inl (record { file = same ∙ ap (λ f. committed f) (sym file); text = either.said })
            by_file (inr same) = inr (begun e c (head-held c.file goes_on same) either.said)

        by_last : (o : Option Header) → last ≡ o → Leaves old new (From old.may_leave (Records d source vs))
        by_last None is =
            (let goes_on : Continues last bytes = subst (λ o. Continues o bytes) (sym is) head-goes-on in
            leaves-wider old new (From old.may_leave (HoldsEither (committed old.bytes) (appended (committed old.bytes) gate bytes))) (From old.may_leave (Records d source vs)) (appends goes_on)
            (λ c from. (from.0, from.1, step goes_on from.0 c (settled.lasts from.0 from.1) from.2)))
        by_last (Some h) is =
            (let same : new ≡ old = stays (λ goes_on. (let none : Some h ≡ None = sym is ∙ head-none last goes_on in cc)) in
            subst (λ v. Leaves old v (From old.may_leave (Records d source vs))) (sym same) (leaves-none old (From old.may_leave (Records d source vs))))

    -- and then batches
    module _ (mid new : View) (texts : (c : Outcome) → mid.may_leave c → HasTextOf old.may_leave c) where
      pub all-said : (text : List ℕ) → ((c : Outcome) → new.may_leave c → From mid.may_leave (HasSaid text) c) → (c : Outcome) → new.may_leave c → From old.may_leave (HasSaid text) c
      all-said text says c now =
          let from : From mid.may_leave (HasSaid text) c = says c now in
          let before : HasTextOf old.may_leave from.0 = texts from.0 from.1 in
          (before.origin, before.was, from.2 ∙ ap (λ xs. xs ++ text) before.text)

      pub all-crashes : Leaves old mid (From old.may_leave (Records d source vs)) → Leaves mid new (From mid.may_leave (Adds d source vs)) → Leaves old new (From old.may_leave (Records d source vs))
      all-crashes first second =
          leaves-then old mid new (From old.may_leave (Records d source vs)) first
          (leaves-wider mid new (From mid.may_leave (Adds d source vs)) (From old.may_leave (Records d source vs)) second
          (λ c from.
          let before : HasTextOf old.may_leave from.0 = texts from.0 from.1 in
          let adds : HoldsFirst d source vs from.0 c from.2.0 = from.2.1 in (
            before.origin,
            before.was,
            inr (
              from.2.0,
              record {
                most = adds.most;
                sound = adds.sound;
                batches = adds.batches;
                front = adds.front;
                text = adds.text ∙ ap (λ xs. xs ++ adds.front) before.text;
                begins = adds.begins;
              },
            ),
          )))
