-- One batch more is appended and acknowledged.
use Rattle.std.proofs.Common.{◌≡◌, ◌∙◌, ◌≤◌, ◌+◌, ◌++◌, arith, length, take, sym, ap, subst}
use Rattle.std.specs.Prelude.{Some}
use Rattle.std.proofs.lemmas.List.{append-nil}
use Rattle.vod_deck.specs.Outcomes.{From}
use Rattle.vod_deck.proofs.Leaves.{leaves-none}
use Rattle.vod_log.specs.Tail.{Continues, frame_header}
use Rattle.vod_thin_code.specs.Bytes.{batch_bytes}
use Rattle.vod_thin_code.specs.Held.{ack, counts}
use Rattle.vod_thin_store.specs.Stored.{EndsWith, Adds}
use Rattle.vod_thin_store.proofs.Held.{payloads-none}
use Rattle.vod_thin_store.proofs.Frames.{FrameLaws}
use Rattle.vod_thin_store.proofs.Stored.{IsScript, IsCut, made-cut, batch-forms, counts-are, written, frame, frame-is, goes-on, ends-more, crashes-more, stored-more}
use Rattle.vod_thin_store.proofs.store.append_batches.Goals as goal

pub loop-held-init : goal.loop-held-init
loop-held-init g c = record {
  whole = c.requires.fresh;
  ends = c.requires.ends;
  stored = λ tells. record {
    held = c.requires.begun tells;
    count = 0;
    reached = omega arith;
    batches = payloads-none c.args.design.now c.args.source.now (g.L.Deck.view c.args.deck.now).bytes (c.requires.begun tells);
    settled = c.requires.settled tells;
    outcomes = λ o now. (o, now, sym (append-nil o.said));
    crashes = leaves-none (g.L.Deck.view c.args.deck.now) (From (g.L.Deck.view c.args.deck.now).may_leave (Adds c.args.design.now c.args.source.now c.args.vectors.now));
  };
  later = omega arith;
}

pub batch-requires : goal.batch-requires
batch-requires g c =
    let k = c.loop-held.held in
    let vs = c.args.vectors.now in
    let batch = c.next_batch-batch.result.now in
    let cut : IsCut vs (take k vs) batch = made-cut vs k batch (omega arith) c.next_batch-batch.ensures in
    let script : IsScript c.args.design.now vs c.args.known = record { lawful = c.requires.lawful; rise = c.requires.rising; few = c.requires.few; known_is = c.requires.known } in
    let most : k ≤ length vs = omega arith in
    omega (arith, c.batches_are_short.ensures c.args.design.now batch (batch-forms c.args.design.now vs c.args.known script k most batch cut) cut.few)

pub commit-requires-clause-goes_on : goal.commit-requires-clause-goes_on
commit-requires-clause-goes_on g c =
    let k = c.loop-held.held in
    let d = c.args.design.now in
    let vs = c.args.vectors.now in
    let batch = c.next_batch-batch.result.now in
    let cut : IsCut vs (take k vs) batch = made-cut vs k batch (omega arith) c.next_batch-batch.ensures in
    let script : IsScript d vs c.args.known = record { lawful = c.requires.lawful; rise = c.requires.rising; few = c.requires.few; known_is = c.requires.known } in
    let laws : FrameLaws = record { begins = c.frames_are_records.ensures.begins; header = c.frames_are_records.ensures.header; long = c.frames_are_records.ensures.long; closed = c.frames_are_records.ensures.closed; entry = c.frames_are_records.ensures.entry } in
    let most : k ≤ length vs = omega arith in
    let short : length (batch_bytes batch) ≤ 787200 = omega (arith, c.batches_are_short.ensures d batch (batch-forms d vs c.args.known script k most batch cut) cut.few) in
    let after : written k batch c.last_time-last.result c.known_by.result ≡ counts d (take k vs ++ batch) = counts-are d vs c.args.known script k most batch cut _ _ c.last_time-last.ensures c.known_by.ensures in
    let bytes : c.as_slice.result.now ≡ frame d vs c.args.known script k most batch cut = frame-is d vs c.args.known script k most batch cut _ _ after (c.as_slice.ensures ∙ c.in_ok-batch.ensures) in
    subst (λ f. Continues c.loop-held.tail.last f) (sym bytes) (goes-on d vs c.args.known script k most batch cut laws c.loop-held.tail.last c.loop-held.invariant.ends short)

pub returns-in_err-commit-clause-crashes : goal.returns-in_err-commit-clause-crashes
returns-in_err-commit-clause-crashes g c = λ tells.
    let k = c.loop-held.held in
    let d = c.args.design.now in
    let vs = c.args.vectors.now in
    let batch = c.next_batch-batch.result.now in
    let cut : IsCut vs (take k vs) batch = made-cut vs k batch (omega arith) c.next_batch-batch.ensures in
    let script : IsScript d vs c.args.known = record { lawful = c.requires.lawful; rise = c.requires.rising; few = c.requires.few; known_is = c.requires.known } in
    let laws : FrameLaws = record { begins = c.frames_are_records.ensures.begins; header = c.frames_are_records.ensures.header; long = c.frames_are_records.ensures.long; closed = c.frames_are_records.ensures.closed; entry = c.frames_are_records.ensures.entry } in
    let most : k ≤ length vs = omega arith in
    let short : length (batch_bytes batch) ≤ 787200 = omega (arith, c.batches_are_short.ensures d batch (batch-forms d vs c.args.known script k most batch cut) cut.few) in
    let after : written k batch c.last_time-last.result c.known_by.result ≡ counts d (take k vs ++ batch) = counts-are d vs c.args.known script k most batch cut _ _ c.last_time-last.ensures c.known_by.ensures in
    let bytes : c.as_slice.result.now ≡ frame d vs c.args.known script k most batch cut = frame-is d vs c.args.known script k most batch cut _ _ after (c.as_slice.ensures ∙ c.in_ok-batch.ensures) in
    crashes-more d vs c.args.known script k most batch cut laws c.args.source.now short c.next_batch-batch.ensures (omega arith) _ _ _ _ (c.loop-held.invariant.stored tells)
    _ _ bytes (ap (λ a. ack a.vectors a.last) after) _ (c.commit.ensures.crashes tells)

pub loop-held-smaller : goal.loop-held-smaller
loop-held-smaller g c =
    let cut : IsCut c.args.vectors.now (take c.loop-held.held c.args.vectors.now) c.next_batch-batch.result.now = made-cut c.args.vectors.now c.loop-held.held c.next_batch-batch.result.now (omega arith) c.next_batch-batch.ensures in
    omega (arith, cut.some)

pub loop-held-preserved : goal.loop-held-preserved
loop-held-preserved g c =
    let k = c.loop-held.held in
    let d = c.args.design.now in
    let vs = c.args.vectors.now in
    let batch = c.next_batch-batch.result.now in
    let cut : IsCut vs (take k vs) batch = made-cut vs k batch (omega arith) c.next_batch-batch.ensures in
    let script : IsScript d vs c.args.known = record { lawful = c.requires.lawful; rise = c.requires.rising; few = c.requires.few; known_is = c.requires.known } in
    let laws : FrameLaws = record { begins = c.frames_are_records.ensures.begins; header = c.frames_are_records.ensures.header; long = c.frames_are_records.ensures.long; closed = c.frames_are_records.ensures.closed; entry = c.frames_are_records.ensures.entry } in
    let most : k ≤ length vs = omega arith in
    let short : length (batch_bytes batch) ≤ 787200 = omega (arith, c.batches_are_short.ensures d batch (batch-forms d vs c.args.known script k most batch cut) cut.few) in
    let after : written k batch c.last_time-last.result c.known_by.result ≡ counts d (take k vs ++ batch) = counts-are d vs c.args.known script k most batch cut _ _ c.last_time-last.ensures c.known_by.ensures in
    let bytes : c.as_slice.result.now ≡ frame d vs c.args.known script k most batch cut = frame-is d vs c.args.known script k most batch cut _ _ after (c.as_slice.ensures ∙ c.in_ok-batch.ensures) in
    let last : c.commit.new.tail.last ≡ Some (frame_header (frame d vs c.args.known script k most batch cut)) = ap (λ t. t.last) c.in_ok-commit.ensures.tail ∙ ap (λ f. Some (frame_header f)) bytes in
    record {
      whole = ap (λ t. t.broken) c.in_ok-commit.ensures.tail;
      ends = subst (λ o. EndsWith d (take (k + length batch) vs) o) (sym last) (ends-more d vs c.args.known script k most batch cut laws short);
      stored = λ tells.
          stored-more d vs c.args.known script k most batch cut laws c.args.source.now short c.next_batch-batch.ensures (omega arith) _ _ _ _ (c.loop-held.invariant.stored tells)
          _ _ bytes (ap (λ a. ack a.vectors a.last) after) _ (c.commit.ensures.crashes tells) _ _
          (c.in_ok-commit.ensures.held tells) (c.in_ok-commit.ensures.settled tells) (c.in_ok-commit.ensures.said tells);
      later = omega (arith, c.loop-held.invariant.later, c.commit.ensures.caused.later);
    }
