-- One more record was read, or the gate is closed.
use Rattle.std.proofs.Common.{◌≡◌, ◌^◌, ◌<◌, [], ◌∷◌, length, ap, arith, length-append}
use Rattle.std.specs.Prelude.{Some, None}
use Rattle.std.proofs.lemmas.List.Elements.{All-push}
use Rattle.vod_log.specs.declared.log.Record.{Record}
use Rattle.vod_log.specs.Opened.{IsNextAt}
use Rattle.vod_log.proofs.Bounds.{near-more}
use Rattle.vod_log.proofs.Opening.{unchanged-then, read-more, read-end}
use Rattle.vod_log.proofs.Placed.{log-placed}
use Rattle.vod_log.proofs.reading.read_log.Goals as goal

pub loop-records-preserved : goal.loop-records-preserved
loop-records-preserved g c = record {
  told = λ tells.
      let bytes : (g.L.Deck.view c.loop-records.deck).bytes ≡ (g.L.Deck.view c.args.deck.now).bytes = (c.loop-records.invariant.unchanged tells).bytes in
      let inside : c.loop-records.gate < length (g.L.Deck.view c.args.deck.now).bytes = omega (arith, c.loop-records.invariant.inside, c.requires tells) in
      let next : IsNextAt (g.L.Deck.view c.args.deck.now).bytes c.loop-records.gate c.loop-records.last (Some c.in-Some.header) =
      rw (c.in-Some.is, bytes) at (c.in_ok-header.ensures.next tells) in
      rw (c.in_ok-push-in-Some.ensures.items) (read-more _ _ _ _ _ (c.loop-records.invariant.told tells) inside next);
  unchanged = λ tells. unchanged-then _ _ _ (c.loop-records.invariant.unchanged tells) (c.next_header.ensures.unchanged tells);
  later = omega (arith, c.loop-records.invariant.later, c.next_header.ensures.later);
  most = omega (arith, c.loop-records.invariant.most, c.next_header.ensures.most, ap length c.in_ok-push-in-Some.ensures.items, length-append c.loop-records.records.items (record { at = c.loop-records.gate; header = c.in-Some.header } ∷ []));
  inside = (rw (c.in-Some.is) at c.in_ok-header.ensures.fits).1;
  near = near-more _ _ _ c.loop-records.invariant.near (rw (c.in-Some.is) at c.in_ok-header.ensures.fits).0;
  places =
      let place : c.loop-records.gate < 2 ^ 63 = omega (arith, c.loop-records.invariant.near.near, c.loop-records.invariant.near.few) in
      let P : Record → Type 0 = λ r. r.at < 2 ^ 63 in
      rw (c.in_ok-push-in-Some.ensures.items) (All-push P _ _ c.loop-records.invariant.places place);
}

pub returns-in-None-clause-placed : goal.returns-in-None-clause-placed
returns-in-None-clause-placed g c = λ tells.
    let bytes : (g.L.Deck.view c.loop-records.deck).bytes ≡ (g.L.Deck.view c.args.deck.now).bytes = (c.loop-records.invariant.unchanged tells).bytes in
    let inside : c.loop-records.gate < length (g.L.Deck.view c.args.deck.now).bytes = omega (arith, c.loop-records.invariant.inside, c.requires tells) in
    let next : IsNextAt (g.L.Deck.view c.args.deck.now).bytes c.loop-records.gate c.loop-records.last None = rw (c.in-None.is, bytes) at (c.in_ok-header.ensures.next tells) in
    rw (c.with-in-None.ensures) (log-placed _ _ (read-end _ _ _ _ (c.loop-records.invariant.told tells) inside next))
