-- One more call fits and is made again.
use Rattle.std.proofs.Common.{ℕ, ◌+◌, [], ◌∷◌, take, drop, get_or, sym, ◌∙◌, ap, arith, length-drop}
use Rattle.std.proofs.lemmas.List.{drop-drop}
use Rattle.vod_deck.specs.InMemory.{total_wrote}
use Rattle.vod_deck.specs.declared.in_memory.Call.{Call}
use Rattle.vod_deck.specs.declared.in_memory.Call.TheVariants.{Wrote}
use Rattle.std.specs.Prelude.{false}
use Rattle.vod_deck.proofs.Replays.{again-more, total_wrote-more, total_wrote-take}
use Rattle.vod_deck.proofs.in_memory.replay.picked_file.Goals as goal

pub replay_call-requires-clause-whole : goal.replay_call-requires-clause-whole
replay_call-requires-clause-whole c =
    let none : Call = Wrote 0 0 false in
    rw (c.loop-call.invariant.rest)
    (omega (
      arith,
      length-drop (total_wrote (take c.loop-call.call-index c.args.calls.now)) c.args.wrote.now,
      total_wrote-more c.args.calls.now c.loop-call.call-index none c.loop-call-test.true,
      total_wrote-take c.args.calls.now (c.loop-call.call-index + 1),
      c.requires,
    ))

pub loop-call-preserved : goal.loop-call-preserved
loop-call-preserved c =
    let none : Call = Wrote 0 0 false in
    let i : ℕ = c.loop-call.call-index in
    let so_far : ℕ = total_wrote (take i c.args.calls.now) in
    record {
      again = again-more c.args.pick c.args.first.now c.args.wrote.now c.args.calls.now i none _ _ c.loop-call-test.true c.loop-call.invariant.again
          (rw (c.loop-call.invariant.rest) at c.in_ok-rest.ensures.again);
      rest = c.in_ok-rest.ensures.rest ∙ ap (λ r. drop (total_wrote (get_or c.args.calls.now i none ∷ [])) r) c.loop-call.invariant.rest
          ∙ drop-drop (total_wrote (get_or c.args.calls.now i none ∷ [])) so_far c.args.wrote.now
          ∙ ap (λ n. drop n c.args.wrote.now) (sym (total_wrote-more c.args.calls.now i none c.loop-call-test.true));
      few = omega (arith, c.in_ok-rest.ensures.writes, c.loop-call.invariant.few);
    }
