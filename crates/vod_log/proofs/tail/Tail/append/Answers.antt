-- Each exit of an append, by what its two writes left.
use Rattle.std.proofs.Common.{arith}
use Rattle.vod_log.specs.Tail.{Continues, IsSettled, frame_header}
use Rattle.vod_log.proofs.Appends.{mid-length, held-gate, held-ends}
use Rattle.vod_log.proofs.Crashes.{crashes-record, crashes-gate}
use Rattle.vod_log.proofs.Bounds.{near-more, near-short}
use Rattle.vod_log.proofs.Placed.{records-placed}
use Rattle.vod_log.proofs.tail.Tail.append.Goals as goal

pub write_frame-requires-clause-short : goal.write_frame-requires-clause-short
write_frame-requires-clause-short g c = near-short c.self.inside.gate c.self.inside.last c.args.frame.now c.self.invariant (rw (← c.self.view_is) at c.requires.goes_on)

pub returns-in-Err-clause-crashes : goal.returns-in-Err-clause-crashes
returns-in-Err-clause-crashes g c = rw (← c.self.view_is) (λ tells whole.
    let settled : IsSettled (g.L.Deck.view c.args.deck.now) c.self.inside.gate c.self.inside.last = rw (← c.self.view_is) at (c.requires.settled tells) whole in
    crashes-record _ _ _ _ _ settled (c.write_frame.ensures.outcomes tells))

pub write_gate-requires-clause-joined : goal.write_gate-requires-clause-joined
write_gate-requires-clause-joined g c = λ tells.
    let settled : IsSettled (g.L.Deck.view c.args.deck.now) c.self.inside.gate c.self.inside.last = rw (← c.self.view_is) at (c.requires.settled tells) c.if-self.false in
    let goes_on : Continues c.self.inside.last c.args.frame.now = rw (← c.self.view_is) at c.requires.goes_on in
    omega (arith, mid-length _ _ _ _ _ settled.ends goes_on (c.in-Ok.ensures.written tells))

pub returns-in-Err-write_gate-clause-crashes : goal.returns-in-Err-write_gate-clause-crashes
returns-in-Err-write_gate-clause-crashes g c = rw (← c.self.view_is) (λ tells whole.
    let settled : IsSettled (g.L.Deck.view c.args.deck.now) c.self.inside.gate c.self.inside.last = rw (← c.self.view_is) at (c.requires.settled tells) whole in
    let goes_on : Continues c.self.inside.last c.args.frame.now = rw (← c.self.view_is) at c.requires.goes_on in
    crashes-gate _ _ _ _ _ settled (c.write_frame.ensures.outcomes tells) _ goes_on (c.in-Ok.ensures.written tells) (c.in-Ok.ensures.lasts tells) (c.write_gate.ensures.outcomes tells))

pub gate_behind-self-inside-requires : goal.gate_behind-self-inside-requires
gate_behind-self-inside-requires g c =
    let goes_on : Continues c.self.inside.last c.args.frame.now = rw (← c.self.view_is) at c.requires.goes_on in
    omega (arith, near-short c.self.inside.gate c.self.inside.last c.args.frame.now c.self.invariant goes_on)

pub invariant_of-self-2 : goal.invariant_of-self-2
invariant_of-self-2 g c =
    let goes_on : Continues c.self.inside.last c.args.frame.now = rw (← c.self.view_is) at c.requires.goes_on in
    rw (c.gate_behind-self-inside.ensures, goes_on.long, c.header_in.ensures) (near-more c.self.inside.gate c.self.inside.last (frame_header c.args.frame.now) c.self.invariant goes_on.right)

pub returns-clause-held : goal.returns-clause-held
returns-clause-held g c = rw (← c.self.view_is) (λ tells.
    let settled : IsSettled (g.L.Deck.view c.args.deck.now) c.self.inside.gate c.self.inside.last = rw (← c.self.view_is) at (c.requires.settled tells) c.if-self.false in
    let goes_on : Continues c.self.inside.last c.args.frame.now = rw (← c.self.view_is) at c.requires.goes_on in
    held-gate _ _ _ _ _ settled.ends goes_on (c.in-Ok.ensures.written tells) _ (c.in-Ok-write_gate.ensures.written tells))

pub returns-clause-bytes : goal.returns-clause-bytes
returns-clause-bytes g c = rw (← c.self.view_is) (λ tells. ((g.L.Deck.view c.write_frame.new.deck).bytes, c.in-Ok.ensures.written tells, c.in-Ok-write_gate.ensures.written tells))

pub returns-clause-settled : goal.returns-clause-settled
returns-clause-settled g c = λ tells.
    let settled : IsSettled (g.L.Deck.view c.args.deck.now) c.self.inside.gate c.self.inside.last = rw (← c.self.view_is) at (c.requires.settled tells) c.if-self.false in
    let goes_on : Continues c.self.inside.last c.args.frame.now = rw (← c.self.view_is) at c.requires.goes_on in
    rw (c.gate_behind-self-inside.ensures, c.header_in.ensures) (record {
      ends = held-ends _ _ _ _ _ settled.ends goes_on (c.in-Ok.ensures.written tells) _ (c.in-Ok-write_gate.ensures.written tells);
      lasts = c.in-Ok-write_gate.ensures.lasts tells;
    })

pub returns-clause-placed : goal.returns-clause-placed
returns-clause-placed g c = λ tells. records-placed _

pub returns-clause-crashes : goal.returns-clause-crashes
returns-clause-crashes g c = rw (← c.self.view_is) (λ tells whole.
    let settled : IsSettled (g.L.Deck.view c.args.deck.now) c.self.inside.gate c.self.inside.last = rw (← c.self.view_is) at (c.requires.settled tells) whole in
    let goes_on : Continues c.self.inside.last c.args.frame.now = rw (← c.self.view_is) at c.requires.goes_on in
    crashes-gate _ _ _ _ _ settled (c.write_frame.ensures.outcomes tells) _ goes_on (c.in-Ok.ensures.written tells) (c.in-Ok.ensures.lasts tells) (c.write_gate.ensures.outcomes tells))
