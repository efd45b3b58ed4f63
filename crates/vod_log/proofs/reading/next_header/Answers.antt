-- What the gate and the header behind it say, as the deck's bytes have them.
use Rattle.std.proofs.Common.{◌+◌, ◌-◌, ◌≤◌, length, drop, take, refl, sym, ◌∙◌, ap, arith, length-drop}
use Rattle.vod_log.specs.Format.{header_of}
use Rattle.vod_log.proofs.Readings.{accepted-some}
use Rattle.vod_log.proofs.Opening.{unchanged-then, record-none, gate-open, record-read}
use Rattle.vod_log.proofs.reading.next_header.Goals as goal

pub returns-then-size-le48-clause-wrong : goal.returns-then-size-le48-clause-wrong
returns-then-size-le48-clause-wrong g c = (
  refl,
  λ tells.
      let size : length (drop (c.args.gate + 1) (g.L.Deck.view c.args.deck.now).bytes) ≤ 48 =
      omega (arith, length-drop (c.args.gate + 1) (g.L.Deck.view c.args.deck.now).bytes, c.requires.total tells, c.if-size-le48.true) in
      record {
        open_is = gate-open _ _ c.args.gate (c.in_ok-read_at.ensures.got tells) (sym c.is_closed.ensures ∙ c.if-is_closed.false);
        wrong = record-none _ _ size;
      },
)

pub returns-in-Some-clause-fits : goal.returns-in-Some-clause-fits
returns-in-Some-clause-fits g c =
    let found = accepted-some c.args.last.now (c.args.len - c.args.gate - 1) (header_of c.read_at-2.new.buf) c.in-Some.header (sym c.accept.ensures ∙ c.in-Some.is) in
    (found.1, omega (arith, found.2, c.requires.inside))

pub returns-in-Some-clause-next : goal.returns-in-Some-clause-next
returns-in-Some-clause-next g c = λ tells. (
  gate-open _ _ c.args.gate (c.in_ok-read_at.ensures.got tells) (sym c.is_closed.ensures ∙ c.if-is_closed.false),
  record-read _ _ c.args.gate c.args.len _ c.args.last.now _ (c.requires.total tells) refl
      (c.in_ok-read_at-2.ensures.got tells ∙ ap (λ xs. take 48 (drop (c.args.gate + 1) xs)) (c.read_at.ensures.bytes tells)) c.accept.ensures
      ∙ c.in-Some.is,
)

pub returns-in-Some-clause-unchanged : goal.returns-in-Some-clause-unchanged
returns-in-Some-clause-unchanged g c = λ tells.
    unchanged-then _ _ _ (record { bytes = c.read_at.ensures.bytes tells; outcomes = c.read_at.ensures.outcomes tells })
    (record { bytes = c.read_at-2.ensures.bytes tells; outcomes = c.read_at-2.ensures.outcomes tells })

pub returns-in-None-clause-wrong : goal.returns-in-None-clause-wrong
returns-in-None-clause-wrong g c = (
  refl,
  λ tells. record {
    open_is = gate-open _ _ c.args.gate (c.in_ok-read_at.ensures.got tells) (sym c.is_closed.ensures ∙ c.if-is_closed.false);
    wrong = record-read _ _ c.args.gate c.args.len _ c.args.last.now _ (c.requires.total tells) refl
        (c.in_ok-read_at-2.ensures.got tells ∙ ap (λ xs. take 48 (drop (c.args.gate + 1) xs)) (c.read_at.ensures.bytes tells)) c.accept.ensures
        ∙ c.in-None.is;
  },
)

pub returns-in-None-clause-unchanged : goal.returns-in-None-clause-unchanged
returns-in-None-clause-unchanged g c = λ tells.
    unchanged-then _ _ _ (record { bytes = c.read_at.ensures.bytes tells; outcomes = c.read_at.ensures.outcomes tells })
    (record { bytes = c.read_at-2.ensures.bytes tells; outcomes = c.read_at-2.ensures.outcomes tells })
