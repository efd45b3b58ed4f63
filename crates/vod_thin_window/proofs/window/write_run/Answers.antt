use Rattle.std.proofs.Common.{List, ℕ, ◌∙◌, ◌≡◌, ◌++◌, subst, sym, ap}
use Rattle.vod_io.specs.Told.{appended, Puts, Written}
use Rattle.vod_io.proofs.Puts.{Written-then, Written-stopped, stopped_in_first, stopped_in_second}
use Rattle.vod_thin_queue.specs.Run.{AreSlots}
use Rattle.vod_thin_vcd.specs.Text.{opening_text}
use Rattle.vod_thin_vcd.specs.Stream.{window_text, rest_text}
use Rattle.vod_thin_window.specs.Moments.{moments}
use Rattle.vod_thin_window.proofs.window.write_run.Goals as goal

pub returns-in_err-header-clause-written : goal.returns-in_err-header-clause-written
returns-in_err-header-clause-written g c =
    λ ends h. Written-stopped _ _ (c.args.writer.now.header ++ window_text c.args.queue.now.state.val (moments c.args.vectors.now ends) c.args.window.from c.args.window.to) c.from_residual.result c.from_residual.ensures.0
    (stopped_in_first _ _ _ _ c.in_err-header.ensures.written)

pub returns-in_err-opening-clause-written : goal.returns-in_err-opening-clause-written
returns-in_err-opening-clause-written g c =
    let from = c.args.window.from in
    let to = c.args.window.to in
    let header = c.args.writer.now.header in
    let skips = c.skip-rest.ensures.skips in
    λ ends h.
    let at = skips.skips ends h in
    let opening = opening_text from c.skip-rest.new.queue.state.val in
    let rest = rest_text c.skip-rest.new.queue.state.val from (moments c.skip-rest.result.now at.0) to in
    let part : (left : List ℕ) × Puts (g.K.Sink.taken c.header.new.out) (g.K.Sink.taken c.opening.new.out) opening left =
    subst (λ w. (left : List ℕ) × Puts (g.K.Sink.taken c.header.new.out) (g.K.Sink.taken c.opening.new.out) (opening_text from w) left) c.values.ensures.values c.in_err-opening.ensures.written in
    subst (λ w. Written c.from_residual-in_err-opening.result (g.K.Sink.taken c.args.out.now) (g.K.Sink.taken c.opening.new.out) (header ++ w)) (sym (at.2 to))
    (Written-stopped _ _ (header ++ (opening ++ rest)) c.from_residual-in_err-opening.result c.from_residual-in_err-opening.ensures.0
    (stopped_in_second _ _ _ header (opening ++ rest) c.in_ok-header.ensures.written (stopped_in_first _ _ opening rest part)))

pub returns-clause-written : goal.returns-clause-written
returns-clause-written g c =
    let from = c.args.window.from in
    let to = c.args.window.to in
    let header = c.args.writer.now.header in
    let skips = c.skip-rest.ensures.skips in
    λ ends h.
    let at = skips.skips ends h in
    let val = c.skip-rest.new.queue.state.val in
    let opening = opening_text from val in
    let rest = rest_text val from (moments c.skip-rest.result.now at.0) to in
    let printed = ap (λ p. p.printed) c.in_ok-opening.ensures.shown in
    let slots = subst (λ d. AreSlots d c.skip-rest.new.queue.state c.skip-rest.result.now at.0) (sym c.skip-rest.ensures.design) at.1 in
    let behind : Written c.write_rest.result (g.K.Sink.taken c.opening.new.out) (g.K.Sink.taken c.write_rest.new.out) rest =
    subst (λ p. Written c.write_rest.result (g.K.Sink.taken c.opening.new.out) (g.K.Sink.taken c.write_rest.new.out) (rest_text val p (moments c.skip-rest.result.now at.0) to)) printed
    (c.write_rest.ensures.written at.0 slots) in
    let opened : g.K.Sink.taken c.opening.new.out ≡ appended (g.K.Sink.taken c.header.new.out) opening =
    c.in_ok-opening.ensures.written ∙ ap (λ w. appended (g.K.Sink.taken c.header.new.out) (opening_text from w)) c.values.ensures.values in
    subst (λ w. Written c.write_rest.result (g.K.Sink.taken c.args.out.now) (g.K.Sink.taken c.write_rest.new.out) (header ++ w)) (sym (at.2 to))
    (Written-then _ _ _ header (opening ++ rest) c.write_rest.result c.in_ok-header.ensures.written
    (Written-then _ _ _ opening rest c.write_rest.result opened behind))
