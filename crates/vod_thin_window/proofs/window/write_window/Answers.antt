use Rattle.std.proofs.Common.{◌++◌, subst, sym, ap, Result, Ok, Err, refl, OnErr}
use Rattle.vod_io.specs.declared.Failed.{Failed}
use Rattle.vod_io.specs.Told.{Written}
use Rattle.vod_thin_design.specs.Netlist.{Netlist}
use Rattle.vod_thin_queue.specs.Run.{AreSlots}
use Rattle.vod_thin_vcd.specs.Text.{header_text}
use Rattle.vod_thin_vcd.specs.Stream.{window_text}
use Rattle.vod_thin_window.specs.Moments.{moments}
use Rattle.vod_thin_window.specs.Request.{Request, window_of}
use Rattle.vod_thin_window.proofs.StepsLaws.{Goes}
use Rattle.vod_thin_window.proofs.RequestLaws.{WritesRun, window_written, window_begun, not_begun}
use Rattle.vod_thin_window.proofs.window.write_window.Goals as goal

on_err : {T E P : Type 0} (r : Result T E) → P → OnErr r P
on_err (Ok x) p = tt
on_err (Err e) p = p

pub returns-in_err-queue-clause-begun : goal.returns-in_err-queue-clause-begun
returns-in_err-queue-clause-begun g c =
    let r : Request = record { source = c.args.source.now; design = c.args.design.now; vectors = c.args.vectors.now } in
    on_err c.from_residual.result (not_begun r (window_of r c.args.window.from c.args.window.to) (g.K.Sink.taken c.args.out.now))

pub returns-in_err-writer-clause-begun : goal.returns-in_err-writer-clause-begun
returns-in_err-writer-clause-begun g c =
    let r : Request = record { source = c.args.source.now; design = c.args.design.now; vectors = c.args.vectors.now } in
    on_err c.from_residual-in_err-writer.result (not_begun r (window_of r c.args.window.from c.args.window.to) (g.K.Sink.taken c.args.out.now))

pub returns-in_err-write_run-clause-begun : goal.returns-in_err-write_run-clause-begun
returns-in_err-write_run-clause-begun g c =
    let r : Request = record { source = c.args.source.now; design = c.args.design.now; vectors = c.args.vectors.now } in
    let from = c.args.window.from in
    let to = c.args.window.to in
    let goes : Goes = record { settled = c.orders_agree.ensures.settled; next = c.inputs_take_moves.ensures.next; unmixed = c.inputs_take_moves.ensures.unmixed } in
    let first = c.in_ok-queue.queue.state in
    let made = c.in_ok-queue.ensures in
    let header = ap (λ p. p.header) c.in_ok-writer.ensures in
    let before = g.K.Sink.taken c.args.out.now in
    let after = g.K.Sink.taken c.write_run.new.out in
    let writes : WritesRun {T = Unit {0}} {E = Failed} (Err c.in_err-write_run.field-0.0) (header_text r.source r.design) r.design r.vectors from to first before after =
    λ ends h. subst (λ t. Written {T = Unit {0}} {E = Failed} (Err c.in_err-write_run.field-0.0) before after (t ++ window_text first.val (moments r.vectors ends) from to)) header
    (c.in_err-write_run.ensures.written ends (subst (λ (d : Netlist). AreSlots d first r.vectors ends) (sym made.design) h)) in
    on_err c.from_residual-in_err-write_run.result
    (window_begun {T = Unit {0}} {E = Failed} (Err c.in_err-write_run.field-0.0) c.in_err-write_run.field-0.0 refl goes c.window_is_cut.ensures.window r from to first before after (made.awaits r.vectors c.requires) c.requires made.only writes)

pub returns-clause-written : goal.returns-clause-written
returns-clause-written g c =
    let r : Request = record { source = c.args.source.now; design = c.args.design.now; vectors = c.args.vectors.now } in
    let from = c.args.window.from in
    let to = c.args.window.to in
    let goes : Goes = record { settled = c.orders_agree.ensures.settled; next = c.inputs_take_moves.ensures.next; unmixed = c.inputs_take_moves.ensures.unmixed } in
    let first = c.in_ok-queue.queue.state in
    let made = c.in_ok-queue.ensures in
    let awaits = made.awaits r.vectors c.requires in
    let header = ap (λ p. p.header) c.in_ok-writer.ensures in
    let before = g.K.Sink.taken c.args.out.now in
    let after = g.K.Sink.taken c.write_run.new.out in
    let writes : WritesRun {T = Unit {0}} {E = Failed} (Ok c.in_ok-write_run.field-0) (header_text r.source r.design) r.design r.vectors from to first before after =
    λ ends h. subst (λ t. Written {T = Unit {0}} {E = Failed} (Ok c.in_ok-write_run.field-0) before after (t ++ window_text first.val (moments r.vectors ends) from to)) header
    (c.in_ok-write_run.ensures.written ends (subst (λ (d : Netlist). AreSlots d first r.vectors ends) (sym made.design) h)) in
    window_written {T = Unit {0}} {E = Failed} (Ok c.in_ok-write_run.field-0) c.in_ok-write_run.field-0 refl goes c.window_is_cut.ensures.window r from to first before after awaits c.requires made.only
    (c.orders_end.ensures.run_exists r.design r.vectors awaits.ready.accepted) writes

pub write_run-requires-clause-awaits : goal.write_run-requires-clause-awaits
write_run-requires-clause-awaits g c =
    let made = c.in_ok-queue.ensures in
    rw made.design (made.awaits c.args.vectors.now c.requires)
