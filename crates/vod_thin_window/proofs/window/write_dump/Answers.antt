use Rattle.std.proofs.Common.{Result, Ok, Err, OnOk, OnErr}
use Rattle.vod_thin_window.specs.Request.{Request}
use Rattle.vod_thin_window.proofs.RequestLaws.{dump_written, dump_begun}
use Rattle.vod_thin_window.proofs.window.write_dump.Goals as goal

ok_then : {T E P Q : Type 0} (r : Result T E) → (P → Q) → OnOk r P → OnOk r Q
ok_then (Ok x) f p = f p
ok_then (Err e) f p = tt

err_then : {T E P Q : Type 0} (r : Result T E) → (P → Q) → OnErr r P → OnErr r Q
err_then (Ok x) f p = tt
err_then (Err e) f p = f p

pub returns-clause-written : goal.returns-clause-written
returns-clause-written g c =
    let r : Request = record { source = c.args.source.now; design = c.args.design.now; vectors = c.args.vectors.now } in
    ok_then c.write_window-written.result
    (dump_written c.window_is_cut.ensures.whole r c.last_time.result (g.K.Sink.taken c.args.out.now) (g.K.Sink.taken c.write_window-written.new.out) c.last_time.ensures c.requires) c.write_window-written.ensures.written

pub returns-clause-begun : goal.returns-clause-begun
returns-clause-begun g c =
    let r : Request = record { source = c.args.source.now; design = c.args.design.now; vectors = c.args.vectors.now } in
    err_then c.write_window-written.result
    (dump_begun c.window_is_cut.ensures.whole r c.last_time.result (g.K.Sink.taken c.args.out.now) (g.K.Sink.taken c.write_window-written.new.out) c.last_time.ensures c.requires) c.write_window-written.ensures.begun
