-- The vectors so far, and the next one, are the first of all that the script can have.
use Rattle.std.proofs.Common.{sym, ap, Err, length}
use Rattle.vod_thin_script.proofs.Progress.{text_parts, read_more, wrong_end, fault_line}
use Rattle.vod_thin_script.proofs.script.read_lines.Goals as goal

pub returns-in_default-clause-refused : goal.returns-in_default-clause-refused
returns-in_default-clause-refused c =
    let behind = rw c.in_default.is at c.behind.ensures in
    wrong_end c.args.inputs.now c.args.script.now _ _ c.requires.short c.loop-text.invariant.read c.cut.result.0.now c.cut.result.1.now (sym c.loop-text-test.ensures) c.cut.ensures.whole c.cut.ensures.before
    (behind c.cut.ensures.from) (length c.vectors.result.now) (ap length c.vectors.ensures.items)

pub returns-in-Err-clause-refused : goal.returns-in-Err-clause-refused
returns-in-Err-clause-refused c =
    let behind = rw c.in-Some.is at c.behind.ensures in
    let parts = text_parts _ c.cut.result.0.now c.cut.result.1.now c.in-Some.rest.now c.cut.ensures.whole behind in
    rw c.at.ensures
    (fault_line c.args.inputs.now c.requires.names c.args.script.now _ _ c.requires.short c.loop-text.invariant.read c.cut.result.0.now c.in-Some.rest.now (sym c.loop-text-test.ensures) parts c.cut.ensures.before
    (length c.vectors.result.now) (ap length c.vectors.ensures.items) c.in-Err.fault (λ e. c.in-Err.ensures.refused (ap (λ f. Err f) e)))

pub loop-text-preserved : goal.loop-text-preserved
loop-text-preserved c =
    let behind = rw c.in-Some.is at c.behind.ensures in
    let parts = text_parts _ c.cut.result.0.now c.cut.result.1.now c.in-Some.rest.now c.cut.ensures.whole behind in
    record {
      same = c.add_line.ensures.design;
      read = read_more c.args.inputs.now _ _ _ _ c.cut.result.0.now c.in-Some.rest.now c.loop-text.invariant.read parts c.in_default-add_line.ensures.added;
    }
