use Rattle.std.proofs.Common.{◌≡◌, ◌+◌, ◌++◌, [], ◌∷◌, List, sym, ◌∙◌, ap, arith}
use Rattle.std.specs.Prelude.{slice_range}
use Rattle.vod_thin_syntax.proofs.Scans.{stepped}
use Rattle.vod_thin_syntax.proofs.StateLemmas.{range_more, some_left}
use Rattle.vod_thin_syntax.specs.Reader.{scan_read}
use Rattle.vod_thin_syntax.specs.State.{left}
use Rattle.vod_thin_syntax.specs.Syntax.{Mark}
use Rattle.vod_thin_syntax.specs.View.{marks_of}
use Rattle.vod_thin_syntax.proofs.parts.value.Goals as goal

pub scan-requires : goal.scan-requires
scan-requires c =
    let depth = c.loop-scan.invariant.depth in
    let small = c.loop-scan.invariant.small in omega arith

pub loop-scan-preserved : goal.loop-scan-preserved
loop-scan-preserved c =
    let source = c.args.reader.source.now in
    let tokens = c.args.reader.tokens.now in
    let sofar : List Mark = marks_of source (slice_range tokens c.args.at.now c.loop-scan.at) in
    let next : List Mark = left c.args.reader c.scan.new.at in
    let step = stepped c.loop-scan.scan c.in_ok-scan.scan (left c.args.reader c.loop-scan.at) next c.in_ok-scan.ensures.next in
    let at : c.scan.new.at ≡ c.loop-scan.at + 1 = c.in_ok-scan.ensures.at in
    let range : marks_of source (slice_range tokens c.args.at.now c.scan.new.at) ≡ sofar ++ step.token ∷ [] =
    ap (λ k. marks_of source (slice_range tokens c.args.at.now k)) at ∙ range_more source tokens c.args.at.now c.loop-scan.at step.token next c.loop-scan.invariant.from step.split in
    let from = c.loop-scan.invariant.from in
    let depth = c.loop-scan.invariant.depth in
    let more = c.in_ok-scan.ensures.depth in
    let few = c.args.reader.few in
    let less = some_left source tokens c.loop-scan.at step.token next step.split in
    record {
      from = omega arith;
      depth = omega arith;
      small = omega arith;
      reads =
          ap (λ v. scan_read c.in_ok-scan.scan v next) range
          ∙ sym (step.goes sofar (sym c.ends.ensures ∙ c.loop-scan-test.true))
          ∙ c.loop-scan.invariant.reads;
    }
