use Rattle.std.proofs.Common.{◌∙◌, ap, sym, arith}
use Rattle.vod_modules.specs.Names.{number_in, module_in}
use Rattle.vod_modules.proofs.Tables.{kept_module, kept_other, kept_all}
use Rattle.vod_modules.proofs.names.Names.new.Goals.{in-Some+in_ok-add-in-Some, in-None}
use Rattle.vod_modules.proofs.names.Names.new.Goals as goal

pub loop-part-preserved : goal.loop-part-preserved
loop-part-preserved c =
    elim c.match-module_in.branch [
      | in-Some+in_ok-add-in-Some w ↦ (kept_module c.args.parts.now c.loop-part.part-index c.part-item.result w.in-Some.«module».now c.loop-part.count c.match-module_in.count c.loop-part.names.numbers.entries c.match-module_in.names.numbers.entries w.as_slice.result.now c.loop-part-test.true
          (ap module_in (sym c.part-item.is) ∙ sym w.in-Some.ensures) w.as_slice.ensures w.count-is c.loop-part.invariant (λ x. ap (λ n. number_in n.numbers.entries x) w.names-is ∙ w.in_ok-add-in-Some.ensures x))
      | in-None w ↦ kept_other c.args.parts.now c.loop-part.part-index c.part-item.result c.loop-part.count c.match-module_in.count c.loop-part.names.numbers.entries c.match-module_in.names.numbers.entries c.loop-part-test.true (ap module_in (sym c.part-item.is) ∙ sym w.in-None.ensures) w.count-is c.loop-part.invariant (λ x. ap (λ n. number_in n.numbers.entries x) w.names-is)
    ]

pub returns : goal.returns
returns c = kept_all c.args.parts.now c.loop-part.part-index c.loop-part.count c.loop-part.names.numbers.entries (omega arith) c.loop-part.invariant
