-- Where the value of each kind of expression is found.
use Rattle.std.proofs.Common.{◌∙◌, sym, ap}
use Rattle.vod_design.specs.declared.sized.SizedKind.TheOpen.{SizedKind-F}
use Rattle.vod_design.specs.declared.sized.SizedKind.TheVariants.{rolls-Number, rolls-Name, rolls-Call}
use Rattle.vod_compiled.specs.Code.{Coded, input_at}
use Rattle.vod_compiled.proofs.Layers.{coded_at}
use Rattle.vod_compiled.proofs.Emit.{cell_input}
use Rattle.vod_compiled.proofs.compile.expr_source.Goals as goal

pub returns-in-Number : goal.returns-in-Number
returns-in-Number c =
    let k = ap (λ (x : Coded). x.input c.args.first) (coded_at c.args.e.now (SizedKind-F.Number c.in-Number.bits) (c.in-Number.is ∙ sym (rolls-Number c.in-Number.bits))) in
    sym k

pub returns-in-Name : goal.returns-in-Name
returns-in-Name c =
    let k = ap (λ (x : Coded). x.input c.args.first) (coded_at c.args.e.now (SizedKind-F.Name c.in-Name.name) (c.in-Name.is ∙ sym (rolls-Name c.in-Name.name))) in
    ap (λ s. input_at s c.args.e.now.width c.args.e.now.signed) c.name_source.ensures ∙ sym k

pub returns-in-Call : goal.returns-in-Call
returns-in-Call c =
    let k = ap (λ (x : Coded). x.input c.args.first) (coded_at c.args.e.now (SizedKind-F.Call c.in-Call.field-0 c.in-Call.field-1) (c.in-Call.is ∙ sym (rolls-Call c.in-Call.field-0 c.in-Call.field-1))) in
    sym k

pub returns-in_default : goal.returns-in_default
returns-in_default c = cell_input c.args.e.now c.args.first c.in_default.not-Number c.in_default.not-Name c.in_default.not-Call
