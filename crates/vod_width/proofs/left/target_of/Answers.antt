use Rattle.std.proofs.Common.{◌∙◌, Some, sym, ap}
use Rattle.vod_design.specs.declared.sized.Variable.{Variable}
use Rattle.vod_design.specs.declared.sized.SizedExpr.{SizedExpr}
use Rattle.vod_design.specs.declared.sized.SizedKind.TheOpen.{SizedKind-F}
use Rattle.vod_design.specs.declared.sized.SizedKind.TheVariants.{rolls-Name, rolls-Select, rolls-Index, rolls-Word, rolls-WordIndex}
use Rattle.vod_design.specs.declared.statement.PartTarget.TheVariants as target
use Rattle.vod_width.specs.Lefts.{at_variable}
use Rattle.vod_width.proofs.LeftSides.{target_at}
use Rattle.vod_width.proofs.left.target_of.Goals as goal

pub returns-in-Name : goal.returns-in-Name
returns-in-Name c =
    let n = c.in-Name.name in
    c.bits_at.ensures ∙ ap (at_variable (λ (x : Variable). target.Bits x 0)) c.variable_of.ensures ∙ sym (target_at c.args.kind (SizedKind-F.Name n) (c.in-Name.is ∙ sym (rolls-Name n)))

pub returns-in-Select : goal.returns-in-Select
returns-in-Select c =
    let n = c.in-Select.name in
    let low = c.in-Select.low in
    let count = c.in-Select._count in
    c.bits_at-in-Select.ensures ∙ ap (at_variable (λ (x : Variable). target.Bits x low)) c.variable_of-in-Select.ensures
    ∙ sym (target_at c.args.kind (SizedKind-F.Select n low count) (c.in-Select.is ∙ sym (rolls-Select n low count)))

pub returns-in-Index : goal.returns-in-Index
returns-in-Index c =
    let n = c.in-Index.name in
    let l = c.in-Index.least in
    let i = c.in-Index.index in
    c.index_at.ensures ∙ ap (λ (e : SizedExpr). at_variable (λ (x : Variable). target.Index x l e) c.variable_of-in-Index.result) c.into_inner.ensures
    ∙ ap (at_variable (λ (x : Variable). target.Index x l i)) c.variable_of-in-Index.ensures ∙ sym (target_at c.args.kind (SizedKind-F.Index n l i) (c.in-Index.is ∙ sym (rolls-Index n l i)))

pub returns-in-Word : goal.returns-in-Word
returns-in-Word c =
    let m = c.in-Word.memory in
    let p = c.in-Word.place in
    ap (λ (e : SizedExpr). Some (target.Word m.number 0 e)) c.place_number.ensures ∙ sym (target_at c.args.kind (SizedKind-F.Word m p) (c.in-Word.is ∙ sym (rolls-Word m p)))

pub returns-in-WordIndex : goal.returns-in-WordIndex
returns-in-WordIndex c =
    let m = c.in-WordIndex.memory in
    let l = c.in-WordIndex.least in
    let i = c.in-WordIndex.index in
    ap (λ (e : SizedExpr). Some (target.Word m.number l e)) c.into_inner-in-WordIndex.ensures ∙ sym (target_at c.args.kind (SizedKind-F.WordIndex m l i) (c.in-WordIndex.is ∙ sym (rolls-WordIndex m l i)))
