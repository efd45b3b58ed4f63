use Rattle.std.proofs.Common.{◌≡◌, ◌∙◌, sym, ap, subst, List, ℕ, false, Result, Ok}
use Rattle.std.specs.Prelude.{IfOk}
use Rattle.std.proofs.lemmas.Result.{err_from_is_err_and}
use Rattle.vod_token.specs.declared.Token.{Token}
use Rattle.vod_thin_design.specs.Names.{HasPlainNames}
use Rattle.vod_thin_syntax.specs.View.{module_of}
use Rattle.vod_thin.specs.declared.fault.ThinFault.TheVariants.{Memory}
use Rattle.vod_thin.specs.Faults.{IsFault}
use Rattle.vod_thin.specs.Rules.{least, faults}
use Rattle.vod_thin.specs.Thin.{IsThin}
use Rattle.vod_thin.proofs.Designs.{reads_by, stands}
use Rattle.vod_thin.proofs.ReadLaws.{fault_found}
use Rattle.vod_thin.proofs.read.sentence_design.Goals as goal

-- what was made is what was to be made
made : {A E : Type 0} (r : Result A E) (x y : A) → r ≡ Ok x → IfOk r (λ d. d ≡ y) → x ≡ y
made r x y e h = subst (λ v. IfOk v (λ d. d ≡ y)) e h

pub returns-in-Some-clause-refused : goal.returns-in-Some-clause-refused
returns-in-Some-clause-refused c =
    fault_found c.args.source.now c.args.sentence.now c.in-Some.place c.in_ok-judged.judged.fault c.requires.read
    (c.in_ok-judged.ensures.fault ∙ ap (λ (ts : List Token). least (faults (module_of c.args.source.now ts c.args.sentence.now.module))) c.deref.ensures.value)
    (sym c.sooner.ensures ∙ c.in-Some.is)

pub build-built-requires-clause-few : goal.build-built-requires-clause-few
build-built-requires-clause-few c =
    let laws = reads_by c.expr_by_operands.ensures.signal c.expr_by_operands.ensures.inverted c.expr_by_operands.ensures.and c.expr_by_operands.ensures.xor c.expr_by_operands.ensures.or in
    (stands laws c.one_token.ensures.some c.names_are_identifiers.ensures.plain c.args.source.now c.args.sentence.now c.deref.result.now c.in_ok-judged.judged.fault c.in_ok-judged.judged.names.signals c.in_ok-judged.judged.names.clocks c.requires.short c.requires.read c.deref.ensures.value
    c.in_ok-judged.ensures.fault c.in_ok-judged.ensures.signals c.in_ok-judged.ensures.clocks (sym c.sooner.ensures ∙ c.in-None.is)).few

pub build-built-requires-clause-accepted : goal.build-built-requires-clause-accepted
build-built-requires-clause-accepted c =
    let laws = reads_by c.expr_by_operands.ensures.signal c.expr_by_operands.ensures.inverted c.expr_by_operands.ensures.and c.expr_by_operands.ensures.xor c.expr_by_operands.ensures.or in
    (stands laws c.one_token.ensures.some c.names_are_identifiers.ensures.plain c.args.source.now c.args.sentence.now c.deref.result.now c.in_ok-judged.judged.fault c.in_ok-judged.judged.names.signals c.in_ok-judged.judged.names.clocks c.requires.short c.requires.read c.deref.ensures.value
    c.in_ok-judged.ensures.fault c.in_ok-judged.ensures.signals c.in_ok-judged.ensures.clocks (sym c.sooner.ensures ∙ c.in-None.is)).accepted

pub returns-in_err-design-in-None-clause-refused : goal.returns-in_err-design-in-None-clause-refused
returns-in_err-design-in-None-clause-refused c =
    let p = err_from_is_err_and c.from_residual-in_err-design-in-None.result c.from_residual-in_err-design-in-None.ensures.1 in
    rw (p.1, p.2) tt

pub returns-in_ok-design-in-None-clause-thin : goal.returns-in_ok-design-in-None-clause-thin
returns-in_ok-design-in-None-clause-thin c =
    let laws = reads_by c.expr_by_operands.ensures.signal c.expr_by_operands.ensures.inverted c.expr_by_operands.ensures.and c.expr_by_operands.ensures.xor c.expr_by_operands.ensures.or in
    subst (IsThin c.args.source.now) (sym (made c.build-built.result c.in_ok-design-in-None.design _ c.in_ok-design-in-None.was c.build-built.ensures))
    (stands laws c.one_token.ensures.some c.names_are_identifiers.ensures.plain c.args.source.now c.args.sentence.now c.deref.result.now c.in_ok-judged.judged.fault c.in_ok-judged.judged.names.signals c.in_ok-judged.judged.names.clocks c.requires.short c.requires.read c.deref.ensures.value
    c.in_ok-judged.ensures.fault c.in_ok-judged.ensures.signals c.in_ok-judged.ensures.clocks (sym c.sooner.ensures ∙ c.in-None.is)).thin

pub returns-in_ok-design-in-None-clause-plain : goal.returns-in_ok-design-in-None-clause-plain
returns-in_ok-design-in-None-clause-plain c =
    let laws = reads_by c.expr_by_operands.ensures.signal c.expr_by_operands.ensures.inverted c.expr_by_operands.ensures.and c.expr_by_operands.ensures.xor c.expr_by_operands.ensures.or in
    subst HasPlainNames (sym (made c.build-built.result c.in_ok-design-in-None.design _ c.in_ok-design-in-None.was c.build-built.ensures))
    (stands laws c.one_token.ensures.some c.names_are_identifiers.ensures.plain c.args.source.now c.args.sentence.now c.deref.result.now c.in_ok-judged.judged.fault c.in_ok-judged.judged.names.signals c.in_ok-judged.judged.names.clocks c.requires.short c.requires.read c.deref.ensures.value
    c.in_ok-judged.ensures.fault c.in_ok-judged.ensures.signals c.in_ok-judged.ensures.clocks (sym c.sooner.ensures ∙ c.in-None.is)).plain
