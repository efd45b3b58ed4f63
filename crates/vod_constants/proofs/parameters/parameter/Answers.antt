use Rattle.std.proofs.Common.{sym, ◌∙◌, ap, Option}
use Rattle.vod_tree.specs.declared.declaration.ParameterType.{ParameterType}
use Rattle.vod_operand.specs.Operands.{join, first}
use Rattle.vod_operand.specs.FaultLaws.{first_append}
use Rattle.vod_width.specs.Sizes.{look, constant_faults}
use Rattle.vod_constants.specs.Constants.{vector_faults, vector_span, parameter_of, parameter_faults, given_value}
use Rattle.vod_constants.specs.Found.{signed_value, typed_by}
use Rattle.vod_constants.proofs.Settled.{chosen_value, typed_sound}
use Rattle.vod_constants.proofs.parameters.parameter.Goals as goal

pub returns-in_ok-range-in-Some-clause-declared : goal.returns-in_ok-range-in-Some-clause-declared
returns-in_ok-range-in-Some-clause-declared c =
    let d = c.args.decls.now in
    let t = c.in-Some.kind in
    let x = look d c.args.value.now in
    let range = c.in_ok-range-in-Some.ensures in
    let value = ap signed_value c.given_value-value.ensures ∙ chosen_value c.args.given c.in_ok-own.own.value x c.in_ok-own.ensures.value in
    c.typed.ensures ∙ ap (λ s. typed_by t.signed s (signed_value c.given_value-value.result)) range.range
    ∙ typed_sound t.signed (vector_faults d t.range) (vector_span d t.range) (signed_value c.given_value-value.result)
    ∙ ap (λ v. Rattle.vod_constants.specs.Constants.typed t.signed (vector_faults d t.range) (vector_span d t.range) v) value
    ∙ ap (λ (k : Option ParameterType). parameter_of d k c.args.value.now c.args.given) (sym c.in-Some.is)

pub returns-in_ok-range-in-Some-clause-fault : goal.returns-in_ok-range-in-Some-clause-fault
returns-in_ok-range-in-Some-clause-fault c =
    let d = c.args.decls.now in
    let t = c.in-Some.kind in
    c.join.ensures ∙ ap (λ f. join f c.in_ok-own.own.fault) c.in_ok-range-in-Some.ensures.fault
    ∙ ap (join (first (vector_faults d t.range))) c.in_ok-own.ensures.fault
    ∙ sym (first_append (vector_faults d t.range) (constant_faults (look d c.args.value.now)))
    ∙ ap (λ (k : Option ParameterType). first (parameter_faults d k c.args.value.now)) (sym c.in-Some.is)
