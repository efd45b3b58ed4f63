use Rattle.std.proofs.Common.{◌<◌, [], arith}
use Rattle.vod_instance.specs.FirstTokens.{Expressions}
use Rattle.vod_instance.specs.InstancesLaws.{instances_are, instances_fit, instances_laws, instances_shallow, instances_first, instances_begin}
use Rattle.vod_instance.proofs.laws.instances_are_exact.Goals as goal

known : goal.After-none_begins → Expressions
known c = record {
  some = λ a d. let k : 0 < 0 = c.one_answer.ensures.some [] a 0 (c.answer_before.ensures.last [] a d) in omega (arith, k);
  none = c.none_begins.ensures.none;
}

pub returns-clause-laws : goal.returns-clause-laws
returns-clause-laws c = instances_laws c.phrases_are_exact.ensures.expression

pub returns-clause-phrase : goal.returns-clause-phrase
returns-clause-phrase c = instances_are

pub returns-clause-instances : goal.returns-clause-instances
returns-clause-instances c = instances_fit c.phrases_are_exact.ensures.before (known c)

pub returns-clause-shallow : goal.returns-clause-shallow
returns-clause-shallow c = instances_shallow.none

pub returns-clause-first : goal.returns-clause-first
returns-clause-first c = instances_first

pub returns-clause-begins : goal.returns-clause-begins
returns-clause-begins c = instances_begin c.phrases_are_exact.ensures.before (known c)
