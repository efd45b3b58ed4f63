use Rattle.vod_instance.specs.GatesLaws.{gate_is, gate_fit, gate_laws, gate_shallow, gate_first, gate_starts, starts_word, gate_begins, gate_other, gate_name}
use Rattle.vod_instance.proofs.laws.gates_are_exact.Goals as goal

pub returns-clause-laws : goal.returns-clause-laws
returns-clause-laws c = gate_laws c.phrases_are_exact.ensures.expression

pub returns-clause-phrase : goal.returns-clause-phrase
returns-clause-phrase c = gate_is

pub returns-clause-gate : goal.returns-clause-gate
returns-clause-gate c = gate_fit c.phrases_are_exact.ensures.before

pub returns-clause-shallow : goal.returns-clause-shallow
returns-clause-shallow c = gate_shallow.none

pub returns-clause-first : goal.returns-clause-first
returns-clause-first c = gate_first

pub returns-clause-starts : goal.returns-clause-starts
returns-clause-starts c = gate_starts

pub returns-clause-word : goal.returns-clause-word
returns-clause-word c = starts_word

pub returns-clause-begins : goal.returns-clause-begins
returns-clause-begins c = gate_begins c.phrases_are_exact.ensures.before

pub returns-clause-other : goal.returns-clause-other
returns-clause-other c = gate_other

pub returns-clause-name : goal.returns-clause-name
returns-clause-name c = gate_name
