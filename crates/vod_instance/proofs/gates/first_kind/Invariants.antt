use Rattle.std.proofs.Common.{◌≡◌, drop}
use Rattle.vod_grammar.specs.State.{left}
use Rattle.vod_instance.specs.Gates.{gate_word}
use Rattle.vod_instance.specs.WordChoice.{word_read}
use Rattle.vod_instance.proofs.gates.first_kind.Given as goal

-- the kinds that are left read what all of them read
abbrev pub invariant-loop-kind : goal.invariant-loop-kind
invariant-loop-kind l = word_read gate_word (drop l.kind-index l.kinds) (left l.reader l.at) ≡ word_read gate_word l.kinds (left l.reader l.fn.at)
