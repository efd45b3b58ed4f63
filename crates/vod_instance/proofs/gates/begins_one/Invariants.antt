use Rattle.std.proofs.Common.{◌≡◌, drop, None}
use Rattle.vod_grammar.specs.Read.{first, passes}
use Rattle.vod_grammar.specs.State.{left}
use Rattle.vod_instance.specs.Gates.{gate_word}
use Rattle.vod_instance.specs.WordChoice.{is_one_of}
use Rattle.vod_instance.proofs.gates.begins_one.Given as goal

-- the kinds that are left tell what all of them tell
abbrev pub invariant-loop-kind : goal.invariant-loop-kind
invariant-loop-kind l = passes (is_one_of gate_word (drop l.kind-index l.kinds)) (first (left l.reader l.at) None) ≡ passes (is_one_of gate_word l.kinds) (first (left l.reader l.at) None)
