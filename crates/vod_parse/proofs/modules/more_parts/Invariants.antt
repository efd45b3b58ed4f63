use Rattle.std.proofs.Common.{◌≡◌, ◌-◌, length}
use Rattle.vod_grammar.specs.Read.{repeat, repeat_within}
use Rattle.vod_grammar.specs.State.{left}
use Rattle.vod_parse.specs.ModulesForm.{any, part_form}
use Rattle.vod_parse.proofs.modules.more_parts.Given as goal

-- the parts so far, and those of the rounds that are left, are those that are read
abbrev pub invariant-loop : goal.invariant-loop
invariant-loop l =
    repeat_within (l.end - l.counter) any (part_form (length l.reader.tokens.now)).read l.parts (left l.reader l.at)
    ≡ repeat any (part_form (length l.reader.tokens.now)).read l.fn.parts (left l.reader l.fn.at)
