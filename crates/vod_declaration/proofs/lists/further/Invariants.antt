use Rattle.std.proofs.Common.{◌≡◌, ◌-◌}
use Rattle.vod_grammar.specs.Read.{repeat, repeat_within, behind}
use Rattle.vod_grammar.specs.State.{left}
use Rattle.vod_grammar.specs.Words.{is_word}
use Rattle.vod_grammar.specs.declared.word.Word.TheVariants.{Comma}
use Rattle.vod_declaration.proofs.lists.further.Given as goal

-- the parts so far, and those of the rounds that are left, are those that are read
abbrev pub invariant-loop : goal.invariant-loop
invariant-loop g l =
    repeat_within (l.end - l.counter) (is_word Comma) (behind Comma g.P.Phrase.reading) l.nodes (left l.reader l.at)
    ≡ repeat (is_word Comma) (behind Comma g.P.Phrase.reading) l.fn.nodes (left l.reader l.fn.at)
