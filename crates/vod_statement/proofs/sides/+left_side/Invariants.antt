use Rattle.std.proofs.Common.{◌≡◌, ◌+◌, ◌*◌, ◌-◌}
use Rattle.vod_grammar.specs.Form.{behind}
use Rattle.vod_grammar.specs.Read.{repeat, repeat_within}
use Rattle.vod_grammar.specs.State.{left}
use Rattle.vod_grammar.specs.Words.{is_word}
use Rattle.vod_grammar.specs.declared.word.Word.TheVariants.{Comma}
use Rattle.vod_statement.specs.LeftSideForm.{lval_form}
use Rattle.vod_statement.proofs.sides.+left_side.Given as goal

abbrev pub decreases-nested : goal.decreases-nested
decreases-nested l = 4 * l.depth

abbrev pub decreases-more_left_sides : goal.decreases-more_left_sides
decreases-more_left_sides l = 4 * l.depth + 1

abbrev pub decreases-left_sides : goal.decreases-left_sides
decreases-left_sides l = 4 * l.depth + 2

abbrev pub decreases-concatenation : goal.decreases-concatenation
decreases-concatenation l = 4 * l.depth + 3

-- the left sides so far, and those of the rounds that are left, are those that are read
abbrev pub invariant-more_left_sides-loop : goal.invariant-more_left_sides-loop
invariant-more_left_sides-loop l =
    repeat_within (l.end - l.counter) (is_word Comma) (behind Comma (lval_form l.depth)).read l.parts (left l.reader l.at)
    ≡ repeat (is_word Comma) (behind Comma (lval_form l.depth)).read l.fn.parts (left l.reader l.fn.at)
