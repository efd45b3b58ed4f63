use Rattle.std.proofs.Common.{◌≡◌, ◌+◌, ◌*◌, ◌-◌}
use Rattle.vod_grammar.specs.Read.{repeat, repeat_within}
use Rattle.vod_grammar.specs.State.{left}
use Rattle.vod_grammar.specs.Words.{is_other}
use Rattle.vod_grammar.specs.declared.word.Word.TheVariants.{End, Endcase}
use Rattle.vod_statement.specs.Reading.{statement_in}
use Rattle.vod_statement.specs.StatementForm.{item_form}
use Rattle.vod_statement.proofs.statements.+statement.Given as goal

abbrev pub decreases-nested : goal.decreases-nested
decreases-nested l = 10 * l.depth

abbrev pub decreases-boxed : goal.decreases-boxed
decreases-boxed l = 10 * l.depth + 1

abbrev pub decreases-default_item : goal.decreases-default_item
decreases-default_item l = 10 * l.depth + 1

abbrev pub decreases-valued_item : goal.decreases-valued_item
decreases-valued_item l = 10 * l.depth + 1

abbrev pub decreases-item_parts : goal.decreases-item_parts
decreases-item_parts l = 10 * l.depth + 2

abbrev pub decreases-branches : goal.decreases-branches
decreases-branches l = 10 * l.depth + 2

abbrev pub decreases-item : goal.decreases-item
decreases-item l = 10 * l.depth + 3

abbrev pub decreases-more_items : goal.decreases-more_items
decreases-more_items l = 10 * l.depth + 4

abbrev pub decreases-more_statements : goal.decreases-more_statements
decreases-more_statements l = 10 * l.depth + 4

abbrev pub decreases-case_items : goal.decreases-case_items
decreases-case_items l = 10 * l.depth + 5

abbrev pub decreases-chosen : goal.decreases-chosen
decreases-chosen l = 10 * l.depth + 6

abbrev pub decreases-cases : goal.decreases-cases
decreases-cases l = 10 * l.depth + 6

abbrev pub decreases-block : goal.decreases-block
decreases-block l = 10 * l.depth + 6

abbrev pub decreases-block_or_other : goal.decreases-block_or_other
decreases-block_or_other l = 10 * l.depth + 7

abbrev pub decreases-case_or_other : goal.decreases-case_or_other
decreases-case_or_other l = 10 * l.depth + 8

abbrev pub decreases-alternative : goal.decreases-alternative
decreases-alternative l = 10 * l.depth + 9

-- the items so far, and those of the rounds that are left, are those that are read
abbrev pub invariant-more_items-loop : goal.invariant-more_items-loop
invariant-more_items-loop l =
    repeat_within (l.end - l.counter) (is_other Endcase) (item_form (statement_in l.reader l.context l.depth)).read l.items (left l.reader l.at)
    ≡ repeat (is_other Endcase) (item_form (statement_in l.reader l.context l.depth)).read l.fn.items (left l.reader l.fn.at)

-- and so the statements
abbrev pub invariant-more_statements-loop : goal.invariant-more_statements-loop
invariant-more_statements-loop l =
    repeat_within (l.end - l.counter) (is_other End) (statement_in l.reader l.context l.depth).read l.body (left l.reader l.at)
    ≡ repeat (is_other End) (statement_in l.reader l.context l.depth).read l.fn.body (left l.reader l.fn.at)
