use Rattle.std.proofs.Common.{◌≡◌, ◌+◌, ◌*◌, ◌-◌}
use Rattle.vod_grammar.specs.Read.{repeat, repeat_within}
use Rattle.vod_grammar.specs.State.{left}
use Rattle.vod_grammar.specs.Words.{is_other}
use Rattle.vod_grammar.specs.declared.word.Word.TheVariants.{End}
use Rattle.vod_initial.specs.InitialForm.{initial_form}
use Rattle.vod_initial.proofs.statements.+initial.Given as goal

abbrev pub decreases-nested : goal.decreases-nested
decreases-nested l = 5 * l.depth

abbrev pub decreases-more_statements : goal.decreases-more_statements
decreases-more_statements l = 5 * l.depth + 1

abbrev pub decreases-boxed : goal.decreases-boxed
decreases-boxed l = 5 * l.depth + 1

abbrev pub decreases-for_loop : goal.decreases-for_loop
decreases-for_loop l = 5 * l.depth + 2

abbrev pub decreases-block : goal.decreases-block
decreases-block l = 5 * l.depth + 2

abbrev pub decreases-block_or_assigned : goal.decreases-block_or_assigned
decreases-block_or_assigned l = 5 * l.depth + 3

abbrev pub decreases-alternative : goal.decreases-alternative
decreases-alternative l = 5 * l.depth + 4

-- the statements so far, and those of the rounds that are left, are those that are read
abbrev pub invariant-more_statements-loop : goal.invariant-more_statements-loop
invariant-more_statements-loop l =
    repeat_within (l.end - l.counter) (is_other End) (initial_form l.depth).read l.body (left l.reader l.at)
    ≡ repeat (is_other End) (initial_form l.depth).read l.fn.body (left l.reader l.fn.at)
