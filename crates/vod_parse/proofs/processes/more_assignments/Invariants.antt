use Rattle.std.proofs.Common.{◌≡◌, ◌-◌, length}
use Rattle.vod_grammar.specs.Form.{behind}
use Rattle.vod_grammar.specs.Read.{repeat, repeat_within}
use Rattle.vod_grammar.specs.State.{left}
use Rattle.vod_grammar.specs.Words.{is_word}
use Rattle.vod_grammar.specs.declared.word.Word.TheVariants.{Comma}
use Rattle.vod_parse.specs.ProcessesForm.{assignment_form}
use Rattle.vod_parse.proofs.processes.more_assignments.Given as goal

-- the assignments so far, and those of the rounds that are left, are those that are read
abbrev pub invariant-loop : goal.invariant-loop
invariant-loop l =
    repeat_within (l.end - l.counter) (is_word Comma) (behind Comma (assignment_form (length l.reader.tokens.now))).read l.assignments (left l.reader l.at)
    ≡ repeat (is_word Comma) (behind Comma (assignment_form (length l.reader.tokens.now))).read l.fn.assignments (left l.reader l.fn.at)
