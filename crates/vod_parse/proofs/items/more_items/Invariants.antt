use Rattle.std.proofs.Common.{◌≡◌, ◌-◌, length}
use Rattle.vod_grammar.specs.Read.{repeat, repeat_within}
use Rattle.vod_grammar.specs.State.{left}
use Rattle.vod_grammar.specs.Words.{is_other}
use Rattle.vod_grammar.specs.declared.word.Word.TheVariants.{Endmodule}
use Rattle.vod_parse.specs.ItemsForm.{item_form}
use Rattle.vod_parse.proofs.items.more_items.Given as goal

-- the items so far, and those of the rounds that are left, are those that are read
abbrev pub invariant-loop : goal.invariant-loop
invariant-loop l =
    repeat_within (l.end - l.counter) (is_other Endmodule) (item_form (length l.reader.tokens.now)).read l.items (left l.reader l.at)
    ≡ repeat (is_other Endmodule) (item_form (length l.reader.tokens.now)).read l.fn.items (left l.reader l.fn.at)
