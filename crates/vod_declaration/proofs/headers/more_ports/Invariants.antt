use Rattle.std.proofs.Common.{◌≡◌, false, ◌-◌, [], ◌∷◌}
use Rattle.vod_grammar.specs.Form.{behind}
use Rattle.vod_grammar.specs.Read.{repeat_by_within}
use Rattle.vod_grammar.specs.State.{left}
use Rattle.vod_grammar.specs.Words.{is_word}
use Rattle.vod_grammar.specs.declared.word.Word.TheVariants.{Comma}
use Rattle.vod_declaration.specs.PortsForm.{ends_in_reg, more_ports, port_form}
use Rattle.vod_declaration.proofs.headers.more_ports.Given as goal

-- the flag is that of the ports so far; they, and those of the rounds that are left, are those that are read
abbrev pub invariant-loop : goal.invariant-loop
invariant-loop l =
    (l.reg ≡ ends_in_reg false l.ports)
    × (repeat_by_within (l.end - l.counter) (is_word Comma) (λ before. (behind Comma (port_form (ends_in_reg false before))).read) l.ports (left l.reader l.at)
    ≡ (more_ports (l.fn.first ∷ [])).read (left l.reader l.fn.at))
