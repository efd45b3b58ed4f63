-- The words of the kinds of gates.
use Rattle.std.proofs.Common.{◌≡◌, List, ◌∷◌}
use Rattle.vod_tree.specs.declared.instance.GateKind.TheVariants as kind
use Rattle.vod_expr.specs.Grammar.{Lexeme}
use Rattle.vod_instance.specs.Gates.{gate_word}
use Rattle.vod_instance.specs.GatesForm.{further_kinds, kind_form}
use Rattle.vod_instance.specs.WordChoice.{word_read}
use Rattle.vod_instance.specs.WordChoiceLaws.{one_of_read}

pub kind_read : (ts : List Lexeme) → kind_form.read ts ≡ word_read gate_word (kind.And ∷ further_kinds) ts
kind_read ts = one_of_read gate_word kind.And further_kinds ts
