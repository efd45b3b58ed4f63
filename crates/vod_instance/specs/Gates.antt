-- Gates (IEEE 1364-2005, A.3.1 and A.3.4): which tokens are which tree.
use Rattle.std.specs.Prelude.{ℕ, List, [], ◌∷◌, ◌++◌, Option, None, Some}
use Rattle.vod_tree.specs.declared.expr.Expr.{Expr}
use Rattle.vod_tree.specs.declared.ident.Ident.{Ident}
use Rattle.vod_tree.specs.declared.instance.Gate.{Gate}
use Rattle.vod_tree.specs.declared.instance.GateKind.{GateKind}
use Rattle.vod_tree.specs.declared.instance.GateKind.TheVariants as kind
use Rattle.vod_tree.specs.declared.instance.GateTerminals.{GateTerminals}
use Rattle.vod_expr.specs.Grammar.{Lexeme, IsName, AreExprs, ident_of}
use Rattle.vod_grammar.specs.Words.{Is}
use Rattle.vod_grammar.specs.declared.word.Word.{Word}
use Rattle.vod_grammar.specs.declared.word.Word.TheVariants as word
use Rattle.vod_instance.specs.Listed.{AreListed}

-- the word of a kind of gate
abbrev pub gate_word : GateKind → Word
gate_word kind.And = word.And
gate_word kind.Nand = word.Nand
gate_word kind.Or = word.Or
gate_word kind.Nor = word.Nor
gate_word kind.Xor = word.Xor
gate_word kind.Xnor = word.Xnor
gate_word kind.Buf = word.Buf
gate_word kind.Not = word.Not

-- a gate at a place, with a name or none
abbrev pub terminals : ℕ → Option Ident → List Expr → GateTerminals
terminals place name xs = record { place = place; name = name; terminals = xs }

-- gates of one kind
abbrev pub gates : GateKind → List GateTerminals → Gate
gates k xs = record { kind = k; gates = xs }

-- a name or none, and terminals in parentheses
pub data IsTerminals : List Lexeme → GateTerminals → Type 0 where
  unnamed : {opener closer : Lexeme} {ts : List Lexeme} {xs : List Expr}
      → Is word.OpenParen opener → AreExprs ts xs → Is word.CloseParen closer
      → IsTerminals (opener ∷ (ts ++ closer ∷ [])) (terminals opener.place None xs)
  named : {t opener closer : Lexeme} {ts : List Lexeme} {xs : List Expr}
      → IsName t → Is word.OpenParen opener → AreExprs ts xs → Is word.CloseParen closer
      → IsTerminals (t ∷ opener ∷ (ts ++ closer ∷ [])) (terminals t.place (Some (ident_of t)) xs)

-- the word of a kind, gates of that kind with `,` between, and `;`
pub data IsGate : List Lexeme → Gate → Type 0 where
  of_kind : {t semicolon : Lexeme} {k : GateKind} {ts : List Lexeme} {xs : List GateTerminals}
      → Is (gate_word k) t → AreListed IsTerminals ts xs → Is word.Semicolon semicolon
      → IsGate (t ∷ (ts ++ semicolon ∷ [])) (gates k xs)
