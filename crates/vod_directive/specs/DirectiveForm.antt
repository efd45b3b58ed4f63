-- How directives are read.
use Rattle.std.specs.Prelude.{Bool, true, false, List, [], ◌∷◌, Option, if◌then◌else◌}
use Rattle.vod_token.specs.declared.TokenKind.{TokenKind}
use Rattle.vod_token.specs.declared.TokenKind.TheVariants as kinds
use Rattle.vod_tree.specs.declared.module.Directive.{Directive}
use Rattle.vod_expr.specs.Grammar.{Lexeme}
use Rattle.vod_grammar.specs.Form.{Form, Sight, never}
use Rattle.vod_grammar.specs.Read.{Reading, Got, refuse}
use Rattle.vod_directive.specs.Meaning.{IsDirective, directive_of}

-- the tree of a directive, as the code finds it
abbrev pub directive_at : Lexeme → Directive
directive_at t = record { place = t.place; kind = directive_of t.text }

-- whether a token is one
abbrev pub is_directive_kind : TokenKind → Bool
is_directive_kind kinds.Directive = true
is_directive_kind kinds.Name = false
is_directive_kind kinds.Reserved = false
is_directive_kind kinds.Number = false
is_directive_kind kinds.Symbol = false

abbrev pub starts_directive : Lexeme → Bool
starts_directive t = is_directive_kind t.kind

abbrev pub directive_read : Reading Directive
directive_read [] = refuse []
directive_read (t ∷ ts) = if starts_directive t then Got (directive_at t) ts else refuse (t ∷ ts)

pub data DirectivePhrase : Sight → List Lexeme → Directive → Option Lexeme → Type 0 where
  a_directive : {m : Sight} {t : Lexeme} {x : Directive} {b : Option Lexeme} → IsDirective t x → DirectivePhrase m (t ∷ []) x b

abbrev pub directive_form : Form Directive
directive_form = record { read = directive_read; phrase = DirectivePhrase; deep = never }
