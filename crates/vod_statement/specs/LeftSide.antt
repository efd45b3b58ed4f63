-- Left sides: which tokens are which tree (IEEE 1364-2005, A.8.5).
use Rattle.std.specs.Prelude.{ℕ, List, [], ◌∷◌, ◌++◌}
use Rattle.vod_tree.specs.declared.expr.Expr.{Expr}
use Rattle.vod_tree.specs.declared.statement.Lval.{Lval, roll-Lval}
use Rattle.vod_tree.specs.declared.statement.LvalKind.{LvalKind}
use Rattle.vod_tree.specs.declared.statement.LvalKind.TheVariants as kind
use Rattle.vod_expr.specs.Grammar.{Lexeme, IsName, IsExpr, ident_of}
use Rattle.vod_grammar.specs.Words.{Is}
use Rattle.vod_grammar.specs.declared.word.Word.TheVariants as word

-- a left side at a place
abbrev pub lval : ℕ → LvalKind → Lval
lval place k = roll-Lval (record { place = place; kind = k })

-- the tokens are a left side with this tree
mutual
  pub data IsLval : List Lexeme → Lval → Type 0 where
    name : {t : Lexeme} → IsName t → IsLval (t ∷ []) (lval t.place (kind.Name (ident_of t)))
    index : {t opener closer : Lexeme} {ts : List Lexeme} {a : Expr}
        → IsName t → Is word.OpenBracket opener → IsExpr 0 ts a → Is word.CloseBracket closer
        → IsLval (t ∷ opener ∷ (ts ++ closer ∷ [])) (lval t.place (kind.Index (ident_of t) a))
    range : {t opener colon closer : Lexeme} {ts us : List Lexeme} {a b : Expr}
        → IsName t → Is word.OpenBracket opener → IsExpr 0 ts a → Is word.Colon colon → IsExpr 0 us b → Is word.CloseBracket closer
        → IsLval (t ∷ opener ∷ (ts ++ colon ∷ (us ++ closer ∷ []))) (lval t.place (kind.Range (ident_of t) a b))
    concat : {opener closer : Lexeme} {ts : List Lexeme} {xs : List Lval}
        → Is word.OpenBrace opener → AreLvals ts xs → Is word.CloseBrace closer
        → IsLval (opener ∷ (ts ++ closer ∷ [])) (lval opener.place (kind.Concat xs))

  -- one left side or more, with `,` between
  pub data AreLvals : List Lexeme → List Lval → Type 0 where
    one : {ts : List Lexeme} {a : Lval} → IsLval ts a → AreLvals ts (a ∷ [])
    more : {comma : Lexeme} {ts us : List Lexeme} {a : Lval} {xs : List Lval}
        → Is word.Comma comma → IsLval ts a → AreLvals us xs → AreLvals (ts ++ comma ∷ us) (a ∷ xs)
