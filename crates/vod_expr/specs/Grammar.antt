-- The expressions of the grammar: which tokens are which tree.
use Rattle.std.specs.Prelude.{◌≡◌, ℕ, suc, ◌≤◌, List, [], ◌∷◌, ◌++◌, length, take, map, codes}
use Rattle.vod_token.specs.Literal.{StandsFor}
use Rattle.vod_token.specs.Nesting.{slice_of}
use Rattle.vod_token.specs.Span.{IsTokenText}
use Rattle.vod_token.specs.declared.Token.{Token}
use Rattle.vod_token.specs.declared.TokenKind.TheVariants as kinds
use Rattle.vod_token.specs.declared.value.Literal.{Literal}
use Rattle.vod_tree.specs.declared.expr.Expr.{Expr}
use Rattle.vod_tree.specs.declared.expr.ExprKind.{ExprKind}
use Rattle.vod_tree.specs.declared.expr.ExprKind.TheVariants as e
use Rattle.vod_tree.specs.declared.expr.UnaryOp.{UnaryOp}
use Rattle.vod_tree.specs.declared.expr.BinaryOp.{BinaryOp}
use Rattle.vod_tree.specs.declared.ident.Number.{Number}
pub use Rattle.vod_expr_machine.specs.Lexeme.{Lexeme, ident_of, number_from, at}
use Rattle.vod_expr.specs.Operators.{unary_text, binary_text, tight}

-- a token of a source, and a list of them
abbrev pub lexeme : List ℕ → Token → Lexeme
lexeme source t = record { kind = t.kind; text = slice_of source t; place = t.start }

abbrev pub lexemes : List ℕ → List Token → List Lexeme
lexemes source ts = map (lexeme source) ts

-- the token is this symbol
abbrev pub IsSymbol : Lexeme → List ℕ → Type 0
IsSymbol t text = (t.kind ≡ kinds.Symbol) × (t.text ≡ text)

-- the token is a name
abbrev pub IsName : Lexeme → Type 0
IsName t = t.kind ≡ kinds.Name

-- the token is a number, with this tree
abbrev pub IsNumber : Lexeme → Number → Type 0
IsNumber t n = (t.kind ≡ kinds.Number) × ((literal : Literal) × StandsFor t.text literal × (n ≡ number_from t.place literal))

-- a token of a source, as far as the grammar sees it: its text is spelled as a token of its kind
abbrev pub IsLexeme : Lexeme → Type 0
IsLexeme t = IsTokenText t.text t.kind

-- The tokens are an expression with this tree, whose outermost operator binds at least as tightly as a level: an operator
-- between two operands has its own level on its left and the next on its right, so equal ones group from the left; `?:` is at
-- level 0 and its last part too, so it groups from the right; an operator before a primary is at 11, and a primary at each
-- level (5.1.2).
mutual
  pub data IsExpr : ℕ → List Lexeme → Expr → Type 0 where
    number : (k : ℕ) (t : Lexeme) (n : Number) → IsNumber t n → IsExpr k (t ∷ []) (at t.place (e.Number n))
    name : (k : ℕ) (t : Lexeme) → IsName t → IsExpr k (t ∷ []) (at t.place (e.Name (ident_of t)))
    index : (k : ℕ) (t opener closer : Lexeme) (ts : List Lexeme) (a : Expr)
        → IsName t → IsSymbol opener (codes "[") → IsExpr 0 ts a → IsSymbol closer (codes "]")
        → IsExpr k (t ∷ opener ∷ (ts ++ closer ∷ [])) (at t.place (e.Index (ident_of t) a))
    range : (k : ℕ) (t opener colon closer : Lexeme) (ts us : List Lexeme) (a b : Expr)
        → IsName t → IsSymbol opener (codes "[") → IsExpr 0 ts a → IsSymbol colon (codes ":")
        → IsExpr 0 us b → IsSymbol closer (codes "]")
        → IsExpr k (t ∷ opener ∷ (ts ++ colon ∷ (us ++ closer ∷ []))) (at t.place (e.Range (ident_of t) a b))
    call : (k : ℕ) (t opener closer : Lexeme) (ts : List Lexeme) (xs : List Expr)
        → IsName t → IsSymbol opener (codes "(") → AreExprs ts xs → IsSymbol closer (codes ")")
        → IsExpr k (t ∷ opener ∷ (ts ++ closer ∷ [])) (at t.place (e.Call (ident_of t) xs))
    paren : (k : ℕ) (opener closer : Lexeme) (ts : List Lexeme) (a : Expr)
        → IsSymbol opener (codes "(") → IsExpr 0 ts a → IsSymbol closer (codes ")")
        → IsExpr k (opener ∷ (ts ++ closer ∷ [])) (at opener.place (e.Paren a))
    concat : (k : ℕ) (opener closer : Lexeme) (ts : List Lexeme) (xs : List Expr)
        → IsSymbol opener (codes "{") → AreExprs ts xs → IsSymbol closer (codes "}")
        → IsExpr k (opener ∷ (ts ++ closer ∷ [])) (at opener.place (e.Concat xs))
    replicate : (k : ℕ) (opener inner closer outer : Lexeme) (ts us : List Lexeme) (a : Expr) (xs : List Expr)
        → IsSymbol opener (codes "{") → IsExpr 0 ts a → IsSymbol inner (codes "{")
        → AreExprs us xs → IsSymbol closer (codes "}") → IsSymbol outer (codes "}")
        → IsExpr k (opener ∷ (ts ++ inner ∷ (us ++ closer ∷ outer ∷ []))) (at opener.place (e.Replicate a xs))
    prefixed : (k : ℕ) (t : Lexeme) (op : UnaryOp) (ts : List Lexeme) (a : Expr)
        → k ≤ 11 → IsSymbol t (unary_text op) → IsExpr 12 ts a
        → IsExpr k (t ∷ ts) (at t.place (e.Unary op a))
    joined : (k : ℕ) (t : Lexeme) (op : BinaryOp) (ts us : List Lexeme) (place : ℕ) (a : ExprKind) (b : Expr)
        → IsSymbol t (binary_text op) → k ≤ tight op
        → IsExpr (tight op) ts (at place a) → IsExpr (suc (tight op)) us b
        → IsExpr k (ts ++ t ∷ us) (at place (e.Binary op (at place a) b))
    choice : (mark colon : Lexeme) (ts us vs : List Lexeme) (place : ℕ) (a : ExprKind) (b c : Expr)
        → IsSymbol mark (codes "?") → IsSymbol colon (codes ":")
        → IsExpr 1 ts (at place a) → IsExpr 0 us b → IsExpr 0 vs c
        → IsExpr 0 (ts ++ mark ∷ (us ++ colon ∷ vs)) (at place (e.Conditional (at place a) b c))

  -- one expression or more, with `,` between
  pub data AreExprs : List Lexeme → List Expr → Type 0 where
    one : (ts : List Lexeme) (a : Expr) → IsExpr 0 ts a → AreExprs ts (a ∷ [])
    more : (comma : Lexeme) (ts us : List Lexeme) (a : Expr) (xs : List Expr) → IsSymbol comma (codes ",")
        → IsExpr 0 ts a → AreExprs us xs → AreExprs (ts ++ comma ∷ us) (a ∷ xs)

-- the tokens begin some expression
abbrev pub Begins : List Lexeme → Type 0
Begins ts = (rest : List Lexeme) × (a : Expr) × IsExpr 0 (ts ++ rest) a

-- the longest front with which some expression begins has this length
pub record IsLongest (ts : List Lexeme) (n : ℕ) : Type 0 where
  pub within : n ≤ length ts
  pub begins : Begins (take n ts)
  pub longest : (m : ℕ) → m ≤ length ts → Begins (take m ts) → m ≤ n
