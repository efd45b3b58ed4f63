-- Whole texts: what is said of their tokens where they are read, and where they are refused.
use Rattle.std.specs.Prelude.{◌≡◌, ℕ, List, [], ◌∷◌, ◌++◌}
use Rattle.vod_expr.specs.Grammar.{Lexeme}
use Rattle.vod_expr.specs.declared.ParseFault.{ParseFault}
use Rattle.vod_expr.specs.declared.ParseFault.TheVariants.{At, End, Statement, Memory}
use Rattle.vod_grammar.specs.Form.{Depth}
use Rattle.vod_grammar.specs.Laws.{Passed}

-- which tokens are which sentence
abbrev pub Sentence : Type 0 → Type 1
Sentence A = List Lexeme → A → Type 0

-- a sentence begins with these tokens
abbrev pub Begins : {A : Type 0} → Sentence A → List Lexeme → Type 0
Begins {A} R front = (more : List Lexeme) × (x : A) × R (front ++ more) x

-- no part among these tokens is nested too deep
abbrev pub Shallow : Depth → List Lexeme → Type 0
Shallow D ts = Passed D ts → ⊥

-- the tokens are this sentence
pub record IsWhole {A : Type 0} (R : Sentence A) (D : Depth) (ts : List Lexeme) (x : A) : Type 0 where
  pub is : R ts x
  pub shallow : Shallow D ts

-- the first token with which no sentence begins, up to and including it; none before it is nested too deep
pub record IsWrongAt {A : Type 0} (R : Sentence A) (D : Depth) (ts : List Lexeme) (place : ℕ) : Type 0 where
  pub front : List Lexeme
  pub token : Lexeme
  pub rest : List Lexeme
  pub split : ts ≡ front ++ token ∷ rest
  pub is : place ≡ token.place
  pub begins : Begins R front
  pub wrong : Begins R (front ++ token ∷ []) → ⊥
  pub shallow : Shallow D (front ++ token ∷ [])

-- a sentence begins with all tokens, and they are none; none is nested too deep
pub record IsUnfinished {A : Type 0} (R : Sentence A) (D : Depth) (ts : List Lexeme) : Type 0 where
  pub begins : Begins R ts
  pub none : (x : A) → R ts x → ⊥
  pub shallow : Shallow D ts

-- the first token that begins a part that is nested too deep; a sentence begins with the tokens up to and including it
pub record IsTooDeepAt {A : Type 0} (R : Sentence A) (D : Depth) (ts : List Lexeme) (place : ℕ) : Type 0 where
  pub front : List Lexeme
  pub token : Lexeme
  pub rest : List Lexeme
  pub split : ts ≡ front ++ token ∷ rest
  pub is : place ≡ token.place
  pub deep : D front token
  pub begins : Begins R (front ++ token ∷ [])
  pub shallow : Shallow D front

-- why a text is refused
abbrev pub Refuses : {A : Type 0} → Sentence A → Depth → List Lexeme → ParseFault → Type 0
Refuses R D ts (At place) = IsWrongAt R D ts place
Refuses R D ts End = IsUnfinished R D ts
Refuses R D ts (Statement place) = IsTooDeepAt R D ts place
Refuses R D ts Memory = ⊥
