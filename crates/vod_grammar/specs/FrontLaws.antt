-- Tokens and what stands behind them.
use Rattle.std.proofs.Common.{◌≡◌, List, [], ◌∷◌, ◌++◌, Option, None, Some, refl, sym, ◌∙◌, ap, subst, append_assoc}
use Rattle.vod_expr.specs.Grammar.{Lexeme}
use Rattle.vod_expr.specs.declared.ParseFault.{ParseFault}
use Rattle.vod_grammar.specs.Form.{Form, Phrase, Alone, Before}
use Rattle.vod_grammar.specs.Laws.{Laws, Passed, AreLexemes, Begun}
use Rattle.vod_grammar.specs.Read.{Read, Got, Failed, first}

pub first-append : (us vs : List Lexeme) (b : Option Lexeme) → first (us ++ vs) b ≡ first us (first vs b)
first-append [] vs b = refl
first-append (u ∷ us) vs b = refl

-- what stands behind a front hangs on its first token
pub first_same : (front : List Lexeme) (t : Lexeme) (us other : List Lexeme) (b : Option Lexeme) → first (front ++ t ∷ us) b ≡ first (front ++ t ∷ other) b
first_same [] t us other b = refl
first_same (f ∷ front) t us other b = refl

-- a token behind a front is the first of the tokens from there on, or else the front's own
pub first_token : (front : List Lexeme) (t : Lexeme) (us : List Lexeme) (b : Option Lexeme) → first (front ++ t ∷ us) b ≡ first front (Some t)
first_token [] t us b = refl
first_token (f ∷ front) t us b = refl

pub lexemes_behind : (us vs : List Lexeme) → AreLexemes (us ++ vs) → AreLexemes vs
lexemes_behind [] vs all = all
lexemes_behind (u ∷ us) vs all = lexemes_behind us vs all.1

pub got_value : {A : Type 0} {x y : A} {ts us : List Lexeme} → Got x ts ≡ Got y us → x ≡ y
got_value h = cc

pub got_rest : {A : Type 0} {x y : A} {ts us : List Lexeme} → Got x ts ≡ Got y us → ts ≡ us
got_rest h = cc

pub failed_fault : {A : Type 0} {e f : ParseFault} → ◌≡◌ {A = Read A} (Failed e) (Failed f) → e ≡ f
failed_fault h = cc

pub got_failed : {A : Type 0} {x : A} {ts : List Lexeme} {e : ParseFault} → Got x ts ≡ Failed e → ⊥
got_failed h = cc

-- a phrase before some tokens is one before any that begin alike, or before the end
pub before_first : {A : Type 0} (f : Form A) → Laws f → (ts : List Lexeme) (x : A) (vs : List Lexeme) (b : Option Lexeme) → f.phrase Before ts x (first vs b) → f.phrase Before ts x (first vs None)
before_first f laws ts x [] b p = laws.ends ts x b p
before_first f laws ts x (v ∷ vs) b p = p

-- where tokens were read, no part of them is nested too deep
pub read_shallow : {A : Type 0} (f : Form A) → Laws f → (us mid : List Lexeme) (x : A) (rest : List Lexeme) → f.read (us ++ mid) ≡ Got x rest → Passed f.deep us → ⊥
read_shallow f laws us mid x rest h d =
    let fails = laws.halts d.front d.token (d.rest ++ mid) d.deep in
    let same : us ++ mid ≡ d.front ++ d.token ∷ (d.rest ++ mid) = ap (λ v. v ++ mid) d.split ∙ append_assoc d.front (d.token ∷ d.rest) mid in
    got_failed (sym h ∙ ap f.read same ∙ fails.1)

-- a part nested too deep among the first of two stretches of tokens, or in the second
pub passed_more : {A : Type 0} (f : Form A) (us vs : List Lexeme) → Passed f.deep us → Passed f.deep (us ++ vs)
passed_more f us vs d = record {
  front = d.front;
  token = d.token;
  rest = d.rest ++ vs;
  split = ap (λ v. v ++ vs) d.split ∙ append_assoc d.front (d.token ∷ d.rest) vs;
  deep = d.deep;
}

-- a phrase that begins with more tokens begins with fewer
pub begun_front : {A : Type 0} (P : Phrase A) (us vs : List Lexeme) → Begun P (us ++ vs) → Begun P us
begun_front P us vs b = record { more = vs ++ b.more; value = b.value; is = subst (λ v. P Alone v b.value None) (append_assoc us vs b.more) b.is }
