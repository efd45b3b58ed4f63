-- The form of functions is exact.
use Rattle.std.proofs.Common.{◌≡◌, ℕ, Bool, true, false, ◌||◌, List, [], ◌∷◌, ◌++◌, Option, Some, refl, ◌∙◌, ap}
use Rattle.vod_token.specs.declared.TokenKind.TheVariants as kinds
use Rattle.vod_tree.specs.declared.declaration.Range.{Range}
use Rattle.vod_tree.specs.declared.ident.Ident.{Ident}
use Rattle.vod_tree.specs.declared.«module».Function.{Function}
use Rattle.vod_tree.specs.declared.«module».FunctionInput.{FunctionInput}
use Rattle.vod_tree.specs.declared.statement.Statement.{Statement}
use Rattle.vod_expr.specs.Grammar.{Lexeme, IsName, ident_of}
use Rattle.vod_grammar.specs.Form.{Sight, a_word, a_name, in_turn, changed, word_form, name_form, flag}
use Rattle.vod_grammar.specs.Laws.{Laws}
use Rattle.vod_grammar.specs.PartLaws.{mapped_laws, flag_laws}
use Rattle.vod_grammar.specs.Read.{first, passes}
use Rattle.vod_grammar.specs.ThenLaws.{then_laws}
use Rattle.vod_grammar.specs.TokenLaws.{word_laws, name_laws}
use Rattle.vod_grammar.specs.WordLaws.{is_word-other, is_word-name, word_is}
use Rattle.vod_grammar.specs.Words.{Is, is_word, are_same, same_kind, kind_of}
use Rattle.vod_grammar.specs.declared.word.Word.{Word}
use Rattle.vod_grammar.specs.declared.word.Word.TheVariants as word
use Rattle.vod_statement.specs.StatementForm.{starts_statement, statement_form}
use Rattle.vod_statement.specs.Statements.{IsStatement}
use Rattle.vod_statement.specs.declared.context.Context.TheVariants as context
use Rattle.vod_declaration.specs.Functions.{AreInputs}
use Rattle.vod_declaration.specs.FunctionsForm.{function_inputs, function_declarations, starts_function_declaration}
use Rattle.vod_declaration.specs.Parts.{IsFlag, absent, present, IsOptional, nothing, something}
use Rattle.vod_declaration.specs.PartsLaws.{flag_is, is_flag}
use Rattle.vod_declaration.specs.Ranges.{IsRange, bounds}
use Rattle.vod_declaration.specs.RangesForm.{range_form}
use Rattle.vod_parse.specs.Facts.{Facts, Not, Are, Of, Anything}
use Rattle.vod_parse.specs.Functions.{IsFunction, computed}
use Rattle.vod_parse.specs.FunctionsForm.{function_body, function_form}

-- a word is no first token of a flag, of a range, of a name
pub flag_not : (w v : Word) → are_same w v ≡ false → (ts : List Lexeme) (x : Bool) → IsFlag v ts x → (us : List Lexeme) (b : Option Lexeme) → Not w (first us b) → Not w (first (ts ++ us) b)
flag_not w v e _ _ absent us b n = n
flag_not w v e _ _ (present {t = t} h) us b n = is_word-other w v t h ∙ e

pub range_not : (w : Word) → are_same w word.OpenBracket ≡ false → (ts : List Lexeme) (x : Option Range) → IsOptional IsRange ts x → (us : List Lexeme) (b : Option Lexeme) → Not w (first us b) → Not w (first (ts ++ us) b)
range_not w e _ _ nothing us b n = n
range_not w e _ _ (something (bounds {opener = t} h p c q d)) us b n = is_word-other w word.OpenBracket t h ∙ e

-- no statement begins with `input` or `reg`
pub neither : (a b : Bool) → a ≡ false → b ≡ false → (a || b) ≡ false
neither a b e h = ap (λ v. v || b) e ∙ h

no_statement : (w : Word) → are_same word.If w ≡ false → are_same word.Case w ≡ false → are_same word.Begin w ≡ false → are_same word.Semicolon w ≡ false → are_same word.OpenBrace w ≡ false → same_kind (kind_of w) kinds.Name ≡ false
    → (t : Lexeme) → Is w t → starts_statement t ≡ false
no_statement w e1 e2 e3 e4 e5 e6 t h =
    neither (is_word word.If t) _ (is_word-other word.If w t h ∙ e1) (neither (is_word word.Case t) _ (is_word-other word.Case w t h ∙ e2)
    (neither (is_word word.Begin t) _ (is_word-other word.Begin w t h ∙ e3) (neither (is_word word.Semicolon t) _ (is_word-other word.Semicolon w t h ∙ e4)
    (neither (is_word word.OpenBrace t) _ (is_word-other word.OpenBrace w t h ∙ e5) (ap (λ k. same_kind k kinds.Name) h.kind ∙ e6)))))

pub not_both : {v : Bool} → v ≡ true → v ≡ false → ⊥
not_both e h = cc

-- so no declaration of a function begins with the first token of a statement
pub undeclared : (t : Lexeme) → starts_statement t ≡ true → starts_function_declaration t ≡ false
undeclared t e = neither (is_word word.Input t) (is_word word.Reg t) (by_input (is_word word.Input t) refl) (by_reg (is_word word.Reg t) refl)
  where
    by_input : (v : Bool) → is_word word.Input t ≡ v → is_word word.Input t ≡ false
    by_input true h = absurd (not_both e (no_statement word.Input refl refl refl refl refl refl t (word_is word.Input t h)))
    by_input false h = h

    by_reg : (v : Bool) → is_word word.Reg t ≡ v → is_word word.Reg t ≡ false
    by_reg true h = absurd (not_both e (no_statement word.Reg refl refl refl refl refl refl t (word_is word.Reg t h)))
    by_reg false h = h

module _ (facts : Facts) (size : ℕ) where
  body_is : (at : ℕ) (qs ss rs is : List Lexeme) (t : Lexeme) (a s : Bool) (r : Option Range) (i : Option (List FunctionInput))
      → IsFlag word.Automatic qs a → IsFlag word.Signed ss s → IsOptional IsRange rs r → IsName t → IsOptional AreInputs is i
      → (m : Sight) (vs : List Lexeme) (x : Function) (b : Option Lexeme) → (function_body size at a s r (ident_of t) i).phrase m vs x b → IsFunction at (qs ++ (ss ++ (rs ++ t ∷ (is ++ vs)))) x
  body_is at qs ss rs is t a s r i p q o h j m _ _ b (in_turn (a_word k) (in_turn {us = ds} {vs = rest} {x = d} u (in_turn {us = bs} {x = body} v (changed (a_word {t = last} l))))) =
      computed p q o h j k (facts.locals_are m ds d (first rest b) u) (facts.statement_are context.Function size 64 m bs body (Some last) v).is l

  pub function_is : (at : ℕ) → Are (function_form size at) (IsFunction at)
  function_is at m _ x b (in_turn {us = qs} {vs = v1} {x = a} p (in_turn {us = ss} {vs = v2} {x = s} q (in_turn {us = rs} {vs = v3} {x = r} o (in_turn (a_name {t = t} h) (in_turn {us = is} {vs = vs} {x = i} j u))))) =
      body_is at qs ss rs is t a s r i (flag_is word.Automatic m qs a (first v1 b) p) (flag_is word.Signed m ss s (first v2 b) q) (facts.range_are m rs r (first v3 b) o) h (facts.inputs_are m is i (first vs b) j) m vs x b u

  before_body : (bs : List Lexeme) (body : Statement) (o : Bool) (rest : List Lexeme) (b : Option Lexeme) → IsStatement context.Function o bs body → passes starts_function_declaration (first (bs ++ rest) b) ≡ false
  before_body bs body o rest b p =
      let s = facts.statement_starts context.Function o bs body p in
      ap (λ v. passes starts_function_declaration (first (v ++ rest) b)) s.2 ∙ undeclared s.0 s.3

  pub is_function : (at : ℕ) → Of (function_form size at) (IsFunction at) Anything
  is_function at m _ _ b e (computed {t = t} {semicolon = semicolon} {last = last} {qs = qs} {ss = ss} {rs = rs} {is = is} {ds = ds} {bs = bs} {a = a} {s = s} {r = r} {i = i} {d = d} {body = body} {open_ended = open_ended} p q o h j k u v l) =
      let vs : List Lexeme = is ++ semicolon ∷ (ds ++ (bs ++ last ∷ [])) in
      in_turn (is_flag word.Automatic m qs a (first (ss ++ (rs ++ t ∷ vs)) b)
      (flag_not word.Automatic word.Signed refl ss s q (rs ++ t ∷ vs) b (range_not word.Automatic refl rs r o (t ∷ vs) b (is_word-name word.Automatic t h))) p)
      (in_turn (is_flag word.Signed m ss s (first (rs ++ t ∷ vs) b) (range_not word.Signed refl rs r o (t ∷ vs) b (is_word-name word.Signed t h)) q)
      (in_turn (facts.of_range m rs r (Some t) (is_word-name word.OpenBracket t h) o)
      (in_turn (a_name h)
      (in_turn (facts.of_inputs m is i (Some semicolon) (is_word-other word.OpenParen word.Semicolon semicolon k) j)
      (in_turn (a_word k)
      (in_turn (facts.of_locals m ds d (first (bs ++ last ∷ []) b) (before_body bs body open_ended (last ∷ []) b v) u)
      (in_turn (facts.of_statement context.Function size 64 m bs body (Some last) (record { open_ended = open_ended; is = v; closed = λ x y. is_word-other word.Else word.Endfunction last l }))
      (changed (a_word l)))))))))

  body_laws : (at : ℕ) (a s : Bool) (r : Option Range) (n : Ident) (i : Option (List FunctionInput)) → Laws (function_body size at a s r n i)
  body_laws at a s r n i =
      then_laws (word_form word.Semicolon) _ (word_laws word.Semicolon) (λ _. then_laws function_declarations _ facts.locals
      (λ d. then_laws (statement_form context.Function size 64) _ (facts.statement context.Function size 64) (λ body. mapped_laws _ (word_form word.Endfunction) (word_laws word.Endfunction))))

  pub function_laws : (at : ℕ) → Laws (function_form size at)
  function_laws at =
      then_laws (flag word.Automatic) _ (flag_laws word.Automatic) (λ a. then_laws (flag word.Signed) _ (flag_laws word.Signed) (λ s. then_laws range_form _ facts.range
      (λ r. then_laws name_form _ name_laws (λ n. then_laws function_inputs _ facts.inputs (λ i. body_laws at a s r n i)))))
