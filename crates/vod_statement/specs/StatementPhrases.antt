-- The statements are phrases of the form, before a token that isn't the `else` of an `if` that they end in.
use Rattle.std.proofs.Common.{◌≡◌, ℕ, Bool, true, false, not, List, [], ◌∷◌, ◌++◌, Option, None, Some, refl, ◌∙◌, ap}
use Rattle.vod_tree.specs.declared.statement.CaseItem.{CaseItem}
use Rattle.vod_tree.specs.declared.statement.Statement.{Statement}
use Rattle.vod_expr.specs.Grammar.{Lexeme}
use Rattle.vod_grammar.specs.Form.{Form, Sight, Before, a_word, nothing, in_turn, changed, put, led, unled, flag}
use Rattle.vod_grammar.specs.FrontLaws.{first-append}
use Rattle.vod_grammar.specs.ListLaws.{ReadBefore, Many, none, more, some, of_many, of_several, are_exprs}
use Rattle.vod_grammar.specs.Read.{first, passes}
use Rattle.vod_grammar.specs.WordLaws.{is_word-is, is_word-other}
use Rattle.vod_grammar.specs.Words.{Is, is_word, is_other, are_same}
use Rattle.vod_grammar.specs.declared.word.Word.{Word}
use Rattle.vod_grammar.specs.declared.word.Word.TheVariants as word
use Rattle.vod_statement.specs.FirstTokens.{Expressions, without_first, without_other, exprs_word, lval_word, statement_word, statements_word, item_word, items_word}
use Rattle.vod_statement.specs.LabelLaws.{label_into}
use Rattle.vod_statement.specs.LeftSideLaws.{is_lval}
use Rattle.vod_statement.specs.StatementForm.{StatementPhrase, only, both, around, item_form}
use Rattle.vod_statement.specs.Statements.{IsStatement, AreStatements, IsItem, AreItems, IsColon, assigned, alone, branches, cases, block, empty, no_statement, one_statement, values, default, no_item, one_item, no_colon, a_colon, assigns}
use Rattle.vod_statement.specs.declared.context.Context.{Context}
use Rattle.vod_statement.specs.declared.context.Context.TheVariants as context

-- behind a left side stands no `[`
assigns_select : (c : Context) → are_same word.OpenBracket (assigns c) ≡ false
assigns_select context.Always = refl
assigns_select context.Function = refl

-- the word ends what goes on at each other token
no_other : (w : Word) (t : Lexeme) → Is w t → is_other w t ≡ false
no_other w t h = ap not (is_word-is w t h)

-- before this token a statement may end in an `if` without `else`
abbrev NoElse : Option Lexeme → Type 0
NoElse b = passes (is_word word.Else) b ≡ false

module _ (c : Context) (size : ℕ) (read : ReadBefore) (known : Expressions) (f : Form Statement) (into : (m : Sight) (ts : List Lexeme) (x : Statement) (b : Option Lexeme) → StatementPhrase c m ts x b → f.phrase m ts x b) where
  -- a statement before no `else`
  pub open_into : (m : Sight) (o : Bool) (ts : List Lexeme) (x : Statement) (b : Option Lexeme) → NoElse b → IsStatement c o ts x → f.phrase m ts x b
  open_into m o ts x b n s = into m ts x b (record { open_ended = o; is = s; closed = λ e k. n })

  pub colon_into : (m : Sight) (ts : List Lexeme) (b : Option Lexeme) → passes (is_word word.Colon) b ≡ false → IsColon ts → (x : Bool) × (flag word.Colon).phrase m ts x b
  colon_into m _ b n (a_colon k) = (true, led k nothing)
  colon_into m _ b n no_colon = (false, unled (λ e. n) nothing)

  -- statements before `end`
  body_into : (m : Sight) (ts : List Lexeme) (xs : List Statement) (b : Option Lexeme) → NoElse b → passes (is_other word.End) b ≡ false → AreStatements c ts xs → Many (is_other word.End) f.phrase m ts xs b
  body_into m _ _ b n e no_statement = none (λ k. e)
  body_into m _ _ b n e (one_statement {ts = ts} {us = us} {a = x} {xs = xs} {open_ended = o} s ss) =
      more
      (λ k. without_other word.End ts None (statement_word c word.End (refl, refl, refl, refl, refl) o ts x s))
      (open_into m o ts x (first us b) (statements_word c word.Else (refl, refl, refl, refl, refl) us xs b n ss) s)
      (body_into m us xs b n e ss)

  pub item_into : (m : Sight) (ts : List Lexeme) (x : CaseItem) (b : Option Lexeme) → NoElse b → IsItem c ts x → (item_form f).phrase m ts x b
  unfolding item_form
  item_into m _ _ b n (values {t = t} {colon = colon} {ts = ts} {us = us} {xs = xs} {body = body} {open_ended = o} d k s) =
      put (unled (λ e. exprs_word known word.Default refl t ts xs d)
      (in_turn (are_exprs read m (t ∷ ts) xs word.Colon colon k refl (is_word-other word.Comma word.Colon colon k) d) (in_turn (a_word k) (changed (open_into m o us body b n s)))))
  item_into m _ _ b n (default {t = t} {ts = ts} {us = us} {body = body} {open_ended = o} h k s) =
      let q = colon_into m ts (first us b) (without_first word.Colon us b (statement_word c word.Colon (refl, refl, refl, refl, refl) o us body s)) k in
      put (led h (in_turn q.1 (changed (open_into m o us body b n s))))

  -- items before `endcase`
  items_into : (m : Sight) (ts : List Lexeme) (xs : List CaseItem) (b : Option Lexeme) → NoElse b → passes (is_other word.Endcase) b ≡ false → AreItems c ts xs → Many (is_other word.Endcase) (item_form f).phrase m ts xs b
  items_into m _ _ b n e no_item = none (λ k. e)
  items_into m _ _ b n e (one_item {ts = ts} {us = us} {a = x} {xs = xs} i is) =
      more
      (λ k. without_other word.Endcase ts None (item_word known c word.Endcase refl refl ts x i))
      (item_into m ts x (first us b) (items_word known c word.Else refl refl us xs b n is) i)
      (items_into m us xs b n e is)

  pub around_into : (m : Sight) (o : Bool) (ts : List Lexeme) (x : Statement) (b : Option Lexeme) → (m ≡ Before → o ≡ true → NoElse b) → IsStatement c o ts x → (around c size f).phrase m ts x b
  around_into m _ _ _ b n (assigned {t = t} {equals = equals} {semicolon = semicolon} {ts = ts} {us = us} {target = target} {value = value} d e v k) =
      put
      (unled (λ z. lval_word word.If refl t ts target d)
      (unled (λ z. lval_word word.Case refl t ts target d)
      (unled (λ z. lval_word word.Begin refl t ts target d)
      (unled (λ z. lval_word word.Semicolon refl t ts target d)
      (in_turn (is_lval read size m (t ∷ ts) target (Some equals) (is_word-other word.OpenBracket (assigns c) equals e ∙ assigns_select c) d)
      (in_turn (a_word e) (in_turn (read m us value word.Semicolon semicolon v k refl) (changed (a_word k)))))))))
  around_into m _ _ _ b n (alone {closer = closer} {ts = ts} {us = us} {test = test} {body = body} {open_ended = o} h p e k s) =
      put (led h (in_turn (a_word p) (in_turn (read m ts test word.CloseParen closer e k refl) (in_turn (a_word k)
      (changed (only (λ z. n z refl) (into m us body b (record { open_ended = o; is = s; closed = λ z r. n z refl }))))))))
  around_into m _ _ _ b n (branches {closer = closer} {other = other} {ts = ts} {us = us} {vs = vs} {test = test} {a = x} {b = y} {open_ended = o} h p e k s l r) =
      put (led h (in_turn (a_word p) (in_turn (read m ts test word.CloseParen closer e k refl) (in_turn (a_word k)
      (changed (both (into Before us x (Some other) (record { open_ended = false; is = s; closed = λ z q. cc })) l
      (into m vs y b (record { open_ended = o; is = r; closed = n }))))))))
  around_into m _ _ _ b n (cases {t = t} {closer = closer} {last = last} {ts = ts} {us = us} {vs = vs} {value = value} {x = x} {xs = xs} h p e k i is l) =
      let els : is_word word.Else last ≡ false = is_word-other word.Else word.Endcase last l in
      put (unled (λ z. is_word-other word.If word.Case t h)
      (led h (in_turn (a_word p) (in_turn (read m ts value word.CloseParen closer e k refl) (in_turn (a_word k)
      (in_turn (of_several (is_other word.Endcase) (item_form f) m (us ++ vs) (x ∷ xs) (Some last)
      (some (item_into m us x (first vs (Some last)) (items_word known c word.Else refl refl vs xs (Some last) els is) i)
      (items_into m vs xs (Some last) els (no_other word.Endcase last l) is)))
      (changed (a_word l))))))))
  around_into m _ _ _ b n (block {t = t} {last = last} {ts = ts} {us = us} {name = name} {body = body} h d s l) =
      let colon : passes (is_word word.Colon) (first us (Some last)) ≡ false = statements_word c word.Colon (refl, refl, refl, refl, refl) us body (Some last) (is_word-other word.Colon word.End last l) s in
      put (unled (λ z. is_word-other word.If word.Begin t h) (unled (λ z. is_word-other word.Case word.Begin t h)
      (led h (in_turn (label_into m ts name (first (us ++ last ∷ []) b) (ap (passes (is_word word.Colon)) (first-append us (last ∷ []) b) ∙ colon) d)
      (in_turn (of_many (is_other word.End) f m us body (Some last) (body_into m us body (Some last) (is_word-other word.Else word.End last l) (no_other word.End last l) s))
      (changed (a_word l)))))))
  around_into m _ _ _ b n (empty {t = t} h) =
      put (unled (λ z. is_word-other word.If word.Semicolon t h) (unled (λ z. is_word-other word.Case word.Semicolon t h) (unled (λ z. is_word-other word.Begin word.Semicolon t h) (led h nothing))))
