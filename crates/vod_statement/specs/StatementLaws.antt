-- The form of statements is exact: its phrases are the statements.
use Rattle.std.proofs.Common.{◌≡◌, ℕ, Bool, true, false, List, [], ◌∷◌, ◌++◌, Option, Some, refl, sym, ◌∙◌, subst}
use Rattle.vod_tree.specs.declared.expr.Expr.{Expr}
use Rattle.vod_tree.specs.declared.ident.Ident.{Ident}
use Rattle.vod_tree.specs.declared.statement.CaseItem.{CaseItem}
use Rattle.vod_tree.specs.declared.statement.Lval.{Lval}
use Rattle.vod_tree.specs.declared.statement.Statement.{Statement}
use Rattle.vod_tree.specs.declared.statement.CaseLabel.{CaseLabel}
use Rattle.vod_tree.specs.declared.statement.CaseLabel.TheVariants as label
use Rattle.vod_tree.specs.declared.statement.StatementKind.{StatementKind}
use Rattle.vod_tree.specs.declared.statement.StatementKind.TheVariants as kind
use Rattle.vod_expr.specs.Grammar.{Lexeme, IsExpr, AreExprs}
use Rattle.vod_grammar.specs.Form.{Form, Sight, Before, an_expression, a_word, nothing, in_turn, changed, put, led, unled, word_form, then, mapped, several}
use Rattle.vod_grammar.specs.ListLaws.{Many, none, more, Several, some, many_of, several_of, exprs_are}
use Rattle.vod_grammar.specs.Read.{first, place_of}
use Rattle.vod_grammar.specs.Words.{Is, is_word, is_other}
use Rattle.vod_grammar.specs.WordLaws.{is_word-is}
use Rattle.vod_grammar.specs.declared.word.Word.TheVariants as word
use Rattle.vod_statement.specs.Label.{IsLabel}
use Rattle.vod_statement.specs.LabelLaws.{label_is}
use Rattle.vod_statement.specs.LeftSide.{IsLval}
use Rattle.vod_statement.specs.LeftSideLaws.{lval_is, lval_starts}
use Rattle.vod_statement.specs.Statements.{IsStatement, AreStatements, IsItem, AreItems, IsColon, assigned, alone, branches, cases, block, empty, no_statement, one_statement, values, default, no_item, one_item, no_colon, a_colon, statement, item, assigns, assignment}
use Rattle.vod_statement.specs.StatementForm.{StatementPhrase, Branches, only, both, around, alternatives, chosen, item_form, item_parts, branches as branches_form, cases as cases_form, block as block_form, assigned as assigned_form}
use Rattle.vod_statement.specs.declared.context.Context.{Context}

empty_front : (t : Lexeme) (us : List Lexeme) → [] ≡ t ∷ us → ⊥
empty_front t us e = cc

-- what stands before an `else` doesn't end in an `if` without one
pub ends_closed : (o : Bool) (t : Lexeme) → Is word.Else t → (o ≡ true → is_word word.Else t ≡ false) → o ≡ false
ends_closed false t h n = refl
ends_closed true t h n = let clash : true ≡ false = sym (is_word-is word.Else t h) ∙ n refl in cc

module _ (c : Context) (size : ℕ) (some_exprs : (xs : List Expr) → AreExprs [] xs → ⊥) (f : Form Statement) (is : (m : Sight) (ts : List Lexeme) (x : Statement) (b : Option Lexeme) → f.phrase m ts x b → StatementPhrase c m ts x b) where
  many_are : (m : Sight) (ts : List Lexeme) (xs : List Statement) (b : Option Lexeme) → Many (is_other word.End) f.phrase m ts xs b → AreStatements c ts xs
  many_are m _ _ b (none stop) = no_statement
  many_are m _ _ b (more {us = us} {vs = vs} {x = x} {xs = xs} go p q) = one_statement (is m us x (first vs b) p).is (many_are m vs xs b q)

  values_is : (us : List Lexeme) (xs : List Expr) (colon : Lexeme) → AreExprs us xs → Is word.Colon colon → (m : Sight) (vs : List Lexeme) (part : CaseLabel × Statement) (b : Option Lexeme)
      → (mapped {B = CaseLabel × Statement} (λ body. (label.Values xs, body)) f).phrase m vs part b → IsItem c (us ++ colon ∷ vs) (item (place_of (us ++ colon ∷ vs)) part.0 part.1)
  values_is [] xs colon d k m vs part b p = absurd (some_exprs xs d)
  values_is (t ∷ us) xs colon d k m vs _ b (changed {x = body} p) = values d k (is m vs body b p).is

  default_is : (t : Lexeme) (us : List Lexeme) → Is word.Default t → IsColon us → (m : Sight) (vs : List Lexeme) (part : CaseLabel × Statement) (b : Option Lexeme) → (mapped {B = CaseLabel × Statement} (λ body. (label.Default, body)) f).phrase m vs part b
      → IsItem c (t ∷ (us ++ vs)) (item t.place part.0 part.1)
  default_is t us h k m vs _ b (changed {x = body} p) = default h k (is m vs body b p).is

  parts_are : (m : Sight) (ts : List Lexeme) (part : CaseLabel × Statement) (b : Option Lexeme) → (item_parts f).phrase m ts part b → IsItem c ts (item (place_of ts) part.0 part.1)
  parts_are m _ part b (led {t = t} h (in_turn {vs = vs} (led {t = colon} k nothing) p)) = default_is t (colon ∷ []) h (a_colon k) m vs part b p
  parts_are m _ part b (led {t = t} h (in_turn {vs = vs} (unled n nothing) p)) = default_is t [] h no_colon m vs part b p
  parts_are m _ part b (unled n (in_turn {us = us} {x = xs} q (in_turn {vs = vs} (a_word {t = colon} k) p))) = values_is us xs colon (exprs_are m us xs (Some colon) q) k m vs part b p

  pub item_is : (m : Sight) (ts : List Lexeme) (x : CaseItem) (b : Option Lexeme) → (item_form f).phrase m ts x b → IsItem c ts x
  unfolding item_form
  item_is m ts _ b (put {x = part} p) = parts_are m ts part b p

  items_are : (m : Sight) (ts : List Lexeme) (xs : List CaseItem) (b : Option Lexeme) → Many (is_other word.Endcase) (item_form f).phrase m ts xs b → AreItems c ts xs
  items_are m _ _ b (none stop) = no_item
  items_are m _ _ b (more {us = us} {vs = vs} {x = x} {xs = xs} go p q) = one_item (item_is m us x (first vs b) p) (items_are m vs xs b q)

  -- what stands behind `if ( expr )`
  branches_are : (m : Sight) (t opener closer : Lexeme) (ts us : List Lexeme) (test : Expr) (bs : Statement × Option Statement) (b : Option Lexeme)
      → Is word.If t → Is word.OpenParen opener → IsExpr 0 ts test → Is word.CloseParen closer → Branches f.phrase m us bs b
      → StatementPhrase c m (t ∷ opener ∷ (ts ++ closer ∷ us)) (statement t.place (kind.If test bs.0 bs.1)) b
  branches_are m t opener closer ts us test _ b h o e k (only {a = a} stop p) =
      record { open_ended = true; is = alone h o e k (is m us a b p).is; closed = λ n q. stop n }
  branches_are m t opener closer ts _ test _ b h o e k (both {us = us} {vs = vs} {t = other} {a = a} {d = d} p l q) =
      let first_one = is Before us a (Some other) p in
      let second = is m vs d b q in
      let shut : first_one.open_ended ≡ false = ends_closed first_one.open_ended other l (first_one.closed refl) in
      record {
        open_ended = second.open_ended;
        is = branches h o e k (subst (λ v. IsStatement c v us a) shut first_one.is) l second.is;
        closed = second.closed;
      }

  cases_are : (m : Sight) (t opener closer last : Lexeme) (ts us : List Lexeme) (value : Expr) (xs : List CaseItem) (b d : Option Lexeme)
      → Is word.Case t → Is word.OpenParen opener → IsExpr 0 ts value → Is word.CloseParen closer → Several (is_other word.Endcase) (item_form f).phrase m us xs d → Is word.Endcase last
      → StatementPhrase c m (t ∷ opener ∷ (ts ++ closer ∷ (us ++ last ∷ []))) (statement t.place (kind.Case value xs)) b
  cases_are m t opener closer last ts _ value _ b d h o e k (some {us = us} {vs = vs} {x = x} {xs = xs} p q) l =
      record { open_ended = false; is = cases h o e k (item_is m us x (first vs d) p) (items_are m vs xs d q) l; closed = λ n r. cc }

  assigned_is : (m : Sight) (us : List Lexeme) (target : Lval) (equals : Lexeme) (vs : List Lexeme) (value : Expr) (semicolon : Lexeme) (b : Option Lexeme)
      → IsLval us target → Is (assigns c) equals → IsExpr 0 vs value → Is word.Semicolon semicolon
      → StatementPhrase c m (us ++ equals ∷ (vs ++ semicolon ∷ [])) (statement (place_of (us ++ equals ∷ (vs ++ semicolon ∷ []))) (assignment c target value)) b
  assigned_is m [] target equals vs value semicolon b d e v k = let s = lval_starts [] target d in absurd (empty_front s.0 s.1 s.2)
  assigned_is m (t ∷ us) target equals vs value semicolon b d e v k = record { open_ended = false; is = assigned d e v k; closed = λ n r. cc }

  -- each alternative, the value of its last part behind those of the others
  if_is : (m : Sight) (t opener : Lexeme) (ts : List Lexeme) (test : Expr) → Is word.If t → Is word.OpenParen opener → IsExpr 0 ts test → (vs : List Lexeme) (k : StatementKind) (b : Option Lexeme)
      → (then (word_form word.CloseParen) (λ _. mapped (λ bs. kind.If test bs.0 bs.1) (branches_form f))).phrase m vs k b → StatementPhrase c m (t ∷ opener ∷ (ts ++ vs)) (statement t.place k) b
  if_is m t opener ts test h o e _ _ b (in_turn (a_word {t = closer} k) (changed {ts = us} {x = bs} q)) = branches_are m t opener closer ts us test bs b h o e k q

  chosen_is : (m : Sight) (t : Lexeme) → Is word.If t → (ts : List Lexeme) (k : StatementKind) (b : Option Lexeme) → (chosen f).phrase m ts k b → StatementPhrase c m (t ∷ ts) (statement t.place k) b
  chosen_is m t h _ k b (in_turn (a_word {t = opener} o) (in_turn {us = ts} {vs = vs} {x = test} (an_expression e r) q)) = if_is m t opener ts test h o e vs k b q

  endcase_is : (m : Sight) (t opener closer : Lexeme) (ts us : List Lexeme) (value : Expr) (xs : List CaseItem) (d : Option Lexeme)
      → Is word.Case t → Is word.OpenParen opener → IsExpr 0 ts value → Is word.CloseParen closer → Several (is_other word.Endcase) (item_form f).phrase m us xs d → (vs : List Lexeme) (k : StatementKind) (b : Option Lexeme)
      → (mapped (λ _. kind.Case value xs) (word_form word.Endcase)).phrase m vs k b → StatementPhrase c m (t ∷ opener ∷ (ts ++ closer ∷ (us ++ vs))) (statement t.place k) b
  endcase_is m t opener closer ts us value xs d h o e k q _ _ b (changed (a_word {t = last} l)) = cases_are m t opener closer last ts us value xs b d h o e k q l

  items_is : (m : Sight) (t opener : Lexeme) (ts : List Lexeme) (value : Expr) → Is word.Case t → Is word.OpenParen opener → IsExpr 0 ts value → (vs : List Lexeme) (k : StatementKind) (b : Option Lexeme)
      → (then (word_form word.CloseParen) (λ _. then (several (is_other word.Endcase) (item_form f)) (λ xs. mapped (λ _. kind.Case value xs) (word_form word.Endcase)))).phrase m vs k b
      → StatementPhrase c m (t ∷ opener ∷ (ts ++ vs)) (statement t.place k) b
  items_is m t opener ts value h o e _ kind b (in_turn (a_word {t = closer} k) (in_turn {us = us} {vs = vs} {x = xs} q p)) =
      endcase_is m t opener closer ts us value xs (first vs b) h o e k (several_of (is_other word.Endcase) (item_form f) m us xs (first vs b) q) vs kind b p

  case_is : (m : Sight) (t : Lexeme) → Is word.Case t → (ts : List Lexeme) (k : StatementKind) (b : Option Lexeme) → (cases_form f).phrase m ts k b → StatementPhrase c m (t ∷ ts) (statement t.place k) b
  case_is m t h _ k b (in_turn (a_word {t = opener} o) (in_turn {us = ts} {vs = vs} {x = value} (an_expression e r) q)) = items_is m t opener ts value h o e vs k b q

  end_is : (m : Sight) (t : Lexeme) (ts us : List Lexeme) (name : Option Ident) (body : List Statement) → Is word.Begin t → IsLabel ts name → AreStatements c us body → (vs : List Lexeme) (k : StatementKind) (b : Option Lexeme)
      → (mapped (λ _. kind.Block name body) (word_form word.End)).phrase m vs k b → StatementPhrase c m (t ∷ (ts ++ (us ++ vs))) (statement t.place k) b
  end_is m t ts us name body h l ss _ _ b (changed (a_word e)) = record { open_ended = false; is = block h l ss e; closed = λ z r. cc }

  block_is : (m : Sight) (t : Lexeme) → Is word.Begin t → (ts : List Lexeme) (k : StatementKind) (b : Option Lexeme) → (block_form f).phrase m ts k b → StatementPhrase c m (t ∷ ts) (statement t.place k) b
  block_is m t h _ k b (in_turn {us = ts} {vs = ws} {x = name} p (in_turn {us = us} {vs = vs} {x = body} q l)) =
      end_is m t ts us name body h (label_is m ts name (first ws b) p) (many_are m us body (first vs b) (many_of (is_other word.End) f m us body (first vs b) q)) vs k b l

  semicolon_is : (m : Sight) (us : List Lexeme) (target : Lval) (equals : Lexeme) (vs : List Lexeme) (value : Expr) → IsLval us target → Is (assigns c) equals → IsExpr 0 vs value → (ws : List Lexeme) (k : StatementKind) (b : Option Lexeme)
      → (mapped (λ _. assignment c target value) (word_form word.Semicolon)).phrase m ws k b → StatementPhrase c m (us ++ equals ∷ (vs ++ ws)) (statement (place_of (us ++ equals ∷ (vs ++ ws))) k) b
  semicolon_is m us target equals vs value d e v _ _ b (changed (a_word {t = semicolon} k)) = assigned_is m us target equals vs value semicolon b d e v k

  assignment_is : (m : Sight) (ts : List Lexeme) (k : StatementKind) (b : Option Lexeme) → (assigned_form c size).phrase m ts k b → StatementPhrase c m ts (statement (place_of ts) k) b
  assignment_is m _ k b (in_turn {us = us} {x = target} p (in_turn (a_word {t = equals} e) (in_turn {us = vs} {vs = ws} {x = value} (an_expression d r) q))) =
      semicolon_is m us target equals vs value (lval_is size m us target (Some equals) p) e d ws k b q

  alternatives_are : (m : Sight) (ts : List Lexeme) (k : StatementKind) (b : Option Lexeme) → (alternatives c size f).phrase m ts k b → StatementPhrase c m ts (statement (place_of ts) k) b
  alternatives_are m _ k b (led {t = t} {ts = ts} h p) = chosen_is m t h ts k b p
  alternatives_are m _ k b (unled n (led {t = t} {ts = ts} h p)) = case_is m t h ts k b p
  alternatives_are m _ k b (unled n (unled i (led {t = t} {ts = ts} h p))) = block_is m t h ts k b p
  alternatives_are m _ _ b (unled n (unled i (unled j (led h nothing)))) = record { open_ended = false; is = empty h; closed = λ z r. cc }
  alternatives_are m ts k b (unled n (unled i (unled j (unled l p)))) = assignment_is m ts k b p

  pub around_is : (m : Sight) (ts : List Lexeme) (x : Statement) (b : Option Lexeme) → (around c size f).phrase m ts x b → StatementPhrase c m ts x b
  around_is m ts _ b (put {x = k} p) = alternatives_are m ts k b p
