-- Where a statement of depth 65 begins, the form of sources stops.
use Rattle.std.proofs.Common.{◌≡◌, ℕ, true, false, not, List, [], ◌∷◌, ◌++◌, Some, refl, sym, ◌∙◌, ap, subst, append_assoc}
use Rattle.vod_tree.specs.declared.instance.GateKind.{GateKind}
use Rattle.vod_tree.specs.declared.«module».Item.{Item}
use Rattle.vod_tree.specs.declared.«module».SourceItem.{SourceItem}
use Rattle.vod_expr.specs.Grammar.{Lexeme}
use Rattle.vod_grammar.specs.Form.{Before, RepeatedDeep, a_word, a_name, in_first, in_second, in_led, in_other, in_next, in_later, in_the_one, in_the_other}
use Rattle.vod_grammar.specs.FrontLaws.{first-append}
use Rattle.vod_grammar.specs.Read.{first, passes}
use Rattle.vod_grammar.specs.WordLaws.{is_word-is, is_word-other, is_word-name}
use Rattle.vod_grammar.specs.Words.{Is, is_word, is_other, are_same}
use Rattle.vod_grammar.specs.declared.word.Word.{Word}
use Rattle.vod_grammar.specs.declared.word.Word.TheVariants as word
use Rattle.vod_statement.specs.Depth as statements
use Rattle.vod_statement.specs.StatementForm.{starts_statement}
use Rattle.vod_statement.specs.declared.context.Context.{Context}
use Rattle.vod_statement.specs.declared.context.Context.TheVariants as context
use Rattle.vod_declaration.specs.FunctionsForm.{starts_function_declaration}
use Rattle.vod_declaration.specs.PartsLaws.{is_flag}
use Rattle.vod_instance.specs.Gates.{gate_word}
use Rattle.vod_parse.specs.Depth.{InItem, in_always, in_function, in_initial, InModule, in_item, IsTooDeep, in_module}
use Rattle.vod_parse.specs.Facts.{Facts, Not}
use Rattle.vod_parse.specs.FunctionsLaws.{neither, undeclared, flag_not, range_not}
use Rattle.vod_parse.specs.Items.{AreItems, no_item, one_item}
use Rattle.vod_parse.specs.ItemsForm.{behavior_form, kind_form, item_form, items_form}
use Rattle.vod_parse.specs.ItemsLaws.{IsApart, IsNoStart, undeclared_word, gate_others, no_gate_word, no_endmodule, no_else, item_word, items_word, is_item, goes_on}
use Rattle.vod_parse.specs.Modules.{AreParts, no_part, one_part}
use Rattle.vod_parse.specs.ModulesForm.{parts_form, any, part_form, source_form}
use Rattle.vod_parse.specs.ModulesLaws as modules
use Rattle.vod_parse.specs.ProcessesLaws.{is_event, is_second}

-- no declaration of a function begins there
no_declaration : (w : Word) → are_same word.Input w ≡ false → are_same word.Reg w ≡ false → (s : Lexeme) → Is w s → starts_function_declaration s ≡ false
no_declaration w e k s h = neither (is_word word.Input s) (is_word word.Reg s) (is_word-other word.Input w s h ∙ e) (is_word-other word.Reg w s h ∙ k)

below_undeclared : (c : Context) (n : ℕ) (front : List Lexeme) (t : Lexeme) → starts_statement t ≡ true → statements.Below c n front → passes starts_function_declaration (first front (Some t)) ≡ false
below_undeclared c _ _ t e statements.here = undeclared t e
below_undeclared c _ _ t e (statements.in_branch {t = s} h o d k b) = no_declaration word.If refl refl s h
below_undeclared c _ _ t e (statements.in_other {t = s} h o d k a l b) = no_declaration word.If refl refl s h
below_undeclared c _ _ t e (statements.in_block {t = s} h l is b) = no_declaration word.Begin refl refl s h
below_undeclared c _ _ t e (statements.in_case {t = s} h o d k is l b) = no_declaration word.Case refl refl s h

-- the first token there
in_item_word : (w : Word) → IsNoStart w → (front : List Lexeme) (t : Lexeme) → InItem front t → Not w (first front (Some t))
in_item_word w n _ t (in_always {first = s} h a o p q c b e) = is_word-other w word.Always s h ∙ n.always
in_item_word w n _ t (in_function {first = s} name h p q r k j l d b e) = is_word-other w word.Function s h ∙ n.function
in_item_word w n _ t (in_initial {first = s} h b e) = is_word-other w word.Initial s h ∙ n.initial

other_token : (front : List Lexeme) (t : Lexeme) → Not word.Endmodule (first front (Some t)) → passes (is_other word.Endmodule) (first front (Some t)) ≡ true
other_token [] t e = ap not e
other_token (s ∷ front) t e = ap not e

some_token : (front : List Lexeme) (t : Lexeme) → passes any (first front (Some t)) ≡ true
some_token [] t = refl
some_token (s ∷ front) t = refl

module _ (facts : Facts) (size : ℕ) where
  not_gate_deep : (w : Word) (s : Lexeme) (front : List Lexeme) (t : Lexeme) → Is w s → IsApart w → ((k : GateKind) → are_same (gate_word k) w ≡ false) → (behavior_form size).deep (s ∷ front) t → (kind_form size).deep (s ∷ front) t
  not_gate_deep w s front t h a g d = in_the_other (undeclared_word w s h a) (in_the_other (no_gate_word facts size w s h g) d)

  item_below : (front : List Lexeme) (t : Lexeme) → InItem front t → (kind_form size).deep front t
  item_below _ t (in_always {first = w} {sign = sign} {opener = opener} {closer = closer} {ts = ts} {us = us} {front = front} {e = e} {s = s} h a o p q c b k) =
      not_gate_deep word.Always w (sign ∷ opener ∷ (ts ++ (us ++ closer ∷ front))) t h (refl, refl, refl, refl, refl, refl, refl) (λ g. (gate_others g).3)
      (in_other (is_word-other word.Assign word.Always w h) (in_other (is_word-other word.Function word.Always w h) (in_other (is_word-other word.Initial word.Always w h)
      (in_led h (in_second (a_word a) (in_second (a_word o) (in_second (is_event Before ts e (first (us ++ closer ∷ front) (Some t)) tt p)
      (in_second (is_second Before us s (Some closer) (is_word-other word.Or word.CloseParen closer c, is_word-other word.Comma word.CloseParen closer c) q)
      (in_second (a_word c) (facts.statement_below context.Always size 64 front t k b))))))))))
  item_below _ t (in_function {first = w} {semicolon = semicolon} name {qs = qs} {ss = ss} {rs = rs} {is = is} {ds = ds} {front = front} {a = a} {s = s} {r = r} {i = i} {d = d} h p q o n j l u b k) =
      let vs : List Lexeme = is ++ semicolon ∷ (ds ++ front) in
      not_gate_deep word.Function w (qs ++ (ss ++ (rs ++ name ∷ vs))) t h (refl, refl, refl, refl, refl, refl, refl) (λ g. (gate_others g).1)
      (in_other (is_word-other word.Assign word.Function w h) (in_led h
      (in_second (is_flag word.Automatic Before qs a (first (ss ++ (rs ++ name ∷ vs)) (Some t))
      (flag_not word.Automatic word.Signed refl ss s q (rs ++ name ∷ vs) (Some t) (range_not word.Automatic refl rs r o (name ∷ vs) (Some t) (is_word-name word.Automatic name n))) p)
      (in_second (is_flag word.Signed Before ss s (first (rs ++ name ∷ vs) (Some t)) (range_not word.Signed refl rs r o (name ∷ vs) (Some t) (is_word-name word.Signed name n)) q)
      (in_second (facts.of_range Before rs r (Some name) (is_word-name word.OpenBracket name n) o) (in_second (a_name n)
      (in_second (facts.of_inputs Before is i (Some semicolon) (is_word-other word.OpenParen word.Semicolon semicolon l) j) (in_second (a_word l)
      (in_second (facts.of_locals Before ds d (first front (Some t)) (below_undeclared context.Function 64 front t k b) u) (in_first (facts.statement_below context.Function size 64 front t k b)))))))))))
  item_below _ t (in_initial {first = w} {front = front} h b k) =
      not_gate_deep word.Initial w front t h (refl, refl, refl, refl, refl, refl, refl) (λ g. (gate_others g).2)
      (in_other (is_word-other word.Assign word.Initial w h) (in_other (is_word-other word.Function word.Initial w h) (in_led h (facts.initial_below 64 front t k b))))

  items_below : (us : List Lexeme) (xs : List Item) (front : List Lexeme) (t : Lexeme) → AreItems us xs → InItem front t → (items_form size).deep (us ++ front) t
  unfolding item_form
  items_below _ _ front t no_item i = in_next (other_token front t (in_item_word word.Endmodule no_endmodule front t i)) (item_below front t i)
  items_below _ _ front t (one_item {ts = ts} {us = us} {x = x} {xs = xs} p q) i =
      subst (λ v. (items_form size).deep v t) (sym (append_assoc ts us front))
      (in_later (goes_on ts (item_word word.Endmodule no_endmodule ts x p))
      (is_item facts size Before ts x (first (us ++ front) (Some t))
      (ap (passes (is_word word.Else)) (first-append us front (Some t)) ∙ items_word word.Else no_else us xs (first front (Some t)) (in_item_word word.Else no_else front t i) q) p)
      (items_below us xs front t q i))

  module_below : (front : List Lexeme) (t : Lexeme) → InModule front t → (parts_form size).deep front t
  module_below _ t (in_item {semicolon = s} {ts = ts} {us = us} {vs = vs} {front = front} {o = o} {l = l} {before = xs} h k p q e r i) =
      in_second (a_word h) (in_second (a_name k) (in_second (modules.is_header facts size Before ts o (first (us ++ s ∷ (vs ++ front)) (Some t)) (modules.hash_ports facts size us l s (vs ++ front) (Some t) q e) p)
      (in_second (facts.of_ports Before us l (Some s) (is_word-other word.OpenParen word.Semicolon s e) q) (in_second (a_word e) (in_first (items_below vs xs front t r i))))))

  begins_module : (front : List Lexeme) (t : Lexeme) → InModule front t → passes (is_word word.Module) (first front (Some t)) ≡ true
  begins_module _ t (in_item {first = w} h k p q e r i) = is_word-is word.Module w h

  parts_below : (us : List Lexeme) (xs : List SourceItem) (front : List Lexeme) (t : Lexeme) → AreParts us xs → InModule front t → RepeatedDeep any (part_form size).phrase (part_form size).deep (us ++ front) t
  unfolding part_form
  parts_below _ _ front t no_part i = in_next (some_token front t) (in_the_one (begins_module front t i) (module_below front t i))
  parts_below _ _ front t (one_part {ts = ts} {us = us} {x = x} {xs = xs} p q) i =
      subst (λ v. RepeatedDeep any (part_form size).phrase (part_form size).deep v t) (sym (append_assoc ts us front))
      (in_later (modules.goes_on facts size ts (modules.part_none facts size ts x p)) (modules.is_part facts size Before ts x (first (us ++ front) (Some t)) tt p) (parts_below us xs front t q i))

  pub source_below : (front : List Lexeme) (t : Lexeme) → IsTooDeep front t → (source_form size).deep front t
  source_below _ t (in_module {ts = ts} {front = front} {before = xs} p i) = parts_below ts xs front t p i
