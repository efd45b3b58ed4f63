-- Where a period comes next.
use Rattle.std.proofs.Common.{◌≡◌, ℕ, true, false, cond, List, [], ◌∷◌, sym, ◌∙◌, ap}
use Rattle.vod_expr.specs.Answer.{fault_at}
use Rattle.vod_expr.specs.Grammar.{Lexeme}
use Rattle.vod_tree.specs.declared.expr.Expr.{Expr}
use Rattle.vod_grammar.specs.Form.{Form, expression_form, mapped, behind, repeated, separated}
use Rattle.vod_grammar.specs.Read as reads
use Rattle.vod_grammar.specs.Read.{Read, Got, Failed, followed, is_next, place_of, rest_of}
use Rattle.vod_grammar.specs.Words.{is_word}
use Rattle.vod_grammar.specs.declared.word.Word.TheVariants as word
use Rattle.vod_instance.specs.InstancesForm.{dotted, dotted_behind, by_name_or_order}

module _ {A B : Type 0} (name_it : List A → B) (order_it : List Expr → B) (part : ℕ → Form A) where
  pub by_name : (ts : List Lexeme) → is_next word.Period ts ≡ true → (by_name_or_order name_it order_it part).read ts ≡ (mapped name_it (separated (dotted part))).read ts
  by_name ts h =
      ap (λ b. cond b ((mapped name_it (dotted_behind part (place_of ts))).read (rest_of ts)) ((mapped order_it (separated expression_form)).read ts)) h
      ∙ sym (ap (λ b. followed (followed (followed (cond b (Got (place_of ts) (rest_of ts)) (Failed (fault_at ts))) (λ place. (part place).read)) (λ x. (repeated (is_word word.Comma) (behind word.Comma (dotted part)) (x ∷ [])).read)) (λ xs. reads.give (name_it xs))) h)

  pub by_order : (ts : List Lexeme) → is_next word.Period ts ≡ false → (by_name_or_order name_it order_it part).read ts ≡ (mapped order_it (separated expression_form)).read ts
  by_order ts h = ap (λ b. cond b ((mapped name_it (dotted_behind part (place_of ts))).read (rest_of ts)) ((mapped order_it (separated expression_form)).read ts)) h
