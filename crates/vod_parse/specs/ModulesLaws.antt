-- The forms of modules and sources are exact.
use Rattle.std.proofs.Common.{◌≡◌, ℕ, true, false, ◌&&◌, List, [], ◌∷◌, ◌++◌, length, Option, None, Some, refl, sym, ◌∙◌, ap, subst}
use Rattle.std.specs.Str.{bytes_eq}
use Rattle.vod_token.specs.declared.TokenKind.TheVariants as kinds
use Rattle.vod_tree.specs.declared.declaration.ParameterPort.{ParameterPort}
use Rattle.vod_tree.specs.declared.declaration.Ports.{Ports}
use Rattle.vod_tree.specs.declared.«module».Directive.{Directive}
use Rattle.vod_tree.specs.declared.«module».Item.{Item}
use Rattle.vod_tree.specs.declared.«module».Module.{Module}
use Rattle.vod_tree.specs.declared.«module».SourceItem.{SourceItem}
use Rattle.vod_tree.specs.declared.«module».SourceItem.TheVariants as part
use Rattle.vod_tree.specs.declared.«module».Tree.{Tree}
use Rattle.vod_expr.specs.Grammar.{Lexeme, IsName, ident_of}
use Rattle.vod_grammar.specs.ChooseLaws.{choose_laws}
use Rattle.vod_grammar.specs.CountLaws.{counted_laws}
use Rattle.vod_grammar.specs.EitherLaws.{either_laws}
use Rattle.vod_grammar.specs.Form.{Sight, Before, a_word, a_name, nothing, in_turn, changed, led, unled, the_one, the_other, numbered, word_form, name_form, mapped, repeated}
use Rattle.vod_grammar.specs.Laws.{Laws}
use Rattle.vod_grammar.specs.ListLaws.{Many, none, more, many_of, of_many}
use Rattle.vod_grammar.specs.PartLaws.{mapped_laws}
use Rattle.vod_grammar.specs.Read.{first, passes}
use Rattle.vod_grammar.specs.RepeatLaws.{HasToken, repeated_laws}
use Rattle.vod_grammar.specs.ThenLaws.{then_laws}
use Rattle.vod_grammar.specs.TokenLaws.{word_laws, name_laws, give_laws}
use Rattle.vod_grammar.specs.WordLaws.{is_word-is, is_word-other}
use Rattle.vod_grammar.specs.Words.{Is, is_word, is_text_of, same_kind, kind_of, spelling}
use Rattle.vod_grammar.specs.declared.word.Word.{Word}
use Rattle.vod_grammar.specs.declared.word.Word.TheVariants as word
use Rattle.vod_declaration.specs.Parts.{IsOptional, nothing as no_header, something}
use Rattle.vod_declaration.specs.ParametersForm.{parameter_ports}
use Rattle.vod_declaration.specs.Ports as ports
use Rattle.vod_declaration.specs.Ports.{IsPortList}
use Rattle.vod_declaration.specs.PortsForm.{port_list}
use Rattle.vod_directive.specs.DirectiveForm.{a_directive, directive_form}
use Rattle.vod_directive.specs.Meaning.{IsDirective}
use Rattle.vod_parse.specs.Facts.{Facts, Not, Are, Of, Anything}
use Rattle.vod_parse.specs.Items.{AreItems}
use Rattle.vod_parse.specs.ItemsForm.{items_form}
use Rattle.vod_parse.specs.ItemsLaws.{items_is, is_items, items_laws}
use Rattle.vod_parse.specs.Modules.{AreOverridable, header, IsModule, enclosed, IsPart, of_directive, of_module, AreParts, no_part, one_part, IsSource, source, module_tree}
use Rattle.vod_parse.specs.ModulesForm.{header_form, body_form, parts_form, module_form, any, part_form, source_form}

no_head : {t : Lexeme} {ts : List Lexeme} → [] ≡ t ∷ ts → ⊥
no_head h = cc

-- no word is a directive
directive_word : (w : Word) → same_kind kinds.Directive (kind_of w) ≡ false → (t : Lexeme) (x : Directive) → IsDirective t x → is_word w t ≡ false
unfolding is_text_of
directive_word w e t x h = ap (λ k. same_kind k (kind_of w) && bytes_eq t.text (spelling w)) h.kind ∙ ap (λ v. v && bytes_eq t.text (spelling w)) e

module _ (facts : Facts) (size : ℕ) where
  pub header_is : Are header_form (IsOptional AreOverridable)
  header_is m _ _ b (led h (changed {ts = ts} {x = ps} p)) = something (header h (facts.parameters_are m ts ps b p))
  header_is m _ _ b (unled n nothing) = no_header

  pub is_header : Of header_form (IsOptional AreOverridable) (Not word.Hash)
  is_header m _ _ b n no_header = unled (λ e. n) nothing
  is_header m _ _ b n (something (header {ts = ts} {ps = ps} h p)) = led h (changed (facts.of_parameters m ts ps b tt p))

  -- phrases of the form are modules
  ends_is : (t name semicolon : Lexeme) (ts us vs : List Lexeme) (ps : Option (List ParameterPort)) (l : Ports) (xs : List Item) → Is word.Module t → IsName name → IsOptional AreOverridable ts ps → IsPortList us l
      → Is word.Semicolon semicolon → AreItems vs xs → (m : Sight) (ws : List Lexeme) (build : ℕ → Module) (b : Option Lexeme)
      → (mapped {B = ℕ → Module} (λ _ count. module_tree t.place (ident_of name) ps l xs count) (word_form word.Endmodule)).phrase m ws build b
      → IsModule (t ∷ name ∷ (ts ++ (us ++ semicolon ∷ (vs ++ ws)))) (build (length (t ∷ name ∷ (ts ++ (us ++ semicolon ∷ (vs ++ ws))))))
  ends_is t name semicolon ts us vs ps l xs h k p q s d m _ _ b (changed (a_word e)) = enclosed h k p q s d e refl

  body_is : (t name : Lexeme) (ts us : List Lexeme) (ps : Option (List ParameterPort)) (l : Ports) → Is word.Module t → IsName name → IsOptional AreOverridable ts ps → IsPortList us l
      → (m : Sight) (vs : List Lexeme) (build : ℕ → Module) (b : Option Lexeme) → (body_form size (λ xs count. module_tree t.place (ident_of name) ps l xs count)).phrase m vs build b
      → IsModule (t ∷ name ∷ (ts ++ (us ++ vs))) (build (length (t ∷ name ∷ (ts ++ (us ++ vs)))))
  body_is t name ts us ps l h k p q m _ build b (in_turn (a_word {t = semicolon} s) (in_turn {us = vs} {vs = ws} {x = xs} r c)) =
      ends_is t name semicolon ts us vs ps l xs h k p q s (items_is facts size m vs xs (first ws b) r) m ws build b c

  parts_are : (m : Sight) (ts : List Lexeme) (build : ℕ → Module) (b : Option Lexeme) → (parts_form size).phrase m ts build b → IsModule ts (build (length ts))
  parts_are m _ build b (in_turn (a_word {t = t} h) (in_turn (a_name {t = name} k) (in_turn {us = ts} {vs = rest} {x = ps} p (in_turn {us = us} {vs = vs} {x = l} q r)))) =
      body_is t name ts us ps l h k (header_is m ts ps (first rest b) p) (facts.ports_are m us l (first vs b) q) m vs build b r

  pub module_is : Are (module_form size) IsModule
  module_is m ts _ b (numbered {x = build} p) = parts_are m ts build b p

  -- modules are phrases of the form
  pub hash_ports : (us : List Lexeme) (l : Ports) (semicolon : Lexeme) (vs : List Lexeme) (b : Option Lexeme) → IsPortList us l → Is word.Semicolon semicolon → Not word.Hash (first (us ++ semicolon ∷ vs) b)
  hash_ports _ _ s vs b ports.absent e = is_word-other word.Hash word.Semicolon s e
  hash_ports _ _ s vs b (ports.empty {opener = o} h c) e = is_word-other word.Hash word.OpenParen o h
  hash_ports _ _ s vs b (ports.names {opener = o} h d c) e = is_word-other word.Hash word.OpenParen o h
  hash_ports _ _ s vs b (ports.ports {opener = o} h p q c) e = is_word-other word.Hash word.OpenParen o h

  pub is_module : Of (module_form size) IsModule Anything
  is_module m all _ b a (enclosed {t = t} {name = name} {semicolon = s} {last = last} {ts = ts} {us = us} {vs = vs} {ps = ps} {l = l} {xs = xs} h k p q e r z split) =
      subst (λ v. (module_form size).phrase m v (module_tree t.place (ident_of name) ps l xs (length v)) b) (sym split)
      (numbered {ts = t ∷ name ∷ (ts ++ (us ++ s ∷ (vs ++ last ∷ [])))} {x = λ count. module_tree t.place (ident_of name) ps l xs count}
      (in_turn (a_word h) (in_turn (a_name k) (in_turn (is_header m ts ps (first (us ++ s ∷ (vs ++ last ∷ [])) b) (hash_ports us l s (vs ++ last ∷ []) b q e) p)
      (in_turn (facts.of_ports m us l (Some s) (is_word-other word.OpenParen word.Semicolon s e) q)
      (in_turn (a_word e) (in_turn (is_items facts size m vs xs last z r) (changed (a_word z)))))))))

  -- directives and modules
  pub part_is : Are (part_form size) IsPart
  unfolding part_form
  part_is m _ _ b (the_one go (changed {ts = ts} {x = x} p)) = of_module (module_is m ts x b p)
  part_is m _ _ b (the_other n (changed (a_directive h))) = of_directive h

  starts_module : (ts : List Lexeme) (x : Module) → IsModule ts x → passes (is_word word.Module) (first ts None) ≡ true
  starts_module ts _ (enclosed {t = t} h k p q e r z split) = ap (λ v. passes (is_word word.Module) (first v None)) split ∙ is_word-is word.Module t h

  pub is_part : Of (part_form size) IsPart Anything
  unfolding part_form
  is_part m ts _ b a (of_module {x = x} p) = the_one (λ e. starts_module ts x p) (changed (is_module m ts x b tt p))
  is_part m _ _ b a (of_directive {t = t} {x = x} h) = the_other (λ e. directive_word word.Module refl t x h) (changed (a_directive h))

  pub part_none : (ts : List Lexeme) (x : SourceItem) → IsPart ts x → ts ≡ [] → ⊥
  part_none ts _ (of_module (enclosed h k p q e r z split)) n = no_head (sym n ∙ split)
  part_none _ _ (of_directive h) n = no_head (sym n)

  pub goes_on : (ts : List Lexeme) → (ts ≡ [] → ⊥) → passes any (first ts None) ≡ true
  goes_on [] n = absurd (n refl)
  goes_on (t ∷ ts) n = refl

  parts_is : (m : Sight) (ts : List Lexeme) (xs : List SourceItem) (b : Option Lexeme) → Many any (part_form size).phrase m ts xs b → AreParts ts xs
  parts_is m _ _ b (none stop) = no_part
  parts_is m _ _ b (more {us = us} {vs = vs} {x = x} {xs = xs} go p q) = one_part (part_is m us x (first vs b) p) (parts_is m vs xs b q)

  is_parts : (ts : List Lexeme) (xs : List SourceItem) → AreParts ts xs → Many any (part_form size).phrase Before ts xs None
  is_parts _ _ no_part = none (λ e. refl)
  is_parts _ _ (one_part {ts = ts} {us = us} {x = x} {xs = xs} p q) = more (λ e. goes_on ts (part_none ts x p)) (is_part Before ts x (first us None) tt p) (is_parts us xs q)

  pub source_is : Are (source_form size) IsSource
  source_is m ts _ b (changed {x = xs} p) = source (parts_is m ts xs b (many_of any (part_form size) m ts xs b p))

  pub is_source : (ts : List Lexeme) (x : Tree) → IsSource ts x → (source_form size).phrase Before ts x None
  is_source ts _ (source {xs = xs} p) = changed (of_many any (part_form size) Before ts xs None (is_parts ts xs p))

  -- a source goes up to the end
  ends_in : (ts : List Lexeme) (xs : List SourceItem) (b : Option Lexeme) → Many any (part_form size).phrase Before ts xs b → passes any b ≡ false
  ends_in _ _ b (none stop) = stop refl
  ends_in _ _ b (more {vs = vs} {xs = xs} go p q) = ends_in vs xs b q

  at_end : (rest : List Lexeme) → passes any (first rest None) ≡ false → rest ≡ []
  at_end [] e = refl
  at_end (t ∷ rest) e = cc

  pub source_ends : (ts : List Lexeme) (x : Tree) (rest : List Lexeme) → (source_form size).phrase Before ts x (first rest None) → rest ≡ []
  source_ends ts _ rest (changed {x = xs} p) = at_end rest (ends_in ts xs (first rest None) (many_of any (part_form size) Before ts xs (first rest None) p))

  -- the laws
  header_laws : Laws header_form
  header_laws = either_laws word.Hash _ _ (λ _. mapped_laws _ parameter_ports facts.parameters) (give_laws None)

  body_laws : (build : List Item → ℕ → Module) → Laws (body_form size build)
  body_laws build = then_laws (word_form word.Semicolon) _ (word_laws word.Semicolon) (λ _. then_laws (items_form size) _ (items_laws facts size) (λ xs. mapped_laws _ (word_form word.Endmodule) (word_laws word.Endmodule)))

  parts_laws : Laws (parts_form size)
  parts_laws =
      then_laws (word_form word.Module) _ (word_laws word.Module) (λ at. then_laws name_form _ name_laws (λ n. then_laws header_form _ header_laws
      (λ ps. then_laws port_list _ facts.ports (λ l. body_laws (λ xs count. module_tree at n ps l xs count)))))

  module_laws : Laws (module_form size)
  module_laws = counted_laws (λ count build. build count) (parts_form size) parts_laws

  module_some : HasToken (mapped (λ x. part.Module x) (module_form size))
  module_some _ b (changed {x = x} p) = part_none [] (part.Module x) (of_module (module_is Before [] x b p)) refl

  part_some : HasToken (part_form size)
  part_some x b p = part_none [] x (part_is Before [] x b p) refl

  part_laws : Laws (part_form size)
  unfolding part_form
  part_laws =
      choose_laws (is_word word.Module) (mapped (λ x. part.Module x) (module_form size)) (mapped (λ x. part.Directive x) directive_form)
      (mapped_laws _ (module_form size) module_laws) (mapped_laws _ directive_form facts.directive) module_some

  pub source_laws : Laws (source_form size)
  source_laws = mapped_laws _ (repeated any (part_form size) []) (repeated_laws any (part_form size) part_laws part_some [])
