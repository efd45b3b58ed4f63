-- The form of items is exact.
use Rattle.std.proofs.Common.{◌≡◌, ℕ, Bool, true, false, not, List, [], ◌∷◌, ◌++◌, Option, None, Some, refl, ◌∙◌, ap}
use Rattle.vod_tree.specs.declared.instance.GateKind.{GateKind}
use Rattle.vod_tree.specs.declared.instance.GateKind.TheVariants as gates
use Rattle.vod_tree.specs.declared.«module».Item.{Item}
use Rattle.vod_tree.specs.declared.«module».ItemKind.{ItemKind}
use Rattle.vod_tree.specs.declared.«module».ItemKind.TheVariants as kind
use Rattle.vod_expr.specs.Grammar.{Lexeme, IsName}
use Rattle.vod_grammar.specs.ChooseLaws.{choose_laws}
use Rattle.vod_grammar.specs.EitherLaws.{either_laws}
use Rattle.vod_grammar.specs.Form.{Sight, Before, changed, put, led, unled, the_one, the_other, mapped}
use Rattle.vod_grammar.specs.Laws.{Laws}
use Rattle.vod_grammar.specs.ListLaws.{Many, none, more, many_of, of_many}
use Rattle.vod_grammar.specs.PartLaws.{mapped_laws, placed_laws}
use Rattle.vod_grammar.specs.Read.{first, passes}
use Rattle.vod_grammar.specs.RepeatLaws.{HasToken, repeated_laws}
use Rattle.vod_grammar.specs.WordLaws.{is_word-is, is_word-other, is_word-name}
use Rattle.vod_grammar.specs.Words.{Is, is_word, is_other, are_same}
use Rattle.vod_grammar.specs.declared.word.Word.{Word}
use Rattle.vod_grammar.specs.declared.word.Word.TheVariants as word
use Rattle.vod_declaration.specs.Items as declarations
use Rattle.vod_declaration.specs.ItemsForm.{declaration_form, starts_declaration}
use Rattle.vod_initial.specs.InitialForm.{initial_form}
use Rattle.vod_instance.specs.Gates.{of_kind, gate_word}
use Rattle.vod_instance.specs.GatesForm.{gate_form, starts_gate}
use Rattle.vod_instance.specs.Instances.{of_module}
use Rattle.vod_instance.specs.InstancesForm.{instances_form}
use Rattle.vod_parse.specs.Facts.{Facts, Not, Are, Of}
use Rattle.vod_parse.specs.FunctionsForm.{function_form}
use Rattle.vod_parse.specs.FunctionsLaws.{function_is, is_function, function_laws, not_both, neither}
use Rattle.vod_parse.specs.Items.{IsKind, declared, assigned, gated, instantiated, computed, begun, repeated, IsItem, placed as at_place, AreItems, no_item, one_item, item}
use Rattle.vod_parse.specs.ItemsForm.{process_form, behavior_form, gate_or, kind_form, item_form, items_form}
use Rattle.vod_parse.specs.ProcessesForm.{always_form, assign_form}
use Rattle.vod_parse.specs.ProcessesLaws.{always_is, is_always, always_laws, assign_is, is_assign, assign_laws}

-- the words of declarations are spelled otherwise than this one
abbrev pub IsApart : Word → Type 0
IsApart w =
    (are_same word.Input w ≡ false) × (are_same word.Output w ≡ false) × (are_same word.Wire w ≡ false) × (are_same word.Reg w ≡ false)
    × (are_same word.Integer w ≡ false) × (are_same word.Parameter w ≡ false) × (are_same word.Localparam w ≡ false)

pub gate_apart : (k : GateKind) → IsApart (gate_word k)
gate_apart gates.And = (refl, refl, refl, refl, refl, refl, refl)
gate_apart gates.Nand = (refl, refl, refl, refl, refl, refl, refl)
gate_apart gates.Or = (refl, refl, refl, refl, refl, refl, refl)
gate_apart gates.Nor = (refl, refl, refl, refl, refl, refl, refl)
gate_apart gates.Xor = (refl, refl, refl, refl, refl, refl, refl)
gate_apart gates.Xnor = (refl, refl, refl, refl, refl, refl, refl)
gate_apart gates.Buf = (refl, refl, refl, refl, refl, refl, refl)
gate_apart gates.Not = (refl, refl, refl, refl, refl, refl, refl)

-- and the words of gates otherwise than those of other items
pub gate_others : (k : GateKind) → (are_same (gate_word k) word.Assign ≡ false) × (are_same (gate_word k) word.Function ≡ false) × (are_same (gate_word k) word.Initial ≡ false) × (are_same (gate_word k) word.Always ≡ false)
gate_others gates.And = (refl, refl, refl, refl)
gate_others gates.Nand = (refl, refl, refl, refl)
gate_others gates.Or = (refl, refl, refl, refl)
gate_others gates.Nor = (refl, refl, refl, refl)
gate_others gates.Xor = (refl, refl, refl, refl)
gate_others gates.Xnor = (refl, refl, refl, refl)
gate_others gates.Buf = (refl, refl, refl, refl)
gate_others gates.Not = (refl, refl, refl, refl)

-- with such a word no declaration begins, nor with a name
pub undeclared_word : (w : Word) (t : Lexeme) → Is w t → IsApart w → starts_declaration t ≡ false
undeclared_word w t h a =
    neither (is_word word.Input t) _ (is_word-other word.Input w t h ∙ a.0) (neither (is_word word.Output t) _ (is_word-other word.Output w t h ∙ a.1)
    (neither (is_word word.Wire t) _ (is_word-other word.Wire w t h ∙ a.2) (neither (is_word word.Reg t) _ (is_word-other word.Reg w t h ∙ a.3)
    (neither (is_word word.Integer t) _ (is_word-other word.Integer w t h ∙ a.4) (neither (is_word word.Parameter t) _ (is_word-other word.Parameter w t h ∙ a.5)
    (is_word-other word.Localparam w t h ∙ a.6))))))

undeclared_name : (t : Lexeme) → IsName t → starts_declaration t ≡ false
undeclared_name t h =
    neither (is_word word.Input t) _ (is_word-name word.Input t h) (neither (is_word word.Output t) _ (is_word-name word.Output t h)
    (neither (is_word word.Wire t) _ (is_word-name word.Wire t h) (neither (is_word word.Reg t) _ (is_word-name word.Reg t h)
    (neither (is_word word.Integer t) _ (is_word-name word.Integer t h) (neither (is_word word.Parameter t) _ (is_word-name word.Parameter t h)
    (is_word-name word.Localparam t h))))))

module _ (facts : Facts) (size : ℕ) where
  -- a token that begins no gates
  pub no_gate_word : (w : Word) (t : Lexeme) → Is w t → ((k : GateKind) → are_same (gate_word k) w ≡ false) → starts_gate t ≡ false
  no_gate_word w t h a = by (starts_gate t) refl
    where
      by : (v : Bool) → starts_gate t ≡ v → starts_gate t ≡ false
      by true e = let k = facts.gate_word t e in absurd (not_both (is_word-is (gate_word k.0) t k.1) (is_word-other (gate_word k.0) w t h ∙ a k.0))
      by false e = e

  no_gate_name : (t : Lexeme) → IsName t → starts_gate t ≡ false
  no_gate_name t h = by (starts_gate t) refl
    where
      by : (v : Bool) → starts_gate t ≡ v → starts_gate t ≡ false
      by true e = let k = facts.gate_word t e in absurd (not_both (is_word-is (gate_word k.0) t k.1) (is_word-name (gate_word k.0) t h))
      by false e = e

  -- phrases of the form are items
  process_is : Are (process_form size) IsKind
  process_is m _ _ b (led h (changed {ts = ts} {x = x} p)) = begun h (facts.initial_are 64 m ts x b p)
  process_is m _ _ b (unled n (led {t = t} h (changed {ts = ts} {x = x} p))) = repeated h (always_is facts size t.place m ts x b p)
  process_is m _ _ b (unled n (unled i (changed {ts = ts} {x = x} p))) = instantiated (facts.instances_are m ts x b p)

  behavior_is : Are (behavior_form size) IsKind
  behavior_is m _ _ b (led h (changed {ts = ts} {x = x} p)) = assigned h (assign_is facts size m ts x b p)
  behavior_is m _ _ b (unled n (led {t = t} h (changed {ts = ts} {x = x} p))) = computed h (function_is facts size t.place m ts x b p)
  behavior_is m ts x b (unled n (unled i p)) = process_is m ts x b p

  pub gate_is : Are (gate_or (behavior_form size)) IsKind
  gate_is m _ _ b (the_one go (changed {ts = ts} {x = x} p)) = gated (facts.gate_are m ts x b p)
  gate_is m ts x b (the_other n p) = behavior_is m ts x b p

  pub kind_is : Are (kind_form size) IsKind
  kind_is m ts x b (the_one go p) = declared (facts.declaration_are m ts x b p)
  kind_is m ts x b (the_other n p) = gate_is m ts x b p

  pub item_is : Are (item_form size) IsItem
  unfolding item_form
  item_is m ts _ b (put {x = x} p) = at_place (kind_is m ts x b p)

  -- items are phrases of the form, where no `else` follows that would belong to their last statement
  not_gate : (m : Sight) (w : Word) (t : Lexeme) (ts : List Lexeme) (x : ItemKind) (b : Option Lexeme) → Is w t → IsApart w → ((k : GateKind) → are_same (gate_word k) w ≡ false) → (behavior_form size).phrase m (t ∷ ts) x b
      → (kind_form size).phrase m (t ∷ ts) x b
  not_gate m w t ts x b h a g p = the_other (λ e. undeclared_word w t h a) (the_other (λ e. no_gate_word w t h g) p)

  pub is_kind : Of (kind_form size) IsKind (Not word.Else)
  is_kind m ts x b n (declared d) = the_one (λ e. facts.declaration_starts ts x d) (facts.of_declaration m ts x b tt d)
  is_kind m _ _ b n (assigned {t = t} {ts = ts} {xs = xs} h p) =
      not_gate m word.Assign t ts (kind.Assign xs) b h (refl, refl, refl, refl, refl, refl, refl) (λ k. (gate_others k).0) (led h (changed (is_assign facts size m ts xs b tt p)))
  is_kind m _ _ b n (gated {x = x} (of_kind {t = t} {semicolon = s} {k = k} {ts = ts} {xs = xs} h d e)) =
      the_other (λ z. undeclared_word (gate_word k) t h (gate_apart k))
      (the_one (λ z. facts.gate_starts k t h) (changed (facts.of_gate m (t ∷ (ts ++ s ∷ [])) x b tt (of_kind h d e))))
  is_kind m _ _ b n (instantiated {x = x} (of_module {t = t} {semicolon = s} {ts = ts} {us = us} h o i e)) =
      the_other (λ z. undeclared_name t h)
      (the_other (λ z. no_gate_name t h) (unled (λ z. is_word-name word.Assign t h) (unled (λ z. is_word-name word.Function t h)
      (unled (λ z. is_word-name word.Initial t h) (unled (λ z. is_word-name word.Always t h) (changed (facts.of_instances m (t ∷ (ts ++ (us ++ s ∷ []))) x b tt (of_module h o i e))))))))
  is_kind m _ _ b n (computed {t = t} {ts = ts} {x = x} h p) =
      not_gate m word.Function t ts (kind.Function x) b h (refl, refl, refl, refl, refl, refl, refl) (λ k. (gate_others k).1)
      (unled (λ e. is_word-other word.Assign word.Function t h) (led h (changed (is_function facts size t.place m ts x b tt p))))
  is_kind m _ _ b n (begun {t = t} {ts = ts} {x = x} h p) =
      not_gate m word.Initial t ts (kind.Initial x) b h (refl, refl, refl, refl, refl, refl, refl) (λ k. (gate_others k).2)
      (unled (λ e. is_word-other word.Assign word.Initial t h) (unled (λ e. is_word-other word.Function word.Initial t h) (led h (changed (facts.of_initial 64 m ts x b tt p)))))
  is_kind m _ _ b n (repeated {t = t} {ts = ts} {x = x} h p) =
      not_gate m word.Always t ts (kind.Always x) b h (refl, refl, refl, refl, refl, refl, refl) (λ k. (gate_others k).3)
      (unled (λ e. is_word-other word.Assign word.Always t h) (unled (λ e. is_word-other word.Function word.Always t h) (unled (λ e. is_word-other word.Initial word.Always t h)
      (led h (changed (is_always facts size t.place m ts x b n p))))))

  pub is_item : Of (item_form size) IsItem (Not word.Else)
  unfolding item_form
  is_item m ts _ b n (at_place {k = x} p) = put (is_kind m ts x b n p)

-- a word with which no item begins
pub record IsNoStart (w : Word) : Type 0 where
  pub input : are_same w word.Input ≡ false
  pub output : are_same w word.Output ≡ false
  pub wire : are_same w word.Wire ≡ false
  pub reg : are_same w word.Reg ≡ false
  pub integer : are_same w word.Integer ≡ false
  pub parameter : are_same w word.Parameter ≡ false
  pub localparam : are_same w word.Localparam ≡ false
  pub gate : (k : GateKind) → are_same w (gate_word k) ≡ false
  pub assign : are_same w word.Assign ≡ false
  pub function : are_same w word.Function ≡ false
  pub initial : are_same w word.Initial ≡ false
  pub always : are_same w word.Always ≡ false

endmodule_gates : (k : GateKind) → are_same word.Endmodule (gate_word k) ≡ false
endmodule_gates gates.And = refl
endmodule_gates gates.Nand = refl
endmodule_gates gates.Or = refl
endmodule_gates gates.Nor = refl
endmodule_gates gates.Xor = refl
endmodule_gates gates.Xnor = refl
endmodule_gates gates.Buf = refl
endmodule_gates gates.Not = refl

else_gates : (k : GateKind) → are_same word.Else (gate_word k) ≡ false
else_gates gates.And = refl
else_gates gates.Nand = refl
else_gates gates.Or = refl
else_gates gates.Nor = refl
else_gates gates.Xor = refl
else_gates gates.Xnor = refl
else_gates gates.Buf = refl
else_gates gates.Not = refl

pub no_endmodule : IsNoStart word.Endmodule
no_endmodule = record {
  input = refl;
  output = refl;
  wire = refl;
  reg = refl;
  integer = refl;
  parameter = refl;
  localparam = refl;
  gate = endmodule_gates;
  assign = refl;
  function = refl;
  initial = refl;
  always = refl;
}

pub no_else : IsNoStart word.Else
no_else = record {
  input = refl;
  output = refl;
  wire = refl;
  reg = refl;
  integer = refl;
  parameter = refl;
  localparam = refl;
  gate = else_gates;
  assign = refl;
  function = refl;
  initial = refl;
  always = refl;
}

-- there is a first token, and it isn't this word
pub record Without (w : Word) (ts : List Lexeme) : Type 0 where
  pub token : Lexeme
  pub rest : List Lexeme
  pub split : ts ≡ token ∷ rest
  pub is : is_word w token ≡ false

by_word : (w v : Word) (t : Lexeme) (ts : List Lexeme) → Is v t → are_same w v ≡ false → Without w (t ∷ ts)
by_word w v t ts h e = record { token = t; rest = ts; split = refl; is = is_word-other w v t h ∙ e }

declaration_word : (w : Word) → IsNoStart w → (ts : List Lexeme) (x : ItemKind) → declarations.IsDeclaration ts x → Without w ts
declaration_word w n _ _ (declarations.input {t = t} {ts = ts} h d) = by_word w word.Input t ts h n.input
declaration_word w n _ _ (declarations.output {t = t} {ts = ts} h d) = by_word w word.Output t ts h n.output
declaration_word w n _ _ (declarations.output_reg {t = t} {reg = reg} {ts = ts} h k d) = by_word w word.Output t (reg ∷ ts) h n.output
declaration_word w n _ _ (declarations.wire {t = t} {ts = ts} h d) = by_word w word.Wire t ts h n.wire
declaration_word w n _ _ (declarations.reg {t = t} {ts = ts} h d) = by_word w word.Reg t ts h n.reg
declaration_word w n _ _ (declarations.integer {t = t} {semicolon = s} {ts = ts} h d k) = by_word w word.Integer t (ts ++ s ∷ []) h n.integer
declaration_word w n _ _ (declarations.parameter {t = t} {ts = ts} h d) = by_word w word.Parameter t ts h n.parameter
declaration_word w n _ _ (declarations.localparam {t = t} {ts = ts} h d) = by_word w word.Localparam t ts h n.localparam

kind_word : (w : Word) → IsNoStart w → (ts : List Lexeme) (x : ItemKind) → IsKind ts x → Without w ts
kind_word w n ts x (declared d) = declaration_word w n ts x d
kind_word w n _ _ (assigned {t = t} {ts = ts} h p) = by_word w word.Assign t ts h n.assign
kind_word w n _ _ (gated (of_kind {t = t} {semicolon = s} {k = k} {ts = ts} h d e)) = by_word w (gate_word k) t (ts ++ s ∷ []) h (n.gate k)
kind_word w n _ _ (instantiated (of_module {t = t} {semicolon = s} {ts = ts} {us = us} h o i e)) = record { token = t; rest = ts ++ (us ++ s ∷ []); split = refl; is = is_word-name w t h }
kind_word w n _ _ (computed {t = t} {ts = ts} h p) = by_word w word.Function t ts h n.function
kind_word w n _ _ (begun {t = t} {ts = ts} h p) = by_word w word.Initial t ts h n.initial
kind_word w n _ _ (repeated {t = t} {ts = ts} h p) = by_word w word.Always t ts h n.always

pub item_word : (w : Word) → IsNoStart w → (ts : List Lexeme) (x : Item) → IsItem ts x → Without w ts
item_word w n ts _ (at_place {k = x} p) = kind_word w n ts x p

no_head : {t : Lexeme} {ts : List Lexeme} → [] ≡ t ∷ ts → ⊥
no_head h = cc

-- items before a word with which none begins
pub items_word : (w : Word) → IsNoStart w → (ts : List Lexeme) (xs : List Item) (b : Option Lexeme) → Not w b → AreItems ts xs → Not w (first ts b)
items_word w n _ _ b e no_item = e
items_word w n _ _ b e (one_item {ts = ts} {us = us} {x = x} p q) = let s = item_word w n ts x p in ap (λ v. passes (is_word w) (first (v ++ us) b)) s.split ∙ s.is

pub goes_on : (ts : List Lexeme) → Without word.Endmodule ts → passes (is_other word.Endmodule) (first ts None) ≡ true
goes_on ts s = ap (λ v. passes (is_other word.Endmodule) (first v None)) s.split ∙ ap not s.is

module _ (facts : Facts) (size : ℕ) where
  items_are : (m : Sight) (ts : List Lexeme) (xs : List Item) (b : Option Lexeme) → Many (is_other word.Endmodule) (item_form size).phrase m ts xs b → AreItems ts xs
  items_are m _ _ b (none stop) = no_item
  items_are m _ _ b (more {us = us} {vs = vs} {x = x} {xs = xs} go p q) = one_item (item_is facts size m us x (first vs b) p) (items_are m vs xs b q)

  pub items_is : Are (items_form size) AreItems
  items_is m ts xs b p = items_are m ts xs b (many_of (is_other word.Endmodule) (item_form size) m ts xs b p)

  are_items : (m : Sight) (ts : List Lexeme) (xs : List Item) (t : Lexeme) → Is word.Endmodule t → AreItems ts xs → Many (is_other word.Endmodule) (item_form size).phrase m ts xs (Some t)
  are_items m _ _ t h no_item = none (λ e. ap not (is_word-is word.Endmodule t h))
  are_items m _ _ t h (one_item {ts = ts} {us = us} {x = x} {xs = xs} p q) =
      more (λ e. goes_on ts (item_word word.Endmodule no_endmodule ts x p))
      (is_item facts size m ts x (first us (Some t)) (items_word word.Else no_else us xs (Some t) (is_word-other word.Else word.Endmodule t h) q) p) (are_items m us xs t h q)

  pub is_items : (m : Sight) (ts : List Lexeme) (xs : List Item) (t : Lexeme) → Is word.Endmodule t → AreItems ts xs → (items_form size).phrase m ts xs (Some t)
  is_items m ts xs t h p = of_many (is_other word.Endmodule) (item_form size) m ts xs (Some t) (are_items m ts xs t h p)

  -- the laws
  kind_some : HasToken (kind_form size)
  kind_some x b p = no_head (kind_word word.Else no_else [] x (kind_is facts size Before [] x b p)).split

  declaration_some : HasToken declaration_form
  declaration_some x b p = no_head (kind_word word.Else no_else [] x (declared (facts.declaration_are Before [] x b p))).split

  gate_some : HasToken (mapped (λ x. kind.Gate x) gate_form)
  gate_some _ b (changed {x = x} p) = no_head (kind_word word.Else no_else [] (kind.Gate x) (gated (facts.gate_are Before [] x b p))).split

  item_some : HasToken (item_form size)
  item_some x b p = no_head (item_word word.Else no_else [] x (item_is facts size Before [] x b p)).split

  process_laws : Laws (process_form size)
  process_laws =
      either_laws word.Initial _ _ (λ _. mapped_laws _ (initial_form 64) (facts.initial 64)) (either_laws word.Always _ _ (λ at. mapped_laws _ (always_form size at) (always_laws facts size at))
      (mapped_laws _ instances_form facts.instances))

  behavior_laws : Laws (behavior_form size)
  behavior_laws =
      either_laws word.Assign _ _ (λ _. mapped_laws _ (assign_form size) (assign_laws facts size)) (either_laws word.Function _ _ (λ at. mapped_laws _ (function_form size at) (function_laws facts size at)) process_laws)

  kind_laws : Laws (kind_form size)
  kind_laws =
      choose_laws starts_declaration declaration_form (gate_or (behavior_form size)) facts.declaration
      (choose_laws starts_gate (mapped (λ x. kind.Gate x) gate_form) (behavior_form size) (mapped_laws _ gate_form facts.gate) behavior_laws gate_some) declaration_some

  pub item_laws : Laws (item_form size)
  unfolding item_form
  item_laws = placed_laws item (kind_form size) kind_laws kind_some

  pub items_laws : Laws (items_form size)
  items_laws = repeated_laws (is_other word.Endmodule) (item_form size) item_laws item_some []
