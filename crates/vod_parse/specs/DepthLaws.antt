-- Where a statement is nested too deep in the form of sources.
use Rattle.std.proofs.Common.{◌≡◌, ◌⊎◌, inl, inr, ◌≤◌, ℕ, Bool, true, List, [], ◌∷◌, ◌++◌, length, length-append, arith, Option, Some, subst, append_assoc}
use Rattle.vod_tree.specs.declared.declaration.ParameterPort.{ParameterPort}
use Rattle.vod_tree.specs.declared.declaration.Ports.{Ports}
use Rattle.vod_tree.specs.declared.declaration.Range.{Range}
use Rattle.vod_tree.specs.declared.«module».FunctionInput.{FunctionInput}
use Rattle.vod_tree.specs.declared.«module».Item.{Item}
use Rattle.vod_tree.specs.declared.«module».Module.{Module}
use Rattle.vod_tree.specs.declared.«module».SourceItem.{SourceItem}
use Rattle.vod_tree.specs.declared.statement.Event.{Event}
use Rattle.vod_tree.specs.declared.statement.SecondEvent.{SecondEvent}
use Rattle.vod_expr.specs.Grammar.{Lexeme, IsName, ident_of}
use Rattle.vod_grammar.specs.Form.{Depth, Before, RepeatedDeep, a_word, a_name, in_first, in_second, in_led, in_other, in_next, in_later, in_the_one, in_the_other, behind, flag}
use Rattle.vod_grammar.specs.Read.{first}
use Rattle.vod_grammar.specs.Words.{Is, is_word}
use Rattle.vod_grammar.specs.declared.word.Word.{Word}
use Rattle.vod_grammar.specs.declared.word.Word.TheVariants as word
use Rattle.vod_statement.specs.Depth as statements
use Rattle.vod_statement.specs.StatementForm.{starts_statement}
use Rattle.vod_statement.specs.declared.context.Context.{Context}
use Rattle.vod_statement.specs.declared.context.Context.TheVariants as context
use Rattle.vod_declaration.specs.Functions.{AreInputs}
use Rattle.vod_declaration.specs.Parts.{IsFlag, IsOptional}
use Rattle.vod_declaration.specs.PartsLaws.{flag_is}
use Rattle.vod_declaration.specs.Ports.{IsPortList}
use Rattle.vod_declaration.specs.Ranges.{IsRange}
use Rattle.vod_parse.specs.Depth.{InItem, in_always, in_function, in_initial, InModule, in_item, IsTooDeep, in_module}
use Rattle.vod_parse.specs.Facts.{Facts, IsFlat}
use Rattle.vod_parse.specs.FunctionsForm.{function_body, function_form}
use Rattle.vod_parse.specs.Items.{IsItem, AreItems, no_item, one_item}
use Rattle.vod_parse.specs.ItemsForm.{process_form, behavior_form, gate_or, kind_form, item_form, items_form}
use Rattle.vod_parse.specs.ItemsLaws.{item_is}
use Rattle.vod_parse.specs.Modules.{AreOverridable, IsPart, no_part, one_part, module_tree}
use Rattle.vod_parse.specs.ModulesForm.{header_form, body_form, parts_form, part_form, source_form}
use Rattle.vod_parse.specs.ModulesLaws.{header_is, part_is}
use Rattle.vod_parse.specs.Processes.{IsEvent, IsSecond}
use Rattle.vod_parse.specs.ProcessesForm.{event_form, second_form, always_body, always_form, assignment_form, assign_form}
use Rattle.vod_parse.specs.ProcessesLaws.{event_is, second_is}

-- a statement is too deep there, or qs many tokens stand before it qs the form has levels of left sides
abbrev pub OrFar : ℕ → Depth → Depth
OrFar size D front t = D front t ⊎ (size ≤ length front)

farther : (size : ℕ) (us front : List Lexeme) → size ≤ length front → size ≤ length (us ++ front)
farther size us front h = let e = length-append us front in omega (arith, h, e)

further : (size : ℕ) (D E : Depth) (us front : List Lexeme) (t : Lexeme) → (D front t → E (us ++ front) t) → OrFar size D front t → OrFar size E (us ++ front) t
further size D E us front t go (inl d) = inl (go d)
further size D E us front t go (inr h) = inr (farther size us front h)

flag_flat : (w : Word) → IsFlat (flag w)
flag_flat w _ u (in_led h d) = d
flag_flat w front u (in_other e d) = d

event_flat : IsFlat event_form
event_flat _ u (in_led h d) = d
event_flat front u (in_other e (in_first d)) = d
event_flat _ u (in_other e (in_second p d)) = d

second_flat : IsFlat second_form
second_flat _ u (in_led {front = front} h d) = event_flat front u d
second_flat _ u (in_other e (in_led {front = front} h d)) = event_flat front u d
second_flat front u (in_other e (in_other k d)) = d

module _ (facts : Facts) (size : ℕ) where
  -- in an `always`
  abbrev InAlways : Lexeme → Lexeme → Lexeme → List Lexeme → List Lexeme → Depth
  InAlways word sign opener ts us front t = InItem (word ∷ sign ∷ opener ∷ (ts ++ (us ++ front))) t

  always_statement : (w sign opener closer : Lexeme) (ts us : List Lexeme) (e : Event) (s : Option SecondEvent) → Is word.Always w → Is word.EventControl sign → Is word.OpenParen opener → IsEvent ts e → IsOptional IsSecond us s → Is word.CloseParen closer
      → (front : List Lexeme) (t : Lexeme) → (statements.Below context.Always 64 front × (starts_statement t ≡ true)) ⊎ (size ≤ length front) → OrFar size InItem (w ∷ sign ∷ opener ∷ (ts ++ (us ++ closer ∷ front))) t
  always_statement w sign opener closer ts us e s a h o p q c front t (inl d) = inl (in_always a h o p q c d.0 d.1)
  always_statement w sign opener closer ts us e s a h o p q c front t (inr far) = inr (farther size (w ∷ sign ∷ opener ∷ ts) (us ++ closer ∷ front) (farther size us (closer ∷ front) (farther size (closer ∷ []) front far)))

  always_in : (w sign opener : Lexeme) (ts us : List Lexeme) (e : Event) (s : Option SecondEvent) → Is word.Always w → Is word.EventControl sign → Is word.OpenParen opener → IsEvent ts e → IsOptional IsSecond us s
      → (front : List Lexeme) (t : Lexeme) → (always_body size w.place e s).deep front t → OrFar size InItem (w ∷ sign ∷ opener ∷ (ts ++ (us ++ front))) t
  always_in w sign opener ts us e s a h o p q front t (in_first d) = absurd d
  always_in w sign opener ts us e s a h o p q _ t (in_second {front = front} (a_word {t = closer} c) d) = always_statement w sign opener closer ts us e s a h o p q c front t (facts.statement_deep context.Always size 64 front t d)

  always_deep : (w : Lexeme) → Is word.Always w → (front : List Lexeme) (t : Lexeme) → (always_form size w.place).deep front t → OrFar size InItem (w ∷ front) t
  always_deep w a front t (in_first d) = absurd d
  always_deep w a _ t (in_second p (in_first d)) = absurd d
  always_deep w a _ t (in_second p (in_second q (in_first {front = front} d))) = absurd (event_flat front t d)
  always_deep w a _ t (in_second p (in_second q (in_second r (in_first {front = front} d)))) = absurd (second_flat front t d)
  always_deep w a _ t (in_second (a_word {t = sign} h) (in_second (a_word {t = opener} o) (in_second {us = ts} {front = rest} {x = e} p (in_second {us = us} {front = front} {x = s} q d)))) =
      always_in w sign opener ts us e s a h o (event_is Before ts e (first rest (Some t)) p) (second_is Before us s (first front (Some t)) q) front t d

  -- no statement stands in an assignment
  assignment_far : (front : List Lexeme) (t : Lexeme) → (assignment_form size).deep front t → size ≤ length front
  assignment_far front t (in_first d) = facts.lval_deep size front t d
  assignment_far _ t (in_second p (in_first d)) = absurd d
  assignment_far _ t (in_second p (in_second q d)) = absurd d

  more_far : (front : List Lexeme) (t : Lexeme) → RepeatedDeep (is_word word.Comma) (behind word.Comma (assignment_form size)).phrase (behind word.Comma (assignment_form size)).deep front t → size ≤ length front
  more_far front t (in_next e (in_first d)) = absurd d
  more_far _ t (in_next e (in_second {us = us} {front = front} p d)) = farther size us front (assignment_far front t d)
  more_far _ t (in_later {us = us} {front = front} e p d) = farther size us front (more_far front t d)

  assign_far : (front : List Lexeme) (t : Lexeme) → (assign_form size).deep front t → size ≤ length front
  assign_far front t (in_first (in_first d)) = assignment_far front t d
  assign_far _ t (in_first (in_second {us = us} {front = front} p d)) = farther size us front (more_far front t d)
  assign_far _ t (in_second p d) = absurd d

  -- in a function
  function_far : (w : Lexeme) (qs ss rs : List Lexeme) (name : Lexeme) (is : List Lexeme) (semicolon : Lexeme) (ds front : List Lexeme) → size ≤ length front → size ≤ length (w ∷ (qs ++ (ss ++ (rs ++ name ∷ (is ++ semicolon ∷ (ds ++ front))))))
  function_far w qs ss rs name is semicolon ds front h =
      farther size (w ∷ qs) (ss ++ (rs ++ name ∷ (is ++ semicolon ∷ (ds ++ front)))) (farther size ss (rs ++ name ∷ (is ++ semicolon ∷ (ds ++ front)))
      (farther size rs (name ∷ (is ++ semicolon ∷ (ds ++ front))) (farther size (name ∷ is) (semicolon ∷ (ds ++ front)) (farther size (semicolon ∷ ds) front h))))

  function_in : (w : Lexeme) (qs ss rs is : List Lexeme) (name : Lexeme) (a s : Bool) (r : Option Range) (i : Option (List FunctionInput))
      → Is word.Function w → IsFlag word.Automatic qs a → IsFlag word.Signed ss s → IsOptional IsRange rs r → IsName name → IsOptional AreInputs is i
      → (front : List Lexeme) (t : Lexeme) → (function_body size w.place a s r (ident_of name) i).deep front t → OrFar size InItem (w ∷ (qs ++ (ss ++ (rs ++ name ∷ (is ++ front))))) t
  function_in w qs ss rs is name a s r i f p q o h j front t (in_first d) = absurd d
  function_in w qs ss rs is name a s r i f p q o h j _ t (in_second k (in_first {front = front} d)) = absurd (facts.locals_flat front t d)
  function_in w qs ss rs is name a s r i f p q o h j _ t (in_second k (in_second l (in_second m d))) = absurd d
  function_in w qs ss rs is name a s r i f p q o h j _ t (in_second (a_word {t = semicolon} k) (in_second {us = ds} {front = front} {x = d} l (in_first e))) = by (facts.statement_deep context.Function size 64 front t e)
    where
      by : (statements.Below context.Function 64 front × (starts_statement t ≡ true)) ⊎ (size ≤ length front) → OrFar size InItem (w ∷ (qs ++ (ss ++ (rs ++ name ∷ (is ++ semicolon ∷ (ds ++ front)))))) t
      by (inl b) = inl (in_function name f p q o h j k (facts.locals_are Before ds d (first front (Some t)) l) b.0 b.1)
      by (inr far) = inr (function_far w qs ss rs name is semicolon ds front far)

  function_deep : (w : Lexeme) → Is word.Function w → (front : List Lexeme) (t : Lexeme) → (function_form size w.place).deep front t → OrFar size InItem (w ∷ front) t
  function_deep w f front t (in_first d) = absurd (flag_flat word.Automatic front t d)
  function_deep w f _ t (in_second p (in_first {front = front} d)) = absurd (flag_flat word.Signed front t d)
  function_deep w f _ t (in_second p (in_second q (in_first {front = front} d))) = absurd (facts.range_flat front t d)
  function_deep w f _ t (in_second p (in_second q (in_second o (in_first d)))) = absurd d
  function_deep w f _ t (in_second p (in_second q (in_second o (in_second h (in_first {front = front} d))))) = absurd (facts.inputs_flat front t d)
  function_deep w f _ t (in_second {us = qs} {front = f1} {x = a} p (in_second {us = ss} {front = f2} {x = s} q (in_second {us = rs} {front = f3} {x = r} o (in_second (a_name {t = name} h) (in_second {us = is} {front = front} {x = i} j d))))) =
      function_in w qs ss rs is name a s r i f (flag_is word.Automatic Before qs a (first f1 (Some t)) p) (flag_is word.Signed Before ss s (first f2 (Some t)) q) (facts.range_are Before rs r (first f3 (Some t)) o) h
      (facts.inputs_are Before is i (first front (Some t)) j) front t d

  -- in an item
  process_deep : (front : List Lexeme) (t : Lexeme) → (process_form size).deep front t → OrFar size InItem front t
  process_deep _ t (in_led {front = front} h d) = let b = facts.initial_deep 64 front t d in inl (in_initial h b.0 b.1)
  process_deep _ t (in_other e (in_led {t = w} {front = front} h d)) = always_deep w h front t d
  process_deep front t (in_other e (in_other k d)) = absurd (facts.instances_flat front t d)

  behavior_deep : (front : List Lexeme) (t : Lexeme) → (behavior_form size).deep front t → OrFar size InItem front t
  behavior_deep _ t (in_led {t = w} {front = front} h d) = inr (farther size (w ∷ []) front (assign_far front t d))
  behavior_deep _ t (in_other e (in_led {t = w} {front = front} h d)) = function_deep w h front t d
  behavior_deep front t (in_other e (in_other k d)) = process_deep front t d

  gate_deep : (front : List Lexeme) (t : Lexeme) → (gate_or (behavior_form size)).deep front t → OrFar size InItem front t
  gate_deep front t (in_the_one e d) = absurd (facts.gate_flat front t d)
  gate_deep front t (in_the_other e d) = behavior_deep front t d

  kind_deep : (front : List Lexeme) (t : Lexeme) → (kind_form size).deep front t → OrFar size InItem front t
  kind_deep front t (in_the_one e d) = absurd (facts.declaration_flat front t d)
  kind_deep front t (in_the_other e d) = gate_deep front t d

  -- behind other items
  data InItems : List Lexeme → Lexeme → Type 0 where
    behind_items : {us front : List Lexeme} {t : Lexeme} {before : List Item} → AreItems us before → InItem front t → InItems (us ++ front) t

  one_behind : (us front : List Lexeme) (x : Item) (t : Lexeme) → IsItem us x → InItems front t → InItems (us ++ front) t
  one_behind us _ x t i (behind_items {us = vs} {front = front} is d) = subst (λ v. InItems v t) (append_assoc us vs front) (behind_items (one_item i is) d)

  items_deep : (front : List Lexeme) (t : Lexeme) → (items_form size).deep front t → OrFar size InItems front t
  unfolding item_form
  items_deep front t (in_next e d) = further size InItem InItems [] front t (λ k. behind_items no_item k) (kind_deep front t d)
  items_deep _ t (in_later {us = us} {front = front} {x = x} e p d) = further size InItems InItems us front t (one_behind us front x t (item_is facts size Before us x (first front (Some t)) p)) (items_deep front t d)

  -- in a module
  module_in : (w name : Lexeme) (ts us : List Lexeme) (o : Option (List ParameterPort)) (l : Ports) → Is word.Module w → IsName name → IsOptional AreOverridable ts o → IsPortList us l
      → (front : List Lexeme) (t : Lexeme) → (body_form size (λ xs count. module_tree w.place (ident_of name) o l xs count)).deep front t → OrFar size InModule (w ∷ name ∷ (ts ++ (us ++ front))) t
  module_in w name ts us o l h k p q front t (in_first d) = absurd d
  module_in w name ts us o l h k p q _ t (in_second s (in_second r d)) = absurd d
  module_in w name ts us o l h k p q _ t (in_second (a_word {t = semicolon} s) (in_first {front = front} d)) = by front (items_deep front t d)
    where
      inside : (rest : List Lexeme) → InItems rest t → InModule (w ∷ name ∷ (ts ++ (us ++ semicolon ∷ rest))) t
      inside _ (behind_items is i) = in_item h k p q s is i

      by : (rest : List Lexeme) → OrFar size InItems rest t → OrFar size InModule (w ∷ name ∷ (ts ++ (us ++ semicolon ∷ rest))) t
      by rest (inl d) = inl (inside rest d)
      by rest (inr far) = inr (farther size (w ∷ name ∷ ts) (us ++ semicolon ∷ rest) (farther size us (semicolon ∷ rest) (farther size (semicolon ∷ []) rest far)))

  header_flat : IsFlat header_form
  header_flat _ t (in_led {front = front} h d) = facts.parameters_flat front t d
  header_flat front t (in_other e d) = d

  module_deep : (front : List Lexeme) (t : Lexeme) → (parts_form size).deep front t → OrFar size InModule front t
  module_deep front t (in_first d) = absurd d
  module_deep _ t (in_second h (in_first d)) = absurd d
  module_deep _ t (in_second h (in_second k (in_first {front = front} d))) = absurd (header_flat front t d)
  module_deep _ t (in_second h (in_second k (in_second p (in_first {front = front} d)))) = absurd (facts.ports_flat front t d)
  module_deep _ t (in_second (a_word {t = w} h) (in_second (a_name {t = name} k) (in_second {us = ts} {front = rest} {x = o} p (in_second {us = us} {front = front} {x = l} q d)))) =
      module_in w name ts us o l h k (header_is facts size Before ts o (first rest (Some t)) p) (facts.ports_are Before us l (first front (Some t)) q) front t d

  part_deep : (front : List Lexeme) (t : Lexeme) → (part_form size).deep front t → OrFar size InModule front t
  unfolding part_form
  part_deep front t (in_the_one e d) = module_deep front t d
  part_deep front t (in_the_other e d) = absurd (facts.directive_flat front t d)

  -- in a source
  part_behind : (us front : List Lexeme) (x : SourceItem) (t : Lexeme) → IsPart us x → IsTooDeep front t → IsTooDeep (us ++ front) t
  part_behind us _ x t i (in_module {ts = ts} {front = front} is d) = subst (λ v. IsTooDeep v t) (append_assoc us ts front) (in_module (one_part i is) d)

  pub source_deep : (front : List Lexeme) (t : Lexeme) → (source_form size).deep front t → OrFar size IsTooDeep front t
  source_deep front t (in_next e d) = further size InModule IsTooDeep [] front t (λ k. in_module no_part k) (part_deep front t d)
  source_deep _ t (in_later {us = us} {front = front} {x = x} e p d) = further size IsTooDeep IsTooDeep us front t (part_behind us front x t (part_is facts size Before us x (first front (Some t)) p)) (source_deep front t d)
