-- What is known of the parts of a source, from the laws of the crates that read them.
use Rattle.std.specs.Prelude.{◌≡◌, ◌≤◌, ◌⊎◌, ℕ, Bool, true, false, List, ◌∷◌, Option, None, length}
use Rattle.vod_tree.specs.declared.instance.GateKind.{GateKind}
use Rattle.vod_tree.specs.declared.«module».FunctionDeclaration.{FunctionDeclaration}
use Rattle.vod_tree.specs.declared.«module».FunctionInput.{FunctionInput}
use Rattle.vod_tree.specs.declared.«module».ItemKind.{ItemKind}
use Rattle.vod_tree.specs.declared.statement.Statement.{Statement}
use Rattle.vod_expr.specs.Grammar.{Lexeme}
use Rattle.vod_grammar.specs.Form.{Form, Sight, expression_form}
use Rattle.vod_grammar.specs.Laws.{Laws}
use Rattle.vod_grammar.specs.ListLaws.{ReadBefore}
use Rattle.vod_grammar.specs.Read.{first, passes}
use Rattle.vod_grammar.specs.Words.{Is, is_word}
use Rattle.vod_grammar.specs.declared.word.Word.{Word}
use Rattle.vod_grammar.specs.declared.word.Word.TheVariants as word
use Rattle.vod_statement.specs.Depth as statements
use Rattle.vod_statement.specs.LeftSide.{IsLval}
use Rattle.vod_statement.specs.LeftSideForm.{lval_form}
use Rattle.vod_statement.specs.StatementForm.{StatementPhrase, starts_statement, statement_form}
use Rattle.vod_statement.specs.Statements.{IsStatement}
use Rattle.vod_statement.specs.declared.context.Context.{Context}
use Rattle.vod_initial.specs.Depth as initials
use Rattle.vod_initial.specs.Initial.{IsInitial}
use Rattle.vod_initial.specs.InitialForm.{initial_form, starts_initial}
use Rattle.vod_declaration.specs.Functions.{AreInputs, AreFunctionDeclarations}
use Rattle.vod_declaration.specs.FunctionsForm.{function_inputs, function_declarations, starts_function_declaration}
use Rattle.vod_declaration.specs.Items.{IsDeclaration}
use Rattle.vod_declaration.specs.ItemsForm.{declaration_form, starts_declaration}
use Rattle.vod_declaration.specs.Parameters.{AreParameterPorts}
use Rattle.vod_declaration.specs.ParametersForm.{parameter_ports}
use Rattle.vod_declaration.specs.Parts.{IsOptional}
use Rattle.vod_declaration.specs.Ports.{IsPortList}
use Rattle.vod_declaration.specs.PortsForm.{port_list}
use Rattle.vod_declaration.specs.Ranges.{IsRange}
use Rattle.vod_declaration.specs.RangesForm.{range_form}
use Rattle.vod_directive.specs.DirectiveForm.{directive_form}
use Rattle.vod_instance.specs.Gates.{IsGate, gate_word}
use Rattle.vod_instance.specs.GatesForm.{gate_form, starts_gate}
use Rattle.vod_instance.specs.Instances.{AreInstances}
use Rattle.vod_instance.specs.InstancesForm.{instances_form}

-- phrases of a form are of a relation, whatever follows
abbrev pub Are : {A : Type 0} → Form A → (List Lexeme → A → Type 0) → Type 0
Are {A} f R = (m : Sight) (ts : List Lexeme) (x : A) (b : Option Lexeme) → f.phrase m ts x b → R ts x

-- what is of a relation is a phrase of a form, before what passes
abbrev pub Of : {A : Type 0} → Form A → (List Lexeme → A → Type 0) → (Option Lexeme → Type 0) → Type 0
Of {A} f R E = (m : Sight) (ts : List Lexeme) (x : A) (b : Option Lexeme) → E b → R ts x → f.phrase m ts x b

-- before anything, and before what isn't a word
abbrev pub Anything : Option Lexeme → Type 0
Anything b = Unit {0}

abbrev pub Not : Word → Option Lexeme → Type 0
Not w b = passes (is_word w) b ≡ false

-- nothing is nested too deep
abbrev pub IsFlat : {A : Type 0} → Form A → Type 0
IsFlat f = (front : List Lexeme) (t : Lexeme) → f.deep front t → ⊥

pub record Facts : Type 0 where
  pub expression : Laws expression_form
  pub read : ReadBefore
  pub lval : (n : ℕ) → Laws (lval_form n)
  pub lval_are : (n : ℕ) → Are (lval_form n) IsLval
  pub of_lval : (n : ℕ) → Of (lval_form n) IsLval (Not word.OpenBracket)
  pub lval_deep : (n : ℕ) (front : List Lexeme) (t : Lexeme) → (lval_form n).deep front t → n ≤ length front
  pub statement : (c : Context) (size n : ℕ) → Laws (statement_form c size n)
  pub statement_are : (c : Context) (size n : ℕ) (m : Sight) (ts : List Lexeme) (x : Statement) (b : Option Lexeme) → (statement_form c size n).phrase m ts x b → StatementPhrase c m ts x b
  pub of_statement : (c : Context) (size n : ℕ) (m : Sight) (ts : List Lexeme) (x : Statement) (b : Option Lexeme) → StatementPhrase c m ts x b → (statement_form c size n).phrase m ts x b
  pub statement_deep : (c : Context) (size n : ℕ) (front : List Lexeme) (t : Lexeme) → (statement_form c size n).deep front t → (statements.Below c n front × (starts_statement t ≡ true)) ⊎ (size ≤ length front)
  pub statement_below : (c : Context) (size n : ℕ) (front : List Lexeme) (t : Lexeme) → starts_statement t ≡ true → statements.Below c n front → (statement_form c size n).deep front t
  pub statement_starts : (c : Context) (o : Bool) (ts : List Lexeme) (x : Statement) → IsStatement c o ts x → (t : Lexeme) × (us : List Lexeme) × (ts ≡ t ∷ us) × (starts_statement t ≡ true)
  pub initial : (n : ℕ) → Laws (initial_form n)
  pub initial_are : (n : ℕ) → Are (initial_form n) IsInitial
  pub of_initial : (n : ℕ) → Of (initial_form n) IsInitial Anything
  pub initial_deep : (n : ℕ) (front : List Lexeme) (t : Lexeme) → (initial_form n).deep front t → initials.Below n front × (starts_initial t ≡ true)
  pub initial_below : (n : ℕ) (front : List Lexeme) (t : Lexeme) → starts_initial t ≡ true → initials.Below n front → (initial_form n).deep front t
  pub range : Laws range_form
  pub range_are : Are range_form (IsOptional IsRange)
  pub of_range : Of range_form (IsOptional IsRange) (Not word.OpenBracket)
  pub range_flat : IsFlat range_form
  pub inputs : Laws function_inputs
  pub inputs_are : Are function_inputs (IsOptional AreInputs)
  pub of_inputs : Of function_inputs (IsOptional AreInputs) (Not word.OpenParen)
  pub inputs_flat : IsFlat function_inputs
  pub locals : Laws function_declarations
  pub locals_are : Are function_declarations AreFunctionDeclarations
  pub of_locals : Of function_declarations AreFunctionDeclarations (λ b. passes starts_function_declaration b ≡ false)
  pub locals_flat : IsFlat function_declarations
  pub declaration : Laws declaration_form
  pub declaration_are : Are declaration_form IsDeclaration
  pub of_declaration : Of declaration_form IsDeclaration Anything
  pub declaration_starts : (ts : List Lexeme) (x : ItemKind) → IsDeclaration ts x → passes starts_declaration (first ts None) ≡ true
  pub declaration_flat : IsFlat declaration_form
  pub parameters : Laws parameter_ports
  pub parameters_are : Are parameter_ports AreParameterPorts
  pub of_parameters : Of parameter_ports AreParameterPorts Anything
  pub parameters_flat : IsFlat parameter_ports
  pub ports : Laws port_list
  pub ports_are : Are port_list IsPortList
  pub of_ports : Of port_list IsPortList (Not word.OpenParen)
  pub ports_flat : IsFlat port_list
  pub gate : Laws gate_form
  pub gate_are : Are gate_form IsGate
  pub of_gate : Of gate_form IsGate Anything
  pub gate_flat : IsFlat gate_form
  pub gate_starts : (k : GateKind) (t : Lexeme) → Is (gate_word k) t → starts_gate t ≡ true
  pub gate_word : (t : Lexeme) → starts_gate t ≡ true → (k : GateKind) × Is (gate_word k) t
  pub instances : Laws instances_form
  pub instances_are : Are instances_form AreInstances
  pub of_instances : Of instances_form AreInstances Anything
  pub instances_flat : IsFlat instances_form
  pub directive : Laws directive_form
  pub directive_flat : IsFlat directive_form
