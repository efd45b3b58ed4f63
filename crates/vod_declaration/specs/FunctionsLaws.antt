-- The forms of a function's header and declarations are exact.
use Rattle.std.proofs.Common.{◌≡◌, ℕ, Bool, true, false, ◌||◌, List, [], ◌∷◌, ◌++◌, Option, None, Some, refl, ap}
use Rattle.vod_tree.specs.declared.«module».FunctionDeclaration.{FunctionDeclaration}
use Rattle.vod_tree.specs.declared.«module».FunctionDeclaration.TheVariants as declaration
use Rattle.vod_tree.specs.declared.«module».FunctionInput.{FunctionInput}
use Rattle.vod_tree.specs.declared.«module».FunctionInput.TheVariants as input
use Rattle.vod_tree.specs.declared.«module».FunctionPort.{FunctionPort}
use Rattle.vod_tree.specs.declared.«module».FunctionVariables.{FunctionVariables}
use Rattle.vod_expr.specs.Grammar.{Lexeme}
use Rattle.vod_grammar.specs.Form.{Sight, Before, a_word, nothing as no_token, in_turn, changed, led, unled, word_form, name_form, expression_form, mapped, give}
use Rattle.vod_grammar.specs.ListLaws.{Many, none, more, ReadBefore, many_of, of_many}
use Rattle.vod_grammar.specs.Read.{first, passes}
use Rattle.vod_grammar.specs.RepeatLaws.{HasToken}
use Rattle.vod_grammar.specs.WordLaws.{is_word-is, is_word-other}
use Rattle.vod_grammar.specs.Words.{Is, is_word}
use Rattle.vod_grammar.specs.declared.word.Word.TheVariants as word
use Rattle.vod_declaration.specs.FlatLaws.{Flat, word_flat, name_flat, give_flat, mapped_flat, then_flat, either_flat, enclosed_flat, repeated_flat}
use Rattle.vod_declaration.specs.Functions.{IsFunctionPort, IsInput, AreInputs, AreFunctionVariables, IsFunctionDeclaration, AreFunctionDeclarations, function_port_of, function_variables_of, port, declared, further, header, variables, inputs, locals, no_more, one_more}
use Rattle.vod_declaration.specs.FunctionsForm.{function_port, first_input, function_input, function_inputs, function_variables, function_declaration, function_declarations, starts_function_declaration}
use Rattle.vod_declaration.specs.Parts.{IsIdent, IsOptional, AreFurther, nothing, something}
use Rattle.vod_declaration.specs.PartsForm.{enclosed}
use Rattle.vod_declaration.specs.PartsLaws.{Are, Of, enclosed_end, ident_unworded, idents_are, of_idents, is_enclosed, name_end}
use Rattle.vod_declaration.specs.RangesLaws.{typed_end, typed_flat, typed_list_end, typed_list_flat, is_typed, is_typed_list}

-- behind `input` of a header
port_is : (t : Lexeme) → Is word.Input t → (m : Sight) (ts : List Lexeme) (p : FunctionPort) (b : Option Lexeme) → (function_port t.place).phrase m ts p b → IsFunctionPort (t ∷ ts) p
port_is t h m ts p b q =
    typed_end (λ s r. mapped (function_port_of t.place s r) name_form) (λ v z. IsFunctionPort (t ∷ v) z) m b
    (λ us vs ws s r z d e l. name_end (function_port_of t.place s r) (λ v x. IsFunctionPort (t ∷ (us ++ (vs ++ v))) x) (λ v n i. port h d e i) m ws z b l)
    ts p q

-- an input, as its word and what stands behind it
port_from : ReadBefore → (R : List Lexeme → FunctionPort → Type 0)
    → ((t : Lexeme) (ts : List Lexeme) (p : FunctionPort) → Is word.Input t → ((m : Sight) (b : Option Lexeme) → (function_port t.place).phrase m ts p b) → R (t ∷ ts) p)
    → (ts : List Lexeme) (p : FunctionPort) → IsFunctionPort ts p → R ts p
port_from before R make _ _ (port {t = t} {ts = ts} {us = us} {vs = vs} {s = s} {r = r} {n = n} h d e i) =
    make t (ts ++ (us ++ vs)) (function_port_of t.place s r n) h
    (λ m b. is_typed (λ s r. mapped (function_port_of t.place s r) name_form) before m ts us vs s r (function_port_of t.place s r n) b d e
    (ident_unworded word.Signed vs n i) (ident_unworded word.OpenBracket vs n i) (changed (of_idents m vs n b tt i)))

data FirstInput : List Lexeme → FunctionInput → Type 0 where
  first_one : {ts : List Lexeme} {p : FunctionPort} → IsFunctionPort ts p → FirstInput ts (input.Port p)

first_is : Are first_input FirstInput
first_is m _ _ b (in_turn (a_word {t = t} h) (changed {ts = ts} {x = p} q)) = first_one (port_is t h m ts p b q)

is_first : ReadBefore → (m : Sight) (ts : List Lexeme) (p : FunctionPort) (b : Option Lexeme) → IsFunctionPort ts p → first_input.phrase m ts (input.Port p) b
is_first before m ts p b d = port_from before (λ v z. first_input.phrase m v (input.Port z) b) (λ t us q h f. in_turn (a_word h) (changed (f m b))) ts p d

inputs_are : Are function_input IsInput
inputs_are m _ _ b (led {t = t} {ts = ts} h (changed {x = p} q)) = declared (port_is t h m ts p b q)
inputs_are m ts y b (unled n q) = name_end (λ n. input.Further n) IsInput (λ us x i. further i) m ts y b q

of_inputs : ReadBefore → Of function_input IsInput (λ b. Unit {0})
of_inputs before m ts _ b e (declared {p = p} d) = port_from before (λ v z. function_input.phrase m v (input.Port z) b) (λ t us q h f. led h (changed (f m b))) ts p d
of_inputs before m ts _ b e (further {n = n} i) = unled (λ k. ident_unworded word.Input ts n i b) (changed (of_idents m ts n b tt i))

header_of : (opener closer : Lexeme) (ts us : List Lexeme) (x : FunctionInput) (xs : List FunctionInput) → Is word.OpenParen opener → FirstInput ts x → AreFurther IsInput us xs → Is word.CloseParen closer
    → AreInputs (opener ∷ (ts ++ (us ++ closer ∷ []))) (x ∷ xs)
header_of opener closer ts us _ xs o (first_one d) ds c = header o d ds c

-- the header, or nothing
pub function_inputs_are : Are function_inputs (IsOptional AreInputs)
function_inputs_are m _ _ b (led {t = opener} {ts = ts} o (changed {x = ys} q)) =
    enclosed_end function_input IsInput inputs_are first_input FirstInput first_is (λ us z. IsOptional AreInputs (opener ∷ us) (Some z))
    (λ us vs x xs t d ds c. something (header_of opener t us vs x xs o d ds c)) m ts ys b q
function_inputs_are m _ _ b (unled n no_token) = nothing

pub of_function_inputs : ReadBefore → (m : Sight) (ts : List Lexeme) (x : Option (List FunctionInput)) (b : Option Lexeme) → passes (is_word word.OpenParen) b ≡ false
    → IsOptional AreInputs ts x → function_inputs.phrase m ts x b
of_function_inputs before m _ _ b n nothing = unled (λ e. n) no_token
of_function_inputs before m _ _ b n (something (header {closer = closer} {ts = ts} {us = us} {p = p} {xs = xs} o d ds c)) =
    led o
    (changed (is_enclosed function_input IsInput (λ b. Unit {0}) (of_inputs before) (λ t h. tt) first_input m ts us (input.Port p) xs closer b tt (λ x e. is_first before m ts p x d) ds c))

-- behind `input` or `reg` in a function
variables_are : (t : Lexeme) (m : Sight) (ts : List Lexeme) (d : FunctionVariables) (b : Option Lexeme) → (function_variables t.place).phrase m ts d b → AreFunctionVariables (t ∷ ts) d
variables_are t m ts d b q =
    typed_list_end (function_variables_of t.place) name_form IsIdent idents_are (λ v z. AreFunctionVariables (t ∷ v) z) m b (λ us vs ws l s r xs e f g h. variables e f g h) ts d q

of_variables : ReadBefore → (t : Lexeme) (m : Sight) (ts : List Lexeme) (d : FunctionVariables) (b : Option Lexeme) → AreFunctionVariables (t ∷ ts) d → (function_variables t.place).phrase m ts d b
of_variables before t m _ _ b (variables {semicolon = semicolon} {ts = ts} {us = us} {vs = vs} {s = s} {r = r} {ns = ns} e f g h) =
    is_typed_list (function_variables_of t.place) name_form IsIdent before (λ c. Unit {0}) of_idents (λ v k. tt) (λ v k. tt) ident_unworded m ts us vs semicolon s r ns b e f g h

declaration_is : Are function_declaration IsFunctionDeclaration
declaration_is m _ _ b (led {t = t} {ts = ts} h (changed {x = d} q)) = inputs h (variables_are t m ts d b q)
declaration_is m _ _ b (unled n (in_turn (a_word {t = t} h) (changed {ts = ts} {x = d} q))) = locals h (variables_are t m ts d b q)

is_declaration : ReadBefore → (m : Sight) (ts : List Lexeme) (d : FunctionDeclaration) (b : Option Lexeme) → IsFunctionDeclaration ts d → function_declaration.phrase m ts d b
is_declaration before m _ _ b (inputs {t = t} {ts = ts} {d = d} h q) = led h (changed (of_variables before t m ts d b q))
is_declaration before m _ _ b (locals {t = t} {ts = ts} {d = d} h q) = unled (λ e. is_word-other word.Input word.Reg t h) (in_turn (a_word h) (changed (of_variables before t m ts d b q)))

-- declarations, or none
many_are : (m : Sight) (ts : List Lexeme) (ds : List FunctionDeclaration) (b : Option Lexeme) → Many starts_function_declaration function_declaration.phrase m ts ds b → AreFunctionDeclarations ts ds
many_are m _ _ b (none stop) = no_more
many_are m _ _ b (more {us = us} {vs = vs} {x = d} {xs = ds} go p q) = one_more (declaration_is m us d (first vs b) p) (many_are m vs ds b q)

pub function_declarations_are : Are function_declarations AreFunctionDeclarations
function_declarations_are m ts ds b p = many_are m ts ds b (many_of starts_function_declaration function_declaration m ts ds b p)

or_left : (a b : Bool) → a ≡ true → (a || b) ≡ true
or_left a b e = ap (λ v. v || b) e

or_right : (a b : Bool) → b ≡ true → (a || b) ≡ true
or_right true b e = refl
or_right false b e = e

declaration_starts : (ts : List Lexeme) (d : FunctionDeclaration) → IsFunctionDeclaration ts d → passes starts_function_declaration (first ts None) ≡ true
declaration_starts _ _ (inputs {t = t} h q) = or_left (is_word word.Input t) (is_word word.Reg t) (is_word-is word.Input t h)
declaration_starts _ _ (locals {t = t} h q) = or_right (is_word word.Input t) (is_word word.Reg t) (is_word-is word.Reg t h)

of_declarations : ReadBefore → (m : Sight) (ts : List Lexeme) (ds : List FunctionDeclaration) (b : Option Lexeme) → passes starts_function_declaration b ≡ false → AreFunctionDeclarations ts ds
    → Many starts_function_declaration function_declaration.phrase m ts ds b
of_declarations before m _ _ b n no_more = none (λ e. n)
of_declarations before m _ _ b n (one_more {ts = ts} {us = us} {d = d} {ds = ds} q qs) =
    more (λ e. declaration_starts ts d q) (is_declaration before m ts d (first us b) q) (of_declarations before m us ds b n qs)

pub of_function_declarations : ReadBefore → (m : Sight) (ts : List Lexeme) (ds : List FunctionDeclaration) (b : Option Lexeme) → passes starts_function_declaration b ≡ false
    → AreFunctionDeclarations ts ds → function_declarations.phrase m ts ds b
of_function_declarations before m ts ds b n d = of_many starts_function_declaration function_declaration m ts ds b (of_declarations before m ts ds b n d)

-- the laws of the forms
port_flat : Flat expression_form → (at : ℕ) → Flat (function_port at)
port_flat le at = typed_flat (λ s r. mapped (function_port_of at s r) name_form) le (λ s r. mapped_flat (function_port_of at s r) name_form name_flat)

pub function_inputs_flat : Flat expression_form → Flat function_inputs
function_inputs_flat le =
    either_flat word.OpenParen (λ _. mapped (λ xs. Some xs) (enclosed first_input function_input)) (give None)
    (λ _. mapped_flat (λ xs. Some xs) (enclosed first_input function_input) (enclosed_flat first_input function_input
    (then_flat (word_form word.Input) _ (word_flat word.Input) (λ at. mapped_flat _ (function_port at) (port_flat le at)))
    (either_flat word.Input _ _ (λ at. mapped_flat _ (function_port at) (port_flat le at)) (mapped_flat _ name_form name_flat))))
    (give_flat None)

variables_flat : Flat expression_form → (at : ℕ) → Flat (function_variables at)
variables_flat le at = typed_list_flat (function_variables_of at) name_form le name_flat

declaration_flat : Flat expression_form → Flat function_declaration
declaration_flat le =
    either_flat word.Input _ _ (λ at. mapped_flat _ (function_variables at) (variables_flat le at))
    (then_flat (word_form word.Reg) _ (word_flat word.Reg) (λ at. mapped_flat _ (function_variables at) (variables_flat le at)))

declaration_split : (ts : List Lexeme) (d : FunctionDeclaration) → IsFunctionDeclaration ts d → ts ≡ [] → ⊥
declaration_split _ _ (inputs h q) e = cc
declaration_split _ _ (locals h q) e = cc

declaration_token : HasToken function_declaration
declaration_token d b p = declaration_split [] d (declaration_is Before [] d b p) refl

pub function_declarations_flat : Flat expression_form → Flat function_declarations
function_declarations_flat le = repeated_flat starts_function_declaration function_declaration [] (declaration_flat le) declaration_token
