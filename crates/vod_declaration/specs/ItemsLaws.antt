-- The forms of declarations are exact.
use Rattle.std.proofs.Common.{◌≡◌, Bool, true, false, ◌||◌, List, [], ◌∷◌, ◌++◌, Option, None, refl, ap}
use Rattle.vod_tree.specs.declared.declaration.NetDeclaration.{NetDeclaration}
use Rattle.vod_tree.specs.declared.declaration.RegDeclaration.{RegDeclaration}
use Rattle.vod_tree.specs.declared.declaration.Register.{Register}
use Rattle.vod_tree.specs.declared.declaration.Register.TheVariants as register
use Rattle.vod_tree.specs.declared.declaration.VariableDeclaration.{VariableDeclaration}
use Rattle.vod_tree.specs.declared.«module».ItemKind.{ItemKind}
use Rattle.vod_tree.specs.declared.«module».ItemKind.TheVariants as kind
use Rattle.vod_expr.specs.Grammar.{Lexeme, IsName, ident_of}
use Rattle.vod_grammar.specs.Form.{Form, Sight, a_word, a_name, nothing as no_token, in_turn, changed, led, unled, name_form, expression_form, mapped, flag, either}
use Rattle.vod_grammar.specs.ListLaws.{ReadBefore}
use Rattle.vod_grammar.specs.Read.{first, passes}
use Rattle.vod_grammar.specs.WordLaws.{is_word-is, is_word-other, is_word-name}
use Rattle.vod_grammar.specs.Words.{Is, is_word, are_same}
use Rattle.vod_grammar.specs.declared.word.Word.{Word}
use Rattle.vod_grammar.specs.declared.word.Word.TheVariants as word
use Rattle.vod_declaration.specs.FlatLaws.{Flat, name_flat, mapped_flat, then_flat, either_flat, behind_flat, flag_flat, listed_flat}
use Rattle.vod_declaration.specs.Items.{AreNets, AreVariables, IsRegister, AreRegisters, IsDeclaration, nets_of, variables_of, registers_of, nets, variables, value, ram, registers, input, output, output_reg, wire, reg, integer, parameter, localparam}
use Rattle.vod_declaration.specs.ItemsForm.{nets as nets_form, variables as variables_form, register_form, registers as registers_form, input_item, output_item, wire_item, reg_item, integer_item, parameter_item, localparam_item, declaration_form, starts_declaration}
use Rattle.vod_declaration.specs.ParametersForm.{parameters}
use Rattle.vod_declaration.specs.ParametersLaws.{parameters_are, of_parameters, parameters_flat}
use Rattle.vod_declaration.specs.Parts.{IsIdent}
use Rattle.vod_declaration.specs.PartsForm.{listed}
use Rattle.vod_declaration.specs.PartsLaws.{Are, Of, Avoids, Ends, Unworded, avoids_more, comma_ends, semicolon_ends, flag_avoids, flag_is, is_flag, ident_unworded, idents_are, of_idents, is_listed, listed_end, listed_unworded, part_end}
use Rattle.vod_declaration.specs.Ports.{IsValue, plain, initial}
use Rattle.vod_declaration.specs.PortsForm.{valued, value_form}
use Rattle.vod_declaration.specs.RangesForm.{bounds, typed}
use Rattle.vod_declaration.specs.RangesLaws.{bounds_are, bounds_flat, range_avoids, range_from, typed_list_end, typed_list_flat, is_typed_list}
use Rattle.vod_declaration.specs.ValuesLaws.{valued_is, values_are, of_values, value_unworded, valued_flat, value_flat}

-- nets
nets_are : Are nets_form AreNets
nets_are m _ y b (in_turn {us = ts} {vs = vs} {x = w} f q) =
    typed_list_end (nets_of w) name_form IsIdent idents_are (λ v z. AreNets (ts ++ v) z) m b (λ us ws ns l s r xs d e g h. nets (flag_is word.Wire m ts w (first vs b) f) d e g h) vs y q

of_nets : ReadBefore → (m : Sight) (ts : List Lexeme) (d : NetDeclaration) (b : Option Lexeme) → AreNets ts d → nets_form.phrase m ts d b
of_nets before m _ _ b (nets {semicolon = semicolon} {ts = ts} {us = us} {vs = vs} {ws = ws} {w = w} {s = s} {r = r} {ns = ns} f d e g h) =
    in_turn
    (is_flag word.Wire m ts w (first (us ++ (vs ++ (ws ++ semicolon ∷ []))) b)
    (flag_avoids word.Wire word.Signed refl us s d (vs ++ (ws ++ semicolon ∷ [])) (range_avoids word.Wire refl vs r e (ws ++ semicolon ∷ [])
    (avoids_more word.Wire ws (semicolon ∷ []) (listed_unworded IsIdent ident_unworded word.Wire ws ns g))) b) f)
    (is_typed_list (nets_of w) name_form IsIdent before (λ c. Unit {0}) of_idents (λ v k. tt) (λ v k. tt) ident_unworded m us vs ws semicolon s r ns b d e g h)

nets_avoid : (w : Word) → are_same w word.Wire ≡ false → are_same w word.Signed ≡ false → are_same w word.OpenBracket ≡ false → (ts : List Lexeme) (d : NetDeclaration) → AreNets ts d → Avoids w ts
nets_avoid w a c k _ _ (nets {semicolon = semicolon} {ts = ts} {us = us} {vs = vs} {ws = ws} {w = x} {s = s} {r = r} {ns = ns} f d e g h) =
    flag_avoids w word.Wire a ts x f (us ++ (vs ++ (ws ++ semicolon ∷ []))) (flag_avoids w word.Signed c us s d (vs ++ (ws ++ semicolon ∷ []))
    (range_avoids w k vs r e (ws ++ semicolon ∷ []) (avoids_more w ws (semicolon ∷ []) (listed_unworded IsIdent ident_unworded w ws ns g))))

-- "wire" and "output" "reg"
variables_are : Are variables_form AreVariables
variables_are m ts y b q = typed_list_end variables_of value_form IsValue values_are AreVariables m b (λ us vs ws l s r xs d e g h. variables d e g h) ts y q

of_variables : ReadBefore → (m : Sight) (ts : List Lexeme) (d : VariableDeclaration) (b : Option Lexeme) → AreVariables ts d → variables_form.phrase m ts d b
of_variables before m _ _ b (variables {semicolon = semicolon} {ts = ts} {us = us} {vs = vs} {s = s} {r = r} {xs = xs} d e g h) =
    is_typed_list variables_of value_form IsValue before Ends of_values (comma_ends before) (semicolon_ends before) value_unworded m ts us vs semicolon s r xs b d e g h

-- registers and memories
register_is : (t : Lexeme) → IsName t → (m : Sight) (ts : List Lexeme) (y : Register) (b : Option Lexeme)
    → (either word.OpenBracket (λ at. mapped (λ r. register.Ram (ident_of t) r) (bounds at)) (mapped (λ x. register.Value x) (valued (ident_of t)))).phrase m ts y b → IsRegister (t ∷ ts) y
register_is t h m _ y b (led {t = opener} {ts = ts} o q) =
    part_end (λ r. register.Ram (ident_of t) r) (bounds opener.place) (λ v z. IsRegister (t ∷ opener ∷ v) z) m b (λ v r p. ram h (bounds_are opener o m v r b p)) ts y q
register_is t h m ts y b (unled n q) = part_end (λ x. register.Value x) (valued (ident_of t)) (λ v z. IsRegister (t ∷ v) z) m b (λ v x p. value (valued_is t h m v x b p)) ts y q

register_are : Are register_form IsRegister
register_are m _ y b (in_turn {vs = vs} (a_name {t = t} h) q) = register_is t h m vs y b q

of_register : ReadBefore → Of register_form IsRegister Ends
of_register before m _ _ b e (value (plain h)) = in_turn (a_name h) (unled (λ k. e.bracket) (changed (unled (λ k. e.equals) no_token)))
of_register before m _ _ b e (value (initial {equals = equals} {ts = ts} {a = a} h k d)) =
    in_turn (a_name h) (unled (λ z. is_word-other word.OpenBracket word.Equals equals k) (changed (led k (changed (e.read m ts a d)))))
of_register before m _ _ b e (ram {t = t} {ts = ts} {r = r} h d) =
    range_from before (λ v z. register_form.phrase m (t ∷ v) (register.Ram (ident_of t) z) b) (λ opener v z o p. in_turn (a_name h) (led o (changed (p m b)))) ts r d

register_unworded : Unworded IsRegister
register_unworded w ts _ (value {x = x} d) = value_unworded w ts x d
register_unworded w _ _ (ram {t = t} h d) = λ b. is_word-name w t h

registers_are : Are registers_form AreRegisters
registers_are m ts y b q = typed_list_end registers_of register_form IsRegister register_are AreRegisters m b (λ us vs ws l s r xs d e g h. registers d e g h) ts y q

of_registers : ReadBefore → (m : Sight) (ts : List Lexeme) (d : RegDeclaration) (b : Option Lexeme) → AreRegisters ts d → registers_form.phrase m ts d b
of_registers before m _ _ b (registers {semicolon = semicolon} {ts = ts} {us = us} {vs = vs} {s = s} {r = r} {xs = xs} d e g h) =
    is_typed_list registers_of register_form IsRegister before Ends (of_register before) (comma_ends before) (semicolon_ends before) register_unworded m ts us vs semicolon s r xs b d e g h

-- the declarations behind their first words
output_is : (t : Lexeme) → Is word.Output t → (m : Sight) (ts : List Lexeme) (x : ItemKind) (b : Option Lexeme) → output_item.phrase m ts x b → IsDeclaration (t ∷ ts) x
output_is t h m _ _ b (led {ts = ts} k (changed {x = d} q)) = output_reg h k (variables_are m ts d b q)
output_is t h m ts _ b (unled n (changed {x = d} q)) = output h (nets_are m ts d b q)

integer_is : (t : Lexeme) → Is word.Integer t → (m : Sight) (ts : List Lexeme) (x : ItemKind) (b : Option Lexeme) → integer_item.phrase m ts x b → IsDeclaration (t ∷ ts) x
integer_is t h m ts x b q = listed_end name_form IsIdent idents_are (λ ns. kind.Integer ns) (λ v z. IsDeclaration (t ∷ v) z) (λ us ns l d k. integer h d k) m ts x b q

-- declarations
pub declarations_are : Are declaration_form IsDeclaration
declarations_are m _ _ b (led {ts = ts} h (changed {x = d} q)) = input h (nets_are m ts d b q)
declarations_are m _ x b (unled _ (led {t = t} {ts = ts} h q)) = output_is t h m ts x b q
declarations_are m _ _ b (unled _ (unled _ (led {ts = ts} h (changed {x = d} q)))) = wire h (variables_are m ts d b q)
declarations_are m _ _ b (unled _ (unled _ (unled _ (led {ts = ts} h (changed {x = d} q))))) = reg h (registers_are m ts d b q)
declarations_are m _ x b (unled _ (unled _ (unled _ (unled _ (led {t = t} {ts = ts} h q))))) = integer_is t h m ts x b q
declarations_are m _ _ b (unled _ (unled _ (unled _ (unled _ (unled _ (led {ts = ts} h (changed {x = d} q))))))) = parameter h (parameters_are m ts d b q)
declarations_are m _ _ b (unled _ (unled _ (unled _ (unled _ (unled _ (unled _ (in_turn (a_word h) (changed {ts = ts} {x = d} q)))))))) = localparam h (parameters_are m ts d b q)

pub is_declaration : ReadBefore → (m : Sight) (ts : List Lexeme) (x : ItemKind) (b : Option Lexeme) → IsDeclaration ts x → declaration_form.phrase m ts x b
is_declaration before m _ _ b (input {ts = ts} {d = d} h q) = led h (changed (of_nets before m ts d b q))
is_declaration before m _ _ b (output {t = t} {ts = ts} {d = d} h q) =
    unled (λ e. is_word-other word.Input word.Output t h) (led h (unled (λ e. nets_avoid word.Reg refl refl refl ts d q b) (changed (of_nets before m ts d b q))))
is_declaration before m _ _ b (output_reg {t = t} {ts = ts} {d = d} h k q) = unled (λ e. is_word-other word.Input word.Output t h) (led h (led k (changed (of_variables before m ts d b q))))
is_declaration before m _ _ b (wire {t = t} {ts = ts} {d = d} h q) =
    unled (λ e. is_word-other word.Input word.Wire t h) (unled (λ e. is_word-other word.Output word.Wire t h) (led h (changed (of_variables before m ts d b q))))
is_declaration before m _ _ b (reg {t = t} {ts = ts} {d = d} h q) =
    unled (λ e. is_word-other word.Input word.Reg t h) (unled (λ e. is_word-other word.Output word.Reg t h) (unled (λ e. is_word-other word.Wire word.Reg t h)
    (led h (changed (of_registers before m ts d b q)))))
is_declaration before m _ _ b (integer {t = t} {semicolon = semicolon} {ts = ts} {ns = ns} h d k) =
    unled (λ e. is_word-other word.Input word.Integer t h) (unled (λ e. is_word-other word.Output word.Integer t h) (unled (λ e. is_word-other word.Wire word.Integer t h)
    (unled (λ e. is_word-other word.Reg word.Integer t h)
    (led h (is_listed name_form IsIdent (λ c. Unit {0}) of_idents (λ v z. tt) (λ xs. kind.Integer xs) m ts ns semicolon b tt d k)))))
is_declaration before m _ _ b (parameter {t = t} {ts = ts} {d = d} h q) =
    unled (λ e. is_word-other word.Input word.Parameter t h) (unled (λ e. is_word-other word.Output word.Parameter t h) (unled (λ e. is_word-other word.Wire word.Parameter t h)
    (unled (λ e. is_word-other word.Reg word.Parameter t h) (unled (λ e. is_word-other word.Integer word.Parameter t h) (led h (changed (of_parameters before m ts d b q)))))))
is_declaration before m _ _ b (localparam {t = t} {ts = ts} {d = d} h q) =
    unled (λ e. is_word-other word.Input word.Localparam t h) (unled (λ e. is_word-other word.Output word.Localparam t h) (unled (λ e. is_word-other word.Wire word.Localparam t h)
    (unled (λ e. is_word-other word.Reg word.Localparam t h) (unled (λ e. is_word-other word.Integer word.Localparam t h) (unled (λ e. is_word-other word.Parameter word.Localparam t h)
    (in_turn (a_word h) (changed (of_parameters before m ts d b q))))))))

-- a declaration begins with one of its words
or_left : (a b : Bool) → a ≡ true → (a || b) ≡ true
or_left a b e = ap (λ v. v || b) e

or_right : (a b : Bool) → b ≡ true → (a || b) ≡ true
or_right true b e = refl
or_right false b e = e

pub declaration_starts : (ts : List Lexeme) (x : ItemKind) → IsDeclaration ts x → passes starts_declaration (first ts None) ≡ true
declaration_starts _ _ (input {t = t} h q) = or_left (is_word word.Input t) _ (is_word-is word.Input t h)
declaration_starts _ _ (output {t = t} h q) = or_right (is_word word.Input t) _ (or_left (is_word word.Output t) _ (is_word-is word.Output t h))
declaration_starts _ _ (output_reg {t = t} h k q) = or_right (is_word word.Input t) _ (or_left (is_word word.Output t) _ (is_word-is word.Output t h))
declaration_starts _ _ (wire {t = t} h q) = or_right (is_word word.Input t) _ (or_right (is_word word.Output t) _ (or_left (is_word word.Wire t) _ (is_word-is word.Wire t h)))
declaration_starts _ _ (reg {t = t} h q) = or_right (is_word word.Input t) _ (or_right (is_word word.Output t) _ (or_right (is_word word.Wire t) _ (or_left (is_word word.Reg t) _ (is_word-is word.Reg t h))))
declaration_starts _ _ (integer {t = t} h d k) =
    or_right (is_word word.Input t) _ (or_right (is_word word.Output t) _ (or_right (is_word word.Wire t) _ (or_right (is_word word.Reg t) _ (or_left (is_word word.Integer t) _ (is_word-is word.Integer t h)))))
declaration_starts _ _ (parameter {t = t} h q) =
    or_right (is_word word.Input t) _ (or_right (is_word word.Output t) _ (or_right (is_word word.Wire t) _ (or_right (is_word word.Reg t) _ (or_right (is_word word.Integer t) _
    (or_left (is_word word.Parameter t) _ (is_word-is word.Parameter t h))))))
declaration_starts _ _ (localparam {t = t} h q) =
    or_right (is_word word.Input t) _ (or_right (is_word word.Output t) _ (or_right (is_word word.Wire t) _ (or_right (is_word word.Reg t) _ (or_right (is_word word.Integer t) _
    (or_right (is_word word.Parameter t) _ (is_word-is word.Localparam t h))))))

-- the laws of the forms
nets_flat : Flat expression_form → Flat nets_form
nets_flat le = then_flat (flag word.Wire) (λ w. typed (λ s r. listed (nets_of w s r) name_form)) (flag_flat word.Wire) (λ w. typed_list_flat (nets_of w) name_form le name_flat)

variables_flat : Flat expression_form → Flat variables_form
variables_flat le = typed_list_flat variables_of value_form le (value_flat le)

register_flat : Flat expression_form → Flat register_form
register_flat le =
    then_flat name_form (λ n. either word.OpenBracket (λ at. mapped (λ r. register.Ram n r) (bounds at)) (mapped (λ x. register.Value x) (valued n))) name_flat
    (λ n. either_flat word.OpenBracket (λ at. mapped (λ r. register.Ram n r) (bounds at)) (mapped (λ x. register.Value x) (valued n))
    (λ at. mapped_flat (λ r. register.Ram n r) (bounds at) (bounds_flat le at)) (mapped_flat (λ x. register.Value x) (valued n) (valued_flat le n)))

registers_flat : Flat expression_form → Flat registers_form
registers_flat le = typed_list_flat registers_of register_form le (register_flat le)

output_flat : Flat expression_form → Flat output_item
output_flat le =
    either_flat word.Reg (λ _. mapped (λ d. kind.OutputReg d) variables_form) (mapped (λ d. kind.Output d) nets_form)
    (λ _. mapped_flat (λ d. kind.OutputReg d) variables_form (variables_flat le)) (mapped_flat (λ d. kind.Output d) nets_form (nets_flat le))

one_flat : (w : Word) (f g : Form ItemKind) → Flat f → Flat g → Flat (either w (λ _. f) g)
one_flat w f g lf lg = either_flat w (λ _. f) g (λ _. lf) lg

pub declaration_flat : Flat expression_form → Flat declaration_form
declaration_flat le =
    one_flat word.Input input_item _ (mapped_flat (λ d. kind.Input d) nets_form (nets_flat le))
    (one_flat word.Output output_item _ (output_flat le)
    (one_flat word.Wire wire_item _ (mapped_flat (λ d. kind.Wire d) variables_form (variables_flat le))
    (one_flat word.Reg reg_item _ (mapped_flat (λ d. kind.Reg d) registers_form (registers_flat le))
    (one_flat word.Integer integer_item _ (listed_flat (λ ns. kind.Integer ns) name_form name_flat)
    (one_flat word.Parameter parameter_item _ (mapped_flat (λ d. kind.Parameter d) parameters (parameters_flat le))
    (behind_flat word.Localparam localparam_item (mapped_flat (λ d. kind.Localparam d) parameters (parameters_flat le))))))))
