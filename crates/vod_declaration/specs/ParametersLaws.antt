-- The forms of parameters are exact.
use Rattle.std.proofs.Common.{◌≡◌, ℕ, true, false, List, [], ◌∷◌, ◌++◌, Option, None, Some}
use Rattle.vod_tree.specs.declared.declaration.ParameterDeclaration.{ParameterDeclaration}
use Rattle.vod_tree.specs.declared.declaration.ParameterPort.{ParameterPort}
use Rattle.vod_tree.specs.declared.declaration.ParameterPort.TheVariants as port
use Rattle.vod_tree.specs.declared.declaration.ParameterType.{ParameterType}
use Rattle.vod_tree.specs.declared.declaration.Setting.{Setting}
use Rattle.vod_tree.specs.declared.declaration.TypedParameter.{TypedParameter}
use Rattle.vod_expr.specs.Grammar.{Lexeme, ident_of}
use Rattle.vod_grammar.specs.Form.{Sight, a_word, a_name, nothing as no_token, in_turn, changed, led, unled, word_form, name_form, expression_form, mapped, then}
use Rattle.vod_grammar.specs.ListLaws.{ReadBefore}
use Rattle.vod_grammar.specs.Read.{first, passes, place_of}
use Rattle.vod_grammar.specs.WordLaws.{is_word-other, is_word-name}
use Rattle.vod_grammar.specs.Words.{Is, is_word}
use Rattle.vod_grammar.specs.declared.word.Word.TheVariants as word
use Rattle.vod_declaration.specs.FlatLaws.{Flat, word_flat, name_flat, give_flat, mapped_flat, then_flat, either_flat, listed_flat, enclosed_flat}
use Rattle.vod_declaration.specs.Parameters.{IsSetting, IsParameterType, IsTypedParameter, IsParameterPort, AreParameterPorts, AreParameters, setting, parameter_type, typed_parameter_of, parameters_of, named, signed_range, plain_range, typed, parameter, further, header, settings}
use Rattle.vod_declaration.specs.ParametersForm.{setting_form, type_form, typed_parameter, first_parameter, parameter_port, parameter_ports, parameters}
use Rattle.vod_declaration.specs.Parts.{IsOptional, AreFurther, nothing, something}
use Rattle.vod_declaration.specs.PartsForm.{enclosed, listed}
use Rattle.vod_declaration.specs.PartsLaws.{Are, Of, Ends, Unworded, avoids_more, comma_ends, paren_ends, semicolon_ends, enclosed_end, expression_end, is_enclosed, is_listed, listed_end, listed_unworded, part_end}
use Rattle.vod_declaration.specs.RangesForm.{bounds}
use Rattle.vod_declaration.specs.RangesLaws.{bounds_are, bounds_flat, range_from}

-- NAME = expr
pub settings_are : Are setting_form IsSetting
settings_are m _ y b (in_turn (a_name {t = t} h) (in_turn {vs = vs} (a_word {t = equals} k) q)) =
    expression_end (setting (ident_of t)) (λ ts z. IsSetting (t ∷ equals ∷ ts) z) (λ ts a d. named h k d) m vs y b q

pub of_settings : Of setting_form IsSetting Ends
of_settings m _ _ b e (named {ts = ts} {a = a} h k d) = in_turn (a_name h) (in_turn (a_word k) (changed (e.read m ts a d)))

pub setting_unworded : Unworded IsSetting
setting_unworded w _ _ (named {t = t} h k d) b = is_word-name w t h

-- types
types_are : Are type_form (IsOptional IsParameterType)
types_are m _ y b (led {t = t} h (in_turn {vs = vs} (a_word {t = opener} o) q)) =
    part_end (λ r. Some (parameter_type t.place true r)) (bounds opener.place) (λ ts z. IsOptional IsParameterType (t ∷ opener ∷ ts) z) m b
    (λ ts r p. something (signed_range h (bounds_are opener o m ts r b p))) vs y q
types_are m _ y b (unled n (led {t = t} {ts = ts} o q)) =
    part_end (λ r. Some (parameter_type t.place false r)) (bounds t.place) (λ us z. IsOptional IsParameterType (t ∷ us) z) m b
    (λ us r p. something (plain_range (bounds_are t o m us r b p))) ts y q
types_are m _ _ b (unled n (unled k no_token)) = nothing

is_type : ReadBefore → (m : Sight) (ts : List Lexeme) (k : Option ParameterType) (b : Option Lexeme) → passes (is_word word.Signed) b ≡ false → passes (is_word word.OpenBracket) b ≡ false
    → IsOptional IsParameterType ts k → type_form.phrase m ts k b
is_type before m _ _ b n o nothing = unled (λ e. n) (unled (λ e. o) no_token)
is_type before m _ _ b n o (something (signed_range {t = t} {ts = ts} {r = r} h d)) =
    range_from before (λ us z. type_form.phrase m (t ∷ us) (Some (parameter_type t.place true z)) b) (λ opener us z k p. led h (in_turn (a_word k) (changed (p m b)))) ts r d
is_type before m _ _ b n o (something (plain_range {t = t} {ts = ts} {r = r} d)) =
    range_from before (λ us z. type_form.phrase m us (Some (parameter_type (place_of us) false z)) b)
    (λ opener us z k p. unled (λ e. is_word-other word.Signed word.OpenBracket opener k) (led k (changed (p m b)))) (t ∷ ts) r d

-- behind `parameter`
typed_are : (t : Lexeme) → Is word.Parameter t → (m : Sight) (ts : List Lexeme) (p : TypedParameter) (b : Option Lexeme) → (typed_parameter t.place).phrase m ts p b → IsTypedParameter (t ∷ ts) p
typed_are t h m _ p b (in_turn {us = ts} {vs = us} {x = k} q s) =
    part_end (typed_parameter_of t.place k) setting_form (λ v z. IsTypedParameter (t ∷ (ts ++ v)) z) m b (λ v x d. typed h (types_are m ts k (first us b) q) (settings_are m v x b d)) us p s

of_typed : ReadBefore → (at : ℕ) (m : Sight) (ts us : List Lexeme) (k : Option ParameterType) (s : Setting) (b : Option Lexeme) → Ends b → IsOptional IsParameterType ts k → IsSetting us s
    → (typed_parameter at).phrase m (ts ++ us) (typed_parameter_of at k s) b
of_typed before at m ts us k s b e d h =
    in_turn (is_type before m ts k (first us b) (setting_unworded word.Signed us s h b) (setting_unworded word.OpenBracket us s h b) d) (changed (of_settings m us s b e h))

-- the first parameter of a header
data FirstParameter : List Lexeme → ParameterPort → Type 0 where
  first_one : {ts : List Lexeme} {p : TypedParameter} → IsTypedParameter ts p → FirstParameter ts (port.Parameter p)

first_is : Are first_parameter FirstParameter
first_is m _ _ b (in_turn (a_word {t = t} h) (changed {ts = ts} {x = p} q)) = first_one (typed_are t h m ts p b q)

is_first : ReadBefore → (m : Sight) (ts : List Lexeme) (p : TypedParameter) (b : Option Lexeme) → Ends b → IsTypedParameter ts p → first_parameter.phrase m ts (port.Parameter p) b
is_first before m _ _ b e (typed {t = t} {ts = ts} {us = us} {k = k} {s = s} h d q) = in_turn (a_word h) (changed (of_typed before t.place m ts us k s b e d q))

-- the others
ports_are : Are parameter_port IsParameterPort
ports_are m _ _ b (led {t = t} {ts = ts} h (changed {x = p} q)) = parameter (typed_are t h m ts p b q)
ports_are m ts _ b (unled n (changed {x = s} q)) = further (settings_are m ts s b q)

of_ports : ReadBefore → Of parameter_port IsParameterPort Ends
of_ports before m _ _ b e (parameter (typed {t = t} {ts = ts} {us = us} {k = k} {s = s} h d q)) = led h (changed (of_typed before t.place m ts us k s b e d q))
of_ports before m ts _ b e (further {s = s} d) = unled (λ k. setting_unworded word.Parameter ts s d b) (changed (of_settings m ts s b e d))

-- the header
header_of : (opener closer : Lexeme) (ts us : List Lexeme) (x : ParameterPort) (xs : List ParameterPort) → Is word.OpenParen opener → FirstParameter ts x → AreFurther IsParameterPort us xs → Is word.CloseParen closer
    → AreParameterPorts (opener ∷ (ts ++ (us ++ closer ∷ []))) (x ∷ xs)
header_of opener closer ts us _ xs o (first_one d) ds c = header o d ds c

pub parameter_ports_are : Are parameter_ports AreParameterPorts
parameter_ports_are m _ y b (in_turn {vs = vs} (a_word {t = opener} o) q) =
    enclosed_end parameter_port IsParameterPort ports_are first_parameter FirstParameter first_is (λ ts z. AreParameterPorts (opener ∷ ts) z)
    (λ ts us x xs t d ds c. header_of opener t ts us x xs o d ds c) m vs y b q

pub of_parameter_ports : ReadBefore → (m : Sight) (ts : List Lexeme) (ps : List ParameterPort) (b : Option Lexeme) → AreParameterPorts ts ps → parameter_ports.phrase m ts ps b
of_parameter_ports before m _ _ b (header {closer = closer} {ts = ts} {us = us} {p = p} {ps = ps} o d ds c) =
    in_turn (a_word o)
    (is_enclosed parameter_port IsParameterPort Ends (of_ports before) (comma_ends before) first_parameter m ts us (port.Parameter p) ps closer b
    (paren_ends before closer c) (λ x e. is_first before m ts p x e d) ds c)

-- parameters as an item
pub parameters_are : Are parameters AreParameters
parameters_are m _ y b (in_turn {us = ts} {vs = vs} {x = k} p q) =
    listed_end setting_form IsSetting settings_are (parameters_of k) (λ us z. AreParameters (ts ++ us) z) (λ us ss t d h. settings (types_are m ts k (first vs b) p) d h) m vs y b q

pub of_parameters : ReadBefore → (m : Sight) (ts : List Lexeme) (d : ParameterDeclaration) (b : Option Lexeme) → AreParameters ts d → parameters.phrase m ts d b
of_parameters before m _ _ b (settings {semicolon = semicolon} {ts = ts} {us = us} {k = k} {ss = ss} d ds h) =
    in_turn
    (is_type before m ts k (first (us ++ semicolon ∷ []) b)
    (avoids_more word.Signed us (semicolon ∷ []) (listed_unworded IsSetting setting_unworded word.Signed us ss ds) b)
    (avoids_more word.OpenBracket us (semicolon ∷ []) (listed_unworded IsSetting setting_unworded word.OpenBracket us ss ds) b) d)
    (is_listed setting_form IsSetting Ends of_settings (comma_ends before) (parameters_of k) m us ss semicolon b (semicolon_ends before semicolon h) ds h)

-- the laws of the forms
pub setting_flat : Flat expression_form → Flat setting_form
setting_flat le =
    then_flat name_form (λ n. then (word_form word.Equals) (λ _. mapped (setting n) expression_form)) name_flat
    (λ n. then_flat (word_form word.Equals) (λ _. mapped (setting n) expression_form) (word_flat word.Equals) (λ _. mapped_flat (setting n) expression_form le))

type_flat : Flat expression_form → Flat type_form
type_flat le =
    either_flat word.Signed _ _
    (λ at. then_flat (word_form word.OpenBracket) _ (word_flat word.OpenBracket) (λ opener. mapped_flat _ (bounds opener) (bounds_flat le opener)))
    (either_flat word.OpenBracket _ _ (λ at. mapped_flat _ (bounds at) (bounds_flat le at)) (give_flat None))

typed_flat : Flat expression_form → (at : ℕ) → Flat (typed_parameter at)
typed_flat le at = then_flat type_form (λ k. mapped (typed_parameter_of at k) setting_form) (type_flat le) (λ k. mapped_flat (typed_parameter_of at k) setting_form (setting_flat le))

first_flat : Flat expression_form → Flat first_parameter
first_flat le = then_flat (word_form word.Parameter) _ (word_flat word.Parameter) (λ at. mapped_flat _ (typed_parameter at) (typed_flat le at))

port_flat : Flat expression_form → Flat parameter_port
port_flat le = either_flat word.Parameter _ _ (λ at. mapped_flat _ (typed_parameter at) (typed_flat le at)) (mapped_flat _ setting_form (setting_flat le))

pub parameter_ports_flat : Flat expression_form → Flat parameter_ports
parameter_ports_flat le =
    then_flat (word_form word.OpenParen) (λ _. enclosed first_parameter parameter_port) (word_flat word.OpenParen)
    (λ _. enclosed_flat first_parameter parameter_port (first_flat le) (port_flat le))

pub parameters_flat : Flat expression_form → Flat parameters
parameters_flat le = then_flat type_form (λ k. listed (parameters_of k) setting_form) (type_flat le) (λ k. listed_flat (parameters_of k) setting_form (setting_flat le))
