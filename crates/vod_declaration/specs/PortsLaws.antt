-- The form of ports is exact.
use Rattle.std.proofs.Common.{◌≡◌, ℕ, Bool, true, false, List, ◌∷◌, ◌++◌, Option, refl, ◌∙◌}
use Rattle.vod_tree.specs.declared.declaration.DeclaredPort.{DeclaredPort}
use Rattle.vod_tree.specs.declared.declaration.DeclaredPort.TheVariants as port
use Rattle.vod_tree.specs.declared.declaration.NetPort.{NetPort}
use Rattle.vod_tree.specs.declared.declaration.RegPort.{RegPort}
use Rattle.vod_tree.specs.declared.declaration.Setting.{Setting}
use Rattle.vod_tree.specs.declared.ident.Ident.{Ident}
use Rattle.vod_expr.specs.Grammar.{Lexeme, IsName, ident_of}
use Rattle.vod_grammar.specs.Form.{Sight, a_name, nothing as no_token, in_turn, changed, led, unled, name_form, expression_form, mapped, flag, either, give}
use Rattle.vod_grammar.specs.ListLaws.{ReadBefore}
use Rattle.vod_grammar.specs.Read.{first}
use Rattle.vod_grammar.specs.WordLaws.{is_word-other}
use Rattle.vod_grammar.specs.Words.{Is, are_same}
use Rattle.vod_grammar.specs.declared.word.Word.{Word}
use Rattle.vod_grammar.specs.declared.word.Word.TheVariants as word
use Rattle.vod_declaration.specs.FlatLaws.{Flat, name_flat, give_flat, mapped_flat, then_flat, either_flat, flag_flat}
use Rattle.vod_declaration.specs.Parameters.{IsSetting, setting, named}
use Rattle.vod_declaration.specs.ParametersLaws.{setting_unworded}
use Rattle.vod_declaration.specs.Parts.{IsIdent, ident}
use Rattle.vod_declaration.specs.PartsLaws.{Are, Of, Avoids, Ends, expression_end, flag_avoids, flag_is, is_flag, ident_unworded, of_idents, name_end, part_end}
use Rattle.vod_declaration.specs.Ports.{IsNetPort, IsPort, net_port_of, reg_port_of, net, input, output, output_reg}
use Rattle.vod_declaration.specs.PortsForm.{net_port, reg_port, input_port, output_port, further_port, port_form, is_reg, value_form}
use Rattle.vod_declaration.specs.RangesForm.{typed}
use Rattle.vod_declaration.specs.RangesLaws.{typed_end, typed_flat, is_typed, range_avoids}
use Rattle.vod_declaration.specs.ValuesLaws.{values_are, of_values, value_unworded, value_flat}

-- nets
net_port_is : (t : Lexeme) (m : Sight) (ts : List Lexeme) (p : NetPort) (b : Option Lexeme) → (net_port t.place).phrase m ts p b → IsNetPort (t ∷ ts) p
net_port_is t m _ p b (in_turn {us = ts} {vs = vs} {x = w} f q) =
    typed_end (λ s r. mapped (net_port_of t.place w s r) name_form) (λ v z. IsNetPort (t ∷ (ts ++ v)) z) m b
    (λ us ws ns s r z d e l. name_end (net_port_of t.place w s r) (λ v x. IsNetPort (t ∷ (ts ++ (us ++ (ws ++ v)))) x)
    (λ v n i. net (flag_is word.Wire m ts w (first vs b) f) d e i) m ns z b l) vs p q

is_net_port : ReadBefore → (t : Lexeme) (m : Sight) (ts : List Lexeme) (p : NetPort) (b : Option Lexeme) → IsNetPort (t ∷ ts) p → (net_port t.place).phrase m ts p b
is_net_port before t m _ _ b (net {ts = ts} {us = us} {vs = vs} {ws = ws} {w = w} {s = s} {r = r} {n = n} f d e i) =
    in_turn
    (is_flag word.Wire m ts w (first (us ++ (vs ++ ws)) b)
    (flag_avoids word.Wire word.Signed refl us s d (vs ++ ws) (range_avoids word.Wire refl vs r e ws (ident_unworded word.Wire ws n i)) b) f)
    (is_typed (λ s r. mapped (net_port_of t.place w s r) name_form) before m us vs ws s r (net_port_of t.place w s r n) b d e
    (ident_unworded word.Signed ws n i) (ident_unworded word.OpenBracket ws n i) (changed (of_idents m ws n b tt i)))

net_avoids : (w : Word) → are_same w word.Wire ≡ false → are_same w word.Signed ≡ false → are_same w word.OpenBracket ≡ false → (t : Lexeme) (ts : List Lexeme) (p : NetPort) → IsNetPort (t ∷ ts) p → Avoids w ts
net_avoids w a c k t _ _ (net {ts = ts} {us = us} {vs = vs} {ws = ws} {w = x} {s = s} {r = r} {n = n} f d e i) =
    flag_avoids w word.Wire a ts x f (us ++ (vs ++ ws)) (flag_avoids w word.Signed c us s d (vs ++ ws) (range_avoids w k vs r e ws (ident_unworded w ws n i)))

-- registers
reg_port_is : (t reg : Lexeme) → Is word.Output t → Is word.Reg reg → (m : Sight) (ts : List Lexeme) (p : RegPort) (b : Option Lexeme) → (reg_port t.place).phrase m ts p b → IsPort true (t ∷ reg ∷ ts) (port.OutputReg p)
reg_port_is t reg h k m ts p b q =
    typed_end (λ s r. mapped (reg_port_of t.place s r) value_form) (λ v z. IsPort true (t ∷ reg ∷ v) (port.OutputReg z)) m b
    (λ us vs ws s r z d e l. part_end (reg_port_of t.place s r) value_form (λ v x. IsPort true (t ∷ reg ∷ (us ++ (vs ++ v))) (port.OutputReg x)) m b
    (λ v x y. output_reg h k d e (values_are m v x b y)) ws z l) ts p q

-- ports with a direction
pub input_is : (t : Lexeme) → Is word.Input t → (m : Sight) (ts : List Lexeme) (p : DeclaredPort) (b : Option Lexeme) → (input_port t.place).phrase m ts p b → IsPort false (t ∷ ts) p
input_is t h m ts _ b (changed {x = p} q) = input h (net_port_is t m ts p b q)

pub output_is : (t : Lexeme) → Is word.Output t → (m : Sight) (ts : List Lexeme) (p : DeclaredPort) (b : Option Lexeme) → (output_port t.place).phrase m ts p b → (reg : Bool) × IsPort reg (t ∷ ts) p
output_is t h m _ _ b (led {t = reg} {ts = ts} k (changed {x = p} q)) = (true, reg_port_is t reg h k m ts p b q)
output_is t h m ts _ b (unled n (changed {x = p} q)) = (false, output h (net_port_is t m ts p b q))

-- a port with a direction, as its word and what stands behind it
pub port_from : ReadBefore → (m : Sight) (b : Option Lexeme) → Ends b → (R : List Lexeme → DeclaredPort → Type 0)
    → ((t : Lexeme) (ts : List Lexeme) (p : DeclaredPort) → Is word.Input t → (input_port t.place).phrase m ts p b → R (t ∷ ts) p)
    → ((t : Lexeme) (ts : List Lexeme) (p : DeclaredPort) → Is word.Output t → (output_port t.place).phrase m ts p b → R (t ∷ ts) p)
    → (reg : Bool) (ts : List Lexeme) (p : DeclaredPort) → IsPort reg ts p → R ts p
port_from before m b e R ins outs _ _ _ (input {t = t} {ts = ts} {p = p} h q) = ins t ts (port.Input p) h (changed (is_net_port before t m ts p b q))
port_from before m b e R ins outs _ _ _ (output {t = t} {ts = ts} {p = p} h q) =
    outs t ts (port.Output p) h (unled (λ k. net_avoids word.Reg refl refl refl t ts p q b) (changed (is_net_port before t m ts p b q)))
port_from before m b e R ins outs _ _ _ (output_reg {t = t} {reg = reg} {ts = ts} {us = us} {vs = vs} {s = s} {r = r} {v = v} h k d f i) =
    outs t (reg ∷ (ts ++ (us ++ vs))) (port.OutputReg (reg_port_of t.place s r v)) h
    (led k (changed (is_typed (λ s r. mapped (reg_port_of t.place s r) value_form) before m ts us vs s r (reg_port_of t.place s r v) b d f
    (value_unworded word.Signed vs v i) (value_unworded word.OpenBracket vs v i) (changed (of_values m vs v b e i)))))

pub port_avoids : (w : Word) → are_same w word.Input ≡ false → are_same w word.Output ≡ false → (reg : Bool) (ts : List Lexeme) (p : DeclaredPort) → IsPort reg ts p → Avoids w ts
port_avoids w a c _ _ _ (input {t = t} h q) b = is_word-other w word.Input t h ∙ a
port_avoids w a c _ _ _ (output {t = t} h q) b = is_word-other w word.Output t h ∙ c
port_avoids w a c _ _ _ (output_reg {t = t} h k d f i) b = is_word-other w word.Output t h ∙ c

-- what the port says of those behind it
pub port_reg : (before reg : Bool) (ts : List Lexeme) (p : DeclaredPort) → IsPort reg ts p → is_reg before p ≡ reg
port_reg before _ _ _ (input h q) = refl
port_reg before _ _ _ (output h q) = refl
port_reg before _ _ _ (output_reg h k d f i) = refl

-- a port behind others, where the flag says whether a name may have a value
pub data IsNext : Bool → List Lexeme → DeclaredPort → Type 0 where
  directed : {before reg : Bool} {ts : List Lexeme} {p : DeclaredPort} → IsPort reg ts p → IsNext before ts p
  name_alone : {before : Bool} {ts : List Lexeme} {n : Ident} → IsIdent ts n → IsNext before ts (port.Further n)
  name_valued : {ts : List Lexeme} {s : Setting} → IsSetting ts s → IsNext true ts (port.FurtherValue s)

valued_is : (t : Lexeme) → IsName t → (m : Sight) (ts : List Lexeme) (p : DeclaredPort) (b : Option Lexeme)
    → (either word.Equals (λ _. mapped (λ a. port.FurtherValue (setting (ident_of t) a)) expression_form) (give (port.Further (ident_of t)))).phrase m ts p b → IsNext true (t ∷ ts) p
valued_is t h m _ p b (led {t = equals} {ts = ts} k q) =
    expression_end (λ a. port.FurtherValue (setting (ident_of t) a)) (λ v z. IsNext true (t ∷ equals ∷ v) z) (λ v a d. name_valued (named h k d)) m ts p b q
valued_is t h m _ _ b (unled n no_token) = name_alone (ident h)

further_is : (reg : Bool) → Are (further_port reg) (IsNext reg)
further_is true m _ p b (in_turn {vs = vs} (a_name {t = t} h) q) = valued_is t h m vs p b q
further_is false m ts p b q = name_end (λ n. port.Further n) (IsNext false) (λ v n i. name_alone i) m ts p b q

pub next_is : (reg : Bool) → Are (port_form reg) (IsNext reg)
next_is reg m _ p b (led {t = t} {ts = ts} h q) = directed (input_is t h m ts p b q)
next_is reg m _ p b (unled _ (led {t = t} {ts = ts} h q)) = let o = output_is t h m ts p b q in directed o.1
next_is reg m ts p b (unled _ (unled _ q)) = further_is reg m ts p b q

of_further : (reg : Bool) (m : Sight) (ts : List Lexeme) (n : Ident) (b : Option Lexeme) → Ends b → IsIdent ts n → (further_port reg).phrase m ts (port.Further n) b
of_further true m _ _ b e (ident h) = in_turn (a_name h) (unled (λ k. e.equals) no_token)
of_further false m ts n b e i = changed (of_idents m ts n b tt i)

of_valued : (m : Sight) (ts : List Lexeme) (s : Setting) (b : Option Lexeme) → Ends b → IsSetting ts s → (further_port true).phrase m ts (port.FurtherValue s) b
of_valued m _ _ b e (named {ts = ts} {a = a} h k d) = in_turn (a_name h) (led k (changed (e.read m ts a d)))

pub of_next : ReadBefore → (reg : Bool) → Of (port_form reg) (IsNext reg) Ends
of_next before reg m ts p b e (directed {reg = r} d) =
    port_from before m b e (λ v z. (port_form reg).phrase m v z b) (λ t us q h f. led h f) (λ t us q h f. unled (λ k. is_word-other word.Input word.Output t h) (led h f)) r ts p d
of_next before reg m ts _ b e (name_alone {n = n} i) = unled (λ k. ident_unworded word.Input ts n i b) (unled (λ k. ident_unworded word.Output ts n i b) (of_further reg m ts n b e i))
of_next before _ m ts _ b e (name_valued {s = s} d) = unled (λ k. setting_unworded word.Input ts s d b) (unled (λ k. setting_unworded word.Output ts s d b) (of_valued m ts s b e d))

-- the laws of the forms
net_port_flat : Flat expression_form → (at : ℕ) → Flat (net_port at)
net_port_flat le at =
    then_flat (flag word.Wire) (λ w. typed (λ s r. mapped (net_port_of at w s r) name_form)) (flag_flat word.Wire)
    (λ w. typed_flat (λ s r. mapped (net_port_of at w s r) name_form) le (λ s r. mapped_flat (net_port_of at w s r) name_form name_flat))

reg_port_flat : Flat expression_form → (at : ℕ) → Flat (reg_port at)
reg_port_flat le at = typed_flat (λ s r. mapped (reg_port_of at s r) value_form) le (λ s r. mapped_flat (reg_port_of at s r) value_form (value_flat le))

pub input_flat : Flat expression_form → (at : ℕ) → Flat (input_port at)
input_flat le at = mapped_flat (λ p. port.Input p) (net_port at) (net_port_flat le at)

pub output_flat : Flat expression_form → (at : ℕ) → Flat (output_port at)
output_flat le at =
    either_flat word.Reg (λ _. mapped (λ p. port.OutputReg p) (reg_port at)) (mapped (λ p. port.Output p) (net_port at))
    (λ _. mapped_flat (λ p. port.OutputReg p) (reg_port at) (reg_port_flat le at)) (mapped_flat (λ p. port.Output p) (net_port at) (net_port_flat le at))

further_flat : Flat expression_form → (reg : Bool) → Flat (further_port reg)
further_flat le true =
    then_flat name_form (λ n. either word.Equals (λ _. mapped (λ a. port.FurtherValue (setting n a)) expression_form) (give (port.Further n))) name_flat
    (λ n. either_flat word.Equals (λ _. mapped (λ a. port.FurtherValue (setting n a)) expression_form) (give (port.Further n))
    (λ _. mapped_flat (λ a. port.FurtherValue (setting n a)) expression_form le) (give_flat (port.Further n)))
further_flat le false = mapped_flat (λ n. port.Further n) name_form name_flat

pub port_flat : Flat expression_form → (reg : Bool) → Flat (port_form reg)
port_flat le reg =
    either_flat word.Input input_port (either word.Output output_port (further_port reg)) (input_flat le)
    (either_flat word.Output output_port (further_port reg) (output_flat le) (further_flat le reg))
