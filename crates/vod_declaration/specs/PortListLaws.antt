-- The forms of a module's ports are exact.
use Rattle.std.proofs.Common.{◌≡◌, Bool, true, false, List, [], ◌∷◌, ◌++◌, Option, Some, refl, sym, ◌∙◌, subst, append_assoc, append-nil}
use Rattle.vod_tree.specs.declared.declaration.DeclaredPort.{DeclaredPort}
use Rattle.vod_tree.specs.declared.declaration.DeclaredPort.TheVariants as port
use Rattle.vod_tree.specs.declared.declaration.Ports.{Ports}
use Rattle.vod_tree.specs.declared.declaration.Ports.TheVariants as list
use Rattle.vod_tree.specs.declared.ident.Ident.{Ident}
use Rattle.vod_expr.specs.Grammar.{Lexeme}
use Rattle.vod_grammar.specs.Form.{Form, Sight, a_word, nothing as no_token, in_turn, changed, led, unled, at_last, one_on, in_nearest, in_further, word_form, name_form, expression_form, mapped, then, either, behind, separated, give}
use Rattle.vod_grammar.specs.ListLaws.{ReadBefore}
use Rattle.vod_grammar.specs.Read.{first, passes}
use Rattle.vod_grammar.specs.RepeatByLaws.{repeated_by_laws}
use Rattle.vod_grammar.specs.WordLaws.{is_word-is, is_word-other}
use Rattle.vod_grammar.specs.Words.{Is, is_word}
use Rattle.vod_grammar.specs.declared.word.Word.TheVariants as word
use Rattle.vod_declaration.specs.FlatLaws.{Flat, word_flat, name_flat, give_flat, mapped_flat, then_flat, either_flat, behind_flat, behind_token, separated_flat}
use Rattle.vod_declaration.specs.Parts.{IsIdent, AreListed}
use Rattle.vod_declaration.specs.PartsLaws.{Are, Ends, avoids_more, comma_ends, paren_ends, ident_unworded, idents_are, of_idents, listed_are, listed_unworded, of_listed, part_end, word_end}
use Rattle.vod_declaration.specs.Ports.{IsPort, ArePorts, IsPortList, no_port, declared, further, further_value, absent, empty, names, ports}
use Rattle.vod_declaration.specs.PortsForm.{input_port, output_port, port_form, is_reg, ends_in_reg, more_ports, declared_ports, some_ports, port_list}
use Rattle.vod_declaration.specs.PortsLaws.{IsNext, directed, name_alone, name_valued, input_is, output_is, port_from, port_avoids, port_reg, next_is, of_next, input_flat, output_flat, port_flat}

pub ends_behind : (before : Bool) (ps : List DeclaredPort) (p : DeclaredPort) → ends_in_reg before (ps ++ p ∷ []) ≡ is_reg (ends_in_reg before ps) p
ends_behind before [] p = refl
ends_behind before (q ∷ ps) p = ends_behind (is_reg before q) ps p

-- a port behind others, and those behind it
one_port : (before : Bool) (comma : Lexeme) (ts us : List Lexeme) (p : DeclaredPort) (ps : List DeclaredPort) → Is word.Comma comma → IsNext before ts p → ArePorts (is_reg before p) us ps
    → ArePorts before (comma ∷ (ts ++ us)) (p ∷ ps)
one_port before comma ts us p ps k (directed {reg = reg} d) more = declared k d (subst (λ v. ArePorts v us ps) (port_reg before reg ts p d) more)
one_port before comma ts us _ ps k (name_alone i) more = further k i more
one_port _ comma ts us _ ps k (name_valued d) more = further_value k d more

record Behind (sofar : List DeclaredPort) (ts : List Lexeme) (xs : List DeclaredPort) : Type 0 where
  parts : List DeclaredPort
  all : xs ≡ sofar ++ parts
  are : ArePorts (ends_in_reg false sofar) ts parts

ports_behind : (m : Sight) (sofar : List DeclaredPort) (ts : List Lexeme) (xs : List DeclaredPort) (b : Option Lexeme) → (more_ports sofar).phrase m ts xs b → Behind sofar ts xs
ports_behind m sofar _ _ b (at_last stop) = record { parts = []; all = sym (append-nil sofar); are = no_port }
ports_behind m sofar _ xs b (one_on {vs = vs} go (in_turn {vs = us} {y = p} (a_word {t = comma} k) q) more) =
    let r = ports_behind m (sofar ++ p ∷ []) vs xs b more in
    record {
      parts = p ∷ r.parts;
      all = r.all ∙ append_assoc sofar (p ∷ []) r.parts;
      are = one_port (ends_in_reg false sofar) comma us vs p r.parts k (next_is (ends_in_reg false sofar) m us p (first vs b) q) (subst (λ v. ArePorts v vs r.parts) (ends_behind false sofar p) r.are);
    }

-- and such ports are a phrase
ports_end : ReadBefore → (reg : Bool) (ts : List Lexeme) (ps : List DeclaredPort) (b : Option Lexeme) → Ends b → ArePorts reg ts ps → Ends (first ts b)
ports_end before _ _ _ b e no_port = e
ports_end before _ _ _ b e (declared {comma = comma} k d more) = comma_ends before comma k
ports_end before _ _ _ b e (further {comma = comma} k i more) = comma_ends before comma k
ports_end before _ _ _ b e (further_value {comma = comma} k d more) = comma_ends before comma k

next_port : ReadBefore → (m : Sight) (sofar : List DeclaredPort) (reg : Bool) → ends_in_reg false sofar ≡ reg → (comma : Lexeme) (ts us : List Lexeme) (p : DeclaredPort) (ps : List DeclaredPort) (b : Option Lexeme)
    → Ends (first us b) → Is word.Comma comma → IsNext reg ts p → (more_ports (sofar ++ p ∷ [])).phrase m us ((sofar ++ p ∷ []) ++ ps) b → (more_ports sofar).phrase m (comma ∷ (ts ++ us)) (sofar ++ p ∷ ps) b
next_port before m sofar reg same comma ts us p ps b e k d more =
    let own : IsNext (ends_in_reg false sofar) ts p = subst (λ v. IsNext v ts p) (sym same) d in
    subst (λ v. (more_ports sofar).phrase m (comma ∷ (ts ++ us)) v b) (append_assoc sofar (p ∷ []) ps)
    (one_on {us = comma ∷ ts} {vs = us} (λ z. is_word-is word.Comma comma k)
    (in_turn {us = comma ∷ []} {vs = ts} (a_word k) (of_next before (ends_in_reg false sofar) m ts p (first us b) e own)) more)

of_ports : ReadBefore → (m : Sight) (sofar : List DeclaredPort) (reg : Bool) (ts : List Lexeme) (ps : List DeclaredPort) (b : Option Lexeme) → Ends b → passes (is_word word.Comma) b ≡ false → ends_in_reg false sofar ≡ reg
    → ArePorts reg ts ps → (more_ports sofar).phrase m ts (sofar ++ ps) b
of_ports before m sofar reg _ _ b e n same no_port =
    let p : (more_ports sofar).phrase m [] sofar b = at_last (λ k. n) in
    subst (λ v. (more_ports sofar).phrase m [] v b) (sym (append-nil sofar)) p
of_ports before m sofar reg _ _ b e n same (declared {reg = r} {comma = comma} {ts = ts} {us = us} {p = p} {ps = ps} k d more) =
    next_port before m sofar reg same comma ts us p ps b (ports_end before r us ps b e more) k (directed d)
    (of_ports before m (sofar ++ p ∷ []) r us ps b e n (ends_behind false sofar p ∙ port_reg (ends_in_reg false sofar) r ts p d) more)
of_ports before m sofar reg _ _ b e n same (further {comma = comma} {ts = ts} {us = us} {n = i} {ps = ps} k d more) =
    next_port before m sofar reg same comma ts us (port.Further i) ps b (ports_end before reg us ps b e more) k (name_alone d)
    (of_ports before m (sofar ++ port.Further i ∷ []) reg us ps b e n (ends_behind false sofar (port.Further i) ∙ same) more)
of_ports before m sofar _ _ _ b e n same (further_value {comma = comma} {ts = ts} {us = us} {s = s} {ps = ps} k d more) =
    next_port before m sofar true same comma ts us (port.FurtherValue s) ps b (ports_end before true us ps b e more) k (name_valued d)
    (of_ports before m (sofar ++ port.FurtherValue s ∷ []) true us ps b e n (ends_behind false sofar (port.FurtherValue s) ∙ same) more)

-- a first port and those behind it
declared_are : (opener closer : Lexeme) → Is word.OpenParen opener → Is word.CloseParen closer → (reg : Bool) (ts : List Lexeme) (p : DeclaredPort) → IsPort reg ts p
    → (m : Sight) (us : List Lexeme) (x : Ports) (b : Option Lexeme) → (mapped (λ ps. list.Declared ps) (more_ports (p ∷ []))).phrase m us x b → IsPortList (opener ∷ ((ts ++ us) ++ closer ∷ [])) x
declared_are opener closer o c reg ts p d m us x b q =
    part_end (λ ps. list.Declared ps) (more_ports (p ∷ [])) (λ v z. IsPortList (opener ∷ ((ts ++ v) ++ closer ∷ [])) z) m b
    (λ v ps l.
    let r = ports_behind m (p ∷ []) v ps b l in
    subst (λ z. IsPortList (opener ∷ ((ts ++ v) ++ closer ∷ [])) (list.Declared z)) (sym r.all) (ports o d (subst (λ z. ArePorts z v r.parts) (port_reg false reg ts p d) r.are) c))
    us x q

some_are : (opener closer : Lexeme) → Is word.OpenParen opener → Is word.CloseParen closer → (m : Sight) (ts : List Lexeme) (x : Ports) (b : Option Lexeme) → some_ports.phrase m ts x b → IsPortList (opener ∷ (ts ++ closer ∷ [])) x
some_are opener closer o c m _ x b (led {t = t} h (in_turn {us = ts} {vs = us} {x = p} f q)) =
    declared_are opener closer o c false (t ∷ ts) p (input_is t h m ts p (first us b) f) m us x b q
some_are opener closer o c m _ x b (unled _ (led {t = t} h (in_turn {us = ts} {vs = us} {x = p} f q))) =
    let d = output_is t h m ts p (first us b) f in
    declared_are opener closer o c d.0 (t ∷ ts) p d.1 m us x b q
some_are opener closer o c m ts _ b (unled _ (unled _ (changed {x = ns} q))) = names o (listed_are name_form IsIdent idents_are m ts ns b q) c

pub port_list_are : Are port_list IsPortList
port_list_are m _ _ b (led o (led c no_token)) = empty o c
port_list_are m _ x b (led {t = opener} o (unled _ (in_turn {us = us} {vs = vs} {x = y} p q))) =
    word_end word.CloseParen y (λ v z. IsPortList (opener ∷ (us ++ v)) z) (λ t h. some_are opener t o h m us y (first vs b) p) m vs x b q
port_list_are m _ _ b (unled _ no_token) = absent

-- and those are phrases
of_declared : ReadBefore → (m : Sight) (closer : Lexeme) → Is word.CloseParen closer → (reg : Bool) (ts us : List Lexeme) (p : DeclaredPort) (ps : List DeclaredPort) → IsPort reg ts p → ArePorts reg us ps
    → some_ports.phrase m (ts ++ us) (list.Declared (p ∷ ps)) (Some closer)
of_declared before m closer c reg ts us p ps d more =
    port_from before m (first us (Some closer)) (ports_end before reg us ps (Some closer) (paren_ends before closer c) more)
    (λ v z. (more_ports (z ∷ [])).phrase m us (z ∷ ps) (Some closer) → some_ports.phrase m (v ++ us) (list.Declared (z ∷ ps)) (Some closer))
    (λ t v z h f l. led h (in_turn f (changed l))) (λ t v z h f l. unled (λ k. is_word-other word.Input word.Output t h) (led h (in_turn f (changed l)))) reg ts p d
    (of_ports before m (p ∷ []) reg us ps (Some closer) (paren_ends before closer c) (is_word-other word.Comma word.CloseParen closer c) (port_reg false reg ts p d) more)

of_names : (m : Sight) (closer : Lexeme) → Is word.CloseParen closer → (ts : List Lexeme) (ns : List Ident) → AreListed IsIdent ts ns → some_ports.phrase m ts (list.Names ns) (Some closer)
of_names m closer c ts ns d =
    unled (λ k. listed_unworded IsIdent ident_unworded word.Input ts ns d (Some closer)) (unled (λ k. listed_unworded IsIdent ident_unworded word.Output ts ns d (Some closer))
    (changed (of_listed name_form IsIdent (λ b. Unit {0}) of_idents (λ t k. tt) m ts ns (Some closer) tt (is_word-other word.Comma word.CloseParen closer c) d)))

pub of_port_list : ReadBefore → (m : Sight) (ts : List Lexeme) (x : Ports) (b : Option Lexeme) → passes (is_word word.OpenParen) b ≡ false → IsPortList ts x → port_list.phrase m ts x b
of_port_list before m _ _ b n absent = unled (λ k. n) no_token
of_port_list before m _ _ b n (empty o c) = led o (led c no_token)
of_port_list before m _ _ b n (names {closer = closer} {ts = ts} {ns = ns} o d c) =
    led o (unled (λ k. avoids_more word.CloseParen ts (closer ∷ []) (listed_unworded IsIdent ident_unworded word.CloseParen ts ns d) b) (in_turn (of_names m closer c ts ns d) (changed (a_word c))))
of_port_list before m _ _ b n (ports {closer = closer} {ts = ts} {us = us} {reg = reg} {p = p} {ps = ps} o d more c) =
    led o (unled (λ k. avoids_more word.CloseParen (ts ++ us) (closer ∷ []) (avoids_more word.CloseParen ts us (port_avoids word.CloseParen refl refl reg ts p d)) b)
    (in_turn (of_declared before m closer c reg ts us p ps d more) (changed (a_word c))))

-- the laws of the forms
more_shallow : Flat expression_form → (sofar : List DeclaredPort) (front : List Lexeme) (t : Lexeme) → (more_ports sofar).deep front t → ⊥
more_shallow le sofar front t (in_nearest e d) = (behind_flat word.Comma (port_form (ends_in_reg false sofar)) (port_flat le (ends_in_reg false sofar))).shallow front t d
more_shallow le sofar _ t (in_further {front = front} {x = x} e p d) = more_shallow le (sofar ++ x ∷ []) front t d

more_flat : Flat expression_form → (sofar : List DeclaredPort) → Flat (more_ports sofar)
more_flat le sofar = record {
  laws = repeated_by_laws (is_word word.Comma) (λ ps. behind word.Comma (port_form (ends_in_reg false ps)))
      (λ ps. (behind_flat word.Comma (port_form (ends_in_reg false ps)) (port_flat le (ends_in_reg false ps))).laws)
      (λ ps. behind_token word.Comma (port_form (ends_in_reg false ps))) sofar;
  shallow = more_shallow le sofar;
}

declared_flat : Flat expression_form → (first_one : Form DeclaredPort) → Flat first_one → Flat (declared_ports first_one)
declared_flat le first_one lf =
    then_flat first_one (λ p. mapped (λ ps. list.Declared ps) (more_ports (p ∷ []))) lf (λ p. mapped_flat (λ ps. list.Declared ps) (more_ports (p ∷ [])) (more_flat le (p ∷ [])))

some_flat : Flat expression_form → Flat some_ports
some_flat le =
    either_flat word.Input (λ at. declared_ports (input_port at)) (either word.Output (λ at. declared_ports (output_port at)) (mapped (λ ns. list.Names ns) (separated name_form)))
    (λ at. declared_flat le (input_port at) (input_flat le at))
    (either_flat word.Output (λ at. declared_ports (output_port at)) (mapped (λ ns. list.Names ns) (separated name_form))
    (λ at. declared_flat le (output_port at) (output_flat le at)) (mapped_flat (λ ns. list.Names ns) (separated name_form) (separated_flat name_form name_flat)))

pub port_list_flat : Flat expression_form → Flat port_list
port_list_flat le =
    either_flat word.OpenParen (λ _. either word.CloseParen (λ _. give list.Empty) (then some_ports (λ ps. mapped (λ _. ps) (word_form word.CloseParen)))) (give list.Absent)
    (λ _. either_flat word.CloseParen (λ _. give list.Empty) (then some_ports (λ ps. mapped (λ _. ps) (word_form word.CloseParen))) (λ _. give_flat list.Empty)
    (then_flat some_ports (λ ps. mapped (λ _. ps) (word_form word.CloseParen)) (some_flat le) (λ ps. mapped_flat (λ _. ps) (word_form word.CloseParen) (word_flat word.CloseParen))))
    (give_flat list.Absent)
