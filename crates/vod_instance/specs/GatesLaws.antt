-- The form of gates is exact: its phrases are the gates.
use Rattle.std.proofs.Common.{◌≡◌, inl, inr, ℕ, true, List, [], ◌∷◌, ◌++◌, Option, None, Some, refl, false}
use Rattle.vod_tree.specs.declared.expr.Expr.{Expr}
use Rattle.vod_tree.specs.declared.ident.Ident.{Ident}
use Rattle.vod_tree.specs.declared.instance.Gate.{Gate}
use Rattle.vod_tree.specs.declared.instance.GateKind.{GateKind}
use Rattle.vod_tree.specs.declared.instance.GateKind.TheVariants as kind
use Rattle.vod_tree.specs.declared.instance.GateTerminals.{GateTerminals}
use Rattle.vod_expr.specs.Grammar.{Lexeme, IsName, AreExprs, ident_of, one as one_expr, name as name_expr}
use Rattle.vod_grammar.specs.EitherLaws.{either_laws}
use Rattle.vod_grammar.specs.Form.{Sight, Alone, a_word, a_name, in_turn, changed, led, unled, word_form, name_form, expression_form, mapped, separated}
use Rattle.vod_grammar.specs.Laws.{Laws, Begun}
use Rattle.vod_grammar.specs.ListLaws.{ReadBefore, exprs_are, are_exprs}
use Rattle.vod_grammar.specs.PartLaws.{mapped_laws, separated_laws}
use Rattle.vod_grammar.specs.Read.{first}
use Rattle.vod_grammar.specs.ThenLaws.{then_laws}
use Rattle.vod_grammar.specs.TokenLaws.{word_laws, name_laws, some_name, some_name-is}
use Rattle.vod_grammar.specs.WordLaws.{is_word-other, is_word-name, word_token, word_token-is}
use Rattle.vod_grammar.specs.Words.{Is}
use Rattle.vod_grammar.specs.declared.word.Word.{Word}
use Rattle.vod_grammar.specs.declared.word.Word.TheVariants as word
use Rattle.vod_instance.specs.Gates.{IsTerminals, unnamed, named, IsGate, of_kind, gate_word, terminals, gates}
use Rattle.vod_instance.specs.GatesForm.{further_kinds, kind_form, terminals_behind, named_behind, named_terminals, terminals_form, gates_behind, gate_form, starts_gate, is_gate_word}
use Rattle.vod_instance.specs.Listed.{AreListed, last}
use Rattle.vod_instance.specs.ListedLaws.{Are, Fit, listed_of, of_listed}
use Rattle.vod_instance.specs.ShallowLaws.{Shallow, word_shallow, name_shallow, expression_shallow, mapped_shallow, then_shallow, either_shallow, separated_shallow}
use Rattle.vod_instance.specs.WordChoice.{IsWordOf, its_word, IsFirst}
use Rattle.vod_instance.specs.WordChoiceLaws.{one_of_is, one_of_into, one_of_laws, one_of_shallow, is_one_of-is, one_of-is, is_one_of-word, is_one_of-name}

-- phrases of the form are gates
unnamed_is : (opener : Lexeme) (ts : List Lexeme) (xs : List Expr) → Is word.OpenParen opener → AreExprs ts xs → (m : Sight) (us : List Lexeme) (x : GateTerminals) (b : Option Lexeme)
    → (mapped (λ _. terminals opener.place None xs) (word_form word.CloseParen)).phrase m us x b → IsTerminals (opener ∷ (ts ++ us)) x
unnamed_is opener ts xs o d m _ _ b (changed (a_word c)) = unnamed o d c

named_is : (t opener : Lexeme) (ts : List Lexeme) (xs : List Expr) → IsName t → Is word.OpenParen opener → AreExprs ts xs → (m : Sight) (us : List Lexeme) (x : GateTerminals) (b : Option Lexeme)
    → (mapped (λ _. terminals t.place (Some (ident_of t)) xs) (word_form word.CloseParen)).phrase m us x b → IsTerminals (t ∷ opener ∷ (ts ++ us)) x
named_is t opener ts xs h o d m _ _ b (changed (a_word c)) = named h o d c

behind_is : (t : Lexeme) → IsName t → (m : Sight) (ts : List Lexeme) (x : GateTerminals) (b : Option Lexeme) → (named_behind (ident_of t)).phrase m ts x b → IsTerminals (t ∷ ts) x
behind_is t h m _ x b (in_turn (a_word {t = opener} o) (in_turn {us = us} {vs = vs} {x = xs} p q)) = named_is t opener us xs h o (exprs_are m us xs (first vs b) p) m vs x b q

pub terminals_are : Are terminals_form IsTerminals
terminals_are m _ x b (led {t = opener} o (in_turn {us = us} {vs = vs} {x = xs} p q)) = unnamed_is opener us xs o (exprs_are m us xs (first vs b) p) m vs x b q
terminals_are m _ x b (unled n (in_turn {vs = ts} (a_name {t = t} h) q)) = behind_is t h m ts x b q

closed_is : (t : Lexeme) (k : GateKind) (ts : List Lexeme) (xs : List GateTerminals) → Is (gate_word k) t → AreListed IsTerminals ts xs → (m : Sight) (us : List Lexeme) (x : Gate) (b : Option Lexeme)
    → (mapped (λ _. gates k xs) (word_form word.Semicolon)).phrase m us x b → IsGate (t ∷ (ts ++ us)) x
closed_is t k ts xs h d m _ _ b (changed (a_word s)) = of_kind h d s

kind_is : (m : Sight) (ts : List Lexeme) (k : GateKind) (us : List Lexeme) (x : Gate) (b : Option Lexeme) → IsWordOf gate_word ts k → (gates_behind k).phrase m us x b → IsGate (ts ++ us) x
kind_is m _ k _ x b (its_word {t = t} h) (in_turn {us = us} {vs = vs} {x = xs} p q) =
    closed_is t k us xs h (listed_of terminals_form IsTerminals terminals_are m us xs (first vs b) p) m vs x b q

pub gate_is : Are gate_form IsGate
gate_is m _ x b (in_turn {us = us} {vs = vs} {x = k} p q) = kind_is m us k vs x b (one_of_is gate_word kind.And further_kinds m us k (first vs b) p) q

-- gates are phrases of the form
terminals_fit : ReadBefore → Fit terminals_form IsTerminals
terminals_fit read m _ _ b (unnamed {closer = closer} {ts = ts} {xs = xs} o d c) =
    led o (in_turn (are_exprs read m ts xs word.CloseParen closer c refl (is_word-other word.Comma word.CloseParen closer c) d) (changed (a_word c)))
terminals_fit read m _ _ b (named {t = t} {closer = closer} {ts = ts} {xs = xs} h o d c) =
    unled (λ z. is_word-name word.OpenParen t h)
    (in_turn (a_name h) (in_turn (a_word o) (in_turn (are_exprs read m ts xs word.CloseParen closer c refl (is_word-other word.Comma word.CloseParen closer c) d) (changed (a_word c)))))

kind_first : (k : GateKind) → IsFirst gate_word (kind.And ∷ further_kinds) k
kind_first kind.And = inl refl
kind_first kind.Nand = inr (refl, inl refl)
kind_first kind.Or = inr (refl, inr (refl, inl refl))
kind_first kind.Nor = inr (refl, inr (refl, inr (refl, inl refl)))
kind_first kind.Xor = inr (refl, inr (refl, inr (refl, inr (refl, inl refl))))
kind_first kind.Xnor = inr (refl, inr (refl, inr (refl, inr (refl, inr (refl, inl refl)))))
kind_first kind.Buf = inr (refl, inr (refl, inr (refl, inr (refl, inr (refl, inr (refl, inl refl))))))
kind_first kind.Not = inr (refl, inr (refl, inr (refl, inr (refl, inr (refl, inr (refl, inr (refl, inl refl)))))))

pub gate_fit : ReadBefore → Fit gate_form IsGate
gate_fit read m _ _ b (of_kind {t = t} {semicolon = semicolon} {k = k} {ts = ts} {xs = xs} h d s) =
    in_turn (one_of_into gate_word kind.And further_kinds m t k (first (ts ++ semicolon ∷ []) b) (kind_first k) h)
    (in_turn (of_listed terminals_form IsTerminals (terminals_fit read) m ts xs (Some semicolon) (is_word-other word.Comma word.Semicolon semicolon s) d) (changed (a_word s)))

-- the laws of the form
terminals_behind_laws : Laws expression_form → (place : ℕ) (name : Option Ident) → Laws (terminals_behind place name)
terminals_behind_laws le place name = then_laws (separated expression_form) _ (separated_laws expression_form le) (λ xs. mapped_laws _ (word_form word.CloseParen) (word_laws word.CloseParen))

named_terminals_laws : Laws expression_form → Laws named_terminals
named_terminals_laws le = then_laws name_form named_behind name_laws (λ name. then_laws (word_form word.OpenParen) _ (word_laws word.OpenParen) (λ _. terminals_behind_laws le name.place (Some name)))

terminals_laws : Laws expression_form → Laws terminals_form
terminals_laws le = either_laws word.OpenParen (λ place. terminals_behind place None) named_terminals (λ place. terminals_behind_laws le place None) (named_terminals_laws le)

gates_behind_laws : Laws expression_form → (k : GateKind) → Laws (gates_behind k)
gates_behind_laws le k = then_laws (separated terminals_form) _ (separated_laws terminals_form (terminals_laws le)) (λ xs. mapped_laws _ (word_form word.Semicolon) (word_laws word.Semicolon))

pub gate_laws : Laws expression_form → Laws gate_form
gate_laws le = then_laws kind_form gates_behind (one_of_laws gate_word kind.And further_kinds) (gates_behind_laws le)

-- nothing in it is nested too deep
terminals_behind_shallow : (place : ℕ) (name : Option Ident) → Shallow (terminals_behind place name)
terminals_behind_shallow place name = then_shallow (separated expression_form) _ (separated_shallow expression_form expression_shallow) (λ xs. mapped_shallow _ (word_form word.CloseParen) (word_shallow word.CloseParen))

named_terminals_shallow : Shallow named_terminals
named_terminals_shallow = then_shallow name_form named_behind name_shallow (λ name. then_shallow (word_form word.OpenParen) _ (word_shallow word.OpenParen) (λ _. terminals_behind_shallow name.place (Some name)))

terminals_shallow : Shallow terminals_form
terminals_shallow = either_shallow word.OpenParen (λ place. terminals_behind place None) named_terminals (λ place. terminals_behind_shallow place None) named_terminals_shallow

gates_behind_shallow : (k : GateKind) → Shallow (gates_behind k)
gates_behind_shallow k = then_shallow (separated terminals_form) _ (separated_shallow terminals_form terminals_shallow) (λ xs. mapped_shallow _ (word_form word.Semicolon) (word_shallow word.Semicolon))

pub gate_shallow : Shallow gate_form
gate_shallow = then_shallow kind_form gates_behind (one_of_shallow gate_word kind.And further_kinds) gates_behind_shallow

-- how gates begin
pub gate_first : (ts : List Lexeme) (x : Gate) → IsGate ts x → (t : Lexeme) × (us : List Lexeme) × (ts ≡ t ∷ us) × Is (gate_word x.kind) t
gate_first _ _ (of_kind {t = t} h d s) = (t, _, refl, h)

pub gate_starts : (k : GateKind) (t : Lexeme) → Is (gate_word k) t → starts_gate t ≡ true
gate_starts k t h = is_one_of-is gate_word (kind.And ∷ further_kinds) k t (kind_first k) h

pub starts_word : (t : Lexeme) → starts_gate t ≡ true → (k : GateKind) × Is (gate_word k) t
starts_word t e = one_of-is gate_word (kind.And ∷ further_kinds) t e

pub gate_other : (w : Word) (t : Lexeme) → Is w t → starts_gate t ≡ is_gate_word w
gate_other w t h = is_one_of-word gate_word (kind.And ∷ further_kinds) w t h

pub gate_name : (t : Lexeme) → IsName t → starts_gate t ≡ false
gate_name t h = is_one_of-name gate_word (kind.And ∷ further_kinds) t h

-- `( a ) ;`
pub gate_begins : ReadBefore → (t : Lexeme) → starts_gate t ≡ true → Begun gate_form.phrase (t ∷ [])
gate_begins read t e =
    let w = starts_word t e in
    record {
      more = word_token word.OpenParen ∷ some_name ∷ word_token word.CloseParen ∷ word_token word.Semicolon ∷ [];
      value = _;
      is = gate_fit read Alone _ _ None
          (of_kind w.1 (last (unnamed (word_token-is word.OpenParen) (one_expr _ _ (name_expr 0 some_name some_name-is)) (word_token-is word.CloseParen))) (word_token-is word.Semicolon));
    }
