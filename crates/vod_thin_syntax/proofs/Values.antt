-- A right side's tokens are those of one value that is grouped as operators bind.
use Rattle.std.proofs.Common.{◌≡◌, ℕ, suc, ◌<◌, ◌≤◌, List, [], ◌∷◌, ◌++◌, refl, sym, ◌∙◌, ap, subst, append_assoc, arith, Bool, true, false, ◌&&◌, cond, add-one, nat_le, nat_lt}
use Rattle.std.proofs.lemmas.Bool.Decides.{nat_tests}
use Rattle.vod_thin_syntax.specs.Reader.{Got, scan_read, value_read}
use Rattle.vod_thin_syntax.specs.Syntax.{Name, Mark, Named, Fixed, Operator, And, Xor, Or, Value, Plain, Group, Joined, operator_word, tilde, value_marks, strength, level, is_grouped}
use Rattle.vod_thin_syntax.specs.declared.scan.Head.{Head}
use Rattle.vod_thin_syntax.specs.declared.scan.Head.TheVariants as head
use Rattle.vod_thin_syntax.specs.declared.scan.Scan.{Scan}
use Rattle.vod_thin_syntax.specs.declared.words.Word.TheVariants as word

abbrev pub scan_at : Head → ℕ → Scan
scan_at h depth = record { head = h; depth = depth }

-- the tokens of a value are scanned whole
operator_scan : (op : Operator) (depth : ℕ) (sofar rest : List Mark) → scan_read (scan_at head.Behind depth) sofar (Fixed (operator_word op) ∷ rest) ≡ scan_read (scan_at head.Operand depth) (sofar ++ Fixed (operator_word op) ∷ []) rest
operator_scan And depth sofar rest = refl
operator_scan Xor depth sofar rest = refl
operator_scan Or depth sofar rest = refl

open_scan : (inverted : Bool) (depth : ℕ) (sofar rest : List Mark)
    → scan_read (scan_at head.Operand depth) sofar (tilde inverted ++ Fixed word.Open ∷ rest) ≡ scan_read (scan_at head.Operand (suc depth)) (sofar ++ (tilde inverted ++ Fixed word.Open ∷ [])) rest
open_scan false depth sofar rest = ap (λ n. scan_read (scan_at head.Operand n) (sofar ++ Fixed word.Open ∷ []) rest) (add-one depth)
open_scan true depth sofar rest =
    ap (λ n. scan_read (scan_at head.Operand n) ((sofar ++ Fixed word.Not ∷ []) ++ Fixed word.Open ∷ []) rest) (add-one depth)
    ∙ ap (λ v. scan_read (scan_at head.Operand (suc depth)) v rest) (append_assoc sofar (Fixed word.Not ∷ []) (Fixed word.Open ∷ []))

name_scan : (inverted : Bool) (name : Name) (depth : ℕ) (sofar rest : List Mark)
    → scan_read (scan_at head.Operand depth) sofar ((tilde inverted ++ Named name ∷ []) ++ rest) ≡ scan_read (scan_at head.Behind depth) (sofar ++ (tilde inverted ++ Named name ∷ [])) rest
name_scan false name depth sofar rest = refl
name_scan true name depth sofar rest = ap (λ v. scan_read (scan_at head.Behind depth) v rest) (append_assoc sofar (Fixed word.Not ∷ []) (Named name ∷ []))

value_scan : (v : Value) (depth : ℕ) (sofar rest : List Mark) → scan_read (scan_at head.Operand depth) sofar (value_marks v ++ rest) ≡ scan_read (scan_at head.Behind depth) (sofar ++ value_marks v) rest
value_scan (Plain inverted name) depth sofar rest = name_scan inverted name depth sofar rest
value_scan (Group inverted v) depth sofar rest =
    let inside : List Mark = value_marks v ++ Fixed word.Close ∷ [] in
    let before : List Mark = tilde inverted ++ Fixed word.Open ∷ [] in
    let regrouped : (tilde inverted ++ Fixed word.Open ∷ inside) ++ rest ≡ tilde inverted ++ Fixed word.Open ∷ (value_marks v ++ Fixed word.Close ∷ rest) = simp append_assoc in
    let whole : ((sofar ++ before) ++ value_marks v) ++ Fixed word.Close ∷ [] ≡ sofar ++ (tilde inverted ++ Fixed word.Open ∷ inside) = simp append_assoc in
    ap (scan_read (scan_at head.Operand depth) sofar) regrouped
    ∙ open_scan inverted depth sofar (value_marks v ++ Fixed word.Close ∷ rest)
    ∙ value_scan v (suc depth) (sofar ++ before) (Fixed word.Close ∷ rest)
    ∙ ap (λ w. scan_read (scan_at head.Behind depth) w rest) whole
value_scan (Joined op left right) depth sofar rest =
    let behind : List Mark = value_marks right ++ rest in
    let regrouped : (value_marks left ++ Fixed (operator_word op) ∷ value_marks right) ++ rest ≡ value_marks left ++ (Fixed (operator_word op) ∷ behind) = simp append_assoc in
    let whole : ((sofar ++ value_marks left) ++ Fixed (operator_word op) ∷ []) ++ value_marks right ≡ sofar ++ (value_marks left ++ Fixed (operator_word op) ∷ value_marks right) = simp append_assoc in
    ap (scan_read (scan_at head.Operand depth) sofar) regrouped
    ∙ value_scan left depth sofar (Fixed (operator_word op) ∷ behind)
    ∙ operator_scan op depth (sofar ++ value_marks left) behind
    ∙ value_scan right depth ((sofar ++ value_marks left) ++ Fixed (operator_word op) ∷ []) rest
    ∙ ap (λ w. scan_read (scan_at head.Behind depth) w rest) whole

pub value_full : (v : Value) (rest : List Mark) → value_read ((value_marks v ++ Fixed word.Semicolon ∷ []) ++ rest) ≡ Got (value_marks v) rest
unfolding value_read
value_full v rest = ap (scan_read (scan_at head.Operand 0) []) (append_assoc (value_marks v) (Fixed word.Semicolon ∷ []) rest) ∙ value_scan v 0 [] (Fixed word.Semicolon ∷ rest)

-- a value with one more operator and operand behind it, where they bind
unfoldable pub attach : Value → Operator → Value → Value
attach (Plain inverted name) op w = Joined op (Plain inverted name) w
attach (Group inverted v) op w = Joined op (Group inverted v) w
attach (Joined top left right) op w = cond (nat_le (strength op) (strength top)) (Joined op (Joined top left right) w) (Joined top left (attach right op w))

pub attach_marks : (u : Value) (op : Operator) (w : Value) → value_marks (attach u op w) ≡ value_marks u ++ Fixed (operator_word op) ∷ value_marks w
unfolding attach
attach_marks (Plain inverted name) op w = refl
attach_marks (Group inverted v) op w = refl
attach_marks (Joined top left right) op w = by_test (attach_marks right op w) (nat_le (strength op) (strength top))
  where
    by_test : value_marks (attach right op w) ≡ value_marks right ++ Fixed (operator_word op) ∷ value_marks w → (b : Bool)
        → value_marks (cond b (Joined op (Joined top left right) w) (Joined top left (attach right op w))) ≡ (value_marks left ++ Fixed (operator_word top) ∷ value_marks right) ++ Fixed (operator_word op) ∷ value_marks w
    by_test more true = refl
    by_test more false =
        ap (λ v. value_marks left ++ Fixed (operator_word top) ∷ v) more
        ∙ sym (append_assoc (value_marks left) (Fixed (operator_word top) ∷ value_marks right) (Fixed (operator_word op) ∷ value_marks w))

-- what a grouped pair says
pub record Grouped (op : Operator) (left right : Value) : Type 0 where
  pub at_left : strength op ≤ level left
  pub at_right : strength op < level right
  pub first : is_grouped left ≡ true
  pub second : is_grouped right ≡ true

pub grouped_parts : (op : Operator) (left right : Value) → is_grouped (Joined op left right) ≡ true → Grouped op left right
grouped_parts op left right h =
    by_tests (nat_le (strength op) (level left)) (nat_lt (strength op) (level right)) (is_grouped left) (is_grouped right) refl refl refl refl h
  where
    by_tests : (a b c d : Bool) → nat_le (strength op) (level left) ≡ a → nat_lt (strength op) (level right) ≡ b → is_grouped left ≡ c → is_grouped right ≡ d → (a && b && c && d) ≡ true → Grouped op left right
    by_tests true true true true e f g k h = record { at_left = grind (arith, nat_tests); at_right = grind (arith, nat_tests); first = g; second = k }
    by_tests true true true false e f g k h = cc
    by_tests true true false d e f g k h = cc
    by_tests true false c d e f g k h = cc
    by_tests false b c d e f g k h = cc

grouped_whole : (op : Operator) (left right : Value) → Grouped op left right → is_grouped (Joined op left right) ≡ true
grouped_whole op left right g =
    let a : nat_le (strength op) (level left) ≡ true = (let low = g.at_left in grind (arith, nat_tests)) in
    let b : nat_lt (strength op) (level right) ≡ true = (let low = g.at_right in grind (arith, nat_tests)) in
    all a b g.first g.second
  where
    all : {a b c d : Bool} → a ≡ true → b ≡ true → c ≡ true → d ≡ true → (a && b && c && d) ≡ true
    all {a} {b} {c} {d} p q r s = ap (λ v. v && b && c && d) p ∙ ap (λ v. true && v && c && d) q ∙ ap (λ v. true && true && v && d) r ∙ s

-- what comes of it is grouped, and binds as the parts do
pub record Attached (u : Value) (op : Operator) (w : Value) : Type 0 where
  pub grouped : is_grouped (attach u op w) ≡ true
  pub level_at : (k : ℕ) → k ≤ level u → k ≤ strength op → k ≤ level (attach u op w)

pub operator_low : (op : Operator) → strength op < 3
operator_low And = omega arith
operator_low Xor = omega arith
operator_low Or = omega arith

simply : (u : Value) (op : Operator) (w : Value) → attach u op w ≡ Joined op u w → strength op ≤ level u → is_grouped u ≡ true → is_grouped w ≡ true → strength op < level w → Attached u op w
simply u op w e low g h high =
    let whole = grouped_whole op u w (record { at_left = low; at_right = high; first = g; second = h }) in
    record { grouped = ap is_grouped e ∙ whole; level_at = λ k a b. subst (λ v. k ≤ level v) (sym e) b }

pub attached : (u : Value) (op : Operator) (w : Value) → is_grouped u ≡ true → is_grouped w ≡ true → strength op < level w → Attached u op w
unfolding attach
attached (Plain inverted name) op w g h high = let low = operator_low op in simply (Plain inverted name) op w refl (omega arith) g h high
attached (Group inverted v) op w g h high = let low = operator_low op in simply (Group inverted v) op w refl (omega arith) g h high
attached (Joined top left right) op w g h high =
    let parts = grouped_parts top left right g in
    by_test parts (attached right op w parts.second h high) (nat_le (strength op) (strength top)) refl
  where
    by_test : Grouped top left right → Attached right op w → (b : Bool) → nat_le (strength op) (strength top) ≡ b → Attached (Joined top left right) op w
    by_test parts more true e =
        simply (Joined top left right) op w (ap (λ b. cond b (Joined op (Joined top left right) w) (Joined top left (attach right op w))) e) (grind (arith, nat_tests)) g h high
    by_test parts more false e =
        let above : strength top < strength op = grind (arith, nat_tests) in
        let inside : suc (strength top) ≤ level (attach right op w) = more.level_at (suc (strength top)) parts.at_right above in
        let is : attach (Joined top left right) op w ≡ Joined top left (attach right op w) = ap (λ b. cond b (Joined op (Joined top left right) w) (Joined top left (attach right op w))) e in
        let whole = grouped_whole top left (attach right op w) (record { at_left = parts.at_left; at_right = inside; first = parts.first; second = more.grouped }) in
        record { grouped = ap is_grouped is ∙ whole; level_at = λ k a b. subst (λ v. k ≤ level v) (sym is) a }
