-- The tokens of a right side are read into a tree, in one way.
use Rattle.std.proofs.Common.{◌≡◌, ℕ, suc, ◌<◌, ◌≤◌, List, [], ◌∷◌, ◌++◌, refl, sym, ◌∙◌, ap, subst, append_assoc, append-nil, arith, Bool, true, false, ◌&&◌, cond, Option, None, Some, option_and_then, length, add-one, nat_le, nat_eq}
use Rattle.std.proofs.lemmas.Bool.Decides.{nat_tests}
use Rattle.vod_thin_syntax.proofs.Steady.{got_value, got_rest}
use Rattle.vod_thin_syntax.proofs.SameWords.{next_is}
use Rattle.vod_thin_syntax.proofs.Scans.{ends, scan_ends, scan_goes}
use Rattle.vod_thin_syntax.proofs.Values.{scan_at, attach, attach_marks, grouped_parts, attached, operator_low}
use Rattle.vod_thin_syntax.specs.Reader.{Got, is_next, after_mark, after_word, may_end, goes_on, scan_read, value_read}
use Rattle.vod_thin_syntax.specs.Syntax.{Name, Mark, Named, Fixed, Operator, And, Xor, Or, Value, Plain, Group, Joined, operator_word, tilde, value_marks, strength, level, is_grouped}
use Rattle.vod_thin_syntax.specs.declared.scan.Head.TheVariants as head
use Rattle.vod_thin_syntax.specs.declared.scan.Scan.{Scan}
use Rattle.vod_thin_syntax.specs.declared.words.Word.{Word}
use Rattle.vod_thin_syntax.specs.declared.words.Word.TheVariants as word

-- what stands before an operand inside of its parentheses: a value and an operator, or nothing
abbrev Before : Type 0
Before = Option (Value × Operator)

-- an open parenthesis: what stands before it, and whether it is inverted
abbrev Frame : Type 0
Frame = Before × Bool

-- an operand is wanted, or what is inverted; or a value is there
data State : Type 0 where
  Wants : Before → List Frame → State
  Inverts : Before → List Frame → State
  Has : Value → List Frame → State

put : Before → Value → Value
put None w = w
put (Some p) w = attach p.0 p.1 w

closed_by : Value → List Frame → Option State
closed_by v [] = None
closed_by v (f ∷ fs) = Some (Has (put f.0 (Group f.1 v)) fs)

wants_word : Word → Before → List Frame → Option State
wants_word word.Not b fs = Some (Inverts b fs)
wants_word word.Open b fs = Some (Wants None ((b, false) ∷ fs))
wants_word _ b fs = None

inverts_word : Word → Before → List Frame → Option State
inverts_word word.Open b fs = Some (Wants None ((b, true) ∷ fs))
inverts_word _ b fs = None

has_word : Word → Value → List Frame → Option State
has_word word.And v fs = Some (Wants (Some (v, And)) fs)
has_word word.Xor v fs = Some (Wants (Some (v, Xor)) fs)
has_word word.Or v fs = Some (Wants (Some (v, Or)) fs)
has_word word.Close v fs = closed_by v fs
has_word _ v fs = None

step : State → Mark → Option State
step (Wants b fs) (Named name) = Some (Has (put b (Plain false name)) fs)
step (Wants b fs) (Fixed w) = wants_word w b fs
step (Inverts b fs) (Named name) = Some (Has (put b (Plain true name)) fs)
step (Inverts b fs) (Fixed w) = inverts_word w b fs
step (Has v fs) (Named name) = None
step (Has v fs) (Fixed w) = has_word w v fs

run : State → List Mark → Option State
run s [] = Some s
run s (t ∷ ts) = option_and_then (λ next. run next ts) (step s t)

-- parts that are put together in two ways
attach_simple : (u : Value) (op : Operator) (w : Value) → strength op ≤ level u → attach u op w ≡ Joined op u w
unfolding attach
attach_simple (Plain inverted name) op w low = refl
attach_simple (Group inverted v) op w low = refl
attach_simple (Joined top left right) op w low =
    let test : nat_le (strength op) (strength top) ≡ true = grind (arith, nat_tests) in
    ap (λ b. cond b (Joined op (Joined top left right) w) (Joined top left (attach right op w))) test

attach_deep : (top : Operator) (left right : Value) (op : Operator) (w : Value) → strength top < strength op → attach (Joined top left right) op w ≡ Joined top left (attach right op w)
unfolding attach
attach_deep top left right op w above =
    let test : nat_le (strength op) (strength top) ≡ false = grind (arith, nat_tests) in
    ap (λ b. cond b (Joined op (Joined top left right) w) (Joined top left (attach right op w))) test

assoc_simple : (u : Value) (op : Operator) (left : Value) (over : Operator) (right : Value) → strength op ≤ level u → strength op < strength over → strength over ≤ level left
    → attach (attach u op left) over right ≡ attach u op (Joined over left right)
assoc_simple u op left over right low above high =
    ap (λ v. attach v over right) (attach_simple u op left low)
    ∙ attach_deep op u left over right above
    ∙ ap (Joined op u) (attach_simple left over right high)
    ∙ sym (attach_simple u op (Joined over left right) low)

attach_assoc : (u : Value) (op : Operator) (left : Value) (over : Operator) (right : Value) → strength op < strength over → strength over ≤ level left
    → attach (attach u op left) over right ≡ attach u op (Joined over left right)
attach_assoc (Plain inverted name) op left over right above high = let low = operator_low op in assoc_simple (Plain inverted name) op left over right (omega arith) above high
attach_assoc (Group inverted v) op left over right above high = let low = operator_low op in assoc_simple (Group inverted v) op left over right (omega arith) above high
attach_assoc (Joined top a b) op left over right above high = by_test (attach_assoc b op left over right above high) (nat_le (strength op) (strength top)) refl
  where
    by_test : attach (attach b op left) over right ≡ attach b op (Joined over left right) → (t : Bool) → nat_le (strength op) (strength top) ≡ t
        → attach (attach (Joined top a b) op left) over right ≡ attach (Joined top a b) op (Joined over left right)
    by_test more true e = assoc_simple (Joined top a b) op left over right (grind (arith, nat_tests)) above high
    by_test more false e =
        let under : strength top < strength op = grind (arith, nat_tests) in
        ap (λ v. attach v over right) (attach_deep top a b op left under)
        ∙ attach_deep top a (attach b op left) over right (omega arith)
        ∙ ap (Joined top a) more
        ∙ sym (attach_deep top a b op (Joined over left right) under)

-- a value may stand behind what is before it
abbrev Fits : Before → Value → Type 0
Fits None v = Unit {0}
Fits (Some p) v = strength p.1 < level v

put_joined : (b : Before) (op : Operator) (left right : Value) → Fits b (Joined op left right) → strength op ≤ level left → attach (put b left) op right ≡ put b (Joined op left right)
unfolding put
put_joined None op left right fits low = attach_simple left op right low
put_joined (Some p) op left right fits low = attach_assoc p.0 p.1 left op right fits low

fits_left : (b : Before) (op : Operator) (left right : Value) → Fits b (Joined op left right) → strength op ≤ level left → Fits b left
fits_left None op left right fits low = tt
fits_left (Some p) op left right fits low = omega arith

operator_step : (op : Operator) (v : Value) (fs : List Frame) → step (Has v fs) (Fixed (operator_word op)) ≡ Some (Wants (Some (v, op)) fs)
unfolding step has_word
operator_step And v fs = refl
operator_step Xor v fs = refl
operator_step Or v fs = refl

-- a value that is grouped is read as itself
read_name : (inverted : Bool) (name : Name) (b : Before) (fs : List Frame) (rest : List Mark)
    → run (Wants b fs) ((tilde inverted ++ Named name ∷ []) ++ rest) ≡ run (Has (put b (Plain inverted name)) fs) rest
unfolding run step wants_word
read_name false name b fs rest = refl
read_name true name b fs rest = refl

read_open : (inverted : Bool) (b : Before) (fs : List Frame) (rest : List Mark) → run (Wants b fs) (tilde inverted ++ Fixed word.Open ∷ rest) ≡ run (Wants None ((b, inverted) ∷ fs)) rest
unfolding run step wants_word inverts_word
read_open false b fs rest = refl
read_open true b fs rest = refl

read_close : (inverted : Bool) (v : Value) (b : Before) (fs : List Frame) (rest : List Mark) → run (Has (put None v) ((b, inverted) ∷ fs)) (Fixed word.Close ∷ rest) ≡ run (Has (put b (Group inverted v)) fs) rest
unfolding run step has_word closed_by put
read_close inverted v b fs rest = refl

read_operator : (op : Operator) (v : Value) (fs : List Frame) (rest : List Mark) → run (Has v fs) (Fixed (operator_word op) ∷ rest) ≡ run (Wants (Some (v, op)) fs) rest
unfolding run
read_operator op v fs rest = ap (option_and_then (λ next. run next rest)) (operator_step op v fs)

put_some : (u : Value) (op : Operator) (v : Value) → put (Some (u, op)) v ≡ attach u op v
unfolding put
put_some u op v = refl

read_value : (v : Value) (b : Before) (fs : List Frame) (rest : List Mark) → is_grouped v ≡ true → Fits b v → run (Wants b fs) (value_marks v ++ rest) ≡ run (Has (put b v) fs) rest
read_value (Plain inverted name) b fs rest g fits = read_name inverted name b fs rest
read_value (Group inverted v) b fs rest g fits =
    let regrouped : (tilde inverted ++ Fixed word.Open ∷ (value_marks v ++ Fixed word.Close ∷ [])) ++ rest ≡ tilde inverted ++ Fixed word.Open ∷ (value_marks v ++ Fixed word.Close ∷ rest) = simp append_assoc in
    ap (run (Wants b fs)) regrouped
    ∙ read_open inverted b fs (value_marks v ++ Fixed word.Close ∷ rest)
    ∙ read_value v None ((b, inverted) ∷ fs) (Fixed word.Close ∷ rest) g tt
    ∙ read_close inverted v b fs rest
read_value (Joined op left right) b fs rest g fits =
    let parts = grouped_parts op left right g in
    let behind : List Mark = value_marks right ++ rest in
    let regrouped : (value_marks left ++ Fixed (operator_word op) ∷ value_marks right) ++ rest ≡ value_marks left ++ (Fixed (operator_word op) ∷ behind) = simp append_assoc in
    ap (run (Wants b fs)) regrouped
    ∙ read_value left b fs (Fixed (operator_word op) ∷ behind) parts.first (fits_left b op left right fits parts.at_left)
    ∙ read_operator op (put b left) fs behind
    ∙ read_value right (Some (put b left, op)) fs rest parts.second parts.at_right
    ∙ ap (λ w. run (Has w fs) rest) (put_some (put b left) op right ∙ put_joined b op left right fits parts.at_left)

has_value : (v w : Value) (fs gs : List Frame) → Some (Has v fs) ≡ Some (Has w gs) → v ≡ w
has_value v w fs gs h = cc

-- the tokens of a value are those of no other
pub value_injective : (v w : Value) → is_grouped v ≡ true → is_grouped w ≡ true → value_marks v ≡ value_marks w → v ≡ w
unfolding run put
value_injective v w g h e =
    let a : run (Wants None []) (value_marks v ++ []) ≡ Some (Has v []) = read_value v None [] [] g tt in
    let b : run (Wants None []) (value_marks w ++ []) ≡ Some (Has w []) = read_value w None [] [] h tt in
    has_value v w [] [] (sym a ∙ ap (λ ts. run (Wants None []) (ts ++ [])) e ∙ b)

-- the tokens of a state so far
before_marks : Before → List Mark
before_marks None = []
before_marks (Some p) = value_marks p.0 ++ Fixed (operator_word p.1) ∷ []

frames_marks : List Frame → List Mark
frames_marks [] = []
frames_marks (f ∷ fs) = frames_marks fs ++ (before_marks f.0 ++ (tilde f.1 ++ Fixed word.Open ∷ []))

state_marks : State → List Mark
state_marks (Wants b fs) = frames_marks fs ++ before_marks b
state_marks (Inverts b fs) = frames_marks fs ++ (before_marks b ++ Fixed word.Not ∷ [])
state_marks (Has v fs) = frames_marks fs ++ value_marks v

-- its values are grouped
abbrev GoodBefore : Before → Type 0
GoodBefore None = Unit {0}
GoodBefore (Some p) = is_grouped p.0 ≡ true

abbrev GoodFrames : List Frame → Type 0
GoodFrames [] = Unit {0}
GoodFrames (f ∷ fs) = GoodBefore f.0 × GoodFrames fs

abbrev Good : State → Type 0
Good (Wants b fs) = GoodBefore b × GoodFrames fs
Good (Inverts b fs) = GoodBefore b × GoodFrames fs
Good (Has v fs) = (is_grouped v ≡ true) × GoodFrames fs

-- the scan that goes beside it
abbrev state_scan : State → Scan
state_scan (Wants b fs) = scan_at head.Operand (length fs)
state_scan (Inverts b fs) = scan_at head.Inverted (length fs)
state_scan (Has v fs) = scan_at head.Behind (length fs)

put_marks : (b : Before) (w : Value) → value_marks (put b w) ≡ before_marks b ++ value_marks w
unfolding put before_marks
put_marks None w = refl
put_marks (Some p) w = attach_marks p.0 p.1 w ∙ sym (append_assoc (value_marks p.0) (Fixed (operator_word p.1) ∷ []) (value_marks w))

put_grouped : (b : Before) (w : Value) → GoodBefore b → is_grouped w ≡ true → level w ≡ 3 → is_grouped (put b w) ≡ true
unfolding put
put_grouped None w good g high = g
put_grouped (Some p) w good g high = let low = operator_low p.1 in (attached p.0 p.1 w good g (omega arith)).grouped

-- one more token of a scan, beside a state
record Onward (s : State) (t : Mark) (next : Scan) : Type 0 where
  state : State
  scan : state_scan state ≡ next
  good : Good state
  marks : state_marks state ≡ state_marks s ++ t ∷ []

some_scan : {a b : Scan} → Some a ≡ Some b → a ≡ b
some_scan h = cc

operand_ends : (b : Before) (fs : List Frame) (inverted : Bool) (name : Name) → GoodBefore b → GoodFrames fs → Good (Has (put b (Plain inverted name)) fs)
operand_ends b fs inverted name good all = (put_grouped b (Plain inverted name) good refl refl, all)

wants_onward : (b : Before) (fs : List Frame) (w : Word) (next : Scan) → after_word head.Operand w (length fs) ≡ Some next → Good (Wants b fs) → Onward (Wants b fs) (Fixed w) next
unfolding state_marks frames_marks before_marks
wants_onward b fs word.Not next e good = record {
  state = Inverts b fs;
  scan = some_scan e;
  good = good;
  marks = sym (append_assoc (frames_marks fs) (before_marks b) (Fixed word.Not ∷ []));
}
wants_onward b fs word.Open next e good = record {
  state = Wants None ((b, false) ∷ fs);
  scan = ap (scan_at head.Operand) (sym (add-one (length fs))) ∙ some_scan e;
  good = (tt, good);
  marks = append-nil (frames_marks fs ++ (before_marks b ++ Fixed word.Open ∷ [])) ∙ sym (append_assoc (frames_marks fs) (before_marks b) (Fixed word.Open ∷ []));
}
wants_onward b fs w next e good = cc

inverts_onward : (b : Before) (fs : List Frame) (w : Word) (next : Scan) → after_word head.Inverted w (length fs) ≡ Some next → Good (Inverts b fs) → Onward (Inverts b fs) (Fixed w) next
unfolding state_marks frames_marks before_marks
inverts_onward b fs word.Open next e good = record {
  state = Wants None ((b, true) ∷ fs);
  scan = ap (scan_at head.Operand) (sym (add-one (length fs))) ∙ some_scan e;
  good = (tt, good);
  marks = append-nil (frames_marks fs ++ (before_marks b ++ Fixed word.Not ∷ Fixed word.Open ∷ [])) ∙ simp append_assoc;
}
inverts_onward b fs w next e good = cc

operator_onward : (v : Value) (fs : List Frame) (op : Operator) (next : Scan) → scan_at head.Operand (length fs) ≡ next → Good (Has v fs) → Onward (Has v fs) (Fixed (operator_word op)) next
unfolding state_marks before_marks
operator_onward v fs op next e good = record {
  state = Wants (Some (v, op)) fs;
  scan = e;
  good = good;
  marks = sym (append_assoc (frames_marks fs) (value_marks v) (Fixed (operator_word op) ∷ []));
}

close_onward : (v : Value) (fs : List Frame) (next : Scan) → after_word head.Behind word.Close (length fs) ≡ Some next → Good (Has v fs) → Onward (Has v fs) (Fixed word.Close) next
unfolding state_marks frames_marks
close_onward v [] next e good = cc
close_onward v (f ∷ fs) next e good =
    let inside : Value = Group f.1 v in
    let marks : frames_marks fs ++ (before_marks f.0 ++ (tilde f.1 ++ Fixed word.Open ∷ (value_marks v ++ Fixed word.Close ∷ [])))
    ≡ ((frames_marks fs ++ (before_marks f.0 ++ (tilde f.1 ++ Fixed word.Open ∷ []))) ++ value_marks v) ++ Fixed word.Close ∷ [] = simp append_assoc in
    record {
      state = Has (put f.0 inside) fs;
      scan = some_scan e;
      good = (put_grouped f.0 inside good.1.0 good.0 refl, good.1.1);
      marks = ap (λ w. frames_marks fs ++ w) (put_marks f.0 inside) ∙ marks;
    }

has_onward : (v : Value) (fs : List Frame) (w : Word) (next : Scan) → after_word head.Behind w (length fs) ≡ Some next → Good (Has v fs) → Onward (Has v fs) (Fixed w) next
has_onward v fs word.And next e good = operator_onward v fs And next (some_scan e) good
has_onward v fs word.Xor next e good = operator_onward v fs Xor next (some_scan e) good
has_onward v fs word.Or next e good = operator_onward v fs Or next (some_scan e) good
has_onward v fs word.Close next e good = close_onward v fs next e good
has_onward v fs w next e good = cc

onward : (s : State) (t : Mark) (next : Scan) → after_mark t (state_scan s) ≡ Some next → Good s → Onward s t next
unfolding state_marks
onward (Wants b fs) (Named name) next e good = record {
  state = Has (put b (Plain false name)) fs;
  scan = some_scan e;
  good = operand_ends b fs false name good.0 good.1;
  marks = ap (λ w. frames_marks fs ++ w) (put_marks b (Plain false name)) ∙ sym (append_assoc (frames_marks fs) (before_marks b) (Named name ∷ []));
}
onward (Inverts b fs) (Named name) next e good =
    let marks : frames_marks fs ++ (before_marks b ++ Fixed word.Not ∷ Named name ∷ []) ≡ (frames_marks fs ++ (before_marks b ++ Fixed word.Not ∷ [])) ++ Named name ∷ [] = simp append_assoc in
    record {
      state = Has (put b (Plain true name)) fs;
      scan = some_scan e;
      good = operand_ends b fs true name good.0 good.1;
      marks = ap (λ w. frames_marks fs ++ w) (put_marks b (Plain true name)) ∙ marks;
    }
onward (Has v fs) (Named name) next e good = cc
onward (Wants b fs) (Fixed w) next e good = wants_onward b fs w next e good
onward (Inverts b fs) (Fixed w) next e good = inverts_onward b fs w next e good
onward (Has v fs) (Fixed w) next e good = has_onward v fs w next e good

-- tokens that are scanned are those of a value, and its `;`
pub record ValueRead (sofar ts value rest : List Mark) : Type 0 where
  pub tree : Value
  pub grouped : is_grouped tree ≡ true
  pub printed : value_marks tree ≡ value
  pub split : sofar ++ ts ≡ value ++ Fixed word.Semicolon ∷ rest

both : (a b : Bool) → (a && b) ≡ true → (a ≡ true) × (b ≡ true)
both true b h = (refl, h)
both false b h = cc

scanned : (s : State) (sofar value rest : List Mark) → Good s → state_marks s ≡ sofar → may_end (state_scan s) ≡ true → sofar ≡ value → ValueRead sofar (Fixed word.Semicolon ∷ rest) value rest
unfolding state_marks frames_marks
scanned (Wants b fs) sofar value rest good marks h e = cc
scanned (Inverts b fs) sofar value rest good marks h e = cc
scanned (Has v []) sofar value rest good marks h e = record { tree = v; grouped = good.0; printed = marks ∙ e; split = ap (λ w. w ++ Fixed word.Semicolon ∷ rest) e }
scanned (Has v (f ∷ fs)) sofar value rest good marks h e = absurd (some_open (length fs) h)
  where
    some_open : (n : ℕ) → nat_eq (suc n) 0 ≡ true → ⊥
    some_open n k = grind (arith, nat_tests)

scan_sound : (ts : List Mark) (s : State) (sofar value rest : List Mark) → Good s → state_marks s ≡ sofar → scan_read (state_scan s) sofar ts ≡ Got value rest → ValueRead sofar ts value rest
scan_sound [] s sofar value rest good marks h = cc
scan_sound (t ∷ ts) s sofar value rest good marks h =
    by_end (λ next e. (
    let on = onward s t next e good in
    λ k. scan_sound ts on.state (sofar ++ t ∷ []) value rest on.good (on.marks ∙ ap (λ v. v ++ t ∷ []) marks) (ap (λ n. scan_read n (sofar ++ t ∷ []) ts) on.scan ∙ k)))
    (ends (state_scan s) (t ∷ ts)) refl
  where
    by_next : (o : Option Scan) → after_mark t (state_scan s) ≡ o → ((next : Scan) → after_mark t (state_scan s) ≡ Some next → scan_read next (sofar ++ t ∷ []) ts ≡ Got value rest → ValueRead (sofar ++ t ∷ []) ts value rest)
        → goes_on o (t ∷ ts) (λ next. scan_read next (sofar ++ t ∷ []) ts) ≡ Got value rest → ValueRead sofar (t ∷ ts) value rest
    by_next None e more k = cc
    by_next (Some next) e more k =
        let read = more next e k in
        record { tree = read.tree; grouped = read.grouped; printed = read.printed; split = sym (append_assoc sofar (t ∷ []) ts) ∙ read.split }

    by_end : ((next : Scan) → after_mark t (state_scan s) ≡ Some next → scan_read next (sofar ++ t ∷ []) ts ≡ Got value rest → ValueRead (sofar ++ t ∷ []) ts value rest)
        → (b : Bool) → ends (state_scan s) (t ∷ ts) ≡ b → ValueRead sofar (t ∷ ts) value rest
    by_end more true e =
        let got : Got sofar ts ≡ Got value rest = sym (scan_ends (state_scan s) sofar t ts e) ∙ h in
        let tests = both (is_next word.Semicolon (t ∷ ts)) (may_end (state_scan s)) e in
        let begun = next_is word.Semicolon (t ∷ ts) tests.0 in
        let left : t ∷ ts ≡ Fixed word.Semicolon ∷ rest = (let same : t ≡ Fixed word.Semicolon = (let k = begun.1 in cc) in ap (λ v. v ∷ ts) same ∙ ap (λ v. Fixed word.Semicolon ∷ v) (got_rest got)) in
        subst (λ v. ValueRead sofar v value rest) (sym left) (scanned s sofar value rest good marks tests.1 (got_value got))
    by_end more false e = by_next (after_mark t (state_scan s)) refl more (sym (scan_goes (state_scan s) sofar t ts e) ∙ h)

pub value_sound : (ts value rest : List Mark) → value_read ts ≡ Got value rest → ValueRead [] ts value rest
unfolding value_read state_marks frames_marks before_marks
value_sound ts value rest h = scan_sound ts (Wants None []) [] value rest (tt, tt) refl h
