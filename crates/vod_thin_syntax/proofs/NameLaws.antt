-- The names of a sentence are identifiers.
use Rattle.std.proofs.Common.{◌≡◌, ℕ, ◌+◌, ◌-◌, ◌≤◌, inl, inr, List, [], ◌∷◌, ◌++◌, arith, length, take, drop, map, refl, sym, ◌∙◌, ap, cond, true, false, ◌&&◌, Bool, Option, Some, None, subst}
use Rattle.std.proofs.Math.Seq.{take-append_seam, drop-append_seam}
use Rattle.std.proofs.lemmas.Bool.Decides.{nat_tests}
use Rattle.std.proofs.lemmas.List.{drop-drop}
use Rattle.std.proofs.lemmas.List.Elements.{All-nil, All-cons, All-tail}
use Rattle.std.specs.List.{flat_map}
use Rattle.std.specs.Prelude.{All, nat_lt}
use Rattle.vod_token.specs.Cut.{token}
use Rattle.vod_token.specs.Form.{IsWord, IsSpelled, Form, kind_of}
use Rattle.vod_token.specs.Form.Form.{Word, Plain, Based, Directive, Symbol}
use Rattle.vod_token.specs.Nesting.{slice_of}
use Rattle.vod_token.specs.Word.{is_reserved}
use Rattle.vod_token.specs.declared.Token.{Token}
use Rattle.vod_token.specs.declared.TokenKind.TheVariants as kinds
use Rattle.vod_thin_syntax.proofs.WordLaws.{spelled_word}
use Rattle.vod_thin_syntax.specs.Limit.{sooner, is_name, is_long, first_long, limit_of}
use Rattle.vod_thin_syntax.specs.Names.{value_names, item_names, names_of, IsIdentifier, IsShort}
use Rattle.vod_thin_syntax.specs.Refusal.{Reads}
use Rattle.vod_thin_syntax.specs.Syntax as tree
use Rattle.vod_thin_syntax.specs.Syntax.{Name, Mark, Named, Fixed, Value, Item, Port, Module, tilde, value_marks, operator_word, item_marks, direction_word, port_marks, ports_marks, sentence}
use Rattle.vod_thin_syntax.specs.Tokens.{IsOfForm, Falls}
use Rattle.vod_thin_syntax.specs.Tokens.Falls.{ends, skips, takes, stops}
use Rattle.vod_thin_syntax.specs.View.{name_of, mark_by, mark_of, marks_of}
use Rattle.vod_thin_syntax.specs.Words.{word_of}
use Rattle.vod_thin_syntax.specs.declared.words.Word as w
use Rattle.vod_thin_syntax.specs.declared.words.Word.TheVariants as word

-- a token that is no word, number or symbol is a name
record NamedToken (source : List ℕ) (t : Token) : Type 0 where
  kind : t.kind ≡ kinds.Name
  word : IsWord (slice_of source t)
  free : is_reserved (slice_of source t) ≡ false
  long : length (slice_of source t) ≡ t.end - t.start

abbrev GoodToken : List ℕ → Token → Type 0
GoodToken source t = word_of (slice_of source t) ≡ None → NamedToken source t

name_form : (text : List ℕ) (form : Form) → IsSpelled text form → kind_of text form ≡ kinds.Name → IsWord text × (is_reserved text ≡ false)
name_form text Word h e = (h, by_test (is_reserved text) e)
  where
    by_test : (b : Bool) → cond b kinds.Reserved kinds.Name ≡ kinds.Name → b ≡ false
    by_test true f = cc
    by_test false f = refl
name_form text (Plain value) h e = cc
name_form text (Based size signed value) h e = cc
name_form text Directive h e = cc
name_form text Symbol h e = cc

token_slice : (source : List ℕ) (at : ℕ) (text rest : List ℕ) (form : Form) → drop at source ≡ text ++ rest → slice_of source (token at text form) ≡ text
token_slice source at text rest form e =
    ap (λ n. take n (drop at source)) (let s : at + length text - at ≡ length text = omega arith in s) ∙ ap (take (length text)) e ∙ take-append_seam text rest

good_token : (source : List ℕ) (at : ℕ) (text rest : List ℕ) (form : Form) → drop at source ≡ text ++ rest → IsSpelled text form → IsOfForm text (kind_of text form) → GoodToken source (token at text form)
good_token source at text rest form e spelled (inr (found, f)) none =
    let read : word_of (slice_of source (token at text form)) ≡ Some found = ap word_of (token_slice source at text rest form e ∙ f) ∙ spelled_word found in cc
good_token source at text rest form e spelled (inl named) none =
    let slice = token_slice source at text rest form e in
    let parts = name_form text form spelled named in
    record {
      kind = named;
      word = subst IsWord (sym slice) parts.0;
      free = ap is_reserved slice ∙ parts.1;
      long = ap length slice ∙ (let s : length text ≡ at + length text - at = omega arith in s);
    }

behind_text : (source : List ℕ) (at : ℕ) (text rest : List ℕ) → drop at source ≡ text ++ rest → drop (at + length text) source ≡ rest
behind_text source at text rest e = sym (drop-drop (length text) at source) ∙ ap (drop (length text)) e ∙ drop-append_seam text rest

falls_good : {at : ℕ} {bytes : List ℕ} {ts : List Token} {stop : Option ℕ} → Falls at bytes ts stop → (source : List ℕ) → drop at source ≡ bytes → All (GoodToken source) ts
falls_good (ends at) source e = All-nil (GoodToken source)
falls_good (skips at b bs ts stop white more) source e = falls_good more source (behind_text source at (b ∷ []) bs e)
falls_good (takes at text rest form ts stop holds of more) source e =
    All-cons (GoodToken source) (token at text form) ts (good_token source at text rest form e holds.spelled of) (falls_good more source (behind_text source at text rest e))
falls_good (stops at b bs dark none) source e = All-nil (GoodToken source)

-- a property of the names among tokens
abbrev OnNames : (Name → Type 0) → Mark → Type 0
OnNames P (Named name) = P name
OnNames P (Fixed _) = Unit {0}

mark_names : (P : Name → Type 0) (source : List ℕ) (t : Token) → (word_of (slice_of source t) ≡ None → P (name_of source t)) → OnNames P (mark_of source t)
mark_names P source t h = by_word (word_of (slice_of source t)) refl
  where
    by_word : (o : Option w.Word) → word_of (slice_of source t) ≡ o → OnNames P (mark_by (name_of source t) o)
    by_word None e = h e
    by_word (Some _) e = tt

marks_names : (P : Name → Type 0) (source : List ℕ) (ts : List Token) → All (λ t. word_of (slice_of source t) ≡ None → P (name_of source t)) ts → All (OnNames P) (marks_of source ts)
marks_names P source [] h = All-nil (OnNames P)
marks_names P source (t ∷ ts) h =
    All-cons (OnNames P) (mark_of source t) (marks_of source ts) (mark_names P source t (h 0 t (omega arith)))
    (marks_names P source ts (All-tail (λ (t : Token). word_of (slice_of source t) ≡ None → P (name_of source t)) t ts h))

-- all of two lists
all_front : {X : Type 0} (P : X → Type 0) (xs ys : List X) → All P (xs ++ ys) → All P xs
all_front P [] ys h = All-nil P
all_front P (x ∷ xs) ys h = All-cons P x xs (h 0 x (omega arith)) (all_front P xs ys (All-tail P x (xs ++ ys) h))

all_back : {X : Type 0} (P : X → Type 0) (xs ys : List X) → All P (xs ++ ys) → All P ys
all_back P [] ys h = h
all_back P (x ∷ xs) ys h = all_back P xs ys (All-tail P x (xs ++ ys) h)

all_both : {X : Type 0} (P : X → Type 0) (xs ys : List X) → All P xs → All P ys → All P (xs ++ ys)
all_both P [] ys h g = g
all_both P (x ∷ xs) ys h g = All-cons P x (xs ++ ys) (h 0 x (omega arith)) (all_both P xs ys (All-tail P x xs h) g)

all_first : {X : Type 0} (P : X → Type 0) (x : X) (xs : List X) → All P (x ∷ xs) → P x
all_first P x xs h = h 0 x (omega arith)

-- from the tokens to the names
name_of_tokens : (P : Name → Type 0) (inverted : Bool) (name : Name) → All (OnNames P) (tilde inverted ++ Named name ∷ []) → All P (name ∷ [])
name_of_tokens P inverted name h = All-cons P name [] (all_first (OnNames P) (Named name) [] (all_back (OnNames P) (tilde inverted) (Named name ∷ []) h)) (All-nil P)

names_of_value : (P : Name → Type 0) (v : Value) → All (OnNames P) (value_marks v) → All P (value_names v)
names_of_value P (tree.Plain inverted name) h = name_of_tokens P inverted name h
names_of_value P (tree.Group inverted v) h =
    names_of_value P v (all_front (OnNames P) (value_marks v) (Fixed word.Close ∷ [])
    (All-tail (OnNames P) (Fixed word.Open) (value_marks v ++ Fixed word.Close ∷ []) (all_back (OnNames P) (tilde inverted) (Fixed word.Open ∷ (value_marks v ++ Fixed word.Close ∷ [])) h)))
names_of_value P (tree.Joined op left right) h =
    let marks = Fixed (operator_word op) ∷ value_marks right in
    all_both P (value_names left) (value_names right) (names_of_value P left (all_front (OnNames P) (value_marks left) marks h))
    (names_of_value P right (All-tail (OnNames P) (Fixed (operator_word op)) (value_marks right) (all_back (OnNames P) (value_marks left) marks h)))

-- the tokens behind the first few
behind : (P : Mark → Type 0) (front rest : List Mark) → All P (front ++ rest) → All P rest
behind P front rest h = all_back P front rest h

names_of_item : (P : Name → Type 0) (item : Item Value) → All (OnNames P) (item_marks value_marks item) → All P (item_names item)
names_of_item P (tree.Wire name) h = All-cons P name [] (h 1 (Named name) (omega arith)) (All-nil P)
names_of_item P (tree.Register name initial) h = All-cons P name [] (h 1 (Named name) (omega arith)) (All-nil P)
names_of_item P (tree.Assign target value) h =
    let rest : List Mark = value_marks value ++ Fixed word.Semicolon ∷ [] in
    All-cons P target (value_names value) (h 1 (Named target) (omega arith))
    (names_of_value P value (all_front (OnNames P) (value_marks value) (Fixed word.Semicolon ∷ []) (behind (OnNames P) (Fixed word.Assign ∷ Named target ∷ Fixed word.Equals ∷ []) rest h)))
names_of_item P (tree.Always clock register value) h =
    let rest : List Mark = value_marks value ++ Fixed word.Semicolon ∷ [] in
    All-cons P clock (register ∷ value_names value) (h 4 (Named clock) (omega arith)) (All-cons P register (value_names value) (h 6 (Named register) (omega arith))
    (names_of_value P value (all_front (OnNames P) (value_marks value) (Fixed word.Semicolon ∷ [])
    (behind (OnNames P) (Fixed word.Always ∷ Fixed word.Event ∷ Fixed word.Open ∷ Fixed word.Posedge ∷ Named clock ∷ Fixed word.Close ∷ Named register ∷ Fixed word.Nonblocking ∷ []) rest h))))

names_of_items : (P : Name → Type 0) (items : List (Item Value)) → All (OnNames P) (flat_map (item_marks value_marks) items) → All P (flat_map item_names items)
names_of_items P [] h = All-nil P
names_of_items P (item ∷ items) h =
    all_both P (item_names item) (flat_map item_names items) (names_of_item P item (all_front (OnNames P) (item_marks value_marks item) (flat_map (item_marks value_marks) items) h))
    (names_of_items P items (all_back (OnNames P) (item_marks value_marks item) (flat_map (item_marks value_marks) items) h))

abbrev next_marks : Port → List Mark
next_marks next = Fixed word.Comma ∷ port_marks next

names_of_more : (P : Name → Type 0) (ports : List Port) → All (OnNames P) (flat_map next_marks ports) → All P (map (λ port. port.name) ports)
names_of_more P [] h = All-nil P
names_of_more P (port ∷ ports) h =
    All-cons P port.name (map (λ p. p.name) ports) (h 2 (Named port.name) (omega arith)) (names_of_more P ports (all_back (OnNames P) (next_marks port) (flat_map next_marks ports) h))

names_of_ports : (P : Name → Type 0) (ports : List Port) → All (OnNames P) (ports_marks ports) → All P (map (λ port. port.name) ports)
names_of_ports P [] h = All-nil P
names_of_ports P (port ∷ ports) h =
    All-cons P port.name (map (λ p. p.name) ports) (h 1 (Named port.name) (omega arith)) (names_of_more P ports (all_back (OnNames P) (port_marks port) (flat_map next_marks ports) h))

names_of_module : (P : Name → Type 0) (m : Module Value) → All (OnNames P) (sentence value_marks m) → All P (names_of m)
names_of_module P m h =
    let items : List Mark = flat_map (item_marks value_marks) m.items ++ Fixed word.Endmodule ∷ [] in
    let body : List Mark = ports_marks m.ports ++ Fixed word.Close ∷ Fixed word.Semicolon ∷ items in
    let all : All (OnNames P) body = behind (OnNames P) (Fixed word.Module ∷ Named m.name ∷ Fixed word.Open ∷ []) body h in
    let rest : All (OnNames P) items = behind (OnNames P) (Fixed word.Close ∷ Fixed word.Semicolon ∷ []) items (all_back (OnNames P) (ports_marks m.ports) (Fixed word.Close ∷ Fixed word.Semicolon ∷ items) all) in
    All-cons P m.name (map (λ port. port.name) m.ports ++ flat_map item_names m.items) (h 1 (Named m.name) (omega arith))
    (all_both P (map (λ port. port.name) m.ports) (flat_map item_names m.items)
    (names_of_ports P m.ports (all_front (OnNames P) (ports_marks m.ports) (Fixed word.Close ∷ Fixed word.Semicolon ∷ items) all))
    (names_of_items P m.items (all_front (OnNames P) (flat_map (item_marks value_marks) m.items) (Fixed word.Endmodule ∷ []) rest)))

names_read : (P : Name → Type 0) (source : List ℕ) (ts : List Token) (m : Module Value) → Reads source ts m → All (λ t. word_of (slice_of source t) ≡ None → P (name_of source t)) ts → All P (names_of m)
names_read P source ts m reads h = names_of_module P m (subst (All (OnNames P)) reads.sentence.is (marks_names P source ts h))

all_weaker : {X : Type 0} (P Q : X → Type 0) (xs : List X) → ((x : X) → P x → Q x) → All P xs → All Q xs
all_weaker P Q [] f h = All-nil Q
all_weaker P Q (x ∷ xs) f h = All-cons Q x xs (f x (h 0 x (omega arith))) (all_weaker P Q xs f (All-tail P x xs h))

pub plain_names : (source : List ℕ) (ts : List Token) (m : Module Value) → Reads source ts m → All IsIdentifier (names_of m)
plain_names source ts m reads =
    names_read IsIdentifier source ts m reads
    (all_weaker (GoodToken source) (λ t. word_of (slice_of source t) ≡ None → IsIdentifier (name_of source t)) ts
    (λ t good none. (let named = good none in record { word = named.word; free = named.free })) (falls_good reads.falls source refl))

-- where no name is long
sooner_none : (a b : Option ℕ) → sooner a b ≡ None → a ≡ None
sooner_none None b h = refl
sooner_none (Some p) None h = cc
sooner_none (Some p) (Some q) h = cc

first_none : (ts : List Token) → first_long ts ≡ None → All (λ t. is_long t ≡ false) ts
first_none [] h = All-nil (λ (t : Token). is_long t ≡ false)
first_none (t ∷ ts) h = by_test (is_long t) refl h (first_none ts)
  where
    by_test : (b : Bool) → is_long t ≡ b → cond b (Some t.start) (first_long ts) ≡ None → (first_long ts ≡ None → All (λ (u : Token). is_long u ≡ false) ts) → All (λ (u : Token). is_long u ≡ false) (t ∷ ts)
    by_test true e f more = cc
    by_test false e f more = All-cons (λ (u : Token). is_long u ≡ false) t ts e (more f)

short_name : (source : List ℕ) (t : Token) → is_long t ≡ false → NamedToken source t → IsShort (name_of source t)
short_name source t h named =
    let kind : is_name t.kind ≡ true = ap is_name named.kind in
    let test : nat_lt 1024 (t.end - t.start) ≡ false = sym (ap (λ b. b && nat_lt 1024 (t.end - t.start)) kind) ∙ h in
    let few : t.end - t.start ≤ 1024 = grind (arith, nat_tests) in
    let long = named.long in
    omega arith

all_zip : {X : Type 0} (P Q R : X → Type 0) (xs : List X) → ((x : X) → P x → Q x → R x) → All P xs → All Q xs → All R xs
all_zip P Q R [] f h g = All-nil R
all_zip P Q R (x ∷ xs) f h g = All-cons R x xs (f x (h 0 x (omega arith)) (g 0 x (omega arith))) (all_zip P Q R xs f (All-tail P x xs h) (All-tail Q x xs g))

pub short_names : (source : List ℕ) (ts : List Token) (m : Module Value) → Reads source ts m → limit_of source ts ≡ None → All IsShort (names_of m)
short_names source ts m reads none =
    let short = first_none ts (sooner_none (first_long ts) _ none) in
    names_read IsShort source ts m reads
    (all_zip (GoodToken source) (λ t. is_long t ≡ false) (λ t. word_of (slice_of source t) ≡ None → IsShort (name_of source t)) ts
    (λ t good small none. short_name source t small (good none)) (falls_good reads.falls source refl) short)
