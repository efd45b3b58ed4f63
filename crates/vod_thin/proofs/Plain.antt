-- The tokens of a source are no more than its bytes, and the names among them are plain.
use Rattle.std.proofs.Common.{◌≡◌, ◌≢◌, ℕ, zero, suc, ◌+◌, ◌-◌, ◌<◌, ◌≤◌, ◌⊎◌, inl, inr, nat_eq, Bool, true, false, not, ◌||◌, ◌&&◌, if◌then◌else◌, List, [], ◌∷◌, ◌++◌, Option, None, Some, map, take, drop, length, length-append, get_or, All, AllPairs, IsTrue, refl, sym, ap, ◌∙◌, subst, arith, append_assoc, append-nil, slice_get, slice_range}
use Rattle.std.specs.List.{flat_map, list_all, AllByRecursion}
use Rattle.std.specs.Char.{is_ascii_digit}
use Rattle.std.specs.List.Sorted.{IsStrictlyIncreasing}
use Rattle.std.specs.Prelude.{slice_index_or}
use Rattle.std.proofs.lemmas.Bool.Decides.{nat_tests}
use Rattle.std.proofs.lemmas.List.{length-map, get_or-map}
use Rattle.std.proofs.lemmas.List.Elements.{All-head, All-tail, All-map}
use Rattle.std.proofs.lemmas.List.Kept.{AllPairs-from_increasing}
use Rattle.vod_token.specs.Cut.{Holds}
use Rattle.vod_token.specs.Form.{Form, IsWord, is_letter, is_word_byte}
use Rattle.vod_token.specs.declared.Token.{Token}
use Rattle.vod_thin_syntax.specs.Tokens.{Falls}
use Rattle.vod_thin_syntax.specs.Names.{item_names, names_of, IsIdentifier}
use Rattle.vod_thin_syntax.specs.Tokens.Falls.{ends, skips, takes, stops}
use Rattle.vod_thin_syntax.specs.Syntax.{Name, Mark, Value, Item, Wire, Register, Assign, Always, Port, Module}
use Rattle.vod_thin_design.specs.declared.thin.Expr.{Expr}
use Rattle.vod_thin_design.specs.declared.thin.Signal as design_signal
use Rattle.vod_thin_design.specs.Names.{input_names, is_plain, HasPlainNames}
use Rattle.vod_thin_design.specs.Netlist.{has, input_signals}
use Rattle.vod_thin.specs.declared.names.Kind.{Kind}
use Rattle.vod_thin.specs.declared.names.Kind.TheVariants as kind
use Rattle.vod_thin.specs.Signals.{Declared, port_kind, declared_port, declared_by, signals_of, entries, texts, clocks, is_input}
use Rattle.vod_thin.specs.Netlists.{number_of, signal_of}
use Rattle.vod_thin.proofs.Numbers.{numbers_where, where_rise, all_has, inputs_test, inputs_are}
use Rattle.vod_thin.proofs.Good.{Kept, Own, own}
use Rattle.vod_thin.proofs.Named.{table, net, has_input}

-- bytes of words are none of `=`, space and LF
abbrev plain_byte : ℕ → Bool
plain_byte b = not (nat_eq b 61 || nat_eq b 32 || nat_eq b 10)

word_byte_plain : (b : ℕ) → is_word_byte b ≡ true → plain_byte b ≡ true
word_byte_plain b h = by (nat_eq b 61) (nat_eq b 32) (nat_eq b 10) refl refl refl
  where
    same : (c : ℕ) → nat_eq b c ≡ true → b ≡ c
    same c e = grind (arith, nat_tests)

    other : (c : ℕ) → is_word_byte c ≡ false → nat_eq b c ≡ true → ⊥
    other c fails e = let there : is_word_byte c ≡ true = ap is_word_byte (sym (same c e)) ∙ h in cc

    by : (p q r : Bool) → nat_eq b 61 ≡ p → nat_eq b 32 ≡ q → nat_eq b 10 ≡ r → not (p || q || r) ≡ true
    by true q r e f g = absurd (other 61 refl e)
    by false true r e f g = absurd (other 32 refl f)
    by false false true e f g = absurd (other 10 refl g)
    by false false false e f g = refl

letter_byte : (b : ℕ) → is_letter b ≡ true → is_word_byte b ≡ true
letter_byte b h = ap (λ v. v || is_ascii_digit b || nat_eq b 36) h

bytes_plain : (bs : List ℕ) → AllByRecursion (λ c. is_word_byte c ≡ true) bs → is_plain bs ≡ true
bytes_plain [] h = refl
bytes_plain (b ∷ bs) h = ap (λ v. v && is_plain bs) (word_byte_plain b h.0) ∙ bytes_plain bs h.1

word_plain : (text : List ℕ) → IsWord text → is_plain text ≡ true
word_plain [] h = absurd h
word_plain (b ∷ bs) h = ap (λ v. v && is_plain bs) (word_byte_plain b (letter_byte b h.0)) ∙ bytes_plain bs h.1

-- what is known of tokens
abbrev pub SomeBytes : Type 0
SomeBytes = (rest : List ℕ) (form : Form) → Holds [] rest form → ⊥

some_bytes : SomeBytes → (text rest : List ℕ) (form : Form) → Holds text rest form → 0 < length text
some_bytes some [] rest form h = absurd (some rest form h)
some_bytes some (b ∷ bs) rest form h = omega arith

pub falls_few : SomeBytes → {at : ℕ} {bytes : List ℕ} {ts : List Token} {stop : Option ℕ} → Falls at bytes ts stop → length ts ≤ length bytes
falls_few some (ends at) = omega arith
falls_few some (skips at b bs ts stop white more) = let few = falls_few some more in omega arith
falls_few some (takes at text rest form ts stop holds of more) =
    let few = falls_few some more in
    let sum = length-append text rest in
    let one = some_bytes some text rest form holds in omega arith
falls_few some (stops at b bs dark none) = omega arith

-- the names of ports are plain
abbrev PlainPorts : List Port → Type 0
PlainPorts [] = Unit {0}
PlainPorts (port ∷ ports) = (is_plain port.name.bytes ≡ true) × PlainPorts ports

ports_plain : (ports : List Port) (more : List Name) → All IsIdentifier (map (λ port. port.name) ports ++ more) → PlainPorts ports
ports_plain [] more h = tt
ports_plain (port ∷ ports) more h =
    let rest : List Name = map (λ port. port.name) ports ++ more in
    (word_plain port.name.bytes (All-head IsIdentifier port.name rest h).word, ports_plain ports more (All-tail IsIdentifier port.name rest h))

-- and so are those of inputs
abbrev pub PlainInputs : List Declared → Type 0
PlainInputs [] = Unit {0}
PlainInputs (d ∷ ds) = (is_input (Some d.kind) ≡ true → is_plain d.name.bytes ≡ true) × PlainInputs ds

items_plain : {V : Type 0} (items : List (Item V)) → PlainInputs (flat_map declared_by items)
items_plain [] = tt
items_plain (Wire name ∷ items) = (λ e. cc, items_plain items)
items_plain (Register name initial ∷ items) = (λ e. cc, items_plain items)
items_plain (Assign target value ∷ items) = items_plain items
items_plain (Always clock register value ∷ items) = items_plain items

signals_plain : (ports : List Port) (more : List Declared) → PlainPorts ports → PlainInputs more → PlainInputs (map declared_port ports ++ more)
signals_plain [] more h g = g
signals_plain (port ∷ ports) more h g = (λ _. h.0, signals_plain ports more h.1 g)

pub inputs_plain : (m : Module Value) → All IsIdentifier (names_of m) → PlainInputs (signals_of m)
inputs_plain m h =
    let ports : List Name = map (λ port. port.name) m.ports ++ flat_map item_names m.items in
    signals_plain m.ports (flat_map declared_by m.items) (ports_plain m.ports (flat_map item_names m.items) (All-tail IsIdentifier m.name ports h)) (items_plain m.items)

-- the input with a number
input_there : (ds : List Declared) (s : ℕ) → slice_index_or (map inputs_test (entries ds)) s false ≡ true → (d : Declared) × (slice_get ds s ≡ Some d) × (is_input (Some d.kind) ≡ true)
input_there [] s h = cc
input_there (d ∷ ds) zero h = (d, refl, h)
input_there (d ∷ ds) (suc s) h = input_there ds s h

plain_at : (ds : List Declared) (s : ℕ) (d : Declared) → PlainInputs ds → slice_get ds s ≡ Some d → is_input (Some d.kind) ≡ true → is_plain d.name.bytes ≡ true
plain_at [] s d h e i = cc
plain_at (x ∷ ds) zero d h e i = let same : x ≡ d = cc in subst (λ v. is_plain v.name.bytes ≡ true) same (h.0 (ap (λ v. is_input (Some v.kind)) same ∙ i))
plain_at (x ∷ ds) (suc s) d h e i = plain_at ds s d h.1 e i

name_at : (ds : List Declared) (s : ℕ) (d : Declared) → slice_get ds s ≡ Some d → slice_index_or (map (λ (signal : design_signal.Signal). signal.name) (map signal_of (entries ds))) s [] ≡ d.name.bytes
name_at [] s d e = cc
name_at (x ∷ ds) zero d e = let same : x ≡ d = cc in ap (λ (v : Declared). v.name.bytes) same
name_at (x ∷ ds) (suc s) d e = name_at ds s d e

pub plain_names : (m : Module (List Mark)) (value : List Mark → Expr) → Kept m → PlainInputs (signals_of m) → HasPlainNames (net m value)
plain_names m value kept plain = record {
  plain = All-map (λ name. IsTrue (is_plain name)) named (input_signals (net m value)) (all_has (λ s. IsTrue (is_plain (named s))) (input_signals (net m value)) (λ s h.
      let (d, there, input) = input_there (signals_of m) s (sym (has_input m value s) ∙ h) in
      ap is_plain (name_at (signals_of m) s d there) ∙ plain_at (signals_of m) s d plain there input));
  differ = λ i j d before last same.
      let size : length (input_names (net m value)) ≡ length (input_signals (net m value)) = length-map (input_signals (net m value)) named in
      let at_i = get_or-map named (input_signals (net m value)) i 0 d (omega arith) in
      let at_j = get_or-map named (input_signals (net m value)) j 0 d (omega arith) in
      let rise : get_or (input_signals (net m value)) i 0 < get_or (input_signals (net m value)) j 0 = AllPairs-from_increasing (input_signals (net m value)) rising i j 0 before (omega arith) in
      let first = numbered i (omega arith) in
      let second = numbered j (omega arith) in
      let equal : get_or (input_signals (net m value)) i 0 ≡ get_or (input_signals (net m value)) j 0 = sym first ∙ ap (number_of (table m)) (sym at_i ∙ same ∙ at_j) ∙ second in
      omega arith;
}
  where
    named : ℕ → List ℕ
    named s = slice_index_or (map (λ (signal : design_signal.Signal). signal.name) (map signal_of (table m))) s []

    rising : IsStrictlyIncreasing (input_signals (net m value))
    rising = subst IsStrictlyIncreasing (sym (inputs_are (texts (clocks m.items)) 0 (table m))) (where_rise inputs_test 0 (table m))

    own_number : (s : ℕ) → has (input_signals (net m value)) s ≡ true → number_of (table m) (slice_index_or (map (λ (signal : design_signal.Signal). signal.name) (map signal_of (table m))) s []) ≡ s
    own_number s h =
        let (d, there, input) = input_there (signals_of m) s (sym (has_input m value s) ∙ h) in
        ap (number_of (table m)) (name_at (signals_of m) s d there) ∙ (own m [] (signals_of m) s d kept.fresh there).numbered

    numbered : (i : ℕ) → i < length (input_signals (net m value)) → number_of (table m) (slice_index_or (map (λ (signal : design_signal.Signal). signal.name) (map signal_of (table m))) (get_or (input_signals (net m value)) i 0) []) ≡ get_or (input_signals (net m value)) i 0
    numbered i lt =
        all_has (λ s. number_of (table m) (slice_index_or (map (λ (signal : design_signal.Signal). signal.name) (map signal_of (table m))) s []) ≡ s) (input_signals (net m value)) own_number i 0 lt
