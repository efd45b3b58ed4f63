-- A module without a fault is made into its design.
use Rattle.std.proofs.Common.{◌≡◌, ℕ, ◌+◌, ◌<◌, ◌≤◌, ◌^◌, Bool, true, false, ◌||◌, List, [], ◌∷◌, ◌++◌, map, length, length-append, All, IsTrue, refl, sym, ap, ◌∙◌, subst, arith, append_assoc, append-nil, lit≤}
use Rattle.std.specs.List.{flat_map}
use Rattle.std.specs.Str.{bytes_eq}
use Rattle.std.proofs.lemmas.List.{length-map, map-append}
use Rattle.std.proofs.lemmas.List.Elements.{All-head, All-tail}
use Rattle.vod_token.specs.declared.Token.{Token}
use Rattle.vod_thin_design.specs.declared.thin.Expr.{Expr}
use Rattle.vod_thin_design.specs.declared.thin.Expr.TheVariants as expr
use Rattle.vod_thin_design.specs.declared.thin.Driver.{Driver}
use Rattle.vod_thin_design.specs.declared.thin.Block.{Block}
use Rattle.vod_thin_design.specs.declared.thin.Input.{Input}
use Rattle.vod_thin_design.specs.declared.thin.Initial.{Initial}
use Rattle.vod_thin_design.specs.declared.thin.Signal as design_signal
use Rattle.vod_thin_design.specs.Expr.{reads}
use Rattle.vod_thin_design.specs.Names.{HasPlainNames}
use Rattle.vod_thin_design.specs.Netlist.{Netlist, IsAccepted}
use Rattle.vod_thin_syntax.specs.declared.words.Word.TheVariants as word
use Rattle.vod_thin_syntax.specs.Names.{names_of, IsIdentifier}
use Rattle.vod_thin_syntax.specs.Refusal.{Reads}
use Rattle.vod_thin_syntax.specs.Syntax as tree
use Rattle.vod_thin_syntax.specs.Syntax.{Name, Mark, Named, Fixed, Value, Plain, Group, Joined, Item, Wire, Register, Assign, Always, Port, Module, value_marks, item_marks, port_marks, ports_marks, sentence, is_grouped, has_grouped, item_printed, printed}
use Rattle.vod_thin_syntax.specs.View.{marks_of, mark_of}
use Rattle.vod_thin.specs.declared.names.Kind.{Kind}
use Rattle.vod_thin.specs.declared.names.Kind.TheVariants as kind
use Rattle.vod_thin.specs.Signals.{Declared, declared_port, declared_by, signals_of, entries, texts, has_text, names_in, clocks}
use Rattle.vod_thin.specs.Rules.{faults}
use Rattle.vod_thin.specs.Netlists.{class_of, number_of, inverted_if, joined, expr_of, signal_of, inputs_of, initials_of, driver_of, block_of, design_by, design_of}
use Rattle.vod_thin.specs.Machine.{read_expr}
use Rattle.vod_thin.specs.View.{with_text, distinct, first_entries}
use Rattle.vod_thin.proofs.Brought.{inputs_from}
use Rattle.vod_thin.proofs.Matches.{text_more}
use Rattle.vod_thin.proofs.Readings.{expr_read}
use Rattle.vod_thin.proofs.Good.{Kept, kept, all_entries}
use Rattle.vod_thin.proofs.Named.{table, net, number, numbers}
use Rattle.vod_thin.proofs.Accepted.{ReadsRight, AllReadRight}
use Rattle.vod_thin.proofs.Whole.{accepted, few_signals}
use Rattle.vod_thin.proofs.Plain.{SomeBytes, PlainInputs, falls_few, inputs_plain, plain_names}

-- the same signals and clocks with the tokens of right sides
declared_printed : (items : List (Item Value)) → flat_map declared_by (map item_printed items) ≡ flat_map declared_by items
declared_printed [] = refl
declared_printed (Wire name ∷ items) = ap (λ ds. record { name = name; kind = kind.Wire } ∷ ds) (declared_printed items)
declared_printed (Register name initial ∷ items) = ap (λ ds. record { name = name; kind = kind.Register initial } ∷ ds) (declared_printed items)
declared_printed (Assign target value ∷ items) = declared_printed items
declared_printed (Always clock register value ∷ items) = declared_printed items

signals_printed : (m : Module Value) → signals_of (printed m) ≡ signals_of m
signals_printed m = ap (λ ds. map declared_port m.ports ++ ds) (declared_printed m.items)

clocks_printed : (items : List (Item Value)) → clocks (map item_printed items) ≡ clocks items
clocks_printed [] = refl
clocks_printed (Wire name ∷ items) = clocks_printed items
clocks_printed (Register name initial ∷ items) = clocks_printed items
clocks_printed (Assign target value ∷ items) = clocks_printed items
clocks_printed (Always clock register value ∷ items) = ap (λ ns. clock ∷ ns) (clocks_printed items)

abbrev Grouped : List (Item Value) → Type 0
Grouped items = All (λ item. IsTrue (has_grouped item)) items

group_first : (item : Item Value) (items : List (Item Value)) → Grouped (item ∷ items) → has_grouped item ≡ true
group_first item items g = All-head (λ i. IsTrue (has_grouped i)) item items g

group_rest : (item : Item Value) (items : List (Item Value)) → Grouped (item ∷ items) → Grouped items
group_rest item items g = All-tail (λ i. IsTrue (has_grouped i)) item items g

-- the same drivers and blocks
drivers_made : (es : List (List ℕ × Kind)) (items : List (Item Value)) → Grouped items → flat_map (driver_of es (read_expr es)) (map item_printed items) ≡ flat_map (driver_of es (expr_of es)) items
drivers_made es [] g = refl
drivers_made es (Wire name ∷ items) g = drivers_made es items (group_rest (Wire name) items g)
drivers_made es (Register name initial ∷ items) g = drivers_made es items (group_rest (Register name initial) items g)
drivers_made es (Always clock register v ∷ items) g = drivers_made es items (group_rest (Always clock register v) items g)
drivers_made es (Assign target v ∷ items) g =
    let driver : Expr → Driver = λ e. record { target = number_of es target.bytes; value = e } in
    ap (λ e. driver e ∷ flat_map (driver_of es (read_expr es)) (map item_printed items)) (expr_read es v (group_first (Assign target v) items g))
    ∙ ap (λ (ds : List Driver). driver (expr_of es v) ∷ ds) (drivers_made es items (group_rest (Assign target v) items g))

blocks_made : (es : List (List ℕ × Kind)) (items : List (Item Value)) → Grouped items → flat_map (block_of es (read_expr es)) (map item_printed items) ≡ flat_map (block_of es (expr_of es)) items
blocks_made es [] g = refl
blocks_made es (Wire name ∷ items) g = blocks_made es items (group_rest (Wire name) items g)
blocks_made es (Register name initial ∷ items) g = blocks_made es items (group_rest (Register name initial) items g)
blocks_made es (Assign target v ∷ items) g = blocks_made es items (group_rest (Assign target v) items g)
blocks_made es (Always clock register v ∷ items) g =
    let block : Expr → Block = λ e. record { clock = number_of es clock.bytes; register = number_of es register.bytes; value = e } in
    ap (λ e. block e ∷ flat_map (block_of es (read_expr es)) (map item_printed items)) (expr_read es v (group_first (Always clock register v) items g))
    ∙ ap (λ (bs : List Block). block (expr_of es v) ∷ bs) (blocks_made es items (group_rest (Always clock register v) items g))

-- what expressions read, by their operands
pub record ReadsBy : Type 0 where
  pub signal : (s : ℕ) → reads (expr.Signal s) ≡ s ∷ []
  pub inverted : (a : Expr) → reads (expr.Not a) ≡ reads a
  pub operands : (op : tree.Operator) (a b : Expr) → reads (joined op a b) ≡ reads a ++ reads b

names_append : (xs ys : List Mark) → names_in (xs ++ ys) ≡ names_in xs ++ names_in ys
names_append [] ys = refl
names_append (Named name ∷ xs) ys = ap (λ ns. name ∷ ns) (names_append xs ys)
names_append (Fixed w ∷ xs) ys = names_append xs ys

reads_inverted : ReadsBy → (b : Bool) (e : Expr) → reads (inverted_if b e) ≡ reads e
reads_inverted laws true e = laws.inverted e
reads_inverted laws false e = refl

-- the expression of a value reads the signals of its names
reads_value : ReadsBy → (m : Module (List Mark)) (v : Value) → reads (expr_of (table m) v) ≡ numbers m (names_in (value_marks v))
reads_value laws m (Plain b name) = reads_inverted laws b (expr.Signal (number m name)) ∙ laws.signal (number m name) ∙ sym (ap (numbers m) (alone b))
  where
    alone : (b : Bool) → names_in (value_marks (Plain b name)) ≡ name ∷ []
    alone true = refl
    alone false = refl
reads_value laws m (Group b v) = reads_inverted laws b (expr_of (table m) v) ∙ reads_value laws m v ∙ sym (ap (numbers m) (inner b))
  where
    inner : (b : Bool) → names_in (value_marks (Group b v)) ≡ names_in (value_marks v)
    inner true = names_append (value_marks v) (Fixed word.Close ∷ []) ∙ append-nil (names_in (value_marks v))
    inner false = names_append (value_marks v) (Fixed word.Close ∷ []) ∙ append-nil (names_in (value_marks v))
reads_value laws m (Joined op left right) =
    let a = names_in (value_marks left) in
    let b = names_in (value_marks right) in
    laws.operands op (expr_of (table m) left) (expr_of (table m) right)
    ∙ ap (λ ns. ns ++ reads (expr_of (table m) right)) (reads_value laws m left) ∙ ap (λ ns. numbers m a ++ ns) (reads_value laws m right)
    ∙ sym (ap (numbers m) (names_append (value_marks left) (Fixed (tree.operator_word op) ∷ value_marks right)) ∙ map-append (number m) a b)

read_right : ReadsBy → (m : Module (List Mark)) (items : List (Item Value)) → Grouped items → AllReadRight m (read_expr (table m)) (map item_printed items)
read_right laws m [] g = tt
read_right laws m (Wire name ∷ items) g = (tt, read_right laws m items (group_rest (Wire name) items g))
read_right laws m (Register name initial ∷ items) g = (tt, read_right laws m items (group_rest (Register name initial) items g))
read_right laws m (Assign target v ∷ items) g =
    (ap reads (expr_read (table m) v (group_first (Assign target v) items g)) ∙ reads_value laws m v, read_right laws m items (group_rest (Assign target v) items g))
read_right laws m (Always clock register v ∷ items) g =
    (ap reads (expr_read (table m) v (group_first (Always clock register v) items g)) ∙ reads_value laws m v, read_right laws m items (group_rest (Always clock register v) items g))

-- the names of a list, each once
has_distinct : (held ns : List (List ℕ)) (text : List ℕ) → has_text (distinct held ns) text ≡ (has_text held text || has_text ns text)
has_distinct held [] text = sym (or_false (has_text held text))
  where
    or_false : (b : Bool) → (b || false) ≡ b
    or_false true = refl
    or_false false = refl
has_distinct held (n ∷ ns) text =
    has_distinct (with_text held n) ns text ∙ ap (λ b. b || has_text ns text) (text_more held n text) ∙ or_assoc (has_text held text) (bytes_eq text n) (has_text ns text)
  where
    or_assoc : (a b c : Bool) → ((a || b) || c) ≡ (a || (b || c))
    or_assoc true b c = refl
    or_assoc false b c = refl

inputs_same : (ws vs : List (List ℕ)) (k : ℕ) (es : List (List ℕ × Kind)) → ((text : List ℕ) → has_text ws text ≡ has_text vs text) → inputs_from ws k es ≡ inputs_from vs k es
inputs_same ws vs k [] h = refl
inputs_same ws vs k ((name, kind.Input) ∷ es) h =
    let input : Bool → Input = λ b. record { signal = k; class = class_of b } in
    ap (λ b. input b ∷ inputs_from ws (k + 1) es) (h name) ∙ ap (λ (is : List Input). input (has_text vs name) ∷ is) (inputs_same ws vs (k + 1) es h)
inputs_same ws vs k ((name, kind.Output) ∷ es) h = inputs_same ws vs (k + 1) es h
inputs_same ws vs k ((name, kind.Wire) ∷ es) h = inputs_same ws vs (k + 1) es h
inputs_same ws vs k ((name, kind.Register initial) ∷ es) h = inputs_same ws vs (k + 1) es h

-- a module has no more ports and items than tokens
brings_some : {X Y : Type 0} (f : X → List Y) → ((x : X) → 1 ≤ length (f x)) → (xs : List X) → length xs ≤ length (flat_map f xs)
brings_some f one [] = omega arith
brings_some f one (x ∷ xs) =
    let sum = length-append (f x) (flat_map f xs) in
    let first = one x in
    let rest = brings_some f one xs in omega arith

some_item : (item : Item Value) → 1 ≤ length (item_marks value_marks item)
some_item (Wire name) = omega arith
some_item (Register name initial) = omega arith
some_item (Assign target value) = omega arith
some_item (Always clock register value) = omega arith

ports_long : (ports : List Port) → length ports ≤ length (ports_marks ports)
ports_long [] = omega arith
ports_long (port ∷ ports) = let rest = brings_some (λ (next : Port). Fixed word.Comma ∷ port_marks next) (λ next. omega arith) ports in omega arith

module_long : (m : Module Value) → length m.ports + length m.items ≤ length (sentence value_marks m)
module_long m =
    let items : List Mark = flat_map (item_marks value_marks) m.items in
    let behind : List Mark = Fixed word.Close ∷ Fixed word.Semicolon ∷ (items ++ Fixed word.Endmodule ∷ []) in
    let ports = ports_long m.ports in
    let more = brings_some (item_marks value_marks) some_item m.items in
    let first = length-append (ports_marks m.ports) behind in
    let second = length-append items (Fixed word.Endmodule ∷ []) in
    omega arith

-- what was made of a module
pub record Made (d : Netlist) (es : List (List ℕ × Kind)) (m : Module Value) : Type 0 where
  pub is : d ≡ design_of m
  pub accepted : IsAccepted d
  pub plain : HasPlainNames d
  pub few : length es ≤ 2 ^ 25

same_net : (n : List ℕ) (ss : List design_signal.Signal) (i j : List Input) (ds es : List Driver) (bs cs : List Block) (vs : List Initial) → i ≡ j → ds ≡ es → bs ≡ cs
    → (let x : Netlist = record { name = n; signals = ss; inputs = i; drivers = ds; blocks = bs; initials = vs } in let y : Netlist = record { name = n; signals = ss; inputs = j; drivers = es; blocks = cs; initials = vs } in x ≡ y)
same_net n ss i j ds es bs cs vs p q r = cc

pub made : ReadsBy → SomeBytes → (source : List ℕ) (ts : List Token) (m : Module Value) (es : List (List ℕ × Kind)) (ws : List (List ℕ)) → length source ≤ 2 ^ 20 → Reads source ts m → All IsIdentifier (names_of m) → faults (printed m) ≡ []
    → es ≡ first_entries [] (signals_of (printed m)) → ws ≡ distinct [] (texts (clocks (printed m).items)) → Made (design_by es ws (read_expr es) (printed m)) es m
made laws some source ts m es ws short read names none signals waited =
    let p : Module (List Mark) = printed m in
    let k : Kept p = kept p none in
    let grouped : Grouped m.items = read.sentence.«module».grouped in
    let all : es ≡ table p = signals ∙ all_entries p (signals_of p) k.fresh in
    let inputs : inputs_of ws (table p) ≡ inputs_of (texts (clocks p.items)) (table p) =
    inputs_same ws (texts (clocks p.items)) 0 (table p) (λ text. ap (λ (ns : List (List ℕ)). has_text ns text) waited ∙ has_distinct [] (texts (clocks p.items)) text) in
    let to_net : design_by es ws (read_expr es) p ≡ net p (read_expr (table p)) =
    ap (λ (v : List (List ℕ × Kind)). design_by v ws (read_expr v) p) all
    ∙ same_net p.name.bytes (map signal_of (table p)) (inputs_of ws (table p)) (inputs_of (texts (clocks p.items)) (table p)) (flat_map (driver_of (table p) (read_expr (table p))) p.items) (flat_map (driver_of (table p) (read_expr (table p))) p.items)
    (flat_map (block_of (table p) (read_expr (table p))) p.items) (flat_map (block_of (table p) (read_expr (table p))) p.items) (initials_of (table p)) inputs refl refl in
    let to_design : net p (read_expr (table p)) ≡ design_by (table p) (texts (clocks m.items)) (expr_of (table p)) m =
    same_net p.name.bytes (map signal_of (table p)) (inputs_of (texts (clocks p.items)) (table p)) (inputs_of (texts (clocks m.items)) (table p)) (flat_map (driver_of (table p) (read_expr (table p))) p.items) (flat_map (driver_of (table p) (expr_of (table p))) m.items)
    (flat_map (block_of (table p) (read_expr (table p))) p.items) (flat_map (block_of (table p) (expr_of (table p))) m.items) (initials_of (table p)) (ap (λ ns. inputs_of (texts ns) (table p)) (clocks_printed m.items)) (drivers_made (table p) m.items grouped) (blocks_made (table p) m.items grouped) in
    let marks : length (marks_of source ts) ≡ length ts = length-map ts (mark_of source) in
    let long : length (marks_of source ts) ≡ length (sentence value_marks m) = ap length read.sentence.is in
    let tokens = falls_few some read.falls in
    let least = module_long m in
    let items : length p.items ≡ length m.items = length-map m.items item_printed in
    let few : length p.ports + length p.items ≤ 2 ^ 20 = by_counts (length p.ports) (length p.items) (length m.items) (length (sentence value_marks m)) (length (marks_of source ts)) (length ts) (length source) items least long marks tokens short in
    record {
      is = to_net ∙ to_design ∙ ap (λ ds. design_by (entries ds) (texts (clocks m.items)) (expr_of (entries ds)) m) (signals_printed m);
      accepted = subst IsAccepted (sym to_net) (accepted p (read_expr (table p)) k (read_right laws p m.items grouped) few);
      plain = subst HasPlainNames (sym to_net) (plain_names p (read_expr (table p)) k
          (subst PlainInputs (sym (signals_printed m)) (inputs_plain m names)));
      few = subst (λ (v : List (List ℕ × Kind)). length v ≤ 2 ^ 25) (sym all) (at_most (length (table p)) (length (signals_of p)) (length p.ports + length p.items) (length-map (signals_of p) (λ (signal : Declared). (signal.name.bytes, signal.kind))) (few_signals p) few (lit≤ tt));
    }
  where
    by_counts : (a b c d e f g : ℕ) → b ≡ c → a + c ≤ d → e ≡ d → e ≡ f → f ≤ g → g ≤ 2 ^ 20 → a + b ≤ 2 ^ 20
    by_counts a b c d e f g p q r s t u = omega arith

    at_most : (a b c : ℕ) → a ≡ b → b ≤ c → c ≤ 2 ^ 20 → 2 ^ 20 ≤ 2 ^ 25 → a ≤ 2 ^ 25
    at_most a b c p q r s = omega arith
