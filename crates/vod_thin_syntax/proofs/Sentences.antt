-- A module that is read is a sentence, and each sentence is read.
use Rattle.std.proofs.Common.{◌≡◌, ℕ, zero, suc, ◌<◌, ◌≤◌, List, [], ◌∷◌, ◌++◌, map, refl, sym, ◌∙◌, ap, append_assoc, append-nil, arith, Bool, true, false, cond, length, All}
use Rattle.std.proofs.lemmas.List.Elements.{All-nil, All-cons, All-tail}
use Rattle.std.specs.List.{flat_map}
use Rattle.vod_thin_syntax.proofs.Steady.{Shrinks, got_value, got_rest}
use Rattle.vod_thin_syntax.proofs.Rounds.{Apart, same_word-refl, many_stop, many_refused, many_more}
use Rattle.vod_thin_syntax.proofs.SameWords.{next_is}
use Rattle.vod_thin_syntax.proofs.SteadyParts.{next_port_shrinks, next_port_apart, item_shrinks, item_apart}
use Rattle.vod_thin_syntax.proofs.Trees.{ValueRead, value_sound, value_injective}
use Rattle.vod_thin_syntax.proofs.Values.{value_full}
use Rattle.vod_thin_syntax.specs.Reader.{Read, Got, Refused, Reader, followed, bind, give, is_next, rest_of, choice, word_read, name_read, many, direction_read, port_read, next_port_read, more_ports, ports_read, digit_read, value_read, wire_read, register_read, assign_read, clock_read, always_read, item_read, items_read, module_read}
use Rattle.vod_thin_syntax.specs.Syntax.{Name, Mark, Named, Fixed, Value, Item, Wire, Register, Assign, Always, Port, Module, value_marks, digit_word, item_marks, direction_word, port_marks, ports_marks, sentence, has_grouped, IsModule, item_printed, printed}
use Rattle.vod_thin_syntax.specs.declared.words.Word.{Word}
use Rattle.vod_thin_syntax.specs.declared.words.Word.TheVariants as word
use Rattle.vod_thin_syntax.specs.declared.syntax.Direction.{Direction}
use Rattle.vod_thin_syntax.specs.declared.syntax.Direction.TheVariants as direction

-- parts whose tokens are read one by one are read in turn
record Prints {A X : Type 0} (read : Reader A) (print : X → List Mark) (view : X → A) (good : X → Type 0) : Type 0 where
  full : (x : X) → good x → (other : List Mark) → read (print x ++ other) ≡ Got (view x) other
  sound : (ts : List Mark) (a : A) (rest : List Mark) → read ts ≡ Got a rest → (x : X) × good x × (view x ≡ a) × (ts ≡ print x ++ rest)

not_next : {A : Type 0} (stop : Word) (read : Reader A) → Apart stop read → (ts : List Mark) (x : A) (rest : List Mark) → read ts ≡ Got x rest → is_next stop ts ≡ false
not_next stop read apart ts x rest e = by_test (is_next stop ts) refl
  where
    by_test : (b : Bool) → is_next stop ts ≡ b → is_next stop ts ≡ false
    by_test true f = absurd (apart ts x rest f e)
    by_test false f = f

many_full : {A X : Type 0} (stop : Word) (read : Reader A) (print : X → List Mark) (view : X → A) (good : X → Type 0) → Shrinks read → Apart stop read → Prints read print view good
    → (xs : List X) → All good xs → (sofar : List A) (rest : List Mark) → many stop read sofar (flat_map print xs ++ Fixed stop ∷ rest) ≡ Got (sofar ++ map view xs) rest
many_full stop read print view good shrinks apart prints [] all sofar rest =
    many_stop stop read sofar (Fixed stop ∷ rest) (same_word-refl stop) ∙ ap (λ v. Got v rest) (sym (append-nil sofar))
many_full stop read print view good shrinks apart prints (x ∷ xs) all sofar rest =
    let behind : List Mark = flat_map print xs ++ Fixed stop ∷ rest in
    let one = prints.full x (all 0 x (omega arith)) behind in
    ap (many stop read sofar) (append_assoc (print x) (flat_map print xs) (Fixed stop ∷ rest))
    ∙ many_more stop read shrinks sofar (print x ++ behind) (view x) behind (not_next stop read apart (print x ++ behind) (view x) behind one) one
    ∙ many_full stop read print view good shrinks apart prints xs (All-tail good x xs all) (sofar ++ view x ∷ []) rest
    ∙ ap (λ v. Got v rest) (append_assoc sofar (view x ∷ []) (map view xs))

-- parts that were read in turn
record Parted {A X : Type 0} (print : X → List Mark) (view : X → A) (good : X → Type 0) (stop : Word) (sofar : List A) (ts : List Mark) (all : List A) (rest : List Mark) : Type 0 where
  parts : List X
  good_all : All good parts
  all_are : all ≡ sofar ++ map view parts
  split : ts ≡ flat_map print parts ++ Fixed stop ∷ rest

parted_stop : {A X : Type 0} (print : X → List Mark) (view : X → A) (good : X → Type 0) (stop : Word) (sofar : List A) (ts : List Mark) (all : List A) (rest : List Mark)
    → is_next stop ts ≡ true → Got sofar (rest_of ts) ≡ Got all rest → Parted print view good stop sofar ts all rest
parted_stop print view good stop sofar ts all rest e h =
    let begun = next_is stop ts e in
    let left : begun.0 ≡ rest = ap rest_of (sym begun.1) ∙ got_rest h in
    record { parts = []; good_all = All-nil good; all_are = sym (got_value h) ∙ sym (append-nil sofar); split = begun.1 ∙ ap (λ v. Fixed stop ∷ v) left }

parted_more : {A X : Type 0} (print : X → List Mark) (view : X → A) (good : X → Type 0) (stop : Word) (sofar : List A) (ts : List Mark) (all : List A) (rest : List Mark)
    → (x : X) (a : A) (mid : List Mark) → good x → view x ≡ a → ts ≡ print x ++ mid → Parted print view good stop (sofar ++ a ∷ []) mid all rest → Parted print view good stop sofar ts all rest
parted_more print view good stop sofar ts all rest x a mid is same split p = record {
  parts = x ∷ p.parts;
  good_all = All-cons good x p.parts is p.good_all;
  all_are = p.all_are ∙ append_assoc sofar (a ∷ []) (map view p.parts) ∙ ap (λ v. sofar ++ v ∷ map view p.parts) (sym same);
  split = split ∙ ap (λ v. print x ++ v) p.split ∙ sym (append_assoc (print x) (flat_map print p.parts) (Fixed stop ∷ rest));
}

parted_by : {A X : Type 0} (stop : Word) (read : Reader A) (print : X → List Mark) (view : X → A) (good : X → Type 0) → Shrinks read → Prints read print view good
    → (sofar : List A) (ts : List Mark) (all : List A) (rest : List Mark)
    → ((a : A) (mid : List Mark) → length mid < length ts → many stop read (sofar ++ a ∷ []) mid ≡ Got all rest → Parted print view good stop (sofar ++ a ∷ []) mid all rest)
    → many stop read sofar ts ≡ Got all rest → Parted print view good stop sofar ts all rest
parted_by {A} {X} stop read print view good shrinks prints sofar ts all rest more h = by_next (is_next stop ts) refl
  where
    by_read : (r : Read A) → read ts ≡ r → is_next stop ts ≡ false → Parted print view good stop sofar ts all rest
    by_read (Refused us) e f = let none = many_refused stop read sofar ts us f e in cc
    by_read (Got a mid) e f =
        let one = prints.sound ts a mid e in
        parted_more print view good stop sofar ts all rest one.0 a mid one.1 one.2 one.3
        (more a mid (shrinks ts a mid e) (sym (many_more stop read shrinks sofar ts a mid f e) ∙ h))

    by_next : (b : Bool) → is_next stop ts ≡ b → Parted print view good stop sofar ts all rest
    by_next true e = parted_stop print view good stop sofar ts all rest e (sym (many_stop stop read sofar ts e) ∙ h)
    by_next false e = by_read (read ts) refl e

many_sound : {A X : Type 0} (stop : Word) (read : Reader A) (print : X → List Mark) (view : X → A) (good : X → Type 0) → Shrinks read → Prints read print view good
    → (most : ℕ) (sofar : List A) (ts : List Mark) → length ts ≤ most → (all : List A) (rest : List Mark) → many stop read sofar ts ≡ Got all rest → Parted print view good stop sofar ts all rest
many_sound stop read print view good shrinks prints zero sofar ts few all rest h =
    parted_by stop read print view good shrinks prints sofar ts all rest (λ a mid less g. absurd (omega arith)) h
many_sound stop read print view good shrinks prints (suc most) sofar ts few all rest h =
    parted_by stop read print view good shrinks prints sofar ts all rest (λ a mid less g. many_sound stop read print view good shrinks prints most (sofar ++ a ∷ []) mid (omega arith) all rest g) h

-- what was read by one reader behind another
bind_got : {A B : Type 0} (read : Reader A) (next : A → Reader B) (ts : List Mark) (y : B) (rest : List Mark) → bind read next ts ≡ Got y rest
    → (x : A) × (mid : List Mark) × (read ts ≡ Got x mid) × (next x mid ≡ Got y rest)
bind_got {A} {B} read next ts y rest h = by_read (read ts) refl h
  where
    by_read : (r : Read A) → read ts ≡ r → followed r next ≡ Got y rest → (x : A) × (mid : List Mark) × (read ts ≡ Got x mid) × (next x mid ≡ Got y rest)
    by_read (Refused us) e f = cc
    by_read (Got x mid) e f = (x, mid, e, f)

-- what a word begins
choice_got : {A : Type 0} (w : Word) (read : Reader A) (entries : List (Word × Reader A)) (ts : List Mark) (x : A) (rest : List Mark) (P : Type 0)
    → ((us : List Mark) → ts ≡ Fixed w ∷ us → read us ≡ Got x rest → P) → (choice entries ts ≡ Got x rest → P) → choice ((w, read) ∷ entries) ts ≡ Got x rest → P
choice_got w read entries ts x rest P here others h = by_test (is_next w ts) refl h
  where
    by_test : (b : Bool) → is_next w ts ≡ b → cond b (read (rest_of ts)) (choice entries ts) ≡ Got x rest → P
    by_test true e f =
        let begun = next_is w ts e in
        here begun.0 begun.1 (ap read (sym (ap rest_of begun.1)) ∙ f)
    by_test false e f = others f

word_sound : (w : Word) (ts : List Mark) (x : Unit {0}) (rest : List Mark) → word_read w ts ≡ Got x rest → ts ≡ Fixed w ∷ rest
word_sound w ts x rest h = choice_got w (give tt) [] ts x rest (ts ≡ Fixed w ∷ rest) (λ us e f. e ∙ ap (λ v. Fixed w ∷ v) (got_rest f)) (λ f. cc) h

name_sound : (ts : List Mark) (name : Name) (rest : List Mark) → name_read ts ≡ Got name rest → ts ≡ Named name ∷ rest
name_sound [] name rest h = cc
name_sound (Fixed w ∷ ts) name rest h = cc
name_sound (Named other ∷ ts) name rest h = let a = got_value h in let b = got_rest h in cc

direction_sound : (ts : List Mark) (d : Direction) (rest : List Mark) → direction_read ts ≡ Got d rest → ts ≡ Fixed (direction_word d) ∷ rest
direction_sound ts d rest h =
    choice_got word.Input (give direction.Input) ((word.Output, give direction.Output) ∷ []) ts d rest (ts ≡ Fixed (direction_word d) ∷ rest)
    (λ us e f. e ∙ ap (λ v. Fixed word.Input ∷ v) (got_rest f) ∙ ap (λ v. Fixed (direction_word v) ∷ rest) (got_value f))
    (λ g. choice_got word.Output (give direction.Output) [] ts d rest (ts ≡ Fixed (direction_word d) ∷ rest)
    (λ us e f. e ∙ ap (λ v. Fixed word.Output ∷ v) (got_rest f) ∙ ap (λ v. Fixed (direction_word v) ∷ rest) (got_value f)) (λ f. cc) g)
    h

digit_sound : (ts : List Mark) (b : Bool) (rest : List Mark) → digit_read ts ≡ Got b rest → ts ≡ Fixed (digit_word b) ∷ rest
digit_sound ts b rest h =
    choice_got word.Zero (give false) ((word.One, give true) ∷ []) ts b rest (ts ≡ Fixed (digit_word b) ∷ rest)
    (λ us e f. e ∙ ap (λ v. Fixed word.Zero ∷ v) (got_rest f) ∙ ap (λ v. Fixed (digit_word v) ∷ rest) (got_value f))
    (λ g. choice_got word.One (give true) [] ts b rest (ts ≡ Fixed (digit_word b) ∷ rest)
    (λ us e f. e ∙ ap (λ v. Fixed word.One ∷ v) (got_rest f) ∙ ap (λ v. Fixed (digit_word v) ∷ rest) (got_value f)) (λ f. cc) g)
    h

port_sound : (ts : List Mark) (port : Port) (rest : List Mark) → port_read ts ≡ Got port rest → ts ≡ port_marks port ++ rest
port_sound ts port rest h =
    let a = bind_got direction_read _ ts port rest h in
    let b = bind_got name_read _ a.1 port rest a.3 in
    let made : Port = record { direction = a.0; name = b.0 } in
    let same : made ≡ port = got_value b.3 in
    direction_sound ts a.0 a.1 a.2
    ∙ ap (λ v. Fixed (direction_word a.0) ∷ v) (name_sound a.1 b.0 b.1 b.2)
    ∙ ap (λ v. Fixed (direction_word a.0) ∷ Named b.0 ∷ v) (got_rest b.3)
    ∙ ap (λ p. port_marks p ++ rest) same

port_full : (port : Port) (rest : List Mark) → port_read (port_marks port ++ rest) ≡ Got port rest
port_full port rest = by_direction port.direction port.name
  where
    by_direction : (d : Direction) (name : Name) → port_read (Fixed (direction_word d) ∷ Named name ∷ rest) ≡ Got (record { direction = d; name = name }) rest
    by_direction direction.Input name = refl
    by_direction direction.Output name = refl

abbrev next_port_marks : Port → List Mark
next_port_marks next = Fixed word.Comma ∷ port_marks next

next_port_prints : Prints next_port_read next_port_marks (λ port. port) (λ port. Unit {0})
next_port_prints = record {
  full = λ port good other. port_full port other;
  sound = λ ts port rest h.
      let a = bind_got (word_read word.Comma) _ ts port rest h in
      (port, tt, refl, word_sound word.Comma ts a.0 a.1 a.2 ∙ ap (λ v. Fixed word.Comma ∷ v) (port_sound a.1 port rest a.3));
}

map_same : {A : Type 0} (xs : List A) → map (λ x. x) xs ≡ xs
map_same [] = refl
map_same (x ∷ xs) = ap (λ v. x ∷ v) (map_same xs)

ports_full : (port : Port) (ports : List Port) (rest : List Mark) → ports_read (ports_marks (port ∷ ports) ++ Fixed word.Close ∷ rest) ≡ Got (port ∷ ports) rest
ports_full port ports rest =
    let behind : List Mark = flat_map next_port_marks ports ++ Fixed word.Close ∷ rest in
    ap ports_read (append_assoc (port_marks port) (flat_map next_port_marks ports) (Fixed word.Close ∷ rest))
    ∙ ap (λ r. followed r (λ p. more_ports (p ∷ []))) (port_full port behind)
    ∙ many_full word.Close next_port_read next_port_marks (λ p. p) (λ p. Unit {0}) next_port_shrinks next_port_apart next_port_prints ports (λ k d lt. tt) (port ∷ []) rest
    ∙ ap (λ v. Got (port ∷ v) rest) (map_same ports)

-- ports that were read
record PortsRead (ts : List Mark) (ports : List Port) (rest : List Mark) : Type 0 where
  first : Port
  more : List Port
  are : ports ≡ first ∷ more
  split : ts ≡ ports_marks (first ∷ more) ++ Fixed word.Close ∷ rest

ports_sound : (ts : List Mark) (ports : List Port) (rest : List Mark) → ports_read ts ≡ Got ports rest → PortsRead ts ports rest
ports_sound ts ports rest h =
    let a = bind_got port_read _ ts ports rest h in
    let p = many_sound word.Close next_port_read next_port_marks (λ p. p) (λ p. Unit {0}) next_port_shrinks next_port_prints (length a.1) (a.0 ∷ []) a.1 (omega arith) ports rest a.3 in
    record {
      first = a.0;
      more = p.parts;
      are = p.all_are ∙ ap (λ v. a.0 ∷ v) (map_same p.parts);
      split = port_sound ts a.0 a.1 a.2 ∙ ap (λ v. port_marks a.0 ++ v) p.split ∙ sym (append_assoc (port_marks a.0) (flat_map next_port_marks p.parts) (Fixed word.Close ∷ rest));
    }

-- an item
abbrev GoodItem : Item Value → Type 0
GoodItem item = has_grouped item ≡ true

item_full : (item : Item Value) (rest : List Mark) → item_read (item_marks value_marks item ++ rest) ≡ Got (item_printed item) rest
unfolding item_read
item_full (Wire name) rest = refl
item_full (Register name false) rest = refl
item_full (Register name true) rest = refl
item_full (Assign target value) rest = ap (λ r. followed r (λ v. give (Assign target v))) (value_full value rest)
item_full (Always clock register value) rest = ap (λ r. followed r (λ v. give (Always clock register v))) (value_full value rest)

abbrev ItemRead : List Mark → Item (List Mark) → List Mark → Type 0
ItemRead ts item rest = (tree : Item Value) × GoodItem tree × (item_printed tree ≡ item) × (ts ≡ item_marks value_marks tree ++ rest)

wire_sound : (ts us : List Mark) (item : Item (List Mark)) (rest : List Mark) → ts ≡ Fixed word.Wire ∷ us → wire_read us ≡ Got item rest → ItemRead ts item rest
wire_sound ts us item rest e h =
    let a = bind_got name_read _ us item rest h in
    let b = bind_got (word_read word.Semicolon) _ a.1 item rest a.3 in (
      Wire a.0,
      refl,
      got_value b.3,
      e ∙ ap (λ v. Fixed word.Wire ∷ v) (name_sound us a.0 a.1 a.2) ∙ ap (λ v. Fixed word.Wire ∷ Named a.0 ∷ v) (word_sound word.Semicolon a.1 b.0 b.1 b.2)
          ∙ ap (λ v. Fixed word.Wire ∷ Named a.0 ∷ Fixed word.Semicolon ∷ v) (got_rest b.3),
    )

register_sound : (ts us : List Mark) (item : Item (List Mark)) (rest : List Mark) → ts ≡ Fixed word.Reg ∷ us → register_read us ≡ Got item rest → ItemRead ts item rest
register_sound ts us item rest e h =
    let a = bind_got name_read _ us item rest h in
    let b = bind_got (word_read word.Equals) _ a.1 item rest a.3 in
    let d = bind_got digit_read _ b.1 item rest b.3 in
    let f = bind_got (word_read word.Semicolon) _ d.1 item rest d.3 in (
      Register a.0 d.0,
      refl,
      got_value f.3,
      e ∙ ap (λ v. Fixed word.Reg ∷ v) (name_sound us a.0 a.1 a.2) ∙ ap (λ v. Fixed word.Reg ∷ Named a.0 ∷ v) (word_sound word.Equals a.1 b.0 b.1 b.2)
          ∙ ap (λ v. Fixed word.Reg ∷ Named a.0 ∷ Fixed word.Equals ∷ v) (digit_sound b.1 d.0 d.1 d.2)
          ∙ ap (λ v. Fixed word.Reg ∷ Named a.0 ∷ Fixed word.Equals ∷ Fixed (digit_word d.0) ∷ v) (word_sound word.Semicolon d.1 f.0 f.1 f.2)
          ∙ ap (λ v. Fixed word.Reg ∷ Named a.0 ∷ Fixed word.Equals ∷ Fixed (digit_word d.0) ∷ Fixed word.Semicolon ∷ v) (got_rest f.3),
    )

-- the tokens of a value and its `;`
value_split : (ts value rest : List Mark) (r : ValueRead [] ts value rest) → ts ≡ (value_marks r.tree ++ Fixed word.Semicolon ∷ []) ++ rest
value_split ts value rest r = r.split ∙ ap (λ v. v ++ Fixed word.Semicolon ∷ rest) (sym r.printed) ∙ sym (append_assoc (value_marks r.tree) (Fixed word.Semicolon ∷ []) rest)

assign_sound : (ts us : List Mark) (item : Item (List Mark)) (rest : List Mark) → ts ≡ Fixed word.Assign ∷ us → assign_read us ≡ Got item rest → ItemRead ts item rest
assign_sound ts us item rest e h =
    let a = bind_got name_read _ us item rest h in
    let b = bind_got (word_read word.Equals) _ a.1 item rest a.3 in
    let d = bind_got value_read _ b.1 item rest b.3 in
    let left : d.1 ≡ rest = got_rest d.3 in
    let r = value_sound b.1 d.0 rest (d.2 ∙ ap (Got d.0) left) in (
      Assign a.0 r.tree,
      r.grouped,
      ap (Assign a.0) r.printed ∙ got_value d.3,
      e ∙ ap (λ v. Fixed word.Assign ∷ v) (name_sound us a.0 a.1 a.2) ∙ ap (λ v. Fixed word.Assign ∷ Named a.0 ∷ v) (word_sound word.Equals a.1 b.0 b.1 b.2)
          ∙ ap (λ v. Fixed word.Assign ∷ Named a.0 ∷ Fixed word.Equals ∷ v) (value_split b.1 d.0 rest r),
    )

abbrev clock_marks : Name → List Mark
clock_marks clock = Fixed word.Event ∷ Fixed word.Open ∷ Fixed word.Posedge ∷ Named clock ∷ Fixed word.Close ∷ []

clock_sound : (ts : List Mark) (clock : Name) (rest : List Mark) → clock_read ts ≡ Got clock rest → ts ≡ clock_marks clock ++ rest
clock_sound ts clock rest h =
    let a = bind_got (word_read word.Event) _ ts clock rest h in
    let b = bind_got (word_read word.Open) _ a.1 clock rest a.3 in
    let d = bind_got (word_read word.Posedge) _ b.1 clock rest b.3 in
    let f = bind_got name_read _ d.1 clock rest d.3 in
    let g = bind_got (word_read word.Close) _ f.1 clock rest f.3 in
    word_sound word.Event ts a.0 a.1 a.2
    ∙ ap (λ v. Fixed word.Event ∷ v) (word_sound word.Open a.1 b.0 b.1 b.2)
    ∙ ap (λ v. Fixed word.Event ∷ Fixed word.Open ∷ v) (word_sound word.Posedge b.1 d.0 d.1 d.2)
    ∙ ap (λ v. Fixed word.Event ∷ Fixed word.Open ∷ Fixed word.Posedge ∷ v) (name_sound d.1 f.0 f.1 f.2)
    ∙ ap (λ v. Fixed word.Event ∷ Fixed word.Open ∷ Fixed word.Posedge ∷ Named f.0 ∷ v) (word_sound word.Close f.1 g.0 g.1 g.2)
    ∙ ap (λ v. clock_marks f.0 ++ v) (got_rest g.3)
    ∙ ap (λ v. clock_marks v ++ rest) (got_value g.3)

always_sound : (ts us : List Mark) (item : Item (List Mark)) (rest : List Mark) → ts ≡ Fixed word.Always ∷ us → always_read us ≡ Got item rest → ItemRead ts item rest
always_sound ts us item rest e h =
    let a = bind_got clock_read _ us item rest h in
    let b = bind_got name_read _ a.1 item rest a.3 in
    let d = bind_got (word_read word.Nonblocking) _ b.1 item rest b.3 in
    let f = bind_got value_read _ d.1 item rest d.3 in
    let left : f.1 ≡ rest = got_rest f.3 in
    let r = value_sound d.1 f.0 rest (f.2 ∙ ap (Got f.0) left) in (
      Always a.0 b.0 r.tree,
      r.grouped,
      ap (Always a.0 b.0) r.printed ∙ got_value f.3,
      e ∙ ap (λ v. Fixed word.Always ∷ v) (clock_sound us a.0 a.1 a.2)
          ∙ ap (λ v. Fixed word.Always ∷ (clock_marks a.0 ++ v)) (name_sound a.1 b.0 b.1 b.2)
          ∙ ap (λ v. Fixed word.Always ∷ (clock_marks a.0 ++ Named b.0 ∷ v)) (word_sound word.Nonblocking b.1 d.0 d.1 d.2)
          ∙ ap (λ v. Fixed word.Always ∷ (clock_marks a.0 ++ Named b.0 ∷ Fixed word.Nonblocking ∷ v)) (value_split d.1 f.0 rest r),
    )

item_sound : (ts : List Mark) (item : Item (List Mark)) (rest : List Mark) → item_read ts ≡ Got item rest → ItemRead ts item rest
unfolding item_read
item_sound ts item rest h =
    choice_got word.Wire wire_read ((word.Reg, register_read) ∷ (word.Assign, assign_read) ∷ (word.Always, always_read) ∷ []) ts item rest (ItemRead ts item rest) (λ us e f. wire_sound ts us item rest e f)
    (λ g. choice_got word.Reg register_read ((word.Assign, assign_read) ∷ (word.Always, always_read) ∷ []) ts item rest (ItemRead ts item rest) (λ us e f. register_sound ts us item rest e f)
    (λ k. choice_got word.Assign assign_read ((word.Always, always_read) ∷ []) ts item rest (ItemRead ts item rest) (λ us e f. assign_sound ts us item rest e f)
    (λ l. choice_got word.Always always_read [] ts item rest (ItemRead ts item rest) (λ us e f. always_sound ts us item rest e f) (λ f. cc) l) k) g)
    h

item_prints : Prints item_read (item_marks value_marks) item_printed GoodItem
item_prints = record { full = λ item good other. item_full item other; sound = item_sound }

items_full : (items : List (Item Value)) → All GoodItem items → (rest : List Mark) → items_read [] (flat_map (item_marks value_marks) items ++ Fixed word.Endmodule ∷ rest) ≡ Got (map item_printed items) rest
items_full items good rest = many_full word.Endmodule item_read (item_marks value_marks) item_printed GoodItem item_shrinks item_apart item_prints items good [] rest

-- the tokens of a module, and others behind them
regroup : (name : Name) (ports body rest : List Mark)
    → Fixed word.Module ∷ Named name ∷ Fixed word.Open ∷ (ports ++ Fixed word.Close ∷ Fixed word.Semicolon ∷ (body ++ Fixed word.Endmodule ∷ rest))
    ≡ Fixed word.Module ∷ Named name ∷ Fixed word.Open ∷ (ports ++ Fixed word.Close ∷ Fixed word.Semicolon ∷ (body ++ Fixed word.Endmodule ∷ [])) ++ rest
regroup name ports body rest = simp append_assoc

-- a module that was read
pub record ModuleRead (ts : List Mark) (m : Module (List Mark)) (rest : List Mark) : Type 0 where
  pub tree : Module Value
  pub good : IsModule tree
  pub is : printed tree ≡ m
  pub split : ts ≡ sentence value_marks tree ++ rest

pub module_sound : (ts : List Mark) (m : Module (List Mark)) (rest : List Mark) → module_read ts ≡ Got m rest → ModuleRead ts m rest
unfolding module_read
module_sound ts m rest h =
    let a = bind_got (word_read word.Module) _ ts m rest h in
    let b = bind_got name_read _ a.1 m rest a.3 in
    let d = bind_got (word_read word.Open) _ b.1 m rest b.3 in
    let f = bind_got ports_read _ d.1 m rest d.3 in
    let g = bind_got (word_read word.Semicolon) _ f.1 m rest f.3 in
    let k = bind_got (items_read []) _ g.1 m rest g.3 in
    let ports = ports_sound d.1 f.0 f.1 f.2 in
    let items = many_sound word.Endmodule item_read (item_marks value_marks) item_printed GoodItem item_shrinks item_prints (length g.1) [] g.1 (omega arith) k.0 k.1 k.2 in
    let left : k.1 ≡ rest = got_rest k.3 in
    let tree : Module Value = record { name = b.0; ports = ports.first ∷ ports.more; items = items.parts } in
    let made : List Port → List (Item (List Mark)) → Module (List Mark) = λ ports items. record { name = b.0; ports = ports; items = items } in
    let before : List Mark → List Mark = λ v. Fixed word.Module ∷ Named b.0 ∷ Fixed word.Open ∷ v in
    let body : List Mark = flat_map (item_marks value_marks) items.parts in
    let close : List Mark → List Mark = λ v. ports_marks (ports.first ∷ ports.more) ++ Fixed word.Close ∷ v in
    record {
      tree = tree;
      good = record { ports = omega arith; grouped = items.good_all };
      is = ap (λ v. made v (map item_printed items.parts)) (sym ports.are) ∙ ap (made f.0) (sym items.all_are) ∙ got_value k.3;
      split =
          word_sound word.Module ts a.0 a.1 a.2
          ∙ ap (λ v. Fixed word.Module ∷ v) (name_sound a.1 b.0 b.1 b.2)
          ∙ ap (λ v. Fixed word.Module ∷ Named b.0 ∷ v) (word_sound word.Open b.1 d.0 d.1 d.2)
          ∙ ap before ports.split
          ∙ ap (λ v. before (close v)) (word_sound word.Semicolon f.1 g.0 g.1 g.2)
          ∙ ap (λ v. before (close (Fixed word.Semicolon ∷ v))) (items.split ∙ ap (λ v. body ++ Fixed word.Endmodule ∷ v) left)
          ∙ regroup b.0 (ports_marks (ports.first ∷ ports.more)) body rest;
    }

module_made : (m : Module Value) (port : Port) (ports : List Port) → m.ports ≡ port ∷ ports → All GoodItem m.items → (rest : List Mark) → module_read (sentence value_marks m ++ rest) ≡ Got (printed m) rest
unfolding module_read
module_made m port ports e good rest =
    let body : List Mark = flat_map (item_marks value_marks) m.items in
    let items : List Mark = body ++ Fixed word.Endmodule ∷ rest in
    let made : List Port → List (Item (List Mark)) → Module (List Mark) = λ ports items. record { name = m.name; ports = ports; items = items } in
    let behind : List Mark → Read (Module (List Mark)) = λ ts. bind ports_read (λ ps. bind (word_read word.Semicolon) (λ _. bind (items_read []) (λ is. give (made ps is)))) ts in
    ap module_read (sym (regroup m.name (ports_marks m.ports) body rest))
    ∙ ap (λ ps. behind (ports_marks ps ++ Fixed word.Close ∷ Fixed word.Semicolon ∷ items)) e
    ∙ ap (λ r. followed r (λ ps. bind (word_read word.Semicolon) (λ _. bind (items_read []) (λ is. give (made ps is))))) (ports_full port ports (Fixed word.Semicolon ∷ items))
    ∙ ap (λ r. followed r (λ is. give (made (port ∷ ports) is))) (items_full m.items good rest)
    ∙ ap (λ ps. Got (made ps (map item_printed m.items)) rest) (sym e)

first_port : (ports : List Port) → 1 ≤ length ports → (port : Port) × (more : List Port) × (ports ≡ port ∷ more)
first_port [] h = absurd (omega arith)
first_port (port ∷ more) h = (port, more, refl)

pub module_full : (m : Module Value) → IsModule m → (rest : List Mark) → module_read (sentence value_marks m ++ rest) ≡ Got (printed m) rest
module_full m good rest =
    let p = first_port m.ports good.ports in
    module_made m p.0 p.1 p.2 good.grouped rest

-- a module is determined by its tokens
item_injective : (a b : Item Value) → has_grouped a ≡ true → has_grouped b ≡ true → item_printed a ≡ item_printed b → a ≡ b
item_injective (Wire n) (Wire m) g h e = cc
item_injective (Register n i) (Register m j) g h e = cc
item_injective (Assign n v) (Assign m w) g h e =
    let values : value_marks v ≡ value_marks w = cc in
    let same = value_injective v w g h values in
    cc
item_injective (Always c n v) (Always d m w) g h e =
    let values : value_marks v ≡ value_marks w = cc in
    let same = value_injective v w g h values in
    cc
item_injective (Wire n) (Register m j) g h e = cc
item_injective (Wire n) (Assign m w) g h e = cc
item_injective (Wire n) (Always d m w) g h e = cc
item_injective (Register n i) (Wire m) g h e = cc
item_injective (Register n i) (Assign m w) g h e = cc
item_injective (Register n i) (Always d m w) g h e = cc
item_injective (Assign n v) (Wire m) g h e = cc
item_injective (Assign n v) (Register m j) g h e = cc
item_injective (Assign n v) (Always d m w) g h e = cc
item_injective (Always c n v) (Wire m) g h e = cc
item_injective (Always c n v) (Register m j) g h e = cc
item_injective (Always c n v) (Assign m w) g h e = cc

items_injective : (xs ys : List (Item Value)) → All GoodItem xs → All GoodItem ys → map item_printed xs ≡ map item_printed ys → xs ≡ ys
items_injective [] [] g h e = refl
items_injective [] (y ∷ ys) g h e = cc
items_injective (x ∷ xs) [] g h e = cc
items_injective (x ∷ xs) (y ∷ ys) g h e =
    let first : item_printed x ≡ item_printed y = cc in
    let others : map item_printed xs ≡ map item_printed ys = cc in
    let same = item_injective x y (g 0 x (omega arith)) (h 0 y (omega arith)) first in
    let rest = items_injective xs ys (All-tail GoodItem x xs g) (All-tail GoodItem y ys h) others in
    cc

pub printed_injective : (m n : Module Value) → IsModule m → IsModule n → printed m ≡ printed n → m ≡ n
printed_injective m n g h e =
    let name : m.name ≡ n.name = ap (λ v. v.name) e in
    let ports : m.ports ≡ n.ports = ap (λ v. v.ports) e in
    let items : m.items ≡ n.items = items_injective m.items n.items g.grouped h.grouped (ap (λ v. v.items) e) in
    let made : Name → List Port → List (Item Value) → Module Value = λ name ports items. record { name = name; ports = ports; items = items } in
    ap (λ v. made v m.ports m.items) name ∙ ap (λ v. made n.name v m.items) ports ∙ ap (made n.name n.ports) items
