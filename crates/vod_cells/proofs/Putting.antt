-- A write, as the code makes it part by part.
use Rattle.std.proofs.Common.{◌≡◌, ℕ, suc, zero, ◌<◌, ◌==◌, ◌||◌, ◌&&◌, not, Bool, true, false, List, [], ◌∷◌, length, map, flat_map, get_or, set, arith, refl, ap, ◌∙◌, sym, ⊎_elim, All, Option, None, Some, eq-eqb, slice_index_or, drop, option_map, slice_get}
use Rattle.std.specs.List.{list_any}
use Rattle.std.proofs.lemmas.Bool.{eqb-true, and_parts, or_cases, or_left}
use Rattle.std.proofs.lemmas.List.{length-map, get_or_read}
use Rattle.vod_bits.specs.Bit.{Bit, BX}
use Rattle.vod_bits.specs.Value.{upper_bit}
use Rattle.vod_design.specs.declared.parts.Block.{Block}
use Rattle.vod_design.specs.declared.parts.Driver.{Driver}
use Rattle.vod_design.specs.declared.parts.Edge.{Edge}
use Rattle.vod_design.specs.declared.parts.Signal.{Signal}
use Rattle.vod_design.specs.Eval.{same_bit}
use Rattle.vod_design.specs.declared.read.Read.{Read}
use Rattle.vod_design.specs.declared.parts.Ram.{Ram}
use Rattle.vod_design.specs.declared.read.Read.TheVariants as read
use Rattle.vod_design.specs.Feeds.{is_read}
use Rattle.vod_design.specs.Netlist.{Netlist, or_0, word_count}
use Rattle.vod_design.specs.Reads.{reads}
use Rattle.vod_design.specs.Values.{value_at}
use Rattle.vod_fanout.specs.FanOut.{each_from}
use Rattle.vod_fanout.proofs.Lists.{each_at, each_length}
use Rattle.vod_readers.specs.Readers.{read_signal, read_memory, reset_net, nets_of, has, readers_from}
use Rattle.vod_slot.specs.Step.{raised, raised_if, starts, is_edge, is_reset_edge}
use Rattle.vod_slot.specs.Store.{Store, ToBit, ToWord, changes, feeds_driver, same_bits, bit_in, bit_at, bit_replaced, is_word_read, list_at, word_at}
use Rattle.vod_slot.proofs.Raised.{or-false}
use Rattle.vod_cells.specs.Listening.{passes_at, raised_at, starts_block, is_first_edge, is_first_reset, is_change}
use Rattle.vod_cells.specs.Stored.{Stored, IsStoredOf, put_in}
use Rattle.vod_cells.proofs.OneBit.{one_long}
use Rattle.vod_cells.proofs.Raising.{raised_listed, raised-map, readers-map, any_in, listed_within}

swap : (a b c : Bool) → (a && (b && c)) ≡ (b && (a && c))
swap true b c = refl
swap false true c = refl
swap false false c = refl

and-false : (b : Bool) → (b && false) ≡ false
and-false true = refl
and-false false = refl

and-over : (t a b : Bool) → (t && (a || b)) ≡ ((t && a) || (t && b))
and-over true a b = refl
and-over false a b = refl

-- the readers of a source in the table
pub table_at : {A : Type 0} (sources : A → List ℕ) (xs : List A) (count n : ℕ) (table : List (List ℕ)) (list : List ℕ) → table ≡ each_from (readers_from sources 0 xs) 0 count → n < count → list ≡ slice_index_or table n [] → list ≡ readers_from sources 0 xs n
table_at sources xs count n table list is h at = at ∙ ap (λ t. slice_index_or t n []) is ∙ each_at (readers_from sources 0 xs) 0 count n [] h ∙ ap (readers_from sources 0 xs) (omega arith)

pub table_size : {A : Type 0} (sources : A → List ℕ) (xs : List A) (count n : ℕ) (table : List (List ℕ)) → table ≡ each_from (readers_from sources 0 xs) 0 count → n < count → n < length table
table_size sources xs count n table is h = rw is (omega (arith, h, each_length (readers_from sources 0 xs) 0 count))

-- the listed ones are those that there are
pub listed_in : {A : Type 0} (sources : A → List ℕ) (xs : List A) (count n size : ℕ) (table : List (List ℕ)) (list : List ℕ) → table ≡ each_from (readers_from sources 0 xs) 0 count → n < count → list ≡ slice_index_or table n [] → size ≡ length xs → All (λ k. k < size) list
listed_in sources xs count n size table list is h at len = rw (table_at sources xs count n table list is h at) (listed_within sources 0 xs n size (omega (arith, len)))

-- what can read a bit is a reader of its signal
reads_whole : (s n : ℕ) → (s == n) ≡ true → has (n ∷ []) s ≡ true
reads_whole s n h = let same = eqb-true s n h in or_left (n == s) false (eq-eqb n s (sym same))

pub bit_reader : (s p : ℕ) (r : Read) → is_read (record { signal = s; bit = p }) r ≡ true → has (read_signal r) s ≡ true
bit_reader s p (read.Whole n) h = reads_whole s n h
bit_reader s p (read.Bits n low width) h = reads_whole s n (and_parts (s == n) _ h).0
bit_reader s p (read.Word memory place) h = absurd (cc)
bit_reader s p (read.Ram memory) h = absurd (cc)

pub word_reader : (m p : ℕ) (r : Read) → is_word_read m p r ≡ true → has (read_memory r) m ≡ true
word_reader m p (read.Whole n) h = absurd (cc)
word_reader m p (read.Bits n low width) h = absurd (cc)
word_reader m p (read.Word memory place) h = or_left (memory == m) false (and_parts (memory == m) (place == p) h).0
word_reader m p (read.Ram memory) h = or_left (memory == m) false h

-- the drivers that are woken by the table are those that can read what was written
pub woken : (test : Read → Bool) (give : Read → List ℕ) (n : ℕ) (drivers : List Driver) (lists : List (List Read)) (flags new : List Bool) (list : List ℕ) → ((r : Read) → test r ≡ true → has (give r) n ≡ true) → lists ≡ map (λ (a : Driver). reads a.value) drivers →
    list ≡ readers_from (λ (a : Driver). flat_map give (reads a.value)) 0 drivers n → new ≡ raised_at (passes_at (list_any test) lists) flags list → new ≡ raised (λ (a : Driver). list_any test (reads a.value)) drivers flags
woken test give n drivers lists flags new list h are at is =
    let give_all : List Read → List ℕ = flat_map give in
    is
    ∙ ap (λ l. raised_at (passes_at (list_any test) l) flags list) are
    ∙ ap (raised_at (passes_at (list_any test) (map (λ (a : Driver). reads a.value) drivers)) flags) (at ∙ sym (readers-map (λ (a : Driver). reads a.value) give_all 0 drivers n))
    ∙ raised_listed (list_any test) give_all (map (λ (a : Driver). reads a.value) drivers) n flags (λ rs some. any_in test give n rs h some)
    ∙ raised-map (λ (a : Driver). reads a.value) (list_any test) drivers flags

-- what an edge starts waits for its net
edge_net : (s : ℕ) (old new : Bit) (e : Edge) (more : List ℕ) → is_first_edge s old new e ≡ true → has (e.signal ∷ more) s ≡ true
edge_net s old new e more h = or_left (e.signal == s) (has more s) (and_parts (e.signal == s) (is_change e.rising old new) h).0

reset_waits : (s : ℕ) (old new : Bit) (reset : Option Edge) → is_first_reset s old new reset ≡ true → has (reset_net reset) s ≡ true
reset_waits s old new None h = absurd (cc)
reset_waits s old new (Some e) h = edge_net s old new e [] h

or_second : (a b : Bool) → b ≡ true → (a || b) ≡ true
or_second true b h = refl
or_second false b h = h

pub block_waits : (s : ℕ) (old new : Bit) (b : Block) → starts_block s old new b ≡ true → has (nets_of b) s ≡ true
block_waits s old new b h =
    ⊎_elim
    (λ clock. edge_net s old new b.clock (reset_net b.reset) clock)
    (λ reset. or_second (b.clock.signal == s) (has (reset_net b.reset) s) (reset_waits s old new b.reset reset))
    (or_cases (is_first_edge s old new b.clock) (is_first_reset s old new b.reset) h)

pub begun_by : (s : ℕ) (old new : Bit) (blocks items : List Block) (flags then_ : List Bool) (list : List ℕ) → items ≡ blocks → list ≡ readers_from nets_of 0 blocks s → then_ ≡ raised_at (passes_at (starts_block s old new) items) flags list → then_ ≡ raised (starts_block s old new) blocks flags
begun_by s old new blocks items flags then_ list same at is =
    is ∙ ap (λ bs. raised_at (passes_at (starts_block s old new) bs) flags list) same ∙ ap (raised_at (passes_at (starts_block s old new) blocks) flags) at ∙ raised_listed (starts_block s old new) nets_of blocks s flags (λ b h. block_waits s old new b h)

-- the blocks that a change of a bit starts
raised-same : {A : Type 0} (f g : A → Bool) (xs : List A) (flags : List Bool) → ((x : A) → f x ≡ g x) → raised f xs flags ≡ raised g xs flags
raised-same f g [] flags h = refl
raised-same f g (x ∷ xs) [] h = refl
raised-same f g (x ∷ xs) (flag ∷ flags) h = let here = h x in let more = raised-same f g xs flags h in rw (here, more) refl

raised-none : {A : Type 0} (f : A → Bool) (xs : List A) (flags : List Bool) → ((x : A) → f x ≡ false) → raised f xs flags ≡ flags
raised-none f [] flags h = refl
raised-none f (x ∷ xs) [] h = refl
raised-none f (x ∷ xs) (flag ∷ flags) h = let here = h x in let more = raised-none f xs flags h in rw (here, more, or-false flag) refl

edge_at : (store : Store) (s p : ℕ) (bit : Bit) (e : Edge) → is_edge store (ToBit s p bit) e ≡ ((p == 0) && is_first_edge s (bit_at store s p) bit e)
edge_at store s p bit e = swap (e.signal == s) (p == 0) (is_change e.rising (bit_at store s p) bit)

reset_at : (store : Store) (s p : ℕ) (bit : Bit) (reset : Option Edge) → is_reset_edge store (ToBit s p bit) reset ≡ ((p == 0) && is_first_reset s (bit_at store s p) bit reset)
reset_at store s p bit None = sym (and-false (p == 0))
reset_at store s p bit (Some e) = edge_at store s p bit e

block_at : (store : Store) (s p : ℕ) (bit : Bit) (b : Block) → starts store (ToBit s p bit) b ≡ ((p == 0) && starts_block s (bit_at store s p) bit b)
block_at store s p bit b =
    ap (λ t. t || is_reset_edge store (ToBit s p bit) b.reset) (edge_at store s p bit b.clock)
    ∙ ap (λ t. ((p == 0) && is_first_edge s (bit_at store s p) bit b.clock) || t) (reset_at store s p bit b.reset)
    ∙ sym (and-over (p == 0) (is_first_edge s (bit_at store s p) bit b.clock) (is_first_reset s (bit_at store s p) bit b.reset))

started_if : {A : Type 0} (t : Bool) (f g : A → Bool) (xs : List A) (flags : List Bool) → ((x : A) → f x ≡ (t && g x)) → raised f xs flags ≡ raised_if t g xs flags
started_if true f g xs flags h = raised-same f g xs flags h
started_if false f g xs flags h = raised-none f xs flags h

pub started_at : (store : Store) (s p : ℕ) (bit : Bit) (blocks : List Block) (flags : List Bool) → raised (starts store (ToBit s p bit)) blocks flags ≡ raised_if (p == 0) (starts_block s (bit_at store s p) bit) blocks flags
started_at store s p bit blocks flags = started_if (p == 0) (starts store (ToBit s p bit)) (starts_block s (bit_at store s p) bit) blocks flags (λ b. block_at store s p bit b)

and-true : (b : Bool) → (b && true) ≡ b
and-true true = refl
and-true false = refl

pub signals_length : (d : Netlist) (s : Stored) → IsStoredOf d s → length s.store.signals ≡ length d.signals
signals_length d s h = sym (length-map s.store.signals length) ∙ ap length h.sizes ∙ length-map d.signals (λ (x : Signal). x.width)

-- a bit was put where its value was replaced, its readers were woken and its blocks started
pub bit_put : (d : Netlist) (s p : ℕ) (bit value old new : List Bit) (st now : Stored) (wake started : List Bool) (changed : Bool) → now ≡ st → IsStoredOf d st → length bit ≡ 1 → s < length d.signals → value ≡ get_or now.store.signals s value → old ≡ bit_in value p ∷ [] →
    changed ≡ not (same_bits old bit) → new ≡ bit_replaced p (upper_bit bit) value → wake ≡ raised_if changed (λ (a : Driver). list_any (is_read (record { signal = s; bit = p })) (reads a.value)) d.drivers now.wake →
    started ≡ raised_if (p == 0) (starts_block s (upper_bit old) (upper_bit bit)) d.blocks now.started →
    record { store = record { signals = set now.store.signals s new; memories = now.store.memories }; wake = wake; started = started } ≡ put_in d (ToBit s p (upper_bit bit)) st
bit_put d s p bit value old new st now wake started changed same shaped one within at is_old is_changed is_new is_wake is_started =
    let inside : s < length now.store.signals = rw same (omega (arith, within, signals_length d st shaped)) in
    let stored : value ≡ value_at BX now.store.signals s = get_or_read now.store.signals s value inside at (BX ∷ []) in
    let first : old ≡ bit_at now.store s p ∷ [] = is_old ∙ ap (λ v. bit_in v p ∷ []) stored in
    let change : changed ≡ not (same_bit (bit_at now.store s p) (upper_bit bit)) = is_changed ∙ ap (λ o. not (same_bits o bit)) first ∙ ap (λ b. not (same_bits (bit_at now.store s p ∷ []) b)) (one_long bit one) ∙ ap not (and-true (same_bit (bit_at now.store s p) (upper_bit bit))) in
    let values : new ≡ bit_replaced p (upper_bit bit) (value_at BX now.store.signals s) = is_new ∙ ap (bit_replaced p (upper_bit bit)) stored in
    let begun : started ≡ raised (starts now.store (ToBit s p (upper_bit bit))) d.blocks now.started = is_started ∙ ap (λ o. raised_if (p == 0) (starts_block s (upper_bit o) (upper_bit bit)) d.blocks now.started) first ∙ sym (started_at now.store s p (upper_bit bit) d.blocks now.started) in
    let roused : wake ≡ raised_if (changes now.store (ToBit s p (upper_bit bit))) (feeds_driver (ToBit s p (upper_bit bit))) d.drivers now.wake = is_wake ∙ ap (λ t. raised_if t (λ (a : Driver). list_any (is_read (record { signal = s; bit = p })) (reads a.value)) d.drivers now.wake) change in
    rw (values, begun, roused) (ap (put_in d (ToBit s p (upper_bit bit))) same)

-- where something happened, the flags are raised
pub if_so : {A : Type 0} (t : Bool) (f : A → Bool) (xs : List A) (flags : List Bool) → t ≡ true → raised f xs flags ≡ raised_if t f xs flags
if_so t f xs flags is = rw is refl

pub memories_length : (d : Netlist) (s : Stored) → IsStoredOf d s → length s.store.memories ≡ length d.memories
memories_length d s h = sym (length-map s.store.memories length) ∙ ap length h.memories ∙ length-map d.memories (λ m. m.words)

abbrev stored_of : List (List Bit) → List (List (List Bit)) → List Bool → List Bool → Stored
stored_of signals memories wake started = record { store = record { signals = signals; memories = memories }; wake = wake; started = started }

stored_is : (signals : List (List Bit)) (a b : List (List (List Bit))) (wake wake' started started' : List Bool) → a ≡ b → wake ≡ wake' → started ≡ started' → stored_of signals a wake started ≡ stored_of signals b wake' started'
stored_is signals a b wake wake' started started' e f g = cc

no_reset : (store : Store) (m p : ℕ) (word : List Bit) (reset : Option Edge) → is_reset_edge store (ToWord m p word) reset ≡ false
no_reset store m p word None = refl
no_reset store m p word (Some e) = refl

-- a word is no edge
no_edge : (store : Store) (m p : ℕ) (word : List Bit) (b : Block) → starts store (ToWord m p word) b ≡ false
no_edge store m p word b = no_reset store m p word b.reset

-- a word was put where it was replaced and its readers were woken
pub word_put : (d : Netlist) (m p : ℕ) (word : List Bit) (words held new : List (List Bit)) (st now : Stored) (wake : List Bool) (changed : Bool) → now ≡ st → IsStoredOf d st → m < length d.memories → words ≡ get_or now.store.memories m words → held ≡ get_or now.store.memories m held → new ≡ set held p word →
    changed ≡ not (same_bits (list_at words p) word) → wake ≡ raised_if changed (λ (a : Driver). list_any (is_word_read m p) (reads a.value)) d.drivers now.wake →
    record { store = record { signals = now.store.signals; memories = set now.store.memories m new }; wake = wake; started = now.started } ≡ put_in d (ToWord m p word) st
word_put d m p word words held new st now wake changed same shaped within at holds is_new is_changed is_wake =
    let there : m < length now.store.memories = rw same (omega (arith, within, memories_length d st shaped)) in
    let stored : words ≡ list_at now.store.memories m = get_or_read now.store.memories m words there at [] in
    let values : new ≡ set (list_at now.store.memories m) p word = is_new ∙ ap (λ ws. set ws p word) (get_or_read now.store.memories m held there holds []) in
    let change : changed ≡ not (same_bits (word_at now.store m p) word) = is_changed ∙ ap (λ ws. not (same_bits (list_at ws p) word)) stored in
    let roused : wake ≡ raised_if (changes now.store (ToWord m p word)) (feeds_driver (ToWord m p word)) d.drivers now.wake = is_wake ∙ ap (λ t. raised_if t (λ (a : Driver). list_any (is_word_read m p) (reads a.value)) d.drivers now.wake) change in
    let begun : now.started ≡ raised (starts now.store (ToWord m p word)) d.blocks now.started = sym (raised-none (starts now.store (ToWord m p word)) d.blocks now.started (no_edge now.store m p word)) in
    let whole : record { store = record { signals = now.store.signals; memories = set now.store.memories m new }; wake = wake; started = now.started } ≡ put_in d (ToWord m p word) now = stored_is now.store.signals (set now.store.memories m new) (set now.store.memories m (set (list_at now.store.memories m) p word)) wake _ now.started _ (ap (set now.store.memories m) values) roused begun in
    whole ∙ ap (put_in d (ToWord m p word)) same

abbrev first_or : ℕ → List ℕ → ℕ
first_or d [] = d
first_or d (n ∷ ns) = n

-- a place for each word
words_there : (lists : List (List (List Bit))) (ms : List Ram) (m p : ℕ) → map length lists ≡ map (λ (r : Ram). r.words) ms → p < or_0 (option_map (λ (r : Ram). r.words) (slice_get ms m)) → (m < length lists) × (p < length (list_at lists m))
words_there [] [] m p same h = absurd (omega arith)
words_there [] (r ∷ ms) m p same h = absurd (cc)
words_there (words ∷ lists) [] m p same h = absurd (cc)
words_there (words ∷ lists) (r ∷ ms) zero p same h =
    let one : length words ≡ r.words = ap (first_or 0) same in
    (omega arith, omega (arith, one, h))
words_there (words ∷ lists) (r ∷ ms) (suc m) p same h =
    let more = words_there lists ms m p (ap (drop 1) same) h in
    (omega (arith, more.0), more.1)

pub words_stored : (d : Netlist) (s t : Stored) (m p : ℕ) → t ≡ s → IsStoredOf d s → p < word_count d m → (m < length t.store.memories) × (p < length (list_at t.store.memories m))
words_stored d s t m p is h within = rw is (words_there s.store.memories d.memories m p h.memories within)
