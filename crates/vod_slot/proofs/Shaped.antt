-- Each state has a place for each part of its design, and what is left to do in it writes registers and words alone: what each event
-- keeps of this.
use Rattle.std.proofs.Common.{◌≡◌, ℕ, suc, ◌+◌, Bool, true, false, List, [], ◌∷◌, ◌++◌, length, map, flat_map, take, drop, set, refl, ap, ◌∙◌, All, Option, Some, None, length-set, unwrap_or, slice_get, slice_index_or}
use Rattle.std.specs.List.{enumerate_from}
use Rattle.std.proofs.Math.Seq.{map-set_same}
use Rattle.std.proofs.lemmas.List.{length-replicate, length-map}
use Rattle.std.proofs.lemmas.List.Elements.{All-head, All-tail, All-cons, All-set, All-append, All-replicate, All-weaker}
use Rattle.vod_design.specs.declared.parts.Block.{Block}
use Rattle.vod_design.specs.declared.parts.Driver.{Driver}
use Rattle.vod_design.specs.declared.parts.Initial.{Initial}
use Rattle.vod_design.specs.declared.parts.InitialAssign.{InitialAssign}
use Rattle.vod_design.specs.declared.parts.InitialTarget.{InitialTarget}
use Rattle.vod_design.specs.declared.parts.InitialTarget.TheVariants as initial
use Rattle.vod_design.specs.declared.parts.Input.{Input}
use Rattle.vod_design.specs.declared.parts.Ram.{Ram}
use Rattle.vod_design.specs.declared.parts.Signal.{Signal}
use Rattle.vod_design.specs.declared.statement.Statement.{Statement}
use Rattle.vod_design.specs.declared.statement.Statement.TheViews.{out-Statement}
use Rattle.vod_design.specs.declared.vector.Move.{Move}
use Rattle.vod_design.specs.Accepted.{IsAccepted}
use Rattle.vod_design.specs.Flat.{InitialFits}
use Rattle.vod_design.specs.Lawful.{assigned}
use Rattle.vod_design.specs.Netlist.{Netlist}
use Rattle.vod_slot.specs.declared.event.Event.TheVariants.{TakeMove, Evaluate, Update as UpdateDriver, Run, Initialize, Activate, Perform}
use Rattle.vod_slot.specs.Store.{Store, Write, ToBit, ToWord, written, changes, feeds_driver, list_at, brought, bits_at, bits_written, places_written}
use Rattle.vod_slot.specs.State.{State, Update, option_at, input_signals, first_value, first_words, start_of, opened}
use Rattle.vod_slot.specs.Step.{Event, after, put, put_all, starts, body_if, begun, triggered, pending, evaluated, target_of, operand, next_after, updates_of, ran, initial_written, update_written}
use Rattle.vod_slot.specs.Shape.{StatementWrites, UpdateWrites, InitialWrites, AssignsWrite, WritesRegisters, IsShaped}
use Rattle.vod_slot.proofs.Lists.{all_none, all_one, all_in}
use Rattle.vod_slot.proofs.Puts.{sizes-written}
use Rattle.vod_slot.proofs.Raised.{length-raised_if}
use Rattle.vod_slot.proofs.Statements.{next_kept, updates_kept}

-- the start

first_sizes : (inputs : List Input) (n : ℕ) (signals : List Signal) → map length (map (λ e. first_value inputs e.0 e.1) (enumerate_from n signals)) ≡ map (λ (s : Signal). s.width) signals
first_sizes inputs n [] = refl
first_sizes inputs n (s ∷ signals) =
    let here : length (first_value inputs n s) ≡ s.width = length-replicate s.width _ in
    let more : map length (map (λ e. first_value inputs e.0 e.1) (enumerate_from (n + 1) signals)) ≡ map (λ (s : Signal). s.width) signals = first_sizes inputs (n + 1) signals in
    cc

first_lengths : (memories : List Ram) → map length (map first_words memories) ≡ map (λ (m : Ram). m.words) memories
first_lengths [] = refl
first_lengths (m ∷ memories) =
    let here : length (first_words m) ≡ m.words = length-replicate m.words _ in
    let more : map length (map first_words memories) ≡ map (λ (m : Ram). m.words) memories = first_lengths memories in
    cc

pub IsShaped-start_of : (d : Netlist) → IsShaped d (start_of d)
IsShaped-start_of d = record {
  sizes = first_sizes d.inputs 0 d.signals;
  memories = first_lengths d.memories;
  moves = length-replicate (length d.inputs) None;
  init = length-map d.initials (λ (i : Initial). i.assigns);
  wake = length-replicate (length d.drivers) true;
  pend = length-replicate (length d.drivers) None;
  todo = length-replicate (length d.blocks) [];
  later = length-replicate (length d.blocks) [];
  now = length-replicate (length d.blocks) [];
}

length-numbered : {A B : Type 0} (f : ℕ × A → B) (n : ℕ) (xs : List A) → length (map f (enumerate_from n xs)) ≡ length xs
length-numbered f n [] = refl
length-numbered f n (x ∷ xs) = ap suc (length-numbered f (n + 1) xs)

pub IsShaped-opened : (d : Netlist) (moves : List Move) (s : State) → IsShaped d s → IsShaped d (opened d moves s)
IsShaped-opened d moves s h = record { sizes = h.sizes; memories = h.memories; moves = length-numbered (λ e. assigned moves e.0) 0 d.inputs; init = h.init; wake = h.wake; pend = h.pend; todo = h.todo; later = h.later; now = h.now }

-- writes

memories-written : (store : Store) (w : Write) → map length (written store w).memories ≡ map length store.memories
memories-written store (ToBit signal place bit) = refl
memories-written store (ToWord memory place word) = map-set_same length store.memories memory (set (list_at store.memories memory) place word) [] (length-set (list_at store.memories memory) place word)

pub length-triggered : (edge : Block → Bool) (blocks : List Block) (todo : List (List Statement)) → length (triggered edge blocks todo) ≡ length todo
length-triggered edge [] todo = refl
length-triggered edge (b ∷ blocks) [] = refl
length-triggered edge (b ∷ blocks) (statements ∷ todo) = ap suc (length-triggered edge blocks todo)

pub IsShaped-put : (d : Netlist) (w : Write) (s : State) → IsShaped d s → IsShaped d (put d w s)
IsShaped-put d w s h = record {
  sizes = sizes-written s.store w ∙ h.sizes;
  memories = memories-written s.store w ∙ h.memories;
  moves = h.moves;
  init = h.init;
  wake = length-raised_if (changes s.store w) (feeds_driver w) d.drivers s.wake ∙ h.wake;
  pend = h.pend;
  todo = length-triggered (starts s.store w) d.blocks s.todo ∙ h.todo;
  later = h.later;
  now = h.now;
}

pub IsShaped-put_all : (d : Netlist) (writes : List Write) (s : State) → IsShaped d s → IsShaped d (put_all d writes s)
IsShaped-put_all d [] s h = h
IsShaped-put_all d (w ∷ writes) s h = IsShaped-put_all d writes (put d w s) (IsShaped-put d w s h)

IsShaped-evaluated : (d : Netlist) (j : ℕ) (driver : Option Driver) (s : State) → IsShaped d s → IsShaped d (evaluated d j driver s)
IsShaped-evaluated d j None s h = h
IsShaped-evaluated d j (Some a) s h = record {
  sizes = h.sizes;
  memories = h.memories;
  moves = h.moves;
  init = h.init;
  wake = length-set s.wake j false ∙ h.wake;
  pend = length-set s.pend j (pending (brought d s.store a) (bits_at s.store a.target)) ∙ h.pend;
  todo = h.todo;
  later = h.later;
  now = h.now;
}

IsShaped-ran : (d : Netlist) (k : ℕ) (statements : List Statement) (s : State) → IsShaped d s → IsShaped d (ran d k statements s)
IsShaped-ran d k [] s h = h
IsShaped-ran d k (t ∷ statements) s h = record {
  sizes = h.sizes;
  memories = h.memories;
  moves = h.moves;
  init = h.init;
  wake = h.wake;
  pend = h.pend;
  todo = length-set s.todo k (next_after (operand d s.store) (out-Statement t) ++ statements) ∙ h.todo;
  later = length-set s.later k (list_at s.later k ++ updates_of (operand d s.store) (out-Statement t)) ∙ h.later;
  now = h.now;
}

pub IsShaped-after : (d : Netlist) (s : State) (event : Event) → IsShaped d s → IsShaped d (after d s event)
IsShaped-after d s (TakeMove i) h =
    IsShaped-put_all d (bits_written (slice_index_or (input_signals d.inputs) i 0) 0 (unwrap_or (option_at s.moves i) [])) (record s { moves = set s.moves i None })
    (record { sizes = h.sizes; memories = h.memories; moves = length-set s.moves i None ∙ h.moves; init = h.init; wake = h.wake; pend = h.pend; todo = h.todo; later = h.later; now = h.now })
IsShaped-after d s (Evaluate j) h = IsShaped-evaluated d j (slice_get d.drivers j) s h
IsShaped-after d s (UpdateDriver j) h =
    IsShaped-put_all d (places_written (target_of (slice_get d.drivers j)) (unwrap_or (option_at s.pend j) [])) (record s { pend = set s.pend j None })
    (record { sizes = h.sizes; memories = h.memories; moves = h.moves; init = h.init; wake = h.wake; pend = length-set s.pend j None ∙ h.pend; todo = h.todo; later = h.later; now = h.now })
IsShaped-after d s (Run k) h = IsShaped-ran d k (list_at s.todo k) s h
IsShaped-after d s (Initialize m) h =
    IsShaped-put_all d (flat_map (λ a. initial_written a.target a.value) (take 1 (list_at s.init m))) (record s { init = set s.init m (drop 1 (list_at s.init m)) })
    (record { sizes = h.sizes; memories = h.memories; moves = h.moves; init = length-set s.init m (drop 1 (list_at s.init m)) ∙ h.init; wake = h.wake; pend = h.pend; todo = h.todo; later = h.later; now = h.now })
IsShaped-after d s Activate h =
    record { sizes = h.sizes; memories = h.memories; moves = h.moves; init = h.init; wake = h.wake; pend = h.pend; todo = h.todo; later = length-map s.later (λ updates. []) ∙ h.later; now = h.later }
IsShaped-after d s (Perform k) h =
    IsShaped-put_all d (flat_map update_written (take 1 (list_at s.now k))) (record s { now = set s.now k (drop 1 (list_at s.now k)) })
    (record { sizes = h.sizes; memories = h.memories; moves = h.moves; init = h.init; wake = h.wake; pend = h.pend; todo = h.todo; later = h.later; now = length-set s.now k (drop 1 (list_at s.now k)) ∙ h.now })

-- what is left writes registers and words

initial_writes : (d : Netlist) (width : ℕ) (t : InitialTarget) → InitialFits d width t → InitialWrites d t
initial_writes d width (initial.Register n) h = h.0
initial_writes d width (initial.Word memory place) h = tt

assigns_write : (d : Netlist) (assigns : List InitialAssign) → All (λ (a : InitialAssign). InitialFits d (length a.value) a.target) assigns → AssignsWrite d assigns
assigns_write d assigns h = All-weaker (λ (a : InitialAssign). InitialFits d (length a.value) a.target) (λ (a : InitialAssign). InitialWrites d a.target) (λ a fits. initial_writes d (length a.value) a.target fits) assigns h

initials_write : (d : Netlist) (initials : List Initial) → All (λ (i : Initial). All (λ (a : InitialAssign). InitialFits d (length a.value) a.target) i.assigns) initials → All (AssignsWrite d) (map (λ (i : Initial). i.assigns) initials)
initials_write d [] h = all_none (AssignsWrite d)
initials_write d (i ∷ initials) h =
    All-cons (AssignsWrite d) i.assigns (map (λ (i : Initial). i.assigns) initials)
    (assigns_write d i.assigns (All-head (λ (i : Initial). All (λ (a : InitialAssign). InitialFits d (length a.value) a.target) i.assigns) i initials h))
    (initials_write d initials (All-tail (λ (i : Initial). All (λ (a : InitialAssign). InitialFits d (length a.value) a.target) i.assigns) i initials h))

pub WritesRegisters-start_of : (d : Netlist) (ranked : List ℕ) → IsAccepted d ranked → WritesRegisters d (start_of d)
WritesRegisters-start_of d ranked a = record {
  init = initials_write d d.initials a.flat.initials;
  todo = All-replicate (All (StatementWrites d)) (length d.blocks) [] (all_none (StatementWrites d));
  later = All-replicate (All (UpdateWrites d)) (length d.blocks) [] (all_none (UpdateWrites d));
  now = All-replicate (All (UpdateWrites d)) (length d.blocks) [] (all_none (UpdateWrites d));
}

pub WritesRegisters-opened : (d : Netlist) (moves : List Move) (s : State) → WritesRegisters d s → WritesRegisters d (opened d moves s)
WritesRegisters-opened d moves s h = record { init = h.init; todo = h.todo; later = h.later; now = h.now }

body_writes : (d : Netlist) (edge : Bool) (b : Block) → StatementWrites d b.body → All (StatementWrites d) (body_if edge b)
body_writes d true b h = all_one (StatementWrites d) b.body h
body_writes d false b h = all_none (StatementWrites d)

begun_writes : (d : Netlist) (edge : Bool) (b : Block) (statements : List Statement) → StatementWrites d b.body → All (StatementWrites d) statements → All (StatementWrites d) (begun edge b statements)
begun_writes d edge b [] h k = body_writes d edge b h
begun_writes d edge b (s ∷ statements) h k = k

triggered_writes : (d : Netlist) (edge : Block → Bool) (blocks : List Block) (todo : List (List Statement)) → All (λ (b : Block). StatementWrites d b.body) blocks → All (All (StatementWrites d)) todo → All (All (StatementWrites d)) (triggered edge blocks todo)
triggered_writes d edge [] todo each h = h
triggered_writes d edge (b ∷ blocks) [] each h = all_none (All (StatementWrites d))
triggered_writes d edge (b ∷ blocks) (statements ∷ todo) each h =
    All-cons (All (StatementWrites d)) (begun (edge b) b statements) (triggered edge blocks todo)
    (begun_writes d (edge b) b statements (All-head (λ (b : Block). StatementWrites d b.body) b blocks each) (All-head (All (StatementWrites d)) statements todo h))
    (triggered_writes d edge blocks todo (All-tail (λ (b : Block). StatementWrites d b.body) b blocks each) (All-tail (All (StatementWrites d)) statements todo h))

put_all_writes : (d : Netlist) (ranked : List ℕ) (writes : List Write) (s : State) → IsAccepted d ranked → WritesRegisters d s → WritesRegisters d (put_all d writes s)
put_all_writes d ranked [] s a h = h
put_all_writes d ranked (w ∷ writes) s a h =
    put_all_writes d ranked writes (put d w s) a (record { init = h.init; todo = triggered_writes d (starts s.store w) d.blocks s.todo a.writes h.todo; later = h.later; now = h.now })

rest_all : {A : Type 0} (P : A → Type 0) (xs : List A) → All P xs → All P (drop 1 xs)
rest_all P [] h = h
rest_all P (x ∷ xs) h = All-tail P x xs h

rest_of : {A : Type 0} (P : A → Type 0) (lists : List (List A)) (k : ℕ) → All (All P) lists → All (All P) (set lists k (drop 1 (list_at lists k)))
rest_of P lists k h = All-set (All P) lists k (drop 1 (list_at lists k)) (rest_all P (list_at lists k) (all_in P lists k h)) h

evaluated_writes : (d : Netlist) (j : ℕ) (driver : Option Driver) (s : State) → WritesRegisters d s → WritesRegisters d (evaluated d j driver s)
evaluated_writes d j None s h = h
evaluated_writes d j (Some a) s h = record { init = h.init; todo = h.todo; later = h.later; now = h.now }

ran_writes : (d : Netlist) (k : ℕ) (statements : List Statement) (s : State) → All (StatementWrites d) statements → WritesRegisters d s → WritesRegisters d (ran d k statements s)
ran_writes d k [] s each h = h
ran_writes d k (t ∷ statements) s each h =
    let value = operand d s.store in
    let here = All-head (StatementWrites d) t statements each in
    record {
      init = h.init;
      todo = All-set (All (StatementWrites d)) s.todo k (next_after value (out-Statement t) ++ statements) (All-append (StatementWrites d) (next_after value (out-Statement t)) statements (next_kept d value t here) (All-tail (StatementWrites d) t statements each)) h.todo;
      later = All-set (All (UpdateWrites d)) s.later k (list_at s.later k ++ updates_of value (out-Statement t)) (All-append (UpdateWrites d) (list_at s.later k) (updates_of value (out-Statement t)) (all_in (UpdateWrites d) s.later k h.later) (updates_kept d value t here)) h.later;
      now = h.now;
    }

none_write : (d : Netlist) (lists : List (List Update)) → All (All (UpdateWrites d)) (map {A = List Update} {B = List Update} (λ updates. []) lists)
none_write d [] = all_none (All (UpdateWrites d))
none_write d (list ∷ lists) = let none : List Update = [] in All-cons (All (UpdateWrites d)) none (map {A = List Update} {B = List Update} (λ updates. []) lists) (all_none (UpdateWrites d)) (none_write d lists)

pub WritesRegisters-after : (d : Netlist) (ranked : List ℕ) (s : State) (event : Event) → IsAccepted d ranked → WritesRegisters d s → WritesRegisters d (after d s event)
WritesRegisters-after d ranked s (TakeMove i) a h =
    put_all_writes d ranked (bits_written (slice_index_or (input_signals d.inputs) i 0) 0 (unwrap_or (option_at s.moves i) [])) (record s { moves = set s.moves i None }) a
    (record { init = h.init; todo = h.todo; later = h.later; now = h.now })
WritesRegisters-after d ranked s (Evaluate j) a h = evaluated_writes d j (slice_get d.drivers j) s h
WritesRegisters-after d ranked s (UpdateDriver j) a h =
    put_all_writes d ranked (places_written (target_of (slice_get d.drivers j)) (unwrap_or (option_at s.pend j) [])) (record s { pend = set s.pend j None }) a
    (record { init = h.init; todo = h.todo; later = h.later; now = h.now })
WritesRegisters-after d ranked s (Run k) a h = ran_writes d k (list_at s.todo k) s (all_in (StatementWrites d) s.todo k h.todo) h
WritesRegisters-after d ranked s (Initialize m) a h =
    put_all_writes d ranked (flat_map (λ a. initial_written a.target a.value) (take 1 (list_at s.init m))) (record s { init = set s.init m (drop 1 (list_at s.init m)) }) a
    (record { init = rest_of (λ (a : InitialAssign). InitialWrites d a.target) s.init m h.init; todo = h.todo; later = h.later; now = h.now })
WritesRegisters-after d ranked s Activate a h = record { init = h.init; todo = h.todo; later = none_write d s.later; now = h.later }
WritesRegisters-after d ranked s (Perform k) a h =
    put_all_writes d ranked (flat_map update_written (take 1 (list_at s.now k))) (record s { now = set s.now k (drop 1 (list_at s.now k)) }) a
    (record { init = h.init; todo = h.todo; later = h.later; now = rest_of (UpdateWrites d) s.now k h.now })
