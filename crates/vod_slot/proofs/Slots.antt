-- A slot that changes inputs of one class: every order of its events ends in one state.
use Rattle.std.proofs.Common.{◌≡◌, ◌≢◌, ◌⊎◌, inl, inr, ℕ, ◌+◌, not, Bool, true, false, List, [], ◌∷◌, length, map, arith, refl, ap, sym, ◌∙◌, subst, ⊎_elim, All, Option, Some, None, unwrap_or, slice_get}
use Rattle.std.specs.List.{Contains, list_any}
use Rattle.std.proofs.lemmas.Bool.{and_parts}
use Rattle.std.proofs.lemmas.List.Elements.{All-head, All-tail}
use Rattle.std.proofs.lemmas.Option.{slice_get_within}
use Rattle.vod_bits.specs.Bit.{Bit, BX}
use Rattle.vod_design.specs.declared.parts.Block.{Block}
use Rattle.vod_design.specs.declared.parts.Edge.{Edge}
use Rattle.vod_design.specs.declared.parts.Input.{Input}
use Rattle.vod_design.specs.declared.vector.Class.{Class}
use Rattle.vod_design.specs.declared.vector.Class.TheVariants.{Clock, Reset, Data}
use Rattle.vod_design.specs.declared.vector.Move.{Move}
use Rattle.vod_design.specs.Accepted.{IsAccepted, BlockRuns}
use Rattle.vod_design.specs.Lawful.{assigned}
use Rattle.vod_design.specs.Netlist.{Netlist, signal_width}
use Rattle.vod_design.specs.Nets.{Follows, itself, copied, FollowsClass}
use Rattle.vod_design.specs.Values.{value_at}
use Rattle.vod_slot.specs.declared.event.Event.TheVariants.{TakeMove, Evaluate, Update as UpdateDriver, Run, Initialize, Activate, Perform}
use Rattle.vod_slot.specs.Store.{Store, bit_in, list_at}
use Rattle.vod_slot.specs.State.{State, Update, opened, IsResting}
use Rattle.vod_slot.specs.Step.{Event, is_allowed, is_filled, has_active, after}
use Rattle.vod_slot.specs.Run.{Steps, IsSlot}
use Rattle.vod_slot.specs.Shape.{sizes, widths}
use Rattle.vod_slot.specs.Settled.{IsConsistent}
use Rattle.vod_slot.specs.Edges.{IsLink, edge_bit, AreEdgesKept, DoMovesFit}
use Rattle.vod_slot.specs.Classes.{ChangesClass}
use Rattle.vod_slot.proofs.Lists.{all_at, default_at}
use Rattle.vod_slot.proofs.Writes.{HangsOnReads}
use Rattle.vod_slot.proofs.Paths.{place_in}
use Rattle.vod_slot.proofs.Ends.{IsConsistent-opened, IsConsistent-after, slot_end}
use Rattle.vod_slot.proofs.Unique.{value_size, same_lists, same_at_rest}
use Rattle.vod_slot.proofs.Edges.{none_there, AreEdgesKept-after}
use Rattle.vod_slot.proofs.Openings.{moves_at, edges_opened}
use Rattle.vod_slot.proofs.Data.{IsGiven, net_within, input_net, opened_at, given_first, data_slot}
use Rattle.vod_slot.proofs.Inputs.{given_after, input_end}
use Rattle.vod_slot.proofs.First.{input_of}
use Rattle.vod_slot.proofs.Starts.{SameReset, had_start, same_starts_none}
use Rattle.vod_slot.proofs.Swaps.{SameRegisters}
use Rattle.vod_slot.proofs.Settling.{IsSettling, settling_end, settled_registers}
use Rattle.vod_slot.proofs.Stages.{value_in, IsStage}
use Rattle.vod_slot.proofs.Busy.{IsBusy, HaveOneEdge, IsOther, busy_after}
use Rattle.vod_slot.proofs.Activated.{InputsBrought, IsIdle, idle_of, idle_at_rest, end_of, activated}

-- which event it is
activates : (event : Event) → IsOther event ⊎ (event ≡ Activate)
activates (TakeMove i) = inl tt
activates (Evaluate j) = inl tt
activates (UpdateDriver j) = inl tt
activates (Run k) = inl tt
activates (Initialize m) = inl tt
activates Activate = inr refl
activates (Perform k) = inl tt

not_true : (b : Bool) → not b ≡ true → b ≡ false
not_true true h = absurd (cc)
not_true false h = refl

idle_activation : (st : State) (event : Event) → event ≡ Activate → is_allowed st event ≡ true → IsIdle st
idle_activation st event is allowed =
    let p = and_parts (not (has_active st)) (list_any is_filled st.later) (ap (is_allowed st) (sym is) ∙ allowed) in
    idle_of st (not_true (has_active st) p.0)

-- what is given to the inputs, and what they have at an end
abbrev pub AreGiven : Netlist → Store → State → Type 0
AreGiven d end st = (i : ℕ) (x : Input) → slice_get d.inputs i ≡ Some x → IsGiven i x (value_at BX end.signals x.signal) st

idle_brought : (d : Netlist) (end : Store) (st : State) → IsIdle st → AreGiven d end st → InputsBrought d (edge_bit end) st
idle_brought d end st idle given i x at =
    let v = value_at BX end.signals x.signal in
    let has : value_at BX st.store.signals x.signal ≡ v = ⊎_elim (λ l. absurd (none_there v (sym (default_at None st.moves idle.moves i) ∙ l))) (λ r. r.1) (given i x at) in
    ap (λ u. bit_in u 0) has

end_size : (d : Netlist) (ranked : List ℕ) → IsAccepted d ranked → (end : Store) → sizes end ≡ widths d → (i : ℕ) (x : Input) → slice_get d.inputs i ≡ Some x → length (value_at BX end.signals x.signal) ≡ signal_width d x.signal
end_size d ranked h end same i x at = value_size end d x.signal same (net_within d.signals x.signal false (input_net d ranked h i x at))

-- where nothing is left at all, an activation changes nothing
nothing_later : (lists : List (List Update)) → All (λ updates. updates ≡ []) lists → map {A = List Update} {B = List Update} (λ updates. []) lists ≡ lists
nothing_later [] h = refl
nothing_later (us ∷ lists) h =
    let here : us ≡ [] = All-head (λ updates. updates ≡ []) us lists h in
    let more = nothing_later lists (All-tail (λ updates. updates ≡ []) us lists h) in
    cc

activated_rest : (d : Netlist) (t : State) → IsConsistent d t → IsResting t → after d t Activate ≡ t
activated_rest d t c rests =
    let later = nothing_later t.later rests.later in
    let now : t.later ≡ t.now = same_lists [] t.later t.now (c.shaped.later ∙ sym c.shaped.now) rests.later rests.now in
    ap (λ x. record t { later = x; now = t.later }) later ∙ ap (λ x. record t { now = x }) now

-- each order keeps it until updates are activated, and comes to the end from there
busy_run : HangsOnReads → (d : Netlist) (ranked : List ℕ) → IsAccepted d ranked → (opening end : Store) (st t : State) (events : List Event) → sizes opening ≡ widths d → sizes end ≡ widths d → HaveOneEdge d opening (edge_bit end) → IsConsistent d st → Steps d st events t → IsResting t →
    AreEdgesKept d (edge_bit opening) (edge_bit end) st → AreGiven d end st → IsBusy d opening (edge_bit end) st → IsSettling d (edge_bit end) (edge_bit end) (end_of d opening (edge_bit end)) t
busy_run hangs d ranked h opening end st t [] so se one c steps rests kept given busy =
    let e = edge_bit end in
    let same : after d st Activate ≡ t = activated_rest d st c (subst IsResting steps rests) ∙ sym steps in
    subst (IsSettling d e e (end_of d opening e)) same (activated d ranked h opening e st so c (idle_at_rest st (subst IsResting steps rests)) kept (idle_brought d end st (idle_at_rest st (subst IsResting steps rests)) given) busy)
busy_run hangs d ranked h opening end st t (event ∷ events) so se one c steps rests kept given busy =
    let e = edge_bit end in
    let next = IsConsistent-after hangs d ranked st event h c steps.0 in
    ⊎_elim
    (λ other.
    busy_run hangs d ranked h opening end (after d st event) t events so se one next steps.1 rests
    (AreEdgesKept-after d ranked (edge_bit opening) e st event h c kept steps.0)
    (λ i x at. given_after d ranked h i x (value_at BX end.signals x.signal) st event at (end_size d ranked h end se i x at) c steps.0 (given i x at))
    (busy_after hangs d ranked h opening e st event so one c steps.0 kept other busy))
    (λ is.
    let idle = idle_activation st event is steps.0 in
    let settling = activated d ranked h opening e st so c idle kept (idle_brought d end st idle given) busy in
    settling_end hangs d ranked h e e (end_of d opening e) (after d st event) t events (same_starts_none d e) next steps.1 (subst (λ x. IsSettling d e e (end_of d opening e) (after d st x)) (sym is) settling))
    (activates event)

-- as the slot opens

busy_opened : (d : Netlist) (ranked : List ℕ) → IsAccepted d ranked → (s : State) (moves : List Move) (class : Class) (e : ℕ → Bit) → class ≢ Data → IsConsistent d s → IsResting s → ChangesClass d s moves class → IsBusy d s.store e (opened d moves s)
busy_opened d ranked h s moves class e apart c rests changes = record {
  init = rests.init;
  now = rests.now;
  still = λ n. inl refl;
  memories = refl;
  quiet = λ j a at. inr (default_at false s.wake rests.wake j, default_at None s.pend rests.pend j);
  moves = λ i x v at is_data is.
      let same : 0 + i ≡ i = omega arith in
      let given : assigned moves i ≡ Some v = ap (assigned moves) (sym same) ∙ moves_at (assigned moves) 0 d.inputs i v is in
      ⊎_elim (λ l. absurd (apart (sym l ∙ is_data))) (λ r. r) (changes i x v at given);
  stages = λ k b at.
      let none : had_start (edge_bit s.store) (edge_bit s.store) b ≡ false = all_at (λ x. had_start (edge_bit s.store) (edge_bit s.store) x ≡ false) d.blocks k b (same_starts_none d (edge_bit s.store)) at in
      subst (λ g. IsStage d b (value_in d s.store e b) g (list_at s.todo k) (list_at s.later k)) (sym none) (default_at [] s.todo rests.todo k, default_at [] s.later rests.later k);
}

-- an edge net of another class keeps its value

unchanged : (d : Netlist) (o e : ℕ → Bit) (st : State) → AreEdgesKept d o e st → (input : Input) → Contains d.inputs input → input.class ≢ Data → o input.signal ≡ e input.signal → (n : ℕ) → Follows d input.signal n → o n ≡ e n
unchanged d o e st kept input stands apart same n itself = same
unchanged d o e st kept input stands apart same n (copied {from = from} {to = to} {a = a} is_driver copies follows) =
    let p = place_in d.drivers a is_driver in
    let link : IsLink d p.0 a from n = record { at = p.1; copies = copies; net = record { input = input; stands = stands; edge = apart; follows = follows } } in
    kept.openings_agree p.0 from n a link ∙ unchanged d o e st kept input stands apart same from follows ∙ sym (kept.brought_agree p.0 from n a link)

input_kept : (d : Netlist) (s : State) (moves : List Move) (class : Class) → ChangesClass d s moves class → (i : ℕ) (x : Input) → slice_get d.inputs i ≡ Some x → x.class ≢ class → (given : Option (List Bit)) → assigned moves i ≡ given → unwrap_or given (value_at BX s.store.signals x.signal) ≡ value_at BX s.store.signals x.signal
input_kept d s moves class changes i x at apart None is = refl
input_kept d s moves class changes i x at apart (Some v) is = ⊎_elim (λ l. absurd (apart l)) (λ r. sym r) (changes i x v at is)

class_kept : HangsOnReads → (d : Netlist) (ranked : List ℕ) → IsAccepted d ranked → (s t : State) (moves : List Move) (class other : Class) → other ≢ class → other ≢ Data → IsConsistent d s → DoMovesFit d moves → ChangesClass d s moves class → IsSlot d s moves t → (n : ℕ) → FollowsClass d other n → edge_bit s.store n ≡ edge_bit t.store n
class_kept hangs d ranked h s t moves class other apart edge c fit changes slot n f =
    let p = place_in d.inputs f.input f.stands in
    let x = f.input in
    let v : value_at BX t.store.signals x.signal ≡ value_at BX s.store.signals x.signal
    = input_end hangs d ranked s t moves p.0 x h c fit slot p.1 ∙ input_kept d s moves class changes p.0 x p.1 (λ e. apart (sym f.class_is ∙ e)) (assigned moves p.0) refl in
    unchanged d (edge_bit s.store) (edge_bit t.store) (opened d moves s) (edges_opened hangs d ranked s t moves h c slot.opens fit slot.completes) x f.stands (λ e. edge (sym f.class_is ∙ e)) (ap (λ u. bit_in u 0) (sym v)) n f.follows

reset_same : (d : Netlist) (b : Block) (o e : ℕ → Bit) (reset : Option Edge) → ((n : ℕ) → FollowsClass d Reset n → o n ≡ e n) → BlockRuns d b reset → SameReset o e reset
reset_same d b o e None same runs = tt
reset_same d b o e (Some x) same runs = same x.signal runs.reset_is

reset_not_clock : Reset ≢ Clock
reset_not_clock e = absurd (cc)

clock_not_reset : Clock ≢ Reset
clock_not_reset e = absurd (cc)

pub reset_not_data : Reset ≢ Data
reset_not_data e = absurd (cc)

pub clock_not_data : Clock ≢ Data
clock_not_data e = absurd (cc)

pub clock_edges : HangsOnReads → (d : Netlist) (ranked : List ℕ) → IsAccepted d ranked → (s t : State) (moves : List Move) → IsConsistent d s → DoMovesFit d moves → ChangesClass d s moves Clock → IsSlot d s moves t → HaveOneEdge d s.store (edge_bit t.store)
clock_edges hangs d ranked h s t moves c fit changes slot k b at =
    inr (reset_same d b (edge_bit s.store) (edge_bit t.store) b.reset (λ n f. class_kept hangs d ranked h s t moves Clock Reset reset_not_clock reset_not_data c fit changes slot n f)
    (all_at (λ (x : Block). BlockRuns d x x.reset) d.blocks k b h.resets at))

pub reset_edges : HangsOnReads → (d : Netlist) (ranked : List ℕ) → IsAccepted d ranked → (s t : State) (moves : List Move) → IsConsistent d s → DoMovesFit d moves → ChangesClass d s moves Reset → IsSlot d s moves t → HaveOneEdge d s.store (edge_bit t.store)
reset_edges hangs d ranked h s t moves c fit changes slot k b at =
    inl (class_kept hangs d ranked h s t moves Reset Clock clock_not_reset clock_not_data c fit changes slot b.clock.signal (all_at (λ (x : Block). FollowsClass d Clock x.clock.signal) d.blocks k b h.clocks at))

-- every order ends in one state

-- whatever order of events was taken, registers and words come to what the bodies leave
pub edge_registers : HangsOnReads → (d : Netlist) (ranked : List ℕ) (s t u : State) (moves : List Move) (class : Class) → IsAccepted d ranked → IsConsistent d s → DoMovesFit d moves → class ≢ Data → ChangesClass d s moves class → HaveOneEdge d s.store (edge_bit t.store) → IsSlot d s moves t → IsSlot d s moves u →
    SameRegisters d u.store (end_of d s.store (edge_bit t.store))
edge_registers hangs d ranked s t u moves class h c fit apart changes one to_t to_u =
    let st = opened d moves s in
    let e = edge_bit t.store in
    let open_ = IsConsistent-opened d s moves c in
    let at_t = (slot_end hangs d ranked st t h open_ to_t.completes).0 in
    let kept = edges_opened hangs d ranked s t moves h c to_t.opens fit to_t.completes in
    let busy = busy_opened d ranked h s moves class e apart c to_t.opens changes in
    let same : (i : ℕ) → 0 + i ≡ i = λ i. omega arith in
    let given : AreGiven d t.store st
    = λ i x at. subst (λ v. IsGiven i x v st) (sym (input_end hangs d ranked s t moves i x h c fit to_t at))
    (given_first moves s st i x (assigned moves i) refl (opened_at (assigned moves) 0 d.inputs i (slice_get_within d.inputs i x at) ∙ ap (assigned moves) (same i)) refl) in
    settled_registers d e e (end_of d s.store e) u to_u.completes.ends
    (busy_run hangs d ranked h s.store t.store st u to_u.completes.events c.shaped.sizes at_t.shaped.sizes one open_ to_u.completes.steps to_u.completes.ends kept given busy)

edge_slot : HangsOnReads → (d : Netlist) (ranked : List ℕ) (s t u : State) (moves : List Move) (class : Class) → IsAccepted d ranked → IsConsistent d s → DoMovesFit d moves → class ≢ Data → ChangesClass d s moves class → HaveOneEdge d s.store (edge_bit t.store) → IsSlot d s moves t → IsSlot d s moves u → t ≡ u
edge_slot hangs d ranked s t u moves class h c fit apart changes one to_t to_u =
    let st = opened d moves s in
    let open_ = IsConsistent-opened d s moves c in
    let at_t = (slot_end hangs d ranked st t h open_ to_t.completes).0 in
    let at_u = (slot_end hangs d ranked st u h open_ to_u.completes).0 in
    let a = edge_registers hangs d ranked s t t moves class h c fit apart changes one to_t to_t in
    let b = edge_registers hangs d ranked s t u moves class h c fit apart changes one to_t to_u in
    same_at_rest hangs d ranked t u h at_t at_u to_t.completes.ends to_u.completes.ends
    (record {
      registers = λ n register. a.registers n register ∙ sym (b.registers n register);
      inputs = λ n input.
          let p = input_of d n input in
          let v = input_end hangs d ranked s t moves p.0 p.1 h c fit to_t p.2 in
          let w = input_end hangs d ranked s u moves p.0 p.1 h c fit to_u p.2 in
          subst (λ m. value_at BX t.store.signals m ≡ value_at BX u.store.signals m) p.3 (v ∙ sym w);
      memories = a.memories ∙ sym b.memories;
    })

pub class_slot : HangsOnReads → (d : Netlist) (ranked : List ℕ) (s t u : State) (moves : List Move) (class : Class) → IsAccepted d ranked → IsConsistent d s → DoMovesFit d moves → ChangesClass d s moves class → IsSlot d s moves t → IsSlot d s moves u → t ≡ u
class_slot hangs d ranked s t u moves Clock h c fit changes to_t to_u = edge_slot hangs d ranked s t u moves Clock h c fit clock_not_data changes (clock_edges hangs d ranked h s t moves c fit changes to_t) to_t to_u
class_slot hangs d ranked s t u moves Reset h c fit changes to_t to_u = edge_slot hangs d ranked s t u moves Reset h c fit reset_not_data changes (reset_edges hangs d ranked h s t moves c fit changes to_t) to_t to_u
class_slot hangs d ranked s t u moves Data h c fit changes to_t to_u = data_slot hangs d ranked s t u moves h c fit changes to_t to_u
