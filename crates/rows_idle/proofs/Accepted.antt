-- An idle design keeps all rules.
use Rattle.std.proofs.Common.{◌≡◌, ◌≢◌, ℕ, zero, suc, ◌<◌, ◌≤◌, Bool, true, false, List, [], ◌∷◌, ◌++◌, length, map, flat_map, get_or, refl, sym, subst, ◌∙◌, ap, arith, All, AllPairs, zero-add}
use Rattle.std.proofs.lemmas.List.{get_or-map, length-map}
use Rattle.std.proofs.lemmas.List.Elements.{All-nil, All-cons, All-head, All-tail, All-map}
use Rattle.std.specs.List.{Contains}
use Rattle.vod_bits.specs.declared.TheConstants.{WIDTH}
use Rattle.vod_bits.specs.Fields.{width_back}
use Rattle.vod_bits.specs.Value.{bits_of}
use Rattle.vod_design.specs.declared.parts.Block.{Block}
use Rattle.vod_design.specs.declared.parts.Driver.{Driver}
use Rattle.vod_design.specs.declared.parts.Initial.{Initial}
use Rattle.vod_design.specs.declared.parts.InitialAssign.{InitialAssign}
use Rattle.vod_design.specs.declared.parts.InitialTarget.{InitialTarget}
use Rattle.vod_design.specs.declared.parts.InitialTarget.TheVariants as target
use Rattle.vod_design.specs.declared.parts.Input.{Input}
use Rattle.vod_design.specs.declared.parts.Precision.{Precision}
use Rattle.vod_design.specs.declared.parts.Scope.{Scope}
use Rattle.vod_design.specs.declared.parts.Signal.{Signal}
use Rattle.vod_design.specs.declared.statement.Function.{Function}
use Rattle.vod_design.specs.declared.statement.Part.{Part}
use Rattle.vod_design.specs.declared.vector.Class.{Class}
use Rattle.vod_design.specs.declared.vector.Class.TheVariants.{Clock, Data}
use Rattle.vod_design.specs.Accepted.{IsAccepted, IsToDrive, IsToBegin, IsRanked, IsWaitedFor, BlockRuns, IndexInside, IndicesInside, WritesState}
use Rattle.vod_design.specs.Flat.{IsFlat, MemoryFits, DriverFits, BlockFits, FunctionFits, InitialFits, ParentFits}
use Rattle.vod_design.specs.Netlist.{Netlist, EachOnce, IsNet, IsInput, width_in, variable_widths}
use Rattle.vod_design.specs.Nets.{IsEdgeNet, Copies, FollowsClass, ReadsNet}
use Rattle.vod_design.specs.Uses.{Assignment, uses, assignments}
use Rattle.rows_idle.specs.Idle.{numbers, input_of, clamped, initial_of, idle, SignalIsFine, IsFine}
use Rattle.rows_idle.proofs.Numbers.{IsOne, Is, numbers_are, numbers_have, numbers_once, numbers_few, parents_at}

-- the same kind, where the number is counted from 0
one_at : (r : Bool) (ss : List Signal) (m : ℕ) → Is r 0 ss m → IsOne r ss m
one_at r ss m i = subst (IsOne r ss) (sym (zero-add i.n) ∙ sym i.is) i.one

are_ones : (r : Bool) (ss : List Signal) → All (IsOne r ss) (numbers r 0 ss)
are_ones r ss k d lt = one_at r ss _ (numbers_are r 0 ss k d lt)

has_one : (r : Bool) (ss : List Signal) (n : ℕ) → IsOne r ss n → Contains (numbers r 0 ss) n
has_one r ss n is = subst (Contains (numbers r 0 ss)) (zero-add n) (numbers_have r 0 ss n is)

-- the width of such a signal is a size
pub record IsWide (w : ℕ) : Type 0 where
  pub some : 1 ≤ w
  pub few : w ≤ WIDTH

wide : (k : ℕ) (r : Bool) (ss : List Signal) (n : ℕ) → All (SignalIsFine k) ss → IsOne r ss n → IsWide (width_in ss n)
wide k r [] n fine is = absurd (cc)
wide k r (s ∷ ss) zero fine is = let f = All-head (SignalIsFine k) s ss fine in record { some = f.some; few = f.few }
wide k r (s ∷ ss) (suc n) fine is = wide k r ss n (All-tail (SignalIsFine k) s ss fine) is

clamped_is : (w : ℕ) → IsWide w → clamped w ≡ w
clamped_is w i = omega (arith, i.some, i.few)

-- a list under a map that keeps numbers apart
contains_map : {X Y : Type 0} (f : X → Y) (xs : List X) (x : X) → Contains xs x → Contains (map f xs) (f x)
contains_map f xs x c = (c.0, omega (arith, c.1, length-map xs f), get_or-map f xs c.0 x (f x) c.1 ∙ ap f c.2)

apart_map : {Y : Type 0} (f : ℕ → Y) (back : Y → ℕ) → ((n : ℕ) → back (f n) ≡ n) → (ns : List ℕ) → AllPairs (λ a b. a ≢ b) ns → AllPairs (λ x y. x ≢ y) (map f ns)
apart_map f back same ns apart i j e lt within equal =
    let size = length-map ns f in
    let one : get_or (map f ns) i e ≡ f (get_or ns i 0) = get_or-map f ns i 0 e (omega (arith, lt, within, size)) in
    let two : get_or (map f ns) j e ≡ f (get_or ns j 0) = get_or-map f ns j 0 e (omega (arith, within, size)) in
    apart i j 0 lt (omega (arith, within, size)) (sym (same (get_or ns i 0)) ∙ ap back (sym one ∙ equal ∙ two) ∙ same (get_or ns j 0))

signals_back : (ns : List ℕ) → map (λ (i : Input). i.signal) (map input_of ns) ≡ ns
signals_back [] = refl
signals_back (n ∷ ns) = ap (λ l. n ∷ l) (signals_back ns)

targets_back : (ss : List Signal) (ns : List ℕ) → flat_map (λ (i : Initial). map (λ (a : InitialAssign). a.target) i.assigns) (map (initial_of ss) ns) ≡ map target.Register ns
targets_back ss [] = refl
targets_back ss (n ∷ ns) = ap (λ l. target.Register n ∷ l) (targets_back ss ns)

abbrev number_of_target : InitialTarget → ℕ
number_of_target (target.Register n) = n
number_of_target (target.Word m place) = 0

-- an input of a class
abbrev input : ℕ → Class → Input
input n class = record { signal = n; class = class }

abbrev d : List Signal → List Scope → Precision → Netlist
d = idle

register_fits : (ss : List Signal) (is : List Scope) (p : Precision) (n : ℕ) → IsFine ss is → IsOne true ss n → InitialFits (d ss is p) (length (bits_of (clamped (width_in ss n)) 0)) (target.Register n)
register_fits ss is p n fine one = (one, width_back (clamped (width_in ss n)) 0 ∙ clamped_is (width_in ss n) (wide (length is) true ss n fine.signals one))

abbrev BeginFits : Netlist → Initial → Type 0
BeginFits net i = All (λ (a : InitialAssign). InitialFits net (length a.value) a.target) i.assigns

begin_fits : (ss : List Signal) (is : List Scope) (p : Precision) (n : ℕ) → IsFine ss is → IsOne true ss n → BeginFits (d ss is p) (initial_of ss n)
begin_fits ss is p n fine one =
    let a : InitialAssign = record { target = target.Register n; value = bits_of (clamped (width_in ss n)) 0 } in
    let P : InitialAssign → Type 0 = λ b. InitialFits (d ss is p) (length b.value) b.target in
    All-cons P a [] (register_fits ss is p n fine one) (All-nil P)

pub flat : (ss : List Signal) (is : List Scope) (p : Precision) → IsFine ss is → length (numbers false 0 ss) ≤ 1024 → IsFlat (idle ss is p)
flat ss is p fine few = record {
  top = fine.top;
  few_scopes = fine.few_scopes;
  few_signals = fine.few_signals;
  few_inputs = omega (arith, few, length-map (numbers false 0 ss) input_of);
  few_words = omega arith;
  few_drivers = omega arith;
  few_blocks = omega arith;
  few_initials = omega (arith, length-map (numbers true 0 ss) (initial_of ss), numbers_few true 0 ss, fine.few_signals);
  few_functions = omega arith;
  scopes = λ n parent e. subst (λ k. ParentFits k parent) (zero-add n) (parents_at 0 is n parent fine.parents e);
  signals = λ k s lt. let f = fine.signals k s lt in record { instance = f.instance; size = (f.some, f.few); range = f.range };
  inputs = All-map (λ (i : Input). IsNet (d ss is p) i.signal) input_of (numbers false 0 ss) (are_ones false ss);
  inputs_differ = λ i j e lt within equal. apart_map input_of (λ (k : Input). k.signal) (λ n. refl) (numbers false 0 ss) (numbers_once false 0 ss) i j e lt within (input_same _ _ (data_at ss i e (omega (arith, lt, within))) (data_at ss j e within) equal);
  memories = All-nil (MemoryFits (d ss is p));
  drivers = All-nil (DriverFits (d ss is p));
  blocks = All-nil (BlockFits (d ss is p));
  initials = All-map (BeginFits (d ss is p)) (initial_of ss) (numbers true 0 ss) (λ k e lt. begin_fits ss is p _ fine (are_ones true ss k e lt));
  functions = All-nil (FunctionFits (d ss is p));
} where
  input_same : (a b : Input) → a.class ≡ Data → b.class ≡ Data → a.signal ≡ b.signal → a ≡ b
  input_same a b x y e = ap (λ n. input n a.class) e ∙ ap (input b.signal) (x ∙ sym y)

  data_at : (ss : List Signal) (i : ℕ) (e : Input) → i < length (map input_of (numbers false 0 ss)) → (get_or (map input_of (numbers false 0 ss)) i e).class ≡ Data
  data_at ss i e lt = All-map (λ (k : Input). k.class ≡ Data) input_of (numbers false 0 ss) (λ k x less. refl) i e lt

-- all inputs are data, so there is no edge net
no_edge : (ss : List Signal) (is : List Scope) (p : Precision) (n : ℕ) → IsEdgeNet (d ss is p) n → ⊥
no_edge ss is p n edge =
    let all_data : All (λ (i : Input). i.class ≡ Data) (map input_of (numbers false 0 ss)) = All-map (λ (i : Input). i.class ≡ Data) input_of (numbers false 0 ss) (λ k e lt. refl) in
    edge.edge (subst (λ (i : Input). i.class ≡ Data) edge.stands.2 (all_data edge.stands.0 edge.input edge.stands.1))

net_is_input : (ss : List Signal) (is : List Scope) (p : Precision) (n : ℕ) → IsNet (d ss is p) n → IsInput (d ss is p) n
net_is_input ss is p n net = subst (λ ns. Contains ns n) (sym (signals_back (numbers false 0 ss))) (has_one false ss n net)

begins_all : (ss : List Signal) (is : List Scope) (p : Precision) (x : InitialTarget) → IsToBegin (d ss is p) x → Contains (map target.Register (numbers true 0 ss)) x
begins_all ss is p (target.Register n) to = contains_map target.Register (numbers true 0 ss) n (has_one true ss n to)
begins_all ss is p (target.Word m place) to = absurd (omega (arith, to))

begun : (ss : List Signal) (is : List Scope) (p : Precision) → EachOnce (IsToBegin (d ss is p)) (map target.Register (numbers true 0 ss))
begun ss is p = record {
  all = begins_all ss is p;
  only = All-map (IsToBegin (d ss is p)) target.Register (numbers true 0 ss) (are_ones true ss);
  once = apart_map target.Register number_of_target (λ n. refl) (numbers true 0 ss) (numbers_once true 0 ss);
}

no_split : (before later : List ℕ) (q : ℕ) → [] ≡ before ++ q ∷ later → ⊥
no_split [] later q e = absurd (cc)
no_split (x ∷ before) later q e = absurd (cc)

order : IsRanked [] []
order = record {
  each = record { all = λ n lt. absurd (omega arith); only = All-nil (λ n. n < 0); once = λ i j e lt within. absurd (omega arith) };
  size = refl;
  behind = λ before later p q e feed. absurd (no_split before later q e);
}

pub accepted : (ss : List Signal) (is : List Scope) (p : Precision) → IsFine ss is → length (numbers false 0 ss) ≤ 1024 → IsAccepted (idle ss is p) []
accepted ss is p fine few = record {
  flat = flat ss is p fine few;
  driver_indices = All-nil (λ (a : Driver). All (IndexInside (d ss is p) []) (uses a.value));
  block_indices = All-nil (λ (b : Block). IndicesInside (d ss is p) [] b.body);
  function_indices = All-nil (λ (f : Function). IndicesInside (d ss is p) (variable_widths f) f.body);
  writes = All-nil (λ (b : Block). All (λ (a : Assignment). All (λ (q : Part). WritesState (d ss is p) q.target) a.parts) (assignments b.body));
  driven = record {
    all = λ b to. absurd (to.free (net_is_input ss is p b.signal to.net));
    only = All-nil (IsToDrive (d ss is p));
    once = λ i j e lt within. absurd (omega arith);
  };
  owned = λ i j e lt within. absurd (omega arith);
  begun = subst (EachOnce (IsToBegin (d ss is p))) (sym (targets_back ss (numbers true 0 ss))) (begun ss is p);
  edge_bits = λ n edge. absurd (no_edge ss is p n edge);
  edge_readers = All-nil (λ (a : Driver). (n : ℕ) → IsEdgeNet (d ss is p) n → ReadsNet n a.value → (m : ℕ) × Copies n m a);
  clocks = All-nil (λ (b : Block). FollowsClass (d ss is p) Clock b.clock.signal);
  resets = All-nil (λ (b : Block). BlockRuns (d ss is p) b b.reset);
  classes = All-map (λ (i : Input). IsWaitedFor (d ss is p) i.class i.signal) input_of (numbers false 0 ss) (λ k e lt. tt);
  functions = λ n f e. absurd (cc);
  order = order;
}
