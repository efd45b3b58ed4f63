-- The small design keeps all rules.
use Rattle.std.proofs.Common.{◌≡◌, ◌≢◌, ℕ, zero, suc, ◌<◌, ◌≤◌, Bool, true, false, List, [], ◌∷◌, ◌++◌, length, map, flat_map, slice_get, slice_index_or, Option, None, Some, refl, sym, subst, ◌∙◌, ap, arith, All}
use Rattle.std.proofs.lemmas.List.Elements.{All-nil, All-cons}
use Rattle.std.specs.List.{Contains, Any}
use Rattle.vod_bits.specs.Bit.{B0, B1}
use Rattle.vod_design.specs.declared.parts.Block.{Block}
use Rattle.vod_design.specs.declared.parts.Driver.{Driver}
use Rattle.vod_design.specs.declared.parts.InitialAssign.{InitialAssign}
use Rattle.vod_design.specs.declared.parts.InitialTarget.{InitialTarget}
use Rattle.vod_design.specs.declared.parts.InitialTarget.TheVariants as initial
use Rattle.vod_design.specs.declared.parts.Initial.{Initial}
use Rattle.vod_design.specs.declared.parts.Input.{Input}
use Rattle.vod_design.specs.declared.sized.Named.TheVariants as named
use Rattle.vod_design.specs.declared.sized.SizedExpr.{SizedExpr}
use Rattle.vod_design.specs.declared.sized.Variable.{Variable}
use Rattle.vod_design.specs.declared.sized.Variable.TheVariants as variable
use Rattle.vod_design.specs.declared.statement.Function.{Function}
use Rattle.vod_design.specs.declared.statement.Part.{Part}
use Rattle.vod_design.specs.declared.statement.Place.{Place}
use Rattle.vod_design.specs.declared.vector.Class.TheVariants.{Clock}
use Rattle.vod_design.specs.Flat.{IsFlat, IsSize, SignalFits, MemoryFits, ParentFits, UseFits, ExprFits, PartFits, StatementFits, BitFits, DriverFits, BlockFits, FunctionFits, SizeFits, InitialFits}
use Rattle.std.specs.List.{list_all, list_any}
use Rattle.std.proofs.Common.{◌&&◌, ◌||◌}
use Rattle.vod_design.specs.Feeds.{feeds, meets, is_read}
use Rattle.vod_design.specs.Functions.{Checked, checked, function_checked, assigned_at_entry, may_read, has_use, called_by, use_called, deepest, depth_of, depth_below}
use Rattle.vod_design.specs.Uses.{Use}
use Rattle.vod_design.specs.Accepted.{IsCallable, IsRanked, IsQuiet, IsWaitedFor, BlockRuns, IndexInside, PartInside, IndicesInside, WritesState, IsToDrive, IsToBegin, IsAccepted}
use Rattle.vod_design.specs.Netlist.{Netlist, IsNet, IsInput, IsRegister, word_count, initial_targets, signal_width, driven_bits, EachOnce, variable_width, variable_widths}
use Rattle.vod_design.specs.declared.read.Read.{Read}
use Rattle.vod_design.specs.declared.read.Read.TheVariants as read
use Rattle.vod_design.specs.Nets.{Touches, name_of, Copies, Follows, FollowsClass, IsEdgeNet, ReadsNet}
use Rattle.vod_design.specs.Uses.{Whole, Assignment, uses, assignments}
use Rattle.rows_cells.specs.Small as small
use Rattle.rows_cells.proofs.Exprs.{seen_whole, reads_whole, exprs_copy, assignment, assignments_copy, checked_copy, name_reads, name_read, all_one}

abbrev d : Netlist
d = small.small

one_bit : IsSize 1
one_bit = (omega arith, omega arith)

whole_fits : (locals : List ℕ) (x : Variable) → 1 ≤ variable_width d locals x → ExprFits d locals (small.whole x)
whole_fits locals x there = record {
  size = one_bit;
  fits = subst (All (UseFits d locals)) (sym (seen_whole x)) (all_one (UseFits d locals) (Whole (named.Variable x)) there);
}

copy_fits : (locals : List ℕ) (from to : Variable) → 1 ≤ variable_width d locals from → 1 ≤ variable_width d locals to → StatementFits d locals (small.copy from to)
copy_fits locals from to there here = record {
  exprs = subst (All (ExprFits d locals)) (sym (exprs_copy from to)) (all_one (ExprFits d locals) (small.whole from) (whole_fits locals from there));
  parts =
      let fits : PartFits d locals (small.whole from) (small.part_of to) = record { size = one_bit; inside = omega arith; target = here } in
      subst (All (λ (a : Assignment). All (PartFits d locals a.right) a.parts)) (sym (assignments_copy from to))
      (all_one (λ (a : Assignment). All (PartFits d locals a.right) a.parts) (assignment from to) (all_one (PartFits d locals (small.whole from)) (small.part_of to) fits));
}

signal_fits : (name : List ℕ) (register : Bool) → SignalFits d (small.signal name register)
signal_fits name register = record { instance = omega arith; size = one_bit; range = omega arith }

top_first : (n : ℕ) (parent : Option ℕ) → slice_get (map (λ s. s.parent) small.scopes) n ≡ Some parent → ParentFits n parent
top_first zero None e = refl
top_first zero (Some p) e = absurd (cc)
top_first (suc n) parent e = absurd (cc)

abbrev AssignFits : InitialAssign → Type 0
AssignFits a = InitialFits d (length a.value) a.target

abbrev BeginFits : Initial → Type 0
BeginFits i = All AssignFits i.assigns

register_fits : BeginFits (small.initial_of (initial.Register 2) B0)
register_fits = let fits : InitialFits d 1 (initial.Register 2) = (refl, refl) in all_one AssignFits (record { target = initial.Register 2; value = B0 ∷ [] }) fits

word_fits : BeginFits (small.initial_of (initial.Word 0 0) B1)
word_fits = let fits : InitialFits d 1 (initial.Word 0 0) = (omega arith, refl) in all_one AssignFits (record { target = initial.Word 0 0; value = B1 ∷ [] }) fits

signals_fit : All (SignalFits d) small.signals
signals_fit =
    let last : All (SignalFits d) (small.r ∷ []) = all_one (SignalFits d) small.r (signal_fits (114 ∷ []) true) in
    let more : All (SignalFits d) (small.q ∷ small.r ∷ []) = All-cons (SignalFits d) small.q (small.r ∷ []) (signal_fits (113 ∷ []) false) last in
    All-cons (SignalFits d) small.clk (small.q ∷ small.r ∷ []) (signal_fits (99 ∷ 108 ∷ 107 ∷ []) false) more

memory_fits : MemoryFits d small.m
memory_fits = record { instance = omega arith; size = one_bit; some = omega arith; range = omega arith }

driver_fits : DriverFits d small.shown
driver_fits = record { some = omega arith; target = all_one (BitFits d) (small.bit 1) (omega arith); value = whole_fits [] (variable.Signal 2) (omega arith) }

block_fits : BlockFits d small.kept
block_fits = record { clock = omega arith; reset = tt; body = copy_fits [] (variable.Signal 2) (variable.Signal 2) (omega arith) (omega arith) }

function_fits : FunctionFits d small.same
function_fits = record {
  instance = omega arith;
  some = omega arith;
  inputs = all_one SizeFits small.bit_size one_bit;
  locals = All-nil SizeFits;
  size = one_bit;
  body = copy_fits (1 ∷ 1 ∷ []) (variable.Local 0) (variable.Local 1) (omega arith) (omega arith);
}

pub flat : IsFlat d
flat = record {
  top = omega arith;
  few_scopes = omega arith;
  few_signals = omega arith;
  few_inputs = omega arith;
  few_words = omega arith;
  few_drivers = omega arith;
  few_blocks = omega arith;
  few_initials = omega arith;
  few_functions = omega arith;
  scopes = top_first;
  signals = signals_fit;
  inputs = all_one (λ (i : Input). IsNet d i.signal) small.clock refl;
  inputs_differ = λ i j e lt within. absurd (omega arith);
  memories = all_one (MemoryFits d) small.m memory_fits;
  drivers = all_one (DriverFits d) small.shown driver_fits;
  blocks = all_one (BlockFits d) small.kept block_fits;
  initials = All-cons BeginFits (small.initial_of (initial.Register 2) B0) (small.initial_of (initial.Word 0 0) B1 ∷ []) register_fits (all_one BeginFits (small.initial_of (initial.Word 0 0) B1) word_fits);
  functions = all_one (FunctionFits d) small.same function_fits;
}

-- each index is inside, as there is none
abbrev NoIndex : List ℕ → SizedExpr → Type 0
NoIndex locals e = All (IndexInside d locals) (uses e)

whole_inside : (locals : List ℕ) (x : Variable) → NoIndex locals (small.whole x)
whole_inside locals x = subst (All (IndexInside d locals)) (sym (seen_whole x)) (all_one (IndexInside d locals) (Whole (named.Variable x)) tt)

abbrev PartsInside : List ℕ → Assignment → Type 0
PartsInside locals a = All (λ (p : Part). PartInside d locals p.target) a.parts

copy_inside : (locals : List ℕ) (from to : Variable) → IndicesInside d locals (small.copy from to)
copy_inside locals from to = record {
  exprs = subst (All (NoIndex locals)) (sym (exprs_copy from to)) (all_one (NoIndex locals) (small.whole from) (whole_inside locals from));
  parts = subst (All (PartsInside locals)) (sym (assignments_copy from to))
      (all_one (PartsInside locals) (assignment from to) (all_one (λ (p : Part). PartInside d locals p.target) (small.part_of to) tt));
}

abbrev Writes : Assignment → Type 0
Writes a = All (λ (p : Part). WritesState d p.target) a.parts

register_written : All Writes (assignments (small.copy (variable.Signal 2) (variable.Signal 2)))
register_written = subst (All Writes) (sym (assignments_copy (variable.Signal 2) (variable.Signal 2)))
    (all_one Writes (assignment (variable.Signal 2) (variable.Signal 2)) (all_one (λ (p : Part). WritesState d p.target) (small.part_of (variable.Signal 2)) refl))

-- a number that is in a list of one
only_one : {A : Type 0} (x y : A) → Contains (x ∷ []) y → x ≡ y
only_one x y (zero, lt, e) = e
only_one x y (suc k, lt, e) = absurd (omega arith)

zero_is : (a b : ℕ) → a ≡ 0 → b ≡ 1 → a ≡ b → ⊥
zero_is a b f g e = omega arith

-- the bits to drive: that of `q`
abbrev place : ℕ → ℕ → Place
place n b = record { signal = n; bit = b }

to_drive : (n b : ℕ) → IsNet d n → (IsInput d n → ⊥) → b < signal_width d n → place 1 0 ≡ place n b
to_drive zero b net free inside = absurd (free (0, omega arith, refl))
to_drive (suc zero) b net free inside = let none : 0 ≡ b = omega arith in ap (place 1) none
to_drive (suc (suc zero)) b net free inside = absurd (cc)
to_drive (suc (suc (suc n))) b net free inside = absurd (cc)

here : {A : Type 0} (x y : A) → x ≡ y → Contains (x ∷ []) y
here x y e = (0, omega arith, e)

q_driven : EachOnce (IsToDrive d) (driven_bits d)
q_driven = record {
  all = λ b c. here (small.bit 1) b (to_drive b.signal b.bit c.net c.free c.inside);
  only = all_one (IsToDrive d) (small.bit 1) (record { net = refl; free = λ at. absurd (zero_is 0 1 refl refl (only_one 0 1 at)); inside = omega arith });
  once = λ i j e lt within. absurd (omega arith);
}

-- what is to begin: the register and the word
abbrev begins : List InitialTarget
begins = initial.Register 2 ∷ initial.Word 0 0 ∷ []

register_is : (n : ℕ) → IsRegister d n → Contains begins (initial.Register n)
register_is zero is = absurd (cc)
register_is (suc zero) is = absurd (cc)
register_is (suc (suc zero)) is = (0, omega arith, refl)
register_is (suc (suc (suc n))) is = absurd (cc)

word_is : (memory place : ℕ) → place < word_count d memory → Contains begins (initial.Word memory place)
word_is zero place lt = let none : 0 ≡ place = omega arith in (1, omega arith, ap (λ k. initial.Word 0 k) none)
word_is (suc memory) place lt = absurd (omega arith)

begins_all : (x : InitialTarget) → IsToBegin d x → Contains begins x
begins_all (initial.Register n) is = register_is n is
begins_all (initial.Word memory place) lt = word_is memory place lt

begins_once : (i j : ℕ) (e : InitialTarget) → i < j → j < length begins → slice_index_or begins i e ≢ slice_index_or begins j e
begins_once zero (suc zero) e lt within same = absurd (cc)
begins_once zero zero e lt within same = absurd (omega arith)
begins_once (suc i) zero e lt within same = absurd (omega arith)
begins_once (suc i) (suc zero) e lt within same = absurd (omega arith)
begins_once i (suc (suc j)) e lt within same = absurd (omega arith)

begun : EachOnce (IsToBegin d) (initial_targets d)
begun = record {
  all = begins_all;
  only = All-cons (IsToBegin d) (initial.Register 2) (initial.Word 0 0 ∷ []) refl (all_one (IsToBegin d) (initial.Word 0 0) (omega arith));
  once = begins_once;
}

-- the clock is followed by nothing but itself: the only driver reads the register
name_is : (n : ℕ) → name_of 2 ≡ name_of n → 2 ≡ n
name_is n e =
    let same : read.Whole 2 ∷ [] ≡ read.Whole n ∷ [] = sym (name_read 2) ∙ ap name_reads e ∙ name_read n in
    cc

copied_is : (from to : ℕ) (a : Driver) → Contains d.drivers a → Copies from to a → 2 ≡ from
copied_is from to a stands copies =
    let is : small.shown ≡ a = only_one small.shown a stands in
    name_is from (ap (λ (b : Driver). b.value.kind) is ∙ copies.value.kind)

clock_alone : (n : ℕ) → Follows d 0 n → 0 ≡ n
clock_alone n Follows.itself = refl
clock_alone n (Follows.copied {from} {to} {a} stands copies before) =
    let zero_from : 0 ≡ from = clock_alone from before in
    let two_from : 2 ≡ from = copied_is from to a stands copies in
    absurd (omega arith)

edge_is_clock : (n : ℕ) → IsEdgeNet d n → 0 ≡ n
edge_is_clock n edge =
    let is : small.clock ≡ edge.input = only_one small.clock edge.input edge.stands in
    clock_alone n (subst (λ (i : Input). Follows d i.signal n) (sym is) edge.follows)

touched : (n : ℕ) → Any (Touches n) (read.Whole 2 ∷ []) → 2 ≡ n
touched n (zero, x, lt, e, touches) = let P : Read → Type 0 = Touches n in subst P (sym e) touches
touched n (suc k, x, lt, e, touches) = absurd (omega arith)

-- the register isn't the clock
reads_register : (n : ℕ) → ReadsNet n (small.whole (variable.Signal 2)) → 2 ≡ n
reads_register n reading = touched n (subst (Any (Touches n)) (reads_whole (variable.Signal 2)) reading)

quiet : (n : ℕ) → IsEdgeNet d n → ReadsNet n (small.whole (variable.Signal 2)) → ⊥
quiet n edge reading =
    let clock : 0 ≡ n = edge_is_clock n edge in
    let register : 2 ≡ n = reads_register n reading in
    omega arith

clock_followed : FollowsClass d Clock 0
clock_followed = record { input = small.clock; stands = here small.clock small.clock refl; class_is = refl; follows = Follows.itself }

-- the function calls none, and assigns its result what was given
abbrev called : SizedExpr → List ℕ
called e = flat_map use_called (uses e)

none_called : called_by small.same.body ≡ []
none_called = ap (flat_map called) (exprs_copy (variable.Local 0) (variable.Local 1)) ∙ ap (λ (us : List Use). flat_map use_called us ++ []) (seen_whole (variable.Local 0))

may_read_input : may_read (assigned_at_entry small.same) (small.whole (variable.Local 0)) ≡ true
may_read_input = ap (list_all (has_use (assigned_at_entry small.same))) (seen_whole (variable.Local 0))

function_is_checked : function_checked small.same ≡ checked true (true ∷ true ∷ [])
function_is_checked =
    checked_copy (variable_widths small.same) (variable.Local 0) (variable.Local 1) (assigned_at_entry small.same)
    ∙ ap (λ b. checked (b && true) (true ∷ true ∷ [])) (ap (λ b. b && true) may_read_input)

depth_is : depth_of d.functions 0 ≡ 1
depth_is = ap (λ (ns : List ℕ). suc (deepest (map (depth_below d.functions 0) ns))) none_called

callable : (n : ℕ) (f : Function) → slice_get d.functions n ≡ Some f → IsCallable d.functions n f
callable zero f e =
    let same : small.same ≡ f = cc in
    subst (IsCallable d.functions 0) same (record {
      earlier = subst (All (λ m. m < 0)) (sym none_called) (All-nil (λ m. m < 0));
      shallow = omega (arith, depth_is);
      fine = ap (λ (c : Checked). c.fine) function_is_checked;
      result = ap (λ (c : Checked). slice_index_or c.after 1 false) function_is_checked;
    })
callable (suc n) f e = absurd (cc)

-- no driver feeds another
no_feed : (p q : ℕ) → feeds d.drivers p q ≡ true → ⊥
no_feed zero zero e =
    let reading : meets small.shown small.shown ≡ (list_any (is_read (small.bit 1)) (read.Whole 2 ∷ []) || false) =
    ap (λ (rs : List Read). list_any (is_read (small.bit 1)) rs || false) (reads_whole (variable.Signal 2)) in
    cc
no_feed zero (suc q) e = absurd (cc)
no_feed (suc p) zero e = absurd (cc)
no_feed (suc p) (suc q) e = absurd (cc)

zero_alone : (n : ℕ) → n < length d.drivers → Contains (0 ∷ []) n
zero_alone zero lt = here 0 0 refl
zero_alone (suc n) lt = absurd (omega arith)

ranked_one : EachOnce (λ n. n < length d.drivers) (0 ∷ [])
ranked_one = record { all = zero_alone; only = all_one (λ n. n < length d.drivers) 0 (omega arith); once = λ i j e lt within. absurd (omega arith) }

order : IsRanked d.drivers (0 ∷ [])
order = record { each = ranked_one; size = refl; behind = λ before later p q e feed. absurd (no_feed p q feed) }

block_inside : IndicesInside d [] small.kept.body
block_inside = copy_inside [] (variable.Signal 2) (variable.Signal 2)

block_quiet : BlockRuns d small.kept small.kept.reset
block_quiet = subst (All (IsQuiet d)) (sym (exprs_copy (variable.Signal 2) (variable.Signal 2))) (all_one (IsQuiet d) (small.whole (variable.Signal 2)) quiet)

-- the small design
pub accepted : IsAccepted d (0 ∷ [])
accepted = record {
  flat = flat;
  driver_indices = all_one (λ (a : Driver). All (IndexInside d []) (uses a.value)) small.shown (whole_inside [] (variable.Signal 2));
  block_indices = all_one (λ (b : Block). IndicesInside d [] b.body) small.kept block_inside;
  function_indices = all_one (λ (f : Function). IndicesInside d (variable_widths f) f.body) small.same (copy_inside (1 ∷ 1 ∷ []) (variable.Local 0) (variable.Local 1));
  writes = all_one (λ (b : Block). All Writes (assignments b.body)) small.kept register_written;
  driven = q_driven;
  owned = λ i j e lt within. absurd (omega arith);
  begun = begun;
  edge_bits = λ n edge. ap (signal_width d) (sym (edge_is_clock n edge));
  edge_readers = all_one (λ (a : Driver). (n : ℕ) → IsEdgeNet d n → ReadsNet n a.value → (m : ℕ) × Copies n m a) small.shown (λ n edge reading. absurd (quiet n edge reading));
  clocks = all_one (λ (b : Block). FollowsClass d Clock b.clock.signal) small.kept clock_followed;
  resets = all_one (λ (b : Block). BlockRuns d b b.reset) small.kept block_quiet;
  classes = all_one (λ (i : Input). IsWaitedFor d i.class i.signal) small.clock (0, small.kept, omega arith, refl, Follows.itself);
  functions = callable;
  order = order;
}
