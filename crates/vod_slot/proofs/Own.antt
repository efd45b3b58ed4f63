-- What a body reads of edge nets: those that its block is reset by alone. So where that net and all else have their values, its
-- expressions do.
use Rattle.std.proofs.Common.{◌≡◌, ◌⊎◌, ℕ, zero, suc, ◌<◌, Bool, List, [], ◌∷◌, ◌++◌, length, get_or, arith, refl, ap, sym, ◌∙◌, subst, ⊎_elim, All, Option, Some, None, option_and_then, slice_get, get_or-set_other}
use Rattle.std.specs.List.{Contains, Any}
use Rattle.std.proofs.lemmas.Bool.{cases_eq}
use Rattle.std.proofs.lemmas.List.{append-nil}
use Rattle.std.proofs.lemmas.List.Elements.{All-cons, All-append, All-weaker, All-contains_itself}
use Rattle.std.proofs.lemmas.Option.{slice_get_within, get_or_from_slice_get}
use Rattle.vod_bits.specs.Bit.{Bit, BX}
use Rattle.vod_design.specs.declared.parts.Block.{Block}
use Rattle.vod_design.specs.declared.parts.Edge.{Edge}
use Rattle.vod_design.specs.declared.read.Read.{Read}
use Rattle.vod_design.specs.declared.read.Read.TheVariants.{Whole, Bits, Word, Ram}
use Rattle.vod_design.specs.declared.sized.SizedExpr.{SizedExpr}
use Rattle.vod_design.specs.declared.sized.SizedKind.TheOpen.{SizedKind-F}
use Rattle.vod_design.specs.declared.sized.SizedKind.TheFolds.{fold_out-SizedExpr}
use Rattle.vod_design.specs.declared.sized.UnaryOp.TheVariants as unary
use Rattle.vod_design.specs.declared.statement.Function.{Function}
use Rattle.vod_design.specs.declared.statement.Statement.{Statement}
use Rattle.vod_design.specs.declared.statement.Statement.TheOpen.{Statement-F}
use Rattle.vod_design.specs.Accepted.{IsAccepted, IsQuiet, BlockRuns}
use Rattle.vod_design.specs.Eval.{Calls, kind_bits, sized_operand, operand_of}
use Rattle.vod_design.specs.Netlist.{Netlist, signal_width}
use Rattle.vod_design.specs.Nets.{Touches, ReadsNet, Tests, rises, lacks, inverts, Resets, tests, begins, IsEdgeNet}
use Rattle.vod_design.specs.Reads.{reads, Agree}
use Rattle.vod_design.specs.Run.{call_below, eval}
use Rattle.vod_design.specs.Uses.{exprs}
use Rattle.vod_design.specs.Values.{Values, Frame, Operand, bounded, select_bits, value_at}
use Rattle.vod_slot.specs.Store.{Store, ToBit, bit_replaced, written, values_in}
use Rattle.vod_slot.specs.Step.{operand}
use Rattle.vod_slot.specs.Shape.{sizes, widths}
use Rattle.vod_slot.specs.Edges.{edge_bit}
use Rattle.vod_slot.proofs.Lists.{all_at}
use Rattle.vod_slot.proofs.Writes.{HangsOnReads}
use Rattle.vod_slot.proofs.Puts.{bit_at-written, sizes-written}
use Rattle.vod_slot.proofs.Targets.{width_at}
use Rattle.vod_slot.proofs.Paths.{place_in, kind_at, bit_reads}
use Rattle.vod_slot.proofs.Unique.{value_size}
use Rattle.vod_slot.proofs.Links.{lowest, edge_within, single}
use Rattle.vod_slot.proofs.Constants.{reset_reads}
use Rattle.vod_slot.proofs.Bodies.{exprs_rolled}

-- the net of a block's own reset
abbrev pub OwnNet : Option Edge → ℕ → Type 0
OwnNet None n = ⊥
OwnNet (Some x) n = n ≡ x.signal

abbrev pub ReadsOwn : Netlist → Option Edge → SizedExpr → Type 0
ReadsOwn d reset e = (n : ℕ) → IsEdgeNet d n → ReadsNet n e → OwnNet reset n

pub nothing_read : (n : ℕ) → Any (Touches n) [] → ⊥
nothing_read n any = absurd (let l = any.2 in omega arith)

one_read : (n m : ℕ) (rs : List Read) → rs ≡ Whole m ∷ [] → Any (Touches n) rs → n ≡ m
one_read n m rs is any = at any.0 any.1 (subst (λ xs. any.0 < length xs) is any.2) (subst (λ xs. get_or xs any.0 any.1 ≡ any.1) is any.3) any.4
  where
    at : (k : ℕ) (r : Read) → k < 1 → get_or (Whole m ∷ []) k r ≡ r → Touches n r → n ≡ m
    at zero r lt e touch = sym (subst (Touches n) (sym e) touch)
    at (suc k) r lt e touch = absurd (omega arith)

test_reads : (x : Edge) (e : SizedExpr) → Tests x e → reads e ≡ Whole x.signal ∷ []
test_reads x e (rises {n = n} bit) = bit_reads n e bit
test_reads x e (lacks {n = n} {net = net} kind bit) = kind_at e (SizedKind-F.LogicalNot net) kind ∙ bit_reads n net bit
test_reads x e (inverts {n = n} {net = net} width kind bit) = kind_at e (SizedKind-F.Unary unary.Not net) kind ∙ bit_reads n net bit

reset_own : (d : Netlist) (x : Edge) (taken other : Statement) (s : Statement) → Resets x taken other s → All (λ e. reads e ≡ []) (exprs taken) → All (IsQuiet d) (exprs other) → All (ReadsOwn d (Some x)) (exprs s)
reset_own d x taken other s (tests {test = test} t) none quiet =
    subst (All (ReadsOwn d (Some x))) (sym (exprs_rolled (Statement-F.If test taken other)))
    (All-cons (ReadsOwn d (Some x)) test (exprs taken ++ exprs other) (λ n net any. one_read n x.signal (reads test) (test_reads x test t) any)
    (All-append (ReadsOwn d (Some x)) (exprs taken) (exprs other)
    (All-weaker (λ e. reads e ≡ []) (ReadsOwn d (Some x)) (λ e is n net any. absurd (nothing_read n (subst (Any (Touches n)) is any))) (exprs taken) none)
    (All-weaker (IsQuiet d) (ReadsOwn d (Some x)) (λ e q n net any. absurd (q n net any)) (exprs other) quiet)))
reset_own d x taken other s (begins {s = inner} r) none quiet =
    subst (All (ReadsOwn d (Some x))) (sym (exprs_rolled (Statement-F.Begin (inner ∷ [])) ∙ append-nil (exprs inner))) (reset_own d x taken other inner r none quiet)

runs_own : (d : Netlist) (b : Block) (reset : Option Edge) → BlockRuns d b reset → All (ReadsOwn d reset) (exprs b.body)
runs_own d b None h = All-weaker (IsQuiet d) (ReadsOwn d None) (λ e q. q) (exprs b.body) h
runs_own d b (Some x) h = reset_own d x h.taken h.other b.body h.body (reset_reads h.taken h.in_reset) h.quiet

pub body_own : (d : Netlist) (ranked : List ℕ) → IsAccepted d ranked → (k : ℕ) (b : Block) → slice_get d.blocks k ≡ Some b → All (ReadsOwn d b.reset) (exprs b.body)
body_own d ranked h k b at = runs_own d b b.reset (all_at (λ (x : Block). BlockRuns d x x.reset) d.blocks k b h.resets at)

-- what it is tested over: what is stored as the slot opens, with the reset that is brought
abbrev pub tested : Store → (ℕ → Bit) → Option Edge → Store
tested store e None = store
tested store e (Some x) = written store (ToBit x.signal 0 (e x.signal))

-- the reset net has what is brought
abbrev pub IsReset : (ℕ → Bit) → Store → Option Edge → Type 0
IsReset e store None = Unit {0}
IsReset e store (Some x) = edge_bit store x.signal ≡ e x.signal

abbrev pub IsStill : Netlist → Store → Store → Type 0
IsStill d opening store = (n : ℕ) → (value_at BX store.signals n ≡ value_at BX opening.signals n) ⊎ IsEdgeNet d n

pub whole_value : (d : Netlist) (ranked : List ℕ) → IsAccepted d ranked → (store : Store) (n : ℕ) → sizes store ≡ widths d → IsEdgeNet d n → value_at BX store.signals n ≡ edge_bit store n ∷ []
whole_value d ranked h store n same net = let one : signal_width d n ≡ 1 = h.edge_bits n net in single (value_at BX store.signals n) (value_size store d n same (edge_within d n one) ∙ one)

abbrev pub ResetNet : Netlist → Option Edge → Type 0
ResetNet d None = Unit {0}
ResetNet d (Some x) = IsEdgeNet d x.signal

signal_agrees : (d : Netlist) (ranked : List ℕ) → IsAccepted d ranked → (e : ℕ → Bit) (opening store : Store) (reset : Option Edge) (ex : SizedExpr) (n : ℕ) → sizes opening ≡ widths d → sizes store ≡ widths d → ResetNet d reset → IsStill d opening store → IsReset e store reset → ReadsOwn d reset ex → ReadsNet n ex →
    value_at BX store.signals n ≡ value_at BX (tested opening e reset).signals n
signal_agrees d ranked h e opening store None ex n so ss net still reset own reads_it = ⊎_elim (λ same. same) (λ edge. absurd (own n edge reads_it)) (still n)
signal_agrees d ranked h e opening store (Some x) ex n so ss net still reset own reads_it =
    let w = ToBit x.signal 0 (e x.signal) in
    ⊎_elim
    (λ here. subst (λ m. value_at BX store.signals m ≡ value_at BX (written opening w).signals m) here
    (let one : signal_width d x.signal ≡ 1 = h.edge_bits x.signal net in
    let size : get_or (sizes opening) x.signal 0 ≡ 1 = there in
    let now : edge_bit (written opening w) x.signal ≡ e x.signal = bit_at-written opening (lowest x.signal) (e x.signal) (omega arith) in
    whole_value d ranked h store x.signal ss net ∙ ap (λ b. b ∷ []) (reset ∙ sym now) ∙ sym (whole_value d ranked h (written opening w) x.signal (sizes-written opening w ∙ so) net)))
    (λ apart. ⊎_elim
    (λ same. same ∙ sym (get_or-set_other opening.signals x.signal n (bit_replaced 0 (e x.signal) (value_at BX opening.signals x.signal)) (BX ∷ []) (λ f. apart (sym f))))
    (λ edge. absurd (apart (sym (own n edge reads_it))))
    (still n))
    (cases_eq x.signal n)
  where
    there : get_or (sizes opening) x.signal 0 ≡ 1
    there = ap (λ ns. get_or ns x.signal 0) so ∙ sym (width_at d.signals x.signal) ∙ h.edge_bits x.signal net

tested_memories : (store : Store) (e : ℕ → Bit) (reset : Option Edge) → (tested store e reset).memories ≡ store.memories
tested_memories store e None = refl
tested_memories store e (Some x) = refl

pub reads_any : (n : ℕ) (rs : List Read) (r : Read) → Contains rs r → Touches n r → Any (Touches n) rs
reads_any n rs r stands touch = let p = place_in rs r stands in (p.0, r, slice_get_within rs p.0 r p.1, get_or_from_slice_get rs p.0 r r p.1, touch)

read_agrees : (d : Netlist) (ranked : List ℕ) → IsAccepted d ranked → (e : ℕ → Bit) (opening store : Store) (reset : Option Edge) (ex : SizedExpr) (r : Read) → sizes opening ≡ widths d → sizes store ≡ widths d → ResetNet d reset → IsStill d opening store → IsReset e store reset → store.memories ≡ opening.memories → ReadsOwn d reset ex → Contains (reads ex) r →
    Agree BX (values_in store) (values_in (tested opening e reset)) r
read_agrees d ranked h e opening store reset ex (Whole n) so ss net still is same own stands = signal_agrees d ranked h e opening store reset ex n so ss net still is own (reads_any n (reads ex) (Whole n) stands refl)
read_agrees d ranked h e opening store reset ex (Bits n low width) so ss net still is same own stands =
    ap (select_bits BX low (bounded width)) (signal_agrees d ranked h e opening store reset ex n so ss net still is own (reads_any n (reads ex) (Bits n low width) stands refl))
read_agrees d ranked h e opening store reset ex (Word memory place) so ss net still is same own stands =
    ap (λ (ms : List (List (List Bit))). option_and_then (λ words. slice_get words place) (slice_get ms memory)) (same ∙ sym (tested_memories opening e reset))
read_agrees d ranked h e opening store reset ex (Ram memory) so ss net still is same own stands =
    λ place. ap (λ (ms : List (List (List Bit))). option_and_then (λ words. slice_get words place) (slice_get ms memory)) (same ∙ sym (tested_memories opening e reset))

abbrev operand_with : List Bit → Bool → Operand
operand_with bits signed = record { bits = bits; signed = signed }

sign_of : (fill : Bit) (calls : Calls) (values : Values) (frame : Frame) (e : SizedExpr) → (operand_of fill calls values frame e).signed ≡ e.signed
unfolding operand_of
sign_of fill calls values frame e = ap (λ (o : Operand). o.signed) (fold_out-SizedExpr (ℕ → Bool → List Bit) Operand (kind_bits fill calls values frame) sized_operand e)

same_operand : (fill : Bit) (functions : List Function) (u v : Values) (frame : Frame) (e : SizedExpr) → eval fill functions u frame e ≡ eval fill functions v frame e → operand_of fill (call_below fill functions (length functions)) u frame e ≡ operand_of fill (call_below fill functions (length functions)) v frame e
unfolding eval
same_operand fill functions u v frame e h =
    let calls = call_below fill functions (length functions) in
    ap (λ b. operand_with b (operand_of fill calls u frame e).signed) h ∙ ap (operand_with (operand_of fill calls v frame e).bits) (sign_of fill calls u frame e ∙ sym (sign_of fill calls v frame e))

-- so its expressions have the values that they have there
pub own_agrees : HangsOnReads → (d : Netlist) (ranked : List ℕ) → IsAccepted d ranked → (e : ℕ → Bit) (opening store : Store) (reset : Option Edge) (ex : SizedExpr) → sizes opening ≡ widths d → sizes store ≡ widths d → ResetNet d reset → IsStill d opening store → IsReset e store reset → store.memories ≡ opening.memories → ReadsOwn d reset ex →
    operand d store ex ≡ operand d (tested opening e reset) ex
own_agrees hangs d ranked h e opening store reset ex so ss net still is same own =
    same_operand BX d.functions (values_in store) (values_in (tested opening e reset)) [] ex
    (hangs BX d.functions (values_in store) (values_in (tested opening e reset)) [] ex
    (All-weaker (Contains (reads ex)) (Agree BX (values_in store) (values_in (tested opening e reset))) (λ r stands. read_agrees d ranked h e opening store reset ex r so ss net still is same own stands) (reads ex) (All-contains_itself (reads ex))))
