-- What a block keeps until updates are activated: it waits and has none, or what it has and what is left of it are what its body leaves.
use Rattle.std.proofs.Common.{◌≡◌, ◌⊎◌, inl, inr, ℕ, ◌||◌, Bool, true, false, List, [], ◌∷◌, ◌++◌, ap, sym, ◌∙◌, subst, ⊎_elim, All, Option, Some, None, append_assoc}
use Rattle.std.proofs.lemmas.List.Elements.{All-head, All-tail, All-append, All-weaker}
use Rattle.vod_bits.specs.Bit.{Bit}
use Rattle.vod_design.specs.declared.parts.Block.{Block}
use Rattle.vod_design.specs.declared.parts.Edge.{Edge}
use Rattle.vod_design.specs.declared.sized.SizedExpr.{SizedExpr}
use Rattle.vod_design.specs.declared.statement.Statement.{Statement}
use Rattle.vod_design.specs.declared.statement.Statement.TheViews.{out-Statement}
use Rattle.vod_design.specs.Netlist.{Netlist}
use Rattle.vod_design.specs.Uses.{exprs, written_by}
use Rattle.vod_slot.specs.Store.{Store}
use Rattle.vod_slot.specs.State.{Update}
use Rattle.vod_slot.specs.Step.{next_after, updates_of, begun, operand}
use Rattle.vod_slot.specs.Edges.{edge_bit}
use Rattle.vod_slot.specs.Room.{reset_nets, nets_of}
use Rattle.vod_slot.proofs.Lists.{all_none, all_one}
use Rattle.vod_slot.proofs.Outside.{begun_none}
use Rattle.vod_slot.proofs.Room.{IsBetween}
use Rattle.vod_slot.proofs.Starts.{is_change, no_change, had_edge, had_reset, had_start, SameReset, HasOneEdge, IsTurn, rests, begins, never}
use Rattle.vod_slot.proofs.Bodies.{Value, Agrees, ExprsAre, all_updates, stack_updates, one_step, one_body, exprs_kept, next_agrees, updates_agree}
use Rattle.vod_slot.proofs.Owned.{StatementOf, UpdateOf, body_of, next_owned, updates_owned}
use Rattle.vod_slot.proofs.Own.{ReadsOwn, IsReset, tested}

-- the values that a block's body is run over
abbrev pub value_in : Netlist → Store → (ℕ → Bit) → Block → Value
value_in d opening e b = operand d (tested opening e b.reset)

pub record IsRunning (d : Netlist) (b : Block) (value : Value) (todo : List Statement) (later : List Update) : Type 0 where
  pub reads : All (ExprsAre (ReadsOwn d b.reset)) todo
  pub assigns : All (StatementOf (written_by b.body)) todo
  pub owned : All (UpdateOf (written_by b.body)) later
  pub leaves : later ++ stack_updates value todo ≡ all_updates value b.body

-- by whether it had its edge
abbrev pub IsStage : Netlist → Block → Value → Bool → List Statement → List Update → Type 0
IsStage d b value true todo later = IsRunning d b value todo later
IsStage d b value false todo later = (todo ≡ []) × (later ≡ [])

-- the net of its reset has what is brought then

not_here : (o e : ℕ → Bit) (store : Store) (x : Edge) → IsBetween o e store x.signal → had_edge o (edge_bit store) x ≡ true → edge_bit store x.signal ≡ e x.signal
not_here o e store x between is = ⊎_elim (λ old. let clash : true ≡ false = sym is ∙ ap (is_change x (o x.signal)) old ∙ no_change x (o x.signal) in absurd (cc)) (λ new. new) between.value

same_there : (o e : ℕ → Bit) (store : Store) (x : Edge) → IsBetween o e store x.signal → o x.signal ≡ e x.signal → edge_bit store x.signal ≡ e x.signal
same_there o e store x between same = ⊎_elim (λ old. old ∙ same) (λ new. new) between.value

or_second : (a b : Bool) → (a || b) ≡ true → a ≡ false → b ≡ true
or_second true b h e = absurd (cc)
or_second false b h e = h

reset_at : (o e : ℕ → Bit) (store : Store) (clock : Edge) (reset : Option Edge) → (o clock.signal ≡ e clock.signal) ⊎ SameReset o e reset → IsBetween o e store clock.signal → All (IsBetween o e store) (reset_nets reset) → (had_edge o (edge_bit store) clock || had_reset o (edge_bit store) reset) ≡ true →
    IsReset e store reset
reset_at o e store clock None one first rest is = tt
reset_at o e store clock (Some x) (inl same) first rest is = not_here o e store x (All-head (IsBetween o e store) x.signal [] rest) (or_second (had_edge o (edge_bit store) clock) (had_edge o (edge_bit store) x) is (never o e store clock same first))
reset_at o e store clock (Some x) (inr same) first rest is = same_there o e store x (All-head (IsBetween o e store) x.signal [] rest) same

pub reset_there : (o e : ℕ → Bit) (store : Store) (b : Block) → HasOneEdge o e b → All (IsBetween o e store) (nets_of b) → had_start o (edge_bit store) b ≡ true → IsReset e store b.reset
reset_there o e store b one between is =
    reset_at o e store b.clock b.reset one (All-head (IsBetween o e store) b.clock.signal (reset_nets b.reset) between) (All-tail (IsBetween o e store) b.clock.signal (reset_nets b.reset) between) is

-- where an edge may come

pub stage_turn : (d : Netlist) (b : Block) (value : Value) (comes before then_ : Bool) (todo : List Statement) (later : List Update) → All (ReadsOwn d b.reset) (exprs b.body) → IsTurn comes before then_ → IsStage d b value before todo later → IsStage d b value then_ (begun comes b todo) later
stage_turn d b value comes before then_ todo later own (rests none same) stage =
    subst (λ x. IsStage d b value x (begun comes b todo) later) (sym same) (subst (λ ss. IsStage d b value before ss later) (sym (begun_none comes b todo none)) stage)
stage_turn d b value comes before then_ todo later own (begins is was now) stage =
    let waits : (todo ≡ []) × (later ≡ []) = subst (λ x. IsStage d b value x todo later) was stage in
    let body : begun comes b todo ≡ b.body ∷ [] = ap (λ x. begun x b todo) is ∙ ap (begun true b) waits.0 in
    let running : IsRunning d b value (b.body ∷ []) []
    = record {
      reads = all_one (ExprsAre (ReadsOwn d b.reset)) b.body own;
      assigns = all_one (StatementOf (written_by b.body)) b.body (body_of b.body);
      owned = all_none (UpdateOf (written_by b.body));
      leaves = one_body value b.body;
    } in
    subst (λ x. IsStage d b value x (begun comes b todo) later) (sym now) (subst (λ us. IsRunning d b value (begun comes b todo) us) (sym waits.1) (subst (λ ss. IsRunning d b value ss []) (sym body) running))

-- a statement runs

pub stage_ran : (d : Netlist) (b : Block) (value here : Value) (s : Statement) (ss : List Statement) (later : List Update) → ((e : SizedExpr) → ReadsOwn d b.reset e → Agrees here value e) → IsRunning d b value (s ∷ ss) later →
    IsRunning d b value (next_after here (out-Statement s) ++ ss) (later ++ updates_of here (out-Statement s))
stage_ran d b value here s ss later agrees r =
    let x = out-Statement s in
    let ws = written_by b.body in
    let own : ExprsAre (ReadsOwn d b.reset) s = All-head (ExprsAre (ReadsOwn d b.reset)) s ss r.reads in
    let same : ExprsAre (Agrees here value) s = All-weaker (ReadsOwn d b.reset) (Agrees here value) agrees (exprs s) own in
    let assigns = All-head (StatementOf ws) s ss r.assigns in
    let new = updates_of value x in
    let next = next_after value x in
    record {
      reads = All-append (ExprsAre (ReadsOwn d b.reset)) (next_after here x) ss (exprs_kept (ReadsOwn d b.reset) here s own) (All-tail (ExprsAre (ReadsOwn d b.reset)) s ss r.reads);
      assigns = All-append (StatementOf ws) (next_after here x) ss (next_owned ws here s assigns) (All-tail (StatementOf ws) s ss r.assigns);
      owned = All-append (UpdateOf ws) later (updates_of here x) r.owned (updates_owned ws here s assigns);
      leaves = ap (λ us. (later ++ us) ++ stack_updates value (next_after here x ++ ss)) (updates_agree here value s same)
          ∙ ap (λ ts. (later ++ new) ++ stack_updates value (ts ++ ss)) (next_agrees here value s same)
          ∙ append_assoc later new (stack_updates value (next ++ ss))
          ∙ ap (λ us. later ++ us) (sym (one_step value s ss))
          ∙ r.leaves;
    }
