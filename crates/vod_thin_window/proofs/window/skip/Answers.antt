use Rattle.std.proofs.Common.{List, ◌∷◌, ◌∙◌, ◌≡◌, subst, sym}
use Rattle.vod_thin_design.specs.declared.thin.Vector.{Vector}
use Rattle.vod_thin_design.specs.Netlist.{Netlist}
use Rattle.vod_thin_queue.specs.State.{State}
use Rattle.vod_thin_queue.specs.Run.{IsSlot}
use Rattle.vod_thin_window.specs.Progress.{Awaits}
use Rattle.vod_thin_window.proofs.StepsLaws.{awaits_one}
use Rattle.vod_thin_window.proofs.WindowLaws.{passes_more, passes_over}
use Rattle.vod_thin_window.proofs.window.skip.Goals as goal

pub run_slot-requires : goal.run_slot-requires
run_slot-requires c =
    let kept = c.loop-vector.invariant in
    let v = c.in-Some.vector.now in
    let awaits = subst (λ (r : List Vector). Awaits c.args.queue.now.design c.loop-vector.queue.state r) c.in-Some.ensures.1 kept.awaits in
    awaits_one c.loop-vector.queue.design c.loop-vector.queue.state v c.in-Some.behind.now (subst (λ (d : Netlist). Awaits d c.loop-vector.queue.state (v ∷ c.in-Some.behind.now)) (sym kept.design) awaits)

pub loop-vector-preserved : goal.loop-vector-preserved
loop-vector-preserved c =
    let kept = c.loop-vector.invariant in
    let whole = c.in-Some.ensures.1 in
    let v = c.in-Some.vector.now in
    let awaits = subst (λ (r : List Vector). Awaits c.args.queue.now.design c.loop-vector.queue.state r) whole kept.awaits in
    let only : (e : State) → IsSlot c.args.queue.now.design c.loop-vector.queue.state v.moves e → e ≡ c.run_slot.new.queue.state =
    subst (λ d. (e : State) → IsSlot d c.loop-vector.queue.state v.moves e → e ≡ c.run_slot.new.queue.state) kept.design c.run_slot.ensures.only in
    record {
      design = c.run_slot.ensures.design ∙ kept.design;
      awaits = subst (λ (d : Netlist). Awaits d c.run_slot.new.queue.state c.in-Some.behind.now) kept.design
          (c.run_slot.ensures.awaits c.in-Some.behind.now (subst (λ (d : Netlist). Awaits d c.loop-vector.queue.state (v ∷ c.in-Some.behind.now)) (sym kept.design) awaits));
      passes = passes_more c.args.queue.now.design c.args.queue.now.state c.loop-vector.queue.state c.run_slot.new.queue.state c.args.vectors.now c.args.from v c.loop-vector.rest.now c.in-Some.behind.now kept.passes whole c.in-Some.ensures.0 only;
    }

pub returns-clause-skips : goal.returns-clause-skips
returns-clause-skips c =
    let over = rw c.in_default.is at c.due.ensures in
    passes_over c.args.queue.now.design c.args.queue.now.state c.loop-vector.queue.state c.args.vectors.now c.args.from c.loop-vector.rest.now c.loop-vector.invariant.passes over
