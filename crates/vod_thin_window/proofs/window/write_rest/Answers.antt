use Rattle.vod_io.specs.Told.{appended, Puts}
use Rattle.vod_thin_vcd.specs.Stream.{slot_text, printed_after}
use Rattle.std.proofs.Common.{List, ℕ, ◌∷◌, ◌∙◌, ◌≡◌, subst, sym, ap, arith}
use Rattle.vod_thin_design.specs.declared.thin.Vector.{Vector}
use Rattle.vod_thin_design.specs.Netlist.{Netlist}
use Rattle.vod_thin_queue.specs.State.{State}
use Rattle.vod_thin_queue.specs.Run.{IsSlot}
use Rattle.vod_thin_window.specs.Progress.{Awaits, Follows}
use Rattle.vod_thin_window.proofs.StepsLaws.{awaits_one}
use Rattle.vod_thin_window.proofs.WindowLaws.{follows_more, follows_close, follows_stops}
use Rattle.vod_thin_window.proofs.window.write_rest.Goals as goal

pub run_slot-requires : goal.run_slot-requires
run_slot-requires g c =
    let kept = c.loop-vector.invariant in
    let v = c.in-Some.vector.now in
    let awaits = subst (λ (r : List Vector). Awaits c.args.queue.now.design c.loop-vector.queue.state r) c.in-Some.ensures.1 kept.awaits in
    awaits_one c.loop-vector.queue.design c.loop-vector.queue.state v c.in-Some.behind.now (subst (λ (d : Netlist). Awaits d c.loop-vector.queue.state (v ∷ c.in-Some.behind.now)) (sym kept.design) awaits)

pub returns-in_err-slot-clause-written : goal.returns-in_err-slot-clause-written
returns-in_err-slot-clause-written g c =
    let kept = c.loop-vector.invariant in
    let t = c.loop-vector.queue.state in
    let u = c.run_slot.new.queue.state in
    let time = c.in-Some.vector.now.time in
    let mid = g.K.Sink.taken c.loop-vector.out in
    let now = g.K.Sink.taken c.slot.new.out in
    let only : (e : State) → IsSlot c.args.queue.now.design t c.in-Some.vector.now.moves e → e ≡ u =
    subst (λ d. (e : State) → IsSlot d t c.in-Some.vector.now.moves e → e ≡ u) kept.design c.run_slot.ensures.only in
    let text : slot_text c.loop-vector.writer.shown time c.values.result.now ≡ slot_text t.val time u.val =
    ap (λ w. slot_text w time c.values.result.now) kept.shown ∙ ap (λ w. slot_text t.val time w) c.values.ensures.values in
    let part : (left : List ℕ) × Puts mid now (slot_text t.val time u.val) left =
    subst (λ w. (left : List ℕ) × Puts mid now w left) text c.in_err-slot.ensures.written in
    λ ends h. follows_stops c.from_residual.result c.args.queue.now.design c.args.queue.now.state t u c.args.writer.now.printed c.args.to c.loop-vector.writer.printed c.args.vectors.now _ mid now c.in-Some.vector.now c.loop-vector.rest.now c.in-Some.behind.now
    kept.follows c.in-Some.ensures.1 c.in-Some.ensures.0 only c.from_residual.ensures.0 part ends h

pub loop-vector-preserved : goal.loop-vector-preserved
loop-vector-preserved g c =
    let kept = c.loop-vector.invariant in
    let t = c.loop-vector.queue.state in
    let u = c.run_slot.new.queue.state in
    let time = c.in-Some.vector.now.time in
    let mid = g.K.Sink.taken c.loop-vector.out in
    let now = g.K.Sink.taken c.slot.new.out in
    let last = c.loop-vector.writer.printed in
    let shown = c.in_ok-slot.ensures.shown in
    let only : (e : State) → IsSlot c.args.queue.now.design t c.in-Some.vector.now.moves e → e ≡ u =
    subst (λ d. (e : State) → IsSlot d t c.in-Some.vector.now.moves e → e ≡ u) kept.design c.run_slot.ensures.only in
    let taken : now ≡ appended mid (slot_text t.val time u.val) =
    c.in_ok-slot.ensures.written ∙ ap (λ w. appended mid (slot_text w time c.values.result.now)) kept.shown ∙ ap (λ w. appended mid (slot_text t.val time w)) c.values.ensures.values in
    let printed : printed_after t.val last time u.val ≡ c.slot.new.self.printed =
    sym (ap (λ p. p.printed) shown ∙ ap (λ w. printed_after w last time c.values.result.now) kept.shown ∙ ap (λ w. printed_after t.val last time w) c.values.ensures.values) in
    let more = follows_more c.args.queue.now.design c.args.queue.now.state t u c.args.writer.now.printed c.args.to last c.args.vectors.now _ mid now c.in-Some.vector.now c.loop-vector.rest.now c.in-Some.behind.now
    kept.follows c.in-Some.ensures.1 c.in-Some.ensures.0 only taken in
    record {
      design = c.run_slot.ensures.design ∙ kept.design;
      awaits = subst (λ (d : Netlist). Awaits d u c.in-Some.behind.now) kept.design
          (c.run_slot.ensures.awaits c.in-Some.behind.now (subst (λ (d : Netlist). Awaits d t (c.in-Some.vector.now ∷ c.in-Some.behind.now)) (sym kept.design)
          (subst (λ (r : List Vector). Awaits c.args.queue.now.design t r) c.in-Some.ensures.1 kept.awaits)));
      shown = ap (λ p. p.shown) shown ∙ c.values.ensures.values;
      signals = ap (λ p. p.signals) shown ∙ kept.signals;
      follows = subst (λ w. Follows c.args.queue.now.design c.args.queue.now.state c.args.writer.now.printed c.args.vectors.now c.args.to (g.K.Sink.taken c.args.out.now) u w c.in-Some.behind.now now) printed more;
      counted = omega (arith, kept.counted, c.in_ok-slot.ensures.caused.later);
    }

pub returns-clause-written : goal.returns-clause-written
returns-clause-written g c =
    let kept = c.loop-vector.invariant in
    let over = rw c.in_default.is at c.due.ensures in
    λ ends h. follows_close c.finish.result c.args.queue.now.design c.args.queue.now.state c.loop-vector.queue.state c.args.writer.now.printed c.args.to c.loop-vector.writer.printed c.args.vectors.now _ _ _ c.loop-vector.rest.now kept.follows over c.finish.ensures.written ends h
