-- Values are the same where their fields are.
use Rattle.std.proofs.Common.{◌^◌, ◌<◌, sym, subst}
use Rattle.vod_vcd.proofs.Same.{field, different-same_value, same_value-unks}
use Rattle.vod_vcd.proofs.lines.is_same.Goals as goal

pub returns-then-a-b : goal.returns-then-a-b
returns-then-a-b c =
    rw (← c.a.view_is, ← c.b.view_is)
    (sym (different-same_value _ _ (λ same. c.if-a-b.true (field (λ w _ _. w) _ _ _ _ _ _ c.a.invariant.2 c.a.invariant.3 c.b.invariant.2 c.b.invariant.3 same))))

pub returns-then-a-b-2 : goal.returns-then-a-b-2
returns-then-a-b-2 c =
    rw (← c.a.view_is, ← c.b.view_is)
    (sym (different-same_value _ _ (λ same. c.if-a-b-2.true (field (λ _ o _. o) _ _ _ _ _ _ c.a.invariant.2 c.a.invariant.3 c.b.invariant.2 c.b.invariant.3 same))))

pub returns : goal.returns
returns c =
    let unks : c.b.inside.unks < 2 ^ c.a.inside.width = subst (λ w. c.b.inside.unks < 2 ^ w) (sym c.if-a-b.false) c.b.invariant.3 in
    rw (← c.a.view_is, ← c.b.view_is, ← c.if-a-b.false, ← c.if-a-b-2.false)
    (same_value-unks c.a.inside.width c.a.inside.ones c.a.inside.unks c.b.inside.unks c.a.invariant.2 c.a.invariant.3 unks)
