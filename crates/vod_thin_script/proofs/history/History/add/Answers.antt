-- A vector that may follow is written over what the inputs have.
use Rattle.std.proofs.Common.{◌≡◌, ◌∙◌, arith, sym, ap, length, true, List}
use Rattle.vod_thin_design.specs.declared.thin.Bit.{Bit}
use Rattle.vod_thin_design.specs.declared.thin.Vector.{Vector}
use Rattle.vod_thin_script.specs.Held.{written, may_follow, known_after}
use Rattle.vod_thin_script.proofs.Following.{history_fresh, follow_is, follows, lawful_follows, history_more, inputs_within, written_over, pushed_last}
use Rattle.vod_thin_script.proofs.history.History.add.Goals as goal

pub may_follow-requires-clause-within : goal.may_follow-requires-clause-within
may_follow-requires-clause-within c =
    let form = rw (← c.self.view_is) at c.requires in
    rw c.deref_mut.ensures.value (inputs_within _ _ c.args.vector c.self.invariant.size form)

pub may_follow-requires-clause-fresh : goal.may_follow-requires-clause-fresh
may_follow-requires-clause-fresh c = λ none.
    rw c.deref_mut.ensures.value (history_fresh _ _ _ _ _ c.self.invariant (omega (arith, c.len-earlier.ensures, c.self.inside.vectors.ok.0)))

pub returns-then-not-may_follow-clause-refused : goal.returns-then-not-may_follow-clause-refused
returns-then-not-may_follow-clause-refused c =
    let form = rw (← c.self.view_is) at c.requires in
    let asked = follow_is c.self.inside.design.now _ _ c.self.inside.vectors.items _ _ c.self.inside.values.items _ c.args.vector c.inputs.ensures.items (omega (arith, c.len-earlier.ensures, c.self.inside.vectors.ok.0)) c.deref_mut.ensures.value c.may_follow.ensures.follows in
    rw (← c.self.view_is) (λ _ lawful.
    let may : may_follow c.self.inside.design.now.inputs (length c.self.inside.vectors.items) c.self.inside.last c.self.inside.values.items c.args.vector ≡ true = lawful_follows _ _ _ _ _ c.args.vector c.self.invariant form lawful in
    let no = c.if-not-may_follow.true in
    cc)

pub write-requires : goal.write-requires
write-requires c =
    let form = rw (← c.self.view_is) at c.requires in
    let kept = c.may_follow.ensures.kept ∙ c.deref_mut.ensures.value in
    let size : length c.may_follow.new.values ≡ c.self.inside.values.len = omega (arith, ap length kept, c.self.inside.values.ok.0) in
    let values : c.deref_mut-2.result.now ≡ c.self.inside.values.items = c.deref_mut-2.ensures.value ∙ written_over c.may_follow.new.values _ c.self.inside.values.len size ∙ kept in
    let last = pushed_last c.self.inside.vectors.items _ c.args.vector c.index.result.now c.len-earlier.result c.in_ok-push.ensures.items (omega (arith, c.len-earlier.ensures, c.self.inside.vectors.ok.0)) in
    let moves : c.as_slice.result.now ≡ c.args.vector.moves = c.as_slice.ensures ∙ ap (λ (v : Vector). v.moves) (c.index.ensures ∙ last) in
    rw (values, moves) (inputs_within _ _ c.args.vector c.self.invariant.size form)

pub invariant_of-self-2 : goal.invariant_of-self-2
invariant_of-self-2 c =
    let form = rw (← c.self.view_is) at c.requires in
    let earlier : c.len-earlier.result ≡ length c.self.inside.vectors.items = omega (arith, c.len-earlier.ensures, c.self.inside.vectors.ok.0) in
    let asked = follow_is c.self.inside.design.now _ _ c.self.inside.vectors.items _ _ c.self.inside.values.items _ c.args.vector c.inputs.ensures.items earlier c.deref_mut.ensures.value c.may_follow.ensures.follows in
    let lawful = follows _ _ _ _ _ c.args.vector c.self.invariant form (sym asked ∙ c.if-not-may_follow.false) in
    let kept = c.may_follow.ensures.kept ∙ c.deref_mut.ensures.value in
    let size : length c.may_follow.new.values ≡ c.self.inside.values.len = omega (arith, ap length kept, c.self.inside.values.ok.0) in
    let values : c.deref_mut-2.result.now ≡ c.self.inside.values.items = c.deref_mut-2.ensures.value ∙ written_over c.may_follow.new.values _ c.self.inside.values.len size ∙ kept in
    let last = pushed_last c.self.inside.vectors.items _ c.args.vector c.index.result.now c.len-earlier.result c.in_ok-push.ensures.items earlier in
    let moves : c.as_slice.result.now ≡ c.args.vector.moves = c.as_slice.ensures ∙ ap (λ (v : Vector). v.moves) (c.index.ensures ∙ last) in
    let whole : length c.write.new.values ≡ c.self.inside.values.len = omega (arith, c.write.ensures.same, ap length values, c.self.inside.values.ok.0) in
    let over = written_over c.write.new.values _ c.self.inside.values.len whole in
    let after = over ∙ c.write.ensures.values ∙ ap (λ bs. written bs c.as_slice.result.now) values ∙ ap (written c.self.inside.values.items) moves in
    rw c.in_ok-push.ensures.items
    (history_more _ _ _ _ _ c.args.vector c.self.invariant form lawful _ _ after (c.known_after-self-inside.ensures ∙ ap (λ (bs : List Bit). known_after c.self.inside.known bs c.args.vector.time) c.deref.ensures.value))

pub returns-clause-lawful : goal.returns-clause-lawful
returns-clause-lawful c =
    let form = rw (← c.self.view_is) at c.requires in
    let asked = follow_is c.self.inside.design.now _ _ c.self.inside.vectors.items _ _ c.self.inside.values.items _ c.args.vector c.inputs.ensures.items (omega (arith, c.len-earlier.ensures, c.self.inside.vectors.ok.0)) c.deref_mut.ensures.value c.may_follow.ensures.follows in
    rw (← c.self.view_is) (follows _ _ _ _ _ c.args.vector c.self.invariant form (sym asked ∙ c.if-not-may_follow.false))
