use Rattle.std.proofs.Common.{◌≡◌, ◌≤◌, ◌-◌, ◌∙◌, true, subst, arith}
use Rattle.vod_thin_queue.proofs.Choices.{active_of, active_is, chosen-move, chosen-evaluate, chosen-update, chosen-run, chosen-initialize, behind_five, perform-first, past_active, chosen-activate}
use Rattle.vod_thin_queue.specs.contracts.agenda.Agenda.{the_view}
use Rattle.vod_thin_queue.specs.declared.event.Event.TheVariants.{Activate}
use Rattle.vod_thin_queue.specs.Step.{is_allowed}
use Rattle.vod_thin_queue.proofs.agenda.Agenda.event.Goals as goal

pub returns-then-choice-moves-clause-chosen : goal.returns-then-choice-moves-clause-chosen
returns-then-choice-moves-clause-chosen c = chosen-move c.args.self.now _ c.self.view_is _ c.args.choice c.find.ensures.within c.find.ensures.some c.find.ensures.nth

pub returns-then-left-awake-clause-chosen : goal.returns-then-left-awake-clause-chosen
returns-then-left-awake-clause-chosen c =
    chosen-evaluate c.args.self.now _ c.self.view_is _ c.args.choice _ c.count-moves.ensures.count c.if-choice-moves.false c.find-then-left-awake.ensures.within c.find-then-left-awake.ensures.set c.find-then-left-awake.ensures.nth

pub returns-then-left-pending-clause-chosen : goal.returns-then-left-pending-clause-chosen
returns-then-left-pending-clause-chosen c =
    chosen-update c.args.self.now _ c.self.view_is _ c.args.choice _ _ c.count-moves.ensures.count c.count-awake.ensures.count c.if-choice-moves.false c.if-left-awake.false
    c.find-then-left-pending.ensures.within c.find-then-left-pending.ensures.some c.find-then-left-pending.ensures.nth

pub returns-then-left-statements-clause-chosen : goal.returns-then-left-statements-clause-chosen
returns-then-left-statements-clause-chosen c =
    chosen-run c.args.self.now _ c.self.view_is _ c.args.choice _ _ _ c.count-moves.ensures.count c.count-awake.ensures.count c.count-pending.ensures.count c.if-choice-moves.false c.if-left-awake.false c.if-left-pending.false
    c.find-then-left-statements.ensures.within c.find-then-left-statements.ensures.set c.find-then-left-statements.ensures.nth

pub returns-then-left-initials-clause-chosen : goal.returns-then-left-initials-clause-chosen
returns-then-left-initials-clause-chosen c =
    chosen-initialize c.args.self.now _ c.self.view_is _ c.args.choice _ _ _ _ c.count-moves.ensures.count c.count-awake.ensures.count c.count-pending.ensures.count c.count-statements.ensures.count
    c.if-choice-moves.false c.if-left-awake.false c.if-left-pending.false c.if-left-statements.false
    c.find-then-left-initials.ensures.within c.find-then-left-initials.ensures.set c.find-then-left-initials.ensures.nth

pub returns-then-left-count-clause-chosen : goal.returns-then-left-count-clause-chosen
returns-then-left-count-clause-chosen c =
    behind_five c.args.self.now _ c.self.view_is c.args.choice _ _ _ _ _ c.count-moves.ensures.count c.count-awake.ensures.count c.count-pending.ensures.count c.count-statements.ensures.count c.count-initials.ensures.count
    c.if-choice-moves.false c.if-left-awake.false c.if-left-pending.false c.if-left-statements.false c.if-left-initials.false
    ∙ perform-first (the_view c.self.inside) _ _ c.count.result c.count.ensures.count c.if-left-count.true c.find-then-left-count.ensures.within c.find-then-left-count.ensures.filled c.find-then-left-count.ensures.nth

pub returns-clause-chosen : goal.returns-clause-chosen
returns-clause-chosen c =
    let active = active_is (the_view c.self.inside) _ _ _ _ _ _ c.count-moves.ensures.count c.count-awake.ensures.count c.count-pending.ensures.count c.count-statements.ensures.count c.count-initials.ensures.count c.count.ensures.count in
    let le : active_of (the_view c.self.inside) ≤ c.args.choice = omega (arith, active) in
    let past = past_active c.args.self.now (the_view c.self.inside) c.self.view_is c.args.choice c.requires le in
    behind_five c.args.self.now _ c.self.view_is c.args.choice _ _ _ _ _ c.count-moves.ensures.count c.count-awake.ensures.count c.count-pending.ensures.count c.count-statements.ensures.count c.count-initials.ensures.count
    c.if-choice-moves.false c.if-left-awake.false c.if-left-pending.false c.if-left-statements.false c.if-left-initials.false
    ∙ chosen-activate (the_view c.self.inside) _ past.0 (omega (arith, past.1))

pub returns-clause-allowed : goal.returns-clause-allowed
returns-clause-allowed c =
    let active = active_is (the_view c.self.inside) _ _ _ _ _ _ c.count-moves.ensures.count c.count-awake.ensures.count c.count-pending.ensures.count c.count-statements.ensures.count c.count-initials.ensures.count c.count.ensures.count in
    let le : active_of (the_view c.self.inside) ≤ c.args.choice = omega (arith, active) in
    subst (λ s. is_allowed s Activate ≡ true) c.self.view_is (past_active c.args.self.now (the_view c.self.inside) c.self.view_is c.args.choice c.requires le).0
