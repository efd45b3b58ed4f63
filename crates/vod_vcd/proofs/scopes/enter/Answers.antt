-- The lines of an instance, with its children and its end left, are all of it.
use Rattle.std.proofs.Common.{length, [], get_or, slice_index_or, ◌∙◌, ap}
use Rattle.vod_design.specs.Netlist.{Netlist}
use Rattle.vod_vcd.proofs.Instances.{fan_out-at, fan_out-length, signals-are, children-below, readers-children, name-at, enter-text}
use Rattle.vod_vcd.proofs.scopes.enter.Goals as goal

pub of-requires : goal.of-requires
of-requires c = rw (c.requires.members.signals, fan_out-length) c.requires.inside

pub add_variables-requires-clause-inside : goal.add_variables-requires-clause-inside
add_variables-requires-clause-inside c =
    rw (c.of.ensures, c.requires.members.signals, fan_out-at _ c.args.number _ c.requires.inside, c.signals.ensures) (signals-are c.args.design.now.netlist c.args.number)

pub of-requires-2 : goal.of-requires-2
of-requires-2 c = rw (c.requires.members.children, fan_out-length) c.requires.inside

pub push_children-requires-clause-inside : goal.push_children-requires-clause-inside
push_children-requires-clause-inside c =
    rw (c.of-2.ensures, c.requires.members.children, fan_out-at _ c.args.number _ c.requires.inside, readers-children)
    (λ k e lt. (children-below c.args.design.now.netlist c.args.number c.requires.flat k e lt).1)

pub returns-clause-text : goal.returns-clause-text
returns-clause-text c =
    let d : Netlist = c.args.design.now.netlist in
    let name = c.as_slice.ensures ∙ ap (λ ss. (get_or ss c.args.number c.index-scopes-number.result).name) c.scopes.ensures ∙ name-at d c.args.number c.index-scopes-number.result c.requires.inside in
    let numbers = c.of.ensures ∙ ap (λ t. slice_index_or t c.args.number []) c.requires.members.signals ∙ fan_out-at (length d.scopes) c.args.number _ c.requires.inside in
    let children = c.of-2.ensures ∙ ap (λ t. slice_index_or t c.args.number []) c.requires.members.children ∙ fan_out-at (length d.scopes) c.args.number _ c.requires.inside in
    rw (c.in_ok-push_children.ensures.text, c.in_ok-push.ensures.items, c.in_ok-add_variables.ensures, c.in_ok-add_scope.ensures, c.signals.ensures)
    (enter-text d c.args.number c.args.text.now.items _ _ _ c.args.steps.now.items c.requires.flat c.requires.inside name numbers children)
