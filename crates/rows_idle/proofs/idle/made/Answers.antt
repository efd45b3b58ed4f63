use Rattle.std.proofs.Common.{◌≤◌, length, false, ap, arith}
use Rattle.std.proofs.lemmas.List.{length-map}
use Rattle.rows_idle.specs.Idle.{numbers, input_of}
use Rattle.rows_idle.proofs.Accepted.{flat, accepted}
use Rattle.rows_idle.proofs.idle.made.Goals as goal

pub invariant_of-draft : goal.invariant_of-draft
invariant_of-draft c =
    let few : length (numbers false 0 c.args.signals.items) ≤ 1024 = omega (arith, c.requires.few, ap length c.requires.inputs, length-map (numbers false 0 c.args.signals.items) input_of) in
    rw (c.requires.inputs, c.requires.initials, c.new.ensures.items, c.new-2.ensures.items, c.new-3.ensures.items, c.new-4.ensures.items)
    (flat c.args.signals.items c.args.scopes.items c.args.precision c.requires.fine few)

pub of-requires : goal.of-requires
of-requires c =
    let few : length (numbers false 0 c.args.signals.items) ≤ 1024 = omega (arith, c.requires.few, ap length c.requires.inputs, length-map (numbers false 0 c.args.signals.items) input_of) in
    rw (c.new-6.ensures, c.new-5.ensures.items, c.requires.inputs, c.requires.initials, c.new.ensures.items, c.new-2.ensures.items, c.new-3.ensures.items, c.new-4.ensures.items)
    (accepted c.args.signals.items c.args.scopes.items c.args.precision c.requires.fine few)
