use Rattle.std.proofs.Common.{map, take}
use Rattle.vod_operand.specs.Operands.{first}
use Rattle.vod_width.specs.Sizes.{look, sized_arguments}
use Rattle.vod_width.specs.View.{SeesParts, TreesAre, faults_of}
use Rattle.vod_width.proofs.expr.+look.Given as goal

abbrev pub invariant-look_parts-loop-e : goal.invariant-look_parts-loop-e
invariant-look_parts-loop-e l = SeesParts l.parts (map (look l.decls) (take l.e-index l.exprs))

abbrev pub invariant-look_arguments-loop-i : goal.invariant-look_arguments-loop-i
invariant-look_arguments-loop-i l = TreesAre l.trees (first (faults_of (map (look l.decls) (take l.i l.exprs)))) (sized_arguments l.inputs (map (look l.decls) (take l.i l.exprs)))
