-- The steps give the value of an expression that calls no function.
use Rattle.std.proofs.Common.{◌≤◌, [], length, map, sym, ◌∙◌, ap, subst, arith}
use Rattle.std.proofs.lemmas.List.{length-map}
use Rattle.vod_design.specs.declared.sized.SizedExpr.{SizedExpr}
use Rattle.vod_design.specs.Run.{eval}
use Rattle.vod_compiled.specs.Code.{room}
use Rattle.vod_compiled.proofs.Value.{flat_value}
use Rattle.vod_compiled.proofs.compiled.Compiled.value.Goals as goal

pub returns-then-self : goal.returns-then-self
returns-then-self g c =
    let fill = g.V.Value.fill in
    let values = g.T.Tables.values c.args.tables.now in
    let cells = map g.V.Value.bits c.args.cells.now in
    let e = c.self.inside.expr.now in
    let fits : room c.args.functions.now e ≤ length cells =
    (let P : SizedExpr → Type 0 = λ x. room c.args.functions.now x ≤ length cells in
    let whole : room c.args.functions.now c.args.self.now ≤ length cells = omega (arith, c.requires, length-map c.args.cells.now g.V.Value.bits) in
    subst P (sym c.self.view_is) whole) in
    let here = flat_value fill values c.args.functions.now e cells (map g.V.Value.bits c.run.new.cells) c.self.inside.value c.deref.result.now c.self.inside.flat
    c.if-self.true c.self.invariant.0 c.self.invariant.1 (c.deref.ensures.value ∙ c.self.invariant.2) fits c.run.ensures in
    c.input.ensures ∙ here ∙ ap (λ (x : SizedExpr). eval fill c.args.functions.now values [] x) c.self.view_is
