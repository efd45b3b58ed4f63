use Rattle.std.proofs.Common.{refl}
use Rattle.vod_operand.specs.Fits.{fits, unary, binary, shift, conditional, other}
use Rattle.vod_operand.proofs.refit.+fit.Goals as goal

pub fit_kind-returns-in_ok-a-in-Unary : goal.fit_kind-returns-in_ok-a-in-Unary
fit_kind-returns-in_ok-a-in-Unary t c = unary c.args.width c.args.signed c.args.kind _ c.in-Unary.op c.in-Unary.a c.in_ok-a-in-Unary.a c.in-Unary.is refl c.in_ok-a-in-Unary.ensures

pub fit_kind-returns-in_ok-b-in-Binary : goal.fit_kind-returns-in_ok-b-in-Binary
fit_kind-returns-in_ok-b-in-Binary t c =
    binary c.args.width c.args.signed c.args.kind _ c.in-Binary.op c.in-Binary.a c.in-Binary.b c.in_ok-a-in-Binary.a c.in_ok-b-in-Binary.b c.in-Binary.is refl c.in_ok-a-in-Binary.ensures c.in_ok-b-in-Binary.ensures

pub fit_kind-returns-in_ok-a-in-Shift : goal.fit_kind-returns-in_ok-a-in-Shift
fit_kind-returns-in_ok-a-in-Shift t c = shift c.args.width c.args.signed c.args.kind _ c.in-Shift.op c.in-Shift.a c.in_ok-a-in-Shift.a c.in-Shift.amount c.in-Shift.is refl c.in_ok-a-in-Shift.ensures

pub fit_kind-returns-in_ok-b-in-Conditional : goal.fit_kind-returns-in_ok-b-in-Conditional
fit_kind-returns-in_ok-b-in-Conditional t c =
    conditional c.args.width c.args.signed c.args.kind _ c.in-Conditional.test c.in-Conditional.a c.in-Conditional.b c.in_ok-a-in-Conditional.a c.in_ok-b-in-Conditional.b c.in-Conditional.is refl c.in_ok-a-in-Conditional.ensures
    c.in_ok-b-in-Conditional.ensures

pub fit_kind-returns-in_default : goal.fit_kind-returns-in_default
fit_kind-returns-in_default t c = other c.args.width c.args.signed c.args.kind c.in_default.not-Unary c.in_default.not-Binary c.in_default.not-Shift c.in_default.not-Conditional

pub fit_tree-returns : goal.fit_tree-returns
fit_tree-returns t c = fits c.args.width c.args.signed c.args.e _ refl refl refl c.in_ok-kind.ensures
