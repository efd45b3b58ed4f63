-- The place of the name among the keys is that of the input.
use Rattle.vod_thin_script.proofs.Names.{no_input, input_at}
use Rattle.vod_thin_script.proofs.inputs.Inputs.find.Goals as goal

pub returns-in_err-index-clause-none : goal.returns-in_err-index-clause-none
returns-in_err-index-clause-none c =
    rw (c.from_residual.ensures, ← c.self.view_is)
    (no_input c.self.inside.design.now _ _ _ c.self.invariant.0 c.get_index_of.ensures.index c.in_err-index.was)

pub returns-clause-found : goal.returns-clause-found
returns-clause-found c =
    rw (← c.self.view_is) (input_at c.self.inside.design.now _ _ _ _ c.self.invariant.0 c.get_index_of.ensures.index c.in_ok-index.was)
