use Rattle.vod_thin_window.proofs.FrontLaws.{front_written, front_begun}
use Rattle.vod_thin_window.proofs.law.window_of_front.Goals as goal

pub returns-clause-written : goal.returns-clause-written
returns-clause-written c = λ r more from to before after accepted lawful over le w.
    front_written r more from to before after lawful over le (c.orders_end.ensures.run_exists r.design _ accepted) w

pub returns-clause-begun : goal.returns-clause-begun
returns-clause-begun c = λ r more from to before after accepted lawful over le w. front_begun r more from to before after lawful over le w
