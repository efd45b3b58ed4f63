use Rattle.std.proofs.Common.{◌∙◌, ap, List, ℕ}
use Rattle.vod_thin.specs.declared.names.Kind.{Kind}
use Rattle.vod_thin.specs.View.{found}
use Rattle.vod_thin.proofs.NameLemmas.{kind_found}
use Rattle.vod_thin.proofs.names.Signals.kind.Goals as goal

pub returns : goal.returns
returns c = c.copied.ensures ∙ c.get.ensures.value ∙ kind_found c.args.name.now c.self.inside.table.entries ∙ ap (λ (es : List (List ℕ × Kind)). found es c.args.name.now) c.self.view_is
