use Rattle.std.proofs.Common.{◌∙◌, ap, List, ℕ}
use Rattle.vod_thin.specs.Signals.{has_text}
use Rattle.vod_thin.proofs.NameLemmas.{key_named}
use Rattle.vod_thin.proofs.names.Names.has.Goals as goal

pub returns : goal.returns
returns c = c.contains.ensures ∙ key_named c.args.name.now c.self.inside.set.keys ∙ ap (λ (ns : List (List ℕ)). has_text ns c.args.name.now) c.self.view_is
