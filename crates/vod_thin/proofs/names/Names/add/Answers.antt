use Rattle.std.proofs.Common.{◌∙◌, ap, List, ℕ, map}
use Rattle.vod_thin.proofs.NameLemmas.{key_added, now_of}
use Rattle.vod_thin.specs.View.{with_text}
use Rattle.vod_thin.proofs.names.Names.add.Goals as goal

pub returns : goal.returns
returns c = ap (map now_of) c.in_ok-insert.ensures.keys ∙ key_added c.args.name c.self.inside.set.keys ∙ ap (λ (ns : List (List ℕ)). with_text ns c.args.name.now) c.self.view_is
