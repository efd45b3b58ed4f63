use Rattle.std.proofs.Common.{◌∙◌, ap, List, ℕ, position, Bor}
use Rattle.std.specs.List.{position_or_len}
use Rattle.std.specs.Map.{keys_of}
use Rattle.std.specs.Option.{unwrap_or}
use Rattle.std.specs.Str.{bytes_eq}
use Rattle.vod_thin.specs.declared.names.Kind.{Kind}
use Rattle.vod_thin.proofs.NameLemmas.{number_found}
use Rattle.vod_thin.proofs.names.Signals.number.Goals as goal

pub returns-clause-number : goal.returns-clause-number
returns-clause-number c =
    c.unwrap_or.ensures ∙ ap (λ o. unwrap_or o c.len.result) c.get_index_of.ensures.index ∙ ap (unwrap_or (position (λ (k : Bor (List ℕ)). bytes_eq c.args.name.now k.now) (keys_of c.self.inside.table.entries))) c.len.ensures.len
    ∙ number_found c.args.name.now c.self.inside.table.entries ∙ ap (λ (es : List (List ℕ × Kind)). position_or_len (λ e. bytes_eq c.args.name.now e.0) es) c.self.view_is
