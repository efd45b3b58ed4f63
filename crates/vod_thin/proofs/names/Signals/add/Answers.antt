use Rattle.std.proofs.Common.{◌≡◌, ◌∙◌, ap, sym, List, ℕ, map, not, Bool, true, false, refl}
use Rattle.std.specs.Option.{is_some}
use Rattle.vod_thin.specs.declared.names.Kind.{Kind}
use Rattle.vod_thin.proofs.NameLemmas.{absent_added, present_kept, entry_of}
use Rattle.vod_thin.specs.View.{with_entry}
use Rattle.vod_thin.proofs.names.Signals.add.Goals as goal

pub returns-in_ok-insert : goal.returns-in_ok-insert
returns-in_ok-insert c = ap (map entry_of) c.in_ok-insert.ensures.entries ∙ absent_added c.args.name c.args.kind c.self.inside.table.entries (sym c.contains_key.ensures ∙ c.if-not-contains_key.true) ∙ ap (λ (es : List (List ℕ × Kind)). with_entry es c.args.name.now c.args.kind) c.self.view_is

pub returns-else-not-contains_key : goal.returns-else-not-contains_key
returns-else-not-contains_key c = sym c.self.view_is ∙ present_kept c.args.name c.args.kind c.self.inside.table.entries (sym c.contains_key.ensures ∙ c.if-not-contains_key.false) ∙ ap (λ (es : List (List ℕ × Kind)). with_entry es c.args.name.now c.args.kind) c.self.view_is
