use Rattle.std.proofs.Common.{◌≡◌, ◌∙◌, ap, List, ℕ, Bool}
use Rattle.vod_token.specs.Nesting.{slice_of}
use Rattle.vod_thin_syntax.specs.View.{name_of}
use Rattle.vod_thin.specs.Tables.{tables_of, declares_wrongly, fault_at}
use Rattle.vod_thin.proofs.Leasts.{fault_least}
use Rattle.vod_thin.proofs.judge.Judge.signal_fault.Goals as goal

pub returns : goal.returns
returns c =
    let source : List ℕ = c.args.text.now.source.now in
    let test : c.declares_wrongly.result ≡ declares_wrongly (tables_of c.args.self.now) (slice_of source c.args.name) c.args.kind =
    c.declares_wrongly.ensures ∙ ap (λ (b : List ℕ). declares_wrongly (tables_of c.args.self.now) b c.args.kind) c.bytes.ensures in
    c.place_if.ensures ∙ ap (λ (b : Bool). fault_at b c.args.name.start) test ∙ fault_least (declares_wrongly (tables_of c.args.self.now) (slice_of source c.args.name) c.args.kind) (name_of source c.args.name)
