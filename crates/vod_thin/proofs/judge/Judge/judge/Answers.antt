use Rattle.std.proofs.Common.{◌≡◌, ◌++◌, ◌∙◌, ap, sym, List, ℕ, map}
use Rattle.vod_token.specs.declared.Token.{Token}
use Rattle.vod_thin_syntax.specs.declared.syntax.Port as code_port
use Rattle.vod_thin_syntax.specs.declared.syntax.Item as code_item
use Rattle.vod_thin_syntax.specs.Limit.{sooner}
use Rattle.vod_thin_syntax.specs.Syntax.{Mark, Module, Port, Item}
use Rattle.vod_thin_syntax.specs.View.{port_of, item_of, module_of}
use Rattle.vod_thin.specs.Rules.{least}
use Rattle.vod_thin.specs.Tables.{Tables, tables_of, no_tables, with_all_uses, with_ports, with_items, all_port_places, all_item_places}
use Rattle.vod_thin.proofs.Leasts.{least_append}
use Rattle.vod_thin.proofs.Matches.{module_same, module_signals, module_clocks}
use Rattle.vod_thin.proofs.judge.Judge.judge.Goals as goal

pub returns-clause-fault : goal.returns-clause-fault
returns-clause-fault c =
    let source : List ℕ = c.args.text.now.source.now in
    let ts : List Token = c.args.text.now.tokens.now in
    let m : Module (List Mark) = module_of source ts c.args.parsed.now in
    let t : Tables = tables_of c.add_all_uses.new.self in
    let uses : t ≡ with_all_uses no_tables m.items =
    c.in_ok-add_all_uses.ensures ∙ ap (λ (v : Tables). with_all_uses v (map (item_of source ts) c.deref.result.now)) c.requires
    ∙ ap (λ (xs : List code_item.Item). with_all_uses no_tables (map (item_of source ts) xs)) c.deref.ensures.value in
    let ports : c.in_ok-ports.ports ≡ least (all_port_places t m.ports) =
    c.in_ok-ports.ensures.first ∙ ap (λ (xs : List code_port.Port). least (all_port_places t (map (port_of source) xs))) c.deref-2.ensures.value in
    let behind : tables_of c.judge_ports.new.self ≡ with_ports t m.ports =
    c.in_ok-ports.ensures.tables ∙ ap (λ (xs : List code_port.Port). with_ports t (map (port_of source) xs)) c.deref-2.ensures.value in
    let items : c.in_ok-items.items ≡ least (all_item_places (with_ports t m.ports) m.items) =
    c.in_ok-items.ensures.first ∙ ap (λ (v : Tables). least (all_item_places v (map (item_of source ts) c.deref-3.result.now))) behind
    ∙ ap (λ (xs : List code_item.Item). least (all_item_places (with_ports t m.ports) (map (item_of source ts) xs))) c.deref-3.ensures.value in
    c.sooner.ensures ∙ ap (λ o. sooner o c.in_ok-items.items) ports ∙ ap (sooner (least (all_port_places t m.ports))) items
    ∙ sym (least_append (all_port_places t m.ports) (all_item_places (with_ports t m.ports) m.items)) ∙ ap least (module_same m t uses)

pub returns-clause-signals : goal.returns-clause-signals
returns-clause-signals c =
    let source : List ℕ = c.args.text.now.source.now in
    let ts : List Token = c.args.text.now.tokens.now in
    let m : Module (List Mark) = module_of source ts c.args.parsed.now in
    let t : Tables = tables_of c.add_all_uses.new.self in
    let uses : t ≡ with_all_uses no_tables m.items =
    c.in_ok-add_all_uses.ensures ∙ ap (λ (v : Tables). with_all_uses v (map (item_of source ts) c.deref.result.now)) c.requires
    ∙ ap (λ (xs : List code_item.Item). with_all_uses no_tables (map (item_of source ts) xs)) c.deref.ensures.value in
    let behind : tables_of c.judge_ports.new.self ≡ with_ports t m.ports =
    c.in_ok-ports.ensures.tables ∙ ap (λ (xs : List code_port.Port). with_ports t (map (port_of source) xs)) c.deref-2.ensures.value in
    let end : tables_of c.judge_items.new.self ≡ with_items (with_ports t m.ports) m.items =
    c.in_ok-items.ensures.tables ∙ ap (λ (v : Tables). with_items v (map (item_of source ts) c.deref-3.result.now)) behind
    ∙ ap (λ (xs : List code_item.Item). with_items (with_ports t m.ports) (map (item_of source ts) xs)) c.deref-3.ensures.value in
    ap (λ (v : Tables). v.signals) end ∙ module_signals m t uses

pub returns-clause-clocks : goal.returns-clause-clocks
returns-clause-clocks c =
    let source : List ℕ = c.args.text.now.source.now in
    let ts : List Token = c.args.text.now.tokens.now in
    let m : Module (List Mark) = module_of source ts c.args.parsed.now in
    let t : Tables = tables_of c.add_all_uses.new.self in
    let uses : t ≡ with_all_uses no_tables m.items =
    c.in_ok-add_all_uses.ensures ∙ ap (λ (v : Tables). with_all_uses v (map (item_of source ts) c.deref.result.now)) c.requires
    ∙ ap (λ (xs : List code_item.Item). with_all_uses no_tables (map (item_of source ts) xs)) c.deref.ensures.value in
    let behind : tables_of c.judge_ports.new.self ≡ with_ports t m.ports =
    c.in_ok-ports.ensures.tables ∙ ap (λ (xs : List code_port.Port). with_ports t (map (port_of source) xs)) c.deref-2.ensures.value in
    let end : tables_of c.judge_items.new.self ≡ with_items (with_ports t m.ports) m.items =
    c.in_ok-items.ensures.tables ∙ ap (λ (v : Tables). with_items v (map (item_of source ts) c.deref-3.result.now)) behind
    ∙ ap (λ (xs : List code_item.Item). with_items (with_ports t m.ports) (map (item_of source ts) xs)) c.deref-3.ensures.value in
    ap (λ (v : Tables). v.clocks) end ∙ module_clocks m t uses
