-- One port or item more is judged.
use Rattle.std.proofs.Common.{◌≡◌, ℕ, ◌+◌, ◌<◌, List, [], ◌∷◌, ◌++◌, Option, length, map, drop, get_or, refl, sym, ap, ◌∙◌}
use Rattle.std.proofs.lemmas.List.{drop_more}
use Rattle.vod_token.specs.declared.Token.{Token}
use Rattle.vod_thin_syntax.specs.declared.syntax.Port as code_port
use Rattle.vod_thin_syntax.specs.declared.syntax.Item as code_item
use Rattle.vod_thin_syntax.specs.Limit.{sooner}
use Rattle.vod_thin_syntax.specs.Syntax.{Mark, Port, Item}
use Rattle.vod_thin_syntax.specs.View.{port_of, item_of}
use Rattle.vod_thin.specs.Rules.{least}
use Rattle.vod_thin.specs.Tables.{Tables, port_places, item_places, with_port, with_item, with_ports, with_items, all_port_places, all_item_places}
use Rattle.vod_thin.proofs.Leasts.{least_more}

pub port_round : (source : List ℕ) (t u : Tables) (ports : List code_port.Port) (i : ℕ) (d : code_port.Port) (first next : Option ℕ) → i < length ports
    → u ≡ with_port t (port_of source (get_or ports i d)) → next ≡ sooner first (least (port_places t (port_of source (get_or ports i d))))
    → (sooner next (least (all_port_places u (map (port_of source) (drop (i + 1) ports)))) ≡ sooner first (least (all_port_places t (map (port_of source) (drop i ports)))))
    × (with_ports u (map (port_of source) (drop (i + 1) ports)) ≡ with_ports t (map (port_of source) (drop i ports)))
port_round source t u ports i d first next lt e g =
    let x : Port = port_of source (get_or ports i d) in
    let rest : List Port = map (port_of source) (drop (i + 1) ports) in
    let left : map (port_of source) (drop i ports) ≡ x ∷ rest = ap (map (port_of source)) (drop_more ports i d lt) in (
      ap (λ o. sooner o (least (all_port_places u rest))) g
          ∙ ap (λ (v : Tables). sooner (sooner first (least (port_places t x))) (least (all_port_places v rest))) e
          ∙ sym (least_more first (port_places t x) (all_port_places (with_port t x) rest))
          ∙ ap (λ (ys : List Port). sooner first (least (all_port_places t ys))) (sym left),
      ap (λ (v : Tables). with_ports v rest) e ∙ ap (with_ports t) (sym left),
    )

pub item_round : (source : List ℕ) (ts : List Token) (t u : Tables) (items : List code_item.Item) (i : ℕ) (d : code_item.Item) (first next : Option ℕ) → i < length items
    → u ≡ with_item t (item_of source ts (get_or items i d)) → next ≡ sooner first (least (item_places t (item_of source ts (get_or items i d))))
    → (sooner next (least (all_item_places u (map (item_of source ts) (drop (i + 1) items)))) ≡ sooner first (least (all_item_places t (map (item_of source ts) (drop i items)))))
    × (with_items u (map (item_of source ts) (drop (i + 1) items)) ≡ with_items t (map (item_of source ts) (drop i items)))
item_round source ts t u items i d first next lt e g =
    let x : Item (List Mark) = item_of source ts (get_or items i d) in
    let rest : List (Item (List Mark)) = map (item_of source ts) (drop (i + 1) items) in
    let left : map (item_of source ts) (drop i items) ≡ x ∷ rest = ap (map (item_of source ts)) (drop_more items i d lt) in (
      ap (λ o. sooner o (least (all_item_places u rest))) g
          ∙ ap (λ (v : Tables). sooner (sooner first (least (item_places t x))) (least (all_item_places v rest))) e
          ∙ sym (least_more first (item_places t x) (all_item_places (with_item t x) rest))
          ∙ ap (λ (ys : List (Item (List Mark))). sooner first (least (all_item_places t ys))) (sym left),
      ap (λ (v : Tables). with_items v rest) e ∙ ap (with_items t) (sym left),
    )
