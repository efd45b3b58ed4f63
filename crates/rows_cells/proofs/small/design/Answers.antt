use Rattle.std.proofs.Common.{◌≡◌, ◌∷◌, [], ℕ, List, sym, subst, ◌∙◌}
use Rattle.vod_design.specs.Accepted.{IsAccepted}
use Rattle.vod_design.specs.Netlist.{Netlist}
use Rattle.rows_cells.specs.Small.{small}
use Rattle.rows_cells.proofs.Accepted.{accepted}
use Rattle.rows_cells.proofs.small.design.Goals as goal

pub of-requires : goal.of-requires
of-requires c =
    let ranked : c.new.result ≡ 0 ∷ [] = c.new.ensures ∙ c.in_ok-ranked.ensures in
    subst (λ (d : Netlist). IsAccepted d c.new.result) (sym c.in_ok-draft.ensures) (subst (λ (ns : List ℕ). IsAccepted small ns) (sym ranked) accepted)
