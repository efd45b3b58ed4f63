-- The size of several expressions together.
use Rattle.std.specs.Prelude.{ℕ, max, Bool, ◌&&◌, List, flat_map}
use Rattle.vod_design.specs.declared.sized.SizedExpr.{SizedExpr}
use Rattle.vod_design.specs.declared.statement.CaseItem.{CaseItem}
use Rattle.vod_design.specs.declared.statement.Size.{Size}
use Rattle.vod_design.specs.Run.{largest, all_signed}

abbrev pub size_with : ℕ → Bool → Size
size_with width signed = record { width = width; signed = signed }

-- the size of one expression
abbrev pub own : SizedExpr → Size
own e = size_with e.width e.signed

-- the larger of two sizes, signed only where both are
abbrev pub joint : Size → Size → Size
joint a b = size_with (max a.width b.width) (a.signed && b.signed)

-- the largest size of several expressions, signed only where all are
abbrev pub common : List SizedExpr → Size
common es = size_with (largest es) (all_signed es)

-- the labels of the items of a `case`
abbrev pub labels_of : List CaseItem → List SizedExpr
labels_of items = flat_map (λ item. item.labels) items
