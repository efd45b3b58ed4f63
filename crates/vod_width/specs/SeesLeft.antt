-- What the code finds of a left side.
use Rattle.std.specs.Prelude.{◌≡◌, ℕ, ◌≤◌, min, List, ◌++◌, flat_map, map, sum, Option, None, Some, Result, Ok, Err}
use Rattle.vod_bits.specs.declared.TheConstants.{WIDTH}
use Rattle.vod_design.specs.declared.sized.SizedExpr.{SizedExpr}
use Rattle.vod_design.specs.declared.sized.SizedKind.TheViews.{out-SizedKind}
use Rattle.vod_design.specs.declared.statement.Part.{Part}
use Rattle.vod_operand.specs.declared.fault.Fault.{Fault}
use Rattle.vod_operand.specs.Operands.{first, sooner}
use Rattle.vod_width.specs.declared.left.Left as code
use Rattle.vod_width.specs.declared.left.Lefts as several
use Rattle.vod_width.specs.Lefts.{LookedLeft, target_of, parts_of, lefts_have_sizes}

abbrev pub LeftParts : Type 0
LeftParts = Result (List Part) Fault

-- parts where there is no fault, and else the first fault
abbrev pub PartsAre : LeftParts → Option Fault → List Part → Type 0
PartsAre (Ok ps) f qs = (f ≡ None) × (ps ≡ qs)
PartsAre (Err e) f qs = f ≡ Some e

abbrev pub PartsNear : LeftParts → LookedLeft → Type 0
PartsNear (Ok ps) x = (first x.faults ≡ None) × (x.width ≤ WIDTH → ps ≡ x.parts)
PartsNear (Err e) x = first x.faults ≡ Some e

pub record SeesLeft (c : code.Left) (x : LookedLeft) : Type 0 where
  pub width : c.width ≡ min x.width 65
  pub parts : PartsAre c.parts (first x.faults) x.parts

-- the same of one whose own width hasn't been judged
pub record NearLeft (c : code.Left) (x : LookedLeft) : Type 0 where
  pub width : c.width ≡ min x.width 65
  pub parts : PartsNear c.parts x

pub record SeesLefts (c : several.Lefts) (xs : List LookedLeft) : Type 0 where
  pub width : c.width ≡ min (sum (map (λ (x : LookedLeft). x.width) xs)) 65
  pub sized : c.sized ≡ lefts_have_sizes xs
  pub parts : PartsAre c.parts (first (flat_map (λ (x : LookedLeft). x.faults) xs)) (flat_map (λ (x : LookedLeft). x.parts) xs)

abbrev pub parts_tree_of : ℕ → ℕ → Result SizedExpr Fault → LeftParts
parts_tree_of place width (Ok t) = Ok (parts_of place width (target_of (out-SizedKind t.kind)))
parts_tree_of place width (Err f) = Err f

-- parts, unless there is a fault beside them
abbrev pub unless_fault : LeftParts → Option Fault → LeftParts
unless_fault ps None = ps
unless_fault (Ok ps) (Some g) = Err g
unless_fault (Err f) (Some g) = Err (sooner f g)

abbrev pub joined_parts : LeftParts → LeftParts → LeftParts
joined_parts (Ok ps) (Ok qs) = Ok (ps ++ qs)
joined_parts (Ok ps) (Err g) = Err g
joined_parts (Err f) (Ok qs) = Err f
joined_parts (Err f) (Err g) = Err (sooner f g)
