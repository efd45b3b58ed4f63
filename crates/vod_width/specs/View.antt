-- What the code finds of an expression.
use Rattle.std.specs.Prelude.{◌≡◌, ℕ, ◌≤◌, ◌-◌, min, nat_lt, nat_le, Bool, true, false, if◌then◌else◌, ◌&&◌, List, [], ◌∷◌, ◌++◌, map, flat_map, sum, Option, None, Some, Result, Ok, Err}
use Rattle.std.specs.List.{list_all}
use Rattle.vod_bits.specs.Bit.{B0}
use Rattle.vod_bits.specs.declared.TheConstants.{WIDTH}
use Rattle.vod_design.specs.declared.sized.SizedExpr.{SizedExpr}
use Rattle.vod_design.specs.declared.statement.Size.{Size}
use Rattle.vod_design.specs.declared.sized.SizedKind.TheVariants as kind
use Rattle.vod_operand.specs.declared.fault.Fault.{Fault}
use Rattle.vod_operand.specs.declared.fault.Fault.TheVariants.{Rule, Open}
use Rattle.vod_operand.specs.Operands.{Looked, node, standing, own, first, meets, sooner, join, known_natural, number_where, unless}
use Rattle.vod_operand.specs.Found.{looked_of, tree_unless}
use Rattle.vod_operand.specs.declared.tree.Looked as code
use Rattle.vod_width.specs.declared.decls.Declared.{Declared}
use Rattle.vod_width.specs.declared.decls.Sort.{Sort}
use Rattle.vod_width.specs.declared.decls.Vector.{Vector}
use Rattle.vod_width.specs.declared.decls.WordArray.{WordArray}
use Rattle.vod_width.specs.Sizes.{is_constant, memory, have_sizes, in_some_range, range_faults}
use Rattle.vod_width.specs.declared.limit.Limit.{Limit}
use Rattle.vod_width.specs.declared.decls.Declared.TheVariants as stands
use Rattle.vod_width.specs.declared.decls.Sort.TheVariants as sorts
use Rattle.vod_width.specs.declared.limit.Limit.TheVariants as limits
use Rattle.vod_width.specs.declared.limit.Numbered as limit
use Rattle.vod_width.specs.declared.select.Bounds as select
use Rattle.vod_width.specs.declared.parts.Parts as parts

-- a tree where there is no fault, which is that of an expression unless that is too wide, and else the first fault
abbrev pub TreeNear : Result SizedExpr Fault → Looked → Type 0
TreeNear (Ok t) x = (first x.faults ≡ None) × (x.width ≤ WIDTH → t ≡ x.sized 0 false)
TreeNear (Err e) x = first x.faults ≡ Some e

-- the same of an expression that has no place as yet: one that is too wide is at fault there
pub record SeesKind (c : code.Looked) (x : Looked) : Type 0 where
  pub width : c.width ≡ min x.width 65
  pub signed : c.signed ≡ x.signed
  pub constant : c.constant ≡ x.constant
  pub tree : TreeNear c.tree x

-- parts of a list, each at its own size
abbrev pub TreesAre : Result (List SizedExpr) Fault → Option Fault → List SizedExpr → Type 0
TreesAre (Ok ts) f us = (f ≡ None) × (ts ≡ us)
TreesAre (Err e) f us = f ≡ Some e

abbrev pub faults_of : List Looked → List Fault
faults_of xs = flat_map (λ x. x.faults) xs

pub record SeesParts (p : parts.Parts) (xs : List Looked) : Type 0 where
  pub width : p.width ≡ min (sum (map (λ x. x.width) xs)) 65
  pub sized : p.sized ≡ have_sizes xs
  pub constant : p.constant ≡ list_all (λ x. x.constant) xs
  pub trees : TreesAre p.trees (first (faults_of xs)) (map own xs)

abbrev pub with_tree_of : Result (List SizedExpr) Fault → Result SizedExpr Fault → Result (List SizedExpr) Fault
with_tree_of (Ok ts) (Ok t) = Ok (ts ++ t ∷ [])
with_tree_of (Ok ts) (Err g) = Err g
with_tree_of (Err f) (Ok t) = Err f
with_tree_of (Err f) (Err g) = Err (sooner f g)

abbrev pub misused_tree : ℕ → Option Fault → Result SizedExpr Fault
misused_tree place beside = tree_unless (join (Some (Rule place)) beside) (kind.Number (B0 ∷ []))

abbrev pub open_tree : Option Fault → Result SizedExpr Fault
open_tree beside = tree_unless (join beside (Some Open)) (kind.Number (B0 ∷ []))

-- the trees of the arguments of a call, and the first fault
abbrev pub inputs_of : Option Declared → List Size
inputs_of (Some (stands.Function f)) = f.inputs
inputs_of (Some (stands.Vector v)) = []
inputs_of (Some (stands.Ram m)) = []
inputs_of (Some (stands.Open sort)) = []
inputs_of None = []

abbrev pub call_tree_of : ℕ → Result (List SizedExpr) Fault → Result SizedExpr Fault
call_tree_of n (Ok ts) = Ok (node 0 false (kind.Call n ts))
call_tree_of n (Err f) = Err f

abbrev pub fault_of_trees : Result (List SizedExpr) Fault → Option Fault
fault_of_trees (Ok ts) = None
fault_of_trees (Err f) = Some f

abbrev pub concat_tree_of : Result (List SizedExpr) Fault → Result SizedExpr Fault
concat_tree_of (Ok ts) = Ok (node 0 false (kind.Concat ts))
concat_tree_of (Err f) = Err f

-- a number for which a test holds
abbrev pub kept : (ℕ → Bool) → Option ℕ → Option ℕ
kept test n = if meets test n then n else None

-- what a constant part may be
abbrev pub allows : Limit → (ℕ → Bool)
allows (limits.Vector ranged lsb width) = λ n. ranged && (nat_le lsb n && nat_lt (n - lsb) width)
allows (limits.Ram low high) = λ n. nat_le low n && nat_le n high
allows limits.SomeRange = in_some_range
allows limits.Count = nat_lt 0

-- what the code finds of a part that has to be a constant for which a test holds
pub record IsNumbered (test : ℕ → Bool) (p : limit.Numbered) (x : Looked) : Type 0 where
  pub natural : p.natural ≡ known_natural x
  pub number : p.number ≡ number_where test x
  pub constant : p.constant ≡ x.constant
  pub fault : p.fault ≡ first (x.faults ++ unless test x)

-- what it finds of two bounds
pub record AreBounds (test : ℕ → Bool) (r : select.Bounds) (x y : Looked) : Type 0 where
  pub msb : r.msb ≡ number_where test x
  pub lsb : r.lsb ≡ number_where test y
  pub constant : r.constant ≡ (x.constant && y.constant)
  pub fault : r.fault ≡ first (range_faults test x y)

abbrev pub open_named_of : ℕ → Sort → code.Looked
open_named_of place sorts.Net = looked_of 0 0 false false (open_tree None)
open_named_of place sorts.Constant = looked_of 0 0 false true (open_tree None)
open_named_of place sorts.Ram = looked_of 0 0 false false (misused_tree place None)
open_named_of place sorts.Function = looked_of 0 0 false false (misused_tree place None)

abbrev pub named_of : ℕ → Option Declared → code.Looked
named_of place (Some (stands.Vector v)) = looked_of 0 (min v.width 65) v.signed (is_constant v.name) (Ok (node 0 false (kind.Name v.name)))
named_of place (Some (stands.Ram m)) = looked_of 0 0 false false (misused_tree place None)
named_of place (Some (stands.Function f)) = looked_of 0 0 false false (misused_tree place None)
named_of place (Some (stands.Open sort)) = open_named_of place sort
named_of place None = looked_of 0 0 false false (misused_tree place None)

abbrev pub bit_index_tree : Vector → Result SizedExpr Fault → Result SizedExpr Fault
bit_index_tree v (Ok i) = Ok (node 0 false (kind.Index v.name v.lsb i))
bit_index_tree v (Err f) = Err f

abbrev pub word_index_tree : WordArray → Result SizedExpr Fault → Result SizedExpr Fault
word_index_tree m (Ok i) = Ok (node 0 false (kind.WordIndex (memory m) m.low i))
word_index_tree m (Err f) = Err f

abbrev pub is_found : Option ℕ → Bool
is_found None = false
is_found (Some n) = true

-- the tree of a replication: the count, and the place, the size and the tree of the concatenation
abbrev pub replicate_tree_of : Option Fault → ℕ → ℕ → ℕ → Result SizedExpr Fault → Result SizedExpr Fault
replicate_tree_of None count place width (Ok t) = Ok (node 0 false (kind.Replicate count (standing place (node width false t.kind))))
replicate_tree_of None count place width (Err g) = Err g
replicate_tree_of (Some f) count place width (Ok t) = Err f
replicate_tree_of (Some f) count place width (Err g) = Err (sooner f g)
