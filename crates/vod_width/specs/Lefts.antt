-- Left sides (IEEE 1364-2005, 6.1, 9.2.1, 9.2.2): what an assignment writes.
use Rattle.std.specs.Prelude.{ℕ, min, nat_lt, Bool, true, false, not, if◌then◌else◌, List, [], ◌∷◌, ◌++◌, map, flat_map, sum, Option, None, Some}
use Rattle.std.specs.List.{list_all}
use Rattle.vod_bits.specs.Value.{bits_of}
use Rattle.vod_bits.specs.declared.TheConstants.{WIDTH}
use Rattle.vod_tree.specs.declared.statement.Lval.{Lval}
use Rattle.vod_tree.specs.declared.statement.LvalKind.TheOpen.{LvalKind-F, Lval-F}
use Rattle.vod_tree.specs.declared.statement.LvalKind.TheFolds.{fold-Lval, fold-LvalKind}
use Rattle.vod_design.specs.declared.sized.Named.{Named}
use Rattle.vod_design.specs.declared.sized.Variable.{Variable}
use Rattle.vod_design.specs.declared.sized.SizedExpr.{SizedExpr}
use Rattle.vod_design.specs.declared.sized.SizedKind.{SizedKind}
use Rattle.vod_design.specs.declared.sized.SizedKind.TheOpen.{SizedKind-F}
use Rattle.vod_design.specs.declared.sized.SizedKind.TheViews.{out-SizedKind}
use Rattle.vod_design.specs.declared.statement.Part.{Part}
use Rattle.vod_design.specs.declared.statement.PartTarget.{PartTarget}
use Rattle.vod_design.specs.declared.sized.Named.TheVariants as named
use Rattle.vod_design.specs.declared.sized.SizedKind.TheVariants as kind
use Rattle.vod_design.specs.declared.statement.PartTarget.TheVariants as target
use Rattle.vod_operand.specs.declared.fault.Fault.{Fault}
use Rattle.vod_operand.specs.declared.fault.Fault.TheVariants.{Rule, Width}
use Rattle.vod_operand.specs.Operands.{Looked, node}
use Rattle.vod_width.specs.declared.decls.Declared.{Declared}
use Rattle.vod_width.specs.declared.decls.Sort.{Sort}
use Rattle.vod_width.specs.Names.{Declaration, declared}
use Rattle.vod_width.specs.Sizes.{is_constant, look_name, look_index, look_range, look}
use Rattle.vod_width.specs.declared.decls.Declared.TheVariants as stands
use Rattle.vod_width.specs.declared.decls.Sort.TheVariants as sorts

-- what a left side is: its size, which is 0 where a fault leaves it open, the faults inside it, and the parts that it writes, from the
-- left, each as if it took the lowest bits of the value
pub record LookedLeft : Type 0 where
  pub width : ℕ
  pub faults : List Fault
  pub parts : List Part

abbrev pub variable_of : Named → Option Variable
variable_of (named.Variable x) = Some x
variable_of (named.Constant b) = None

abbrev pub at_variable : (Variable → PartTarget) → Option Variable → Option PartTarget
at_variable make None = None
at_variable make (Some x) = Some (make x)

-- the number of a word, as an expression
abbrev pub place_number : ℕ → SizedExpr
place_number place = node 16 false (kind.Number (bits_of 16 place))

-- what is written is what the same name, or the same select of it, reads; nothing else can be written
abbrev pub target_of : SizedKind-F SizedKind SizedExpr → Option PartTarget
target_of (SizedKind-F.Name name) = at_variable (λ x. target.Bits x 0) (variable_of name)
target_of (SizedKind-F.Select name low count) = at_variable (λ x. target.Bits x low) (variable_of name)
target_of (SizedKind-F.Index name least index) = at_variable (λ x. target.Index x least index) (variable_of name)
target_of (SizedKind-F.Word memory place) = Some (target.Word memory.number 0 (place_number place))
target_of (SizedKind-F.WordIndex memory least index) = Some (target.Word memory.number least index)
target_of _ = None

abbrev pub parts_of : ℕ → ℕ → Option PartTarget → List Part
parts_of place width None = []
parts_of place width (Some t) = record { place = place; low = 0; width = width; target = t } ∷ []

-- a constant isn't written
abbrev pub is_open_written : Sort → Bool
is_open_written sorts.Net = true
is_open_written sorts.Constant = false
is_open_written sorts.Ram = true
is_open_written sorts.Function = true

abbrev pub is_written : Option Declared → Bool
is_written (Some (stands.Vector v)) = not (is_constant v.name)
is_written (Some (stands.Ram m)) = true
is_written (Some (stands.Function f)) = true
is_written (Some (stands.Open sort)) = is_open_written sort
is_written None = true

-- a name, or a select of one: it has the size and the faults of the same expression
abbrev pub left_of : ℕ → Option Declared → Looked → LookedLeft
left_of place d x = record {
  width = x.width;
  faults = x.faults ++ (if is_written d then [] else Rule place ∷ []);
  parts = parts_of place x.width (target_of (out-SizedKind (x.sized 0 false).kind));
}

-- `{ }`: the sum of the sizes, and none where a part has none
abbrev pub lefts_have_sizes : List LookedLeft → Bool
lefts_have_sizes lefts = list_all (λ x. nat_lt 0 x.width) lefts

abbrev pub left_concat : List LookedLeft → LookedLeft
left_concat lefts = record {
  width = if lefts_have_sizes lefts then sum (map (λ (x : LookedLeft). x.width) lefts) else 0;
  faults = flat_map (λ (x : LookedLeft). x.faults) lefts;
  parts = flat_map (λ (x : LookedLeft). x.parts) lefts;
}

-- each alternative at a place
abbrev pub look_left_kind : List Declaration → LvalKind-F (ℕ → LookedLeft) LookedLeft → ℕ → LookedLeft
look_left_kind decls (LvalKind-F.Name name) place = left_of place (declared decls name.name) (look_name place (declared decls name.name))
look_left_kind decls (LvalKind-F.Index name i) place = left_of place (declared decls name.name) (look_index place (declared decls name.name) (look decls i))
look_left_kind decls (LvalKind-F.Range name a b) place = left_of place (declared decls name.name) (look_range place (declared decls name.name) (look decls a) (look decls b))
look_left_kind decls (LvalKind-F.Concat lefts) place = left_concat lefts

-- one wider than WIDTH is at fault at its first token
abbrev pub left_at : ℕ → LookedLeft → LookedLeft
left_at place x = record x { faults = x.faults ++ (if nat_lt WIDTH x.width then Width place ∷ [] else []) }

abbrev pub look_left_whole : Lval-F (ℕ → LookedLeft) LookedLeft → LookedLeft
look_left_whole l = left_at l.place (l.kind l.place)

-- what a left side is, where names stand for these
unfoldable pub look_left : List Declaration → Lval → LookedLeft
look_left decls l = fold-Lval (ℕ → LookedLeft) LookedLeft (look_left_kind decls) look_left_whole l

-- the same apart from its own place and width
unfoldable pub inside_left : List Declaration → Lval → LookedLeft
inside_left decls l = fold-LvalKind (ℕ → LookedLeft) LookedLeft (look_left_kind decls) look_left_whole l.kind l.place

-- a part takes the bits of the value above those of the parts behind it. A left side has at most WIDTH bits, so the bound is never met
abbrev pub laid : List Part → List Part
laid [] = []
laid (p ∷ ps) = record p { low = min (sum (map (λ (q : Part). q.width) ps)) 255 } ∷ laid ps
