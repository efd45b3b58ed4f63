-- Functions: their variables are assigned before they are read, and they call earlier ones alone (IEEE 1364-2005, 10.4).
use Rattle.std.specs.Prelude.{ℕ, zero, suc, ◌+◌, ◌==◌, max, Bool, true, false, ◌&&◌, if◌then◌else◌, List, [], ◌∷◌, ◌++◌, length, map, flat_map, replicate, slice_get, slice_set, slice_index_or, Option, None, Some}
use Rattle.std.specs.List.{list_all}
use Rattle.vod_design.specs.declared.sized.Named.{Named}
use Rattle.vod_design.specs.declared.sized.Named.TheVariants as named
use Rattle.vod_design.specs.declared.sized.SizedExpr.{SizedExpr}
use Rattle.vod_design.specs.declared.sized.Variable.{Variable}
use Rattle.vod_design.specs.declared.sized.Variable.TheVariants as variable
use Rattle.vod_design.specs.declared.statement.Function.{Function}
use Rattle.vod_design.specs.declared.statement.Part.{Part}
use Rattle.vod_design.specs.declared.statement.PartTarget.{PartTarget}
use Rattle.vod_design.specs.declared.statement.PartTarget.TheVariants as part
use Rattle.vod_design.specs.declared.statement.Statement.{Statement}
use Rattle.vod_design.specs.declared.statement.Statement.TheOpen.{Statement-F, CaseItem-F}
use Rattle.vod_design.specs.declared.statement.Statement.TheFolds.{fold-Statement}
use Rattle.vod_design.specs.Netlist.{variable_widths}
use Rattle.vod_design.specs.Uses.{Use, Whole, Bits, BitAt, Word, WordAt, Called, Inputs, uses, exprs, part_index}

-- which of a function's variables were assigned whole so far
abbrev pub Assigned : Type 0
Assigned = List Bool

abbrev pub has_variable : Assigned → Variable → Bool
has_variable assigned (variable.Signal n) = false
has_variable assigned (variable.Local n) = slice_index_or assigned n false

abbrev pub has_name : Assigned → Named → Bool
has_name assigned (named.Variable x) = has_variable assigned x
has_name assigned (named.Constant bits) = true

-- an expression reads nothing but constants and variables that were assigned whole
abbrev pub has_use : Assigned → Use → Bool
has_use assigned (Whole name) = has_name assigned name
has_use assigned (Bits name low width) = has_name assigned name
has_use assigned (BitAt name least index) = has_name assigned name
has_use assigned (Word memory place) = false
has_use assigned (WordAt memory least index) = false
has_use assigned (Called n count) = true
has_use assigned (Inputs op count) = true

abbrev pub may_read : Assigned → SizedExpr → Bool
may_read assigned e = list_all (has_use assigned) (uses e)

-- what a statement comes to: whether it reads and selects only what was assigned whole, and what is assigned after it
pub record Checked : Type 0 where
  pub fine : Bool
  pub after : Assigned

abbrev pub checked : Bool → Assigned → Checked
checked fine after = record { fine = fine; after = after }

-- what is assigned after both of two ways, and what they come to together
abbrev pub after_both : Assigned → Assigned → Assigned
after_both [] bs = []
after_both (a ∷ as_) [] = []
after_both (a ∷ as_) (b ∷ bs) = (a && b) ∷ after_both as_ bs

abbrev pub either_way : Checked → Checked → Checked
either_way a b = checked (a.fine && b.fine) (after_both a.after b.after)

-- bits of a variable are assigned: all of them, or a selection, of one that was assigned whole
abbrev pub is_whole : List ℕ → ℕ → ℕ → ℕ → Bool
is_whole widths n low width = (low == 0) && (slice_index_or widths n 0 == width)

abbrev pub bits_assigned : List ℕ → Assigned → Variable → ℕ → ℕ → Checked
bits_assigned widths assigned (variable.Signal n) low width = checked false assigned
bits_assigned widths assigned (variable.Local n) low width =
    if is_whole widths n low width then checked true (slice_set assigned n true) else checked (slice_index_or assigned n false) assigned

abbrev pub part_assigned : List ℕ → Assigned → ℕ → PartTarget → Checked
part_assigned widths assigned width (part.Bits x low) = bits_assigned widths assigned x low width
part_assigned widths assigned width (part.Index x least index) = checked (has_variable assigned x) assigned
part_assigned widths assigned width (part.Word memory least index) = checked false assigned

-- the parts of a left side, from the left
abbrev pub behind : Bool → Checked → Checked
behind fine c = checked (fine && c.fine) c.after

abbrev pub parts_assigned : List ℕ → List Part → Assigned → Checked
parts_assigned widths [] assigned = checked true assigned
parts_assigned widths (p ∷ parts) assigned =
    behind (part_assigned widths assigned p.width p.target).fine (parts_assigned widths parts (part_assigned widths assigned p.width p.target).after)

-- one statement after the other
abbrev pub in_order : List (Assigned → Checked) → Assigned → Checked
in_order [] assigned = checked true assigned
in_order (s ∷ ss) assigned = behind (s assigned).fine (in_order ss (s assigned).after)

-- the items of a `case`, or else the last branch
abbrev pub any_way : List (Assigned → Checked) → Checked → Assigned → Checked
any_way [] otherwise assigned = otherwise
any_way (item ∷ items) otherwise assigned = either_way (item assigned) (any_way items otherwise assigned)

abbrev pub layer_checked : List ℕ → Statement-F (Assigned → Checked) (Assigned → Checked) → Assigned → Checked
layer_checked widths (Statement-F.Assign parts right) assigned =
    behind (list_all (may_read assigned) (right ∷ flat_map (λ p. part_index p.target) parts)) (parts_assigned widths parts assigned)
layer_checked widths (Statement-F.If test taken other) assigned = behind (may_read assigned test) (either_way (taken assigned) (other assigned))
layer_checked widths (Statement-F.Case tested items otherwise) assigned = behind (may_read assigned tested) (any_way items (otherwise assigned) assigned)
layer_checked widths (Statement-F.Begin statements) assigned = in_order statements assigned
layer_checked widths Statement-F.Empty assigned = checked true assigned

abbrev pub item_checked : CaseItem-F (Assigned → Checked) (Assigned → Checked) → Assigned → Checked
item_checked item assigned = behind (list_all (may_read assigned) item.labels) (item.body assigned)

unfoldable pub statement_checked : List ℕ → Statement → Assigned → Checked
statement_checked widths s = fold-Statement (Assigned → Checked) (Assigned → Checked) (layer_checked widths) item_checked s

-- a function's inputs are assigned as it is entered, its locals and its result aren't
abbrev pub assigned_at_entry : Function → Assigned
assigned_at_entry f = replicate (length f.inputs) true ++ replicate (length f.locals + 1) false

abbrev pub function_checked : Function → Checked
function_checked f = statement_checked (variable_widths f) f.body (assigned_at_entry f)

-- the functions that a body calls
abbrev pub use_called : Use → List ℕ
use_called (Whole name) = []
use_called (Bits name low width) = []
use_called (BitAt name least index) = []
use_called (Word memory place) = []
use_called (WordAt memory least index) = []
use_called (Called n count) = n ∷ []
use_called (Inputs op count) = []

abbrev pub called_by : Statement → List ℕ
called_by s = flat_map (λ e. flat_map use_called (uses e)) (exprs s)

-- the depth of a function, of the first k: 1, or 1 more than the deepest that it calls
abbrev pub deepest : List ℕ → ℕ
deepest [] = 0
deepest (n ∷ ns) = max n (deepest ns)

abbrev pub depth_with : (ℕ → ℕ) → Option Function → ℕ
depth_with depths None = 0
depth_with depths (Some f) = suc (deepest (map depths (called_by f.body)))

abbrev pub depth_below : List Function → ℕ → ℕ → ℕ
depth_below functions zero n = 0
depth_below functions (suc k) n = if n == k then depth_with (depth_below functions k) (slice_get functions k) else depth_below functions k n

abbrev pub depth_of : List Function → ℕ → ℕ
depth_of functions n = depth_below functions (length functions) n
