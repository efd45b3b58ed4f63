-- What the code finds of a call.
use Rattle.std.specs.Prelude.{ℕ, min, false, List, Option, None, Some, Result}
use Rattle.vod_design.specs.declared.sized.SizedExpr.{SizedExpr}
use Rattle.vod_design.specs.declared.statement.Size.{Size}
use Rattle.vod_operand.specs.declared.fault.Fault.{Fault}
use Rattle.vod_operand.specs.Found.{looked_of}
use Rattle.vod_operand.specs.declared.tree.Looked as code
use Rattle.vod_width.specs.declared.decls.Declared.{Declared}
use Rattle.vod_width.specs.declared.decls.Sort.{Sort}
use Rattle.vod_width.specs.View.{misused_tree, open_tree, call_tree_of, fault_of_trees}
use Rattle.vod_width.specs.declared.decls.Declared.TheVariants as stands
use Rattle.vod_width.specs.declared.decls.Sort.TheVariants as sorts

abbrev pub open_called_of : ℕ → Sort → Option Fault → code.Looked
open_called_of place sorts.Net beside = looked_of 0 0 false false (misused_tree place beside)
open_called_of place sorts.Constant beside = looked_of 0 0 false false (misused_tree place beside)
open_called_of place sorts.Ram beside = looked_of 0 0 false false (misused_tree place beside)
open_called_of place sorts.Function beside = looked_of 0 0 false false (open_tree beside)

abbrev pub called_of : ℕ → Option Declared → Result (List SizedExpr) Fault → code.Looked
called_of place (Some (stands.Function f)) trees = looked_of 0 (min f.width 65) f.signed false (call_tree_of f.number trees)
called_of place (Some (stands.Vector v)) trees = looked_of 0 0 false false (misused_tree place (fault_of_trees trees))
called_of place (Some (stands.Ram m)) trees = looked_of 0 0 false false (misused_tree place (fault_of_trees trees))
called_of place (Some (stands.Open sort)) trees = open_called_of place sort (fault_of_trees trees)
called_of place None trees = looked_of 0 0 false false (misused_tree place (fault_of_trees trees))

-- the width of an input, where there is one
abbrev pub width_of : Option Size → ℕ
width_of None = 0
width_of (Some input) = input.width
