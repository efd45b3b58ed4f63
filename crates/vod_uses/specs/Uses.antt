-- Where a name is used that isn't declared before, or as something else.
use Rattle.std.specs.Prelude.{ℕ, nat_lt, ◌==◌, Bool, true, false, not, ◌&&◌, ◌||◌, List, [], ◌++◌, length, flat_map, Option, None, Some}
use Rattle.vod_places.specs.Places.{place_if}
use Rattle.vod_tree.specs.declared.expr.Expr.{Expr}
use Rattle.vod_tree.specs.declared.expr.ExprKind.TheOpen.{ExprKind-F, Expr-F}
use Rattle.vod_tree.specs.declared.expr.ExprKind.TheFolds.{fold-Expr}
use Rattle.vod_tree.specs.declared.ident.Ident.{Ident}
use Rattle.vod_tree.specs.declared.statement.Lval.{Lval}
use Rattle.vod_tree.specs.declared.statement.LvalKind.TheOpen.{LvalKind-F, Lval-F}
use Rattle.vod_tree.specs.declared.statement.LvalKind.TheFolds.{fold-Lval}
use Rattle.vod_names.specs.declared.entry.Kind.{Kind}
use Rattle.vod_names.specs.declared.entry.Kind.TheVariants as kind
use Rattle.vod_names.specs.declared.entry.Declaration.{Declaration}
use Rattle.vod_names.specs.Entries.{first_of, has_name}
use Rattle.vod_uses.specs.Calls.{inputs_of}
use Rattle.vod_uses.specs.Visible.{Visible}
use Rattle.vod_uses.specs.declared.scope.Usage.{Usage}
use Rattle.vod_uses.specs.declared.scope.Usage.TheVariants as use_is

abbrev pub is_signal : Kind → Bool
is_signal kind.Input = true
is_signal kind.Output = true
is_signal kind.OutputReg = true
is_signal kind.Wire = true
is_signal kind.Reg = true
is_signal k = false

abbrev pub is_constant : Kind → Bool
is_constant kind.Parameter = true
is_constant kind.Localparam = true
is_constant k = false

abbrev pub is_ram : Kind → Bool
is_ram kind.Ram = true
is_ram k = false

abbrev pub is_function_kind : Kind → Bool
is_function_kind kind.Function = true
is_function_kind k = false

-- what a name is used as, by its kind (4.2, 4.9, 4.10): a parameter isn't written, and a memory has words alone
abbrev pub fits : Usage → Kind → Bool
fits use_is.Value k = is_signal k || is_constant k
fits use_is.Indexed k = is_signal k || (is_constant k || is_ram k)
fits use_is.Target k = is_signal k
fits use_is.IndexedTarget k = is_signal k || is_ram k
fits use_is.Event k = is_signal k

-- a declaration before a place, of a kind that fits
abbrev pub stands_before : ℕ → Usage → Option Declaration → Bool
stands_before limit usage None = false
stands_before limit usage (Some d) = fits usage d.kind && nat_lt d.place limit

-- a name that is used as what it isn't: an inner name is a vector; else the first of that name in the module counts (12.7)
abbrev pub misused : Visible → Usage → Ident → List ℕ
misused v usage i = place_if (not (has_name i.name v.inner || stands_before v.limit usage (first_of i.name v.outer))) i.place

abbrev pub is_function : Option Declaration → Bool
is_function None = false
is_function (Some d) = is_function_kind d.kind

-- an inner name hides a function; a function's own name in it doesn't
abbrev pub hides : Option Declaration → Bool
hides None = false
hides (Some d) = not (is_function_kind d.kind)

abbrev pub takes : Option ℕ → ℕ → Bool
takes None count = false
takes (Some n) count = n == count

-- a name that is called and isn't a function's, or hidden, or a call with another number of arguments than the function has inputs
-- (10.4.3); a function may stand behind its call
abbrev pub uncallable : Visible → Ident → ℕ → List ℕ
uncallable v i count =
    place_if (hides (first_of i.name v.inner) || (not (is_function (first_of i.name v.outer)) || not (takes (inputs_of i.name v.functions) count))) i.place

-- what is misused in each kind of expression, with what is in its parts in their places
abbrev pub kind_misuses : Visible → ExprKind-F (List ℕ) (List ℕ) → List ℕ
kind_misuses v (ExprKind-F.Number n) = []
kind_misuses v (ExprKind-F.Name i) = misused v use_is.Value i
kind_misuses v (ExprKind-F.Index i a) = misused v use_is.Indexed i ++ a
kind_misuses v (ExprKind-F.Range i a b) = misused v use_is.Value i ++ (a ++ b)
kind_misuses v (ExprKind-F.Call i arguments) = uncallable v i (length arguments) ++ flat_map (λ argument. argument) arguments
kind_misuses v (ExprKind-F.Paren a) = a
kind_misuses v (ExprKind-F.Concat parts) = flat_map (λ part. part) parts
kind_misuses v (ExprKind-F.Replicate count parts) = count ++ flat_map (λ part. part) parts
kind_misuses v (ExprKind-F.Unary op a) = a
kind_misuses v (ExprKind-F.Binary op a b) = a ++ b
kind_misuses v (ExprKind-F.Conditional test a b) = test ++ (a ++ b)

abbrev pub whole_misuses : Expr-F (List ℕ) (List ℕ) → List ℕ
whole_misuses e = e.kind

unfoldable pub misuses : Visible → Expr → List ℕ
misuses v e = fold-Expr (List ℕ) (List ℕ) (kind_misuses v) whole_misuses e

-- the same of left sides
abbrev pub kind_left_misuses : Visible → LvalKind-F (List ℕ) (List ℕ) → List ℕ
kind_left_misuses v (LvalKind-F.Name i) = misused v use_is.Target i
kind_left_misuses v (LvalKind-F.Index i a) = misused v use_is.IndexedTarget i ++ misuses v a
kind_left_misuses v (LvalKind-F.Range i a b) = misused v use_is.Target i ++ (misuses v a ++ misuses v b)
kind_left_misuses v (LvalKind-F.Concat parts) = flat_map (λ part. part) parts

abbrev pub whole_left_misuses : Lval-F (List ℕ) (List ℕ) → List ℕ
whole_left_misuses l = l.kind

unfoldable pub left_misuses : Visible → Lval → List ℕ
left_misuses v l = fold-Lval (List ℕ) (List ℕ) (kind_left_misuses v) whole_left_misuses l
