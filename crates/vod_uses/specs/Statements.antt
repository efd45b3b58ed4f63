-- Where names are misused in statements (IEEE 1364-2005, clause 9).
use Rattle.std.specs.Prelude.{ℕ, nat_lt, Bool, true, false, not, ◌&&◌, ◌||◌, List, [], ◌++◌, flat_map, Option, None, Some}
use Rattle.vod_places.specs.Places.{place_if}
use Rattle.vod_tree.specs.declared.expr.Expr.{Expr}
use Rattle.vod_tree.specs.declared.ident.Ident.{Ident}
use Rattle.vod_tree.specs.declared.statement.CaseItem.{CaseItem}
use Rattle.vod_tree.specs.declared.statement.CaseLabel.{CaseLabel}
use Rattle.vod_tree.specs.declared.statement.CaseLabel.TheVariants as label
use Rattle.vod_tree.specs.declared.statement.Statement.{Statement}
use Rattle.vod_tree.specs.declared.statement.StatementKind.TheOpen.{StatementKind-F, CaseItem-F, Statement-F}
use Rattle.vod_tree.specs.declared.statement.StatementKind.TheFolds.{fold-Statement}
use Rattle.vod_tree.specs.declared.statement.ForLoop.{ForLoop, out-ForLoop}
use Rattle.vod_tree.specs.declared.statement.InitialStatement.{InitialStatement}
use Rattle.vod_tree.specs.declared.statement.InitialKind.TheOpen.{InitialKind-F, ForLoop-F, InitialStatement-F}
use Rattle.vod_tree.specs.declared.statement.InitialKind.TheFolds.{fold-InitialStatement}
use Rattle.vod_names.specs.declared.entry.Kind.{Kind}
use Rattle.vod_names.specs.declared.entry.Kind.TheVariants as kind
use Rattle.vod_names.specs.declared.entry.Declaration.{Declaration}
use Rattle.vod_names.specs.Entries.{first_of, has_name}
use Rattle.vod_uses.specs.Visible.{Visible, in_loop}
use Rattle.vod_uses.specs.Uses.{is_ram, misuses, left_misuses}

abbrev pub label_misuses : Visible → CaseLabel → List ℕ
label_misuses v (label.Values es) = flat_map (misuses v) es
label_misuses v label.Default = []

abbrev pub else_misuses : Option (List ℕ) → List ℕ
else_misuses None = []
else_misuses (Some ps) = ps

-- what is misused in each kind of statement, with what is in its parts in their places; names of blocks mean nothing
abbrev pub kind_statement_misuses : Visible → StatementKind-F (List ℕ) (List ℕ) (List ℕ) → List ℕ
kind_statement_misuses v (StatementKind-F.Nonblocking l e) = left_misuses v l ++ misuses v e
kind_statement_misuses v (StatementKind-F.Blocking l e) = left_misuses v l ++ misuses v e
kind_statement_misuses v (StatementKind-F.If e a b) = misuses v e ++ (a ++ else_misuses b)
kind_statement_misuses v (StatementKind-F.Case e items) = misuses v e ++ flat_map (λ item. item) items
kind_statement_misuses v (StatementKind-F.Block name statements) = flat_map (λ statement. statement) statements
kind_statement_misuses v StatementKind-F.Empty = []

abbrev pub case_misuses : Visible → CaseItem-F (List ℕ) (List ℕ) (List ℕ) → List ℕ
case_misuses v item = label_misuses v item.label ++ item.body

abbrev pub whole_statement_misuses : Statement-F (List ℕ) (List ℕ) (List ℕ) → List ℕ
whole_statement_misuses s = s.kind

unfoldable pub statement_misuses : Visible → Statement → List ℕ
statement_misuses v s = fold-Statement (List ℕ) (List ℕ) (List ℕ) (kind_statement_misuses v) (case_misuses v) whole_statement_misuses s

-- the same of an item of a `case`
abbrev pub item_case_misuses : Visible → CaseItem → List ℕ
item_case_misuses v item = label_misuses v item.label ++ statement_misuses v item.body

abbrev pub is_integer_kind : Kind → Bool
is_integer_kind kind.Integer = true
is_integer_kind k = false

abbrev pub is_integer : Option Declaration → Bool
is_integer None = false
is_integer (Some d) = is_integer_kind d.kind

-- a name of a loop that isn't an integer's; the integer may stand behind it (9.6)
abbrev pub no_index : Visible → Ident → List ℕ
no_index v i = place_if (not (is_integer (first_of i.name v.outer))) i.place

abbrev pub stands : ℕ → Option Declaration → Bool
stands limit None = false
stands limit (Some d) = nat_lt d.place limit

abbrev pub is_memory : Option Declaration → Bool
is_memory None = false
is_memory (Some d) = is_ram d.kind

-- a name that an `initial` assigns whole and that isn't a register's, or at an index and is neither a register's nor a memory's (4.2.2)
abbrev pub unassignable : Visible → Ident → List ℕ
unassignable v i = place_if (not (stands v.limit (first_of i.name v.outer) && has_name i.name v.registers)) i.place

abbrev pub unassignable_at : Visible → Ident → List ℕ
unassignable_at v i =
    place_if (not (stands v.limit (first_of i.name v.outer) && (has_name i.name v.registers || is_memory (first_of i.name v.outer)))) i.place

-- what is misused in a statement of an `initial`, by what names mean there
abbrev pub Initial : Type 0
Initial = Visible → List ℕ

abbrev pub kind_initial_misuses : InitialKind-F Initial Initial Initial → Initial
kind_initial_misuses (InitialKind-F.Assign i e) v = unassignable v i ++ misuses v e
kind_initial_misuses (InitialKind-F.AssignIndex i a e) v = unassignable_at v i ++ (misuses v a ++ misuses v e)
kind_initial_misuses (InitialKind-F.For f) v = f v
kind_initial_misuses (InitialKind-F.Block name statements) v = flat_map (λ (s : Initial). s v) statements

-- each name of a loop is an integer's (9.6)
abbrev pub head_misuses : Visible → Ident → Ident → Ident → Ident → Expr → Expr → List ℕ
head_misuses v index tested stepped from start bound =
    (no_index v index ++ no_index v tested) ++ ((no_index v stepped ++ no_index v from) ++ (misuses v start ++ misuses v bound))

-- in the body of a loop its index is a constant
abbrev pub loop_misuses : ForLoop-F Initial Initial Initial → Initial
loop_misuses f v = head_misuses v f.index f.tested f.stepped f.from f.start f.bound ++ f.body (in_loop v f.index)

abbrev pub whole_initial_misuses : InitialStatement-F Initial Initial Initial → Initial
whole_initial_misuses s v = s.kind v

unfoldable pub initial_misuses : Visible → InitialStatement → List ℕ
initial_misuses v s = fold-InitialStatement Initial Initial Initial kind_initial_misuses loop_misuses whole_initial_misuses s v

-- the same of a loop without its body, and of a loop
abbrev pub loop_head_misuses : Visible → ForLoop → List ℕ
loop_head_misuses v f =
    head_misuses v (out-ForLoop f).index (out-ForLoop f).tested (out-ForLoop f).stepped (out-ForLoop f).from (out-ForLoop f).start (out-ForLoop f).bound

abbrev pub for_misuses : Visible → ForLoop → List ℕ
for_misuses v f = loop_head_misuses v f ++ initial_misuses (in_loop v (out-ForLoop f).index) (out-ForLoop f).body
