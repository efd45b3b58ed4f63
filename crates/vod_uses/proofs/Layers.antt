-- What is misused where one layer of an expression or a left side stands open.
use Rattle.std.specs.Option.{option_map}
use Rattle.std.proofs.Common.{◌≡◌, ℕ, Option, None, Some, List, [], ◌∷◌, ◌++◌, map, flat_map, refl, ap, ◌∙◌}
use Rattle.vod_tree.specs.declared.expr.Expr.{Expr}
use Rattle.vod_tree.specs.declared.expr.ExprKind.{ExprKind}
use Rattle.vod_tree.specs.declared.expr.ExprKind.TheOpen.{ExprKind-F}
use Rattle.vod_tree.specs.declared.expr.ExprKind.TheFolds.{fold-ExprKind, map-ExprKind, fold-roll-ExprKind, fold_out-Expr}
use Rattle.vod_tree.specs.declared.expr.ExprKind.TheViews.{roll-ExprKind}
use Rattle.vod_tree.specs.declared.statement.Lval.{Lval}
use Rattle.vod_tree.specs.declared.statement.LvalKind.{LvalKind}
use Rattle.vod_tree.specs.declared.statement.LvalKind.TheOpen.{LvalKind-F}
use Rattle.vod_tree.specs.declared.statement.LvalKind.TheFolds.{fold-LvalKind, map-LvalKind, fold-roll-LvalKind, fold_out-Lval}
use Rattle.vod_tree.specs.declared.statement.LvalKind.TheViews.{roll-LvalKind}
use Rattle.vod_tree.specs.declared.statement.CaseItem.{CaseItem}
use Rattle.vod_tree.specs.declared.statement.ForLoop.{ForLoop}
use Rattle.vod_tree.specs.declared.statement.Statement.{Statement}
use Rattle.vod_tree.specs.declared.statement.StatementKind.{StatementKind}
use Rattle.vod_tree.specs.declared.statement.StatementKind.TheOpen.{StatementKind-F}
use Rattle.vod_tree.specs.declared.statement.StatementKind.TheFolds.{fold-StatementKind, fold-CaseItem, map-StatementKind, fold-roll-StatementKind, fold_out-Statement, fold_out-CaseItem}
use Rattle.vod_tree.specs.declared.statement.StatementKind.TheViews.{roll-StatementKind}
use Rattle.vod_tree.specs.declared.statement.InitialStatement.{InitialStatement}
use Rattle.vod_tree.specs.declared.statement.InitialKind.{InitialKind}
use Rattle.vod_tree.specs.declared.statement.InitialKind.TheOpen.{InitialKind-F}
use Rattle.vod_tree.specs.declared.statement.InitialKind.TheFolds.{fold-InitialKind, fold-ForLoop, map-InitialKind, fold-roll-InitialKind, fold_out-InitialStatement, fold_out-ForLoop}
use Rattle.vod_tree.specs.declared.statement.InitialKind.TheViews.{roll-InitialKind}
use Rattle.vod_uses.specs.Visible.{Visible}
use Rattle.vod_uses.specs.Statements.{kind_statement_misuses, case_misuses, whole_statement_misuses, statement_misuses, else_misuses, item_case_misuses, Initial, kind_initial_misuses, loop_misuses, whole_initial_misuses, initial_misuses, for_misuses}
use Rattle.vod_uses.specs.Uses.{kind_misuses, whole_misuses, misuses, kind_left_misuses, whole_left_misuses, left_misuses}

abbrev pub Numbers : Type 0
Numbers = List ℕ

pub misuses_at : (s : Visible) (e : Expr) (x : ExprKind-F ExprKind Expr) → e.kind ≡ roll-ExprKind x
    → misuses s e ≡ kind_misuses s (map-ExprKind ExprKind Expr Numbers Numbers (fold-ExprKind Numbers Numbers (kind_misuses s) whole_misuses) (misuses s) x)
unfolding misuses
misuses_at s e x is = fold_out-Expr Numbers Numbers (kind_misuses s) whole_misuses e ∙ ap (λ k. fold-ExprKind Numbers Numbers (kind_misuses s) whole_misuses k) is ∙ fold-roll-ExprKind Numbers Numbers (kind_misuses s) whole_misuses x

pub left_misuses_at : (s : Visible) (l : Lval) (x : LvalKind-F LvalKind Lval) → l.kind ≡ roll-LvalKind x
    → left_misuses s l ≡ kind_left_misuses s (map-LvalKind LvalKind Lval Numbers Numbers (fold-LvalKind Numbers Numbers (kind_left_misuses s) whole_left_misuses) (left_misuses s) x)
unfolding left_misuses
left_misuses_at s l x is = fold_out-Lval Numbers Numbers (kind_left_misuses s) whole_left_misuses l ∙ ap (λ k. fold-LvalKind Numbers Numbers (kind_left_misuses s) whole_left_misuses k) is ∙ fold-roll-LvalKind Numbers Numbers (kind_left_misuses s) whole_left_misuses x

pub flat_map_map : {A : Type 0} (f : A → Numbers) (xs : List A) → flat_map (λ (ps : Numbers). ps) (map f xs) ≡ flat_map f xs
flat_map_map f [] = refl
flat_map_map f (x ∷ xs) = ap (λ ps. f x ++ ps) (flat_map_map f xs)

pub flat_map_alike : {A : Type 0} (f g : A → Numbers) → ((x : A) → f x ≡ g x) → (xs : List A) → flat_map f xs ≡ flat_map g xs
flat_map_alike f g h [] = refl
flat_map_alike f g h (x ∷ xs) = ap (λ ps. ps ++ flat_map f xs) (h x) ∙ ap (λ ps. g x ++ ps) (flat_map_alike f g h xs)

-- what is misused where a statement stands open
abbrev pub in_kind : Visible → StatementKind → Numbers
in_kind v k = fold-StatementKind Numbers Numbers Numbers (kind_statement_misuses v) (case_misuses v) whole_statement_misuses k

abbrev pub in_case : Visible → CaseItem → Numbers
in_case v i = fold-CaseItem Numbers Numbers Numbers (kind_statement_misuses v) (case_misuses v) whole_statement_misuses i

pub statement_misuses_at : (v : Visible) (s : Statement) (x : StatementKind-F StatementKind CaseItem Statement) → s.kind ≡ roll-StatementKind x
    → statement_misuses v s ≡ kind_statement_misuses v (map-StatementKind StatementKind CaseItem Statement Numbers Numbers Numbers (in_kind v) (in_case v) (statement_misuses v) x)
unfolding statement_misuses
statement_misuses_at v s x is =
    fold_out-Statement Numbers Numbers Numbers (kind_statement_misuses v) (case_misuses v) whole_statement_misuses s
    ∙ ap (in_kind v) is
    ∙ fold-roll-StatementKind Numbers Numbers Numbers (kind_statement_misuses v) (case_misuses v) whole_statement_misuses x

pub case_misuses_at : (v : Visible) (i : CaseItem) → in_case v i ≡ item_case_misuses v i
unfolding statement_misuses
case_misuses_at v i = fold_out-CaseItem Numbers Numbers Numbers (kind_statement_misuses v) (case_misuses v) whole_statement_misuses i

-- both branches of an `if`
abbrev pub if_misuses : Visible → Expr → Statement → Option Statement → Numbers
if_misuses v e a b = misuses v e ++ (statement_misuses v a ++ else_misuses (option_map (statement_misuses v) b))

if_at : (v : Visible) (e : Expr) (a : Statement) (b : Option Statement)
    → kind_statement_misuses v (map-StatementKind StatementKind CaseItem Statement Numbers Numbers Numbers (in_kind v) (in_case v) (statement_misuses v) (StatementKind-F.If e a b)) ≡ if_misuses v e a b
if_at v e a None = refl
if_at v e a (Some b) = refl

pub if_misuses_at : (v : Visible) (s : Statement) (e : Expr) (a : Statement) (b : Option Statement) → s.kind ≡ roll-StatementKind (StatementKind-F.If e a b) → statement_misuses v s ≡ if_misuses v e a b
if_misuses_at v s e a b is = statement_misuses_at v s (StatementKind-F.If e a b) is ∙ if_at v e a b

-- what is misused where a statement of an `initial` stands open
abbrev pub in_initial : InitialKind → Initial
in_initial k = fold-InitialKind Initial Initial Initial kind_initial_misuses loop_misuses whole_initial_misuses k

abbrev pub in_for : ForLoop → Initial
in_for f = fold-ForLoop Initial Initial Initial kind_initial_misuses loop_misuses whole_initial_misuses f

abbrev pub in_statement : InitialStatement → Initial
in_statement s v = initial_misuses v s

pub initial_misuses_at : (v : Visible) (s : InitialStatement) (x : InitialKind-F InitialKind ForLoop InitialStatement) → s.kind ≡ roll-InitialKind x
    → initial_misuses v s ≡ kind_initial_misuses (map-InitialKind InitialKind ForLoop InitialStatement Initial Initial Initial in_initial in_for in_statement x) v
unfolding initial_misuses
initial_misuses_at v s x is =
    ap (λ (f : Initial). f v) (fold_out-InitialStatement Initial Initial Initial kind_initial_misuses loop_misuses whole_initial_misuses s)
    ∙ ap (λ k. in_initial k v) is
    ∙ ap (λ (f : Initial). f v) (fold-roll-InitialKind Initial Initial Initial kind_initial_misuses loop_misuses whole_initial_misuses x)

pub for_misuses_at : (v : Visible) (f : ForLoop) → in_for f v ≡ for_misuses v f
unfolding initial_misuses
for_misuses_at v f = ap (λ (g : Initial). g v) (fold_out-ForLoop Initial Initial Initial kind_initial_misuses loop_misuses whole_initial_misuses f)

pub flat_map_at : {A : Type 0} (f : A → Initial) (v : Visible) (xs : List A) → flat_map (λ (s : Initial). s v) (map f xs) ≡ flat_map (λ x. f x v) xs
flat_map_at f v [] = refl
flat_map_at f v (x ∷ xs) = ap (λ ps. f x v ++ ps) (flat_map_at f v xs)
