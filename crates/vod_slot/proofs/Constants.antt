-- An expression that uses no signal and no memory word reads nothing; so what is done in reset reads nothing.
use Rattle.std.proofs.Common.{◌≡◌, ℕ, Bool, true, List, [], ◌∷◌, ◌++◌, length, map, flat_map, refl, ap, sym, ◌∙◌, subst, All}
use Rattle.std.specs.List.{list_all}
use Rattle.std.proofs.lemmas.Bool.{and_parts}
use Rattle.std.proofs.lemmas.List.Elements.{All-head, All-tail, All-cons, All-append, All-weaker}
use Rattle.vod_design.specs.declared.read.Read.{Read}
use Rattle.vod_design.specs.declared.read.Read.TheVariants as read
use Rattle.vod_design.specs.declared.sized.NamedMemory.{NamedMemory}
use Rattle.vod_design.specs.declared.sized.Named.{Named}
use Rattle.vod_design.specs.declared.sized.Named.TheVariants as named
use Rattle.vod_design.specs.declared.sized.SizedExpr.{SizedExpr}
use Rattle.vod_design.specs.declared.sized.SizedKind.{SizedKind}
use Rattle.vod_design.specs.declared.sized.SizedKind.TheOpen.{SizedKind-F, SizedExpr-F}
use Rattle.vod_design.specs.declared.sized.SizedKind.TheFolds.{fold-SizedKind, fold-roll-SizedKind, fold-roll-SizedExpr, map-SizedKind, map-SizedExpr, ind-SizedExpr}
use Rattle.vod_design.specs.declared.sized.SizedKind.TheViews.{roll-SizedKind, roll-SizedExpr}
use Rattle.vod_design.specs.declared.sized.Variable.TheVariants.{Signal, Local}
use Rattle.vod_design.specs.declared.statement.CaseItem.{CaseItem}
use Rattle.vod_design.specs.declared.statement.Part.{Part}
use Rattle.vod_design.specs.declared.statement.PartTarget.{PartTarget}
use Rattle.vod_design.specs.declared.statement.PartTarget.TheVariants as part
use Rattle.vod_design.specs.declared.statement.Statement.{Statement}
use Rattle.vod_design.specs.declared.statement.Statement.TheOpen.{Statement-F}
use Rattle.vod_design.specs.declared.statement.Statement.TheFolds.{fold-CaseItem, map-Statement, fold-roll-Statement, ind-Statement}
use Rattle.vod_design.specs.declared.statement.Statement.TheViews.{roll-Statement}
use Rattle.vod_design.specs.Accepted.{IsConstantName, IsConstantUse, IsSelected, IsReset}
use Rattle.vod_design.specs.Reads.{whole, bits, kind_reads, reads}
use Rattle.vod_design.specs.Uses.{Use, Whole, Bits, BitAt, Word, WordAt, Called, Inputs, IndexSize, Seen, kind_uses, expr_seen, seen, uses, all_uses, Assignment, part_index, layer_exprs, item_exprs, exprs, layer_assignments, item_assignments, assignments, is_plain_layer, is_plain}
use Rattle.vod_slot.proofs.Lists.{all_none, all_one, all_front, all_back}

-- a use of no signal and no memory word
abbrev pub IsFreeName : Named → Type 0
IsFreeName (named.Variable (Signal n)) = ⊥
IsFreeName (named.Variable (Local n)) = Unit {0}
IsFreeName (named.Constant bits) = Unit {0}

abbrev pub IsFree : Use → Type 0
IsFree (Whole name) = IsFreeName name
IsFree (Bits name low width) = IsFreeName name
IsFree (BitAt name least index) = IsFreeName name
IsFree (Word memory place) = ⊥
IsFree (WordAt memory least index) = ⊥
IsFree (Called n count) = Unit {0}
IsFree (Inputs op count) = Unit {0}

-- expressions: what is read is of what is used

-- where a use has a property, what it reads has another
pub record Follow (U : Use → Type 0) (R : Read → Type 0) : Type 0 where
  pub names : (n : Named) → U (Whole n) → All R (whole n)
  pub selections : (n : Named) (low width : ℕ) → U (Bits n low width) → All R (bits n low width)
  pub indices : (n : Named) (least : ℕ) (index : IndexSize) → U (BitAt n least index) → All R (whole n)
  pub words : (memory : NamedMemory) (place : ℕ) → U (Word memory place) → R (read.Word memory.number place)
  pub word_indices : (memory : NamedMemory) (least : ℕ) (index : IndexSize) → U (WordAt memory least index) → R (read.Ram memory.number)

abbrev kind_reads_of : SizedKind → List Read
kind_reads_of k = fold-SizedKind (List Read) (List Read) kind_reads (λ e. e.kind) k

abbrev kind_uses_of : SizedKind → List Use
kind_uses_of k = fold-SizedKind (List Use) Seen kind_uses expr_seen k

abbrev KindFollows : (Use → Type 0) → (Read → Type 0) → SizedKind → Type 0
KindFollows U R k = All U (kind_uses_of k) → All R (kind_reads_of k)

abbrev ExprFollows : (Use → Type 0) → (Read → Type 0) → SizedExpr → Type 0
ExprFollows U R e = All U (uses e) → All R (reads e)

-- an expression beside the proof for it
abbrev With : (Use → Type 0) → (Read → Type 0) → Type 0
With U R = (e : SizedExpr) × ExprFollows U R e

abbrev WithKind : (Use → Type 0) → (Read → Type 0) → Type 0
WithKind U R = (k : SizedKind) × KindFollows U R k

abbrev Layer : Type 0
Layer = SizedKind-F SizedKind SizedExpr

abbrev layer_reads : Layer → List Read
layer_reads x = kind_reads (map-SizedKind SizedKind SizedExpr (List Read) (List Read) kind_reads_of reads x)

abbrev layer_uses : Layer → List Use
layer_uses x = kind_uses (map-SizedKind SizedKind SizedExpr (List Use) Seen kind_uses_of seen x)

abbrev bare : (U : Use → Type 0) (R : Read → Type 0) → SizedKind-F (WithKind U R) (With U R) → Layer
bare U R y = map-SizedKind (WithKind U R) (With U R) SizedKind SizedExpr (λ k. k.0) (λ e. e.0) y

each_follows : (U : Use → Type 0) (R : Read → Type 0) (es : List (With U R)) → All U (all_uses (map seen (map (λ e. e.0) es))) → All R (flat_map (λ part. part) (map reads (map (λ e. e.0) es)))
each_follows U R [] h = all_none R
each_follows U R (e ∷ es) h =
    All-append R (reads e.0) (flat_map (λ part. part) (map reads (map (λ x. x.0) es)))
    (e.1 (all_front U (uses e.0) (all_uses (map seen (map (λ x. x.0) es))) h))
    (each_follows U R es (all_back U (uses e.0) (all_uses (map seen (map (λ x. x.0) es))) h))

two_follow : (U : Use → Type 0) (R : Read → Type 0) (a b : With U R) → All U (uses a.0 ++ uses b.0) → All R (reads a.0 ++ reads b.0)
two_follow U R a b h = All-append R (reads a.0) (reads b.0) (a.1 (all_front U (uses a.0) (uses b.0) h)) (b.1 (all_back U (uses a.0) (uses b.0) h))

layer_follows : (U : Use → Type 0) (R : Read → Type 0) → Follow U R → (y : SizedKind-F (WithKind U R) (With U R)) → All U (layer_uses (bare U R y)) → All R (layer_reads (bare U R y))
layer_follows U R f (SizedKind-F.Number b) h = all_none R
layer_follows U R f (SizedKind-F.Name n) h = f.names n (All-head U (Whole n) [] h)
layer_follows U R f (SizedKind-F.Select n low count) h = f.selections n low count (All-head U (Bits n low count) [] h)
layer_follows U R f (SizedKind-F.Index n least e) h =
    let own = BitAt n least (seen e.0).size in
    All-append R (whole n) (reads e.0) (f.indices n least (seen e.0).size (All-head U own [] (all_back U (uses e.0) (own ∷ []) h))) (e.1 (all_front U (uses e.0) (own ∷ []) h))
layer_follows U R f (SizedKind-F.Word memory place) h = all_one R (read.Word memory.number place) (f.words memory place (All-head U (Word memory place) [] h))
layer_follows U R f (SizedKind-F.WordIndex memory least e) h =
    let own = WordAt memory least (seen e.0).size in
    All-cons R (read.Ram memory.number) (reads e.0) (f.word_indices memory least (seen e.0).size (All-head U own [] (all_back U (uses e.0) (own ∷ []) h))) (e.1 (all_front U (uses e.0) (own ∷ []) h))
layer_follows U R f (SizedKind-F.Unary op a) h = a.1 h
layer_follows U R f (SizedKind-F.Binary op a b) h = two_follow U R a b h
layer_follows U R f (SizedKind-F.Comparison op a b) h = two_follow U R a b h
layer_follows U R f (SizedKind-F.LogicalNot a) h = a.1 h
layer_follows U R f (SizedKind-F.Logical op a b) h = two_follow U R a b h
layer_follows U R f (SizedKind-F.Reduction op a) h = a.1 h
layer_follows U R f (SizedKind-F.Shift op a b) h = two_follow U R a b h
layer_follows U R f (SizedKind-F.Conditional t a b) h =
    All-append R (reads t.0 ++ reads a.0) (reads b.0) (two_follow U R t a (all_front U (uses t.0 ++ uses a.0) (uses b.0) h)) (b.1 (all_back U (uses t.0 ++ uses a.0) (uses b.0) h))
layer_follows U R f (SizedKind-F.Concat parts) h = each_follows U R parts h
layer_follows U R f (SizedKind-F.Replicate count a) h = a.1 h
layer_follows U R f (SizedKind-F.Call n arguments) h = each_follows U R arguments (all_front U (all_uses (map seen (map (λ x. x.0) arguments))) (Called n (length (map seen (map (λ x. x.0) arguments))) ∷ []) h)
layer_follows U R f (SizedKind-F.Gate op inputs) h = each_follows U R inputs (all_front U (all_uses (map seen (map (λ x. x.0) inputs))) (Inputs op (length (map seen (map (λ x. x.0) inputs))) ∷ []) h)

rolled : (U : Use → Type 0) (R : Read → Type 0) → Follow U R → (y : SizedKind-F (WithKind U R) (With U R)) → KindFollows U R (roll-SizedKind (bare U R y))
unfolding reads seen
rolled U R f y h =
    let x = bare U R y in
    let held = subst (All U) (fold-roll-SizedKind (List Use) Seen kind_uses expr_seen x) h in
    subst (All R) (sym (fold-roll-SizedKind (List Read) (List Read) kind_reads (λ e. e.kind) x)) (layer_follows U R f y held)

abbrev bare_expr : (U : Use → Type 0) (R : Read → Type 0) → SizedExpr-F (WithKind U R) (With U R) → SizedExpr-F SizedKind SizedExpr
bare_expr U R y = map-SizedExpr (WithKind U R) (With U R) SizedKind SizedExpr (λ k. k.0) (λ e. e.0) y

sized : (U : Use → Type 0) (R : Read → Type 0) → Follow U R → (y : SizedExpr-F (WithKind U R) (With U R)) → ExprFollows U R (roll-SizedExpr (bare_expr U R y))
unfolding reads seen
sized U R f y h =
    let x = bare_expr U R y in
    let held = subst (λ (s : Seen). All U s.uses) (fold-roll-SizedExpr (List Use) Seen kind_uses expr_seen x) h in
    subst (All R) (sym (fold-roll-SizedExpr (List Read) (List Read) kind_reads (λ e. e.kind) x)) (y.kind.1 held)

pub reads_follow : (U : Use → Type 0) (R : Read → Type 0) → Follow U R → (e : SizedExpr) → All U (uses e) → All R (reads e)
reads_follow U R f =
    ind-SizedExpr (KindFollows U R) (ExprFollows U R)
    (λ x y is. let P : Layer → Type 0 = λ z. KindFollows U R (roll-SizedKind z) in subst P is (rolled U R f y))
    (λ x y is. let P : SizedExpr-F SizedKind SizedExpr → Type 0 = λ z. ExprFollows U R (roll-SizedExpr z) in subst P is (sized U R f y))

-- nothing is read

abbrev Never : Read → Type 0
Never r = ⊥

free_names : (n : Named) → IsFreeName n → All Never (whole n)
free_names (named.Variable (Signal m)) h = absurd h
free_names (named.Variable (Local m)) h = all_none Never
free_names (named.Constant b) h = all_none Never

free_bits : (n : Named) (low width : ℕ) → IsFreeName n → All Never (bits n low width)
free_bits (named.Variable (Signal m)) low width h = absurd h
free_bits (named.Variable (Local m)) low width h = all_none Never
free_bits (named.Constant b) low width h = all_none Never

never_none : (rs : List Read) → All Never rs → rs ≡ []
never_none [] h = refl
never_none (r ∷ rs) h = absurd (All-head Never r rs h)

pub free_reads : (e : SizedExpr) → All IsFree (uses e) → reads e ≡ []
free_reads e h =
    never_none (reads e)
    (reads_follow IsFree Never (record { names = λ n free. free_names n free; selections = λ n low width free. free_bits n low width free; indices = λ n least index free. free_names n free; words = λ memory place free. free; word_indices = λ memory least index free. free }) e h)

nothing : {A : Type 0} (xs ys : List A) → xs ≡ [] → ys ≡ [] → xs ++ ys ≡ []
nothing xs ys h k = ap (λ zs. zs ++ ys) h ∙ k

free_name : (n : Named) → IsConstantName n → IsFreeName n
free_name (named.Variable x) h = absurd h
free_name (named.Constant b) h = tt

free_use : (u : Use) → IsConstantUse u → IsFree u
free_use (Whole name) h = free_name name h
free_use (Bits name low width) h = free_name name h
free_use (BitAt name least index) h = free_name name h
free_use (Word memory place) h = absurd h
free_use (WordAt memory least index) h = absurd h
free_use (Called n count) h = tt
free_use (Inputs op count) h = tt

pub constant_reads : (e : SizedExpr) → All IsConstantUse (uses e) → reads e ≡ []
constant_reads e h = free_reads e (All-weaker IsConstantUse IsFree free_use (uses e) h)

-- statements

abbrev ReadsNothing : SizedExpr → Type 0
ReadsNothing e = reads e ≡ []

abbrev ConstantAssign : Assignment → Type 0
ConstantAssign a = All IsConstantUse (uses a.right)

abbrev SelectedAssign : Assignment → Type 0
SelectedAssign a = All (λ (p : Part). IsSelected p.target) a.parts

abbrev StatementConstant : Statement → Type 0
StatementConstant s = is_plain s ≡ true → All ConstantAssign (assignments s) → All SelectedAssign (assignments s) → All ReadsNothing (exprs s)

abbrev WithStatement : Type 0
WithStatement = (s : Statement) × StatementConstant s

abbrev IsItem : CaseItem → Type 0
IsItem item = Unit {0}

abbrev WithItem : Type 0
WithItem = (item : CaseItem) × IsItem item

abbrev Statements : Type 0
Statements = Statement-F Statement CaseItem

abbrev without : Statement-F WithStatement WithItem → Statements
without y = map-Statement WithStatement WithItem Statement CaseItem (λ s. s.0) (λ i. i.0) y

abbrev item_plain : CaseItem → Bool
item_plain item = fold-CaseItem Bool Bool is_plain_layer (λ i. i.body) item

abbrev item_assigns : CaseItem → List Assignment
item_assigns item = fold-CaseItem (List Assignment) (List Assignment) layer_assignments item_assignments item

abbrev item_reads : CaseItem → List SizedExpr
item_reads item = fold-CaseItem (List SizedExpr) (List SizedExpr) layer_exprs item_exprs item

abbrev plain_at : Statements → Bool
plain_at x = is_plain_layer (map-Statement Statement CaseItem Bool Bool is_plain item_plain x)

abbrev assigns_at : Statements → List Assignment
assigns_at x = layer_assignments (map-Statement Statement CaseItem (List Assignment) (List Assignment) assignments item_assigns x)

abbrev exprs_at : Statements → List SizedExpr
exprs_at x = layer_exprs (map-Statement Statement CaseItem (List SizedExpr) (List SizedExpr) exprs item_reads x)

index_nothing : (t : PartTarget) → IsSelected t → part_index t ≡ []
index_nothing (part.Bits x low) h = refl
index_nothing (part.Index x least index) h = absurd h
index_nothing (part.Word memory least index) h = absurd h

indices_nothing : (parts : List Part) → All (λ (p : Part). IsSelected p.target) parts → flat_map (λ (p : Part). part_index p.target) parts ≡ []
indices_nothing [] h = refl
indices_nothing (p ∷ parts) h =
    nothing (part_index p.target) (flat_map (λ (q : Part). part_index q.target) parts)
    (index_nothing p.target (All-head (λ (q : Part). IsSelected q.target) p parts h))
    (indices_nothing parts (All-tail (λ (q : Part). IsSelected q.target) p parts h))

all_plain : (ss : List WithStatement) → list_all (λ b. b) (map is_plain (map (λ s. s.0) ss)) ≡ true → All ConstantAssign (flat_map (λ s. s) (map assignments (map (λ s. s.0) ss))) → All SelectedAssign (flat_map (λ s. s) (map assignments (map (λ s. s.0) ss))) →
    All ReadsNothing (flat_map (λ s. s) (map exprs (map (λ s. s.0) ss)))
all_plain [] p c s = all_none ReadsNothing
all_plain (t ∷ ss) p c s =
    let both = and_parts (is_plain t.0) (list_all (λ b. b) (map is_plain (map (λ x. x.0) ss))) p in
    let more = flat_map (λ x. x) (map assignments (map (λ x. x.0) ss)) in
    All-append ReadsNothing (exprs t.0) (flat_map (λ x. x) (map exprs (map (λ x. x.0) ss)))
    (t.1 both.0 (all_front ConstantAssign (assignments t.0) more c) (all_front SelectedAssign (assignments t.0) more s))
    (all_plain ss both.1 (all_back ConstantAssign (assignments t.0) more c) (all_back SelectedAssign (assignments t.0) more s))

statement_layer : (y : Statement-F WithStatement WithItem) → plain_at (without y) ≡ true → All ConstantAssign (assigns_at (without y)) → All SelectedAssign (assigns_at (without y)) → All ReadsNothing (exprs_at (without y))
statement_layer (Statement-F.Assign parts right) p c s =
    let a : Assignment = record { parts = parts; right = right } in
    let none = indices_nothing parts (All-head SelectedAssign a [] s) in
    subst (λ es. All ReadsNothing (right ∷ es)) (sym none) (all_one ReadsNothing right (constant_reads right (All-head ConstantAssign a [] c)))
statement_layer (Statement-F.If test taken other) p c s = absurd (cc)
statement_layer (Statement-F.Case tested items otherwise) p c s = absurd (cc)
statement_layer (Statement-F.Begin statements) p c s = all_plain statements p c s
statement_layer Statement-F.Empty p c s = all_none ReadsNothing

rolled_statement : (y : Statement-F WithStatement WithItem) → StatementConstant (roll-Statement (without y))
unfolding is_plain assignments exprs
rolled_statement y p c s =
    let x = without y in
    let plain : plain_at x ≡ true = sym (fold-roll-Statement Bool Bool is_plain_layer (λ i. i.body) x) ∙ p in
    let assigns = fold-roll-Statement (List Assignment) (List Assignment) layer_assignments item_assignments x in
    subst (All ReadsNothing) (sym (fold-roll-Statement (List SizedExpr) (List SizedExpr) layer_exprs item_exprs x))
    (statement_layer y plain (subst (All ConstantAssign) assigns c) (subst (All SelectedAssign) assigns s))

statement_constant : (s : Statement) → StatementConstant s
statement_constant =
    ind-Statement StatementConstant IsItem
    (λ x y is. let P : Statements → Type 0 = λ z. StatementConstant (roll-Statement z) in subst P is (rolled_statement y))
    (λ x y is. tt)

pub reset_reads : (s : Statement) → IsReset s → All (λ e. reads e ≡ []) (exprs s)
reset_reads s h = statement_constant s h.plain h.constants h.selects
