-- What is an expression is read as its tree.
use Rattle.std.proofs.Common.{◌≡◌, ℕ, suc, ◌<◌, ◌≤◌, nat_lt, true, false, cond, List, [], ◌∷◌, ◌++◌, None, Some, option_and_then, refl, ap, sym, subst, ◌∙◌, append_assoc, codes, arith}
use Rattle.vod_token.specs.declared.TokenKind.TheVariants as kinds
use Rattle.vod_tree.specs.declared.expr.Expr.{Expr, out-Expr, out-roll-Expr}
use Rattle.vod_tree.specs.declared.expr.ExprKind.{ExprKind}
use Rattle.vod_tree.specs.declared.expr.ExprKind.TheVariants as tree_kind
use Rattle.vod_tree.specs.declared.expr.UnaryOp.{UnaryOp}
use Rattle.vod_tree.specs.declared.expr.BinaryOp.{BinaryOp}
use Rattle.vod_tree.specs.declared.ident.Ident.{Ident}
use Rattle.vod_tree.specs.declared.ident.Number.{Number}
use Rattle.vod_expr_machine.specs.declared.word.Mark.{Mark}
use Rattle.vod_expr_machine.specs.declared.word.Mark.TheVariants as mark
use Rattle.vod_expr_machine.specs.declared.machine.Frame.{Frame}
use Rattle.vod_expr_machine.specs.declared.machine.Frame.TheVariants.{Prefix, Left, Chosen, Otherwise, Paren, Index, Range, Call, Brace, Concat, Replicate}
use Rattle.vod_expr_machine.specs.declared.machine.Head.{Head}
use Rattle.vod_expr_machine.specs.declared.machine.Head.TheVariants.{Wanted, Bare, Named, Whole, Outer}
use Rattle.vod_expr.specs.Operators.{unary_text, binary_text, tight}
use Rattle.vod_expr.specs.Grammar.{Lexeme, IsSymbol, IsName, ident_of, IsNumber, at, IsExpr, AreExprs, number, name, index, range, call, paren, concat, replicate, prefixed, joined, choice, one, more}
use Rattle.vod_expr_machine.specs.Machine.{mark_text, mark_of, unary_of, binary_of, Machine, machine, Reduced, reduced, reduce, chosen, joined_with, at_part, level_at, behind, followed, preceded, opened, named, on_mark, on_operator, on_operand, on_symbol, on_kind, step, run}
use Rattle.vod_expr.proofs.Words.{mark_spelled, unary_unmarked, unary_spelled, binary_unmarked, binary_spelled, tight_some, tight_within}

-- trees at a place are told apart by it
pub place-at : (p q : ℕ) (a b : ExprKind) → at p a ≡ at q b → p ≡ q
place-at p q a b h =
    let same = sym (out-roll-Expr (record { place = p; kind = a })) ∙ ap out-Expr h ∙ out-roll-Expr (record { place = q; kind = b }) in
    ap (λ v. v.place) same

pub kind-at : (p q : ℕ) (a b : ExprKind) → at p a ≡ at q b → a ≡ b
kind-at p q a b h =
    let same = sym (out-roll-Expr (record { place = p; kind = a })) ∙ ap out-Expr h ∙ out-roll-Expr (record { place = q; kind = b }) in
    ap (λ v. v.kind) same

-- a head behind an expression
abbrev pub Holds : Head → ℕ → ExprKind → Type 0
Holds Wanted q b = ⊥
Holds Bare q b = ⊥
Holds (Named n) q b = (q ≡ n.place) × (b ≡ tree_kind.Name n)
Holds (Whole p a) q b = (q ≡ p) × (b ≡ a)
Holds (Outer p a xs) q b = ⊥

-- a head before an expression of a level
abbrev pub Opens : Head → ℕ → Type 0
Opens Wanted k = Unit {0}
Opens Bare k = 11 < k
Opens (Named n) k = ⊥
Opens (Whole p a) k = ⊥
Opens (Outer p a xs) k = ⊥

-- frames that leave expressions of a level whole
abbrev pub FitsFrame : ℕ → Frame → Type 0
FitsFrame k (Prefix q op) = 11 < k
FitsFrame k (Left q b op) = tight op < k
FitsFrame k (Chosen q b) = Unit {0}
FitsFrame k (Otherwise q b c) = Unit {0}
FitsFrame k (Paren q) = Unit {0}
FitsFrame k (Index n) = Unit {0}
FitsFrame k (Range n b) = Unit {0}
FitsFrame k (Call n xs) = Unit {0}
FitsFrame k (Brace q) = Unit {0}
FitsFrame k (Concat q xs) = Unit {0}
FitsFrame k (Replicate q b xs) = Unit {0}

abbrev pub Fits : ℕ → List Frame → Type 0
Fits k [] = Unit {0}
Fits k (f ∷ fs) = FitsFrame k f

opens-rises : (h : Head) (k l : ℕ) → k ≤ l → Opens h k → Opens h l
opens-rises Wanted k l le o = tt
opens-rises Bare k l le o = omega arith
opens-rises (Named n) k l le o = o
opens-rises (Whole p a) k l le o = o
opens-rises (Outer p a xs) k l le o = o

fits-rises : (fs : List Frame) (k l : ℕ) → k ≤ l → Fits k fs → Fits l fs
fits-rises [] k l le f = tt
fits-rises (Prefix q op ∷ fs) k l le f = omega arith
fits-rises (Left q b op ∷ fs) k l le f = omega arith
fits-rises (Chosen q b ∷ fs) k l le f = tt
fits-rises (Otherwise q b c ∷ fs) k l le f = tt
fits-rises (Paren q ∷ fs) k l le f = tt
fits-rises (Index n ∷ fs) k l le f = tt
fits-rises (Range n b ∷ fs) k l le f = tt
fits-rises (Call n xs ∷ fs) k l le f = tt
fits-rises (Brace q ∷ fs) k l le f = tt
fits-rises (Concat q xs ∷ fs) k l le f = tt
fits-rises (Replicate q b xs ∷ fs) k l le f = tt

below : (m n : ℕ) → m < n → nat_lt m n ≡ true
below m n h = grind (arith)

not_below : (m n : ℕ) → n ≤ m → nat_lt m n ≡ false
not_below m n h = grind (arith)

pub left_alone : (fs : List Frame) (k p : ℕ) (a : ExprKind) → Fits k fs → 0 < k → k ≤ 11 → reduce k fs p a ≡ reduced fs p a
left_alone [] k p a f some within = refl
left_alone (Prefix q op ∷ fs) k p a f some within = absurd (omega arith)
left_alone (Left q b op ∷ fs) k p a f some within =
    ap (λ v. cond v (reduced (Left q b op ∷ fs) p a) (reduce k fs q (tree_kind.Binary op (at q b) (at p a)))) (below (tight op) k f)
left_alone (Otherwise q b c ∷ fs) k p a f some within =
    ap (λ v. cond v (reduced (Otherwise q b c ∷ fs) p a) (reduce k fs q (tree_kind.Conditional (at q b) c (at p a)))) (below 0 k some)
left_alone (Chosen q b ∷ fs) k p a f some within = refl
left_alone (Paren q ∷ fs) k p a f some within = refl
left_alone (Index n ∷ fs) k p a f some within = refl
left_alone (Range n b ∷ fs) k p a f some within = refl
left_alone (Call n xs ∷ fs) k p a f some within = refl
left_alone (Brace q ∷ fs) k p a f some within = refl
left_alone (Concat q xs ∷ fs) k p a f some within = refl
left_alone (Replicate q b xs ∷ fs) k p a f some within = refl

left_taken : (fs : List Frame) (j q p : ℕ) (b a : ExprKind) (op : BinaryOp) → j ≤ tight op → reduce j (Left q b op ∷ fs) p a ≡ reduce j fs q (tree_kind.Binary op (at q b) (at p a))
left_taken fs j q p b a op le =
    ap (λ v. cond v (reduced (Left q b op ∷ fs) p a) (reduce j fs q (tree_kind.Binary op (at q b) (at p a)))) (not_below (tight op) j le)

otherwise_taken : (fs : List Frame) (j q p : ℕ) (b a : ExprKind) (c : Expr) → j ≤ 0 → reduce j (Otherwise q b c ∷ fs) p a ≡ reduce j fs q (tree_kind.Conditional (at q b) c (at p a))
otherwise_taken fs j q p b a c le =
    ap (λ v. cond v (reduced (Otherwise q b c ∷ fs) p a) (reduce j fs q (tree_kind.Conditional (at q b) c (at p a)))) (not_below 0 j le)

-- the numbers of tokens are right
abbrev pub Knows : (Lexeme → Number) → Type 0
Knows value = (t : Lexeme) (n : Number) → IsNumber t n → value t ≡ n

-- steps
pub stepped : (value : Lexeme → Number) (s u : Machine) (t : Lexeme) (rest : List Lexeme) → step value s t ≡ Some u → run value s (t ∷ rest) ≡ run value u rest
stepped value s u t rest h = ap (option_and_then (λ v. run value v rest)) h

is_number : (t : Lexeme) (n : Number) → IsNumber t n → t.kind ≡ kinds.Number
is_number t n isn = isn.0

operand_step : (h g : Head) (fs : List Frame) (k : ℕ) → Opens h k → on_operand h fs g ≡ Some (machine g fs)
unfolding on_operand
operand_step Wanted g fs k o = refl
operand_step Bare g fs k o = refl
operand_step (Named n) g fs k o = absurd o
operand_step (Whole p a) g fs k o = absurd o
operand_step (Outer p a xs) g fs k o = absurd o

number_step : (value : Lexeme → Number) → Knows value → (h : Head) (fs : List Frame) (k : ℕ) (t : Lexeme) (n : Number) → Opens h k → IsNumber t n
    → step value (machine h fs) t ≡ Some (machine (Whole t.place (tree_kind.Number n)) fs)
unfolding on_kind
number_step value knows h fs k t n o isn =
    ap (λ v. on_kind v value (machine h fs) t) (is_number t n isn)
    ∙ operand_step h (Whole t.place (tree_kind.Number (value t))) fs k o
    ∙ ap (λ v. Some (machine (Whole t.place (tree_kind.Number v)) fs)) (knows t n isn)

name_step : (value : Lexeme → Number) (h : Head) (fs : List Frame) (k : ℕ) (t : Lexeme) → Opens h k → IsName t
    → step value (machine h fs) t ≡ Some (machine (Named (ident_of t)) fs)
unfolding on_kind
name_step value h fs k t o isn = ap (λ v. on_kind v value (machine h fs) t) isn ∙ operand_step h (Named (ident_of t)) fs k o

mark_step : (value : Lexeme → Number) (s : Machine) (t : Lexeme) (m : Mark) → IsSymbol t (mark_text m) → step value s t ≡ on_mark s.head s.frames t.place m
unfolding on_kind
mark_step value s t m is = ap (λ v. on_kind v value s t) is.0 ∙ ap (on_symbol s t.place t.text) (ap mark_of is.1 ∙ mark_spelled m)

operator_step : (value : Lexeme → Number) (s : Machine) (t : Lexeme) → t.kind ≡ kinds.Symbol → mark_of t.text ≡ None → step value s t ≡ on_operator s.head s.frames t.place t.text
unfolding on_kind
operator_step value s t kind none = ap (λ v. on_kind v value s t) kind ∙ ap (on_symbol s t.place t.text) none

open_step : (h : Head) (fs : List Frame) (k p : ℕ) (m : Mark) → Opens h k → on_mark h fs p m ≡ opened m fs p
unfolding on_mark
open_step Wanted fs k p m o = refl
open_step Bare fs k p m o = refl
open_step (Named n) fs k p m o = absurd o
open_step (Whole q a) fs k p m o = absurd o
open_step (Outer q a xs) fs k p m o = absurd o

named_step : (fs : List Frame) (n : Ident) (p : ℕ) (m : Mark) → on_mark (Named n) fs p m ≡ named m fs n
unfolding on_mark
named_step fs n p m = refl

behind_step : (h : Head) (fs : List Frame) (q : ℕ) (b : ExprKind) (p : ℕ) (m : Mark) → Holds h q b → ((gs : List Frame) (n : Ident) → named m gs n ≡ behind m gs n.place (tree_kind.Name n)) → on_mark h fs p m ≡ behind m fs q b
unfolding on_mark
behind_step (Named n) fs q b p m holds is = is fs n ∙ ap (λ v. behind m fs v (tree_kind.Name n)) (sym holds.0) ∙ ap (behind m fs q) (sym holds.1)
behind_step (Whole r a) fs q b p m holds is = ap (λ v. behind m fs v a) (sym holds.0) ∙ ap (behind m fs q) (sym holds.1)
behind_step Wanted fs q b p m holds is = absurd holds
behind_step Bare fs q b p m holds is = absurd holds
behind_step (Outer r a xs) fs q b p m holds is = absurd holds

followed_step : (h : Head) (fs : List Frame) (q : ℕ) (b : ExprKind) (p : ℕ) (text : List ℕ) → Holds h q b → on_operator h fs p text ≡ followed fs q b (binary_of text)
unfolding on_operator
followed_step (Named n) fs q b p text holds = ap (λ v. followed fs v (tree_kind.Name n) (binary_of text)) (sym holds.0) ∙ ap (λ v. followed fs q v (binary_of text)) (sym holds.1)
followed_step (Whole r a) fs q b p text holds = ap (λ v. followed fs v a (binary_of text)) (sym holds.0) ∙ ap (λ v. followed fs q v (binary_of text)) (sym holds.1)
followed_step Wanted fs q b p text holds = absurd holds
followed_step Bare fs q b p text holds = absurd holds
followed_step (Outer r a xs) fs q b p text holds = absurd holds

-- the step behind an expression whose frames come to these
pub part_step : (value : Lexeme → Number) (s : Machine) (q : ℕ) (b : ExprKind) (t : Lexeme) (m : Mark) (r : Reduced) → Holds s.head q b → IsSymbol t (mark_text m)
    → ((gs : List Frame) (n : Ident) → named m gs n ≡ behind m gs n.place (tree_kind.Name n)) → reduce (level_at m) s.frames q b ≡ r → step value s t ≡ at_part m r
part_step value s q b t m r holds is same e =
    mark_step value s t m is ∙ behind_step s.head s.frames q b t.place m holds same ∙ ap (at_part m) e

-- The tokens, read where an expression is wanted, come to a state behind it, in which what binds as tightly as a level up to
-- the expression's own comes to what it comes to for the tree.
pub record Reads (value : Lexeme → Number) (h : Head) (fs : List Frame) (k : ℕ) (ts : List Lexeme) (x : Expr) : Type 0 where
  pub place : ℕ
  pub kind : ExprKind
  pub is : x ≡ at place kind
  pub state : Machine
  pub last_place : ℕ
  pub last : ExprKind
  pub holds : Holds (state.head) last_place last
  pub runs : (rest : List Lexeme) → run value (machine h fs) (ts ++ rest) ≡ run value state rest
  pub reduces : (j : ℕ) → j ≤ k → reduce j (state.frames) last_place last ≡ reduce j fs place kind

-- where a list of expressions stands, and the frame of its parts so far
pub data Context : Type 0 where
  CallIn : Ident → Context
  ConcatIn : ℕ → Context
  ReplicateIn : ℕ → Expr → Context

abbrev pub concat_frame : ℕ → List Expr → Frame
concat_frame q [] = Brace q
concat_frame q (x ∷ xs) = Concat q (x ∷ xs)

abbrev pub frame_in : Context → List Expr → Frame
frame_in (CallIn n) xs = Call n xs
frame_in (ConcatIn q) xs = concat_frame q xs
frame_in (ReplicateIn q a) xs = Replicate q a xs

-- all but the last of them are in the frame
pub record ReadsMany (value : Lexeme → Number) (c : Context) (fs : List Frame) (already : List Expr) (ts : List Lexeme) (xs : List Expr) : Type 0 where
  pub before : List Expr
  pub place : ℕ
  pub kind : ExprKind
  pub is : already ++ xs ≡ before ++ at place kind ∷ []
  pub state : Machine
  pub last_place : ℕ
  pub last : ExprKind
  pub holds : Holds (state.head) last_place last
  pub runs : (rest : List Lexeme) → run value (machine Wanted (frame_in c already ∷ fs)) (ts ++ rest) ≡ run value state rest
  pub reduces : reduce 0 (state.frames) last_place last ≡ reduced (frame_in c before ∷ fs) place kind

frame_fits : (c : Context) (xs : List Expr) → FitsFrame 0 (frame_in c xs)
frame_fits (CallIn n) xs = tt
frame_fits (ConcatIn q) [] = tt
frame_fits (ConcatIn q) (x ∷ xs) = tt
frame_fits (ReplicateIn q a) xs = tt

frame_stays : (c : Context) (xs : List Expr) (fs : List Frame) (p : ℕ) (a : ExprKind) → reduce 0 (frame_in c xs ∷ fs) p a ≡ reduced (frame_in c xs ∷ fs) p a
frame_stays (CallIn n) xs fs p a = refl
frame_stays (ConcatIn q) [] fs p a = refl
frame_stays (ConcatIn q) (x ∷ xs) fs p a = refl
frame_stays (ReplicateIn q b) xs fs p a = refl

comma_in : (c : Context) (xs : List Expr) (fs : List Frame) (p : ℕ) (a : ExprKind) → at_part mark.Comma (reduced (frame_in c xs ∷ fs) p a) ≡ Some (machine Wanted (frame_in c (xs ++ at p a ∷ []) ∷ fs))
unfolding at_part
comma_in (CallIn n) xs fs p a = refl
comma_in (ConcatIn q) [] fs p a = refl
comma_in (ConcatIn q) (x ∷ xs) fs p a = refl
comma_in (ReplicateIn q b) xs fs p a = refl

concat_closes : (q : ℕ) (xs : List Expr) (fs : List Frame) (p : ℕ) (a : ExprKind) → at_part mark.CloseBrace (reduced (concat_frame q xs ∷ fs) p a) ≡ Some (machine (Whole q (tree_kind.Concat (xs ++ at p a ∷ []))) fs)
unfolding at_part
concat_closes q [] fs p a = refl
concat_closes q (x ∷ xs) fs p a = refl

-- what is read to its whole tree
is_whole : (value : Lexeme → Number) (h : Head) (fs : List Frame) (k : ℕ) (ts : List Lexeme) (p : ℕ) (a : ExprKind)
    → ((rest : List Lexeme) → run value (machine h fs) (ts ++ rest) ≡ run value (machine (Whole p a) fs) rest) → Reads value h fs k ts (at p a)
is_whole value h fs k ts p a runs =
    record { place = p; kind = a; is = refl; state = machine (Whole p a) fs; last_place = p; last = a; holds = (refl, refl); runs = runs; reduces = λ j le. refl }

abbrev after_comma : Context → List Frame → List Expr → ℕ → ExprKind → Machine
after_comma c fs already p a = machine Wanted (frame_in c (already ++ at p a ∷ []) ∷ fs)

more_read : (value : Lexeme → Number) (c : Context) (fs : List Frame) (already : List Expr) (comma : Lexeme) (ts us : List Lexeme) (a : Expr) (xs : List Expr) → IsSymbol comma (codes ",")
    → (r : Reads value Wanted (frame_in c already ∷ fs) 0 ts a) → ReadsMany value c fs (already ++ at r.place r.kind ∷ []) us xs → ReadsMany value c fs already (ts ++ comma ∷ us) (a ∷ xs)
more_read value c fs already comma ts us a xs commas r m =
    record {
      before = m.before;
      place = m.place;
      kind = m.kind;
      is = ap (λ v. already ++ v ∷ xs) r.is ∙ sym (append_assoc already (at r.place r.kind ∷ []) xs) ∙ m.is;
      state = m.state;
      last_place = m.last_place;
      last = m.last;
      holds = m.holds;
      runs = λ rest.
          ap (run value (machine Wanted (frame_in c already ∷ fs))) (append_assoc ts (comma ∷ us) rest)
          ∙ r.runs (comma ∷ (us ++ rest))
          ∙ stepped value r.state (after_comma c fs already r.place r.kind) comma (us ++ rest)
          (part_step value r.state r.last_place r.last comma mark.Comma (reduced (frame_in c already ∷ fs) r.place r.kind) r.holds commas (λ gs n. refl)
          (r.reduces 0 (omega arith) ∙ frame_stays c already fs r.place r.kind)
          ∙ comma_in c already fs r.place r.kind)
          ∙ m.runs rest;
      reduces = m.reduces;
    }

bracket_step : (value : Lexeme → Number) (fs : List Frame) (n : Ident) (t : Lexeme) → IsSymbol t (codes "[") → step value (machine (Named n) fs) t ≡ Some (machine Wanted (Index n ∷ fs))
bracket_step value fs n t is = mark_step value (machine (Named n) fs) t mark.OpenBracket is ∙ named_step fs n t.place mark.OpenBracket

call_step : (value : Lexeme → Number) (fs : List Frame) (n : Ident) (t : Lexeme) → IsSymbol t (codes "(") → step value (machine (Named n) fs) t ≡ Some (machine Wanted (Call n [] ∷ fs))
call_step value fs n t is = mark_step value (machine (Named n) fs) t mark.OpenParen is ∙ named_step fs n t.place mark.OpenParen

paren_step : (value : Lexeme → Number) (h : Head) (fs : List Frame) (k : ℕ) (t : Lexeme) → Opens h k → IsSymbol t (codes "(") → step value (machine h fs) t ≡ Some (machine Wanted (Paren t.place ∷ fs))
paren_step value h fs k t o is = mark_step value (machine h fs) t mark.OpenParen is ∙ open_step h fs k t.place mark.OpenParen o

brace_step : (value : Lexeme → Number) (h : Head) (fs : List Frame) (k : ℕ) (t : Lexeme) → Opens h k → IsSymbol t (codes "{") → step value (machine h fs) t ≡ Some (machine Wanted (Brace t.place ∷ fs))
brace_step value h fs k t o is = mark_step value (machine h fs) t mark.OpenBrace is ∙ open_step h fs k t.place mark.OpenBrace o

-- the step behind a part that was read in a frame
read_step : (value : Lexeme → Number) (fs : List Frame) (k : ℕ) (ts : List Lexeme) (x : Expr) (h : Head) (r : Reads value h fs k ts x) (t : Lexeme) (m : Mark) → IsSymbol t (mark_text m)
    → ((gs : List Frame) (n : Ident) → named m gs n ≡ behind m gs n.place (tree_kind.Name n)) → level_at m ≤ k → step value r.state t ≡ at_part m (reduce (level_at m) fs r.place r.kind)
read_step value fs k ts x h r t m is same le =
    part_step value r.state r.last_place r.last t m (reduce (level_at m) fs r.place r.kind) r.holds is same (r.reduces (level_at m) le)

index_read : (value : Lexeme → Number) (h : Head) (fs : List Frame) (k : ℕ) (t opener closer : Lexeme) (ts : List Lexeme) (a : Expr) → Opens h k → IsName t → IsSymbol opener (codes "[") → IsSymbol closer (codes "]")
    → Reads value Wanted (Index (ident_of t) ∷ fs) 0 ts a → Reads value h fs k (t ∷ opener ∷ (ts ++ closer ∷ [])) (at t.place (tree_kind.Index (ident_of t) a))
unfolding at_part
index_read value h fs k t opener closer ts a o isn opens closes r =
    let n = ident_of t in
    let x = at r.place r.kind in
    subst (λ v. Reads value h fs k (t ∷ opener ∷ (ts ++ closer ∷ [])) (at t.place (tree_kind.Index n v))) (sym r.is)
    (is_whole value h fs k (t ∷ opener ∷ (ts ++ closer ∷ [])) t.place (tree_kind.Index n x)
    (λ rest. stepped value (machine h fs) (machine (Named n) fs) t (opener ∷ (ts ++ closer ∷ [] ++ rest)) (name_step value h fs k t o isn)
    ∙ stepped value (machine (Named n) fs) (machine Wanted (Index n ∷ fs)) opener (ts ++ closer ∷ [] ++ rest) (bracket_step value fs n opener opens)
    ∙ ap (run value (machine Wanted (Index n ∷ fs))) (append_assoc ts (closer ∷ []) rest)
    ∙ r.runs (closer ∷ rest)
    ∙ stepped value r.state (machine (Whole t.place (tree_kind.Index n x)) fs) closer rest (read_step value (Index n ∷ fs) 0 ts a Wanted r closer mark.CloseBracket closes (λ gs m. refl) (omega arith))))

range_read : (value : Lexeme → Number) (h : Head) (fs : List Frame) (k : ℕ) (t opener colon closer : Lexeme) (ts us : List Lexeme) (a b : Expr) → Opens h k → IsName t → IsSymbol opener (codes "[") → IsSymbol colon (codes ":") → IsSymbol closer (codes "]")
    → (r : Reads value Wanted (Index (ident_of t) ∷ fs) 0 ts a) → Reads value Wanted (Range (ident_of t) (at r.place r.kind) ∷ fs) 0 us b → Reads value h fs k (t ∷ opener ∷ (ts ++ colon ∷ (us ++ closer ∷ []))) (at t.place (tree_kind.Range (ident_of t) a b))
unfolding at_part
range_read value h fs k t opener colon closer ts us a b o isn opens colons closes r s =
    let n = ident_of t in
    let x = at r.place r.kind in
    let y = at s.place s.kind in
    let all = t ∷ opener ∷ (ts ++ colon ∷ (us ++ closer ∷ [])) in
    subst (λ v. Reads value h fs k all (at t.place (tree_kind.Range n v b))) (sym r.is)
    (subst (λ v. Reads value h fs k all (at t.place (tree_kind.Range n x v))) (sym s.is)
    (is_whole value h fs k all t.place (tree_kind.Range n x y)
    (λ rest. stepped value (machine h fs) (machine (Named n) fs) t (opener ∷ (ts ++ colon ∷ (us ++ closer ∷ []) ++ rest)) (name_step value h fs k t o isn)
    ∙ stepped value (machine (Named n) fs) (machine Wanted (Index n ∷ fs)) opener (ts ++ colon ∷ (us ++ closer ∷ []) ++ rest) (bracket_step value fs n opener opens)
    ∙ ap (run value (machine Wanted (Index n ∷ fs))) (append_assoc ts (colon ∷ (us ++ closer ∷ [])) rest)
    ∙ r.runs (colon ∷ (us ++ closer ∷ [] ++ rest))
    ∙ stepped value r.state (machine Wanted (Range n x ∷ fs)) colon (us ++ closer ∷ [] ++ rest) (read_step value (Index n ∷ fs) 0 ts a Wanted r colon mark.Colon colons (λ gs m. refl) (omega arith))
    ∙ ap (run value (machine Wanted (Range n x ∷ fs))) (append_assoc us (closer ∷ []) rest)
    ∙ s.runs (closer ∷ rest)
    ∙ stepped value s.state (machine (Whole t.place (tree_kind.Range n x y)) fs) closer rest (read_step value (Range n x ∷ fs) 0 us b Wanted s closer mark.CloseBracket closes (λ gs m. refl) (omega arith)))))

call_read : (value : Lexeme → Number) (h : Head) (fs : List Frame) (k : ℕ) (t opener closer : Lexeme) (ts : List Lexeme) (xs : List Expr) → Opens h k → IsName t → IsSymbol opener (codes "(") → IsSymbol closer (codes ")")
    → ReadsMany value (CallIn (ident_of t)) fs [] ts xs → Reads value h fs k (t ∷ opener ∷ (ts ++ closer ∷ [])) (at t.place (tree_kind.Call (ident_of t) xs))
unfolding at_part
call_read value h fs k t opener closer ts xs o isn opens closes r =
    let n = ident_of t in
    let ys = r.before ++ at r.place r.kind ∷ [] in
    subst (λ v. Reads value h fs k (t ∷ opener ∷ (ts ++ closer ∷ [])) (at t.place (tree_kind.Call n v))) (sym r.is)
    (is_whole value h fs k (t ∷ opener ∷ (ts ++ closer ∷ [])) t.place (tree_kind.Call n ys)
    (λ rest. stepped value (machine h fs) (machine (Named n) fs) t (opener ∷ (ts ++ closer ∷ [] ++ rest)) (name_step value h fs k t o isn)
    ∙ stepped value (machine (Named n) fs) (machine Wanted (Call n [] ∷ fs)) opener (ts ++ closer ∷ [] ++ rest) (call_step value fs n opener opens)
    ∙ ap (run value (machine Wanted (Call n [] ∷ fs))) (append_assoc ts (closer ∷ []) rest)
    ∙ r.runs (closer ∷ rest)
    ∙ stepped value r.state (machine (Whole t.place (tree_kind.Call n ys)) fs) closer rest
    (part_step value r.state r.last_place r.last closer mark.CloseParen (reduced (Call n r.before ∷ fs) r.place r.kind) r.holds closes (λ gs m. refl) r.reduces)))

paren_read : (value : Lexeme → Number) (h : Head) (fs : List Frame) (k : ℕ) (opener closer : Lexeme) (ts : List Lexeme) (a : Expr) → Opens h k → IsSymbol opener (codes "(") → IsSymbol closer (codes ")")
    → Reads value Wanted (Paren opener.place ∷ fs) 0 ts a → Reads value h fs k (opener ∷ (ts ++ closer ∷ [])) (at opener.place (tree_kind.Paren a))
unfolding at_part
paren_read value h fs k opener closer ts a o opens closes r =
    let x = at r.place r.kind in
    subst (λ v. Reads value h fs k (opener ∷ (ts ++ closer ∷ [])) (at opener.place (tree_kind.Paren v))) (sym r.is)
    (is_whole value h fs k (opener ∷ (ts ++ closer ∷ [])) opener.place (tree_kind.Paren x)
    (λ rest. stepped value (machine h fs) (machine Wanted (Paren opener.place ∷ fs)) opener (ts ++ closer ∷ [] ++ rest) (paren_step value h fs k opener o opens)
    ∙ ap (run value (machine Wanted (Paren opener.place ∷ fs))) (append_assoc ts (closer ∷ []) rest)
    ∙ r.runs (closer ∷ rest)
    ∙ stepped value r.state (machine (Whole opener.place (tree_kind.Paren x)) fs) closer rest (read_step value (Paren opener.place ∷ fs) 0 ts a Wanted r closer mark.CloseParen closes (λ gs m. refl) (omega arith))))

concat_read : (value : Lexeme → Number) (h : Head) (fs : List Frame) (k : ℕ) (opener closer : Lexeme) (ts : List Lexeme) (xs : List Expr) → Opens h k → IsSymbol opener (codes "{") → IsSymbol closer (codes "}")
    → ReadsMany value (ConcatIn opener.place) fs [] ts xs → Reads value h fs k (opener ∷ (ts ++ closer ∷ [])) (at opener.place (tree_kind.Concat xs))
concat_read value h fs k opener closer ts xs o opens closes r =
    let q = opener.place in
    let ys = r.before ++ at r.place r.kind ∷ [] in
    subst (λ v. Reads value h fs k (opener ∷ (ts ++ closer ∷ [])) (at q (tree_kind.Concat v))) (sym r.is)
    (is_whole value h fs k (opener ∷ (ts ++ closer ∷ [])) q (tree_kind.Concat ys)
    (λ rest. stepped value (machine h fs) (machine Wanted (Brace q ∷ fs)) opener (ts ++ closer ∷ [] ++ rest) (brace_step value h fs k opener o opens)
    ∙ ap (run value (machine Wanted (Brace q ∷ fs))) (append_assoc ts (closer ∷ []) rest)
    ∙ r.runs (closer ∷ rest)
    ∙ stepped value r.state (machine (Whole q (tree_kind.Concat ys)) fs) closer rest
    (part_step value r.state r.last_place r.last closer mark.CloseBrace (reduced (concat_frame q r.before ∷ fs) r.place r.kind) r.holds closes (λ gs m. refl) r.reduces
    ∙ concat_closes q r.before fs r.place r.kind)))

outer_step : (value : Lexeme → Number) (fs : List Frame) (q : ℕ) (a : Expr) (xs : List Expr) (t : Lexeme) → IsSymbol t (codes "}") → step value (machine (Outer q a xs) fs) t ≡ Some (machine (Whole q (tree_kind.Replicate a xs)) fs)
unfolding on_mark
outer_step value fs q a xs t is = mark_step value (machine (Outer q a xs) fs) t mark.CloseBrace is

replicate_read : (value : Lexeme → Number) (h : Head) (fs : List Frame) (k : ℕ) (opener inner closer last : Lexeme) (ts us : List Lexeme) (a : Expr) (xs : List Expr) → Opens h k
    → IsSymbol opener (codes "{") → IsSymbol inner (codes "{") → IsSymbol closer (codes "}") → IsSymbol last (codes "}")
    → (r : Reads value Wanted (Brace opener.place ∷ fs) 0 ts a) → ReadsMany value (ReplicateIn opener.place (at r.place r.kind)) fs [] us xs
    → Reads value h fs k (opener ∷ (ts ++ inner ∷ (us ++ closer ∷ last ∷ []))) (at opener.place (tree_kind.Replicate a xs))
unfolding at_part
replicate_read value h fs k opener inner closer last ts us a xs o opens inners closes lasts r s =
    let q = opener.place in
    let x = at r.place r.kind in
    let ys = s.before ++ at s.place s.kind ∷ [] in
    let all = opener ∷ (ts ++ inner ∷ (us ++ closer ∷ last ∷ [])) in
    subst (λ v. Reads value h fs k all (at q (tree_kind.Replicate v xs))) (sym r.is)
    (subst (λ v. Reads value h fs k all (at q (tree_kind.Replicate x v))) (sym s.is)
    (is_whole value h fs k all q (tree_kind.Replicate x ys)
    (λ rest. stepped value (machine h fs) (machine Wanted (Brace q ∷ fs)) opener (ts ++ inner ∷ (us ++ closer ∷ last ∷ []) ++ rest) (brace_step value h fs k opener o opens)
    ∙ ap (run value (machine Wanted (Brace q ∷ fs))) (append_assoc ts (inner ∷ (us ++ closer ∷ last ∷ [])) rest)
    ∙ r.runs (inner ∷ (us ++ closer ∷ last ∷ [] ++ rest))
    ∙ stepped value r.state (machine Wanted (Replicate q x [] ∷ fs)) inner (us ++ closer ∷ last ∷ [] ++ rest) (read_step value (Brace q ∷ fs) 0 ts a Wanted r inner mark.OpenBrace inners (λ gs m. refl) (omega arith))
    ∙ ap (run value (machine Wanted (Replicate q x [] ∷ fs))) (append_assoc us (closer ∷ last ∷ []) rest)
    ∙ s.runs (closer ∷ last ∷ rest)
    ∙ stepped value s.state (machine (Outer q x ys) fs) closer (last ∷ rest)
    (part_step value s.state s.last_place s.last closer mark.CloseBrace (reduced (Replicate q x s.before ∷ fs) s.place s.kind) s.holds closes (λ gs m. refl) s.reduces)
    ∙ stepped value (machine (Outer q x ys) fs) (machine (Whole q (tree_kind.Replicate x ys)) fs) last rest (outer_step value fs q x ys last lasts))))

prefix_step : (value : Lexeme → Number) (h : Head) (fs : List Frame) (k : ℕ) (t : Lexeme) (op : UnaryOp) → k ≤ 11 → Opens h k → IsSymbol t (unary_text op) → step value (machine h fs) t ≡ Some (machine Bare (Prefix t.place op ∷ fs))
unfolding on_operator
prefix_step value Wanted fs k t op le o is =
    operator_step value (machine Wanted fs) t is.0 (ap mark_of is.1 ∙ unary_unmarked op) ∙ ap (preceded fs t.place) (ap unary_of is.1 ∙ unary_spelled op)
prefix_step value Bare fs k t op le o is = absurd (omega arith)
prefix_step value (Named n) fs k t op le o is = absurd o
prefix_step value (Whole p a) fs k t op le o is = absurd o
prefix_step value (Outer p a xs) fs k t op le o is = absurd o

prefixed_read : (value : Lexeme → Number) (h : Head) (fs : List Frame) (k : ℕ) (t : Lexeme) (op : UnaryOp) (ts : List Lexeme) (a : Expr) → k ≤ 11 → Opens h k → IsSymbol t (unary_text op)
    → Reads value Bare (Prefix t.place op ∷ fs) 12 ts a → Reads value h fs k (t ∷ ts) (at t.place (tree_kind.Unary op a))
prefixed_read value h fs k t op ts a le o is r =
    record {
      place = t.place;
      kind = tree_kind.Unary op (at r.place r.kind);
      is = ap (λ v. at t.place (tree_kind.Unary op v)) r.is;
      state = r.state;
      last_place = r.last_place;
      last = r.last;
      holds = r.holds;
      runs = λ rest. stepped value (machine h fs) (machine Bare (Prefix t.place op ∷ fs)) t (ts ++ rest) (prefix_step value h fs k t op le o is) ∙ r.runs rest;
      reduces = λ j l. r.reduces j (omega arith);
    }

join_step : (value : Lexeme → Number) (fs : List Frame) (ts : List Lexeme) (x : Expr) (h : Head) (op : BinaryOp) (r : Reads value h fs (tight op) ts x) (t : Lexeme) → IsSymbol t (binary_text op) → Fits (tight op) fs
    → step value r.state t ≡ Some (machine Wanted (Left r.place r.kind op ∷ fs))
join_step value fs ts x h op r t is f =
    operator_step value r.state t is.0 (ap mark_of is.1 ∙ binary_unmarked op)
    ∙ followed_step r.state.head r.state.frames r.last_place r.last t.place t.text r.holds
    ∙ ap (followed r.state.frames r.last_place r.last) (ap binary_of is.1 ∙ binary_spelled op)
    ∙ ap (joined_with op) (r.reduces (tight op) (omega arith) ∙ left_alone fs (tight op) r.place r.kind f (tight_some op) (within op))
  where
    within : (op : BinaryOp) → tight op ≤ 11
    within op = let l = tight_within op in omega arith

same_tree : (p q : ℕ) (a b : ExprKind) (x y : Expr) (make : Expr → Expr → ExprKind) → at p a ≡ at q b → x ≡ y → at p (make (at p a) x) ≡ at q (make (at q b) y)
same_tree p q a b x y make h e = ap (λ v. at v (make (at p a) x)) (place-at p q a b h) ∙ ap (λ v. at q (make v x)) h ∙ ap (λ v. at q (make (at q b) v)) e

joined_read : (value : Lexeme → Number) (h : Head) (fs : List Frame) (k : ℕ) (t : Lexeme) (op : BinaryOp) (ts us : List Lexeme) (place : ℕ) (a : ExprKind) (b : Expr) → IsSymbol t (binary_text op) → k ≤ tight op → Fits (tight op) fs
    → (r : Reads value h fs (tight op) ts (at place a)) → Reads value Wanted (Left r.place r.kind op ∷ fs) (suc (tight op)) us b → Reads value h fs k (ts ++ t ∷ us) (at place (tree_kind.Binary op (at place a) b))
joined_read value h fs k t op ts us place a b is le f r s =
    record {
      place = r.place;
      kind = tree_kind.Binary op (at r.place r.kind) (at s.place s.kind);
      is = same_tree place r.place a r.kind b (at s.place s.kind) (tree_kind.Binary op) r.is s.is;
      state = s.state;
      last_place = s.last_place;
      last = s.last;
      holds = s.holds;
      runs = λ rest.
          ap (run value (machine h fs)) (append_assoc ts (t ∷ us) rest)
          ∙ r.runs (t ∷ (us ++ rest))
          ∙ stepped value r.state (machine Wanted (Left r.place r.kind op ∷ fs)) t (us ++ rest) (join_step value fs ts (at place a) h op r t is f)
          ∙ s.runs rest;
      reduces = λ j l. s.reduces j (omega arith) ∙ left_taken fs j r.place s.place r.kind s.kind op (omega arith);
    }

choice_read : (value : Lexeme → Number) (h : Head) (fs : List Frame) (question colon : Lexeme) (ts us vs : List Lexeme) (place : ℕ) (a : ExprKind) (b c : Expr) → IsSymbol question (codes "?") → IsSymbol colon (codes ":") → Fits 1 fs
    → (r : Reads value h fs 1 ts (at place a)) (s : Reads value Wanted (Chosen r.place r.kind ∷ fs) 0 us b) → Reads value Wanted (Otherwise r.place r.kind (at s.place s.kind) ∷ fs) 0 vs c
    → Reads value h fs 0 (ts ++ question ∷ (us ++ colon ∷ vs)) (at place (tree_kind.Conditional (at place a) b c))
unfolding at_part
choice_read value h fs question colon ts us vs place a b c questions colons f r s u =
    let x = at r.place r.kind in
    let y = at s.place s.kind in
    let z = at u.place u.kind in
    record {
      place = r.place;
      kind = tree_kind.Conditional x y z;
      is = same_tree place r.place a r.kind c z (λ v w. tree_kind.Conditional v b w) r.is u.is ∙ ap (λ v. at r.place (tree_kind.Conditional x v z)) s.is;
      state = u.state;
      last_place = u.last_place;
      last = u.last;
      holds = u.holds;
      runs = λ rest.
          ap (run value (machine h fs)) (append_assoc ts (question ∷ (us ++ colon ∷ vs)) rest)
          ∙ r.runs (question ∷ (us ++ colon ∷ vs ++ rest))
          ∙ stepped value r.state (machine Wanted (Chosen r.place r.kind ∷ fs)) question (us ++ colon ∷ vs ++ rest)
          (read_step value fs 1 ts (at place a) h r question mark.Question questions (λ gs m. refl) (omega arith)
          ∙ ap chosen (left_alone fs 1 r.place r.kind f (omega arith) (omega arith)))
          ∙ ap (run value (machine Wanted (Chosen r.place r.kind ∷ fs))) (append_assoc us (colon ∷ vs) rest)
          ∙ s.runs (colon ∷ (vs ++ rest))
          ∙ stepped value s.state (machine Wanted (Otherwise r.place r.kind y ∷ fs)) colon (vs ++ rest) (read_step value (Chosen r.place r.kind ∷ fs) 0 us b Wanted s colon mark.Colon colons (λ gs m. refl) (omega arith))
          ∙ u.runs rest;
      reduces = λ j l. u.reduces j l ∙ otherwise_taken fs j r.place u.place r.kind u.kind y l;
    }

mutual
  pub reads : (value : Lexeme → Number) → Knows value → (k : ℕ) (ts : List Lexeme) (x : Expr) → IsExpr k ts x → (h : Head) (fs : List Frame) → Opens h k → Fits k fs → Reads value h fs k ts x
  reads value knows _ _ _ (number k t n isn) h fs o f =
      is_whole value h fs k (t ∷ []) t.place (tree_kind.Number n) (λ rest. stepped value (machine h fs) (machine (Whole t.place (tree_kind.Number n)) fs) t rest (number_step value knows h fs k t n o isn))
  reads value knows _ _ _ (name k t isn) h fs o f =
      record {
        place = t.place;
        kind = tree_kind.Name (ident_of t);
        is = refl;
        state = machine (Named (ident_of t)) fs;
        last_place = t.place;
        last = tree_kind.Name (ident_of t);
        holds = (refl, refl);
        runs = λ rest. stepped value (machine h fs) (machine (Named (ident_of t)) fs) t rest (name_step value h fs k t o isn);
        reduces = λ j le. refl;
      }
  reads value knows _ _ _ (index k t opener closer ts a isn opens d closes) h fs o f =
      let n = ident_of t in
      let inner = reads value knows 0 ts a d Wanted (Index n ∷ fs) tt tt in
      index_read value h fs k t opener closer ts a o isn opens closes inner
  reads value knows _ _ _ (range k t opener colon closer ts us a b isn opens d colons d' closes) h fs o f =
      let n = ident_of t in
      let first = reads value knows 0 ts a d Wanted (Index n ∷ fs) tt tt in
      let second = reads value knows 0 us b d' Wanted (Range n (at first.place first.kind) ∷ fs) tt tt in
      range_read value h fs k t opener colon closer ts us a b o isn opens colons closes first second
  reads value knows _ _ _ (call k t opener closer ts xs isn opens d closes) h fs o f =
      let inner = reads_many value knows ts xs d (CallIn (ident_of t)) fs [] in
      call_read value h fs k t opener closer ts xs o isn opens closes inner
  reads value knows _ _ _ (paren k opener closer ts a opens d closes) h fs o f =
      let inner = reads value knows 0 ts a d Wanted (Paren opener.place ∷ fs) tt tt in
      paren_read value h fs k opener closer ts a o opens closes inner
  reads value knows _ _ _ (concat k opener closer ts xs opens d closes) h fs o f =
      let inner = reads_many value knows ts xs d (ConcatIn opener.place) fs [] in
      concat_read value h fs k opener closer ts xs o opens closes inner
  reads value knows _ _ _ (replicate k opener inner closer last ts us a xs opens d inners d' closes lasts) h fs o f =
      let first = reads value knows 0 ts a d Wanted (Brace opener.place ∷ fs) tt tt in
      let second = reads_many value knows us xs d' (ReplicateIn opener.place (at first.place first.kind)) fs [] in
      replicate_read value h fs k opener inner closer last ts us a xs o opens inners closes lasts first second
  reads value knows _ _ _ (prefixed k t op ts a le is d) h fs o f =
      let inner = reads value knows 12 ts a d Bare (Prefix t.place op ∷ fs) (omega arith) (omega arith) in
      prefixed_read value h fs k t op ts a le o is inner
  reads value knows _ _ _ (joined k t op ts us place a b is le d d') h fs o f =
      let first = reads value knows (tight op) ts (at place a) d h fs (opens-rises h k (tight op) le o) (fits-rises fs k (tight op) le f) in
      let second = reads value knows (suc (tight op)) us b d' Wanted (Left first.place first.kind op ∷ fs) tt (omega arith) in
      joined_read value h fs k t op ts us place a b is le (fits-rises fs k (tight op) le f) first second
  reads value knows _ _ _ (choice question colon ts us vs place a b c questions colons d d' d'') h fs o f =
      let first = reads value knows 1 ts (at place a) d h fs (opens-rises h 0 1 (omega arith) o) (fits-rises fs 0 1 (omega arith) f) in
      let second = reads value knows 0 us b d' Wanted (Chosen first.place first.kind ∷ fs) tt tt in
      let third = reads value knows 0 vs c d'' Wanted (Otherwise first.place first.kind (at second.place second.kind) ∷ fs) tt tt in
      choice_read value h fs question colon ts us vs place a b c questions colons (fits-rises fs 0 1 (omega arith) f) first second third

  pub reads_many : (value : Lexeme → Number) → Knows value → (ts : List Lexeme) (xs : List Expr) → AreExprs ts xs → (c : Context) (fs : List Frame) (already : List Expr) → ReadsMany value c fs already ts xs
  reads_many value knows _ _ (one ts a d) c fs already =
      let r = reads value knows 0 ts a d Wanted (frame_in c already ∷ fs) tt (frame_fits c already) in
      record {
        before = already;
        place = r.place;
        kind = r.kind;
        is = ap (λ v. already ++ v ∷ []) r.is;
        state = r.state;
        last_place = r.last_place;
        last = r.last;
        holds = r.holds;
        runs = r.runs;
        reduces = r.reduces 0 (omega arith) ∙ frame_stays c already fs r.place r.kind;
      }
  reads_many value knows _ _ (more comma ts us a xs commas d d') c fs already =
      let r = reads value knows 0 ts a d Wanted (frame_in c already ∷ fs) tt (frame_fits c already) in
      let rest_read = reads_many value knows us xs d' c fs (already ++ at r.place r.kind ∷ []) in
      more_read value c fs already comma ts us a xs commas r rest_read
