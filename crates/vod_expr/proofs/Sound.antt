-- What is read is an expression as far as it goes.
use Rattle.std.proofs.Common.{◌≡◌, ℕ, suc, ◌≤◌, nat_lt, Bool, true, false, cond, List, [], ◌∷◌, ◌++◌, refl, subst, ◌∙◌, append_assoc, codes, arith}
use Rattle.vod_tree.specs.declared.expr.Expr.{Expr}
use Rattle.vod_tree.specs.declared.expr.ExprKind.{ExprKind}
use Rattle.vod_tree.specs.declared.expr.ExprKind.TheVariants as tree_kind
use Rattle.vod_tree.specs.declared.expr.UnaryOp.{UnaryOp}
use Rattle.vod_tree.specs.declared.expr.BinaryOp.{BinaryOp}
use Rattle.vod_expr_machine.specs.declared.machine.Frame.{Frame}
use Rattle.vod_expr_machine.specs.declared.machine.Frame.TheVariants.{Prefix, Left, Chosen, Otherwise, Paren, Index, Range, Call, Brace, Concat, Replicate}
use Rattle.vod_expr.specs.Operators.{unary_text, binary_text, tight}
use Rattle.vod_expr.specs.Grammar.{Lexeme, IsSymbol, IsName, ident_of, at, IsExpr, AreExprs, number, name, index, range, call, paren, concat, replicate, prefixed, joined, choice, one, more}
use Rattle.vod_expr_machine.specs.Machine.{Reduced, reduced, reduce, tree}

-- an expression of a level is one of each lower level
pub lower : (m : ℕ) (ts : List Lexeme) (x : Expr) → IsExpr m ts x → (k : ℕ) → k ≤ m → IsExpr k ts x
lower _ _ _ (number m t n isn) k le = number k t n isn
lower _ _ _ (name m t isn) k le = name k t isn
lower _ _ _ (index m t opener closer ts a isn opens d closes) k le = index k t opener closer ts a isn opens d closes
lower _ _ _ (range m t opener colon closer ts us a b isn opens d colons d' closes) k le = range k t opener colon closer ts us a b isn opens d colons d' closes
lower _ _ _ (call m t opener closer ts xs isn opens d closes) k le = call k t opener closer ts xs isn opens d closes
lower _ _ _ (paren m opener closer ts a opens d closes) k le = paren k opener closer ts a opens d closes
lower _ _ _ (concat m opener closer ts xs opens d closes) k le = concat k opener closer ts xs opens d closes
lower _ _ _ (replicate m opener inner closer last ts us a xs opens d inners d' closes lasts) k le = replicate k opener inner closer last ts us a xs opens d inners d' closes lasts
lower _ _ _ (prefixed m t op ts a within is d) k le = prefixed k t op ts a (omega arith) is d
lower _ _ _ (joined m t op ts us place a b is within d d') k le = joined k t op ts us place a b is (omega arith) d d'
lower _ _ _ (choice question colon ts us vs place a b c questions colons d d' d'') k le =
    let same : 0 ≡ k = omega arith in
    subst (λ v. IsExpr v (ts ++ question ∷ (us ++ colon ∷ vs)) (at place (tree_kind.Conditional (at place a) b c))) same
    (choice question colon ts us vs place a b c questions colons d d' d'')

-- the level of an expression that stands in the frames
abbrev pub frame_need : Frame → ℕ
frame_need (Prefix q op) = 12
frame_need (Left q b op) = suc (tight op)
frame_need (Chosen q b) = 0
frame_need (Otherwise q b c) = 0
frame_need (Paren q) = 0
frame_need (Index n) = 0
frame_need (Range n b) = 0
frame_need (Call n xs) = 0
frame_need (Brace q) = 0
frame_need (Concat q xs) = 0
frame_need (Replicate q b xs) = 0

abbrev pub need : List Frame → ℕ
need [] = 0
need (f ∷ fs) = frame_need f

-- expressions with `,` behind each
pub data Parts : List Lexeme → List Expr → Type 0 where
  none : Parts [] []
  part : (ts us : List Lexeme) (comma : Lexeme) (xs : List Expr) (a : Expr) → Parts ts xs → IsExpr 0 us a → IsSymbol comma (codes ",") → Parts (ts ++ (us ++ comma ∷ [])) (xs ++ a ∷ [])

pub parts_then : (ts : List Lexeme) (xs : List Expr) → Parts ts xs → (us : List Lexeme) (ys : List Expr) → AreExprs us ys → AreExprs (ts ++ us) (xs ++ ys)
parts_then _ _ none us ys d = d
parts_then _ _ (part ts vs comma xs a p e commas) us ys d =
    let all = parts_then ts xs p (vs ++ comma ∷ us) (a ∷ ys) (more comma vs us a ys commas e d) in
    let tokens : ts ++ (vs ++ comma ∷ us) ≡ ts ++ (vs ++ comma ∷ []) ++ us = simp append_assoc in
    let trees : xs ++ a ∷ ys ≡ xs ++ a ∷ [] ++ ys = simp append_assoc in
    subst (λ v. AreExprs v (xs ++ a ∷ [] ++ ys)) tokens (subst (λ v. AreExprs (ts ++ (vs ++ comma ∷ us)) v) trees all)

pub parts_last : (ts us : List Lexeme) (xs : List Expr) (a : Expr) → Parts ts xs → IsExpr 0 us a → AreExprs (ts ++ us) (xs ++ a ∷ [])
parts_last ts us xs a p d = parts_then ts xs p us (a ∷ []) (one us a d)

-- the frames that these tokens begin
pub data Begun : List Frame → List Lexeme → Type 0 where
  nothing : Begun [] []
  in_prefix : (fs : List Frame) (ts : List Lexeme) (t : Lexeme) (op : UnaryOp) → Begun fs ts → need fs ≤ 11 → IsSymbol t (unary_text op) → Begun (Prefix t.place op ∷ fs) (ts ++ t ∷ [])
  in_left : (fs : List Frame) (ts us : List Lexeme) (t : Lexeme) (op : BinaryOp) (q : ℕ) (b : ExprKind) → Begun fs ts → need fs ≤ tight op → IsExpr (tight op) us (at q b) → IsSymbol t (binary_text op)
      → Begun (Left q b op ∷ fs) (ts ++ (us ++ t ∷ []))
  in_chosen : (fs : List Frame) (ts us : List Lexeme) (t : Lexeme) (q : ℕ) (b : ExprKind) → Begun fs ts → need fs ≤ 0 → IsExpr 1 us (at q b) → IsSymbol t (codes "?") → Begun (Chosen q b ∷ fs) (ts ++ (us ++ t ∷ []))
  in_otherwise : (fs : List Frame) (ts us vs : List Lexeme) (t colon : Lexeme) (q : ℕ) (b : ExprKind) (c : Expr) → Begun fs ts → need fs ≤ 0 → IsExpr 1 us (at q b) → IsSymbol t (codes "?")
      → IsExpr 0 vs c → IsSymbol colon (codes ":") → Begun (Otherwise q b c ∷ fs) (ts ++ (us ++ t ∷ (vs ++ colon ∷ [])))
  in_paren : (fs : List Frame) (ts : List Lexeme) (t : Lexeme) → Begun fs ts → IsSymbol t (codes "(") → Begun (Paren t.place ∷ fs) (ts ++ t ∷ [])
  in_index : (fs : List Frame) (ts : List Lexeme) (t opener : Lexeme) → Begun fs ts → IsName t → IsSymbol opener (codes "[") → Begun (Index (ident_of t) ∷ fs) (ts ++ t ∷ opener ∷ [])
  in_range : (fs : List Frame) (ts us : List Lexeme) (t opener colon : Lexeme) (a : Expr) → Begun fs ts → IsName t → IsSymbol opener (codes "[") → IsExpr 0 us a → IsSymbol colon (codes ":")
      → Begun (Range (ident_of t) a ∷ fs) (ts ++ t ∷ opener ∷ (us ++ colon ∷ []))
  in_call : (fs : List Frame) (ts us : List Lexeme) (t opener : Lexeme) (xs : List Expr) → Begun fs ts → IsName t → IsSymbol opener (codes "(") → Parts us xs → Begun (Call (ident_of t) xs ∷ fs) (ts ++ t ∷ opener ∷ us)
  in_brace : (fs : List Frame) (ts : List Lexeme) (t : Lexeme) → Begun fs ts → IsSymbol t (codes "{") → Begun (Brace t.place ∷ fs) (ts ++ t ∷ [])
  in_concat : (fs : List Frame) (ts us : List Lexeme) (t : Lexeme) (xs : List Expr) → Begun fs ts → IsSymbol t (codes "{") → Parts us xs → Begun (Concat t.place xs ∷ fs) (ts ++ t ∷ us)
  in_replicate : (fs : List Frame) (ts us vs : List Lexeme) (t inner : Lexeme) (a : Expr) (xs : List Expr) → Begun fs ts → IsSymbol t (codes "{") → IsExpr 0 us a → IsSymbol inner (codes "{") → Parts vs xs
      → Begun (Replicate t.place a xs ∷ fs) (ts ++ t ∷ (us ++ inner ∷ vs))

-- what an expression is taken into
pub record Taken (k : ℕ) (all : List Lexeme) (r : Reduced) : Type 0 where
  pub before : List Lexeme
  pub part : List Lexeme
  pub begun : Begun (r.frames) before
  pub expr : IsExpr k part (tree r)
  pub needs : need (r.frames) ≤ k
  pub split : all ≡ before ++ part

regrouped : (k : ℕ) (all other : List Lexeme) (r : Reduced) → other ≡ all → Taken k all r → Taken k other r
regrouped k all other r e t = record { before = t.before; part = t.part; begun = t.begun; expr = t.expr; needs = t.needs; split = e ∙ t.split }

stays : (k m : ℕ) (fs : List Frame) (ts us : List Lexeme) (p : ℕ) (a : ExprKind) → Begun fs ts → IsExpr m us (at p a) → need fs ≤ k → k ≤ m → Taken k (ts ++ us) (reduced fs p a)
stays k m fs ts us p a d e n le = record { before = ts; part = us; begun = d; expr = lower m us (at p a) e k le; needs = n; split = refl }

above : (m n : ℕ) → nat_lt m n ≡ true → suc m ≤ n
above m n h = grind (arith)

not_above : (m n : ℕ) → nat_lt m n ≡ false → n ≤ m
not_above m n h = grind (arith)

left_by : (k m : ℕ) (fs : List Frame) (ts us vs : List Lexeme) (t : Lexeme) (op : BinaryOp) (q : ℕ) (b : ExprKind) (p : ℕ) (a : ExprKind) → Begun (Left q b op ∷ fs) (ts ++ (vs ++ t ∷ [])) → IsExpr m us (at p a) → k ≤ m
    → (v : Bool) → nat_lt (tight op) k ≡ v → (k ≤ tight op → Taken k (ts ++ (vs ++ t ∷ us)) (reduce k fs q (tree_kind.Binary op (at q b) (at p a))))
    → Taken k (ts ++ (vs ++ t ∷ []) ++ us) (cond v (reduced (Left q b op ∷ fs) p a) (reduce k fs q (tree_kind.Binary op (at q b) (at p a))))
left_by k m fs ts us vs t op q b p a d e le true h down = stays k m (Left q b op ∷ fs) (ts ++ (vs ++ t ∷ [])) us p a d e (above (tight op) k h) le
left_by k m fs ts us vs t op q b p a d e le false h down = regrouped k (ts ++ (vs ++ t ∷ us)) (ts ++ (vs ++ t ∷ []) ++ us) _ (simp append_assoc) (down (not_above (tight op) k h))

otherwise_by : (k m : ℕ) (fs : List Frame) (ts us ws vs : List Lexeme) (t colon : Lexeme) (q : ℕ) (b : ExprKind) (c : Expr) (p : ℕ) (a : ExprKind) → Begun (Otherwise q b c ∷ fs) (ts ++ (ws ++ t ∷ (vs ++ colon ∷ []))) → IsExpr m us (at p a) → k ≤ m
    → (v : Bool) → nat_lt 0 k ≡ v → (k ≤ 0 → Taken k (ts ++ (ws ++ t ∷ (vs ++ colon ∷ us))) (reduce k fs q (tree_kind.Conditional (at q b) c (at p a))))
    → Taken k (ts ++ (ws ++ t ∷ (vs ++ colon ∷ [])) ++ us) (cond v (reduced (Otherwise q b c ∷ fs) p a) (reduce k fs q (tree_kind.Conditional (at q b) c (at p a))))
otherwise_by k m fs ts us ws vs t colon q b c p a d e le true h down = stays k m (Otherwise q b c ∷ fs) (ts ++ (ws ++ t ∷ (vs ++ colon ∷ []))) us p a d e (omega arith) le
otherwise_by k m fs ts us ws vs t colon q b c p a d e le false h down =
    regrouped k (ts ++ (ws ++ t ∷ (vs ++ colon ∷ us))) (ts ++ (ws ++ t ∷ (vs ++ colon ∷ [])) ++ us) _ (simp append_assoc) (down (not_above 0 k h))

pub taken : (k : ℕ) → k ≤ 11 → (fs : List Frame) (ts : List Lexeme) → Begun fs ts → (m : ℕ) (us : List Lexeme) (p : ℕ) (a : ExprKind) → IsExpr m us (at p a) → need fs ≤ m → k ≤ m → Taken k (ts ++ us) (reduce k fs p a)
taken k w _ _ nothing m us p a e n le = stays k m [] [] us p a nothing e (omega arith) le
taken k w _ _ (in_prefix fs ts t op d within is) m us p a e n le =
    let down = taken k w fs ts d 11 (t ∷ us) t.place (tree_kind.Unary op (at p a)) (prefixed 11 t op us (at p a) (omega arith) is (lower m us (at p a) e 12 n)) within w in
    regrouped k (ts ++ t ∷ us) (ts ++ t ∷ [] ++ us) _ (append_assoc ts (t ∷ []) us) down
taken k w _ _ (in_left fs ts vs t op q b d within left is) m us p a e n le =
    let made = joined (tight op) t op vs us q b (at p a) is (omega arith) left (lower m us (at p a) e (suc (tight op)) n) in
    left_by k m fs ts us vs t op q b p a (in_left fs ts vs t op q b d within left is) e le (nat_lt (tight op) k) refl
    (λ low. taken k w fs ts d (tight op) (vs ++ t ∷ us) q (tree_kind.Binary op (at q b) (at p a)) made within low)
taken k w _ _ (in_otherwise fs ts ws vs t colon q b c d within first is second colons) m us p a e n le =
    let made = choice t colon ws vs us q b c (at p a) is colons first second (lower m us (at p a) e 0 (omega arith)) in
    otherwise_by k m fs ts us ws vs t colon q b c p a (in_otherwise fs ts ws vs t colon q b c d within first is second colons) e le (nat_lt 0 k) refl
    (λ low. taken k w fs ts d 0 (ws ++ t ∷ (vs ++ colon ∷ us)) q (tree_kind.Conditional (at q b) c (at p a)) made within low)
taken k w _ _ (in_chosen fs ts vs t q b d within first is) m us p a e n le = stays k m (Chosen q b ∷ fs) (ts ++ (vs ++ t ∷ [])) us p a (in_chosen fs ts vs t q b d within first is) e (omega arith) le
taken k w _ _ (in_paren fs ts t d is) m us p a e n le = stays k m (Paren t.place ∷ fs) (ts ++ t ∷ []) us p a (in_paren fs ts t d is) e (omega arith) le
taken k w _ _ (in_index fs ts t opener d isn is) m us p a e n le = stays k m (Index (ident_of t) ∷ fs) (ts ++ t ∷ opener ∷ []) us p a (in_index fs ts t opener d isn is) e (omega arith) le
taken k w _ _ (in_range fs ts vs t opener colon b d isn is first colons) m us p a e n le =
    stays k m (Range (ident_of t) b ∷ fs) (ts ++ t ∷ opener ∷ (vs ++ colon ∷ [])) us p a (in_range fs ts vs t opener colon b d isn is first colons) e (omega arith) le
taken k w _ _ (in_call fs ts vs t opener xs d isn is parts) m us p a e n le = stays k m (Call (ident_of t) xs ∷ fs) (ts ++ t ∷ opener ∷ vs) us p a (in_call fs ts vs t opener xs d isn is parts) e (omega arith) le
taken k w _ _ (in_brace fs ts t d is) m us p a e n le = stays k m (Brace t.place ∷ fs) (ts ++ t ∷ []) us p a (in_brace fs ts t d is) e (omega arith) le
taken k w _ _ (in_concat fs ts vs t xs d is parts) m us p a e n le = stays k m (Concat t.place xs ∷ fs) (ts ++ t ∷ vs) us p a (in_concat fs ts vs t xs d is parts) e (omega arith) le
taken k w _ _ (in_replicate fs ts ws vs t inner b xs d is first inners parts) m us p a e n le =
    stays k m (Replicate t.place b xs ∷ fs) (ts ++ t ∷ (ws ++ inner ∷ vs)) us p a (in_replicate fs ts ws vs t inner b xs d is first inners parts) e (omega arith) le
