-- What each state stands behind, and that each step keeps it.
use Rattle.std.proofs.Common.{◌≡◌, ℕ, ◌≤◌, List, [], ◌∷◌, ◌++◌, Option, None, Some, option_and_then, refl, ap, sym, subst, ◌∙◌, append_assoc, append-nil, codes, arith}
use Rattle.vod_token.specs.declared.TokenKind.{TokenKind}
use Rattle.vod_token.specs.declared.TokenKind.TheVariants as kinds
use Rattle.vod_tree.specs.declared.expr.Expr.{Expr}
use Rattle.vod_tree.specs.declared.expr.ExprKind.{ExprKind}
use Rattle.vod_tree.specs.declared.expr.ExprKind.TheVariants as tree_kind
use Rattle.vod_tree.specs.declared.expr.UnaryOp.{UnaryOp}
use Rattle.vod_tree.specs.declared.expr.BinaryOp.{BinaryOp}
use Rattle.vod_tree.specs.declared.ident.Ident.{Ident}
use Rattle.vod_tree.specs.declared.ident.Number.{Number}
use Rattle.vod_expr_machine.specs.declared.word.Mark.{Mark}
use Rattle.vod_expr_machine.specs.declared.word.Mark.TheVariants as mark
use Rattle.vod_expr_machine.specs.declared.machine.Frame.{Frame}
use Rattle.vod_expr_machine.specs.declared.machine.Frame.TheVariants.{Prefix, Left, Chosen, Otherwise, Paren, Index, Range, Call, Brace, Concat, Replicate}
use Rattle.vod_expr_machine.specs.declared.machine.Head.{Head}
use Rattle.vod_expr_machine.specs.declared.machine.Head.TheVariants.{Wanted, Bare, Named, Whole, Outer}
use Rattle.vod_expr.specs.Operators.{tight}
use Rattle.vod_expr.specs.Grammar.{Lexeme, IsSymbol, IsName, ident_of, IsNumber, at, IsExpr, AreExprs, number, name, index, range, call, paren, concat, replicate, one}
use Rattle.vod_expr_machine.specs.Machine.{mark_text, mark_of, unary_of, binary_of, Machine, machine, reduce, at_close_paren, at_close_bracket, at_comma, at_colon, at_open_brace, at_close_brace, at_part, behind, followed, preceded, opened, named, outer, on_mark, on_operator, on_operand, on_symbol, on_kind, step, run, tree}
use Rattle.std.specs.List.{AllByRecursion}
use Rattle.vod_expr_machine.specs.Machine.{alone, ended, start}
use Rattle.vod_expr.proofs.Words.{tight_some, tight_within, mark_found, unary_found, binary_found}
use Rattle.vod_expr.proofs.Sound.{need, none, part, parts_last, Begun, nothing, in_prefix, in_left, in_chosen, in_otherwise, in_paren, in_index, in_range, in_call, in_brace, in_concat, in_replicate, Taken, taken}

-- behind a name; behind a whole expression; behind the inner `}` of a replication
pub record AfterName (fs : List Frame) (ts : List Lexeme) (n : Ident) : Type 0 where
  pub before : List Lexeme
  pub token : Lexeme
  pub begun : Begun fs before
  pub is : IsName token
  pub ident : n ≡ ident_of token
  pub split : ts ≡ before ++ token ∷ []

pub record AfterWhole (fs : List Frame) (ts : List Lexeme) (p : ℕ) (a : ExprKind) : Type 0 where
  pub before : List Lexeme
  pub last : List Lexeme
  pub begun : Begun fs before
  pub expr : IsExpr 12 last (at p a)
  pub split : ts ≡ before ++ last

pub record AfterInner (fs : List Frame) (ts : List Lexeme) (q : ℕ) (a : Expr) (xs : List Expr) : Type 0 where
  pub before : List Lexeme
  pub opener : Lexeme
  pub inner : Lexeme
  pub closer : Lexeme
  pub count : List Lexeme
  pub parts : List Lexeme
  pub begun : Begun fs before
  pub opens : IsSymbol opener (codes "{")
  pub expr : IsExpr 0 count a
  pub inners : IsSymbol inner (codes "{")
  pub exprs : AreExprs parts xs
  pub closes : IsSymbol closer (codes "}")
  pub place : opener.place ≡ q
  pub split : ts ≡ before ++ opener ∷ (count ++ inner ∷ (parts ++ closer ∷ []))

abbrev pub Stands : Head → List Frame → List Lexeme → Type 0
Stands Wanted fs ts = Begun fs ts × (need fs ≤ 11)
Stands Bare fs ts = Begun fs ts
Stands (Named n) fs ts = AfterName fs ts n
Stands (Whole p a) fs ts = AfterWhole fs ts p a
Stands (Outer q a xs) fs ts = AfterInner fs ts q a xs

abbrev pub StandsAt : Machine → List Lexeme → Type 0
StandsAt s ts = Stands s.head s.frames ts

some_same : {A : Type 0} {a b : A} → Some a ≡ Some b → a ≡ b
some_same h = cc

to_state : (u v : Machine) (ts : List Lexeme) → Some u ≡ Some v → StandsAt u ts → StandsAt v ts
to_state u v ts h s = subst (λ w. StandsAt w ts) (some_same h) s

to_tokens : (u : Machine) (ts us : List Lexeme) → us ≡ ts → StandsAt u us → StandsAt u ts
to_tokens u ts us h s = subst (StandsAt u) h s

begun_at : (fs : List Frame) (ts us : List Lexeme) → us ≡ ts → Begun fs us → Begun fs ts
begun_at fs ts us h d = subst (Begun fs) h d

pub need_within : (fs : List Frame) → need fs ≤ 12
need_within [] = omega arith
need_within (Prefix q op ∷ fs) = omega arith
need_within (Left q b op ∷ fs) = let l = tight_within op in omega arith
need_within (Chosen q b ∷ fs) = omega arith
need_within (Otherwise q b c ∷ fs) = omega arith
need_within (Paren q ∷ fs) = omega arith
need_within (Index n ∷ fs) = omega arith
need_within (Range n b ∷ fs) = omega arith
need_within (Call n xs ∷ fs) = omega arith
need_within (Brace q ∷ fs) = omega arith
need_within (Concat q xs ∷ fs) = omega arith
need_within (Replicate q b xs ∷ fs) = omega arith

-- what needs level 1 at most needs none: no operator binds as loosely as `?:`
need_none : (fs : List Frame) → need fs ≤ 1 → need fs ≤ 0
need_none [] h = omega arith
need_none (Prefix q op ∷ fs) h = absurd (omega arith)
need_none (Left q b op ∷ fs) h = let l = tight_some op in absurd (omega arith)
need_none (Chosen q b ∷ fs) h = omega arith
need_none (Otherwise q b c ∷ fs) h = omega arith
need_none (Paren q ∷ fs) h = omega arith
need_none (Index n ∷ fs) h = omega arith
need_none (Range n b ∷ fs) h = omega arith
need_none (Call n xs ∷ fs) h = omega arith
need_none (Brace q ∷ fs) h = omega arith
need_none (Concat q xs ∷ fs) h = omega arith
need_none (Replicate q b xs ∷ fs) h = omega arith

pub name_is_whole : (fs : List Frame) (ts : List Lexeme) (n : Ident) → AfterName fs ts n → AfterWhole fs ts n.place (tree_kind.Name n)
name_is_whole fs ts n s =
    record {
      before = s.before;
      last = s.token ∷ [];
      begun = s.begun;
      expr = subst (λ v. IsExpr 12 (s.token ∷ []) (at v.place (tree_kind.Name v))) (sym s.ident) (name 12 s.token s.is);
      split = s.split;
    }

pub taken_into : (k : ℕ) → k ≤ 11 → (fs : List Frame) (ts : List Lexeme) (p : ℕ) (a : ExprKind) → AfterWhole fs ts p a → Taken k ts (reduce k fs p a)
taken_into k w fs ts p a s = subst (λ v. Taken k v (reduce k fs p a)) (sym s.split) (taken k w fs s.before s.begun 12 s.last p a s.expr (need_within fs) (omega arith))

-- behind an expression in a frame
after_close_paren : (fs : List Frame) (ts : List Lexeme) → Begun fs ts → (us : List Lexeme) (a : Expr) → IsExpr 0 us a → (t : Lexeme) → IsSymbol t (codes ")") → (u : Machine) → at_close_paren fs a ≡ Some u → StandsAt u (ts ++ us ++ t ∷ [])
after_close_paren _ _ (in_paren fs ts o d is) us a e t closes u h =
    to_state (machine (Whole o.place (tree_kind.Paren a)) fs) u (ts ++ o ∷ [] ++ us ++ t ∷ []) h
    (record { before = ts; last = o ∷ (us ++ t ∷ []); begun = d; expr = paren 12 o t us a is e closes; split = simp append_assoc })
after_close_paren _ _ (in_call fs ts vs n o xs d isn is parts) us a e t closes u h =
    to_state (machine (Whole n.place (tree_kind.Call (ident_of n) (xs ++ a ∷ []))) fs) u (ts ++ n ∷ o ∷ vs ++ us ++ t ∷ []) h
    (record { before = ts; last = n ∷ o ∷ (vs ++ us ++ t ∷ []); begun = d; expr = call 12 n o t (vs ++ us) (xs ++ a ∷ []) isn is (parts_last vs us xs a parts e) closes; split = simp append_assoc })
after_close_paren _ _ _ us a e t closes u h = cc

after_close_bracket : (fs : List Frame) (ts : List Lexeme) → Begun fs ts → (us : List Lexeme) (a : Expr) → IsExpr 0 us a → (t : Lexeme) → IsSymbol t (codes "]") → (u : Machine) → at_close_bracket fs a ≡ Some u → StandsAt u (ts ++ us ++ t ∷ [])
after_close_bracket _ _ (in_index fs ts n o d isn is) us a e t closes u h =
    to_state (machine (Whole n.place (tree_kind.Index (ident_of n) a)) fs) u (ts ++ n ∷ o ∷ [] ++ us ++ t ∷ []) h
    (record { before = ts; last = n ∷ o ∷ (us ++ t ∷ []); begun = d; expr = index 12 n o t us a isn is e closes; split = simp append_assoc })
after_close_bracket _ _ (in_range fs ts vs n o colon b d isn is first colons) us a e t closes u h =
    to_state (machine (Whole n.place (tree_kind.Range (ident_of n) b a)) fs) u (ts ++ n ∷ o ∷ (vs ++ colon ∷ []) ++ us ++ t ∷ []) h
    (record { before = ts; last = n ∷ o ∷ (vs ++ colon ∷ (us ++ t ∷ [])); begun = d; expr = range 12 n o colon t vs us b a isn is first colons e closes; split = simp append_assoc })
after_close_bracket _ _ _ us a e t closes u h = cc

after_comma : (fs : List Frame) (ts : List Lexeme) → Begun fs ts → (us : List Lexeme) (a : Expr) → IsExpr 0 us a → (t : Lexeme) → IsSymbol t (codes ",") → (u : Machine) → at_comma fs a ≡ Some u → StandsAt u (ts ++ us ++ t ∷ [])
after_comma _ _ (in_call fs ts vs n o xs d isn is parts) us a e t commas u h =
    to_state (machine Wanted (Call (ident_of n) (xs ++ a ∷ []) ∷ fs)) u (ts ++ n ∷ o ∷ vs ++ us ++ t ∷ []) h
    (begun_at _ (ts ++ n ∷ o ∷ vs ++ us ++ t ∷ []) (ts ++ n ∷ o ∷ (vs ++ (us ++ t ∷ []))) (simp append_assoc) (in_call fs ts (vs ++ (us ++ t ∷ [])) n o (xs ++ a ∷ []) d isn is (part vs us t xs a parts e commas)), omega arith)
after_comma _ _ (in_brace fs ts o d is) us a e t commas u h =
    to_state (machine Wanted (Concat o.place (a ∷ []) ∷ fs)) u (ts ++ o ∷ [] ++ us ++ t ∷ []) h
    (begun_at _ (ts ++ o ∷ [] ++ us ++ t ∷ []) (ts ++ o ∷ (us ++ t ∷ [])) (simp append_assoc) (in_concat fs ts (us ++ t ∷ []) o (a ∷ []) d is (part [] us t [] a none e commas)), omega arith)
after_comma _ _ (in_concat fs ts vs o xs d is parts) us a e t commas u h =
    to_state (machine Wanted (Concat o.place (xs ++ a ∷ []) ∷ fs)) u (ts ++ o ∷ vs ++ us ++ t ∷ []) h
    (begun_at _ (ts ++ o ∷ vs ++ us ++ t ∷ []) (ts ++ o ∷ (vs ++ (us ++ t ∷ []))) (simp append_assoc) (in_concat fs ts (vs ++ (us ++ t ∷ [])) o (xs ++ a ∷ []) d is (part vs us t xs a parts e commas)), omega arith)
after_comma _ _ (in_replicate fs ts ws vs o inner b xs d is first inners parts) us a e t commas u h =
    to_state (machine Wanted (Replicate o.place b (xs ++ a ∷ []) ∷ fs)) u (ts ++ o ∷ (ws ++ inner ∷ vs) ++ us ++ t ∷ []) h (
      begun_at _ (ts ++ o ∷ (ws ++ inner ∷ vs) ++ us ++ t ∷ []) (ts ++ o ∷ (ws ++ inner ∷ (vs ++ (us ++ t ∷ [])))) (simp append_assoc)
          (in_replicate fs ts ws (vs ++ (us ++ t ∷ [])) o inner b (xs ++ a ∷ []) d is first inners (part vs us t xs a parts e commas)),
      omega arith,
    )
after_comma _ _ _ us a e t commas u h = cc

after_colon : (fs : List Frame) (ts : List Lexeme) → Begun fs ts → (us : List Lexeme) (a : Expr) → IsExpr 0 us a → (t : Lexeme) → IsSymbol t (codes ":") → (u : Machine) → at_colon fs a ≡ Some u → StandsAt u (ts ++ us ++ t ∷ [])
after_colon _ _ (in_chosen fs ts vs o q b d within first is) us a e t colons u h =
    to_state (machine Wanted (Otherwise q b a ∷ fs)) u (ts ++ (vs ++ o ∷ []) ++ us ++ t ∷ []) h
    (begun_at _ (ts ++ (vs ++ o ∷ []) ++ us ++ t ∷ []) (ts ++ (vs ++ o ∷ (us ++ t ∷ []))) (simp append_assoc) (in_otherwise fs ts vs us o t q b a d within first is e colons), omega arith)
after_colon _ _ (in_index fs ts n o d isn is) us a e t colons u h =
    to_state (machine Wanted (Range (ident_of n) a ∷ fs)) u (ts ++ n ∷ o ∷ [] ++ us ++ t ∷ []) h
    (begun_at _ (ts ++ n ∷ o ∷ [] ++ us ++ t ∷ []) (ts ++ n ∷ o ∷ (us ++ t ∷ [])) (simp append_assoc) (in_range fs ts us n o t a d isn is e colons), omega arith)
after_colon _ _ _ us a e t colons u h = cc

after_open_brace : (fs : List Frame) (ts : List Lexeme) → Begun fs ts → (us : List Lexeme) (a : Expr) → IsExpr 0 us a → (t : Lexeme) → IsSymbol t (codes "{") → (u : Machine) → at_open_brace fs a ≡ Some u → StandsAt u (ts ++ us ++ t ∷ [])
after_open_brace _ _ (in_brace fs ts o d is) us a e t inners u h =
    to_state (machine Wanted (Replicate o.place a [] ∷ fs)) u (ts ++ o ∷ [] ++ us ++ t ∷ []) h
    (begun_at _ (ts ++ o ∷ [] ++ us ++ t ∷ []) (ts ++ o ∷ (us ++ t ∷ [])) (simp append_assoc) (in_replicate fs ts us [] o t a [] d is e inners none), omega arith)
after_open_brace _ _ _ us a e t inners u h = cc

after_close_brace : (fs : List Frame) (ts : List Lexeme) → Begun fs ts → (us : List Lexeme) (a : Expr) → IsExpr 0 us a → (t : Lexeme) → IsSymbol t (codes "}") → (u : Machine) → at_close_brace fs a ≡ Some u → StandsAt u (ts ++ us ++ t ∷ [])
after_close_brace _ _ (in_brace fs ts o d is) us a e t closes u h =
    to_state (machine (Whole o.place (tree_kind.Concat (a ∷ []))) fs) u (ts ++ o ∷ [] ++ us ++ t ∷ []) h
    (record { before = ts; last = o ∷ (us ++ t ∷ []); begun = d; expr = concat 12 o t us (a ∷ []) is (one us a e) closes; split = simp append_assoc })
after_close_brace _ _ (in_concat fs ts vs o xs d is parts) us a e t closes u h =
    to_state (machine (Whole o.place (tree_kind.Concat (xs ++ a ∷ []))) fs) u (ts ++ o ∷ vs ++ us ++ t ∷ []) h
    (record { before = ts; last = o ∷ (vs ++ us ++ t ∷ []); begun = d; expr = concat 12 o t (vs ++ us) (xs ++ a ∷ []) is (parts_last vs us xs a parts e) closes; split = simp append_assoc })
after_close_brace _ _ (in_replicate fs ts ws vs o inner b xs d is first inners parts) us a e t closes u h =
    to_state (machine (Outer o.place b (xs ++ a ∷ [])) fs) u (ts ++ o ∷ (ws ++ inner ∷ vs) ++ us ++ t ∷ []) h
    (record {
      before = ts;
      opener = o;
      inner = inner;
      closer = t;
      count = ws;
      parts = vs ++ us;
      begun = d;
      opens = is;
      expr = first;
      inners = inners;
      exprs = parts_last vs us xs a parts e;
      closes = closes;
      place = refl;
      split = simp append_assoc;
    })
after_close_brace _ _ _ us a e t closes u h = cc

-- a mark behind an expression
behind_stands : (m : Mark) (fs : List Frame) (ts : List Lexeme) (q : ℕ) (a : ExprKind) → AfterWhole fs ts q a → (t : Lexeme) → IsSymbol t (mark_text m) → (u : Machine) → behind m fs q a ≡ Some u → StandsAt u (ts ++ t ∷ [])
unfolding at_part
behind_stands mark.Question fs ts q a s t is u h =
    let r = taken_into 1 (omega arith) fs ts q a s in
    let v = reduce 1 fs q a in
    to_state (machine Wanted (Chosen v.place v.kind ∷ v.frames)) u (ts ++ t ∷ []) h (
      begun_at _ (ts ++ t ∷ []) (r.before ++ (r.part ++ t ∷ [])) (sym (ap (λ w. w ++ t ∷ []) r.split ∙ append_assoc r.before r.part (t ∷ [])))
          (in_chosen v.frames r.before r.part t v.place v.kind r.begun (need_none v.frames r.needs) r.expr is),
      omega arith,
    )
behind_stands mark.Colon fs ts q a s t is u h =
    let r = taken_into 0 (omega arith) fs ts q a s in
    to_tokens u (ts ++ t ∷ []) (r.before ++ r.part ++ t ∷ []) (ap (λ w. w ++ t ∷ []) (sym r.split)) (after_colon _ r.before r.begun r.part _ r.expr t is u h)
behind_stands mark.Comma fs ts q a s t is u h =
    let r = taken_into 0 (omega arith) fs ts q a s in
    to_tokens u (ts ++ t ∷ []) (r.before ++ r.part ++ t ∷ []) (ap (λ w. w ++ t ∷ []) (sym r.split)) (after_comma _ r.before r.begun r.part _ r.expr t is u h)
behind_stands mark.CloseParen fs ts q a s t is u h =
    let r = taken_into 0 (omega arith) fs ts q a s in
    to_tokens u (ts ++ t ∷ []) (r.before ++ r.part ++ t ∷ []) (ap (λ w. w ++ t ∷ []) (sym r.split)) (after_close_paren _ r.before r.begun r.part _ r.expr t is u h)
behind_stands mark.CloseBracket fs ts q a s t is u h =
    let r = taken_into 0 (omega arith) fs ts q a s in
    to_tokens u (ts ++ t ∷ []) (r.before ++ r.part ++ t ∷ []) (ap (λ w. w ++ t ∷ []) (sym r.split)) (after_close_bracket _ r.before r.begun r.part _ r.expr t is u h)
behind_stands mark.CloseBrace fs ts q a s t is u h =
    let r = taken_into 0 (omega arith) fs ts q a s in
    to_tokens u (ts ++ t ∷ []) (r.before ++ r.part ++ t ∷ []) (ap (λ w. w ++ t ∷ []) (sym r.split)) (after_close_brace _ r.before r.begun r.part _ r.expr t is u h)
behind_stands mark.OpenBrace fs ts q a s t is u h =
    let r = taken_into 0 (omega arith) fs ts q a s in
    to_tokens u (ts ++ t ∷ []) (r.before ++ r.part ++ t ∷ []) (ap (λ w. w ++ t ∷ []) (sym r.split)) (after_open_brace _ r.before r.begun r.part _ r.expr t is u h)
behind_stands mark.OpenParen fs ts q a s t is u h = cc
behind_stands mark.OpenBracket fs ts q a s t is u h = cc

opened_stands : (m : Mark) (fs : List Frame) (ts : List Lexeme) → Begun fs ts → (t : Lexeme) → IsSymbol t (mark_text m) → (u : Machine) → opened m fs t.place ≡ Some u → StandsAt u (ts ++ t ∷ [])
opened_stands mark.OpenParen fs ts d t is u h = to_state (machine Wanted (Paren t.place ∷ fs)) u (ts ++ t ∷ []) h (in_paren fs ts t d is, omega arith)
opened_stands mark.OpenBrace fs ts d t is u h = to_state (machine Wanted (Brace t.place ∷ fs)) u (ts ++ t ∷ []) h (in_brace fs ts t d is, omega arith)
opened_stands _ fs ts d t is u h = cc

named_stands : (m : Mark) (fs : List Frame) (ts : List Lexeme) (n : Ident) → AfterName fs ts n → (t : Lexeme) → IsSymbol t (mark_text m) → (u : Machine) → named m fs n ≡ Some u → StandsAt u (ts ++ t ∷ [])
named_stands mark.OpenParen fs ts n s t is u h =
    to_state (machine Wanted (Call n [] ∷ fs)) u (ts ++ t ∷ []) h (
      subst (λ v. Begun (Call v [] ∷ fs) (ts ++ t ∷ [])) (sym s.ident)
          (begun_at _ (ts ++ t ∷ []) (s.before ++ s.token ∷ t ∷ []) (sym (ap (λ w. w ++ t ∷ []) s.split ∙ append_assoc s.before (s.token ∷ []) (t ∷ []))) (in_call fs s.before [] s.token t [] s.begun s.is is none)),
      omega arith,
    )
named_stands mark.OpenBracket fs ts n s t is u h =
    to_state (machine Wanted (Index n ∷ fs)) u (ts ++ t ∷ []) h (
      subst (λ v. Begun (Index v ∷ fs) (ts ++ t ∷ [])) (sym s.ident)
          (begun_at _ (ts ++ t ∷ []) (s.before ++ s.token ∷ t ∷ []) (sym (ap (λ w. w ++ t ∷ []) s.split ∙ append_assoc s.before (s.token ∷ []) (t ∷ []))) (in_index fs s.before s.token t s.begun s.is is)),
      omega arith,
    )
named_stands mark.Question fs ts n s t is u h = behind_stands mark.Question fs ts n.place (tree_kind.Name n) (name_is_whole fs ts n s) t is u h
named_stands mark.Colon fs ts n s t is u h = behind_stands mark.Colon fs ts n.place (tree_kind.Name n) (name_is_whole fs ts n s) t is u h
named_stands mark.Comma fs ts n s t is u h = behind_stands mark.Comma fs ts n.place (tree_kind.Name n) (name_is_whole fs ts n s) t is u h
named_stands mark.CloseParen fs ts n s t is u h = behind_stands mark.CloseParen fs ts n.place (tree_kind.Name n) (name_is_whole fs ts n s) t is u h
named_stands mark.CloseBracket fs ts n s t is u h = behind_stands mark.CloseBracket fs ts n.place (tree_kind.Name n) (name_is_whole fs ts n s) t is u h
named_stands mark.CloseBrace fs ts n s t is u h = behind_stands mark.CloseBrace fs ts n.place (tree_kind.Name n) (name_is_whole fs ts n s) t is u h
named_stands mark.OpenBrace fs ts n s t is u h = behind_stands mark.OpenBrace fs ts n.place (tree_kind.Name n) (name_is_whole fs ts n s) t is u h

outer_stands : (m : Mark) (fs : List Frame) (ts : List Lexeme) (q : ℕ) (a : Expr) (xs : List Expr) → AfterInner fs ts q a xs → (t : Lexeme) → IsSymbol t (mark_text m) → (u : Machine) → outer m fs q a xs ≡ Some u → StandsAt u (ts ++ t ∷ [])
outer_stands mark.CloseBrace fs ts q a xs s t is u h =
    let all = s.opener ∷ (s.count ++ s.inner ∷ (s.parts ++ s.closer ∷ t ∷ [])) in
    to_state (machine (Whole q (tree_kind.Replicate a xs)) fs) u (ts ++ t ∷ []) h
    (record {
      before = s.before;
      last = all;
      begun = s.begun;
      expr = subst (λ v. IsExpr 12 all (at v (tree_kind.Replicate a xs))) s.place (replicate 12 s.opener s.inner s.closer t s.count s.parts a xs s.opens s.expr s.inners s.exprs s.closes is);
      split = ap (λ w. w ++ t ∷ []) s.split ∙ simp append_assoc;
    })
outer_stands _ fs ts q a xs s t is u h = cc

mark_stands : (g : Head) (m : Mark) (fs : List Frame) (ts : List Lexeme) → Stands g fs ts → (t : Lexeme) → IsSymbol t (mark_text m) → (u : Machine) → on_mark g fs t.place m ≡ Some u → StandsAt u (ts ++ t ∷ [])
unfolding on_mark
mark_stands Wanted m fs ts s t is u h = opened_stands m fs ts s.0 t is u h
mark_stands Bare m fs ts s t is u h = opened_stands m fs ts s t is u h
mark_stands (Named n) m fs ts s t is u h = named_stands m fs ts n s t is u h
mark_stands (Whole q a) m fs ts s t is u h = behind_stands m fs ts q a s t is u h
mark_stands (Outer q a xs) m fs ts s t is u h = outer_stands m fs ts q a xs s t is u h

preceded_stands : (fs : List Frame) (ts : List Lexeme) → Begun fs ts → need fs ≤ 11 → (t : Lexeme) → t.kind ≡ kinds.Symbol → (o : Option UnaryOp) → unary_of t.text ≡ o → (u : Machine) → preceded fs t.place o ≡ Some u → StandsAt u (ts ++ t ∷ [])
preceded_stands fs ts d n t kind None e u h = cc
preceded_stands fs ts d n t kind (Some op) e u h = to_state (machine Bare (Prefix t.place op ∷ fs)) u (ts ++ t ∷ []) h (in_prefix fs ts t op d n (kind, unary_found t.text op e))

followed_stands : (fs : List Frame) (ts : List Lexeme) (q : ℕ) (a : ExprKind) → AfterWhole fs ts q a → (t : Lexeme) → t.kind ≡ kinds.Symbol → (o : Option BinaryOp) → binary_of t.text ≡ o → (u : Machine) → followed fs q a o ≡ Some u → StandsAt u (ts ++ t ∷ [])
followed_stands fs ts q a s t kind None e u h = cc
followed_stands fs ts q a s t kind (Some op) e u h =
    let w = tight_within op in
    let r = taken_into (tight op) (omega arith) fs ts q a s in
    let v = reduce (tight op) fs q a in
    to_state (machine Wanted (Left v.place v.kind op ∷ v.frames)) u (ts ++ t ∷ []) h (
      begun_at _ (ts ++ t ∷ []) (r.before ++ (r.part ++ t ∷ [])) (sym (ap (λ x. x ++ t ∷ []) r.split ∙ append_assoc r.before r.part (t ∷ [])))
          (in_left v.frames r.before r.part t op v.place v.kind r.begun r.needs r.expr (kind, binary_found t.text op e)),
      omega arith,
    )

operator_stands : (g : Head) (fs : List Frame) (ts : List Lexeme) → Stands g fs ts → (t : Lexeme) → t.kind ≡ kinds.Symbol → (u : Machine) → on_operator g fs t.place t.text ≡ Some u → StandsAt u (ts ++ t ∷ [])
unfolding on_operator
operator_stands Wanted fs ts s t kind u h = preceded_stands fs ts s.0 s.1 t kind (unary_of t.text) refl u h
operator_stands Bare fs ts s t kind u h = cc
operator_stands (Named n) fs ts s t kind u h = followed_stands fs ts n.place (tree_kind.Name n) (name_is_whole fs ts n s) t kind (binary_of t.text) refl u h
operator_stands (Whole q a) fs ts s t kind u h = followed_stands fs ts q a s t kind (binary_of t.text) refl u h
operator_stands (Outer q a xs) fs ts s t kind u h = cc

operand_stands : (g head : Head) (fs : List Frame) (ts us : List Lexeme) → Stands g fs ts → (Begun fs ts → Stands head fs us) → (u : Machine) → on_operand g fs head ≡ Some u → StandsAt u us
unfolding on_operand
operand_stands Wanted head fs ts us s goes u h = to_state (machine head fs) u us h (goes s.0)
operand_stands Bare head fs ts us s goes u h = to_state (machine head fs) u us h (goes s)
operand_stands (Named n) head fs ts us s goes u h = cc
operand_stands (Whole q a) head fs ts us s goes u h = cc
operand_stands (Outer q a xs) head fs ts us s goes u h = cc

symbol_stands : (s : Machine) (ts : List Lexeme) → StandsAt s ts → (t : Lexeme) → t.kind ≡ kinds.Symbol → (o : Option Mark) → mark_of t.text ≡ o → (u : Machine) → on_symbol s t.place t.text o ≡ Some u → StandsAt u (ts ++ t ∷ [])
symbol_stands s ts st t kind (Some m) e u h = mark_stands s.head m s.frames ts st t (kind, mark_found t.text m e) u h
symbol_stands s ts st t kind None e u h = operator_stands s.head s.frames ts st t kind u h

-- the number that is given for a token is its own
abbrev pub Sure : (Lexeme → Number) → Lexeme → Type 0
Sure value t = t.kind ≡ kinds.Number → IsNumber t (value t)

kind_stands : (value : Lexeme → Number) (s : Machine) (ts : List Lexeme) → StandsAt s ts → (t : Lexeme) → Sure value t → (k : TokenKind) → t.kind ≡ k → (u : Machine) → on_kind k value s t ≡ Some u → StandsAt u (ts ++ t ∷ [])
unfolding on_kind
kind_stands value s ts st t sure kinds.Number kind u h =
    operand_stands s.head (Whole t.place (tree_kind.Number (value t))) s.frames ts (ts ++ t ∷ []) st
    (λ d. record { before = ts; last = t ∷ []; begun = d; expr = number 12 t (value t) (sure kind); split = refl }) u h
kind_stands value s ts st t sure kinds.Name kind u h =
    operand_stands s.head (Named (ident_of t)) s.frames ts (ts ++ t ∷ []) st
    (λ d. record { before = ts; token = t; begun = d; is = kind; ident = refl; split = refl }) u h
kind_stands value s ts st t sure kinds.Symbol kind u h = symbol_stands s ts st t kind (mark_of t.text) refl u h
kind_stands value s ts st t sure kinds.Reserved kind u h = cc
kind_stands value s ts st t sure kinds.Directive kind u h = cc

pub step_stands : (value : Lexeme → Number) (s : Machine) (ts : List Lexeme) → StandsAt s ts → (t : Lexeme) → Sure value t → (u : Machine) → step value s t ≡ Some u → StandsAt u (ts ++ t ∷ [])
step_stands value s ts st t sure u h = kind_stands value s ts st t sure t.kind refl u h

pub run_stands : (value : Lexeme → Number) (s : Machine) (ts us : List Lexeme) → StandsAt s ts → AllByRecursion (Sure value) us → (u : Machine) → run value s us ≡ Some u → StandsAt u (ts ++ us)
run_stands value s ts [] st sure u h = to_tokens u (ts ++ []) ts (sym (append-nil ts)) (to_state s u ts h st)
run_stands value s ts (t ∷ us) st sure u h = by_step (step value s t) refl h (λ v d. run_stands value v (ts ++ t ∷ []) us d sure.1 u)
  where
    by_step : (o : Option Machine) → step value s t ≡ o → option_and_then (λ v. run value v us) o ≡ Some u → ((v : Machine) → StandsAt v (ts ++ t ∷ []) → run value v us ≡ Some u → StandsAt u (ts ++ t ∷ [] ++ us)) → StandsAt u (ts ++ t ∷ us)
    by_step None e h goes = cc
    by_step (Some v) e h goes = to_tokens u (ts ++ t ∷ us) (ts ++ t ∷ [] ++ us) (append_assoc ts (t ∷ []) us) (goes v (step_stands value s ts st t sure.0 v e) h)

pub start_stands : StandsAt start []
start_stands = (nothing, omega arith)

alone_is : (fs : List Frame) (ts : List Lexeme) → Begun fs ts → (us : List Lexeme) (a x : Expr) → IsExpr 0 us a → alone fs a ≡ Some x → IsExpr 0 (ts ++ us) x
alone_is _ _ nothing us a x e h = subst (IsExpr 0 us) (some_same h) e
alone_is _ _ _ us a x e h = cc

whole_ends : (fs : List Frame) (ts : List Lexeme) (q : ℕ) (a : ExprKind) (x : Expr) → AfterWhole fs ts q a → alone (reduce 0 fs q a).frames (tree (reduce 0 fs q a)) ≡ Some x → IsExpr 0 ts x
whole_ends fs ts q a x s h =
    let r = taken_into 0 (omega arith) fs ts q a s in
    subst (λ v. IsExpr 0 v x) (sym r.split) (alone_is _ r.before r.begun r.part _ x r.expr h)

-- a state with a tree stands behind an expression with this tree
pub ended_stands : (g : Head) (fs : List Frame) (ts : List Lexeme) (x : Expr) → Stands g fs ts → ended g fs ≡ Some x → IsExpr 0 ts x
unfolding ended
ended_stands Wanted fs ts x s h = cc
ended_stands Bare fs ts x s h = cc
ended_stands (Named n) fs ts x s h = whole_ends fs ts n.place (tree_kind.Name n) x (name_is_whole fs ts n s) h
ended_stands (Whole q a) fs ts x s h = whole_ends fs ts q a x s h
ended_stands (Outer q a xs) fs ts x s h = cc
