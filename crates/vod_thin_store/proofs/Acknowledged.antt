-- Behind a text that acknowledges nothing, a front of lines acknowledges what its lines do.
use Rattle.std.proofs.Common.{◌≡◌, ℕ, ◌<◌, ◌≤◌, ◌^◌, inl, inr, arith, List, [], ◌∷◌, ◌++◌, refl, sym, ap, ◌∙◌, subst, append_assoc}
use Rattle.std.proofs.lemmas.List.{append-nil}
use Rattle.vod_thin_code.specs.Held.{ack, Acknowledges}
use Rattle.vod_thin_store.proofs.Cuts.{Lacks, lacks-not, cut-later}
use Rattle.vod_thin_store.proofs.Lines.{lines, AtMost, Starts, behind_a, lacks-a, line-there}

module _ (ps : List (ℕ × ℕ)) (most : ℕ) (small : most < 2 ^ 64) (at_most : AtMost most ps) (before front rest : List ℕ) (begins : lines ps ≡ front ++ rest) (nothing : (n : ℕ) → Acknowledges before n → n ≡ 0) where
  -- the line stands in the front
  in-front : (head : List ℕ) (n t : ℕ) (behind : List ℕ) → Starts head → front ≡ head ++ (ack n t ++ behind) → n ≤ most
  in-front head n t behind starts e =
      line-there ps most small at_most head n t (behind ++ rest) starts
      (begins ∙ ap (λ xs. xs ++ rest) e ∙ append_assoc head (ack n t ++ behind) rest ∙ ap (λ xs. head ++ xs) (append_assoc (ack n t) behind rest))

  -- the line stands in the text before
  in-text : (head : List ℕ) (n t : ℕ) (behind : List ℕ) → Starts head → before ≡ head ++ (ack n t ++ behind) → n ≤ most
  in-text head n t behind starts e =
      let none : n ≡ 0 = nothing n (record { front = head; time = t; behind = behind; line = e ∙ sym (append_assoc head (ack n t) behind); begins = starts }) in
      omega arith

  starts-a : (ps : List (ℕ × ℕ)) (y : ℕ) (ys : List ℕ) → lines ps ≡ y ∷ ys → y ≡ 97
  starts-a [] y ys e = absurd (let none : [] ≡ y ∷ ys = e in cc)
  starts-a (p ∷ ps) y ys e = (let same : 97 ≡ y = cc in sym same)

  -- no line begins in the text before and ends in the front
  never-across : (n t : ℕ) (m q behind : List ℕ) → (x : ℕ) (xs : List ℕ) → m ≡ x ∷ xs → (y : ℕ) (ys : List ℕ) → q ≡ y ∷ ys → ack n t ≡ m ++ q → front ≡ q ++ behind → ⊥
  never-across n t m q behind x xs m_is y ys q_is e f =
      let a : y ≡ 97 = starts-a ps y ((ys ++ behind) ++ rest) (begins ∙ ap (λ zs. zs ++ rest) (f ∙ ap (λ zs. zs ++ behind) q_is)) in
      let whole : 97 ∷ behind_a n t ≡ x ∷ (xs ++ y ∷ ys) = e ∙ ap (λ zs. zs ++ q) m_is ∙ ap (λ zs. (x ∷ xs) ++ zs) q_is in
      let tail : behind_a n t ≡ xs ++ y ∷ ys = cc in
      lacks-not 97 xs ys (subst (Lacks 97) (tail ∙ ap (λ z. xs ++ z ∷ ys) a) (lacks-a n t))

  across : (head : List ℕ) (n t : ℕ) (behind m q : List ℕ) → Starts head → before ≡ head ++ m → ack n t ≡ m ++ q → front ≡ q ++ behind → n ≤ most
  across head n t behind [] q starts e line f = in-front [] n t behind (inl refl) (f ∙ ap (λ zs. zs ++ behind) (sym line))
  across head n t behind (x ∷ xs) [] starts e line f =
      in-text head n t [] starts (e ∙ ap (λ zs. head ++ zs) (sym (append-nil (x ∷ xs)) ∙ sym line ∙ sym (append-nil (ack n t))))
  across head n t behind (x ∷ xs) (y ∷ ys) starts e line f = absurd (never-across n t (x ∷ xs) (y ∷ ys) behind x xs refl y ys refl line f)

  starts-behind : (head m : List ℕ) → Starts head → head ≡ before ++ m → Starts m
  starts-behind head m (inl none) e = inl (nil-back before m (sym e ∙ none))
    where
      nil-back : (xs ys : List ℕ) → xs ++ ys ≡ [] → ys ≡ []
      nil-back [] ys e = e
      nil-back (x ∷ xs) ys e = absurd cc
  starts-behind head m (inr line) e = elim (cut-later before m line.0 (10 ∷ []) (sym e ∙ line.1)) [
    | inl a ↦ inr (a.0, a.2)
    | inr a ↦ last a.0 a.2
  ]
    where
      last : (q : List ℕ) → 10 ∷ [] ≡ q ++ m → Starts m
      last [] e = inr ([], sym e)
      last (x ∷ q) e = inl (nil-back q m (let none : [] ≡ q ++ m = cc in sym none))
        where
          nil-back : (xs ys : List ℕ) → xs ++ ys ≡ [] → ys ≡ []
          nil-back [] ys e = e
          nil-back (x ∷ xs) ys e = absurd cc

  pub acknowledged : (n : ℕ) → Acknowledges (before ++ front) n → n ≤ most
  acknowledged n acks =
      let t = acks.time in
      let line : before ++ front ≡ acks.front ++ (ack n t ++ acks.behind) = acks.line ∙ append_assoc acks.front (ack n t) acks.behind in
      elim (cut-later before front acks.front (ack n t ++ acks.behind) line) [
        | inl a ↦ in-front a.0 n t acks.behind (starts-behind acks.front a.0 acks.begins a.1) a.2
        | inr a ↦ elim (cut-later (ack n t) acks.behind a.0 front a.2) [
          | inl b ↦ in-text acks.front n t b.0 acks.begins (a.1 ∙ ap (λ zs. acks.front ++ zs) b.1)
          | inr b ↦ across acks.front n t acks.behind a.0 b.0 acks.begins a.1 b.1 b.2
        ]
      ]
