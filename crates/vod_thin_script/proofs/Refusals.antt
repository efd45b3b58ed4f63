-- A script is refused at one line, and then isn't read.
use Rattle.std.proofs.Common.{◌≡◌, ℕ, suc, ◌≤◌, arith, List, [], ◌∷◌, ◌++◌, length, refl, sym, ap, ◌∙◌, subst, inl, inr, append_assoc, append-nil, length-append}
use Rattle.std.proofs.lemmas.Bool.{cases_lt}
use Rattle.vod_thin_design.specs.declared.thin.Vector.{Vector}
use Rattle.vod_thin_design.specs.Netlist.{Netlist}
use Rattle.vod_thin_design.specs.Vectors.{IsLawful}
use Rattle.vod_thin_design.specs.Names.{HasPlainNames}
use Rattle.vod_thin_script.specs.Script.{AreLines, IsScript, IsWrongLine, IsRefused}
use Rattle.vod_thin_script.proofs.Once.{lines_front}
use Rattle.vod_thin_script.proofs.Lawful.{lawful_front}

-- of two fronts of one text, the longer goes on from the other
fronts : (a b x y : List ℕ) → a ++ b ≡ x ++ y → length a ≤ length x → (mid : List ℕ) × (x ≡ a ++ mid) × (b ≡ mid ++ y)
fronts [] b x y e lt = (x, refl, e)
fronts (c ∷ a) b [] y e lt = absurd (omega (arith, lt))
fronts (c ∷ a) b (z ∷ x) y e lt =
    let heads : c ≡ z = cc in
    let tails : a ++ b ≡ x ++ y = cc in
    let rest = fronts a b x y tails (omega (arith, lt)) in
    let more : x ≡ a ++ rest.0 = rest.1 in
    (rest.0, cc, rest.2)

-- a longer front of lawful lines is none behind the first wrong line
longest : (d : Netlist) → HasPlainNames d → (bytes : List ℕ) (line : ℕ) (w : IsWrongLine d bytes line) (before from : List ℕ) (vs : List Vector)
    → bytes ≡ before ++ from → AreLines d before vs → IsLawful d vs → length w.before ≤ length before → (vs ≡ w.vectors) × (w.from ≡ from)
longest d h bytes line w before from vs e lines lawful le =
    let parts = fronts w.before w.from before from (sym w.whole ∙ e) le in
    let mid : List ℕ = parts.0 in
    let left = lines_front d h w.vectors vs w.before mid w.lawful.forms lawful.forms w.lines (subst (λ t. AreLines d t vs) parts.1 lines) in
    by_left mid left.0 left.1 left.2 parts.2
  where
    by_left : (mid : List ℕ) (left : List Vector) → vs ≡ w.vectors ++ left → AreLines d mid left → w.from ≡ mid ++ from → (vs ≡ w.vectors) × (w.from ≡ from)
    by_left mid [] all none rest = (let empty : mid ≡ [] = none in (all ∙ append-nil w.vectors, rest ∙ ap (λ m. m ++ from) empty))
    by_left mid (v ∷ left) all more rest =
        let at : w.from ≡ more.0 ++ 10 ∷ (more.1 ++ from) = rest ∙ ap (λ m. m ++ from) more.2 ∙ append_assoc more.0 (10 ∷ more.1) from in
        let whole : vs ≡ (w.vectors ++ v ∷ []) ++ left = all ∙ sym (append_assoc w.vectors (v ∷ []) left) in
        let front : IsLawful d (w.vectors ++ v ∷ []) = lawful_front d (w.vectors ++ v ∷ []) left (subst (IsLawful d) whole lawful) in
        absurd (w.wrong more.0 (more.1 ++ from) v at more.3 front)

one_wrong : (d : Netlist) → HasPlainNames d → (bytes : List ℕ) (line other : ℕ) → IsWrongLine d bytes line → IsWrongLine d bytes other → line ≡ other
one_wrong d h bytes line other a b =
    elim (cases_lt (length a.before) (length b.before)) [
      | inl lt ↦ a.number ∙ sym (ap (λ vs. suc (length vs)) (longest d h bytes line a b.before b.from b.vectors b.whole b.lines b.lawful (omega arith)).0) ∙ sym b.number
      | inr ge ↦ a.number ∙ ap (λ vs. suc (length vs)) (longest d h bytes other b a.before a.from a.vectors a.whole a.lines a.lawful (omega arith)).0 ∙ sym b.number
    ]

pub one_line : (d : Netlist) → HasPlainNames d → (bytes : List ℕ) (line other : ℕ) → IsRefused d bytes line → IsRefused d bytes other → line ≡ other
one_line d h bytes line other (inl a) (inl b) = a.1 ∙ sym b.1
one_line d h bytes line other (inl a) (inr b) = (let long = a.0 in let short = b.short in absurd (omega arith))
one_line d h bytes line other (inr a) (inl b) = (let long = b.0 in let short = a.short in absurd (omega arith))
one_line d h bytes line other (inr a) (inr b) = one_wrong d h bytes line other a b

pub unread : (d : Netlist) → HasPlainNames d → (bytes : List ℕ) (line : ℕ) (vs : List Vector) → IsRefused d bytes line → IsScript d bytes vs → ⊥
unread d h bytes line vs (inl a) s = (let long = a.0 in let short = s.short in omega arith)
unread d h bytes line vs (inr w) s =
    let size = ap length w.whole ∙ length-append w.before w.from in
    w.more (longest d h bytes line w bytes [] vs (sym (append-nil bytes)) s.lines s.lawful (omega arith)).1
