-- Where tokens are no sentence, and where a source breaks off.
use Rattle.std.proofs.Common.{◌≡◌, ℕ, zero, suc, ◌^◌, ◌<◌, ◌≤◌, ◌⊎◌, inl, inr, List, [], ◌∷◌, ◌++◌, drop, take, length, length-append, refl, sym, ◌∙◌, ap, subst, append_assoc, append-nil, arith, Bool, true, false, Option, None, Some, min, ◌||◌, nat_le}
use Rattle.std.proofs.lemmas.List.{take-append-drop}
use Rattle.std.proofs.lemmas.Bool.Decides.{nat_tests}
use Rattle.std.proofs.Math.Nat.{min-eq_left, min_comm}
use Rattle.std.specs.Prelude.{IsTrue, Result, Ok, Err, IfOk, IfErr, MatchResult}
use Rattle.vod_thin_syntax.specs.declared.fault.SyntaxFault.{SyntaxFault}
use Rattle.vod_thin_syntax.specs.declared.fault.SyntaxFault.TheVariants as faults
use Rattle.std.specs.Option.{is_some, unwrap_or}
use Rattle.std.proofs.Math.Seq.{take-append_seam}
use Rattle.vod_token.specs.declared.Token.{Token}
use Rattle.vod_thin_syntax.proofs.Sentences.{module_sound, module_full, printed_injective}
use Rattle.vod_thin_syntax.proofs.Steady.{got_value, got_rest}
use Rattle.vod_thin_syntax.proofs.SteadyParts.{module_steady}
use Rattle.vod_thin_syntax.proofs.TokenLaws.{falls_before}
use Rattle.vod_thin_syntax.specs.Limit.{limit_of}
use Rattle.vod_thin_syntax.specs.Outcome.{Broken, IsBreak, IsRead, IsFault, place_at, least_of}
use Rattle.vod_thin_syntax.specs.declared.read.Break.{Break}
use Rattle.vod_thin_syntax.specs.declared.read.Break.TheVariants as breaks
use Rattle.vod_thin_syntax.specs.declared.syntax.Sentence.{Sentence}
use Rattle.vod_thin_syntax.specs.Reader.{Got, Refused, module_read}
use Rattle.vod_thin_syntax.specs.Refusal.{Reads, Breaks, Passes, IsRefusedAt}
use Rattle.vod_thin_syntax.specs.Refusal.Breaks.{no_token, no_sentence, too_short, too_long}
use Rattle.vod_thin_syntax.specs.Syntax.{Mark, Value, Module, value_marks, sentence, IsSentence, Begins, printed}
use Rattle.vod_thin_syntax.specs.Tokens.{Falls}
use Rattle.vod_thin_syntax.specs.View.{mark_of, marks_of, module_of}

-- a sentence is read whole
sentence_read : (marks : List Mark) (m : Module Value) → IsSentence marks m → (rest : List Mark) → module_read (marks ++ rest) ≡ Got (printed m) rest
sentence_read marks m s rest = ap (λ v. module_read (v ++ rest)) s.is ∙ module_full m s.module rest

sentence_alone : (marks : List Mark) (m : Module Value) → IsSentence marks m → module_read marks ≡ Got (printed m) []
sentence_alone marks m s = ap module_read (sym (append-nil marks)) ∙ sentence_read marks m s []

-- what is read to its end is a sentence
pub read_sentence : (marks : List Mark) (view : Module (List Mark)) → module_read marks ≡ Got view [] → (m : Module Value) × IsSentence marks m × (view ≡ printed m)
read_sentence marks view h =
    let read = module_sound marks view [] h in
    (read.tree, record { «module» = read.good; is = read.split ∙ append-nil (sentence value_marks read.tree) }, sym read.is)

-- one module for each sentence
pub one_module : (marks : List Mark) (m n : Module Value) → IsSentence marks m → IsSentence marks n → m ≡ n
one_module marks m n s t =
    printed_injective m n s.module t.module (got_value (sym (sentence_alone marks m s) ∙ sentence_alone marks n t))

-- with fewer tokens a sentence begins too
pub begins_fewer : (front more : List Mark) → Begins (front ++ more) → Begins front
begins_fewer front more (rest, m, s) = (more ++ rest, m, subst (λ v. IsSentence v m) (append_assoc front more rest) s)

-- the tokens that a reader refuses
pub refused_broken : (marks rest : List Mark) → module_read marks ≡ Refused rest → Broken marks rest
refused_broken marks rest h =
    let p = module_steady.stuck marks rest h in
    let whole : module_read (p.front ++ p.more) ≡ Got p.value [] = ap (λ v. module_read (p.front ++ v)) (sym (append-nil p.more)) ∙ p.goes [] in
    let m = read_sentence (p.front ++ p.more) p.value whole in
    record {
      front = p.front;
      split = p.split;
      begins = (p.more, m.0, m.1);
      ends = λ t behind e begins. (
          let read = sentence_alone (p.front ++ t ∷ [] ++ begins.0) begins.1 begins.2 in
          let refused = p.same t behind e begins.0 in
          let same : p.front ++ t ∷ [] ++ begins.0 ≡ p.front ++ t ∷ begins.0 = append_assoc p.front (t ∷ []) begins.0 in
          let clash : Refused (t ∷ begins.0) ≡ Got (printed begins.1) [] = sym refused ∙ ap module_read (sym same) ∙ read in cc);
      none = λ m s. let read = sentence_alone marks m s in cc;
    }

-- more tokens than a sentence
pub longer_broken : (marks : List Mark) (view : Module (List Mark)) (t : Mark) (us : List Mark) → module_read marks ≡ Got view (t ∷ us) → Broken marks (t ∷ us)
longer_broken marks view t us h =
    let read = module_sound marks view (t ∷ us) h in
    let front : List Mark = sentence value_marks read.tree in
    record {
      front = front;
      split = read.split;
      begins = ([], read.tree, record { «module» = read.good; is = append-nil front });
      ends = λ u behind e begins. (
          let other = sentence_alone (front ++ u ∷ [] ++ begins.0) begins.1 begins.2 in
          let this : module_read (front ++ (u ∷ [] ++ begins.0)) ≡ Got (printed read.tree) (u ∷ begins.0) = module_full read.tree read.good (u ∷ begins.0) in
          let clash : u ∷ begins.0 ≡ [] = got_rest (sym this ∙ ap module_read (sym (append_assoc front (u ∷ []) begins.0)) ∙ other) in cc);
      none = λ m s. let alone : t ∷ us ≡ [] = got_rest (sym h ∙ sentence_alone marks m s) in cc;
    }

-- the marks of tokens in two parts
pub marks_append : (source : List ℕ) (ts us : List Token) → marks_of source (ts ++ us) ≡ marks_of source ts ++ marks_of source us
marks_append source [] us = refl
marks_append source (t ∷ ts) us = ap (λ v. mark_of source t ∷ v) (marks_append source ts us)

begins_before : (source : List ℕ) (before more : List Token) → Begins (marks_of source (before ++ more)) → Begins (marks_of source before)
begins_before source before more begins = begins_fewer (marks_of source before) (marks_of source more) (subst Begins (marks_append source before more) begins)

-- two ways to name a token of a list
compared : (before : List Token) (t : Token) (behind others : List Token) (u : Token) (after : List Token) → before ++ t ∷ behind ≡ others ++ u ∷ after
    → (t ≡ u) ⊎ ((x : List Token) × (others ≡ before ++ t ∷ [] ++ x)) ⊎ ((x : List Token) × (before ≡ others ++ u ∷ [] ++ x))
compared [] t behind [] u after e = inl cc
compared [] t behind (v ∷ others) u after e = inr (inl (others, (let same : t ≡ v = cc in ap (λ w. w ∷ others) (sym same))))
compared (v ∷ before) t behind [] u after e = inr (inr (before, (let same : v ≡ u = cc in ap (λ w. w ∷ before) same)))
compared (v ∷ before) t behind (w ∷ others) u after e =
    let first : v ≡ w = cc in
    let rest : before ++ t ∷ behind ≡ others ++ u ∷ after = cc in
    by_case first (compared before t behind others u after rest)
  where
    by_case : v ≡ w → (t ≡ u) ⊎ ((x : List Token) × (others ≡ before ++ t ∷ [] ++ x)) ⊎ ((x : List Token) × (before ≡ others ++ u ∷ [] ++ x))
        → (t ≡ u) ⊎ ((x : List Token) × (w ∷ others ≡ v ∷ before ++ t ∷ [] ++ x)) ⊎ ((x : List Token) × (v ∷ before ≡ w ∷ others ++ u ∷ [] ++ x))
    by_case first (inl same) = inl same
    by_case first (inr (inl (x, e))) = inr (inl (x, ap (λ xs. w ∷ xs) e ∙ ap (λ y. y ∷ before ++ t ∷ [] ++ x) (sym first)))
    by_case first (inr (inr (x, e))) = inr (inr (x, ap (λ xs. v ∷ xs) e ∙ ap (λ y. y ∷ others ++ u ∷ [] ++ x) first))

-- the bytes of a source fall into tokens in one way
abbrev pub OneCut : Type 0
OneCut = (source : List ℕ) (ts us : List Token) (stop other : Option ℕ) → Falls 0 source ts stop → Falls 0 source us other → (ts ≡ us) × (stop ≡ other)

-- a place where the source breaks off, and which is the least of them
pub record LeastBreak (source : List ℕ) (more : Bool) (place : ℕ) : Type 0 where
  pub is : Breaks source more place
  pub least : (other : ℕ) → Breaks source more other → place ≤ other

some_place : {a b : ℕ} → Some a ≡ Some b → a ≡ b
some_place h = cc

-- at a token
at_token : OneCut → (source : List ℕ) (more : Bool) (before : List Token) (t : Token) (behind : List Token) (stop : Option ℕ) → length source ≤ 2 ^ 20
    → Falls 0 source (before ++ t ∷ behind) stop → Begins (marks_of source before) → (Begins (marks_of source (before ++ t ∷ [])) → ⊥) → LeastBreak source more t.start
at_token one source more before t behind stop short falls begins ends = record {
  is = no_sentence before t behind stop falls begins ends;
  least = least;
}
  where
    least : (other : ℕ) → Breaks source more other → t.start ≤ other
    least other (no_token ts place g) =
        let same = one source (before ++ t ∷ behind) ts stop (Some place) falls g in
        (falls_before falls).earlier place same.1 before t behind refl
    least other (no_sentence others u after stop' g begins' ends') = by_case (compared before t behind others u after (one source (before ++ t ∷ behind) (others ++ u ∷ after) stop stop' falls g).0)
      where
        by_case : (t ≡ u) ⊎ ((x : List Token) × (others ≡ before ++ t ∷ [] ++ x)) ⊎ ((x : List Token) × (before ≡ others ++ u ∷ [] ++ x)) → t.start ≤ u.start
        by_case (inl same) = let start : t.start ≡ u.start = ap (λ v. v.start) same in omega arith
        by_case (inr (inl (x, e))) = absurd (ends (begins_before source (before ++ t ∷ []) x (subst (λ v. Begins (marks_of source v)) e begins')))
        by_case (inr (inr (x, e))) = absurd (ends' (begins_before source (others ++ u ∷ []) x (subst (λ v. Begins (marks_of source v)) e begins)))
    least other (too_short ts g begins' none') =
        let same : before ++ t ∷ behind ≡ ts = (one source (before ++ t ∷ behind) ts stop None falls g).0 in
        absurd (ends (begins_before source (before ++ t ∷ []) behind (subst (λ v. Begins (marks_of source v)) (sym same ∙ sym (append_assoc before (t ∷ []) behind)) begins')))
    least other (too_long m) = let within = (falls_before falls).first before t behind refl in omega arith

-- where the tokens end
end_within : (source : List ℕ) (ts : List Token) (stop : Option ℕ) → Falls 0 source ts stop → (o : Option ℕ) → stop ≡ o → unwrap_or o (length source) ≤ length source
end_within source ts stop falls None e = omega arith
end_within source ts stop falls (Some place) e = let within = (falls_before falls).inside place e in omega arith

end_least : OneCut → (source : List ℕ) (more : Bool) (ts : List Token) (stop : Option ℕ) → length source ≤ 2 ^ 20 → Falls 0 source ts stop → Begins (marks_of source ts)
    → (other : ℕ) → Breaks source more other → unwrap_or stop (length source) ≤ other
end_least one source more ts stop short falls begins other (no_token us place g) =
    let same : unwrap_or stop (length source) ≡ place = ap (λ o. unwrap_or o (length source)) (one source ts us stop (Some place) falls g).1 in omega arith
end_least one source more ts stop short falls begins other (no_sentence before t behind stop' g begins' ends') =
    let same : ts ≡ before ++ t ∷ behind = (one source ts (before ++ t ∷ behind) stop stop' falls g).0 in
    absurd (ends' (begins_before source (before ++ t ∷ []) behind (subst (λ v. Begins (marks_of source v)) (same ∙ sym (append_assoc before (t ∷ []) behind)) begins)))
end_least one source more ts stop short falls begins other (too_short us g begins' none') =
    let same : unwrap_or stop (length source) ≡ length source = ap (λ o. unwrap_or o (length source)) (one source ts us stop None falls g).1 in omega arith
end_least one source more ts stop short falls begins other (too_long m) =
    let within = end_within source ts stop falls stop refl in omega arith

at_end : OneCut → (source : List ℕ) (more : Bool) (ts : List Token) (stop : Option ℕ) → length source ≤ 2 ^ 20 → Falls 0 source ts stop → Begins (marks_of source ts)
    → Breaks source more (unwrap_or stop (length source)) → LeastBreak source more (unwrap_or stop (length source))
at_end one source more ts stop short falls begins is = record { is = is; least = end_least one source more ts stop short falls begins }

-- the tokens of a list from a number on
pub from_number : (ts : List Token) (n : ℕ) → take n ts ++ drop n ts ≡ ts
from_number ts n = take-append-drop n ts

ended : (source : List ℕ) (more : Bool) (ts : List Token) (stop : Option ℕ) → Falls 0 source ts stop → Begins (marks_of source ts) → ((m : Module Value) → IsSentence (marks_of source ts) m → ⊥)
    → Breaks source more (unwrap_or stop (length source))
ended source more ts None falls begins none = too_short ts falls begins none
ended source more ts (Some place) falls begins none = no_token ts place falls

append_cancel : (xs ys zs : List Mark) → xs ++ zs ≡ ys ++ zs → xs ≡ ys
append_cancel xs ys zs e =
    let long : length xs ≡ length ys = (let a = ap length e in omega (arith, length-append xs zs, length-append ys zs, a)) in
    sym (take-append_seam xs zs) ∙ ap (take (length xs)) e ∙ ap (λ n. take n (ys ++ zs)) long ∙ take-append_seam ys zs

-- tokens that are no sentence break off where a token can't go on, or where they end
broken_at : OneCut → (source : List ℕ) (more : Bool) (ts : List Token) (stop : Option ℕ) → length source ≤ 2 ^ 20 → Falls 0 source ts stop
    → (before left : List Token) → ts ≡ before ++ left → Broken (marks_of source ts) (marks_of source left) → LeastBreak source more (place_at left (unwrap_or stop (length source)))
broken_at one source more ts stop short falls before [] e broken =
    let whole : broken.front ≡ marks_of source ts = sym (append-nil broken.front) ∙ sym broken.split in
    let begins : Begins (marks_of source ts) = subst Begins whole broken.begins in
    at_end one source more ts stop short falls begins (ended source more ts stop falls begins broken.none)
broken_at one source more ts stop short falls before (t ∷ behind) e broken =
    let split : broken.front ++ marks_of source (t ∷ behind) ≡ marks_of source before ++ marks_of source (t ∷ behind) = sym broken.split ∙ ap (marks_of source) e ∙ marks_append source before (t ∷ behind) in
    let front : broken.front ≡ marks_of source before = append_cancel broken.front (marks_of source before) (marks_of source (t ∷ behind)) split in
    at_token one source more before t behind stop short (subst (λ v. Falls 0 source v stop) e falls) (subst Begins front broken.begins)
    (λ begins. broken.ends (mark_of source t) (marks_of source behind) refl (subst Begins (marks_append source before (t ∷ []) ∙ ap (λ v. v ++ mark_of source t ∷ []) (sym front)) begins))

pub number_broken : OneCut → (source : List ℕ) (more : Bool) (ts : List Token) (stop : Option ℕ) → length source ≤ 2 ^ 20 → Falls 0 source ts stop
    → (number : ℕ) → Broken (marks_of source ts) (marks_of source (drop number ts)) → LeastBreak source more (place_at (drop number ts) (unwrap_or stop (length source)))
number_broken one source more ts stop short falls number broken =
    broken_at one source more ts stop short falls (take number ts) (drop number ts) (sym (from_number ts number)) broken

-- a sentence that no token of the form follows, or that is longer than may be
or_false : (b : Bool) → (b || false) ≡ true → b ≡ true
or_false true h = refl
or_false false h = h

longer : (source : List ℕ) (more : Bool) (ts : List Token) (stop : Option ℕ) → (IsTrue more → length source ≡ 2 ^ 20) → Falls 0 source ts stop
    → (more || is_some stop) ≡ true → Breaks source more (unwrap_or stop (length source))
longer source more ts None cut falls h = let m = or_false more h in subst (Breaks source more) (sym (cut m)) (too_long m)
longer source more ts (Some place) cut falls h = no_token ts place falls

pub sentence_broken : OneCut → (source : List ℕ) (more : Bool) (ts : List Token) (stop : Option ℕ) → length source ≤ 2 ^ 20 → (IsTrue more → length source ≡ 2 ^ 20) → Falls 0 source ts stop
    → (m : Module Value) → IsSentence (marks_of source ts) m → (more || is_some stop) ≡ true → LeastBreak source more (unwrap_or stop (length source))
sentence_broken one source more ts stop short cut falls m s why =
    at_end one source more ts stop short falls ([], m, subst (λ v. IsSentence v m) (sym (append-nil (marks_of source ts))) s) (longer source more ts stop cut falls why)

-- a sentence that ends where its source does
pub whole : (more : Bool) (stop : Option ℕ) → (more || is_some stop) ≡ false → (more ≡ false) × (stop ≡ None)
whole false None h = (refl, refl)
whole false (Some place) h = cc
whole true stop h = cc

-- a source that reads doesn't break off
pub unbroken : OneCut → (source : List ℕ) (ts : List Token) (m : Module Value) (place : ℕ) → Reads source ts m → Breaks source false place → ⊥
unbroken one source ts m place reads (no_token us p g) =
    let same : None ≡ Some p = (one source ts us None (Some p) reads.falls g).1 in cc
unbroken one source ts m place reads (no_sentence before t behind stop g begins ends) =
    let same : ts ≡ before ++ t ∷ behind = (one source ts (before ++ t ∷ behind) None stop reads.falls g).0 in
    let whole : Begins (marks_of source ts) = ([], m, subst (λ v. IsSentence v m) (sym (append-nil (marks_of source ts))) reads.sentence) in
    ends (begins_before source (before ++ t ∷ []) behind (subst (λ v. Begins (marks_of source v)) (same ∙ sym (append_assoc before (t ∷ []) behind)) whole))
unbroken one source ts m place reads (too_short us g begins none) =
    let same : ts ≡ us = (one source ts us None None reads.falls g).0 in none m (subst (λ v. IsSentence (marks_of source v) m) same reads.sentence)
unbroken one source ts m place reads (too_long e) = cc

-- the least of the places where the source breaks off and where a limit is passed
min_cases : (a b : ℕ) → ((min a b ≡ a) × (a ≤ b)) ⊎ ((min a b ≡ b) × (b ≤ a))
min_cases a b = by_test (nat_le a b) refl
  where
    by_test : (t : Bool) → nat_le a b ≡ t → ((min a b ≡ a) × (a ≤ b)) ⊎ ((min a b ≡ b) × (b ≤ a))
    by_test true e = let low : a ≤ b = grind (arith, nat_tests) in inl (min-eq_left low, low)
    by_test false e = let low : b ≤ a = grind (arith, nat_tests) in inr (min_comm a b ∙ min-eq_left low, low)

pub refused_at : OneCut → (source : List ℕ) (more : Bool) (ts : List Token) (stop : Option ℕ) → Falls 0 source ts stop → (limit : Option ℕ) → limit ≡ limit_of source ts
    → (place : ℕ) → LeastBreak source more place → IsRefusedAt source more (least_of limit place)
refused_at one source more ts stop falls None e place b = record {
  breaks = (place, b.is);
  is = inl b.is;
  least = b.least;
  limit = λ passed (us, other, g, f). (
      let same : ts ≡ us = (one source ts us stop other falls g).0 in
      let clash : None ≡ Some passed = e ∙ ap (limit_of source) same ∙ f in cc);
}
refused_at one source more ts stop falls (Some limit) e place b = by_order (min_cases limit place)
  where
    by_order : ((min limit place ≡ limit) × (limit ≤ place)) ⊎ ((min limit place ≡ place) × (place ≤ limit)) → IsRefusedAt source more (min limit place)
    by_order (inl (same, low)) = subst (IsRefusedAt source more) (sym same) (record {
      breaks = (place, b.is);
      is = inr (ts, stop, falls, sym e);
      least = λ other g. (let le = b.least other g in omega arith);
      limit = λ passed (us, other, g, f). (
          let there : ts ≡ us = (one source ts us stop other falls g).0 in
          let at : limit ≡ passed = some_place (e ∙ ap (limit_of source) there ∙ f) in omega arith);
    })
    by_order (inr (same, low)) = subst (IsRefusedAt source more) (sym same) (record {
      breaks = (place, b.is);
      is = inl b.is;
      least = b.least;
      limit = λ passed (us, other, g, f). (
          let there : ts ≡ us = (one source ts us stop other falls g).0 in
          let at : limit ≡ passed = some_place (e ∙ ap (limit_of source) there ∙ f) in omega arith);
    })

-- there is one such place
le_one : (source : List ℕ) (more : Bool) (place other : ℕ) → IsRefusedAt source more place → IsRefusedAt source more other → place ≤ other
le_one source more place other a b = by_case b.is
  where
    by_case : Breaks source more other ⊎ Passes source other → place ≤ other
    by_case (inl breaks) = a.least other breaks
    by_case (inr passes) = a.limit other passes

pub refused_once : (source : List ℕ) (more : Bool) (place other : ℕ) → IsRefusedAt source more place → IsRefusedAt source more other → place ≡ other
refused_once source more place other a b =
    let up = le_one source more place other a b in
    let down = le_one source more other place b a in
    omega arith

pub one_reading : OneCut → (source : List ℕ) (ts us : List Token) (m n : Module Value) → Reads source ts m → Reads source us n → (ts ≡ us) × (m ≡ n)
one_reading one source ts us m n a b =
    let same : ts ≡ us = (one source ts us None None a.falls b.falls).0 in
    (same, one_module (marks_of source us) m n (subst (λ v. IsSentence (marks_of source v) m) same a.sentence) b.sentence)

-- whether tokens are left from a number on
pub some_marks : (source : List ℕ) (ts : List Token) (n : ℕ) → n < length ts → (t : Mark) × (us : List Mark) × (marks_of source (drop n ts) ≡ t ∷ us)
some_marks source [] n lt = absurd (omega arith)
some_marks source (t ∷ ts) zero lt = (mark_of source t, marks_of source ts, refl)
some_marks source (t ∷ ts) (suc n) lt = some_marks source ts n (omega arith)

pub no_marks : (source : List ℕ) (ts : List Token) (n : ℕ) → length ts ≤ n → marks_of source (drop n ts) ≡ []
no_marks source [] zero le = refl
no_marks source [] (suc n) le = refl
no_marks source (t ∷ ts) zero le = absurd (omega arith)
no_marks source (t ∷ ts) (suc n) le = no_marks source ts n (omega arith)

-- what is answered of a source that reads, and of one that is refused
pub accepted : OneCut → (source : List ℕ) (more : Bool) (r : Result Sentence SyntaxFault) → IfOk r (λ s. IsRead source s) → IfErr r (IsFault source more)
    → (ts : List Token) (m : Module Value) → Reads source ts m → more ≡ false
    → MatchResult r (λ s. (s.tokens.items ≡ ts) × (module_of source ts s.module ≡ printed m)) (λ fault. fault ≡ faults.Memory)
accepted one source more (Ok s) read err ts m other e =
    let same = one_reading one source s.tokens.items ts read.tree m read.reads other in
    (same.0, ap (λ v. module_of source v s.module) (sym same.0) ∙ read.stands ∙ ap printed same.1)
accepted one source more (Err (faults.At place)) ok err ts m reads e =
    let broken = err.breaks in absurd (unbroken one source ts m broken.0 reads (subst (λ b. Breaks source b broken.0) e broken.1))
accepted one source more (Err faults.Memory) ok err ts m reads e = refl

pub refused : OneCut → (source : List ℕ) (more : Bool) (r : Result Sentence SyntaxFault) → IfOk r (λ s. IsRead source s) → IfOk r (λ s. more ≡ false) → IfErr r (IsFault source more)
    → (place : ℕ) → IsRefusedAt source more place → MatchResult r (λ s. ⊥) (λ fault. (fault ≡ faults.Memory → ⊥) → fault ≡ faults.At place)
refused one source more (Ok s) read full err place at =
    let broken = at.breaks in unbroken one source s.tokens.items read.tree broken.0 read.reads (subst (λ b. Breaks source b broken.0) full broken.1)
refused one source more (Err (faults.At other)) read full err place at = λ h. ap faults.At (refused_once source more other place err at)
refused one source more (Err faults.Memory) read full err place at = λ h. absurd (h refl)

-- the number of the token that breaks the sentence off
pub break_at : (source : List ℕ) (ts : List Token) (b : Break) (number : ℕ) → b ≡ breaks.At number → IsBreak source ts b → Broken (marks_of source ts) (marks_of source (drop number ts))
break_at source ts (breaks.At n) number e h = let same : n ≡ number = cc in subst (λ k. Broken (marks_of source ts) (marks_of source (drop k ts))) same h
break_at source ts breaks.Memory number e h = cc
