-- Lawful vectors, as lines are read.
use Rattle.std.proofs.Common.{◌≡◌, ℕ, zero, suc, ◌<◌, ◌≤◌, ◌+◌, ◌^◌, arith, List, [], ◌∷◌, ◌++◌, length, get_or, refl, sym, ap, ◌∙◌, subst, IsTrue, All, inl, inr, length-append}
use Rattle.std.proofs.lemmas.Bool.{cases_lt}
use Rattle.std.proofs.lemmas.List.{map-append, length-map, get_or_push}
use Rattle.std.proofs.lemmas.List.Elements.{All-push, All-nil, All-cons, All-head, All-tail}
use Rattle.std.proofs.Math.ListN.{get_or-append}
use Rattle.std.proofs.Math.Seq.{get_or-append_seam}
use Rattle.std.specs.List.Sorted.{IsStrictlyIncreasing}
use Rattle.vod_thin_design.specs.declared.thin.Move.{Move}
use Rattle.vod_thin_design.specs.declared.thin.Vector.{Vector}
use Rattle.vod_thin_design.specs.Netlist.{Netlist}
use Rattle.vod_thin_script.specs.Held.{given}
use Rattle.vod_thin_design.specs.Vectors.{IsVector, IsLawful, AreUnmixed, is_unmixed, times, has_data, gives_data, last_time, last_time_after}

-- the last time stands last
last_is : (t : ℕ) (vs : List Vector) (k : ℕ) → k + 1 ≡ length vs → last_time_after t vs ≡ get_or (times vs) k 0
last_is t [] k e = absurd (omega arith)
last_is t (v ∷ []) zero e = refl
last_is t (v ∷ []) (suc k) e = absurd (omega arith)
last_is t (v ∷ w ∷ vs) zero e = absurd (omega arith)
last_is t (v ∷ w ∷ vs) (suc k) e = last_is v.time (w ∷ vs) k (omega arith)

pub last_time-push : (vs : List Vector) (v : Vector) → last_time (vs ++ v ∷ []) ≡ v.time
last_time-push vs v = after 0 vs
  where
    after : (t : ℕ) (vs : List Vector) → last_time_after t (vs ++ v ∷ []) ≡ v.time
    after t [] = refl
    after t (w ∷ vs) = after w.time vs

times-append : (vs ws : List Vector) → times (vs ++ ws) ≡ times vs ++ times ws
times-append vs ws = map-append (λ (v : Vector). v.time) vs ws

times-length : (vs : List Vector) → length (times vs) ≡ length vs
times-length vs = length-map vs _

pub given-push : (before : List Move) (vs : List Vector) (v : Vector) → given before (vs ++ v ∷ []) ≡ given before vs ++ v.moves
given-push before [] v = refl
given-push before (w ∷ vs) v = given-push (before ++ w.moves) vs v

unmixed_push : (d : Netlist) (before : List Move) (vs : List Vector) (v : Vector) → AreUnmixed d before vs → IsTrue (is_unmixed d (given before vs) v.moves) → AreUnmixed d before (vs ++ v ∷ [])
unmixed_push d before [] v all one = (one, tt)
unmixed_push d before (w ∷ vs) v all one = (all.0, unmixed_push d (before ++ w.moves) vs v all.1 one)

unmixed_at : (d : Netlist) (before : List Move) (vs : List Vector) (v : Vector) → AreUnmixed d before (vs ++ v ∷ []) → IsTrue (is_unmixed d (given before vs) v.moves)
unmixed_at d before [] v all = all.0
unmixed_at d before (w ∷ vs) v all = unmixed_at d (before ++ w.moves) vs v all.1

unmixed_front : (d : Netlist) (before : List Move) (vs ws : List Vector) → AreUnmixed d before (vs ++ ws) → AreUnmixed d before vs
unmixed_front d before [] ws all = tt
unmixed_front d before (v ∷ vs) ws all = (all.0, unmixed_front d (before ++ v.moves) vs ws all.1)

-- whether a vector may be the first
abbrev pub MayOpen : Netlist → Vector → Type 0
MayOpen d v = IsTrue (has_data d) → IsTrue (gives_data d v.moves)

-- lawful vectors and one more, which is later, in form, assigns all data and no clock where it is the first, and mixes nothing
pub lawful_push : (d : Netlist) (vs : List Vector) (v : Vector) (last : ℕ) → last ≡ last_time vs → IsLawful d vs → last < v.time → v.time < 2 ^ 63 → IsVector d v
    → (vs ≡ [] → MayOpen d v) → IsTrue (is_unmixed d (given [] vs) v.moves) → IsLawful d (vs ++ v ∷ [])
lawful_push d vs v last is h later within form complete apart = record {
  rising = subst IsStrictlyIncreasing (sym (times-append vs (v ∷ []))) rising;
  within = subst (All (λ t. (1 ≤ t) × (t < 2 ^ 63))) (sym (times-append vs (v ∷ []))) (All-push (λ t. (1 ≤ t) × (t < 2 ^ 63)) (times vs) v.time h.within (omega arith, within));
  forms = All-push (IsVector d) vs v h.forms form;
  first = first vs h.first complete;
  unmixed = unmixed_push d [] vs v h.unmixed apart;
}
  where
    rising : IsStrictlyIncreasing (times vs ++ v.time ∷ [])
    rising k lt =
        let size = length-append (times vs) (v.time ∷ []) in
        let count = times-length vs in
        let inside : k < length (times vs) = omega arith in
        let here : get_or (times vs ++ v.time ∷ []) k 0 ≡ get_or (times vs) k 0 = get_or-append (times vs) (v.time ∷ []) 0 k inside in
        elim (cases_lt (k + 1) (length (times vs))) [
          | inl more ↦ rw (here, get_or-append (times vs) (v.time ∷ []) 0 (k + 1) more) (h.rising k more)
          | inr end ↦ (
              let at : length (times vs) ≡ k + 1 = omega arith in
              let next : get_or (times vs ++ v.time ∷ []) (k + 1) 0 ≡ v.time = get_or_push (times vs) v.time 0 (k + 1) at in
              let latest : last_time vs ≡ get_or (times vs) k 0 = last_is 0 vs k (omega arith) in
              omega arith)
        ]

    first : (vs : List Vector) → ((w : Vector) (rest : List Vector) → vs ≡ w ∷ rest → MayOpen d w) → (vs ≡ [] → MayOpen d v)
        → (w : Vector) (rest : List Vector) → vs ++ v ∷ [] ≡ w ∷ rest → MayOpen d w
    first [] given all w rest e = (let same : v ≡ w = cc in subst (MayOpen d) same (all refl))
    first (x ∷ xs) given all w rest e = (let same : x ≡ w = cc in subst (MayOpen d) same (given x xs refl))

-- of lawful vectors, each is in form, and later than those before it
pub lawful_later : (d : Netlist) (done : List Vector) (v : Vector) (left : List Vector) → IsLawful d (done ++ v ∷ left) → last_time done < v.time
lawful_later d [] v left h = (h.within 0 0 (omega arith)).0
lawful_later d (w ∷ done) v left h =
    let k : ℕ = length done in
    let rise : IsStrictlyIncreasing (times (w ∷ done) ++ v.time ∷ times left) = subst IsStrictlyIncreasing (times-append (w ∷ done) (v ∷ left)) h.rising in
    let size = length-append (times (w ∷ done)) (v.time ∷ times left) in
    let count = times-length (w ∷ done) in
    let step : get_or (times (w ∷ done) ++ v.time ∷ times left) k 0 < get_or (times (w ∷ done) ++ v.time ∷ times left) (k + 1) 0 = rise k (omega arith) in
    let here : get_or (times (w ∷ done) ++ v.time ∷ times left) k 0 ≡ get_or (times (w ∷ done)) k 0 = get_or-append (times (w ∷ done)) (v.time ∷ times left) 0 k (omega arith) in
    let latest : last_time (w ∷ done) ≡ get_or (times (w ∷ done)) k 0 = last_is 0 (w ∷ done) k (omega arith) in
    let at : k + 1 ≡ length (times (w ∷ done)) = omega arith in
    let next : get_or (times (w ∷ done) ++ v.time ∷ times left) (k + 1) 0 ≡ v.time = ap (λ n. get_or (times (w ∷ done) ++ v.time ∷ times left) n 0) at ∙ get_or-append_seam (times (w ∷ done)) v.time (times left) 0 in
    omega arith

pub lawful_form : (d : Netlist) (done : List Vector) (v : Vector) (left : List Vector) → IsLawful d (done ++ v ∷ left) → IsVector d v
lawful_form d done v left h =
    let size = length-append done (v ∷ left) in
    let form : IsVector d (get_or (done ++ v ∷ left) (length done) v) = h.forms (length done) v (omega arith) in
    subst (IsVector d) (get_or-append_seam done v left v) form

pub lawful_within : (d : Netlist) (done : List Vector) (v : Vector) (left : List Vector) → IsLawful d (done ++ v ∷ left) → v.time < 2 ^ 63
lawful_within d done v left h =
    let all : All (λ t. (1 ≤ t) × (t < 2 ^ 63)) (times done ++ v.time ∷ times left) = subst (All (λ t. (1 ≤ t) × (t < 2 ^ 63))) (times-append done (v ∷ left)) h.within in
    let size = length-append (times done) (v.time ∷ times left) in
    let here : (1 ≤ get_or (times done ++ v.time ∷ times left) (length (times done)) 0) × (get_or (times done ++ v.time ∷ times left) (length (times done)) 0 < 2 ^ 63) = all (length (times done)) 0 (omega arith) in
    let at = get_or-append_seam (times done) v.time (times left) 0 in
    subst (λ t. t < 2 ^ 63) at here.1

pub lawful_first : (d : Netlist) (done : List Vector) (v : Vector) (left : List Vector) → IsLawful d (done ++ v ∷ left) → done ≡ [] → MayOpen d v
lawful_first d done v left h none = h.first v left (ap (λ vs. vs ++ v ∷ left) none)

pub lawful_unmixed : (d : Netlist) (done : List Vector) (v : Vector) → IsLawful d (done ++ v ∷ []) → IsTrue (is_unmixed d (given [] done) v.moves)
lawful_unmixed d done v h = unmixed_at d [] done v h.unmixed

All-front : {X : Type 0} (P : X → Type 0) (xs ys : List X) → All P (xs ++ ys) → All P xs
All-front P [] ys h = All-nil P
All-front P (x ∷ xs) ys h = All-cons P x xs (All-head P x (xs ++ ys) h) (All-front P xs ys (All-tail P x (xs ++ ys) h))

-- a front of lawful vectors is lawful
pub lawful_front : (d : Netlist) (vs ws : List Vector) → IsLawful d (vs ++ ws) → IsLawful d vs
lawful_front d vs ws h = record {
  rising = rising;
  within = All-front (λ t. (1 ≤ t) × (t < 2 ^ 63)) (times vs) (times ws) (subst (All (λ t. (1 ≤ t) × (t < 2 ^ 63))) (times-append vs ws) h.within);
  forms = All-front (IsVector d) vs ws h.forms;
  first = λ v rest e. h.first v (rest ++ ws) (ap (λ xs. xs ++ ws) e);
  unmixed = unmixed_front d [] vs ws h.unmixed;
}
  where
    all : IsStrictlyIncreasing (times vs ++ times ws)
    all = subst IsStrictlyIncreasing (times-append vs ws) h.rising

    rising : IsStrictlyIncreasing (times vs)
    rising k lt =
        let size = length-append (times vs) (times ws) in
        let step : get_or (times vs ++ times ws) k 0 < get_or (times vs ++ times ws) (k + 1) 0 = all k (omega arith) in
        let here : get_or (times vs ++ times ws) k 0 ≡ get_or (times vs) k 0 = get_or-append (times vs) (times ws) 0 k (omega arith) in
        let next : get_or (times vs ++ times ws) (k + 1) 0 ≡ get_or (times vs) (k + 1) 0 = get_or-append (times vs) (times ws) 0 (k + 1) lt in
        omega arith
