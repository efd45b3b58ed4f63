-- White space and comments: what is measured at the front is one of them, and one of them is measured.
use Rattle.std.proofs.Common.{◌≡◌, ℕ, suc, ◌+◌, ◌<◌, ◌≤◌, ◌⊎◌, inl, inr, List, [], ◌∷◌, ◌++◌, arith, length, take, drop, get_or, refl, sym, ◌∙◌, ap, cond, true, false, not, ◌&&◌, ◌==◌, Bool, Some, None, subst, append_assoc, append-nil, length-append, add-zero}
use Rattle.std.proofs.lemmas.Bool.{cases_lt}
use Rattle.std.proofs.lemmas.Bool.Decides.{nat_tests}
use Rattle.std.proofs.lemmas.Grind.{common_steps}
use Rattle.std.proofs.Math.Seq.{take-append_seam, drop-append_seam}
use Rattle.std.proofs.lemmas.List.{take-append-drop, get_or-drop}
use Rattle.std.proofs.lemmas.List.Sums.{prefix_len-le-length, prefix_len_stops}
use Rattle.std.specs.List.{prefix_len, AllByRecursion}
use Rattle.std.specs.Option.{option_map}
use Rattle.std.specs.Prelude.{◌≢◌}
use Rattle.vod_text.proofs.Forms.{front_front}
use Rattle.vod_token.proofs.Lists.{run_is, run_whole, mapped}
use Rattle.vod_token.specs.Cut.{ClosesFirst, IsLayout}
use Rattle.vod_token.specs.Cut.IsLayout.{white, line, block}
use Rattle.vod_token.specs.Form.{is_white}
use Rattle.vod_token.specs.Scan.{close_end, comment_len, layout_len}

-- What stands before the first `*/`.
record Closed (bytes : List ℕ) (n : ℕ) : Type 0 where
  body : List ℕ
  parts : bytes ≡ body ++ 42 ∷ 47 ∷ drop n bytes
  long : n ≡ length body + 2
  first : ClosesFirst body

head_same : (body xs ys : List ℕ) → get_or (body ++ 42 ∷ xs) 0 0 ≡ get_or (body ++ 42 ∷ ys) 0 0
head_same [] xs ys = refl
head_same (b ∷ bs) xs ys = refl

-- A body that begins with no `*/` closes first where its rest does.
closes_cons : (b : ℕ) (body : List ℕ) → (b ≡ 42 → get_or (body ++ 42 ∷ 47 ∷ []) 0 0 ≡ 47 → ⊥) → ClosesFirst body → ClosesFirst (b ∷ body)
closes_cons b body apart h [] after e =
    let first : b ≡ 42 = cc in
    let rest : body ++ 42 ∷ 47 ∷ [] ≡ 47 ∷ after = cc in
    absurd (apart first (ap (λ xs. get_or xs 0 0) rest))
closes_cons b body apart h (c ∷ before) after e =
    let rest : body ++ 42 ∷ 47 ∷ [] ≡ before ++ 42 ∷ 47 ∷ after = cc in
    let le = h before after rest in omega arith

closes_tail : (b : ℕ) (body : List ℕ) → ClosesFirst (b ∷ body) → ClosesFirst body
closes_tail b body h before after e = let le = h (b ∷ before) after (ap (λ xs. b ∷ xs) e) in omega arith

close_here : (b : ℕ) (bs : List ℕ) (n : ℕ) → (b == 42 && get_or bs 0 0 == 47) ≡ true → n ≡ 2 → Closed (b ∷ bs) n
close_here b [] n e two = let none : get_or {A = ℕ} [] 0 0 == 47 ≡ false = refl in grind (arith, nat_tests)
close_here b (c ∷ cs) n e two =
    let first : b ≡ 42 = grind (arith, nat_tests) in
    let second : c ≡ 47 = grind (arith, nat_tests) in
    record {
      body = [];
      parts = rw (two, first, second) refl;
      long = two;
      first = λ before after _. omega arith;
    }

close_later : (b : ℕ) (bs : List ℕ) (m : ℕ) → (b == 42 && get_or bs 0 0 == 47) ≡ false → Closed bs m → Closed (b ∷ bs) (suc m)
close_later b bs m e later =
    let long = later.long in
    let head : get_or bs 0 0 ≡ get_or (later.body ++ 42 ∷ 47 ∷ []) 0 0 = ap (λ xs. get_or xs 0 0) later.parts ∙ head_same later.body (47 ∷ drop m bs) (47 ∷ []) in
    record {
      body = b ∷ later.body;
      parts = ap (λ xs. b ∷ xs) later.parts;
      long = omega arith;
      first = closes_cons b later.body (λ f g. let h : get_or bs 0 0 ≡ 47 = head ∙ g in grind (arith, nat_tests)) later.first;
    }

close_by : (b : ℕ) (bs : List ℕ) (n : ℕ) (t : Bool) → (b == 42 && get_or bs 0 0 == 47) ≡ t → cond t (Some 2) (option_map (λ n. 1 + n) (close_end bs)) ≡ Some n
    → ((m : ℕ) → close_end bs ≡ Some m → Closed bs m) → Closed (b ∷ bs) n
close_by b bs n true e h more = close_here b bs n e cc
close_by b bs n false e h more =
    let m = mapped (λ n. 1 + n) (close_end bs) n h in
    subst (Closed (b ∷ bs)) (let s = m.2 in omega arith) (close_later b bs m.0 e (more m.0 m.1))

close_sound : (bytes : List ℕ) (n : ℕ) → close_end bytes ≡ Some n → Closed bytes n
close_sound [] n h = cc
close_sound (b ∷ bs) n h = close_by b bs n (b == 42 && get_or bs 0 0 == 47) refl h (close_sound bs)

close_next : (b : ℕ) (body rest : List ℕ) (t : Bool) → (b == 42 && get_or (body ++ 42 ∷ 47 ∷ rest) 0 0 == 47) ≡ t → ClosesFirst (b ∷ body)
    → close_end (body ++ 42 ∷ 47 ∷ rest) ≡ Some (length body + 2)
    → cond t (Some 2) (option_map (λ n. 1 + n) (close_end (body ++ 42 ∷ 47 ∷ rest))) ≡ Some (suc (length body) + 2)
close_next b [] rest true e h more = grind (arith, nat_tests)
close_next b (c ∷ body) rest true e h more =
    let first : b ≡ 42 = grind (arith, nat_tests) in
    let second : c ≡ 47 = grind (arith, nat_tests) in
    let early : suc (suc (length body)) ≤ 0 = h [] (body ++ 42 ∷ 47 ∷ []) (rw (first, second) refl) in
    absurd (omega arith)
close_next b body rest false e h more = rw more (ap Some (omega arith))

pub close_complete : (body rest : List ℕ) → ClosesFirst body → close_end (body ++ 42 ∷ 47 ∷ rest) ≡ Some (length body + 2)
close_complete [] rest h = refl
close_complete (b ∷ bs) rest h =
    close_next b bs rest (b == 42 && get_or (bs ++ 42 ∷ 47 ∷ rest) 0 0 == 47) refl h (close_complete bs rest (closes_tail b bs h))

-- A line of bytes that are no line feed.
line_bytes : (bs : List ℕ) → AllByRecursion (λ b. not (b == 10) ≡ true) bs → AllByRecursion (λ b. b ≢ 10) bs
line_bytes [] h = tt
line_bytes (b ∷ bs) h = ((λ e. grind (arith, nat_tests)), line_bytes bs h.1)

bytes_line : (bs : List ℕ) → AllByRecursion (λ b. b ≢ 10) bs → AllByRecursion (λ b. not (b == 10) ≡ true) bs
bytes_line [] h = tt
bytes_line (b ∷ bs) h = ((let apart : b ≢ 10 = h.0 in grind (arith, nat_tests)), bytes_line bs h.1)

-- The bytes begin with so much white space, or with a comment of that length.
pub record BeginsLayout (bytes : List ℕ) (n : ℕ) : Type 0 where
  pub some : 0 < n
  pub within : n ≤ length bytes
  pub layout : IsLayout (take n bytes) (drop n bytes)

layout_of : (bytes text rest : List ℕ) (n : ℕ) → bytes ≡ text ++ rest → n ≡ length text → 0 < n → IsLayout text rest → BeginsLayout bytes n
layout_of bytes text rest n e f some h =
    rw (e, f) (record {
      some = rw (← f) some;
      within = grind (arith, common_steps);
      layout = rw (take-append_seam, drop-append_seam) h;
    })

line_stops : (bs : List ℕ) (n : ℕ) → n ≡ prefix_len (λ c. not (c == 10)) bs → n < length bs → get_or bs n 0 ≡ 10
line_stops bs n e lt =
    let stop = prefix_len_stops (λ c. not (c == 10)) bs 0 (let s : prefix_len (λ c. not (c == 10)) bs ≡ n = sym e in omega arith) in
    let here : not (get_or bs n 0 == 10) ≡ false = subst (λ k. not (get_or bs k 0 == 10) ≡ false) (sym e) stop in
    grind (arith, nat_tests)

line_ends : (bs : List ℕ) (n : ℕ) → n ≡ prefix_len (λ c. not (c == 10)) bs → (drop n bs ≡ []) ⊎ (get_or (drop n bs) 0 0 ≡ 10)
line_ends bs n e =
    elim (cases_lt n (length bs)) [
      | inl lt ↦ inr (get_or-drop n bs 0 0 ∙ ap (λ k. get_or bs k 0) (add-zero n) ∙ line_stops bs n e lt)
      | inr ge ↦ inl (grind (arith, common_steps))
    ]

line_sound : (bs : List ℕ) (n : ℕ) → n ≡ 2 + prefix_len (λ c. not (c == 10)) bs → BeginsLayout (47 ∷ 47 ∷ bs) n
line_sound bs n e =
    let le = prefix_len-le-length (λ c. not (c == 10)) bs in
    let m : ℕ = prefix_len (λ c. not (c == 10)) bs in
    let front = line_bytes (take m bs) (front_front (λ c. not (c == 10)) bs m (omega arith)) in
    layout_of (47 ∷ 47 ∷ bs) (47 ∷ 47 ∷ take m bs) (drop m bs) n (ap (λ xs. 47 ∷ 47 ∷ xs) (sym (take-append-drop m bs)))
    (let long : length (take m bs) ≡ m = grind (arith, common_steps) in omega arith) (omega arith) (line (take m bs) (drop m bs) front (line_ends bs m refl))

block_sound : (bs : List ℕ) (m n : ℕ) → n ≡ 2 + m → Closed bs m → BeginsLayout (47 ∷ 42 ∷ bs) n
block_sound bs m n e closed =
    let long = closed.long in
    layout_of (47 ∷ 42 ∷ bs) (47 ∷ 42 ∷ (closed.body ++ 42 ∷ 47 ∷ [])) (drop m bs) n
    (ap (λ xs. 47 ∷ 42 ∷ xs) (closed.parts ∙ sym (append_assoc closed.body (42 ∷ 47 ∷ []) (drop m bs))))
    (let sum : length (closed.body ++ 42 ∷ 47 ∷ []) ≡ length closed.body + 2 = length-append closed.body (42 ∷ 47 ∷ []) in omega arith) (omega arith)
    (block closed.body (drop m bs) closed.first)

comment_by : (b : ℕ) (bs : List ℕ) (n : ℕ) (s t : Bool) → (b == 47) ≡ s → (b == 42) ≡ t
    → cond s (Some (2 + prefix_len (λ c. not (c == 10)) bs)) (cond t (option_map (λ n. 2 + n) (close_end bs)) None) ≡ Some n → BeginsLayout (47 ∷ b ∷ bs) n
comment_by b bs n true t e f h =
    let is : b ≡ 47 = grind (arith, nat_tests) in rw is (line_sound bs n cc)
comment_by b bs n false true e f h =
    let is : b ≡ 42 = grind (arith, nat_tests) in
    let m = mapped (λ n. 2 + n) (close_end bs) n h in
    rw is (block_sound bs m.0 n (sym m.2) (close_sound bs m.0 m.1))
comment_by b bs n false false e f h = cc

comment_sound : (bs : List ℕ) (n : ℕ) → comment_len bs ≡ Some n → BeginsLayout (47 ∷ bs) n
unfolding comment_len
comment_sound [] n h = cc
comment_sound (b ∷ bs) n h = comment_by b bs n (b == 47) (b == 42) refl refl h

white_sound : (b : ℕ) (bs : List ℕ) (n : ℕ) → is_white b ≡ true → n ≡ 1 → BeginsLayout (b ∷ bs) n
white_sound b bs n w e = layout_of (b ∷ bs) (b ∷ []) bs n refl e (omega arith) (white b bs w)

layout_by : (b : ℕ) (bs : List ℕ) (n : ℕ) (s t : Bool) → is_white b ≡ s → (b == 47) ≡ t
    → cond s (Some 1) (cond t (comment_len bs) None) ≡ Some n → BeginsLayout (b ∷ bs) n
layout_by b bs n true t e f h = white_sound b bs n e cc
layout_by b bs n false true e f h = let is : b ≡ 47 = grind (arith, nat_tests) in rw is (comment_sound bs n h)
layout_by b bs n false false e f h = cc

-- What is measured is white space or a comment.
pub layout_sound : (bytes : List ℕ) (n : ℕ) → layout_len bytes ≡ Some n → BeginsLayout bytes n
unfolding layout_len
layout_sound [] n h = cc
layout_sound (b ∷ bs) n h = layout_by b bs n (is_white b) (b == 47) refl refl h

line_len : (body rest : List ℕ) → AllByRecursion (λ b. b ≢ 10) body → (rest ≡ []) ⊎ (get_or rest 0 0 ≡ 10) → prefix_len (λ c. not (c == 10)) (body ++ rest) ≡ length body
line_len body [] h end = rw append-nil (run_whole (λ c. not (c == 10)) body (bytes_line body h))
line_len body (b ∷ bs) h end =
    run_is (λ c. not (c == 10)) body b bs (bytes_line body h)
    (elim end [ inl none ↦ cc | inr feed ↦ (let is : b ≡ 10 = feed in grind (arith, nat_tests)) ])

-- White space and comments are measured.
pub layout_complete : (text rest : List ℕ) → IsLayout text rest → layout_len (text ++ rest) ≡ Some (length text)
unfolding layout_len comment_len
layout_complete text rest (white b r w) = rw w refl
layout_complete text rest (line body r bytes end) = rw (line_len body rest bytes end) (ap Some (omega arith))
layout_complete text rest (block body r closes) =
    let sum : length (body ++ 42 ∷ 47 ∷ []) ≡ length body + 2 = length-append body (42 ∷ 47 ∷ []) in
    rw (append_assoc body (42 ∷ 47 ∷ []) rest) (rw (close_complete body rest closes) (ap Some (omega arith)))

-- Where nothing is measured there is neither.
pub no_layout : (bytes text rest : List ℕ) → layout_len bytes ≡ None → bytes ≡ text ++ rest → IsLayout text rest → ⊥
no_layout bytes text rest none e h =
    let some : layout_len bytes ≡ Some (length text) = ap layout_len e ∙ layout_complete text rest h in cc
