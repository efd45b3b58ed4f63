-- Laws on numbers at the front of the bytes.
use Rattle.std.proofs.Common.{◌≡◌, ℕ, zero, suc, ◌+◌, ◌<◌, ◌≤◌, List, [], ◌∷◌, arith, length, take, drop, get_or, ◌==◌, refl, sym, ◌∙◌, ap, cond, true, false, Bool, one-add, ◌⊎◌, inl, inr, ◌||◌, Option, Some, None}
use Rattle.std.proofs.lemmas.Bool.Decides.{nat_tests}
use Rattle.std.proofs.lemmas.Grind.{common_steps}
use Rattle.std.proofs.lemmas.List.Sums.{prefix_len-le-length}
use Rattle.std.specs.Char.{is_digit, is_ascii_digit}
use Rattle.std.specs.Prelude.{slice_get}
use Rattle.std.specs.List.{prefix_len}
use Rattle.vod_text.specs.Numeral.{based_len, is_further}
use Rattle.vod_token.specs.Form.{is_white, is_letter, base_of, Form}
use Rattle.vod_token.specs.Scan.{token_at, lexeme, size_len, quote_at, number_judged, judged, based_at, plain_at, number_at, sign_len, tail_base, tail_start, tail_len}

based_len-by : (b : Bool) (m n : ℕ) → m ≤ n → cond b (1 + m) 0 ≤ suc n
based_len-by true m n le = omega arith
based_len-by false m n le = omega arith

pub based_len-le : (base : ℕ) (text : List ℕ) → based_len base text ≤ length text
based_len-le base [] = omega arith
based_len-le base (d ∷ ds) = based_len-by (is_digit d base) (prefix_len (is_further base) ds) (length ds) (prefix_len-le-length (is_further base) ds)

-- A front is no longer than the whole.
pub length-take-within : (n : ℕ) (xs : List ℕ) → length (take n xs) ≤ length xs
length-take-within zero xs = omega arith
length-take-within (suc n) [] = omega arith
length-take-within (suc n) (x ∷ xs) = let le = length-take-within n xs in omega arith

-- The front that passes a test passes it whole.
prefix_len-by : (b : Bool) (m n : ℕ) → m ≡ n → cond b (1 + m) 0 ≡ cond b (1 + n) 0
prefix_len-by true m n e = ap (λ k. 1 + k) e
prefix_len-by false m n e = refl

prefix_front : (p : ℕ → Bool) (b : Bool) (x : ℕ) (xs : List ℕ) → p x ≡ b → prefix_len p (take (prefix_len p xs) xs) ≡ prefix_len p xs
    → prefix_len p (take (cond b (1 + prefix_len p xs) 0) (x ∷ xs)) ≡ cond b (1 + prefix_len p xs) 0
prefix_front p true x xs e h = rw (one-add, e) (rw one-add (ap suc h))
prefix_front p false x xs e h = refl

prefix_len-front : (p : ℕ → Bool) (xs : List ℕ) → prefix_len p (take (prefix_len p xs) xs) ≡ prefix_len p xs
prefix_len-front p [] = refl
prefix_len-front p (x ∷ xs) = prefix_front p (p x) x xs refl (prefix_len-front p xs)

-- The digits found at a front are its own front.
based_front : (base : ℕ) (b : Bool) (d : ℕ) (ds : List ℕ) → is_digit d base ≡ b
    → based_len base (take (cond b (1 + prefix_len (is_further base) ds) 0) (d ∷ ds)) ≡ cond b (1 + prefix_len (is_further base) ds) 0
based_front base true d ds e = rw (one-add, e) (rw one-add (ap suc (prefix_len-front (is_further base) ds)))
based_front base false d ds e = refl

pub based_len-front : (base : ℕ) (text : List ℕ) → based_len base (take (based_len base text) text) ≡ based_len base text
based_len-front base [] = refl
based_len-front base (d ∷ ds) = based_front base (is_digit d base) d ds refl

-- So a front of that length is digits through and through.
pub based_len-whole : (base n : ℕ) (text front : List ℕ) → n ≡ based_len base text → front ≡ take n text → based_len base front ≡ length front
based_len-whole base n text front e f =
    let le = based_len-le base text in
    let same : based_len base front ≡ n = rw (f, e) (based_len-front base text) in
    let long : length front ≡ n = rw (f, e) (grind (arith, common_steps)) in
    same ∙ sym long

-- What is answered on the number at the front, with the parts as the code finds them.
pub number_by : (bytes : List ℕ) (at size gap : ℕ) (b : Bool) (o : Option (Form × ℕ)) → size ≡ size_len bytes → gap ≡ prefix_len is_white (drop size bytes)
    → get_or bytes (size + gap) 0 == 39 ≡ b → cond b (based_at (take size bytes) (size + gap + 1) (drop (size + gap + 1) bytes)) (plain_at (take size bytes)) ≡ o → number_at bytes ≡ o
unfolding number_at
number_by bytes at size gap b o e f test h =
    let quote : size + gap ≡ quote_at bytes = (let w : gap ≡ prefix_len is_white (drop (size_len bytes) bytes) = f ∙ ap (λ n. prefix_len is_white (drop n bytes)) e in omega arith) in
    let left : number_at bytes ≡ cond (get_or bytes (size + gap) 0 == 39) (based_at (take size bytes) (size + gap + 1) (drop (size + gap + 1) bytes)) (plain_at (take size bytes)) = rw (quote, e) refl in
    left ∙ (rw test h)

pub number_based : (bytes : List ℕ) (at size gap : ℕ) → size ≡ size_len bytes → gap ≡ prefix_len is_white (drop size bytes) → get_or bytes (size + gap) 0 ≡ 39
    → number_judged at (based_at (take size bytes) (size + gap + 1) (drop (size + gap + 1) bytes)) ≡ number_judged at (number_at bytes)
number_based bytes at size gap e f quote =
    let test : get_or bytes (size + gap) 0 == 39 ≡ true = grind (arith, nat_tests) in
    ap (number_judged at) (sym (number_by bytes at size gap true (based_at (take size bytes) (size + gap + 1) (drop (size + gap + 1) bytes)) e f test refl))

pub number_plain : (bytes : List ℕ) (at size gap : ℕ) → size ≡ size_len bytes → gap ≡ prefix_len is_white (drop size bytes) → (get_or bytes (size + gap) 0 ≡ 39 → ⊥)
    → number_judged at (plain_at (take size bytes)) ≡ number_judged at (number_at bytes)
number_plain bytes at size gap e f quote =
    let test : get_or bytes (size + gap) 0 == 39 ≡ false = grind (arith, nat_tests) in
    ap (number_judged at) (sym (number_by bytes at size gap false (plain_at (take size bytes)) e f test refl))

-- The parts behind a quote, as the code finds them.
pub record TailParts (tail : List ℕ) (base start len : ℕ) : Type 0 where
  pub base_is : base ≡ tail_base tail
  pub start_is : start ≡ tail_start tail
  pub len_is : len ≡ tail_len tail

pub tail_parts : (tail : List ℕ) (sign base gap len : ℕ) → sign ≡ sign_len tail → base ≡ base_of (get_or tail sign 0) → gap ≡ prefix_len is_white (drop (sign + 1) tail)
    → len ≡ based_len base (drop (sign + 1 + gap) tail) → TailParts tail base (sign + 1 + gap) len
tail_parts tail sign base gap len e f g h =
    let base_is : base ≡ tail_base tail = f ∙ ap (λ n. base_of (get_or tail n 0)) e in
    let start_is : sign + 1 + gap ≡ tail_start tail = (let w : gap ≡ prefix_len is_white (drop (sign_len tail + 1) tail) = g ∙ ap (λ n. prefix_len is_white (drop (n + 1) tail)) e in omega arith) in
    record { base_is = base_is; start_is = start_is; len_is = h ∙ ap (λ n. based_len n (drop (sign + 1 + gap) tail)) base_is ∙ ap (λ n. based_len (tail_base tail) (drop n tail)) start_is }

-- The kind of a number is that.
judged_cond : (at : ℕ) (bytes : List ℕ) (b : Bool) (o p : Option (Form × ℕ)) → judged at bytes o ≡ number_judged at o → judged at bytes p ≡ number_judged at p
    → judged at bytes (cond b o p) ≡ number_judged at (cond b o p)
judged_cond at bytes true o p e f = e
judged_cond at bytes false o p e f = f

judged_based : (at : ℕ) (bytes size : List ℕ) (len : ℕ) (tail : List ℕ) → judged at bytes (based_at size len tail) ≡ number_judged at (based_at size len tail)
unfolding based_at
judged_based at bytes size len tail = judged_cond at bytes (tail_len tail == 0) None _ refl refl

pub judged_number : (at : ℕ) (bytes text : List ℕ) → judged at bytes (number_at text) ≡ number_judged at (number_at text)
unfolding number_at
judged_number at bytes text =
    judged_cond at bytes (get_or text (quote_at text) 0 == 39) _ _ (judged_based at bytes (take (size_len text) text) (quote_at text + 1) (drop (quote_at text + 1) text))
    (judged_cond at bytes (length (take (size_len text) text) == 0) None _ refl refl)

-- The bases.
abbrev pub IsBase : ℕ → Type 0
IsBase n = (n ≡ 2) ⊎ (n ≡ 8) ⊎ (n ≡ 10) ⊎ (n ≡ 16)

base_by : (p q r t : Bool) → 0 < cond p 2 (cond q 8 (cond r 10 (cond t 16 0))) → IsBase (cond p 2 (cond q 8 (cond r 10 (cond t 16 0))))
base_by true q r t h = inl refl
base_by false true r t h = inr (inl refl)
base_by false false true t h = inr (inr (inl refl))
base_by false false false true h = inr (inr (inr refl))
base_by false false false false h = absurd (omega arith)

pub known_base : (b base : ℕ) → base ≡ base_of b → 0 < base_of b → IsBase base
known_base b base e h = rw e (base_by (b == 98 || b == 66) (b == 111 || b == 79) (b == 100 || b == 68) (b == 104 || b == 72) h)

-- A number is answered where a digit or a quote stands first.
pub token_number : (at : ℕ) (bytes : List ℕ) (first : ℕ) → slice_get bytes 0 ≡ Some first → is_letter first ≡ false → (is_ascii_digit first || first == 39) ≡ true
    → number_judged at (number_at bytes) ≡ token_at at bytes
unfolding token_at lexeme
token_number at [] first some letter number = cc
token_number at (b ∷ bs) first some letter number =
    let same : b ≡ first = cc in
    rw (same, letter, number) (sym (judged_number at (first ∷ bs) (first ∷ bs)))
