-- Numbers: what is read at the front is one, and one at the front is read.
use Rattle.std.proofs.Common.{◌≡◌, ℕ, zero, suc, ◌+◌, ◌<◌, ◌≤◌, ◌⊎◌, inl, inr, List, [], ◌∷◌, ◌++◌, arith, length, take, drop, get_or, refl, sym, ◌∙◌, ap, cond, true, false, ◌||◌, ◌==◌, Bool, Option, Some, subst, append_assoc, append-nil, length-append, add-one, one-add, drop-cons, lit<}
use Rattle.std.proofs.lemmas.Bool.{cases_lt}
use Rattle.std.proofs.Math.Seq.{take-append_seam, drop-append_seam}
use Rattle.std.proofs.lemmas.Bool.Decides.{nat_tests}
use Rattle.std.proofs.lemmas.Grind.{common_steps}
use Rattle.std.proofs.lemmas.List.{take-append-drop, get_or-drop, drop-drop}
use Rattle.std.proofs.lemmas.List.Sums.{prefix_len-le-length}
use Rattle.std.specs.Char.{is_digit, is_ascii_digit}
use Rattle.std.specs.List.{prefix_len, AllByRecursion}
use Rattle.vod_text.proofs.Forms.{front_front, front_more}
use Rattle.vod_text.specs.Numeral.{IsBased, is_further, based_len, based_value}
use Rattle.vod_token.proofs.Lists.{run_is, run_whole, kept}
use Rattle.vod_token.proofs.Numbers.{based_len-le}
use Rattle.vod_token.specs.Form.{is_white, IsWhite, base_of, Parts, AreParts, text_of, size_of, has_sign, Form, IsSpelled}
use Rattle.vod_token.specs.Cut.{IsWhole, BeginsBase}
use Rattle.vod_token.specs.Form.Form.{Plain, Based}
use Rattle.vod_token.specs.Scan.{sign_len, tail_base, tail_start, tail_len, based_at, size_len, quote_at, plain_at, number_at}

-- A digit is no white space, and white space and a quote end a size.
digit_dark : (d base : ℕ) → base ≤ 36 → is_digit d base ≡ true → is_white d ≡ false
digit_dark d base le h = grind (arith, nat_tests)

white_ends : (b : ℕ) → is_white b ≡ true → is_further 10 b ≡ false
white_ends b h = grind (arith, nat_tests)

base_small : (b : ℕ) → base_of b ≤ 36
base_small b = grind (arith, nat_tests)

-- The letter of a base is no sign.
letter_unsigned : (b : ℕ) → 0 < base_of b → (b == 115 || b == 83) ≡ false
letter_unsigned b h = grind (arith, nat_tests)

-- The digits of a text that begins with a based number's reach at least as far.
based_reach : (base : ℕ) (digits rest : List ℕ) → IsBased base digits → length digits ≤ based_len base (digits ++ rest)
based_reach base [] rest h = absurd h
based_reach base (d ∷ ds) rest h = rw h.0 (let more = front_more (is_further base) ds rest h.1 in omega arith)

based_whole : (base : ℕ) (digits : List ℕ) → IsBased base digits → based_len base digits ≡ length digits
based_whole base [] h = absurd h
based_whole base (d ∷ ds) h = rw h.0 (let more = run_whole (is_further base) ds h.1 in omega arith)

-- They end where a byte is none of them.
based_ends : (base : ℕ) (digits : List ℕ) (b : ℕ) (rest : List ℕ) → IsBased base digits → is_further base b ≡ false → based_len base (digits ++ b ∷ rest) ≡ length digits
based_ends base [] b rest h e = absurd h
based_ends base (d ∷ ds) b rest h e = rw h.0 (let more = run_is (is_further base) ds b rest h.1 e in omega arith)

-- What is found at a front is digits.
based_found : (base : ℕ) (bytes : List ℕ) → 0 < based_len base bytes → IsBased base (take (based_len base bytes) bytes)
based_found base [] h = absurd (omega arith)
based_found base (d ∷ ds) h = found_by (is_digit d base) refl h
  where
    found_by : (b : Bool) → is_digit d base ≡ b → 0 < cond b (1 + prefix_len (is_further base) ds) 0 → IsBased base (take (cond b (1 + prefix_len (is_further base) ds) 0) (d ∷ ds))
    found_by true e h = rw one-add (e, front_front (is_further base) ds (prefix_len (is_further base) ds) (omega arith))
    found_by false e h = absurd (omega arith)

-- What stands behind the quote.
abbrev tail_of : Parts → List ℕ → List ℕ
tail_of p rest = p.sign ++ p.letter ∷ (p.space ++ (p.digits ++ rest))

record TailRead (p : Parts) (rest : List ℕ) : Type 0 where
  sign_is : sign_len (tail_of p rest) ≡ length p.sign
  sign_taken : take (sign_len (tail_of p rest)) (tail_of p rest) ≡ p.sign
  base_is : tail_base (tail_of p rest) ≡ base_of p.letter
  start_is : tail_start (tail_of p rest) ≡ length p.sign + 1 + length p.space
  dropped : drop (tail_start (tail_of p rest)) (tail_of p rest) ≡ p.digits ++ rest

space_passed : (space digits rest : List ℕ) (base : ℕ) → base ≤ 36 → IsWhite space → IsBased base digits → prefix_len is_white (space ++ (digits ++ rest)) ≡ length space
space_passed space [] rest base le s h = absurd h
space_passed space (d ∷ ds) rest base le s h = run_is is_white space d (ds ++ rest) s (digit_dark d base le h.0)

tail_by : (sign : List ℕ) (letter : ℕ) (more space : List ℕ) → ((sign ≡ []) ⊎ ((sign ≡ 115 ∷ []) ⊎ (sign ≡ 83 ∷ []))) → 0 < base_of letter
    → sign_len (sign ++ letter ∷ more) ≡ length sign
tail_by sign letter more space (inl e) h = rw e (rw (letter_unsigned letter h) refl)
tail_by sign letter more space (inr (inl e)) h = rw e refl
tail_by sign letter more space (inr (inr e)) h = rw e refl

at_seam : (xs : List ℕ) (b : ℕ) (ys : List ℕ) → get_or (xs ++ b ∷ ys) (length xs) 0 ≡ b
at_seam [] b ys = refl
at_seam (x ∷ xs) b ys = at_seam xs b ys

past_seam : (xs : List ℕ) (b : ℕ) (ys : List ℕ) (n : ℕ) → n ≡ length xs + 1 → drop n (xs ++ b ∷ ys) ≡ ys
past_seam [] b ys n e = rw e refl
past_seam (x ∷ xs) b ys zero e = absurd (omega arith)
past_seam (x ∷ xs) b ys (suc n) e = past_seam xs b ys n (omega arith)

past_both : (xs : List ℕ) (b : ℕ) (ys zs : List ℕ) (n : ℕ) → n ≡ length xs + 1 + length ys → drop n (xs ++ b ∷ (ys ++ zs)) ≡ zs
past_both [] b ys zs zero e = absurd (omega arith)
past_both [] b ys zs (suc n) e = (let same : n ≡ length ys = omega arith in rw same (drop-append_seam ys zs))
past_both (x ∷ xs) b ys zs zero e = absurd (omega arith)
past_both (x ∷ xs) b ys zs (suc n) e = past_both xs b ys zs n (omega arith)

tail_read : (p : Parts) (rest : List ℕ) → AreParts p → TailRead p rest
tail_read p rest h =
    let tail : List ℕ = tail_of p rest in
    let more : List ℕ = p.space ++ (p.digits ++ rest) in
    let sign : sign_len tail ≡ length p.sign = tail_by p.sign p.letter more p.space h.sign h.letter in
    let white : prefix_len is_white (drop (sign_len tail + 1) tail) ≡ length p.space =
    ap (prefix_len is_white) (past_seam p.sign p.letter more (sign_len tail + 1) (omega arith))
    ∙ space_passed p.space p.digits rest (base_of p.letter) (base_small p.letter) h.space h.digits in
    let start : tail_start tail ≡ length p.sign + 1 + length p.space = omega arith in
    record {
      sign_is = sign;
      sign_taken = ap (λ n. take n tail) sign ∙ take-append_seam p.sign (p.letter ∷ more);
      base_is = ap base_of (ap (λ n. get_or tail n 0) sign ∙ at_seam p.sign p.letter more);
      start_is = start;
      dropped = past_both p.sign p.letter p.space (p.digits ++ rest) (tail_start tail) start;
    }

abbrev reading : ℕ → List ℕ → ℕ → List ℕ → ℕ → Option (Form × ℕ)
reading size sign base digits len = Some (Based size (has_sign sign) (based_value base digits), len)

number_eq : (size : ℕ) (s t : List ℕ) (b c : ℕ) (d e : List ℕ) (m n : ℕ) → s ≡ t → b ≡ c → d ≡ e → m ≡ n → reading size s b d m ≡ reading size t c e n
number_eq size s t b c d e m n p q r u = rw (p, q, r, u) refl

based_some : (base : ℕ) (digits : List ℕ) → IsBased base digits → 0 < length digits
based_some base [] h = absurd h
based_some base (d ∷ ds) h = omega arith

-- A based number is read, from behind its quote on, with as many digits as there are.
abbrev digits_at : Parts → List ℕ → ℕ
digits_at p rest = based_len (base_of p.letter) (p.digits ++ rest)

based_by : (size : List ℕ) (len : ℕ) (p : Parts) (rest : List ℕ) → AreParts p
    → based_at size len (tail_of p rest) ≡ Some (
      Based (size_of size) (has_sign p.sign) (based_value (base_of p.letter) (take (digits_at p rest) (p.digits ++ rest))),
      len + (length p.sign + 1 + length p.space) + digits_at p rest,
    )
unfolding based_at
based_by size len p rest h =
    let t = tail_read p rest h in
    let digits : tail_len (tail_of p rest) ≡ digits_at p rest = ap (λ b. based_len b (drop (tail_start (tail_of p rest)) (tail_of p rest))) t.base_is ∙ ap (based_len (base_of p.letter)) t.dropped in
    let reach = based_reach (base_of p.letter) p.digits rest h.digits in
    let some = based_some (base_of p.letter) p.digits h.digits in
    let test : (tail_len (tail_of p rest) == 0) ≡ false = grind (arith, nat_tests) in
    let sign = t.sign_taken in
    let base = t.base_is in
    let dropped = t.dropped in
    let start = t.start_is in
    rw test (number_eq (size_of size) (take (sign_len (tail_of p rest)) (tail_of p rest)) p.sign (tail_base (tail_of p rest)) (base_of p.letter)
    (take (tail_len (tail_of p rest)) (drop (tail_start (tail_of p rest)) (tail_of p rest))) (take (digits_at p rest) (p.digits ++ rest)) _ _ sign base
    (ap (λ n. take n (drop (tail_start (tail_of p rest)) (tail_of p rest))) digits ∙ ap (take (digits_at p rest)) dropped) (omega arith))

-- The number that begins with these parts is read from its quote on.
quoted : (bytes size : List ℕ) (len : ℕ) (tail : List ℕ) → size_len bytes ≡ length size → quote_at bytes ≡ len → bytes ≡ size ++ drop (length size) bytes
    → get_or bytes len 0 ≡ 39 → drop (len + 1) bytes ≡ tail → number_at bytes ≡ based_at size (len + 1) tail
unfolding number_at
quoted bytes size len tail e f parts quote dropped =
    let test : (get_or bytes len 0 == 39) ≡ true = grind (arith, nat_tests) in
    let taken : take (length size) bytes ≡ size = ap (take (length size)) parts ∙ take-append_seam size (drop (length size) bytes) in
    rw (f, test, e, taken, dropped) refl

ends_size : (size gap tail : List ℕ) → IsBased 10 size → IsWhite gap → size_len (size ++ (gap ++ 39 ∷ tail)) ≡ length size
ends_size size [] tail h w = based_ends 10 size 39 tail h refl
ends_size size (g ∷ gs) tail h w = based_ends 10 size g (gs ++ 39 ∷ tail) h (white_ends g w.0)

sized_by : (size gap tail bytes : List ℕ) → bytes ≡ size ++ (gap ++ 39 ∷ tail) → IsBased 10 size → IsWhite gap
    → number_at bytes ≡ based_at size (length size + length gap + 1) tail
sized_by size gap tail bytes e h w =
    let len : size_len bytes ≡ length size = ap size_len e ∙ ends_size size gap tail h w in
    let dropped : drop (length size) bytes ≡ gap ++ 39 ∷ tail = ap (drop (length size)) e ∙ drop-append_seam size (gap ++ 39 ∷ tail) in
    let run : prefix_len is_white (drop (size_len bytes) bytes) ≡ length gap = ap (λ n. prefix_len is_white (drop n bytes)) len ∙ ap (prefix_len is_white) dropped ∙ run_is is_white gap 39 tail w refl in
    let both : bytes ≡ (size ++ gap) ++ 39 ∷ tail = e ∙ simp append_assoc refl in
    let sum : length (size ++ gap) ≡ length size + length gap = length-append size gap in
    let quote : get_or bytes (length size + length gap) 0 ≡ 39 = ap (λ n. get_or bytes n 0) (sym sum) ∙ ap (λ xs. get_or xs (length (size ++ gap)) 0) both ∙ at_seam (size ++ gap) 39 tail in
    quoted bytes size (length size + length gap) tail len (omega arith) (e ∙ ap (λ xs. size ++ xs) (sym dropped)) quote
    (ap (drop (length size + length gap + 1)) both ∙ past_seam (size ++ gap) 39 tail (length size + length gap + 1) (omega arith))

unsized_by : (size gap tail bytes : List ℕ) → bytes ≡ size ++ (gap ++ 39 ∷ tail) → size ≡ [] → gap ≡ [] → number_at bytes ≡ based_at size (length size + length gap + 1) tail
unsized_by size gap tail bytes e s g = rw (e, s, g) (quoted (39 ∷ tail) [] 0 tail refl refl refl refl refl)

sized : (p : Parts) (rest : List ℕ) → AreParts p → number_at (text_of p ++ rest) ≡ based_at p.size (length p.size + length p.gap + 1) (tail_of p rest)
sized p rest h =
    let regrouped : text_of p ++ rest ≡ p.size ++ (p.gap ++ 39 ∷ tail_of p rest) = simp append_assoc refl in
    elim h.size [
      | inl none ↦ unsized_by p.size p.gap (tail_of p rest) (text_of p ++ rest) regrouped none.0 none.1
      | inr some ↦ sized_by p.size p.gap (tail_of p rest) (text_of p ++ rest) regrouped some.0 some.1
    ]

-- The length of a based number.
length_of : (p : Parts) → length (text_of p) ≡ length p.size + length p.gap + 1 + (length p.sign + 1 + length p.space) + length p.digits
length_of p = simp length-append (omega arith)

-- A based number before anything is read, and at least as far.
pub based_complete : (p : Parts) (rest : List ℕ) → AreParts p
    → (n : ℕ) × (value : ℕ) × (length (text_of p) ≤ n) × (number_at (text_of p ++ rest) ≡ Some (Based (size_of p.size) (has_sign p.sign) value, n))
based_complete p rest h =
    let reach = based_reach (base_of p.letter) p.digits rest h.digits in
    let long = length_of p in (
      length p.size + length p.gap + 1 + (length p.sign + 1 + length p.space) + digits_at p rest,
      based_value (base_of p.letter) (take (digits_at p rest) (p.digits ++ rest)),
      omega arith,
      sized p rest h ∙ based_by p.size (length p.size + length p.gap + 1) p rest h,
    )

-- One that is the whole text is read as itself.
pub based_exact : (p : Parts) → AreParts p → number_at (text_of p) ≡ Some (Based (size_of p.size) (has_sign p.sign) (based_value (base_of p.letter) p.digits), length (text_of p))
based_exact p h =
    let all : digits_at p [] ≡ length p.digits = ap (based_len (base_of p.letter)) (append-nil p.digits) ∙ based_whole (base_of p.letter) p.digits h.digits in
    let taken : take (digits_at p []) (p.digits ++ []) ≡ p.digits = ap (λ n. take n (p.digits ++ [])) all ∙ take-append_seam p.digits [] in
    let long = length_of p in
    ap number_at (sym (append-nil (text_of p))) ∙ sized p [] h ∙ based_by p.size (length p.size + length p.gap + 1) p [] h
    ∙ number_eq (size_of p.size) p.sign p.sign (base_of p.letter) (base_of p.letter) (take (digits_at p []) (p.digits ++ [])) p.digits _ _ refl refl taken (omega arith)

-- The front of so many bytes has that length, and what stands behind follows.
front_long : (n : ℕ) (xs : List ℕ) → n ≤ length xs → length (take n xs) ≡ n
front_long n xs le = grind (arith, common_steps)

inside : (xs : List ℕ) (n : ℕ) → 0 < get_or xs n 0 → n < length xs
inside [] n h = absurd (omega arith)
inside (x ∷ xs) zero h = omega arith
inside (x ∷ xs) (suc n) h = let lt = inside xs n h in omega arith

cell : (xs : List ℕ) (n b : ℕ) → get_or xs n 0 ≡ b → 0 < b → drop n xs ≡ b ∷ drop (n + 1) xs
cell xs n b e some =
    let lt = inside xs n (subst (λ c. 0 < c) (sym e) some) in
    drop-cons xs n 0 lt ∙ ap (λ c. c ∷ drop (suc n) xs) e ∙ ap (λ k. b ∷ drop k xs) (sym (add-one n))

-- The sign behind a quote.
sign_by : (tail : List ℕ) (s t : Bool) → (get_or tail 0 0 == 115) ≡ s → (get_or tail 0 0 == 83) ≡ t
    → (take (cond (s || t) 1 0) tail ≡ []) ⊎ ((take (cond (s || t) 1 0) tail ≡ 115 ∷ []) ⊎ (take (cond (s || t) 1 0) tail ≡ 83 ∷ []))
sign_by [] true t e f = inl refl
sign_by [] false true e f = inl refl
sign_by [] false false e f = inl refl
sign_by (b ∷ bs) true t e f = inr (inl (let is : b ≡ 115 = grind (arith, nat_tests) in ap (λ c. c ∷ []) is))
sign_by (b ∷ bs) false true e f = inr (inr (let is : b ≡ 83 = grind (arith, nat_tests) in ap (λ c. c ∷ []) is))
sign_by (b ∷ bs) false false e f = inl refl

no_base : (bytes : List ℕ) → based_len 0 bytes ≡ 0
no_base [] = refl
no_base (b ∷ bs) = let none : is_digit b 0 ≡ false = grind (arith, nat_tests) in rw none refl

base_some : (base : ℕ) (bytes : List ℕ) → 0 < based_len base bytes → 0 < base
base_some zero bytes h = let none = no_base bytes in absurd (omega arith)
base_some (suc n) bytes h = omega arith

letter_some : (b : ℕ) → 0 < base_of b → 0 < b
letter_some zero h = absurd (omega arith)
letter_some (suc n) h = omega arith

-- The parts behind a quote, as they are found.
record TailFound (tail : List ℕ) : Type 0 where
  sign : List ℕ
  letter : ℕ
  space : List ℕ
  digits : List ℕ
  rest : List ℕ
  sign_is : sign ≡ take (sign_len tail) tail
  letter_is : base_of letter ≡ tail_base tail
  digits_is : digits ≡ take (tail_len tail) (drop (tail_start tail) tail)
  signed : (sign ≡ []) ⊎ ((sign ≡ 115 ∷ []) ⊎ (sign ≡ 83 ∷ []))
  based : 0 < base_of letter
  white : IsWhite space
  found : IsBased (base_of letter) digits
  parts : tail ≡ sign ++ letter ∷ (space ++ (digits ++ rest))
  start : length sign + 1 + length space ≡ tail_start tail
  len : length digits ≡ tail_len tail

tail_found : (tail : List ℕ) → 0 < tail_len tail → TailFound tail
tail_found tail some =
    let sl : ℕ = sign_len tail in
    let letter : ℕ = get_or tail sl 0 in
    let w : ℕ = prefix_len is_white (drop (sl + 1) tail) in
    let base : 0 < base_of letter = base_some (tail_base tail) (drop (tail_start tail) tail) some in
    let lt : sl < length tail = inside tail sl (letter_some letter base) in
    let next : drop sl tail ≡ letter ∷ drop (sl + 1) tail = cell tail sl letter refl (letter_some letter base) in
    let le = prefix_len-le-length is_white (drop (sl + 1) tail) in
    let more = based_len-le (tail_base tail) (drop (tail_start tail) tail) in
    let behind : drop w (drop (sl + 1) tail) ≡ drop (tail_start tail) tail = drop-drop w (sl + 1) tail ∙ ap (λ n. drop n tail) (omega arith) in
    record {
      sign = take sl tail;
      letter = letter;
      space = take w (drop (sl + 1) tail);
      digits = take (tail_len tail) (drop (tail_start tail) tail);
      rest = drop (tail_len tail) (drop (tail_start tail) tail);
      sign_is = refl;
      letter_is = refl;
      digits_is = refl;
      signed = sign_by tail (get_or tail 0 0 == 115) (get_or tail 0 0 == 83) refl refl;
      based = base;
      white = front_front is_white (drop (sl + 1) tail) w (omega arith);
      found = based_found (tail_base tail) (drop (tail_start tail) tail) some;
      parts = sym (take-append-drop sl tail) ∙ ap (λ xs. take sl tail ++ xs) (next ∙ ap (λ xs. letter ∷ xs) (sym (take-append-drop w (drop (sl + 1) tail))
          ∙ ap (λ xs. take w (drop (sl + 1) tail) ++ xs) (behind ∙ sym (take-append-drop (tail_len tail) (drop (tail_start tail) tail)))));
      start = (let a = front_long sl tail (omega arith) in let b = front_long w (drop (sl + 1) tail) (omega arith) in omega arith);
      len = front_long (tail_len tail) (drop (tail_start tail) tail) more;
    }

-- A token that is read.
pub record LexemeRead (bytes : List ℕ) (form : Form) (n : ℕ) : Type 0 where
  pub some : 0 < n
  pub within : n ≤ length bytes
  pub spelled : IsSpelled (take n bytes) form
  pub whole : IsWhole form (drop n bytes)

-- The first byte of a number: a digit, or the quote.
abbrev pub starts_number : ℕ → Bool
starts_number b = is_ascii_digit b || b == 39

-- Without a size there is no white space before the quote.
gap_none : (b : ℕ) (bs : List ℕ) → starts_number b ≡ true → size_len (b ∷ bs) ≡ 0 → prefix_len is_white (b ∷ bs) ≡ 0
gap_none b bs h none = let dark : is_white b ≡ false = grind (arith, nat_tests) in rw dark refl

-- The size and the white space before a quote.
record SizeFound (bytes size gap tail : List ℕ) : Type 0 where
  sized : ((size ≡ []) × (gap ≡ [])) ⊎ (IsBased 10 size × IsWhite gap)
  parts : bytes ≡ size ++ (gap ++ 39 ∷ tail)
  long : length size + length gap ≡ quote_at bytes

take_none : (n : ℕ) (xs : List ℕ) → n ≡ 0 → take n xs ≡ []
take_none n xs e = rw e refl

size_found : (b : ℕ) (bs : List ℕ) → starts_number b ≡ true → get_or (b ∷ bs) (quote_at (b ∷ bs)) 0 ≡ 39
    → SizeFound (b ∷ bs) (take (size_len (b ∷ bs)) (b ∷ bs)) (take (prefix_len is_white (drop (size_len (b ∷ bs)) (b ∷ bs))) (drop (size_len (b ∷ bs)) (b ∷ bs))) (drop (quote_at (b ∷ bs) + 1) (b ∷ bs))
size_found b bs h quote =
    let bytes : List ℕ = b ∷ bs in
    let s : ℕ = size_len bytes in
    let g : ℕ = prefix_len is_white (drop s bytes) in
    let sle = based_len-le 10 bytes in
    let gle = prefix_len-le-length is_white (drop s bytes) in
    let next : drop g (drop s bytes) ≡ 39 ∷ drop (quote_at bytes + 1) bytes = drop-drop g s bytes ∙ cell bytes (quote_at bytes) 39 quote (lit< tt) in
    record {
      sized = elim (cases_lt 0 s) [
        | inl more ↦ inr (based_found 10 bytes more, front_front is_white (drop s bytes) g (omega arith))
        | inr none ↦ inl (take_none s bytes (omega arith), take_none g (drop s bytes) (ap (λ n. prefix_len is_white (drop n bytes)) (let z : s ≡ 0 = omega arith in z) ∙ gap_none b bs h (omega arith)))
      ];
      parts = sym (take-append-drop s bytes) ∙ ap (λ xs. take s bytes ++ xs) (sym (take-append-drop g (drop s bytes)) ∙ ap (λ xs. take g (drop s bytes) ++ xs) next);
      long = (let c = front_long s bytes (omega arith) in let d = front_long g (drop s bytes) (omega arith) in omega arith);
    }

-- The whole of a based number that is found.
based_parts : (bytes size gap tail : List ℕ) → SizeFound bytes size gap tail → (t : TailFound tail) → (form : Form) (n : ℕ)
    → form ≡ Based (size_of size) (has_sign t.sign) (based_value (base_of t.letter) t.digits) → n ≡ quote_at bytes + 1 + tail_start tail + tail_len tail → LexemeRead bytes form n
based_parts bytes size gap tail s t form n e f =
    let p : Parts = record { size = size; gap = gap; sign = t.sign; letter = t.letter; space = t.space; digits = t.digits } in
    let whole : bytes ≡ text_of p ++ t.rest = s.parts ∙ ap (λ xs. size ++ (gap ++ 39 ∷ xs)) t.parts ∙ simp append_assoc refl in
    let long = length_of p in
    let a = s.long in
    let b = t.start in
    let c = t.len in
    let same : n ≡ length (text_of p) = omega arith in
    let taken : take n bytes ≡ text_of p = ap (λ k. take k bytes) same ∙ ap (take (length (text_of p))) whole ∙ take-append_seam (text_of p) t.rest in
    let sum : length bytes ≡ length (text_of p) + length t.rest = ap length whole ∙ length-append (text_of p) t.rest in
    let spelled : IsSpelled (take n bytes) (Based (size_of size) (has_sign t.sign) (based_value (base_of t.letter) t.digits)) =
    (p, record { size = s.sized; sign = t.signed; letter = t.based; space = t.white; digits = t.found }, taken, refl, refl, refl) in
    record {
      some = omega arith;
      within = omega arith;
      spelled = subst (IsSpelled (take n bytes)) (sym e) spelled;
      whole = subst (λ w. IsWhole w (drop n bytes)) (sym e) tt;
    }

-- A plain number that is found: no quote follows.
no_quote : (bytes : List ℕ) (n : ℕ) → (get_or bytes (n + prefix_len is_white (drop n bytes)) 0 ≡ 39 → ⊥) → BeginsBase (drop n bytes) → ⊥
no_quote bytes n apart b =
    let run : prefix_len is_white (drop n bytes) ≡ length b.0 = ap (prefix_len is_white) b.3 ∙ run_is is_white b.0 39 b.1 b.2 refl in
    apart (sym (get_or-drop n bytes (prefix_len is_white (drop n bytes)) 0) ∙ ap (λ k. get_or (drop n bytes) k 0) run ∙ ap (λ xs. get_or xs (length b.0) 0) b.3 ∙ at_seam b.0 39 b.1)

abbrev pub held : Form → ℕ → Option (Form × ℕ)
held form n = Some (form, n)

pub held_form : (f g : Form) (m n : ℕ) → held f m ≡ held g n → g ≡ f
held_form f g m n e = let pair : ◌≡◌ {A = Form × ℕ} (f, m) (g, n) = cc in sym (ap (λ x. x.0) pair)

pub held_len : (f g : Form) (m n : ℕ) → held f m ≡ held g n → n ≡ m
held_len f g m n e = let pair : ◌≡◌ {A = Form × ℕ} (f, m) (g, n) = cc in sym (ap (λ x. x.1) pair)

plain_read : (bytes : List ℕ) (s : ℕ) → s ≡ size_len bytes → s ≤ length bytes → 0 < s → (get_or bytes (s + prefix_len is_white (drop s bytes)) 0 ≡ 39 → ⊥)
    → LexemeRead bytes (Plain (based_value 10 (take s bytes))) s
plain_read bytes s e le some apart = record {
  some = some;
  within = le;
  spelled = (subst (λ n. IsBased 10 (take n bytes)) (sym e) (based_found 10 bytes (omega arith)), refl);
  whole = no_quote bytes s apart;
}

plain_found : (bytes : List ℕ) (form : Form) (n : ℕ) → (get_or bytes (quote_at bytes) 0 ≡ 39 → ⊥) → plain_at (take (size_len bytes) bytes) ≡ held form n → LexemeRead bytes form n
plain_found bytes form n apart h =
    let s : ℕ = size_len bytes in
    let le = based_len-le 10 bytes in
    let long = front_long s bytes le in
    let plain : Form = Plain (based_value 10 (take s bytes)) in
    let k = kept (length (take s bytes) == 0) (held plain (length (take s bytes))) (form, n) h in
    let test : (length (take s bytes) == 0) ≡ false = k.0 in
    let some : 0 < s = grind (arith, nat_tests) in
    let same : n ≡ s = held_len plain form (length (take s bytes)) n k.1 ∙ long in
    subst (λ f. LexemeRead bytes f n) (sym (held_form plain form (length (take s bytes)) n k.1)) (subst (LexemeRead bytes plain) (sym same) (plain_read bytes s refl le some apart))

based_sound : (bytes size gap tail : List ℕ) (len : ℕ) (form : Form) (n : ℕ) → SizeFound bytes size gap tail → len ≡ quote_at bytes + 1 → based_at size len tail ≡ held form n
    → LexemeRead bytes form n
unfolding based_at
based_sound bytes size gap tail len form n s e h =
    let based : Form = Based (size_of size) (has_sign (take (sign_len tail) tail)) (based_value (tail_base tail) (take (tail_len tail) (drop (tail_start tail) tail))) in
    let k = kept (tail_len tail == 0) (held based (len + tail_start tail + tail_len tail)) (form, n) h in
    let test : (tail_len tail == 0) ≡ false = k.0 in
    let t = tail_found tail (grind (arith, nat_tests)) in
    let sign = t.sign_is in
    let letter = t.letter_is in
    let digits = t.digits_is in
    let same : based ≡ Based (size_of size) (has_sign t.sign) (based_value (base_of t.letter) t.digits) = rw (sign, letter, digits) refl in
    based_parts bytes size gap tail s t form n (held_form based form (len + tail_start tail + tail_len tail) n k.1 ∙ same)
    (held_len based form (len + tail_start tail + tail_len tail) n k.1 ∙ ap (λ m. m + tail_start tail + tail_len tail) e)

-- What is read is a number.
pub number_sound : (b : ℕ) (bs : List ℕ) (form : Form) (n : ℕ) → starts_number b ≡ true → number_at (b ∷ bs) ≡ held form n → LexemeRead (b ∷ bs) form n
unfolding number_at
number_sound b bs form n h e = number_by (get_or (b ∷ bs) (quote_at (b ∷ bs)) 0 == 39) refl e
  where
    number_by : (t : Bool) → (get_or (b ∷ bs) (quote_at (b ∷ bs)) 0 == 39) ≡ t
        → cond t (based_at (take (size_len (b ∷ bs)) (b ∷ bs)) (quote_at (b ∷ bs) + 1) (drop (quote_at (b ∷ bs) + 1) (b ∷ bs))) (plain_at (take (size_len (b ∷ bs)) (b ∷ bs))) ≡ held form n
        → LexemeRead (b ∷ bs) form n
    number_by true t e =
        based_sound (b ∷ bs) (take (size_len (b ∷ bs)) (b ∷ bs)) (take (prefix_len is_white (drop (size_len (b ∷ bs)) (b ∷ bs))) (drop (size_len (b ∷ bs)) (b ∷ bs))) (drop (quote_at (b ∷ bs) + 1) (b ∷ bs))
        (quote_at (b ∷ bs) + 1) form n (size_found b bs h (grind (arith, nat_tests))) refl e
    number_by false t e = plain_found (b ∷ bs) form n (λ q. grind (arith, nat_tests)) e

-- A number reaches at least as far as its size.
based_len-held : (size tail : List ℕ) (len : ℕ) (form : Form) (n : ℕ) → based_at size len tail ≡ held form n → len ≤ n
unfolding based_at
based_len-held size tail len form n h =
    let based : Form = Based (size_of size) (has_sign (take (sign_len tail) tail)) (based_value (tail_base tail) (take (tail_len tail) (drop (tail_start tail) tail))) in
    let k = kept (tail_len tail == 0) (held based (len + tail_start tail + tail_len tail)) (form, n) h in
    let same = held_len based form (len + tail_start tail + tail_len tail) n k.1 in
    omega arith

plain_len-held : (text : List ℕ) (form : Form) (n : ℕ) → plain_at text ≡ held form n → length text ≤ n
plain_len-held text form n h =
    let k = kept (length text == 0) (held (Plain (based_value 10 text)) (length text)) (form, n) h in
    let same = held_len (Plain (based_value 10 text)) form (length text) n k.1 in
    omega arith

size_held : (bytes : List ℕ) (form : Form) (n : ℕ) → number_at bytes ≡ held form n → size_len bytes ≤ n
unfolding number_at
size_held bytes form n h = size_by (get_or bytes (quote_at bytes) 0 == 39) h
  where
    size_by : (t : Bool)
        → cond t (based_at (take (size_len bytes) bytes) (quote_at bytes + 1) (drop (quote_at bytes + 1) bytes)) (plain_at (take (size_len bytes) bytes)) ≡ held form n → size_len bytes ≤ n
    size_by true e = let le = based_len-held (take (size_len bytes) bytes) (drop (quote_at bytes + 1) bytes) (quote_at bytes + 1) form n e in omega arith
    size_by false e =
        let le = plain_len-held (take (size_len bytes) bytes) form n e in
        let long = front_long (size_len bytes) bytes (based_len-le 10 bytes) in omega arith

-- Where digits begin the bytes, what is read is as long.
pub plain_reach : (text rest : List ℕ) (form : Form) (n : ℕ) → IsBased 10 text → number_at (text ++ rest) ≡ held form n → length text ≤ n
plain_reach text rest form n h e =
    let a = based_reach 10 text rest h in
    let b = size_held (text ++ rest) form n e in omega arith

-- A plain number before anything is read, where it is as long as the digits and no quote follows.
quote_follows : (rest : List ℕ) → get_or rest (prefix_len is_white rest) 0 ≡ 39 → BeginsBase rest
quote_follows rest e =
    let g : ℕ = prefix_len is_white rest in
    (take g rest, drop (g + 1) rest, front_front is_white rest g (omega arith), sym (take-append-drop g rest) ∙ ap (λ xs. take g rest ++ xs) (cell rest g 39 e (lit< tt)))

pub plain_complete : (text rest : List ℕ) → IsBased 10 text → size_len (text ++ rest) ≡ length text → (BeginsBase rest → ⊥) → number_at (text ++ rest) ≡ held (Plain (based_value 10 text)) (length text)
unfolding number_at
plain_complete text rest h e whole =
    let bytes : List ℕ = text ++ rest in
    let dropped : drop (size_len bytes) bytes ≡ rest = ap (λ n. drop n bytes) e ∙ drop-append_seam text rest in
    let taken : take (size_len bytes) bytes ≡ text = ap (λ n. take n bytes) e ∙ take-append_seam text rest in
    let run : prefix_len is_white (drop (size_len bytes) bytes) ≡ prefix_len is_white rest = ap (prefix_len is_white) dropped in
    let here : get_or bytes (quote_at bytes) 0 ≡ get_or rest (prefix_len is_white rest) 0 =
    ap (λ n. get_or bytes n 0) (let s : quote_at bytes ≡ length text + prefix_len is_white rest = omega arith in s) ∙ sym (get_or-drop (length text) bytes (prefix_len is_white rest) 0)
    ∙ ap (λ xs. get_or xs (prefix_len is_white rest) 0) (drop-append_seam text rest) in
    let apart : get_or bytes (quote_at bytes) 0 ≡ 39 → ⊥ = (λ q. whole (quote_follows rest (sym here ∙ q))) in
    let test : (get_or bytes (quote_at bytes) 0 == 39) ≡ false = grind (arith, nat_tests) in
    let some = based_some 10 text h in
    let more : (length text == 0) ≡ false = grind (arith, nat_tests) in
    rw (test, taken, more) refl

-- Where digits are found, they are a plain number.
pub size_plain : (bytes : List ℕ) → 0 < size_len bytes → IsSpelled (take (size_len bytes) bytes) (Plain (based_value 10 (take (size_len bytes) bytes)))
size_plain bytes some = (based_found 10 bytes some, refl)

pub plain_first : (text : List ℕ) → IsBased 10 text → (b : ℕ) × (bs : List ℕ) × (text ≡ b ∷ bs) × (is_digit b 10 ≡ true)
plain_first [] h = absurd h
plain_first (b ∷ bs) h = (b, bs, refl, h.0)

pub based_first : (p : Parts) → AreParts p → (b : ℕ) × (bs : List ℕ) × (text_of p ≡ b ∷ bs) × (starts_number b ≡ true)
based_first p h = first_by p.size p.gap (39 ∷ (p.sign ++ p.letter ∷ (p.space ++ p.digits))) h.size refl
  where
    first_by : (size gap more : List ℕ) → (((size ≡ []) × (gap ≡ [])) ⊎ (IsBased 10 size × IsWhite gap)) → more ≡ 39 ∷ (p.sign ++ p.letter ∷ (p.space ++ p.digits))
        → (b : ℕ) × (bs : List ℕ) × (size ++ (gap ++ more) ≡ b ∷ bs) × (starts_number b ≡ true)
    first_by [] [] more (inl none) e = (39, p.sign ++ p.letter ∷ (p.space ++ p.digits), e, refl)
    first_by [] (g ∷ gs) more (inl none) e = cc
    first_by (d ∷ ds) gap more (inl none) e = cc
    first_by [] gap more (inr some) e = absurd some.0
    first_by (d ∷ ds) gap more (inr some) e = (d, ds ++ (gap ++ more), refl, (let digit : is_digit d 10 ≡ true = some.0.0 in grind (arith, nat_tests)))

-- A plain number has no quote.
no_quote_in : (xs ys : List ℕ) → AllByRecursion (λ b. is_further 10 b ≡ true) (xs ++ 39 ∷ ys) → ⊥
no_quote_in [] ys h = let no : is_further 10 39 ≡ true = h.0 in cc
no_quote_in (x ∷ xs) ys h = no_quote_in xs ys h.1

further_all : (text : List ℕ) → IsBased 10 text → AllByRecursion (λ b. is_further 10 b ≡ true) text
further_all [] h = absurd h
further_all (b ∷ bs) h = (let digit : is_digit b 10 ≡ true = h.0 in grind (arith, nat_tests), h.1)

pub plain_apart : (text : List ℕ) (p : Parts) → IsBased 10 text → text ≡ text_of p → ⊥
plain_apart text p h e =
    let both : text ≡ (p.size ++ p.gap) ++ 39 ∷ (p.sign ++ p.letter ∷ (p.space ++ p.digits)) = e ∙ simp append_assoc refl in
    no_quote_in (p.size ++ p.gap) (p.sign ++ p.letter ∷ (p.space ++ p.digits)) (subst (AllByRecursion (λ b. is_further 10 b ≡ true)) both (further_all text h))

-- Digits at the front are part of the size.
pub plain_size : (text rest : List ℕ) → IsBased 10 text → length text ≤ size_len (text ++ rest)
plain_size text rest h = based_reach 10 text rest h
