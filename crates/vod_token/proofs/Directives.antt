-- Directives: what is read at the front is one, and one at the front is read.
use Rattle.std.proofs.Common.{◌≡◌, ℕ, zero, suc, ◌*◌, ◌<◌, ◌≤◌, ◌⊎◌, inl, inr, List, [], ◌∷◌, ◌++◌, arith, length, take, drop, refl, sym, ◌∙◌, ap, cond, true, false, ◌==◌, Bool, Option, Some, None, subst, append_assoc, lit<}
use Rattle.std.proofs.Math.Seq.{take-append_seam, drop-append_seam}
use Rattle.std.proofs.lemmas.Bool.Decides.{nat_tests}
use Rattle.std.proofs.lemmas.Grind.{common_steps}
use Rattle.std.proofs.lemmas.List.{take-append-drop}
use Rattle.std.proofs.lemmas.List.Sums.{prefix_len-le-length}
use Rattle.std.specs.Cmp.Lexicographic.{same_text, nat_list_eq_equiv}
use Rattle.std.specs.List.{prefix_len}
use Rattle.std.specs.Option.{option_and_then, option_or}
use Rattle.std.specs.Prelude.{codes, Contains, nat_le}
use Rattle.vod_text.proofs.Forms.{front_front}
use Rattle.vod_token.proofs.Lists.{run_is, mapped, chained, kept, tested, contains_here, contains_more}
use Rattle.vod_token.specs.Form.{is_blank, IsBlank, time_counts, time_units, IsTime, IsTimescale, IsNettype}
use Rattle.vod_token.specs.Scan.{begins, behind, choice, after_blanks, behind_blanks, time_at, times_at, net_at, timescale_at, nettype_at, directive_at}

-- What begins with a word is the word and what stands behind it.
begins_is : (word bytes : List ℕ) → begins word bytes ≡ true → bytes ≡ word ++ drop (length word) bytes
begins_is word bytes e =
    let front : take (length word) bytes ≡ word = same_text (take (length word) bytes) word (sym e) in
    sym (take-append-drop (length word) bytes) ∙ ap (λ w. w ++ drop (length word) bytes) front

is_begun : (word rest : List ℕ) → begins word (word ++ rest) ≡ true
is_begun word rest = rw take-append_seam (nat_list_eq_equiv.refl word)

behind_is : (word bytes rest : List ℕ) → behind word bytes ≡ Some rest → bytes ≡ word ++ rest
behind_is word bytes rest h =
    let t = tested (begins word bytes) (drop (length word) bytes) rest h in
    begins_is word bytes t.0 ∙ ap (λ r. word ++ r) t.1

is_behind : (word rest : List ℕ) → behind word (word ++ rest) ≡ Some rest
is_behind word rest = rw (is_begun word rest) (ap Some (drop-append_seam word rest))

-- A choice is an entry of the table and what stands behind its word.
record Chosen (table : List (List ℕ × ℕ)) (bytes : List ℕ) (n : ℕ) (rest : List ℕ) : Type 0 where
  entry : List ℕ × ℕ
  listed : Contains table entry
  number : n ≡ entry.1
  parts : bytes ≡ entry.0 ++ rest

choice_is : (table : List (List ℕ × ℕ)) (bytes : List ℕ) (found : ℕ × List ℕ) → choice table bytes ≡ Some found → Chosen table bytes found.0 found.1
choice_is [] bytes found h = cc
choice_is (e ∷ es) bytes found h = choice_by (begins e.0 bytes) refl h (choice_is es bytes found)
  where
    choice_by : (b : Bool) → begins e.0 bytes ≡ b → cond b (Some (e.1, drop (length e.0) bytes)) (choice es bytes) ≡ Some found
        → (choice es bytes ≡ Some found → Chosen es bytes found.0 found.1) → Chosen (e ∷ es) bytes found.0 found.1
    choice_by true f h more =
        let same : (e.1, drop (length e.0) bytes) ≡ found = cc in
        record {
          entry = e;
          listed = contains_here e es;
          number = sym (ap (λ x. x.0) same);
          parts = begins_is e.0 bytes f ∙ ap (λ x. e.0 ++ x.1) same;
        }
    choice_by false f h more =
        let later = more h in
        record { entry = later.entry; listed = contains_more e es later.entry later.listed; number = later.number; parts = later.parts }

-- What stands behind blanks.
blanks_are : (bytes : List ℕ) → (gap : List ℕ) × IsBlank gap × (bytes ≡ gap ++ after_blanks bytes) × (length gap ≡ prefix_len is_blank bytes)
blanks_are bytes =
    let n : ℕ = prefix_len is_blank bytes in
    let le = prefix_len-le-length is_blank bytes in
    (take n bytes, front_front is_blank bytes n (omega arith), sym (take-append-drop n bytes), grind (arith, common_steps))

-- A time that is read.
record TimeRead (bytes : List ℕ) (n : ℕ) (rest : List ℕ) : Type 0 where
  text : List ℕ
  parts : bytes ≡ text ++ rest
  time : IsTime text n

time_of : (bytes rest : List ℕ) (n : ℕ) (count : ℕ × List ℕ) (unit : ℕ × List ℕ) → choice time_counts bytes ≡ Some count → choice time_units (after_blanks count.1) ≡ Some unit
    → n ≡ count.0 * unit.0 → rest ≡ unit.1 → TimeRead bytes n rest
time_of bytes rest n count unit c u e f =
    let first = choice_is time_counts bytes count c in
    let second = choice_is time_units (after_blanks count.1) unit u in
    let blanks = blanks_are count.1 in
    record {
      text = first.entry.0 ++ (blanks.0 ++ second.entry.0);
      parts = first.parts ∙ ap (λ xs. first.entry.0 ++ xs) (blanks.2 ∙ ap (λ xs. blanks.0 ++ xs) (second.parts ∙ ap (λ xs. second.entry.0 ++ xs) (sym f))) ∙ simp append_assoc refl;
      time = record {
        count = first.entry;
        gap = blanks.0;
        unit = second.entry;
        counted = first.listed;
        blank = blanks.1;
        measured = second.listed;
        spelled = refl;
        is = e ∙ ap (λ k. k * unit.0) first.number ∙ ap (λ k. first.entry.1 * k) second.number;
      };
    }

time_sound : (bytes : List ℕ) (found : ℕ × List ℕ) → time_at bytes ≡ Some found → TimeRead bytes found.0 found.1
unfolding time_at
time_sound bytes found h =
    let count = chained (λ (count : ℕ × List ℕ). option_and_then (λ (unit : ℕ × List ℕ). Some (count.0 * unit.0, unit.1)) (choice time_units (after_blanks count.1))) (choice time_counts bytes) found h in
    let unit = chained (λ (unit : ℕ × List ℕ). Some (count.0.0 * unit.0, unit.1)) (choice time_units (after_blanks count.0.1)) found count.2 in
    let same : (count.0.0 * unit.0.0, unit.0.1) ≡ found = (let e = unit.2 in cc) in
    time_of bytes found.1 found.0 count.0 unit.0 count.1 unit.1 (sym (ap (λ x. x.0) same)) (sym (ap (λ x. x.1) same))

-- Two times that are read.
record TimesRead (bytes rest : List ℕ) : Type 0 where
  unit : List ℕ
  unit_length : ℕ
  before : List ℕ
  behind : List ℕ
  precision : List ℕ
  precision_length : ℕ
  unit_time : IsTime unit unit_length
  before_blank : IsBlank before
  behind_blank : IsBlank behind
  precision_time : IsTime precision precision_length
  order : precision_length ≤ unit_length
  parts : bytes ≡ (unit ++ (before ++ 47 ∷ (behind ++ precision))) ++ rest

slash : codes "/" ≡ 47 ∷ []
slash = refl

times_of : (bytes rest middle : List ℕ) (unit precision : ℕ × List ℕ) → TimeRead bytes unit.0 unit.1 → after_blanks unit.1 ≡ 47 ∷ middle
    → TimeRead (after_blanks middle) precision.0 precision.1 → precision.0 ≤ unit.0 → precision.1 ≡ rest → TimesRead bytes rest
times_of bytes rest middle unit precision u s p le e =
    let before = blanks_are unit.1 in
    let behind = blanks_are middle in
    record {
      unit = u.text;
      unit_length = unit.0;
      before = before.0;
      behind = behind.0;
      precision = p.text;
      precision_length = precision.0;
      unit_time = u.time;
      before_blank = before.1;
      behind_blank = behind.1;
      precision_time = p.time;
      order = le;
      parts = u.parts ∙ ap (λ xs. u.text ++ xs) (before.2 ∙ ap (λ xs. before.0 ++ xs) (s ∙ ap (λ xs. 47 ∷ xs) (behind.2 ∙ ap (λ xs. behind.0 ++ xs) (p.parts ∙ ap (λ xs. p.text ++ xs) e)))) ∙ simp append_assoc refl;
    }

times_sound : (bytes rest : List ℕ) → times_at bytes ≡ Some rest → TimesRead bytes rest
unfolding times_at
times_sound bytes rest h =
    let unit = chained (λ (unit : ℕ × List ℕ). option_and_then (λ rest. option_and_then (λ (precision : ℕ × List ℕ). cond (nat_le precision.0 unit.0) (Some precision.1) None)
    (time_at (after_blanks rest))) (behind (codes "/") (after_blanks unit.1))) (time_at bytes) rest h in
    let middle = chained (λ rest. option_and_then (λ (precision : ℕ × List ℕ). cond (nat_le precision.0 unit.0.0) (Some precision.1) None) (time_at (after_blanks rest)))
    (behind (codes "/") (after_blanks unit.0.1)) rest unit.2 in
    let precision = chained (λ (precision : ℕ × List ℕ). cond (nat_le precision.0 unit.0.0) (Some precision.1) None) (time_at (after_blanks middle.0)) rest middle.2 in
    let last = tested (nat_le precision.0.0 unit.0.0) precision.0.1 rest precision.2 in
    times_of bytes rest middle.0 unit.0 precision.0 (time_sound bytes unit.0 unit.1) (behind_is (codes "/") (after_blanks unit.0.1) middle.0 middle.1)
    (time_sound (after_blanks middle.0) precision.0 precision.1) (let test : nat_le precision.0.0 unit.0.0 ≡ true = last.0 in grind (arith, nat_tests)) last.1

-- Blanks of which there is one at least.
record BlanksRead (bytes rest : List ℕ) : Type 0 where
  gap : List ℕ
  first : 0 < length gap
  blank : IsBlank gap
  parts : bytes ≡ gap ++ rest

blanks_sound : (bytes rest : List ℕ) → behind_blanks bytes ≡ Some rest → BlanksRead bytes rest
blanks_sound bytes rest h =
    let t = kept (prefix_len is_blank bytes == 0) (Some (after_blanks bytes)) rest h in
    let blanks = blanks_are bytes in
    let same : after_blanks bytes ≡ rest = (let e = t.1 in cc) in
    let some : (prefix_len is_blank bytes == 0) ≡ false = t.0 in
    let long : length blanks.0 ≡ prefix_len is_blank bytes = blanks.3 in
    record { gap = blanks.0; first = grind (arith, nat_tests); blank = blanks.1; parts = blanks.2 ∙ ap (λ xs. blanks.0 ++ xs) same }

-- A directive that is read.
pub record DirectiveRead (bytes rest : List ℕ) : Type 0 where
  pub text : List ℕ
  pub parts : bytes ≡ text ++ rest
  pub directive : IsTimescale text ⊎ IsNettype text

timescale_sound : (bytes rest : List ℕ) → timescale_at bytes ≡ Some rest → DirectiveRead bytes rest
unfolding timescale_at
timescale_sound bytes rest h =
    let word = chained (λ rest. option_and_then times_at (behind_blanks rest)) (behind (codes "`timescale") bytes) rest h in
    let gap = chained times_at (behind_blanks word.0) rest word.2 in
    let blanks = blanks_sound word.0 gap.0 gap.1 in
    let times = times_sound gap.0 rest gap.2 in
    record {
      text = codes "`timescale" ++ (blanks.gap ++ (times.unit ++ (times.before ++ 47 ∷ (times.behind ++ times.precision))));
      parts = behind_is (codes "`timescale") bytes word.0 word.1 ∙ ap (λ xs. codes "`timescale" ++ xs) (blanks.parts ∙ ap (λ xs. blanks.gap ++ xs) times.parts) ∙ simp append_assoc refl;
      directive = inl (record {
        gap = blanks.gap;
        unit = times.unit;
        unit_length = times.unit_length;
        before = times.before;
        behind = times.behind;
        precision = times.precision;
        precision_length = times.precision_length;
        first = blanks.first;
        gap_blank = blanks.blank;
        unit_time = times.unit_time;
        before_blank = times.before_blank;
        behind_blank = times.behind_blank;
        precision_time = times.precision_time;
        order = times.order;
        spelled = refl;
      });
    }

nets : List (List ℕ × ℕ)
nets = (codes "none", 0) ∷ (codes "wire", 0) ∷ []

net_known : (e : List ℕ × ℕ) → Contains ((codes "none", 0) ∷ (codes "wire", 0) ∷ []) e → Contains (codes "none" ∷ codes "wire" ∷ []) e.0
net_known e (zero, lt, is) = (0, lit< tt, ap (λ x. x.0) is)
net_known e (suc zero, lt, is) = (1, lit< tt, ap (λ x. x.0) is)
net_known e (suc (suc k), lt, is) = absurd (omega arith)

nettype_sound : (bytes rest : List ℕ) → nettype_at bytes ≡ Some rest → DirectiveRead bytes rest
unfolding nettype_at net_at
nettype_sound bytes rest h =
    let word = chained (λ rest. option_and_then net_at (behind_blanks rest)) (behind (codes "`default_nettype") bytes) rest h in
    let gap = chained net_at (behind_blanks word.0) rest word.2 in
    let blanks = blanks_sound word.0 gap.0 gap.1 in
    let net = mapped (λ (x : ℕ × List ℕ). x.1) (choice ((codes "none", 0) ∷ (codes "wire", 0) ∷ []) gap.0) rest gap.2 in
    let chosen = choice_is ((codes "none", 0) ∷ (codes "wire", 0) ∷ []) gap.0 net.0 net.1 in
    record {
      text = codes "`default_nettype" ++ (blanks.gap ++ chosen.entry.0);
      parts = behind_is (codes "`default_nettype") bytes word.0 word.1 ∙ ap (λ xs. codes "`default_nettype" ++ xs) (blanks.parts ∙ ap (λ xs. blanks.gap ++ xs) (chosen.parts ∙ ap (λ xs. chosen.entry.0 ++ xs) net.2)) ∙ simp append_assoc refl;
      directive = inr (record {
        gap = blanks.gap;
        net = chosen.entry.0;
        first = blanks.first;
        gap_blank = blanks.blank;
        known = net_known chosen.entry chosen.listed;
        spelled = refl;
      });
    }

directive_by : (bytes rest : List ℕ) (o p : Option (List ℕ)) → option_or o p ≡ Some rest → (o ≡ Some rest) ⊎ (p ≡ Some rest)
directive_by bytes rest None p h = inr h
directive_by bytes rest (Some x) p h = inl h

-- What is read is a directive.
pub directive_sound : (bytes rest : List ℕ) → directive_at bytes ≡ Some rest → DirectiveRead bytes rest
unfolding directive_at
directive_sound bytes rest h =
    elim (directive_by bytes rest (timescale_at bytes) (nettype_at bytes) h) [ inl t ↦ timescale_sound bytes rest t | inr n ↦ nettype_sound bytes rest n ]

-- Blanks before another byte are passed over.
blanks_passed : (gap : List ℕ) (b : ℕ) (rest : List ℕ) → IsBlank gap → is_blank b ≡ false → after_blanks (gap ++ b ∷ rest) ≡ b ∷ rest
blanks_passed gap b rest h e = rw (run_is is_blank gap b rest h e) (drop-append_seam gap (b ∷ rest))

blanks_wanted : (gap : List ℕ) (b : ℕ) (rest : List ℕ) → 0 < length gap → IsBlank gap → is_blank b ≡ false → behind_blanks (gap ++ b ∷ rest) ≡ Some (b ∷ rest)
blanks_wanted gap b rest some h e =
    let none : (prefix_len is_blank (gap ++ b ∷ rest) == 0) ≡ false = rw (run_is is_blank gap b rest h e) (grind (arith, nat_tests)) in
    rw none (ap Some (blanks_passed gap b rest h e))

-- A byte that is no blank and no zero begins each unit; a 1 begins each count.
record UnitHead (unit : List ℕ × ℕ) : Type 0 where
  head : ℕ
  tail : List ℕ
  parts : unit.0 ≡ head ∷ tail
  dark : is_blank head ≡ false
  apart : head == 48 ≡ false
  chosen : (rest : List ℕ) → choice time_units (unit.0 ++ rest) ≡ Some (unit.1, rest)

unit_at : (text : List ℕ) (n head : ℕ) (tail : List ℕ) → text ≡ head ∷ tail → is_blank head ≡ false → head == 48 ≡ false
    → ((rest : List ℕ) → choice time_units (text ++ rest) ≡ Some (n, rest)) → (unit : List ℕ × ℕ) → (text, n) ≡ unit → UnitHead unit
unit_at text n head tail e dark apart chosen unit same =
    subst UnitHead same (record { head = head; tail = tail; parts = e; dark = dark; apart = apart; chosen = chosen })

unit_head : (unit : List ℕ × ℕ) → Contains time_units unit → UnitHead unit
unit_head unit (zero, lt, is) = unit_at (codes "s") 1000000000000000 115 [] refl refl refl (λ rest. refl) unit is
unit_head unit (suc zero, lt, is) = unit_at (codes "ms") 1000000000000 109 (115 ∷ []) refl refl refl (λ rest. refl) unit is
unit_head unit (suc (suc zero), lt, is) = unit_at (codes "us") 1000000000 117 (115 ∷ []) refl refl refl (λ rest. refl) unit is
unit_head unit (suc (suc (suc zero)), lt, is) = unit_at (codes "ns") 1000000 110 (115 ∷ []) refl refl refl (λ rest. refl) unit is
unit_head unit (suc (suc (suc (suc zero))), lt, is) = unit_at (codes "ps") 1000 112 (115 ∷ []) refl refl refl (λ rest. refl) unit is
unit_head unit (suc (suc (suc (suc (suc zero)))), lt, is) = unit_at (codes "fs") 1 102 (115 ∷ []) refl refl refl (λ rest. refl) unit is
unit_head unit (suc (suc (suc (suc (suc (suc k))))), lt, is) = absurd (omega arith)

record CountHead (count : List ℕ × ℕ) : Type 0 where
  tail : List ℕ
  parts : count.0 ≡ 49 ∷ tail
  chosen : (b : ℕ) (rest : List ℕ) → b == 48 ≡ false → choice time_counts (count.0 ++ b ∷ rest) ≡ Some (count.1, b ∷ rest)

count_at : (text : List ℕ) (n : ℕ) (tail : List ℕ) → text ≡ 49 ∷ tail
    → ((b : ℕ) (rest : List ℕ) → b == 48 ≡ false → choice time_counts (text ++ b ∷ rest) ≡ Some (n, b ∷ rest)) → (count : List ℕ × ℕ) → (text, n) ≡ count → CountHead count
count_at text n tail e chosen count same = subst CountHead same (record { tail = tail; parts = e; chosen = chosen })

count_head : (count : List ℕ × ℕ) → Contains time_counts count → CountHead count
count_head count (zero, lt, is) = count_at (codes "100") 100 (48 ∷ 48 ∷ []) refl (λ b rest e. refl) count is
count_head count (suc zero, lt, is) = count_at (codes "10") 10 (48 ∷ []) refl (λ b rest e. rw e refl) count is
count_head count (suc (suc zero), lt, is) = count_at (codes "1") 1 [] refl (λ b rest e. rw e refl) count is
count_head count (suc (suc (suc k)), lt, is) = absurd (omega arith)

blank_apart : (b : ℕ) → is_blank b ≡ true → b == 48 ≡ false
blank_apart b h = grind (arith, nat_tests)

-- A time before anything is read.
time_by : (count unit : List ℕ × ℕ) (gap rest : List ℕ) → Contains time_counts count → Contains time_units unit → IsBlank gap
    → time_at (count.0 ++ (gap ++ (unit.0 ++ rest))) ≡ Some (count.1 * unit.1, rest)
unfolding time_at
time_by count unit gap rest c u blank =
    let first = count_head count c in
    let second = unit_head unit u in
    let passed : after_blanks (gap ++ (unit.0 ++ rest)) ≡ unit.0 ++ rest = rw second.parts (blanks_passed gap second.head (second.tail ++ rest) blank second.dark) in
    rw (time_count count first gap unit second rest blank) (rw passed (rw (second.chosen rest) refl))
  where
    time_count : (count : List ℕ × ℕ) → CountHead count → (gap : List ℕ) (unit : List ℕ × ℕ) → UnitHead unit → (rest : List ℕ) → IsBlank gap
        → choice time_counts (count.0 ++ (gap ++ (unit.0 ++ rest))) ≡ Some (count.1, gap ++ (unit.0 ++ rest))
    time_count count first [] unit second rest blank = rw second.parts (first.chosen second.head (second.tail ++ rest) second.apart)
    time_count count first (g ∷ gs) unit second rest blank = first.chosen g (gs ++ (unit.0 ++ rest)) (blank_apart g blank.0)

time_complete : (text : List ℕ) (n : ℕ) (rest : List ℕ) → IsTime text n → time_at (text ++ rest) ≡ Some (n, rest)
time_complete text n rest t =
    let regrouped : text ++ rest ≡ t.count.0 ++ (t.gap ++ (t.unit.0 ++ rest)) = rw t.spelled (simp append_assoc refl) in
    rw regrouped (time_by t.count t.unit t.gap rest t.counted t.measured t.blank ∙ ap (λ k. Some (k, rest)) (sym t.is))

-- A time begins with a 1.
time_head : (text : List ℕ) (n : ℕ) → IsTime text n → (tail : List ℕ) × (text ≡ 49 ∷ tail)
time_head text n t = let first = count_head t.count t.counted in (first.tail ++ (t.gap ++ t.unit.0), t.spelled ∙ ap (λ xs. xs ++ (t.gap ++ t.unit.0)) first.parts)

times_complete : (unit precision before behind rest : List ℕ) (m n : ℕ) → IsTime unit m → IsTime precision n → IsBlank before → IsBlank behind → n ≤ m
    → times_at (unit ++ (before ++ 47 ∷ (behind ++ (precision ++ rest)))) ≡ Some rest
unfolding times_at
times_complete unit precision before behind rest m n u p b c le =
    let head = time_head precision n p in
    let second : after_blanks (behind ++ (precision ++ rest)) ≡ precision ++ rest = rw head.1 (blanks_passed behind 49 (head.0 ++ rest) c refl) in
    let test : nat_le n m ≡ true = grind (arith, nat_tests) in
    rw (time_complete unit m (before ++ 47 ∷ (behind ++ (precision ++ rest))) u, blanks_passed before 47 (behind ++ (precision ++ rest)) b refl)
    (rw (second, time_complete precision n rest p, test) refl)

timescale_complete : (text rest : List ℕ) → IsTimescale text → timescale_at (text ++ rest) ≡ Some rest
unfolding timescale_at
timescale_complete text rest t =
    let head = time_head t.unit t.unit_length t.unit_time in
    let times : List ℕ = t.unit ++ (t.before ++ 47 ∷ (t.behind ++ (t.precision ++ rest))) in
    let regrouped : text ++ rest ≡ codes "`timescale" ++ (t.gap ++ times) = rw t.spelled (simp append_assoc refl) in
    let gap : behind_blanks (t.gap ++ times) ≡ Some times =
    rw head.1 (blanks_wanted t.gap 49 (head.0 ++ (t.before ++ 47 ∷ (t.behind ++ (t.precision ++ rest)))) t.first t.gap_blank refl) in
    rw regrouped (rw gap
    (times_complete t.unit t.precision t.before t.behind rest t.unit_length t.precision_length t.unit_time t.precision_time t.before_blank t.behind_blank t.order))

-- A net type at the front; its first byte is no blank.
NetRead : List ℕ → Type 0
NetRead net = (head : ℕ) × (tail : List ℕ) × (net ≡ head ∷ tail) × (is_blank head ≡ false) × ((rest : List ℕ) → net_at (net ++ rest) ≡ Some rest)

net_head : (net : List ℕ) → Contains (codes "none" ∷ codes "wire" ∷ []) net → NetRead net
unfolding net_at NetRead
net_head net (zero, lt, is) = subst NetRead is (110, codes "one", refl, refl, λ rest. refl)
net_head net (suc zero, lt, is) = subst NetRead is (119, codes "ire", refl, refl, λ rest. refl)
net_head net (suc (suc k), lt, is) = absurd (omega arith)

nettype_by : (gap net rest : List ℕ) → 0 < length gap → IsBlank gap → NetRead net → nettype_at (codes "`default_nettype" ++ (gap ++ (net ++ rest))) ≡ Some rest
unfolding nettype_at NetRead
nettype_by gap net rest some blank n =
    let wanted : behind_blanks (gap ++ (net ++ rest)) ≡ Some (net ++ rest) = rw n.2 (blanks_wanted gap n.0 (n.1 ++ rest) some blank n.3) in
    rw wanted (n.4 rest)

no_timescale : (rest : List ℕ) → timescale_at (codes "`default_nettype" ++ rest) ≡ None
unfolding timescale_at
no_timescale rest = refl

-- A directive before anything is read.
pub directive_complete : (text rest : List ℕ) → IsTimescale text ⊎ IsNettype text → directive_at (text ++ rest) ≡ Some rest
unfolding directive_at
directive_complete text rest (inl t) = rw (timescale_complete text rest t) refl
directive_complete text rest (inr n) =
    let regrouped : text ++ rest ≡ codes "`default_nettype" ++ (n.gap ++ (n.net ++ rest)) = rw n.spelled (simp append_assoc refl) in
    rw (regrouped, no_timescale (n.gap ++ (n.net ++ rest))) (nettype_by n.gap n.net rest n.first n.gap_blank (net_head n.net n.known))

-- A directive begins with a backtick.
pub directive_head : (text : List ℕ) → IsTimescale text ⊎ IsNettype text → (tail : List ℕ) × (text ≡ 96 ∷ tail)
directive_head text (inl t) = (codes "timescale" ++ (t.gap ++ (t.unit ++ (t.before ++ 47 ∷ (t.behind ++ t.precision)))), t.spelled)
directive_head text (inr n) = (codes "default_nettype" ++ (n.gap ++ n.net), n.spelled)
