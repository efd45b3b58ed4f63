-- The text of a directive stands for what the function says, and for nothing else.
use Rattle.std.proofs.Common.{◌≡◌, ◌⊎◌, inl, inr, ℕ, zero, suc, ◌<◌, Bool, true, false, cond, ◌==◌, List, [], ◌∷◌, ◌++◌, length, refl, sym, ◌∙◌, ap, subst, append_assoc, append-nil, arith}
use Rattle.std.proofs.lemmas.Bool.Decides.{nat_tests}
use Rattle.std.specs.Char.{is_ascii_digit}
use Rattle.std.specs.List.{AllByRecursion}
use Rattle.std.specs.Prelude.{codes, Contains, slice_index}
use Rattle.vod_token.specs.Form.{Form, IsSpelled, kind_of, is_blank, is_letter, IsBlank, time_counts, time_units, IsTime, IsTimescale, IsNettype}
use Rattle.vod_token.specs.Form.Form.{Word, Plain, Based, Directive, Symbol}
use Rattle.vod_token.specs.Span.{IsTokenText}
use Rattle.vod_token.specs.Word.{is_reserved}
use Rattle.vod_token.specs.declared.TokenKind.TheVariants as kinds
use Rattle.vod_tree.specs.declared.module.DirectiveKind.{DirectiveKind}
use Rattle.vod_tree.specs.declared.module.DirectiveKind.TheVariants.{Timescale, DefaultNettype}
use Rattle.vod_tree.specs.declared.module.NetType.{NetType}
use Rattle.vod_tree.specs.declared.module.NetType.TheVariants as net
use Rattle.vod_tree.specs.declared.module.Time.{Time}
use Rattle.vod_tree.specs.declared.module.TimeCount.{TimeCount}
use Rattle.vod_tree.specs.declared.module.TimeCount.TheVariants as count
use Rattle.vod_tree.specs.declared.module.TimeUnit.{TimeUnit}
use Rattle.vod_tree.specs.declared.module.TimeUnit.TheVariants as unit
use Rattle.vod_directive.specs.Meaning.{StandsFor, times, net_type, IsTimeText, count_text, unit_text, net_text, is_mark, from_first, count_in, unit_in, net_in, time_of, directive_of}
use Rattle.vod_directive.specs.declared.meaning.Mark.{Mark}
use Rattle.vod_directive.specs.declared.meaning.Mark.TheVariants as mark

-- Bytes without such a mark are passed over, and blanks have no digit, letter or slash.
passed : (m : Mark) (front rest : List ℕ) → AllByRecursion (λ b. is_mark m b ≡ false) front → from_first m (front ++ rest) ≡ from_first m rest
passed m [] rest h = refl
passed m (b ∷ front) rest h = ap (λ c. cond c (b ∷ (front ++ rest)) (from_first m (front ++ rest))) h.0 ∙ passed m front rest h.1

blank_digit : (b : ℕ) → is_blank b ≡ true → is_ascii_digit b ≡ false
blank_digit b h = grind (arith, nat_tests)

blank_letter : (b : ℕ) → is_blank b ≡ true → is_letter b ≡ false
blank_letter b h = grind (arith, nat_tests)

blank_slash : (b : ℕ) → is_blank b ≡ true → (b == 47) ≡ false
blank_slash b h = grind (arith, nat_tests)

blank_zero : (b : ℕ) → is_blank b ≡ true → (b == 48) ≡ false
blank_zero b h = grind (arith, nat_tests)

without : (m : Mark) → ((b : ℕ) → is_blank b ≡ true → is_mark m b ≡ false) → (gap : List ℕ) → IsBlank gap → AllByRecursion (λ b. is_mark m b ≡ false) gap
without m apart [] h = tt
without m apart (b ∷ gap) h = (apart b h.0, without m apart gap h.1)

no_digit : (gap rest : List ℕ) → IsBlank gap → from_first mark.Digit (gap ++ rest) ≡ from_first mark.Digit rest
no_digit gap rest h = passed mark.Digit gap rest (without mark.Digit blank_digit gap h)

no_letter : (gap rest : List ℕ) → IsBlank gap → from_first mark.Letter (gap ++ rest) ≡ from_first mark.Letter rest
no_letter gap rest h = passed mark.Letter gap rest (without mark.Letter blank_letter gap h)

no_slash : (gap rest : List ℕ) → IsBlank gap → from_first mark.Slash (gap ++ rest) ≡ from_first mark.Slash rest
no_slash gap rest h = passed mark.Slash gap rest (without mark.Slash blank_slash gap h)

-- Counts and units at the front.
count_digit : (c : TimeCount) (rest : List ℕ) → from_first mark.Digit (count_text c ++ rest) ≡ count_text c ++ rest
count_digit count.One rest = refl
count_digit count.Ten rest = refl
count_digit count.Hundred rest = refl

count_letter : (c : TimeCount) (rest : List ℕ) → from_first mark.Letter (count_text c ++ rest) ≡ from_first mark.Letter rest
count_letter count.One rest = refl
count_letter count.Ten rest = refl
count_letter count.Hundred rest = refl

count_slash : (c : TimeCount) (rest : List ℕ) → from_first mark.Slash (count_text c ++ rest) ≡ from_first mark.Slash rest
count_slash count.One rest = refl
count_slash count.Ten rest = refl
count_slash count.Hundred rest = refl

unit_letter : (u : TimeUnit) (rest : List ℕ) → from_first mark.Letter (unit_text u ++ rest) ≡ unit_text u ++ rest
unit_letter unit.S rest = refl
unit_letter unit.Ms rest = refl
unit_letter unit.Us rest = refl
unit_letter unit.Ns rest = refl
unit_letter unit.Ps rest = refl
unit_letter unit.Fs rest = refl

unit_slash : (u : TimeUnit) (rest : List ℕ) → from_first mark.Slash (unit_text u ++ rest) ≡ from_first mark.Slash rest
unit_slash unit.S rest = refl
unit_slash unit.Ms rest = refl
unit_slash unit.Us rest = refl
unit_slash unit.Ns rest = refl
unit_slash unit.Ps rest = refl
unit_slash unit.Fs rest = refl

unit_is : (u : TimeUnit) (rest : List ℕ) → unit_in (unit_text u ++ rest) ≡ u
unit_is unit.S rest = refl
unit_is unit.Ms rest = refl
unit_is unit.Us rest = refl
unit_is unit.Ns rest = refl
unit_is unit.Ps rest = refl
unit_is unit.Fs rest = refl

unit_zero : (u : TimeUnit) (rest : List ℕ) → (slice_index (unit_text u ++ rest) 0 == 48) ≡ false
unit_zero unit.S rest = refl
unit_zero unit.Ms rest = refl
unit_zero unit.Us rest = refl
unit_zero unit.Ns rest = refl
unit_zero unit.Ps rest = refl
unit_zero unit.Fs rest = refl

-- no `0` stands behind a count
next_zero : (gap : List ℕ) (u : TimeUnit) (rest : List ℕ) → IsBlank gap → (slice_index (gap ++ (unit_text u ++ rest)) 0 == 48) ≡ false
next_zero [] u rest h = unit_zero u rest
next_zero (b ∷ gap) u rest h = blank_zero b h.0

count_is : (c : TimeCount) (rest : List ℕ) → (slice_index rest 0 == 48) ≡ false → count_in (count_text c ++ rest) ≡ c
count_is count.One rest e = ap (λ b. cond b (cond (slice_index rest 1 == 48) count.Hundred count.Ten) count.One) e
count_is count.Ten rest e = ap (λ b. cond b count.Hundred count.Ten) e
count_is count.Hundred rest e = refl

-- A time at the front, and behind bytes without a digit.
abbrev time : TimeCount → TimeUnit → Time
time c u = record { count = c; unit = u }

time_is : (t : Time) (gap rest : List ℕ) → IsBlank gap → time_of (count_text t.count ++ (gap ++ (unit_text t.unit ++ rest))) ≡ t
time_is t gap rest h =
    let behind : List ℕ = gap ++ (unit_text t.unit ++ rest) in
    let digits : from_first mark.Digit (count_text t.count ++ behind) ≡ count_text t.count ++ behind = count_digit t.count behind in
    let letters : from_first mark.Letter (count_text t.count ++ behind) ≡ unit_text t.unit ++ rest =
    count_letter t.count behind ∙ no_letter gap (unit_text t.unit ++ rest) h ∙ unit_letter t.unit rest in
    ap (λ v. time (count_in v) (unit_in (from_first mark.Letter v))) digits
    ∙ ap (λ v. time v (unit_in (from_first mark.Letter (count_text t.count ++ behind)))) (count_is t.count behind (next_zero gap t.unit rest h))
    ∙ ap (λ v. time t.count (unit_in v)) letters
    ∙ ap (λ v. time t.count v) (unit_is t.unit rest)

regrouped : (text rest : List ℕ) (t : Time) (d : IsTimeText text t) → text ++ rest ≡ count_text t.count ++ (d.gap ++ (unit_text t.unit ++ rest))
regrouped text rest t d =
    ap (λ v. v ++ rest) d.spelled ∙ append_assoc (count_text t.count) (d.gap ++ unit_text t.unit) rest ∙ ap (λ v. count_text t.count ++ v) (append_assoc d.gap (unit_text t.unit) rest)

time_behind : (text gap rest : List ℕ) (t : Time) → IsTimeText text t → IsBlank gap → time_of (gap ++ (text ++ rest)) ≡ t
time_behind text gap rest t d h =
    ap (λ v. time (count_in v) (unit_in (from_first mark.Letter v))) (no_digit gap (text ++ rest) h)
    ∙ ap time_of (regrouped text rest t d) ∙ time_is t d.gap rest d.blank

time_slash : (text rest : List ℕ) (t : Time) → IsTimeText text t → from_first mark.Slash (text ++ rest) ≡ from_first mark.Slash rest
time_slash text rest t d =
    ap (from_first mark.Slash) (regrouped text rest t d)
    ∙ count_slash t.count (d.gap ++ (unit_text t.unit ++ rest)) ∙ no_slash d.gap (unit_text t.unit ++ rest) d.blank ∙ unit_slash t.unit rest

-- Both times of a directive, and the net type of one.
times_of : (text : List ℕ) (a b : Time) (d : IsTimescale text) → IsTimeText d.unit a → IsTimeText d.precision b → directive_of text ≡ Timescale a b
unfolding directive_of
times_of text a b d u p =
    let tail : List ℕ = d.before ++ (codes "/" ++ (d.behind ++ d.precision)) in
    let first : time_of (d.gap ++ (d.unit ++ tail)) ≡ a = time_behind d.unit d.gap tail a u d.gap_blank in
    let slash : from_first mark.Slash (d.gap ++ (d.unit ++ tail)) ≡ codes "/" ++ (d.behind ++ d.precision) =
    no_slash d.gap (d.unit ++ tail) d.gap_blank ∙ time_slash d.unit tail a u ∙ no_slash d.before (codes "/" ++ (d.behind ++ d.precision)) d.before_blank in
    let second : time_of (d.behind ++ d.precision) ≡ b = ap (λ v. time_of (d.behind ++ v)) (sym (append-nil d.precision)) ∙ time_behind d.precision d.behind [] b p d.behind_blank in
    ap directive_of d.spelled
    ∙ ap (λ v. Timescale v (time_of (from_first mark.Slash (d.gap ++ (d.unit ++ tail))))) first
    ∙ ap (λ v. Timescale a (time_of v)) slash
    ∙ ap (Timescale a) second

blank_found : (gap rest : List ℕ) → 0 < length gap → IsBlank gap → from_first mark.Blank (gap ++ rest) ≡ gap ++ rest
blank_found [] rest some h = absurd (omega arith)
blank_found (b ∷ gap) rest some h = ap (λ c. cond c (b ∷ (gap ++ rest)) (from_first mark.Blank (gap ++ rest))) h.0

net_is : (n : NetType) → net_in (from_first mark.Letter (net_text n)) ≡ n
net_is net.None = refl
net_is net.Wire = refl

net_of : (text : List ℕ) (n : NetType) (d : IsNettype text) → d.net ≡ net_text n → directive_of text ≡ DefaultNettype n
unfolding directive_of
net_of text n d e =
    ap directive_of d.spelled
    ∙ ap (λ v. DefaultNettype (net_in (from_first mark.Letter v))) (blank_found d.gap d.net d.first d.gap_blank)
    ∙ ap (λ v. DefaultNettype (net_in v)) (no_letter d.gap d.net d.gap_blank)
    ∙ ap (λ v. DefaultNettype (net_in (from_first mark.Letter v))) e
    ∙ ap DefaultNettype (net_is n)

pub one_meaning : (text : List ℕ) (k : DirectiveKind) → StandsFor text k → directive_of text ≡ k
one_meaning text _ (times {a = a} {b = b} d u p) = times_of text a b d u p
one_meaning text _ (net_type {n = n} d e) = net_of text n d e

-- Each text that is spelled as a directive stands for one.
count_named : (e : List ℕ × ℕ) → Contains time_counts e → (c : TimeCount) × (e.0 ≡ count_text c)
count_named e (zero, lt, is) = (count.Hundred, ap (λ x. x.0) (sym is))
count_named e (suc zero, lt, is) = (count.Ten, ap (λ x. x.0) (sym is))
count_named e (suc (suc zero), lt, is) = (count.One, ap (λ x. x.0) (sym is))
count_named e (suc (suc (suc k)), lt, is) = absurd (omega arith)

unit_named : (e : List ℕ × ℕ) → Contains time_units e → (u : TimeUnit) × (e.0 ≡ unit_text u)
unit_named e (zero, lt, is) = (unit.S, ap (λ x. x.0) (sym is))
unit_named e (suc zero, lt, is) = (unit.Ms, ap (λ x. x.0) (sym is))
unit_named e (suc (suc zero), lt, is) = (unit.Us, ap (λ x. x.0) (sym is))
unit_named e (suc (suc (suc zero)), lt, is) = (unit.Ns, ap (λ x. x.0) (sym is))
unit_named e (suc (suc (suc (suc zero))), lt, is) = (unit.Ps, ap (λ x. x.0) (sym is))
unit_named e (suc (suc (suc (suc (suc zero)))), lt, is) = (unit.Fs, ap (λ x. x.0) (sym is))
unit_named e (suc (suc (suc (suc (suc (suc k))))), lt, is) = absurd (omega arith)

time_named : (text : List ℕ) (n : ℕ) → IsTime text n → (t : Time) × IsTimeText text t
time_named text n d =
    let c = count_named d.count d.counted in
    let u = unit_named d.unit d.measured in (
      time c.0 u.0,
      record {
        gap = d.gap;
        blank = d.blank;
        spelled = d.spelled ∙ ap (λ v. v ++ (d.gap ++ d.unit.0)) c.1 ∙ ap (λ v. count_text c.0 ++ (d.gap ++ v)) u.1;
      },
    )

net_named : (e : List ℕ) → Contains (codes "none" ∷ codes "wire" ∷ []) e → (n : NetType) × (e ≡ net_text n)
net_named e (zero, lt, is) = (net.None, sym is)
net_named e (suc zero, lt, is) = (net.Wire, sym is)
net_named e (suc (suc k), lt, is) = absurd (omega arith)

some_meaning : (text : List ℕ) → IsTimescale text ⊎ IsNettype text → (k : DirectiveKind) × StandsFor text k
some_meaning text (inl d) =
    let a = time_named d.unit d.unit_length d.unit_time in
    let b = time_named d.precision d.precision_length d.precision_time in
    (Timescale a.0 b.0, times d a.1 b.1)
some_meaning text (inr d) = let n = net_named d.net d.known in (DefaultNettype n.0, net_type d n.1)

no_word : (b : Bool) → kinds.Directive ≡ cond b kinds.Reserved kinds.Name → ⊥
no_word true e = cc
no_word false e = cc

is_spelled : (text : List ℕ) (f : Form) → IsSpelled text f → kinds.Directive ≡ kind_of text f → IsTimescale text ⊎ IsNettype text
is_spelled text Word s e = absurd (no_word (is_reserved text) e)
is_spelled text (Plain value) s e = cc
is_spelled text (Based size signed value) s e = cc
is_spelled text Directive s e = s
is_spelled text Symbol s e = cc

pub stands_for : (text : List ℕ) → IsTokenText text kinds.Directive → StandsFor text (directive_of text)
stands_for text h =
    let k = some_meaning text (is_spelled text h.form h.spelled h.is) in
    subst (StandsFor text) (sym (one_meaning text k.0 k.1)) k.1
