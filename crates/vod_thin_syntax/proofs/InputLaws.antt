-- A name stands directly behind each word `input` of a sentence.
use Rattle.std.proofs.Common.{◌≡◌, ℕ, ◌+◌, ◌≤◌, ◌<◌, inl, inr, ◌⊎◌, List, [], ◌∷◌, ◌++◌, arith, length, refl, sym, ◌∙◌, ap, true, false, Bool, Option, Some, None, get_or, slice_get}
use Rattle.std.proofs.lemmas.Option.{slice_get_cases}
use Rattle.std.proofs.lemmas.Slice.Eq.{bytes_eq-Decides}
use Rattle.std.specs.List.{flat_map}
use Rattle.std.specs.Prelude.{codes}
use Rattle.std.specs.Str.{bytes_eq}
use Rattle.vod_token.specs.Nesting.{slice_of}
use Rattle.vod_token.specs.declared.Token.{Token}
use Rattle.vod_thin_syntax.proofs.SameWords.{same_word-true}
use Rattle.vod_thin_syntax.proofs.WordLaws.{word_spelled}
use Rattle.vod_thin_syntax.specs.Limit.{sooner, behind, crowded, limit_of}
use Rattle.vod_thin_syntax.specs.Names.{input_ports}
use Rattle.vod_thin_syntax.specs.Reader.{same_word}
use Rattle.vod_thin_syntax.specs.Refusal.{Reads}
use Rattle.vod_thin_syntax.specs.Syntax.{Name, Mark, Named, Fixed, Value, Port, Module, value_marks, item_marks, direction_word, port_marks, ports_marks, sentence}
use Rattle.vod_thin_syntax.specs.View.{name_of, mark_by, mark_of, marks_of}
use Rattle.vod_thin_syntax.specs.Words.{spelling, word_of}
use Rattle.vod_thin_syntax.specs.declared.syntax.Direction as d
use Rattle.vod_thin_syntax.specs.declared.syntax.Direction.TheVariants as direction
use Rattle.vod_thin_syntax.specs.declared.words.Word as w
use Rattle.vod_thin_syntax.specs.declared.words.Word.TheVariants as word

-- the word `input`
abbrev is_input_mark : Mark → Bool
is_input_mark (Named name) = false
is_input_mark (Fixed found) = same_word found word.Input

-- how many tokens stand directly behind it, where it stands before the first of them or doesn't
abbrev count_behind : Bool → List Mark → ℕ
count_behind there [] = 0
count_behind true (m ∷ ms) = count_behind (is_input_mark m) ms + 1
count_behind false (m ∷ ms) = count_behind (is_input_mark m) ms

input_token : (source : List ℕ) (t : Token) → is_input_mark (mark_of source t) ≡ true → bytes_eq (slice_of source t) (codes "input") ≡ true
input_token source t = by_word (word_of (slice_of source t)) refl
  where
    by_word : (o : Option w.Word) → word_of (slice_of source t) ≡ o → is_input_mark (mark_by (name_of source t) o) ≡ true → bytes_eq (slice_of source t) (codes "input") ≡ true
    by_word None e h = cc
    by_word (Some found) e h =
        (bytes_eq-Decides (slice_of source t) (codes "input")).1 (word_spelled (slice_of source t) found e ∙ ap spelling (same_word-true found word.Input h))

no_more : (source : List ℕ) (ts : List Token) (b c : Bool) → (b ≡ true → c ≡ true) → count_behind b (marks_of source ts) ≤ length (behind c source (codes "input") ts)
no_more source [] b c h = omega arith
no_more source (t ∷ ts) true true h =
    let rest = no_more source ts (is_input_mark (mark_of source t)) (bytes_eq (slice_of source t) (codes "input")) (input_token source t) in omega arith
no_more source (t ∷ ts) true false h = absurd (let e = h refl in cc)
no_more source (t ∷ ts) false true h =
    let rest = no_more source ts (is_input_mark (mark_of source t)) (bytes_eq (slice_of source t) (codes "input")) (input_token source t) in omega arith
no_more source (t ∷ ts) false false h =
    let rest = no_more source ts (is_input_mark (mark_of source t)) (bytes_eq (slice_of source t) (codes "input")) (input_token source t) in omega arith

-- the ports of a sentence
one_port : (way : d.Direction) (name : Name) (ports : List Port) (marks : List Mark) → length (input_ports ports) ≤ count_behind false marks →
    length (input_ports (record { direction = way; name = name } ∷ ports)) ≤ count_behind false (Fixed (direction_word way) ∷ Named name ∷ marks)
one_port direction.Input name ports marks h = omega arith
one_port direction.Output name ports marks h = h

abbrev next_marks : Port → List Mark
next_marks next = Fixed word.Comma ∷ port_marks next

more_ports : (ports : List Port) (rest : List Mark) → length (input_ports ports) ≤ count_behind false (flat_map next_marks ports ++ rest)
more_ports [] rest = omega arith
more_ports (port ∷ ports) rest = one_port port.direction port.name ports (flat_map next_marks ports ++ rest) (more_ports ports rest)

all_ports : (ports : List Port) (rest : List Mark) → length (input_ports ports) ≤ count_behind false (ports_marks ports ++ rest)
all_ports [] rest = omega arith
all_ports (port ∷ ports) rest = one_port port.direction port.name ports (flat_map next_marks ports ++ rest) (more_ports ports rest)

in_sentence : (m : Module Value) → length (input_ports m.ports) ≤ count_behind false (sentence value_marks m)
in_sentence m = all_ports m.ports (Fixed word.Close ∷ Fixed word.Semicolon ∷ (flat_map (item_marks value_marks) m.items ++ Fixed word.Endmodule ∷ []))

-- where no limit is passed
first_none : (a b : Option ℕ) → sooner a b ≡ None → a ≡ None
first_none None b h = refl
first_none (Some p) None h = cc
first_none (Some p) (Some q) h = cc

other_none : (a b : Option ℕ) → sooner a b ≡ None → b ≡ None
other_none None b h = h
other_none (Some p) None h = cc
other_none (Some p) (Some q) h = cc

no_further : (xs : List ℕ) (n : ℕ) → slice_get xs n ≡ None → length xs ≤ n
no_further xs n none = by (slice_get_cases xs n).1
  where
    by : ((x : ℕ) × (n < length xs) × (slice_get xs n ≡ Some x) × (get_or xs n x ≡ x)) ⊎ ((length xs ≤ n) × (slice_get xs n ≡ None)) → length xs ≤ n
    by (inl (x, within, there, same)) = absurd (let e = sym none ∙ there in cc)
    by (inr (past, e)) = past

pub few_inputs : (source : List ℕ) (ts : List Token) (m : Module Value) → Reads source ts m → limit_of source ts ≡ None → length (input_ports m.ports) ≤ 256
few_inputs source ts m reads none =
    let alone : crowded source (codes "input") ts ≡ None = first_none _ _ (first_none _ _ (other_none _ _ (other_none _ _ none))) in
    let few : length (behind false source (codes "input") ts) ≤ 256 = no_further (behind false source (codes "input") ts) 256 alone in
    let there : count_behind false (marks_of source ts) ≤ length (behind false source (codes "input") ts) = no_more source ts false false (λ e. e) in
    let named = in_sentence m in
    let same : count_behind false (marks_of source ts) ≡ count_behind false (sentence value_marks m) = ap (count_behind false) reads.sentence.is in
    omega arith
