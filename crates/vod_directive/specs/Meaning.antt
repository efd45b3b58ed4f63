-- What the text of a directive stands for (IEEE 1364-2005, 19.2 and 19.8).
use Rattle.std.specs.Prelude.{◌≡◌, ℕ, Bool, ◌==◌, if◌then◌else◌, List, [], ◌∷◌, ◌++◌, slice_index, codes}
use Rattle.std.specs.Char.{is_ascii_digit}
use Rattle.vod_token.specs.Form.{is_blank, is_letter, IsBlank, IsTimescale, IsNettype}
use Rattle.vod_token.specs.declared.TokenKind.TheVariants as kinds
use Rattle.vod_tree.specs.declared.module.Directive.{Directive}
use Rattle.vod_tree.specs.declared.module.DirectiveKind.{DirectiveKind}
use Rattle.vod_tree.specs.declared.module.DirectiveKind.TheVariants.{Timescale, DefaultNettype}
use Rattle.vod_tree.specs.declared.module.NetType.{NetType}
use Rattle.vod_tree.specs.declared.module.NetType.TheVariants as net
use Rattle.vod_tree.specs.declared.module.Time.{Time}
use Rattle.vod_tree.specs.declared.module.TimeCount.{TimeCount}
use Rattle.vod_tree.specs.declared.module.TimeCount.TheVariants as count
use Rattle.vod_tree.specs.declared.module.TimeUnit.{TimeUnit}
use Rattle.vod_tree.specs.declared.module.TimeUnit.TheVariants as unit
use Rattle.vod_expr.specs.Grammar.{Lexeme}
use Rattle.vod_directive.specs.declared.meaning.Mark.{Mark}
use Rattle.vod_directive.specs.declared.meaning.Mark.TheVariants as mark

-- how counts, units and net types are spelled
abbrev pub count_text : TimeCount → List ℕ
count_text count.One = codes "1"
count_text count.Ten = codes "10"
count_text count.Hundred = codes "100"

abbrev pub unit_text : TimeUnit → List ℕ
unit_text unit.S = codes "s"
unit_text unit.Ms = codes "ms"
unit_text unit.Us = codes "us"
unit_text unit.Ns = codes "ns"
unit_text unit.Ps = codes "ps"
unit_text unit.Fs = codes "fs"

abbrev pub net_text : NetType → List ℕ
net_text net.None = codes "none"
net_text net.Wire = codes "wire"

-- the text is this time: its count, blanks and its unit
pub record IsTimeText (text : List ℕ) (t : Time) : Type 0 where
  pub gap : List ℕ
  pub blank : IsBlank gap
  pub spelled : text ≡ count_text t.count ++ (gap ++ unit_text t.unit)

-- the text is a directive with these times, or with this net type
pub data StandsFor : List ℕ → DirectiveKind → Type 0 where
  times : {text : List ℕ} {a b : Time} → (d : IsTimescale text) → IsTimeText d.unit a → IsTimeText d.precision b → StandsFor text (Timescale a b)
  net_type : {text : List ℕ} {n : NetType} → (d : IsNettype text) → d.net ≡ net_text n → StandsFor text (DefaultNettype n)

-- the token is a directive with this tree: that for which its text stands, at its place
pub record IsDirective (t : Lexeme) (x : Directive) : Type 0 where
  pub kind : t.kind ≡ kinds.Directive
  pub place : x.place ≡ t.place
  pub means : StandsFor t.text x.kind

-- The same as a function. By which bytes the parts are told apart.
abbrev pub is_mark : Mark → ℕ → Bool
is_mark mark.Digit b = is_ascii_digit b
is_mark mark.Letter b = is_letter b
is_mark mark.Blank b = is_blank b
is_mark mark.Slash b = b == 47

-- the bytes from the first such mark on
abbrev pub from_first : Mark → List ℕ → List ℕ
from_first m [] = []
from_first m (b ∷ bs) = if is_mark m b then b ∷ bs else from_first m bs

-- the second byte is the `t` of `timescale
abbrev pub has_times : List ℕ → Bool
has_times text = slice_index text 1 == 116

-- a count by how many `0` stand behind its `1`; a unit and a net type by their first letter
abbrev pub count_in : List ℕ → TimeCount
count_in digits = if slice_index digits 1 == 48 then (if slice_index digits 2 == 48 then count.Hundred else count.Ten) else count.One

abbrev pub unit_by : ℕ → TimeUnit
unit_by b =
    if b == 109 then unit.Ms
    else (if b == 117 then unit.Us
    else (if b == 110 then unit.Ns
    else (if b == 112 then unit.Ps
    else (if b == 102 then unit.Fs
    else unit.S))))

abbrev pub unit_in : List ℕ → TimeUnit
unit_in letters = unit_by (slice_index letters 0)

abbrev pub net_in : List ℕ → NetType
net_in letters = if slice_index letters 0 == 119 then net.Wire else net.None

-- the time at the first digit
abbrev pub time_of : List ℕ → Time
time_of text = let digits = from_first mark.Digit text in record { count = count_in digits; unit = unit_in (from_first mark.Letter digits) }

unfoldable pub directive_of : List ℕ → DirectiveKind
directive_of text =
    if has_times text then Timescale (time_of text) (time_of (from_first mark.Slash text))
    else DefaultNettype (net_in (from_first mark.Letter (from_first mark.Blank text)))
