-- The bits of all signals in one row, and which of them a driver writes and reads.
use Rattle.std.specs.Prelude.{ℕ, zero, suc, ◌+◌, ◌*◌, ◌-◌, min, Bool, false, ◌&&◌, ◌||◌, ◌==◌, List, [], ◌∷◌, ◌++◌, map, nat_lt, slice_index_or, if◌then◌else◌}
use Rattle.std.specs.List.{list_any}
use Rattle.vod_bits.specs.declared.TheConstants.{WIDTH}
use Rattle.vod_design.specs.declared.parts.Driver.{Driver}
use Rattle.vod_design.specs.declared.statement.Place.{Place}
use Rattle.vod_design.specs.declared.read.Read.{Read}
use Rattle.vod_design.specs.declared.read.Read.TheVariants.{Whole, Bits, Word, Ram}
use Rattle.vod_design.specs.Reads.{reads}
use Rattle.vod_design.specs.Values.{bounded}
use Rattle.vod_fanout.specs.declared.Feed.{Feed}
use Rattle.vod_level.specs.declared.TheConstants.{SIGNALS}
use Rattle.vod_level.specs.declared.edges.Span.{Span}
use Rattle.vod_level.specs.Lists.{has, feed}

-- a bit's number
abbrev pub number_of : Place → ℕ
number_of b = b.signal * WIDTH + b.bit

-- the bits that drivers write, the first of which has this number
abbrev pub written_from : ℕ → List Driver → List Feed
written_from k [] = []
written_from k (d ∷ ds) = map (λ b. feed (number_of b) k) d.target ++ written_from (suc k) ds

-- bits of a signal from one place up to another, none of a signal that there can't be
abbrev pub span_of : ℕ → ℕ → ℕ → Span
span_of signal low high = if nat_lt signal SIGNALS then record { first = signal * WIDTH + min low WIDTH; end = signal * WIDTH + min high WIDTH } else record { first = 0; end = 0 }

-- the bits that are read
abbrev pub read_span : Read → Span
read_span (Whole n) = span_of n 0 WIDTH
read_span (Bits n low width) = span_of n low (low + bounded width)
read_span (Word memory place) = record { first = 0; end = 0 }
read_span (Ram memory) = record { first = 0; end = 0 }

-- whether a driver is among the writers of n bits from one on
abbrev pub writes_among : List (List ℕ) → ℕ → ℕ → ℕ → Bool
writes_among writers b zero p = false
writes_among writers b (suc n) p = has (slice_index_or writers b []) p || writes_among writers (suc b) n p

-- whether it writes what is read
abbrev pub writes_read : List (List ℕ) → ℕ → Read → Bool
writes_read writers p r = writes_among writers (read_span r).first ((read_span r).end - (read_span r).first) p

-- whether it feeds a driver of a list, the first of which has this number
abbrev pub feeds_from : List (List ℕ) → ℕ → List Driver → ℕ → ℕ → Bool
feeds_from writers k [] p q = false
feeds_from writers k (d ∷ ds) p q = (list_any (writes_read writers p) (reads d.value) && (k == q)) || feeds_from writers (suc k) ds p q
