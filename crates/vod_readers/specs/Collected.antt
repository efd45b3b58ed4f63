-- How feeds are collected, each once: a mark for each source tells its last reader.
use Rattle.std.specs.Prelude.{ℕ, suc, ◌+◌, ◌==◌, nat_lt, Bool, not, ◌&&◌, if◌then◌else◌, List, [], ◌∷◌, ◌++◌, length, slice_set, slice_index_or}
use Rattle.vod_fanout.specs.declared.Feed.{Feed}

abbrev pub feed : ℕ → ℕ → Feed
feed source reader = record { source = source; reader = reader }

-- whether a source of a reader is new: there is such a source, and its mark isn't this reader's
abbrev pub is_new : ℕ → List ℕ → ℕ → Bool
is_new k marks s = nat_lt s (length marks) && not (slice_index_or marks s 0 == k + 1)

-- the marks and the feeds after one source of a reader, and after several
abbrev pub marked : ℕ → List ℕ → ℕ → List ℕ
marked k marks s = if is_new k marks s then slice_set marks s (k + 1) else marks

abbrev pub fed : ℕ → List ℕ → List Feed → ℕ → List Feed
fed k marks feeds s = if is_new k marks s then feeds ++ feed s k ∷ [] else feeds

abbrev pub marks_after : ℕ → List ℕ → List ℕ → List ℕ
marks_after k marks [] = marks
marks_after k marks (s ∷ ss) = marks_after k (marked k marks s) ss

abbrev pub feeds_after : ℕ → List ℕ → List Feed → List ℕ → List Feed
feeds_after k marks feeds [] = feeds
feeds_after k marks feeds (s ∷ ss) = feeds_after k (marked k marks s) (fed k marks feeds s) ss

-- the same after several readers, numbered from k on
abbrev pub marks_all : {A : Type 0} → (A → List ℕ) → ℕ → List ℕ → List A → List ℕ
marks_all sources k marks [] = marks
marks_all sources k marks (x ∷ xs) = marks_all sources (suc k) (marks_after k marks (sources x)) xs

abbrev pub feeds_all : {A : Type 0} → (A → List ℕ) → ℕ → List ℕ → List Feed → List A → List Feed
feeds_all sources k marks feeds [] = feeds
feeds_all sources k marks feeds (x ∷ xs) = feeds_all sources (suc k) (marks_after k marks (sources x)) (feeds_after k marks feeds (sources x)) xs
