-- Which drivers can read each signal and each memory, and which blocks wait for each net.
use Rattle.std.specs.Prelude.{ℕ, suc, ◌==◌, Bool, if◌then◌else◌, List, [], ◌∷◌, flat_map, Option, None, Some}
use Rattle.std.specs.List.{list_any}
use Rattle.vod_design.specs.declared.parts.Block.{Block}
use Rattle.vod_design.specs.declared.parts.Driver.{Driver}
use Rattle.vod_design.specs.declared.parts.Edge.{Edge}
use Rattle.vod_design.specs.declared.read.Read.{Read}
use Rattle.vod_design.specs.declared.read.Read.TheVariants.{Whole, Bits, Word, Ram}
use Rattle.vod_design.specs.Reads.{reads}

-- the signal or the memory of what is read
abbrev pub read_signal : Read → List ℕ
read_signal (Whole n) = n ∷ []
read_signal (Bits n low width) = n ∷ []
read_signal (Word memory place) = []
read_signal (Ram memory) = []

abbrev pub read_memory : Read → List ℕ
read_memory (Whole n) = []
read_memory (Bits n low width) = []
read_memory (Word memory place) = memory ∷ []
read_memory (Ram memory) = memory ∷ []

-- the signals and the memories that a driver can read
abbrev pub signals_of : Driver → List ℕ
signals_of a = flat_map read_signal (reads a.value)

abbrev pub memories_of : Driver → List ℕ
memories_of a = flat_map read_memory (reads a.value)

-- the nets that a block waits for
abbrev pub reset_net : Option Edge → List ℕ
reset_net None = []
reset_net (Some e) = e.signal ∷ []

abbrev pub nets_of : Block → List ℕ
nets_of b = b.clock.signal ∷ reset_net b.reset

-- whether a number is in a list
abbrev pub has : List ℕ → ℕ → Bool
has ns n = list_any (λ m. m == n) ns

-- the readers, numbered from k on, that have a source among theirs
abbrev pub readers_from : {A : Type 0} → (A → List ℕ) → ℕ → List A → ℕ → List ℕ
readers_from sources k [] n = []
readers_from sources k (x ∷ xs) n = if has (sources x) n then k ∷ readers_from sources (suc k) xs n else readers_from sources (suc k) xs n
