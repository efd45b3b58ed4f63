-- How far the calls of a deck were made again.
use Rattle.std.specs.Prelude.{◌≡◌, ℕ, List, length}
use Rattle.vod_deck.specs.InMemory.{Disk, Event, picked, run}
use Rattle.vod_deck.specs.declared.in_memory.replay.Replay.{Replay}

-- the file that a pick leaves of a disk, the file as a read gives it, and how many writes were made since the last sync
pub record IsReplay (pick : ℕ) (d : Disk) (replay : Replay) : Type 0 where
  pub file : replay.file.items ≡ picked pick d.writes d.file
  pub reads : replay.reads.items ≡ d.reads
  pub writes : replay.writes ≡ length d.writes

-- these events were made again
abbrev pub Again : ℕ → Replay → Replay → List Event → Type 0
Again pick old new events = (d : Disk) → IsReplay pick d old → IsReplay pick (run d events) new
