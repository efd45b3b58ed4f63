-- The log ends where the tail says, unless the tail is broken.
use Rattle.std.proofs.Common.{◌≡◌}
use Rattle.std.specs.Prelude.{false}
use Rattle.vod_deck.specs.InMemory.{told}
use Rattle.vod_log.specs.Tail.{IsSettled}
use Rattle.rows_device.proofs.logs.append.Given as goal

abbrev pub invariant-loop-words : goal.invariant-loop-words
invariant-loop-words l = l.tail.broken ≡ false → IsSettled (told l.deck) l.tail.gate l.tail.last
