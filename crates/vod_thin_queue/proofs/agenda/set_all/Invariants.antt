use Rattle.std.proofs.Common.{◌≡◌, length, take}
use Rattle.vod_thin_queue.specs.Flags.{set_all}
use Rattle.vod_thin_queue.proofs.agenda.set_all.Given as goal

abbrev pub invariant-loop-place : goal.invariant-loop-place
invariant-loop-place l = record { same : length l.flags ≡ length l.initial.flags; set : l.flags ≡ set_all l.initial.flags (take l.place-index l.places) }
