use Rattle.vod_slot.proofs.Writes.{put_all-woken}
use Rattle.vod_slot.proofs.laws.changes_wake_readers.Goals as goal

pub returns : goal.returns
returns c = put_all-woken c.value_hangs_on_reads.ensures
