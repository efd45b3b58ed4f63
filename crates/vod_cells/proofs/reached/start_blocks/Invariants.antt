use Rattle.std.proofs.Common.{◌≡◌, length, take}
use Rattle.vod_bits.specs.Value.{upper_bit}
use Rattle.vod_cells.specs.Listening.{passes_at, raised_at, starts_block}
use Rattle.vod_cells.proofs.reached.start_blocks.Given as goal

abbrev pub invariant-loop-block : goal.invariant-loop-block
invariant-loop-block l = record { size : length l.started ≡ length l.initial.started; raised : l.started ≡ raised_at (passes_at (starts_block l.fn.signal (upper_bit l.fn.old) (upper_bit l.fn.new)) l.fn.blocks) l.initial.started (take l.block-index l.listed) }
