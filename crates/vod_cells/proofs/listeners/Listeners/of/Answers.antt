use Rattle.std.proofs.Common.{arith}
use Rattle.vod_cells.proofs.Few.{few_memories}
use Rattle.vod_cells.proofs.listeners.Listeners.of.Goals as goal

pub overflow_cast-memories : goal.overflow_cast-memories
overflow_cast-memories c = let few = few_memories c.args.design.now.netlist c.memories.result.now c.memories.ensures c.keeps_rules.ensures.flat in omega arith
