-- What was copied to the buffer, followed by what is left now, is what was left.
use Rattle.std.proofs.Common.{◌≡◌, ◌+◌, ◌-◌, length, take, drop, Some, ap, arith}
use Rattle.std.proofs.lemmas.List.{length-take}
use Rattle.std.proofs.lemmas.Grind.{common_steps}
use Rattle.vod_io.proofs.Left.{read-front}
use Rattle.vod_io.proofs.in_memory.MemSourceSource.read.Goals as goal

pub returns-clause-taken : goal.returns-clause-taken
returns-clause-taken c =
    let width : c.self.inside.at + c.min-count.result - c.self.inside.at ≡ c.min-count.result = omega arith in
    let copied : c.copy_from_slice.new.self ≡ take c.min-count.result (drop c.self.inside.at c.self.inside.bytes.items) =
    grind (arith, common_steps, c.copy_from_slice.ensures.after, c.deref-2.ensures.value, width) in
    let long : length c.copy_from_slice.new.self ≡ c.min-count.result =
    grind (arith, common_steps, length-take, c.copy_from_slice.ensures.len, c.min-count.ensures) in
    rw (← c.self.view_is) (ap (λ v. Some v) (read-front _ _ _ _ _ copied long))
