-- What is laid over a file that was filled up is what is laid over the file.
use Rattle.std.proofs.Common.{◌≡◌, ◌+◌, ◌<◌, length, arith, rules}
use Rattle.vod_deck.proofs.Files.{put-laid}
use Rattle.vod_deck.proofs.in_memory.replay.lay.Goals as goal

pub returns-clause-laid : goal.returns-clause-laid
returns-clause-laid c =
    let some : 0 < length c.args.piece.now = search rules in
    let end : c.in-Some.end ≡ c.args.at + length c.args.piece.now = search rules in
    put-laid c.args.at c.in-Some.end _ c.args.piece.now _ _ _ _ some end c.in_ok-fill_up.ensures.padded c.deref_mut.ensures.value c.put.ensures (omega arith)
