use Rattle.std.proofs.Common.{◌≡◌, drop}
use Rattle.vod_readers.specs.Collected.{marks_after, feeds_after}
use Rattle.vod_readers.proofs.collected.Collected.add_all.Given as goal

abbrev pub invariant-loop-source : goal.invariant-loop-source
invariant-loop-source l = (marks_after l.reader l.self.marks.items (drop l.source-index l.sources) ≡ marks_after l.reader l.fn.self.marks.items l.fn.sources)
    × (feeds_after l.reader l.self.marks.items l.self.feeds.items (drop l.source-index l.sources) ≡ feeds_after l.reader l.fn.self.marks.items l.fn.self.feeds.items l.fn.sources)
