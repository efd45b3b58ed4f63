use Rattle.std.proofs.Common.{◌≡◌, [], map, length}
use Rattle.std.specs.Prelude.{All}
use Rattle.vod_thin_syntax.specs.Lies.{ItemLies}
use Rattle.vod_thin_syntax.specs.Reader.{items_read}
use Rattle.vod_thin_syntax.specs.State.{left}
use Rattle.vod_thin_syntax.specs.View.{item_of}
use Rattle.vod_thin_syntax.proofs.parts.items.Given as goal

-- the items so far and those of the tokens left are those that are read
abbrev pub invariant-loop-reader : goal.invariant-loop-reader
invariant-loop-reader l = record {
  reads : items_read (map (item_of l.reader.source.now l.reader.tokens.now) l.items.items) (left l.reader l.at) ≡ items_read [] (left l.reader l.fn.at);
  lie : All (ItemLies l.reader.source.now l.reader.tokens.now) l.items.items;
}

abbrev pub decreases-loop-reader : goal.decreases-loop-reader
decreases-loop-reader l = length (left l.reader l.at)
