use Rattle.std.proofs.Common.{◌≡◌, ◌++◌, [], ◌∷◌, List, map, sym, ◌∙◌, ap, subst}
use Rattle.std.proofs.lemmas.List.{map_push}
use Rattle.std.proofs.lemmas.Result.{err_from_is_err_and}
use Rattle.std.specs.Prelude.{All}
use Rattle.vod_thin_syntax.proofs.StateLemmas.{all_push}
use Rattle.vod_thin_syntax.specs.Lies.{ItemLies}
use Rattle.vod_thin_syntax.proofs.GivesLaws.{refusal_gives}
use Rattle.vod_thin_syntax.proofs.Rounds.{many_stop, many_refused, many_more}
use Rattle.vod_thin_syntax.proofs.SteadyParts.{item_shrinks}
use Rattle.vod_thin_syntax.specs.Reader.{Got, item_read, items_read}
use Rattle.vod_thin_syntax.specs.State.{left}
use Rattle.vod_thin_syntax.specs.Syntax.{Item, Mark}
use Rattle.vod_thin_syntax.specs.View.{item_of}
use Rattle.vod_thin_syntax.specs.declared.words.Word.TheVariants as word
use Rattle.vod_thin_syntax.proofs.parts.items.Goals as goal

pub returns-in_err-item-clause-gives : goal.returns-in_err-item-clause-gives
returns-in_err-item-clause-gives c =
    let p = err_from_is_err_and c.from_residual.result c.from_residual.ensures.1 in
    let sofar : List (Item (List Mark)) = map (item_of c.args.reader.source.now c.args.reader.tokens.now) c.loop-reader.items.items in
    let at : List Mark = left c.args.reader c.loop-reader.at in
    refusal_gives (item_of c.args.reader.source.now c.args.reader.tokens.now) _ c.from_residual.result p.0 c.in_err-item.field-0.0 _ _ _ p.1 p.2 c.in_err-item.ensures.gives
    (λ us h. sym c.loop-reader.invariant.reads
    ∙ many_refused word.Endmodule item_read sofar at us (sym c.loop-reader-test.ensures.is) (ap item_read (sym c.loop-reader-test.ensures.goes) ∙ h))

pub loop-reader-smaller : goal.loop-reader-smaller
loop-reader-smaller c =
    item_shrinks (left c.args.reader c.loop-reader.at) (item_of c.args.reader.source.now c.args.reader.tokens.now c.in_ok-item.item) (left c.args.reader c.item.new.at)
    (ap item_read (sym c.loop-reader-test.ensures.goes) ∙ c.in_ok-item.ensures.gives)

pub loop-reader-preserved : goal.loop-reader-preserved
loop-reader-preserved c =
    let sofar : List (Item (List Mark)) = map (item_of c.args.reader.source.now c.args.reader.tokens.now) c.loop-reader.items.items in
    let at : List Mark = left c.args.reader c.loop-reader.at in
    let next : List Mark = left c.args.reader c.item.new.at in
    let item : Item (List Mark) = item_of c.args.reader.source.now c.args.reader.tokens.now c.in_ok-item.item in
    let read : item_read at ≡ Got item next = ap item_read (sym c.loop-reader-test.ensures.goes) ∙ c.in_ok-item.ensures.gives in
    let pushed : map (item_of c.args.reader.source.now c.args.reader.tokens.now) c.push.new.self.items ≡ sofar ++ item ∷ [] =
    ap (map (item_of c.args.reader.source.now c.args.reader.tokens.now)) c.in_ok-push.ensures.items ∙ map_push (item_of c.args.reader.source.now c.args.reader.tokens.now) _ _ in
    record {
      reads =
          ap (λ v. items_read v next) pushed
          ∙ sym (many_more word.Endmodule item_read item_shrinks sofar at item next (sym c.loop-reader-test.ensures.is) read)
          ∙ c.loop-reader.invariant.reads;
      lie = subst (All (ItemLies c.args.reader.source.now c.args.reader.tokens.now)) (sym c.in_ok-push.ensures.items) (all_push (ItemLies c.args.reader.source.now c.args.reader.tokens.now) c.loop-reader.items.items c.in_ok-item.item c.loop-reader.invariant.lie c.in_ok-item.ensures.lies);
    }

pub returns-clause-gives : goal.returns-clause-gives
returns-clause-gives c =
    let sofar : List (Item (List Mark)) = map (item_of c.args.reader.source.now c.args.reader.tokens.now) c.loop-reader.items.items in
    sym c.loop-reader.invariant.reads
    ∙ many_stop word.Endmodule item_read sofar (left c.args.reader c.loop-reader.at) (sym c.loop-reader-test.ensures.is)
    ∙ ap (Got sofar) (sym c.loop-reader-test.ensures.goes)
