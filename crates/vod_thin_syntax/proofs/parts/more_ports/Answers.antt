use Rattle.std.proofs.Common.{◌≡◌, ◌++◌, [], ◌∷◌, List, map, sym, ◌∙◌, ap, subst}
use Rattle.std.proofs.lemmas.List.{map_push}
use Rattle.std.proofs.lemmas.Result.{err_from_is_err_and}
use Rattle.std.specs.Prelude.{All}
use Rattle.vod_thin_syntax.proofs.StateLemmas.{all_push}
use Rattle.vod_thin_syntax.specs.Lies.{PortLies}
use Rattle.vod_thin_syntax.proofs.GivesLaws.{refusal_gives}
use Rattle.vod_thin_syntax.proofs.Rounds.{many_stop, many_refused, many_more}
use Rattle.vod_thin_syntax.proofs.SteadyParts.{next_port_shrinks}
use Rattle.vod_thin_syntax.specs.Reader.{Got, next_port_read, more_ports}
use Rattle.vod_thin_syntax.specs.State.{left}
use Rattle.vod_thin_syntax.specs.Syntax.{Port, Mark}
use Rattle.vod_thin_syntax.specs.View.{port_of}
use Rattle.vod_thin_syntax.specs.declared.words.Word.TheVariants as word
use Rattle.vod_thin_syntax.proofs.parts.more_ports.Goals as goal

pub returns-in_err-port-clause-gives : goal.returns-in_err-port-clause-gives
returns-in_err-port-clause-gives c =
    let p = err_from_is_err_and c.from_residual.result c.from_residual.ensures.1 in
    let sofar : List Port = map (port_of c.args.reader.source.now) c.loop-reader.ports.items in
    let at : List Mark = left c.args.reader c.loop-reader.at in
    refusal_gives (port_of c.args.reader.source.now) _ c.from_residual.result p.0 c.in_err-port.field-0.0 _ _ _ p.1 p.2 c.in_err-port.ensures.gives
    (λ us h. sym c.loop-reader.invariant.reads
    ∙ many_refused word.Close next_port_read sofar at us (sym c.loop-reader-test.ensures.is) (ap next_port_read (sym c.loop-reader-test.ensures.goes) ∙ h))

pub loop-reader-preserved : goal.loop-reader-preserved
loop-reader-preserved c =
    let sofar : List Port = map (port_of c.args.reader.source.now) c.loop-reader.ports.items in
    let at : List Mark = left c.args.reader c.loop-reader.at in
    let next : List Mark = left c.args.reader c.next_port.new.at in
    let read : next_port_read at ≡ Got (port_of c.args.reader.source.now c.in_ok-port.port) next = ap next_port_read (sym c.loop-reader-test.ensures.goes) ∙ c.in_ok-port.ensures.gives in
    let pushed : map (port_of c.args.reader.source.now) c.push.new.self.items ≡ sofar ++ port_of c.args.reader.source.now c.in_ok-port.port ∷ [] =
    ap (map (port_of c.args.reader.source.now)) c.in_ok-push.ensures.items ∙ map_push (port_of c.args.reader.source.now) _ _ in
    record {
      reads =
          ap (λ v. more_ports v next) pushed
          ∙ sym (many_more word.Close next_port_read next_port_shrinks sofar at (port_of c.args.reader.source.now c.in_ok-port.port) next (sym c.loop-reader-test.ensures.is) read)
          ∙ c.loop-reader.invariant.reads;
      lie = subst (All (PortLies c.args.reader.source.now)) (sym c.in_ok-push.ensures.items) (all_push (PortLies c.args.reader.source.now) c.loop-reader.ports.items c.in_ok-port.port c.loop-reader.invariant.lie c.in_ok-port.ensures.lies);
    }

pub returns-clause-gives : goal.returns-clause-gives
returns-clause-gives c =
    let sofar : List Port = map (port_of c.args.reader.source.now) c.loop-reader.ports.items in
    sym c.loop-reader.invariant.reads
    ∙ many_stop word.Close next_port_read sofar (left c.args.reader c.loop-reader.at) (sym c.loop-reader-test.ensures.is)
    ∙ ap (Got sofar) (sym c.loop-reader-test.ensures.goes)
