use Rattle.std.proofs.Common.{◌≡◌, ℕ, false, suc, ◌+◌, ◌-◌, List, [], ◌∷◌, ◌++◌, length, sym, ◌∙◌, ap, arith}
use Rattle.std.proofs.lemmas.Result.{err_from_is_err_and}
use Rattle.vod_tree.specs.declared.declaration.DeclaredPort.{DeclaredPort}
use Rattle.vod_expr.specs.Grammar.{Lexeme}
use Rattle.vod_grammar.specs.Form.{behind}
use Rattle.vod_grammar.specs.Read.{Reading, repeat_by, repeat_by_within}
use Rattle.vod_grammar.specs.State.{left}
use Rattle.vod_grammar.specs.Words.{is_word}
use Rattle.vod_grammar.specs.declared.word.Word.TheVariants.{Comma}
use Rattle.vod_declaration.proofs.Rounds.{round_by, round_fails, handed_on}
use Rattle.vod_declaration.specs.PortListLaws.{ends_behind}
use Rattle.vod_declaration.specs.PortsForm.{ends_in_reg, is_reg, more_ports, port_form}
use Rattle.vod_declaration.proofs.headers.more_ports.Goals as goal

-- the ports that are read in so many rounds
abbrev within : ℕ → List DeclaredPort → Reading (List DeclaredPort)
within n sofar = repeat_by_within n (is_word Comma) (λ before. (behind Comma (port_form (ends_in_reg false before))).read) sofar

pub loop-init : goal.loop-init
unfolding repeat_by
loop-init c =
    let e : c.remaining-end.result - 0 ≡ length (left c.args.reader c.args.at.now) = omega (arith, c.remaining-end.ensures) in
    let one : c.push.new.self ≡ c.args.first ∷ [] = c.in_ok-push.ensures.ok ∙ ap (λ v. v ++ c.args.first ∷ []) c.new-ports.ensures in
    (c.is_reg-reg.ensures ∙ sym (ap (ends_in_reg false) one), ap (λ k. within k c.push.new.self (left c.args.reader c.args.at.now)) e ∙ ap (λ v. within (length (left c.args.reader c.args.at.now)) v (left c.args.reader c.args.at.now)) one)

pub loop-preserved : goal.loop-preserved
loop-preserved c =
    let ts : List Lexeme = left c.args.reader c.loop.at in
    let n : ℕ = c.remaining-end.result - (c.loop.counter + 1) in
    let e : c.remaining-end.result - c.loop.counter ≡ suc n = omega (arith, c.loop-test.true) in
    let own = ap (λ v. (port_form v).read (left c.args.reader c.takes.new.at)) (sym c.loop.invariant.0) ∙ c.in_ok-port.ensures in (
      c.is_reg-reg-in-loop.ensures ∙ ap (λ v. is_reg v c.in_ok-port.port) c.loop.invariant.0 ∙ sym (ends_behind false c.loop.ports c.in_ok-port.port) ∙ sym (ap (ends_in_reg false) c.in_ok-push-2.ensures.ok),
      ap (λ v. within n v (left c.args.reader c.port.new.at)) c.in_ok-push-2.ensures.ok
          ∙ sym (round_by Comma (λ before. (port_form (ends_in_reg false before)).read) n c.loop.ports ts c.in_ok-port.port (left c.args.reader c.port.new.at) c.in-Some.ensures.0
          (ap (port_form (ends_in_reg false c.loop.ports)).read (sym c.in-Some.ensures.2) ∙ own))
          ∙ ap (λ k. within k c.loop.ports ts) (sym e)
          ∙ c.loop.invariant.1,
    )

pub returns-in_err-port : goal.returns-in_err-port
returns-in_err-port c =
    let ts : List Lexeme = left c.args.reader c.loop.at in
    let n : ℕ = c.remaining-end.result - (c.loop.counter + 1) in
    let e : c.remaining-end.result - c.loop.counter ≡ suc n = omega (arith, c.loop-test.true) in
    let p = err_from_is_err_and c.from_residual-in_err-port.result c.from_residual-in_err-port.ensures.1 in
    handed_on c.from_residual-in_err-port.result p.0 c.in_err-port.field-0.0 (left c.args.reader c.port.new.at) (left c.args.reader c.port.new.at)
    ((port_form c.loop.reg).read (left c.args.reader c.takes.new.at)) ((more_ports (c.args.first ∷ [])).read (left c.args.reader c.args.at.now)) p.1 p.2 c.in_err-port.ensures
    (λ fault h.
    sym c.loop.invariant.1
    ∙ ap (λ k. within k c.loop.ports ts) e
    ∙ round_fails Comma (λ before. (port_form (ends_in_reg false before)).read) n c.loop.ports ts fault c.in-Some.ensures.0
    (ap (port_form (ends_in_reg false c.loop.ports)).read (sym c.in-Some.ensures.2) ∙ ap (λ v. (port_form v).read (left c.args.reader c.takes.new.at)) (sym c.loop.invariant.0) ∙ h))
