-- One line more.
use Rattle.std.proofs.Common.{◌≡◌, ℕ, ◌<◌, length, get_or, sym}
use Rattle.std.proofs.lemmas.Grind.{get_or_default_zero}
use Rattle.vod_vcd.specs.Header.{var_line}
use Rattle.vod_vcd.specs.Scopes.{var_line_at}
use Rattle.vod_vcd.proofs.Entries.{pieces-next}
use Rattle.vod_vcd.proofs.Instances.{line-at}
use Rattle.vod_vcd.proofs.scopes.add_variables.Goals as goal

pub loop-number-preserved : goal.loop-number-preserved
loop-number-preserved c =
    let n : ℕ = get_or c.args.numbers.now c.loop-number.number-index 0 in
    let within : c.loop-number.number-index < length c.args.numbers.now = c.loop-number-test.true in
    let inside : n < length c.args.signals.now = c.requires.inside c.loop-number.number-index 0 within in
    let line : var_line n c.index-signals-number.result ≡ var_line_at c.args.signals.now n = line-at c.args.signals.now n c.index-signals-number.result inside c.index-signals-number.is in
    rw (c.in_ok-add_variable.ensures, line)
    (pieces-next (var_line_at c.args.signals.now) c.loop-number.text.items _ c.loop-number.number-index c.args.numbers.now n within
    (sym (get_or_default_zero c.args.numbers.now c.loop-number.number-index n within)) c.loop-number.invariant)
