use Rattle.std.proofs.Common.{◌≡◌, take, Some}
use Rattle.vod_expr.specs.Grammar.{lexemes}
use Rattle.vod_expr_machine.specs.Machine.{run, start}
use Rattle.vod_expr_machine.specs.Numerals.{number_of}
use Rattle.vod_expr_machine.specs.View.{state_of}
use Rattle.vod_expr.proofs.read.take_run.Given as goal

abbrev pub invariant-loop-taken : goal.invariant-loop-taken
invariant-loop-taken l = run number_of start (take l.taken (lexemes l.source l.run)) ≡ Some (state_of l.reader)
