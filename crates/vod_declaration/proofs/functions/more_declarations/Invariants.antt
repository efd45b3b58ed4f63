use Rattle.std.proofs.Common.{◌≡◌, ◌-◌}
use Rattle.vod_grammar.specs.Read.{repeat, repeat_within}
use Rattle.vod_grammar.specs.State.{left}
use Rattle.vod_declaration.specs.FunctionsForm.{function_declaration, starts_function_declaration}
use Rattle.vod_declaration.proofs.functions.more_declarations.Given as goal

-- the declarations so far, and those of the rounds that are left, are those that are read
abbrev pub invariant-loop : goal.invariant-loop
invariant-loop l =
    repeat_within (l.end - l.counter) starts_function_declaration function_declaration.read l.declarations (left l.reader l.at)
    ≡ repeat starts_function_declaration function_declaration.read l.fn.declarations (left l.reader l.fn.at)
