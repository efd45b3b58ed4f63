-- What the reader has read.
use Rattle.std.specs.Prelude.{◌≡◌, ℕ, ◌≤◌, List, [], ◌∷◌, length, take, drop, Option, Some, None, Result, Ok, Err}
use Rattle.vod_token.specs.declared.Token.{Token}
use Rattle.vod_tree.specs.declared.expr.Expr.{Expr}
use Rattle.vod_tree.specs.declared.ident.Number.{Number}
use Rattle.vod_expr.specs.Grammar.{Lexeme}
use Rattle.vod_expr_machine.specs.Machine.{Machine, step, run, start, ended}
use Rattle.vod_expr_machine.specs.Numerals.{number_of}
use Rattle.vod_expr_machine.specs.View.{frames_of}
use Rattle.vod_expr.specs.declared.ParseFault.{ParseFault}
use Rattle.vod_expr.specs.declared.ParseFault.TheVariants.{At, End}
use Rattle.vod_expr_machine.specs.declared.machine.Reader.{Reader}

-- no token goes on, as there is none or it is refused
abbrev pub Stops : (Lexeme → Number) → Machine → List Lexeme → Type 0
Stops value s [] = Unit {0}
Stops value s (t ∷ ts) = step value s t ≡ None

-- these many tokens were taken and no more, and the reader's tree is that of the state behind them
pub record Reads (ts : List Lexeme) (taken : ℕ) (reader : Reader) : Type 0 where
  pub within : taken ≤ length ts
  pub state : Machine
  pub runs : run number_of start (take taken ts) ≡ Some state
  pub stops : Stops number_of state (drop taken ts)
  pub tree : ended reader.head (frames_of reader) ≡ ended state.head state.frames

-- the fault at the first of these tokens, or at the end
abbrev pub fault_from : List Token → ParseFault
fault_from [] = End
fault_from (t ∷ ts) = At t.start

-- the tree with the place behind it, or the fault there
abbrev pub answered : Option Expr → ℕ → List Token → Result (Expr × ℕ) ParseFault
answered None end rest = Err (fault_from rest)
answered (Some tree) end rest = Ok (tree, end)
