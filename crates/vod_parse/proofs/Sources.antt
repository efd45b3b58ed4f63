-- What the answer of a reader of sources says of the tokens.
use Rattle.std.proofs.Common.{◌≡◌, ◌≢◌, ◌≤◌, ℕ, List, length, Result, Ok, Err, refl}
use Rattle.std.specs.Prelude.{IfOk, IfErr, MatchResult}
use Rattle.vod_tree.specs.declared.«module».Tree.{Tree}
use Rattle.vod_expr.specs.Grammar.{Lexeme}
use Rattle.vod_expr.specs.declared.ParseFault.{ParseFault}
use Rattle.vod_expr.specs.declared.ParseFault.TheVariants.{At, End, Statement, Memory}
use Rattle.vod_grammar.specs.Laws.{AreLexemes}
use Rattle.vod_grammar.specs.State.{Gives}
use Rattle.vod_parse.specs.Depth.{IsTooDeep}
use Rattle.vod_parse.specs.Modules.{IsSource}
use Rattle.vod_parse.specs.ModulesForm.{source_form}
use Rattle.vod_parse.specs.OneAnswer.{not_refused, one_refusal}
use Rattle.vod_parse.specs.ReadLaws.{Known, read_is, refused_is, one_tree}
use Rattle.vod_parse.specs.Whole.{IsWhole, Refuses}

abbrev Whole : List Lexeme → Tree → Type 0
Whole ts x = IsWhole IsSource IsTooDeep ts x

abbrev Refused : List Lexeme → ParseFault → Type 0
Refused ts fault = Refuses IsSource IsTooDeep ts fault

module _ (known : Known) (size : ℕ) (ts : List Lexeme) (few : length ts ≤ size) (all : AreLexemes ts) where
  abbrev Answer : Result Tree ParseFault → List Lexeme → Type 0
  Answer r rest = Gives r rest ((source_form size).read ts)

  pub ok_is : (r : Result Tree ParseFault) (rest : List Lexeme) → Answer r rest → IfOk r (λ x. Whole ts x)
  ok_is (Ok x) rest h = read_is known size ts x rest all h
  ok_is (Err fault) rest h = tt

  fault_is : (fault : ParseFault) (rest : List Lexeme) → Answer (Err fault) rest → fault ≢ Memory → Refused ts fault
  fault_is (At place) rest h n = refused_is known size ts (At place) few all h
  fault_is End rest h n = refused_is known size ts End few all h
  fault_is (Statement place) rest h n = refused_is known size ts (Statement place) few all h
  fault_is Memory rest h n = absurd (n refl)

  pub err_is : (r : Result Tree ParseFault) (rest : List Lexeme) → Answer r rest → IfErr r (λ fault. fault ≢ Memory → Refused ts fault)
  err_is (Ok x) rest h = tt
  err_is (Err fault) rest h = fault_is fault rest h

  not_at : (place : ℕ) → At place ≢ Memory
  not_at place e = cc

  not_statement : (place : ℕ) → Statement place ≢ Memory
  not_statement place e = cc

  not_end : End ≢ Memory
  not_end e = cc

  memory_alone : (tree : Tree) → Whole ts tree → (fault : ParseFault) (rest : List Lexeme) → Answer (Err fault) rest → fault ≡ Memory
  memory_alone tree w (At place) rest h = absurd (not_refused IsSource IsTooDeep ts tree (At place) w (fault_is (At place) rest h (not_at place)))
  memory_alone tree w End rest h = absurd (not_refused IsSource IsTooDeep ts tree End w (fault_is End rest h not_end))
  memory_alone tree w (Statement place) rest h = absurd (not_refused IsSource IsTooDeep ts tree (Statement place) w (fault_is (Statement place) rest h (not_statement place)))
  memory_alone tree w Memory rest h = refl

  pub accepts_is : (r : Result Tree ParseFault) (rest : List Lexeme) → Answer r rest → (tree : Tree) → Whole ts tree → MatchResult r (λ read. read ≡ tree) (λ fault. fault ≡ Memory)
  accepts_is (Ok x) rest h tree w = one_tree known size ts x tree few (read_is known size ts x rest all h) w
  accepts_is (Err fault) rest h tree w = memory_alone tree w fault rest h

  pub refuses_is : (r : Result Tree ParseFault) (rest : List Lexeme) → Answer r rest → (fault : ParseFault) → Refused ts fault → MatchResult r (λ read. ⊥) (λ other. other ≢ Memory → other ≡ fault)
  refuses_is (Ok x) rest h fault w = not_refused IsSource IsTooDeep ts x fault (read_is known size ts x rest all h) w
  refuses_is (Err other) rest h fault w = λ n. one_refusal IsSource IsTooDeep ts other fault (fault_is other rest h n) w
