-- The value of an expression that calls no function.
use Rattle.std.proofs.Common.{◌≡◌, ℕ, ◌≤◌, Bool, true, cond, List, [], length, sym, ◌∙◌, ap, subst, arith}
use Rattle.vod_bits.specs.Bit.{Bit}
use Rattle.vod_design.specs.Values.{Values, Operand}
use Rattle.vod_design.specs.Run.{call_below, eval}
use Rattle.vod_design.specs.declared.statement.Function.{Function}
use Rattle.vod_design.specs.declared.sized.SizedExpr.{SizedExpr}
use Rattle.vod_eval.specs.Room.{expr_room, call_room}
use Rattle.vod_compiled.specs.declared.step.Input.{Input}
use Rattle.vod_compiled.specs.declared.step.Step.{Step}
use Rattle.vod_compiled.specs.Steps.{Cells, world, input_bits, exec}
use Rattle.vod_compiled.specs.Code.{coded, steps_of, cells_of, is_flat, room}
use Rattle.vod_compiled.proofs.Whole.{works}

ended : (fill : Bit) (values : Values) (functions : List Function) (e : SizedExpr) (cells : Cells) → is_flat e ≡ true → cells_of e ≤ length cells
    → input_bits (world fill values) (exec (world fill values) 0 (steps_of e) cells) ((coded e).input 0) ≡ eval fill functions values [] e
unfolding eval exec
ended fill values functions e cells flat fits =
    let w = world fill values in
    let k = (works w (call_below fill functions (length functions)) e).ends flat 0 [] cells (omega arith) in
    ap (λ now. input_bits w now ((coded e).input 0)) k.ran.runs ∙ ap (λ (o : Operand). o.bits) k.gives

flat_fits : (functions : List Function) (e : SizedExpr) (n : ℕ) (b : Bool) → is_flat e ≡ b → b ≡ true → room functions e ≤ n → cells_of e ≤ n
flat_fits functions e n b is yes_flat h = let P : Bool → Type 0 = λ x. cond x (cells_of e) (expr_room (call_room functions (length functions)) e) ≤ n in subst P (is ∙ yes_flat) h

pub flat_value : (fill : Bit) (values : Values) (functions : List Function) (e : SizedExpr) (cells now : Cells) (i : Input) (steps : List Step) (flat : Bool) → flat ≡ true → flat ≡ is_flat e → i ≡ (coded e).input 0 → steps ≡ steps_of e
    → room functions e ≤ length cells → now ≡ exec (world fill values) 0 steps cells → input_bits (world fill values) now i ≡ eval fill functions values [] e
flat_value fill values functions e cells now i steps flat yes_flat is p q fits r =
    let w = world fill values in
    ap (input_bits w now) p ∙ ap (λ xs. input_bits w xs ((coded e).input 0)) (r ∙ ap (λ xs. exec w 0 xs cells) q)
    ∙ ended fill values functions e cells (sym is ∙ yes_flat) (flat_fits functions e (length cells) flat (sym is) yes_flat fits)
