-- Writes that are made to cells are those of the event queue.
use Rattle.std.proofs.Common.{◌≡◌, ◌||◌, Bool, true, false, List, [], ◌∷◌, length, replicate, refl, ap, ◌∙◌}
use Rattle.vod_design.specs.declared.parts.Block.{Block}
use Rattle.vod_design.specs.declared.statement.Statement.{Statement}
use Rattle.vod_design.specs.Netlist.{Netlist}
use Rattle.vod_slot.specs.State.{State, start_of}
use Rattle.vod_slot.specs.Step.{put, put_all, raised, starts, begun, triggered}
use Rattle.vod_slot.specs.Store.{Write}
use Rattle.vod_cells.specs.Stored.{Stored, put_in, put_all_in, todo_of, state_with, stored_first}

-- an edge that comes to a block, by whether one came before
begun_again : (edge flag : Bool) (b : Block) (statements : List Statement) → begun edge b (begun flag b statements) ≡ begun (flag || edge) b statements
begun_again edge flag b (s ∷ statements) = refl
begun_again edge true b [] = refl
begun_again edge false b [] = refl

triggered_todo : (edge : Block → Bool) (blocks : List Block) (flags : List Bool) (bodies : List (List Statement)) → triggered edge blocks (todo_of flags blocks bodies) ≡ todo_of (raised edge blocks flags) blocks bodies
triggered_todo edge [] [] bodies = refl
triggered_todo edge [] (flag ∷ flags) bodies = refl
triggered_todo edge (b ∷ blocks) [] bodies = refl
triggered_todo edge (b ∷ blocks) (flag ∷ flags) [] = refl
triggered_todo edge (b ∷ blocks) (flag ∷ flags) (statements ∷ bodies) =
    let here = begun_again (edge b) flag b statements in
    let more = triggered_todo edge blocks flags bodies in
    rw (here, more) refl

put_event : (d : Netlist) (w : Write) (s : Stored) (bodies : List (List Statement)) (st : State) → put d w (state_with d s bodies st) ≡ state_with d (put_in d w s) bodies st
put_event d w s bodies st =
    ap (λ todo. record st { store = (put_in d w s).store; wake = (put_in d w s).wake; todo = todo }) (triggered_todo (starts s.store w) d.blocks s.started bodies)

pub put_events : (d : Netlist) (writes : List Write) (s : Stored) (bodies : List (List Statement)) (st : State) → put_all d writes (state_with d s bodies st) ≡ state_with d (put_all_in d writes s) bodies st
put_events d [] s bodies st = refl
put_events d (w ∷ writes) s bodies st = ap (put_all d writes) (put_event d w s bodies st) ∙ put_events d writes (put_in d w s) bodies st

none_begun : (blocks : List Block) → todo_of (replicate (length blocks) false) blocks (replicate (length blocks) []) ≡ replicate (length blocks) []
none_begun [] = refl
none_begun (b ∷ blocks) = ap (λ todo. [] ∷ todo) (none_begun blocks)

pub start_events : (d : Netlist) → state_with d (stored_first d) (start_of d).todo (start_of d) ≡ start_of d
start_events d = ap (λ todo. record (start_of d) { todo = todo }) (none_begun d.blocks)
