-- What the design and the script ask for, and its answer.
use Rattle.std.specs.Prelude.{◌≡◌, ℕ, ◌≤◌, ◌^◌, List, ◌++◌, Option, length}
use Rattle.vod_io.specs.Told.{appended, Puts}
use Rattle.vod_thin_design.specs.declared.thin.Vector.{Vector}
use Rattle.vod_thin_design.specs.Netlist.{Netlist}
use Rattle.vod_thin_queue.specs.State.{State}
use Rattle.vod_thin_queue.specs.Run.{IsRun}
use Rattle.vod_thin_vcd.specs.Dump.{full_dump, cut, dump_text}
use Rattle.vod_thin_window.specs.Moments.{moments}

-- a source, its design, and its vectors
pub record Request : Type 0 where
  pub source : List ℕ
  pub design : Netlist
  pub vectors : List Vector

-- the same with further vectors
abbrev pub behind : Request → List Vector → Request
behind r more = record r { vectors = r.vectors ++ more }

-- the text of the full dump of a run
abbrev pub dump_of : Request → State → List State → List ℕ
dump_of r first ends = dump_text r.source r.design (full_dump first.val (moments r.vectors ends))

-- the same, cut to a window
abbrev pub window_of : Request → ℕ → ℕ → State → List State → List ℕ
window_of r from to first ends = dump_text r.source r.design (cut (full_dump first.val (moments r.vectors ends)) from to)

-- a legal run exists, and the sink took exactly this text of every legal run
pub record IsWritten (r : Request) (text : State → List State → List ℕ) (before after : Option (List ℕ)) : Type 0 where
  pub first : State
  pub ends : List State
  pub run : IsRun r.design r.vectors first ends
  pub every : (start : State) (states : List State) → IsRun r.design r.vectors start states → after ≡ appended before (text start states)

-- the sink took a prefix of this text of every legal run
pub record IsBegun (r : Request) (text : State → List State → List ℕ) (before after : Option (List ℕ)) : Type 0 where
  pub every : (start : State) (states : List State) → IsRun r.design r.vectors start states → (rest : List ℕ) × Puts before after (text start states) rest
