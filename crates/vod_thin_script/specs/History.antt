-- The vectors of a run so far.
use Rattle.std.specs.Prelude.{◌≡◌, ℕ, List, [], length, Option}
use Rattle.vod_thin_design.specs.declared.thin.Bit.{Bit}
use Rattle.vod_thin_design.specs.declared.thin.Vector.{Vector}
use Rattle.vod_thin_design.specs.Netlist.{Netlist}
use Rattle.vod_thin_design.specs.Vectors.{IsLawful, known_since, last_time}
use Rattle.vod_thin_script.specs.Held.{AreValues, given}

-- a design, and vectors of it
pub record Past : Type 0 where
  pub design : Netlist
  pub vectors : List Vector

-- vectors that are lawful, the values that they leave the inputs, since when all inputs are known, and the last time
pub record IsHistory (d : Netlist) (vs : List Vector) (values : List Bit) (since : Option ℕ) (latest : ℕ) : Type 0 where
  pub lawful : IsLawful d vs
  pub size : length values ≡ length d.inputs
  pub held : AreValues (given [] vs) values
  pub known : since ≡ known_since d vs
  pub last : latest ≡ last_time vs
