-- What callers see of a file as a source, and of a standard stream as a sink.
use Rattle.std.specs.Prelude.{ℕ, Bool, List}

-- the path of the file, and how many faults were counted
pub record FileView : Type 0 where
  pub path : List ℕ
  pub faults : ℕ

-- whether it is standard error, and how many faults were counted
pub record StreamView : Type 0 where
  pub err : Bool
  pub faults : ℕ
