-- The limits of this product, as numbers.
use Rattle.std.specs.Prelude.{ℕ}
use Rattle.vod_design.specs.declared.refusal.Which.{Which}
use Rattle.vod_design.specs.declared.refusal.Which.TheVariants as which

-- the greatest number that is within a limit
abbrev pub most : Which → ℕ
most which.Source = 1048576
most which.Name = 1024
most which.Literal = 64
most which.Nesting = 64
most which.Statement = 64
most which.Calls = 16
most which.Modules = 256
most which.Instances = 4096
most which.Signals = 16384
most which.Inputs = 1024
most which.Tokens = 16777216
most which.Width = 64
most which.Words = 65536
most which.Line = 65536
most which.Vectors = 4294967295
most which.Input = 1099511627776
