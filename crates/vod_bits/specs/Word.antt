-- The machine word that holds a value's bits, named here and by `Word` alone.
use Rattle.std.specs.Prelude.{ℕ}
use Rattle.std.specs.Int.{Width, w64}
use mir.Val.{bits}

-- how wide a `Word` is
abbrev pub word_width : Width
word_width = w64

-- how many bits a `Word` has
abbrev pub word_bits : ℕ
word_bits = bits word_width
