-- What an expression can read of signals and memory words.
use Rattle.std.specs.Prelude.{◌≡◌, ℕ, List, [], ◌∷◌, ◌++◌, flat_map}
use Rattle.vod_bits.specs.Bit.{Bit}
use Rattle.vod_design.specs.declared.read.Read.{Read}
use Rattle.vod_design.specs.declared.read.Read.TheVariants.{Whole, Bits, Word, Ram}
use Rattle.vod_design.specs.declared.sized.Variable.TheVariants.{Signal, Local}
use Rattle.vod_design.specs.declared.sized.Named.{Named}
use Rattle.vod_design.specs.declared.sized.Named.TheVariants as named
use Rattle.vod_design.specs.declared.sized.SizedExpr.{SizedExpr}
use Rattle.vod_design.specs.declared.sized.SizedKind.TheOpen.{SizedKind-F}
use Rattle.vod_design.specs.declared.sized.SizedKind.TheFolds.{fold-SizedExpr}
use Rattle.vod_design.specs.Values.{Values, bounded, select_bits}

-- the whole value of what a name stands for, and bits of it
abbrev pub whole : Named → List Read
whole (named.Variable (Signal n)) = Whole n ∷ []
whole (named.Variable (Local n)) = []
whole (named.Constant bits) = []

abbrev pub bits : Named → ℕ → ℕ → List Read
bits (named.Variable (Signal n)) low width = Bits n low width ∷ []
bits (named.Variable (Local n)) low width = []
bits (named.Constant _) low width = []

-- what each kind of expression reads, with what its operands read in their places. An index that isn't constant reads all
abbrev pub kind_reads : SizedKind-F (List Read) (List Read) → List Read
kind_reads (SizedKind-F.Number _) = []
kind_reads (SizedKind-F.Name name) = whole name
kind_reads (SizedKind-F.Select name low width) = bits name low width
kind_reads (SizedKind-F.Index name least index) = whole name ++ index
kind_reads (SizedKind-F.Word memory place) = Word memory.number place ∷ []
kind_reads (SizedKind-F.WordIndex memory least index) = Ram memory.number ∷ index
kind_reads (SizedKind-F.Unary op a) = a
kind_reads (SizedKind-F.Binary op a b) = a ++ b
kind_reads (SizedKind-F.Comparison op a b) = a ++ b
kind_reads (SizedKind-F.LogicalNot a) = a
kind_reads (SizedKind-F.Logical op a b) = a ++ b
kind_reads (SizedKind-F.Reduction op a) = a
kind_reads (SizedKind-F.Shift op a amount) = a ++ amount
kind_reads (SizedKind-F.Conditional test a b) = test ++ a ++ b
kind_reads (SizedKind-F.Concat parts) = flat_map (λ part. part) parts
kind_reads (SizedKind-F.Replicate count a) = a
kind_reads (SizedKind-F.Call n arguments) = flat_map (λ argument. argument) arguments
kind_reads (SizedKind-F.Gate op inputs) = flat_map (λ input. input) inputs

unfoldable pub reads : SizedExpr → List Read
reads e = fold-SizedExpr (List Read) (List Read) kind_reads (λ e. e.kind) e

-- two environments give one value to what is read
abbrev pub Agree : Bit → Values → Values → Read → Type 0
Agree fill u v (Whole n) = u.signal n ≡ v.signal n
Agree fill u v (Bits n low width) = select_bits fill low (bounded width) (u.signal n) ≡ select_bits fill low (bounded width) (v.signal n)
Agree fill u v (Word memory place) = u.word memory place ≡ v.word memory place
Agree fill u v (Ram memory) = (place : ℕ) → u.word memory place ≡ v.word memory place
