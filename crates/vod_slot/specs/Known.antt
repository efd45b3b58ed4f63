-- Where a design's constants are known, and where all that is stored is.
use Rattle.std.specs.Prelude.{◌≡◌, ◌⊎◌, ◌<◌, ◌≤◌, ℕ, true, List, [], ◌∷◌, ◌++◌, length, map, replicate, flat_map, All, Some, slice_get}
use Rattle.vod_bits.specs.Bit.{Bit, BX, BZ, is_known}
use Rattle.vod_bits.specs.Value.{all_known}
use Rattle.vod_design.specs.declared.parts.InitialAssign.{InitialAssign}
use Rattle.vod_design.specs.declared.sized.Named.{Named}
use Rattle.vod_design.specs.declared.sized.Named.TheVariants as named
use Rattle.vod_design.specs.declared.sized.SizedExpr.{SizedExpr}
use Rattle.vod_design.specs.declared.sized.SizedKind.TheOpen.{SizedKind-F}
use Rattle.vod_design.specs.declared.sized.SizedKind.TheFolds.{fold-SizedExpr}
use Rattle.vod_design.specs.declared.parts.Input.{Input}
use Rattle.vod_design.specs.declared.vector.Class.TheVariants.{Data}
use Rattle.vod_design.specs.declared.parts.Ram.{Ram}
use Rattle.vod_design.specs.Netlist.{Netlist, signal_width, word_count, IsRegister}
use Rattle.vod_design.specs.Uses.{Use, Whole, Bits, BitAt, Word, WordAt, Called, Inputs, uses, exprs}
use Rattle.vod_design.specs.Values.{value_at}
use Rattle.vod_slot.specs.Store.{Store, bit_at, word_at}
use Rattle.vod_slot.specs.Shape.{sizes, widths}

-- a value none of whose bits is x or z (4.1)
abbrev pub AreKnown : List Bit → Type 0
AreKnown bits = all_known bits ≡ true

-- the constants of an expression: its numbers, and the values of the parameters that it names
abbrev pub name_constants : Named → List (List Bit)
name_constants (named.Variable x) = []
name_constants (named.Constant bits) = bits ∷ []

abbrev pub kind_constants : SizedKind-F (List (List Bit)) (List (List Bit)) → List (List Bit)
kind_constants (SizedKind-F.Number bits) = bits ∷ []
kind_constants (SizedKind-F.Name name) = name_constants name
kind_constants (SizedKind-F.Select name low width) = name_constants name
kind_constants (SizedKind-F.Index name least index) = name_constants name ++ index
kind_constants (SizedKind-F.Word memory place) = []
kind_constants (SizedKind-F.WordIndex memory least index) = index
kind_constants (SizedKind-F.Unary op a) = a
kind_constants (SizedKind-F.Binary op a b) = a ++ b
kind_constants (SizedKind-F.Comparison op a b) = a ++ b
kind_constants (SizedKind-F.LogicalNot a) = a
kind_constants (SizedKind-F.Logical op a b) = a ++ b
kind_constants (SizedKind-F.Reduction op a) = a
kind_constants (SizedKind-F.Shift op a amount) = a ++ amount
kind_constants (SizedKind-F.Conditional test a b) = test ++ a ++ b
kind_constants (SizedKind-F.Concat parts) = flat_map (λ part. part) parts
kind_constants (SizedKind-F.Replicate count a) = a
kind_constants (SizedKind-F.Call n arguments) = flat_map (λ argument. argument) arguments
kind_constants (SizedKind-F.Gate op inputs) = flat_map (λ input. input) inputs

unfoldable pub constants : SizedExpr → List (List Bit)
constants e = fold-SizedExpr (List (List Bit)) (List (List Bit)) kind_constants (λ e. e.kind) e

-- an index has a bit
abbrev pub HasBits : Use → Type 0
HasBits (Whole name) = Unit
HasBits (Bits name low width) = Unit
HasBits (BitAt name least index) = 1 ≤ index.width
HasBits (Word memory place) = Unit
HasBits (WordAt memory least index) = 1 ≤ index.width
HasBits (Called n count) = Unit
HasBits (Inputs op count) = Unit

pub record HasKnown (e : SizedExpr) : Type 0 where
  pub values : All AreKnown (constants e)
  pub indices : All HasBits (uses e)

-- every number, parameter and initial value of a design is known, and its indices have bits
pub record HasKnownConstants (d : Netlist) : Type 0 where
  pub drivers : All (λ a. HasKnown a.value) d.drivers
  pub blocks : All (λ b. All HasKnown (exprs b.body)) d.blocks
  pub functions : All (λ f. All HasKnown (exprs f.body)) d.functions
  pub initials : All (λ i. All (λ (a : InitialAssign). AreKnown a.value) i.assigns) d.initials

-- a bit that is 0 or 1
abbrev pub IsKnown : Bit → Type 0
IsKnown b = is_known b ≡ true

-- registers, bit by bit, and memory words that are known
pub record AreStatesKnown (d : Netlist) (store : Store) : Type 0 where
  pub words : (m p : ℕ) → p < word_count d m → AreKnown (word_at store m p)
  pub bits : (n p : ℕ) → IsRegister d n → p < signal_width d n → IsKnown (bit_at store n p)

-- a store of a design's sizes, whose words are known
pub record KnownWords (d : Netlist) (store : Store) : Type 0 where
  pub signal_sizes : sizes store ≡ widths d
  pub memory_sizes : map length store.memories ≡ map (λ (m : Ram). m.words) d.memories
  pub words : (m p : ℕ) → p < word_count d m → AreKnown (word_at store m p)

-- the same, with its registers known, bit by bit
pub record KnownRegisters (d : Netlist) (store : Store) : Type 0 where
  pub base : KnownWords d store
  pub bits : (n p : ℕ) → IsRegister d n → p < signal_width d n → IsKnown (bit_at store n p)

-- data inputs that are known, and inputs that are known or not given yet
abbrev pub DataKnown : Netlist → Store → Type 0
DataKnown d store = (i : ℕ) (x : Input) → slice_get d.inputs i ≡ Some x → x.class ≡ Data → AreKnown (value_at BX store.signals x.signal)

abbrev pub KnownOrZ : Netlist → Store → Type 0
KnownOrZ d store = (i : ℕ) (x : Input) → slice_get d.inputs i ≡ Some x → AreKnown (value_at BX store.signals x.signal) ⊎ (value_at BX store.signals x.signal ≡ replicate (signal_width d x.signal) BZ)
