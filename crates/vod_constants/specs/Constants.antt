-- Constants of declarations (IEEE 1364-2005, 4.3, 4.9, 4.10): what they are, and the faults of what can't be one.
use Rattle.std.specs.Prelude.{◌≡◌, ℕ, min, max, nat_lt, Bool, true, if◌then◌else◌, List, [], ◌∷◌, ◌++◌, length, Option, None, Some}
use Rattle.vod_bits.specs.Bit.{Bit}
use Rattle.vod_bits.specs.Value.{resize_bits}
use Rattle.vod_bits.specs.declared.TheConstants.{WIDTH}
use Rattle.vod_tree.specs.declared.expr.Expr.{Expr}
use Rattle.vod_tree.specs.declared.declaration.Range.{Range}
use Rattle.vod_tree.specs.declared.declaration.ParameterType.{ParameterType}
use Rattle.vod_design.specs.declared.sized.Named.TheVariants as named
use Rattle.vod_operand.specs.declared.fault.Fault.{Fault}
use Rattle.vod_operand.specs.declared.fault.Fault.TheVariants.{Rule, Width}
use Rattle.vod_operand.specs.Operands.{Looked, are_none, known_natural, number_where, unless, first, value}
use Rattle.vod_width.specs.declared.decls.Declared.{Declared}
use Rattle.vod_width.specs.declared.decls.Declared.TheVariants as stands
use Rattle.vod_width.specs.declared.decls.Sort.TheVariants as sorts
use Rattle.vod_width.specs.Names.{Declaration}
use Rattle.vod_width.specs.Sizes.{look, in_some_range, selected, or_zero, range_faults, constant_faults}
use Rattle.vod_constants.specs.declared.number.Bound.{Bound}
use Rattle.vod_constants.specs.declared.bounds.Span.{Span}
use Rattle.vod_constants.specs.declared.bounds.Words.{Words}
use Rattle.vod_constants.specs.declared.parameters.Given.{Given}
use Rattle.vod_constants.specs.declared.parameters.Given.TheVariants as given

-- a bound is a constant from 0 to 65,535
abbrev pub is_bound : ℕ → Bool
is_bound n = in_some_range n

abbrev pub bound_of : Looked → Option ℕ
bound_of x = number_where is_bound x

abbrev pub bound_faults : Looked → List Fault
bound_faults x = x.faults ++ unless is_bound x

-- an expression that is no bound is at fault
abbrev pub missing : Option ℕ → ℕ → Option Fault
missing None place = Some (Rule place)
missing (Some n) place = None

-- what the code finds of a bound
pub record IsBound (b : Bound) (x : Looked) : Type 0 where
  pub natural : b.natural ≡ known_natural x
  pub index : b.index ≡ bound_of x
  pub fault : b.fault ≡ first (bound_faults x)

-- how many bits a range has, and the index of the lowest (4.3)
abbrev pub span_of : Looked → Looked → Span
span_of a b = record { width = selected (bound_of a) (bound_of b); lsb = or_zero (bound_of b) }

-- bounds are in range, the first not below the second, and the range has at most WIDTH bits, else it is at fault at the first
abbrev pub span_faults : Looked → Looked → List Fault
span_faults a b = range_faults is_bound a b ++ (if nat_lt WIDTH (selected (bound_of a) (bound_of b)) then Width a.place ∷ [] else [])

abbrev pub vector_span : List Declaration → Range → Span
vector_span decls r = span_of (look decls r.first) (look decls r.second)

abbrev pub vector_faults : List Declaration → Range → List Fault
vector_faults decls r = span_faults (look decls r.first) (look decls r.second)

-- the least and the greatest index of a memory, whose bounds stand in either order (4.9)
abbrev pub words_of : ℕ → ℕ → Words
words_of a b = record { low = min a b; high = max a b }

abbrev pub memory_words : List Declaration → Range → Words
memory_words decls r = words_of (or_zero (bound_of (look decls r.first))) (or_zero (bound_of (look decls r.second)))

abbrev pub memory_faults : List Declaration → Range → List Fault
memory_faults decls r = bound_faults (look decls r.first) ++ bound_faults (look decls r.second)

-- the value of a parameter and whether that is signed: what the instance gives, or else its own; none where it couldn't be formed (12.2)
abbrev pub default_value : Looked → Option (List Bit × Bool)
default_value x = if are_none (constant_faults x) then Some (value x, x.signed) else None

abbrev pub given_value : Given → Looked → Option (List Bit × Bool)
given_value given.Default x = default_value x
given_value (given.Value c) x = Some (c.value, c.signed)
given_value given.Open x = None

-- a parameter without a type has the size and sign of its value, and bits from 0 on; one with a type has that, and takes the value as
-- an assignment does (4.10.1)
abbrev pub untyped : Option (List Bit × Bool) → Declared
untyped None = stands.Open sorts.Constant
untyped (Some v) = stands.Vector (record { name = named.Constant v.0; width = length v.0; signed = v.1; lsb = 0; ranged = true })

abbrev pub typed : Bool → List Fault → Span → Option (List Bit × Bool) → Declared
typed signed faults span None = stands.Open sorts.Constant
typed signed (f ∷ fs) span (Some v) = stands.Open sorts.Constant
typed signed [] span (Some v) = stands.Vector (record { name = named.Constant (resize_bits span.width v.1 v.0); width = span.width; signed = signed; lsb = span.lsb; ranged = true })

abbrev pub parameter_as : List Declaration → Option ParameterType → Option (List Bit × Bool) → Declared
parameter_as decls None v = untyped v
parameter_as decls (Some t) v = typed t.signed (vector_faults decls t.range) (vector_span decls t.range) v

abbrev pub parameter_of : List Declaration → Option ParameterType → Expr → Given → Declared
parameter_of decls t e g = parameter_as decls t (given_value g (look decls e))

-- its type and its own value are judged, though another is given
abbrev pub type_faults : List Declaration → Option ParameterType → List Fault
type_faults decls None = []
type_faults decls (Some t) = vector_faults decls t.range

abbrev pub parameter_faults : List Declaration → Option ParameterType → Expr → List Fault
parameter_faults decls t e = type_faults decls t ++ constant_faults (look decls e)
