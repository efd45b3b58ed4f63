-- What an expression is by itself, and how it stands at a size and sign (IEEE 1364-2005, 5.4 and 5.5); numbers among them, and faults.
use Rattle.std.specs.Prelude.{ℕ, ◌+◌, ◌*◌, nat_lt, Bool, true, false, not, ◌&&◌, if◌then◌else◌, List, [], ◌∷◌, ◌++◌, Option, None, Some}
use Rattle.vod_bits.specs.Bit.{Bit, BX, is_1}
use Rattle.vod_bits.specs.Value.{bits_of, number_of, upper_bit, all_known}
use Rattle.vod_bits.specs.declared.TheConstants.{WIDTH}
use Rattle.vod_tree.specs.declared.ident.Number.{Number}
use Rattle.vod_design.specs.declared.sized.SizedExpr.{SizedExpr}
use Rattle.vod_design.specs.declared.sized.SizedKind.{SizedKind}
use Rattle.vod_design.specs.Values.{bounded, at_size}
use Rattle.vod_design.specs.Run.{eval, nothing}
use Rattle.vod_design.specs.declared.sized.SizedKind.TheVariants as kind
use Rattle.vod_operand.specs.declared.fault.Fault.{Fault}
use Rattle.vod_operand.specs.declared.fault.Fault.TheVariants.{Rule, Width, Open}

-- what an expression is by itself: the place of its first token, its size and sign, whether it is constant, the faults inside it, and
-- how it stands where it is evaluated at a size and sign
pub record Looked : Type 0 where
  pub place : ℕ
  pub width : ℕ
  pub signed : Bool
  pub constant : Bool
  pub faults : List Fault
  pub sized : ℕ → Bool → SizedExpr

-- an expression of a kind at a size and sign, with no place as yet
abbrev pub node : ℕ → Bool → SizedKind → SizedExpr
node width signed k = record { place = 0; width = width; signed = signed; kind = k }

-- an expression whose first token stands at a place
abbrev pub standing : ℕ → SizedExpr → SizedExpr
standing place e = record { place = place; width = e.width; signed = e.signed; kind = e.kind }

-- an expression at its own size and sign, as where it is self-determined (5.4.1)
abbrev pub own : Looked → SizedExpr
own x = x.sized x.width x.signed

-- whether nothing in it is at fault
abbrev pub are_none : List Fault → Bool
are_none [] = true
are_none (f ∷ fs) = false

abbrev pub is_sound : Looked → Bool
is_sound x = are_none x.faults

-- a looked-at expression, with no place as yet
abbrev pub looked : ℕ → Bool → Bool → List Fault → (ℕ → Bool → SizedExpr) → Looked
looked width signed constant faults sized = record { place = 0; width = width; signed = signed; constant = constant; faults = faults; sized = sized }

-- the value of a constant expression, by itself
abbrev pub value : Looked → List Bit
value x = eval BX [] (nothing BX) [] (own x)

-- the number that it stands for, where it is constant and not negative
abbrev pub natural : Looked → Option ℕ
natural x = if x.constant && (all_known (value x) && not (x.signed && is_1 (upper_bit (value x)))) then Some (number_of (value x)) else None

-- the same where nothing in it is at fault
abbrev pub known_natural : Looked → Option ℕ
known_natural x = if is_sound x then natural x else None

abbrev pub meets : (ℕ → Bool) → Option ℕ → Bool
meets test None = false
meets test (Some n) = test n

-- the number where an expression without faults is one for which a test holds
abbrev pub number_where : (ℕ → Bool) → Looked → Option ℕ
number_where test x = if is_sound x && meets test (natural x) then natural x else None

-- whether an expression is constant and, as far as nothing in it is at fault, a number for which a test holds
abbrev pub may_be : (ℕ → Bool) → Looked → Bool
may_be test x = x.constant && (if is_sound x then meets test (natural x) else true)

-- an expression that has to be such a number, and isn't, is at fault at its first token, beside the faults inside it
abbrev pub unless : (ℕ → Bool) → Looked → List Fault
unless test x = if may_be test x then [] else Rule x.place ∷ []

-- a number has its own size and sign (3.5.1)
abbrev pub look_number : Number → Looked
look_number n = looked (bounded n.size) n.signed true [] (λ w s. node w s (kind.Number (at_size n.size false (bits_of WIDTH n.value))))

-- an expression has the place of its first token, and so has the node that it becomes. One wider than WIDTH is at fault there
abbrev pub at_place : ℕ → Looked → Looked
at_place place x = record x {
  place = place;
  faults = x.faults ++ (if nat_lt WIDTH x.width then Width place ∷ [] else []);
  sized = λ w s. standing place (x.sized w s);
}

-- where a fault stands among others: by its place, and at one place that a rule fails stands before a width. That something is open has
-- no place
abbrev pub place_of : Fault → Option ℕ
place_of (Rule place) = Some (2 * place)
place_of (Width place) = Some (2 * place + 1)
place_of Open = None

-- whether one stands before another; what has no place stands behind every place
abbrev pub stands_before : Option ℕ → Option ℕ → Bool
stands_before None q = false
stands_before (Some p) None = true
stands_before (Some p) (Some q) = nat_lt p q

-- the sooner of two faults
abbrev pub sooner : Fault → Fault → Fault
sooner f g = if stands_before (place_of g) (place_of f) then g else f

-- the sooner of two faults, where there are some
abbrev pub join : Option Fault → Option Fault → Option Fault
join None g = g
join (Some f) None = Some f
join (Some f) (Some g) = Some (sooner f g)

-- the first of several faults
abbrev pub first : List Fault → Option Fault
first [] = None
first (f ∷ fs) = join (Some f) (first fs)
