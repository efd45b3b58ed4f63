-- What the rules of a design say of the uses of its expressions: what they take is there.
use Rattle.std.proofs.Common.{arith, ◌≡◌, ◌≤◌, ◌<◌, ℕ, ◌+◌, ◌^◌, List, [], ◌∷◌, length, ◌∙◌, All, Some, slice_get, pow_mono}
use Rattle.std.proofs.lemmas.List.Elements.{All-head, All-tail, All-cons}
use Rattle.vod_design.specs.declared.sized.SizedExpr.{SizedExpr}
use Rattle.vod_design.specs.declared.statement.Function.{Function}
use Rattle.vod_design.specs.Accepted.{IndexInside}
use Rattle.vod_design.specs.Eval.{Calls}
use Rattle.vod_design.specs.Flat.{UseFits, ExprFits, IsSize}
use Rattle.vod_design.specs.Functions.{use_called}
use Rattle.vod_design.specs.Netlist.{Netlist, word_count, named_width}
use Rattle.vod_design.specs.Uses.{Use, Whole, Bits, BitAt, Word, WordAt, Called, Inputs, uses}
use Rattle.vod_design.specs.Values.{Operand, bounded}
use Rattle.vod_slot.specs.Known.{AreKnown, HasBits, HasKnown, constants}
use Rattle.vod_slot.proofs.Lists.{all_none}

-- what a use takes is there
abbrev pub UseGood : Netlist → List ℕ → Calls → Use → Type 0
UseGood d locals calls (Whole name) = Unit {0}
UseGood d locals calls (Bits name low width) = low + bounded width ≤ named_width d locals name
UseGood d locals calls (BitAt name least index) = (least ≡ 0) × (2 ^ bounded index.width ≤ named_width d locals name)
UseGood d locals calls (Word memory place) = place < word_count d memory.number
UseGood d locals calls (WordAt memory least index) = (least ≡ 0) × (2 ^ bounded index.width ≤ word_count d memory.number)
UseGood d locals calls (Called n count) = (arguments : List Operand) → length arguments ≡ count → All (λ (a : Operand). AreKnown a.bits) arguments → AreKnown (calls n arguments)
UseGood d locals calls (Inputs op count) = 1 ≤ count

-- a call of a function that there is, of the first k, gives a known value where its arguments are known
abbrev pub CallsKnown : List Function → Calls → ℕ → Type 0
CallsKnown functions calls k = (n : ℕ) (f : Function) → n < k → slice_get functions n ≡ Some f → (arguments : List Operand) → length arguments ≡ length f.inputs → All (λ (a : Operand). AreKnown a.bits) arguments → AreKnown (calls n arguments)

bounded_most : (w : ℕ) → 1 ≤ w → bounded w ≤ w
bounded_most w h = omega arith

pub bounded_size : (w : ℕ) → IsSize w → bounded w ≡ w
bounded_size w h = let some = h.0 in let most = h.1 in omega arith

power_most : (w n : ℕ) → 1 ≤ w → 2 ^ w ≤ n → 2 ^ bounded w ≤ n
power_most w n h k = let le : 2 ^ bounded w ≤ 2 ^ w = pow_mono (bounded_most w h) in omega arith

pub use_good : (d : Netlist) (locals : List ℕ) (calls : Calls) (k : ℕ) (u : Use) → CallsKnown d.functions calls k → All (λ m. m < k) (use_called u) → UseFits d locals u → IndexInside d locals u → HasBits u → UseGood d locals calls u
use_good d locals calls k (Whole name) known below fits inside bits = tt
use_good d locals calls k (Bits name low width) known below fits inside bits = let most = bounded_most width fits.0 in let in_ = fits.1 in omega arith
use_good d locals calls k (BitAt name least index) known below fits inside bits = (inside.least_is, power_most index.width (named_width d locals name) bits inside.greatest)
use_good d locals calls k (Word memory place) known below fits inside bits = fits.1
use_good d locals calls k (WordAt memory least index) known below fits inside bits = (inside.least_is, power_most index.width (word_count d memory.number) bits inside.greatest)
use_good d locals calls k (Called n count) known below fits inside bits =
    λ arguments same each. known n fits.0 (All-head (λ m. m < k) n [] below) fits.1 arguments (same ∙ fits.2) each
use_good d locals calls k (Inputs op count) known below fits inside bits = fits

pub uses_good : (d : Netlist) (locals : List ℕ) (calls : Calls) (k : ℕ) (us : List Use) → CallsKnown d.functions calls k → All (λ u. All (λ m. m < k) (use_called u)) us → All (UseFits d locals) us → All (IndexInside d locals) us → All HasBits us → All (UseGood d locals calls) us
uses_good d locals calls k [] known below fits inside bits = all_none (UseGood d locals calls)
uses_good d locals calls k (u ∷ us) known below fits inside bits =
    All-cons (UseGood d locals calls) u us
    (use_good d locals calls k u known (All-head (λ x. All (λ m. m < k) (use_called x)) u us below) (All-head (UseFits d locals) u us fits) (All-head (IndexInside d locals) u us inside) (All-head HasBits u us bits))
    (uses_good d locals calls k us known (All-tail (λ x. All (λ m. m < k) (use_called x)) u us below) (All-tail (UseFits d locals) u us fits) (All-tail (IndexInside d locals) u us inside) (All-tail HasBits u us bits))

-- an expression whose size is right, whose uses are there and whose constants are known
pub record ExprGood (d : Netlist) (locals : List ℕ) (calls : Calls) (e : SizedExpr) : Type 0 where
  pub size : IsSize e.width
  pub uses : All (UseGood d locals calls) (uses e)
  pub values : All AreKnown (constants e)

pub expr_good : (d : Netlist) (locals : List ℕ) (calls : Calls) (k : ℕ) (e : SizedExpr) → CallsKnown d.functions calls k → All (λ u. All (λ m. m < k) (use_called u)) (uses e) → ExprFits d locals e → All (IndexInside d locals) (uses e) → HasKnown e → ExprGood d locals calls e
expr_good d locals calls k e known below fits inside has = record { size = fits.size; uses = uses_good d locals calls k (uses e) known below fits.fits inside has.indices; values = has.values }
