-- A sentence without a fault is made into its design.
use Rattle.std.proofs.Common.{◌≡◌, ℕ, ◌≤◌, ◌^◌, ◌++◌, ◌∷◌, [], All, List, Option, None, length, refl, sym, ap, ◌∙◌, subst}
use Rattle.vod_token.specs.declared.Token.{Token}
use Rattle.vod_thin_design.specs.declared.thin.Bit.{Bit}
use Rattle.vod_thin_design.specs.declared.thin.Bit.TheVariants as bit
use Rattle.vod_thin_design.specs.declared.thin.Expr.{Expr}
use Rattle.vod_thin_design.specs.declared.thin.Expr.TheVariants as expr
use Rattle.vod_thin_design.specs.Bits.{not_bit, and_bit, or_bit, xor_bit}
use Rattle.vod_thin_design.specs.Expr.{value_of, reads}
use Rattle.vod_thin_design.specs.Names.{HasPlainNames}
use Rattle.vod_thin_design.specs.Netlist.{Netlist, IsAccepted}
use Rattle.vod_thin_syntax.specs.Limit.{sooner}
use Rattle.vod_thin_syntax.specs.Names.{names_of, IsIdentifier}
use Rattle.vod_thin_syntax.specs.Outcome.{IsRead}
use Rattle.vod_thin_syntax.specs.Refusal.{Reads}
use Rattle.vod_thin_syntax.specs.Syntax as tree
use Rattle.vod_thin_syntax.specs.Syntax.{Mark, Value, Module, printed}
use Rattle.vod_thin_syntax.specs.View.{module_of}
use Rattle.vod_thin_syntax.specs.declared.syntax.Sentence.{Sentence}
use Rattle.vod_thin.specs.declared.names.Kind.{Kind}
use Rattle.vod_thin.specs.Machine.{read_expr}
use Rattle.vod_thin.specs.Netlists.{joined, design_by}
use Rattle.vod_thin.specs.Rules.{least, faults}
use Rattle.vod_thin.specs.Signals.{signals_of, texts, clocks}
use Rattle.vod_thin.specs.Thin.{IsThin}
use Rattle.vod_thin.specs.View.{first_entries, distinct}
use Rattle.vod_thin.proofs.Made.{ReadsBy, Made, made}
use Rattle.vod_thin.proofs.Plain.{SomeBytes}
use Rattle.vod_thin.proofs.ReadLaws.{Faultless, faultless, thin_of}

-- what expressions read, from the laws on them
pub reads_by : ((u : ℕ → Bit) (s : ℕ) → (value_of (expr.Signal s) u ≡ u s) × (reads (expr.Signal s) ≡ s ∷ []))
    → ((u : ℕ → Bit) (a : Expr) → (value_of (expr.Not a) u ≡ not_bit (value_of a u)) × (reads (expr.Not a) ≡ reads a))
    → ((u : ℕ → Bit) (a b : Expr) → (value_of (expr.And a b) u ≡ and_bit (value_of a u) (value_of b u)) × (reads (expr.And a b) ≡ reads a ++ reads b))
    → ((u : ℕ → Bit) (a b : Expr) → (value_of (expr.Xor a b) u ≡ xor_bit (value_of a u) (value_of b u)) × (reads (expr.Xor a b) ≡ reads a ++ reads b))
    → ((u : ℕ → Bit) (a b : Expr) → (value_of (expr.Or a b) u ≡ or_bit (value_of a u) (value_of b u)) × (reads (expr.Or a b) ≡ reads a ++ reads b)) → ReadsBy
reads_by signal inverted both either_one some = record {
  signal = λ s. (signal (λ _. bit.X) s).1;
  inverted = λ a. (inverted (λ _. bit.X) a).1;
  operands = by;
}
  where
    by : (op : tree.Operator) (a b : Expr) → reads (joined op a b) ≡ reads a ++ reads b
    by tree.And a b = (both (λ _. bit.X) a b).1
    by tree.Xor a b = (either_one (λ _. bit.X) a b).1
    by tree.Or a b = (some (λ _. bit.X) a b).1

-- what was made of a sentence
pub record Stands (source : List ℕ) (d : Netlist) (es : List (List ℕ × Kind)) : Type 0 where
  pub thin : IsThin source d
  pub accepted : IsAccepted d
  pub plain : HasPlainNames d
  pub few : length es ≤ 2 ^ 25

-- the names of modules
abbrev pub Identified : Type 0
Identified = (source : List ℕ) (ts : List Token) (m : Module Value) → Reads source ts m → All IsIdentifier (names_of m)

pub stands : ReadsBy → SomeBytes → Identified → (source : List ℕ) (s : Sentence) (ts : List Token) (fault : Option ℕ) (es : List (List ℕ × Kind)) (ws : List (List ℕ)) → length source ≤ 2 ^ 20 → IsRead source s → ts ≡ s.tokens.items
    → fault ≡ least (faults (module_of source ts s.module)) → es ≡ first_entries [] (signals_of (module_of source ts s.module)) → ws ≡ distinct [] (texts (clocks (module_of source ts s.module).items))
    → sooner s.limit fault ≡ None → Stands source (design_by es ws (read_expr es) (module_of source ts s.module)) es
stands laws some identified source s ts fault es ws short read all e signals waited none =
    let same : module_of source ts s.module ≡ printed read.tree = ap (λ us. module_of source us s.module) all ∙ read.stands in
    let free = faultless source s fault read (e ∙ ap (λ us. least (faults (module_of source us s.module))) all) none in
    let m = made laws some source s.tokens.items read.tree es ws short read.reads (identified source s.tokens.items read.tree read.reads) free.none (signals ∙ ap (λ (v : Module (List Mark)). first_entries [] (signals_of v)) same) (waited ∙ ap (λ (v : Module (List Mark)). distinct [] (texts (clocks v.items))) same) in
    let design : design_by es ws (read_expr es) (module_of source ts s.module) ≡ design_by es ws (read_expr es) (printed read.tree) = ap (design_by es ws (read_expr es)) same in
    record {
      thin = thin_of source s (design_by es ws (read_expr es) (module_of source ts s.module)) read free (design ∙ m.is);
      accepted = subst IsAccepted (sym design) m.accepted;
      plain = subst HasPlainNames (sym design) m.plain;
      few = m.few;
    }
