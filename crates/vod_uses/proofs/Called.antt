-- Names beside numbers.
use Rattle.std.proofs.Common.{◌≡◌, ℕ, suc, Bool, true, false, if◌then◌else◌, Option, None, Some, List, [], ◌∷◌, ◌++◌, length, bytes_eq, refl, ap, arith}
use Rattle.std.specs.Option.{option_map}
use Rattle.vod_names.specs.Entries.{Named, number_of}
use Rattle.vod_uses.specs.Calls.{called, number_at, inputs_of}

-- one more name and one more number
pub called_more : (ds : List Named) (ns : List ℕ) (d : Named) (n : ℕ) → length ds ≡ length ns → called (ds ++ d ∷ []) (ns ++ n ∷ []) ≡ called ds ns ++ (d.0, n) ∷ []
called_more [] [] d n e = refl
called_more [] (m ∷ ms) d n e = absurd (omega arith)
called_more (c ∷ cs) [] d n e = absurd (omega arith)
called_more (c ∷ cs) (m ∷ ms) d n e = ap (λ fs. (c.0, m) ∷ fs) (called_more cs ms d n (omega arith))

first : (same : Bool) (n : ℕ) (ns : List ℕ) (o : Option ℕ) (more : Option ℕ) → number_at ns o ≡ more → number_at (n ∷ ns) (if same then Some 0 else option_map suc o) ≡ (if same then Some n else more)
first true n ns o more h = refl
first false n ns None more h = h
first false n ns (Some k) more h = h

pub number_is : (name : List ℕ) (ds : List Named) (ns : List ℕ) → length ds ≡ length ns → number_at ns (number_of name ds) ≡ inputs_of name (called ds ns)
number_is name [] ns e = refl
number_is name (d ∷ ds) [] e = absurd (omega arith)
number_is name (d ∷ ds) (n ∷ ns) e = first (bytes_eq name d.0) n ns (number_of name ds) (inputs_of name (called ds ns)) (number_is name ds ns (omega arith))
