-- A log is of one source, one interval and one list of vectors.
use Rattle.std.proofs.Common.{◌≡◌, ℕ, ◌<◌, ◌^◌, List, [], ◌∷◌, ◌++◌, length, sym, ◌∙◌, subst, arith}
use Rattle.vod_thin_design.specs.declared.thin.Vector.{Vector}
use Rattle.vod_thin_design.specs.Netlist.{Netlist}
use Rattle.vod_log.specs.Format.{Entry}
use Rattle.vod_thin_code.specs.Bytes.{IsHead}
use Rattle.vod_thin_code.specs.Held.{AreBatches, IsHeld}
use Rattle.vod_thin_code.proofs.Numbers.{eight_are_one}
use Rattle.vod_thin_code.proofs.Batches.{same_batch}

pub same_head : (payload : List ℕ) (i j : ℕ) (source other : List ℕ) → IsHead payload i source → IsHead payload j other → (i ≡ j) × (source ≡ other)
same_head payload i j source other is is' =
    let low : i < 2 ^ 64 = omega (arith, is.most) in
    let low' : j < 2 ^ 64 = omega (arith, is'.most) in
    eight_are_one i j source other low low' (sym is.bytes ∙ is'.bytes)

same_batches : (d : Netlist) → length d.inputs < 2 ^ 32 → (es : List Entry) (before vs ws : List Vector) → AreBatches d before es vs → AreBatches d before es ws → vs ≡ ws
same_batches d few [] before vs ws are are' = are ∙ sym are'
same_batches d few (e ∷ es) before vs ws are are' =
    let one : are.0 ≡ are'.0 = same_batch d few are.0 are'.0 are.1.forms are'.1.forms (sym are.1.payload ∙ are'.1.payload) in
    same_batches d few es (before ++ are'.0) vs ws (subst (λ b. AreBatches d (before ++ b) es vs) one are.2) are'.2

pub same_log : (d : Netlist) → length d.inputs < 2 ^ 32 → (i j : ℕ) (source other : List ℕ) (vs ws : List Vector) (bytes : List ℕ)
    → IsHeld d source i vs bytes → IsHeld d other j ws bytes → (i ≡ j) × (source ≡ other) × (vs ≡ ws)
same_log d few i j source other vs ws bytes is is' =
    let both : is.head ∷ is.batches ≡ is'.head ∷ is'.batches = sym is.entries ∙ is'.entries in
    let first : is.head ≡ is'.head = cc in
    let rest : is.batches ≡ is'.batches = cc in
    let head = same_head is'.head.payload i j source other (subst (λ e. IsHead e.payload i source) first is.is_head) is'.is_head in
    (head.0, head.1, same_batches d few is'.batches [] vs ws (subst (λ es. AreBatches d [] es vs) rest is.are_batches) is'.are_batches)
