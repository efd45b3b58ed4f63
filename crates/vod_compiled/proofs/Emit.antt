-- Steps that are made from the last one to the first.
use Rattle.std.proofs.Common.{◌≡◌, ℕ, suc, ◌-◌, ◌≤◌, Bool, List, [], ◌∷◌, ◌++◌, max, length, map, reverse, refl, sym, ◌∙◌, ap, arith}
use Rattle.std.proofs.lemmas.List.{reverse-append, map-append}
use Rattle.vod_bits.specs.Bit.{Bit}
use Rattle.vod_design.specs.declared.sized.GateOp.{GateOp}
use Rattle.vod_design.specs.declared.sized.Named.{Named}
use Rattle.vod_design.specs.declared.sized.SizedExpr.{SizedExpr}
use Rattle.vod_design.specs.declared.sized.SizedKind as kind
use Rattle.vod_design.specs.declared.sized.SizedKind.TheOpen.{SizedKind-F}
use Rattle.vod_design.specs.declared.sized.SizedKind.TheVariants.{rolls-Number, rolls-Name, rolls-Call}
use Rattle.vod_design.specs.declared.sized.SizedKind.TheViews.{out-SizedKind, roll-SizedKind, roll-out-SizedKind}
use Rattle.vod_compiled.specs.declared.step.Source.TheVariants.{Cell}
use Rattle.vod_compiled.proofs.Layers.{Layer, coded_at, depth}
use Rattle.vod_compiled.specs.declared.step.Step.{Step}
use Rattle.vod_compiled.specs.declared.step.Op.TheVariants as op
use Rattle.vod_compiled.specs.declared.step.Input.{Input}
use Rattle.vod_compiled.specs.Code.{input_at, step_at, Coded, coded, second_steps, first_steps, conditional_steps, joined_steps, inputs_steps}
use Rattle.vod_eval.specs.Room.{most}

pub reverse_push : (steps : List Step) (s : Step) → reverse (steps ++ s ∷ []) ≡ s ∷ reverse steps
reverse_push steps s = reverse-append steps (s ∷ [])

pub conditional_emitted : (test a b : SizedExpr) (d width : ℕ) (signed : Bool) (rest one two three : List Step) (n m : ℕ)
    → one ≡ (coded b).steps (suc (suc d)) (step_at d width signed (op.Second ((coded test).input d) ((coded b).input (suc (suc d)))) ∷ rest)
    → two ≡ (coded a).steps (suc d) (step_at d width signed (op.First ((coded test).input d) ((coded a).input (suc d)) n) ∷ one) → n ≡ length one - length rest
    → three ≡ (coded test).steps d (step_at d width signed (op.Test ((coded test).input d) m) ∷ two) → m ≡ length two - length one
    → three ≡ conditional_steps (coded test) (coded a) (coded b) width signed d rest
conditional_emitted test a b d width signed rest one two three n m p q r s t =
    let t_in : Input = (coded test).input d in
    let second : List Step = second_steps width signed d t_in (coded b) rest in
    let first : List Step = first_steps width signed d t_in (coded a) second rest in
    let firsts : two ≡ first =
    q ∙ ap (λ k. (coded a).steps (suc d) (step_at d width signed (op.First t_in ((coded a).input (suc d)) k) ∷ one)) (r ∙ ap (λ xs. length xs - length rest) p)
    ∙ ap (λ xs. (coded a).steps (suc d) (step_at d width signed (op.First t_in ((coded a).input (suc d)) (length second - length rest)) ∷ xs)) p in
    s ∙ ap (λ k. (coded test).steps d (step_at d width signed (op.Test t_in k) ∷ two)) (t ∙ ap (λ xs. length two - length xs) p ∙ ap (λ xs. length xs - length second) firsts)
    ∙ ap (λ xs. (coded test).steps d (step_at d width signed (op.Test t_in (length first - length second)) ∷ xs)) firsts

-- the kinds whose value is in a cell
cell_of : (e : SizedExpr) (d : ℕ) (x : Layer) → e.kind ≡ roll-SizedKind x → ((b : List Bit) → e.kind ≡ kind.Number b → ⊥) → ((n : Named) → e.kind ≡ kind.Name n → ⊥) → ((n : ℕ) (es : List SizedExpr) → e.kind ≡ kind.Call n es → ⊥)
    → input_at (Cell d) e.width e.signed ≡ (coded e).input d
cell_of e d (SizedKind-F.Number b) is no_number no_name no_call = absurd (no_number b (is ∙ rolls-Number b))
cell_of e d (SizedKind-F.Name n) is no_number no_name no_call = absurd (no_name n (is ∙ rolls-Name n))
cell_of e d (SizedKind-F.Call n es) is no_number no_name no_call = absurd (no_call n es (is ∙ rolls-Call n es))
cell_of e d x is no_number no_name no_call = sym (ap (λ (c : Coded). c.input d) (coded_at e x is))

pub cell_input : (e : SizedExpr) (d : ℕ) → ((b : List Bit) → e.kind ≡ kind.Number b → ⊥) → ((n : Named) → e.kind ≡ kind.Name n → ⊥) → ((n : ℕ) (es : List SizedExpr) → e.kind ≡ kind.Call n es → ⊥)
    → input_at (Cell d) e.width e.signed ≡ (coded e).input d
cell_input e d no_number no_name no_call = cell_of e d (out-SizedKind e.kind) (sym (roll-out-SizedKind e.kind)) no_number no_name no_call

-- the last part of a list is made first
pub joined_last : (width : ℕ) (signed : Bool) (d : ℕ) (ps : List Coded) (p : Coded) (rest : List Step)
    → joined_steps width signed d (ps ++ p ∷ []) rest ≡ joined_steps width signed d ps (p.steps (suc d) (step_at d width signed (op.Join (p.input (suc d))) ∷ rest))
joined_last width signed d [] p rest = refl
joined_last width signed d (q ∷ ps) p rest = ap (λ xs. q.steps (suc d) (step_at d width signed (op.Join (q.input (suc d))) ∷ xs)) (joined_last width signed d ps p rest)

pub inputs_last : (gate : GateOp) (width : ℕ) (signed : Bool) (d : ℕ) (ps : List Coded) (p : Coded) (rest : List Step)
    → inputs_steps gate width signed d (ps ++ p ∷ []) rest ≡ inputs_steps gate width signed d ps (p.steps (suc d) (step_at d width signed (op.GateInput gate (p.input (suc d))) ∷ rest))
inputs_last gate width signed d [] p rest = refl
inputs_last gate width signed d (q ∷ ps) p rest = ap (λ xs. q.steps (suc d) (step_at d width signed (op.GateInput gate (q.input (suc d))) ∷ xs)) (inputs_last gate width signed d ps p rest)

pub most_last : (es : List SizedExpr) (e : SizedExpr) → most (map depth (es ++ e ∷ [])) ≡ max (most (map depth es)) (depth e)
most_last [] e = omega arith
most_last (f ∷ es) e = let m : most (map depth (es ++ e ∷ [])) ≡ max (most (map depth es)) (depth e) = most_last es e in omega arith

pub joined_more : (width : ℕ) (signed : Bool) (d : ℕ) (left more : List SizedExpr) (p : SizedExpr) (old new whole : List Step) → left ≡ more ++ p ∷ []
    → new ≡ (coded p).steps (suc d) (step_at d width signed (op.Join ((coded p).input (suc d))) ∷ old)
    → joined_steps width signed d (map coded left) old ≡ whole → joined_steps width signed d (map coded more) new ≡ whole
joined_more width signed d left more p old new whole l n h =
    ap (joined_steps width signed d (map coded more)) n ∙ sym (joined_last width signed d (map coded more) (coded p) old)
    ∙ ap (λ ps. joined_steps width signed d ps old) (sym (ap (map coded) l ∙ map-append coded more (p ∷ []))) ∙ h

pub inputs_more : (gate : GateOp) (width : ℕ) (signed : Bool) (d : ℕ) (left more : List SizedExpr) (p : SizedExpr) (old new whole : List Step) → left ≡ more ++ p ∷ []
    → new ≡ (coded p).steps (suc d) (step_at d width signed (op.GateInput gate ((coded p).input (suc d))) ∷ old)
    → inputs_steps gate width signed d (map coded left) old ≡ whole → inputs_steps gate width signed d (map coded more) new ≡ whole
inputs_more gate width signed d left more p old new whole l n h =
    ap (inputs_steps gate width signed d (map coded more)) n ∙ sym (inputs_last gate width signed d (map coded more) (coded p) old)
    ∙ ap (λ ps. inputs_steps gate width signed d ps old) (sym (ap (map coded) l ∙ map-append coded more (p ∷ []))) ∙ h

pub depths_left : (left more : List SizedExpr) (p : SizedExpr) (n : ℕ) → left ≡ more ++ p ∷ [] → most (map depth left) ≤ n → (most (map depth more) ≤ n) × (depth p ≤ n)
depths_left left more p n l h =
    let e : most (map depth left) ≡ max (most (map depth more)) (depth p) = ap (λ es. most (map depth es)) l ∙ most_last more p in
    (omega arith, omega arith)
