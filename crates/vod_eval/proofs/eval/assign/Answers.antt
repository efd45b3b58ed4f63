use Rattle.std.proofs.Common.{◌≡◌, ◌+◌, ◌∷◌, ◌∙◌, sym, ap, map, drop, arith}
use Rattle.std.proofs.lemmas.List.{drop-map}
use Rattle.vod_design.specs.Values.{bounded, select_bits}
use Rattle.vod_design.specs.Run.{assigned, written, target_of}
use Rattle.vod_eval.proofs.Kept.{drop_item}
use Rattle.vod_eval.proofs.eval.assign.Goals as goal

pub loop-i-preserved : goal.loop-i-preserved
loop-i-preserved g c =
    let b = g.V.Value.bits in
    let fill = g.V.Value.fill in
    let value = b c.args.value in
    let frame = map b c.loop-i.frame in
    let parts = c.args.parts.now in
    let indices = c.args.indices.now in
    let i = c.loop-i.i in
    let p = c.index-parts-i.result in
    let x = c.index-indices-i.result in
    let step : map b c.write.new.frame ≡ written fill (target_of p.target (b x)) (select_bits fill p.low (bounded p.width) value) frame
    = c.write.ensures ∙ ap (λ target. written fill target (b c.select-bits.result) frame) c.target_of.ensures ∙ ap (λ bits. written fill (target_of p.target (b x)) bits frame) c.select-bits.ensures in
    let ps : drop i parts ≡ p ∷ drop (i + 1) parts = drop_item parts i p c.index-parts-i.is (omega arith) in
    let xs : drop i (map b indices) ≡ b x ∷ drop (i + 1) (map b indices)
    = drop-map b i indices ∙ ap (map b) (drop_item indices i x c.index-indices-i.is (omega arith)) ∙ ap (λ ys. b x ∷ ys) (sym (drop-map b (i + 1) indices)) in
    ap (assigned fill (drop (i + 1) parts) (drop (i + 1) (map b indices)) value) step
    ∙ sym (ap (λ qs. assigned fill qs (drop i (map b indices)) value frame) ps ∙ ap (λ ys. assigned fill (p ∷ drop (i + 1) parts) ys value frame) xs) ∙ c.loop-i.invariant
