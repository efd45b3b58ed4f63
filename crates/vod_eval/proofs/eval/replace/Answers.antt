use Rattle.std.proofs.Common.{◌≡◌, ◌∷◌, [], ◌∙◌, sym, ap, map, slice_set, arith}
use Rattle.std.proofs.lemmas.List.{map-set, get_or-map}
use Rattle.vod_design.specs.Values.{value_at}
use Rattle.vod_design.specs.Run.{replace_bits}
use Rattle.vod_eval.proofs.eval.replace.Goals as goal

pub returns-then-n-frame : goal.returns-then-n-frame
returns-then-n-frame g c =
    let b = g.V.Value.bits in
    let fill = g.V.Value.fill in
    let frame = c.args.frame.now in
    let n = c.args.n in
    let old : b c.index-frame-n.result ≡ value_at fill (map b frame) n = ap b c.index-frame-n.is ∙ sym (get_or-map b frame n c.index-frame-n.result (fill ∷ []) (omega arith)) in
    map-set b frame n c.replaced.result ∙ ap (slice_set (map b frame) n) (c.replaced.ensures ∙ ap (replace_bits c.args.low (b c.args.bits)) old)
