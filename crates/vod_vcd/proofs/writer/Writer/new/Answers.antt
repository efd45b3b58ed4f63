-- The values are as many as the signals, each an x.
use Rattle.std.proofs.Common.{◌≡◌, ℕ, List, [], ◌∷◌, replicate, length, ap, refl, ◌∙◌}
use Rattle.vod_bits.specs.Bit.{Bit, BX}
use Rattle.vod_vcd.specs.Page.{Page}
use Rattle.vod_vcd.proofs.Same.{one_x}
use Rattle.vod_vcd.proofs.writer.Writer.new.Goals as goal

abbrev page : List ℕ → ℕ → List (List Bit) → Page
page header signals shown = record { header = header; signals = signals; shown = shown; printed = 0 }

pages : {h k : List ℕ} {m n : ℕ} {xs ys : List (List Bit)} → h ≡ k → m ≡ n → xs ≡ ys → page h m xs ≡ page k n ys
pages header signals shown = rw (header, signals, shown) refl

pub returns : goal.returns
returns c =
    let size = c.in_ok-vec.ensures.len ∙ ap (λ (ss : List _). length ss) c.signals-signals.ensures in
    let shown = c.in_ok-vec.ensures.items_if_clones_equal (λ y e. e) ∙ ap (λ x. replicate (length c.signals-signals.result.now) x) one_x ∙ ap (λ (ss : List _). replicate (length ss) (BX ∷ [])) c.signals-signals.ensures in
    pages c.in_ok-header_of.ensures size shown
