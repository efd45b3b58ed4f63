-- Numbers as bytes, in front of other bytes.
use Rattle.std.proofs.Common.{◌≡◌, ℕ, ◌<◌, ◌^◌, List, ◌++◌, take, drop, sym, ap, ◌∙◌}
use Rattle.std.proofs.lemmas.Nat.{from_le_bytes-to_le_bytes_4, from_le_bytes-to_le_bytes_8}
use Rattle.std.specs.Int.{w32, w64, to_le_bytes, from_le_bytes}

-- eight bytes are those of one number at most, and what is behind them is one list
pub eight_are_one : (m n : ℕ) (xs ys : List ℕ) → m < 2 ^ 64 → n < 2 ^ 64 → to_le_bytes w64 m ++ xs ≡ to_le_bytes w64 n ++ ys → (m ≡ n) × (xs ≡ ys)
eight_are_one m n xs ys lt lt' e =
    (sym (from_le_bytes-to_le_bytes_8 m lt) ∙ ap (λ bs. from_le_bytes w64 (take 8 bs)) e ∙ from_le_bytes-to_le_bytes_8 n lt', ap (λ bs. drop 8 bs) e)

-- and so are four
pub four_are_one : (m n : ℕ) (xs ys : List ℕ) → m < 2 ^ 32 → n < 2 ^ 32 → to_le_bytes w32 m ++ xs ≡ to_le_bytes w32 n ++ ys → (m ≡ n) × (xs ≡ ys)
four_are_one m n xs ys lt lt' e =
    (sym (from_le_bytes-to_le_bytes_4 m lt) ∙ ap (λ bs. from_le_bytes w32 (take 4 bs)) e ∙ from_le_bytes-to_le_bytes_4 n lt', ap (λ bs. drop 4 bs) e)
