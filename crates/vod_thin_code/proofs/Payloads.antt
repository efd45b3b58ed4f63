-- Payloads, read back.
use Rattle.std.proofs.Common.{◌≡◌, ℕ, zero, suc, ◌<◌, ◌≤◌, List, [], ◌∷◌, ◌++◌, length, take, drop, get_or, sym, ap, ◌∙◌, arith}
use Rattle.std.proofs.lemmas.List.{take-append-drop, length-take-le}
use Rattle.std.proofs.lemmas.Nat.{le_bytes_4, le_bytes_8}
use Rattle.std.specs.Int.{w32, w64, to_le_bytes, from_le_bytes}

-- each is a byte
abbrev pub AreBytes : List ℕ → Type 0
AreBytes bytes = (i : ℕ) → get_or bytes i 0 < 256

pub take-bytes : (n : ℕ) (bytes : List ℕ) → AreBytes bytes → AreBytes (take n bytes)
take-bytes zero bytes are i = omega arith
take-bytes (suc n) [] are i = omega arith
take-bytes (suc n) (b ∷ bytes) are zero = are 0
take-bytes (suc n) (b ∷ bytes) are (suc i) = take-bytes n bytes (λ k. are (suc k)) i

pub drop-bytes : (n : ℕ) (bytes : List ℕ) → AreBytes bytes → AreBytes (drop n bytes)
drop-bytes zero bytes are = are
drop-bytes (suc n) [] are = are
drop-bytes (suc n) (b ∷ bytes) are = drop-bytes n bytes (λ k. are (suc k))

-- eight bytes in front are a number, and the rest
pub eight_and_rest : (bytes : List ℕ) (n : ℕ) → AreBytes bytes → 8 ≤ length bytes → n ≡ from_le_bytes w64 (take 8 bytes) → bytes ≡ to_le_bytes w64 n ++ drop 8 bytes
eight_and_rest bytes n are long is =
    sym (take-append-drop 8 bytes) ∙ ap (λ bs. bs ++ drop 8 bytes) (sym (le_bytes_8 (take 8 bytes) n (length-take-le 8 bytes long) (take-bytes 8 bytes are) is))

-- and so are four
pub four_and_rest : (bytes : List ℕ) (n : ℕ) → AreBytes bytes → 4 ≤ length bytes → n ≡ from_le_bytes w32 (take 4 bytes) → bytes ≡ to_le_bytes w32 n ++ drop 4 bytes
four_and_rest bytes n are long is =
    sym (take-append-drop 4 bytes) ∙ ap (λ bs. bs ++ drop 4 bytes) (sym (le_bytes_4 (take 4 bytes) n (length-take-le 4 bytes long) (take-bytes 4 bytes are) is))
