-- The numbers of constant parts.
use Rattle.std.proofs.Common.{◌≡◌, ℕ, ◌+◌, ◌-◌, length, Bool, true, false, cond, List, [], ◌∷◌, take, drop, None, Ok, refl, sym, ◌∙◌, ap, arith}
use Rattle.vod_bits.specs.Bit.{Bit, B0, B1, BX, BZ, is_1, bit_if, or_bit}
use Rattle.vod_bits.specs.Value.{upper_bit, fold_bits, slice_bits}
use Rattle.vod_design.specs.Run.{eval, nothing}
use Rattle.vod_design.specs.declared.sized.SizedExpr.{SizedExpr}
use Rattle.vod_operand.specs.Operands.{Looked, own, are_none, is_sound, natural, known_natural}
use Rattle.vod_operand.specs.Found.{SeesAs, natural_of}
use Rattle.vod_operand.specs.FoundLaws.{here}
use Rattle.vod_operand.specs.declared.tree.Looked as code

pub upper_slice : (bs : List Bit) (low : ℕ) → low + 1 ≡ length bs → slice_bits low 1 bs ≡ upper_bit bs ∷ []
unfolding slice_bits
upper_slice [] low h = absurd (omega arith)
upper_slice (b ∷ bs) low h =
    let z : length (b ∷ bs) - (low + 1) ≡ 0 = omega (arith, h) in
    ap (λ k. take 1 (drop k (b ∷ bs))) z

any_one : (b : Bool) (u : Bit) → bit_if b ≡ or_bit u B0 → b ≡ is_1 u
any_one true B1 h = refl
any_one false B0 h = refl
any_one true B0 h = absurd (cc)
any_one true BX h = absurd (cc)
any_one true BZ h = absurd (cc)
any_one false B1 h = absurd (cc)
any_one false BX h = absurd (cc)
any_one false BZ h = absurd (cc)

pub upper_any : (b : Bool) (bs ls : List Bit) → bit_if b ≡ fold_bits or_bit B0 ls → ls ≡ upper_bit bs ∷ [] → b ≡ is_1 (upper_bit bs)
unfolding fold_bits
upper_any b bs ls h e = any_one b (upper_bit bs) (h ∙ ap (fold_bits or_bit B0) e)

sound_natural : (y : Looked) (b : Bool) → is_sound y ≡ b → b ≡ true → natural y ≡ known_natural y
sound_natural y true e h = ap (λ b. cond b (natural y) None) (sym e)
sound_natural y false e h = absurd (cc)

pub known_here : (c : code.Looked) (y : Looked) (t : SizedExpr) → Ok t ≡ c.tree → SeesAs c y (own y) → natural_of c.constant c.signed (eval BX [] (nothing BX) [] t) ≡ known_natural y
known_here c y t e s =
    let h = here c y t (own y) e s in
    ap (λ b. natural_of b c.signed (eval BX [] (nothing BX) [] t)) s.constant ∙ ap (λ b. natural_of y.constant b (eval BX [] (nothing BX) [] t)) s.signed
    ∙ ap (λ u. natural_of y.constant y.signed (eval BX [] (nothing BX) [] u)) h.1 ∙ sound_natural y (is_sound y) refl (ap are_none h.0)
