-- Words with one number are one.
use Rattle.std.proofs.Common.{◌≡◌, ℕ, true, cond, List, [], ◌∷◌, refl, sym, ◌∙◌, ap, nat_eq}
use Rattle.std.proofs.lemmas.Bool.{eqb-true}
use Rattle.vod_thin_syntax.specs.Reader.{number_of, same_word, is_next}
use Rattle.vod_thin_syntax.specs.Syntax.{Mark, Named, Fixed}
use Rattle.vod_thin_syntax.specs.declared.words.Word.{Word}
use Rattle.vod_thin_syntax.specs.declared.words.Word.TheVariants as word

word_numbered : ℕ → Word
word_numbered n =
    cond (nat_eq n 0) word.Module (
    cond (nat_eq n 1) word.Input (
    cond (nat_eq n 2) word.Output (
    cond (nat_eq n 3) word.Wire (
    cond (nat_eq n 4) word.Reg (
    cond (nat_eq n 5) word.Assign (
    cond (nat_eq n 6) word.Always (
    cond (nat_eq n 7) word.Posedge (
    cond (nat_eq n 8) word.Endmodule (
    cond (nat_eq n 9) word.Zero (
    cond (nat_eq n 10) word.One (
    cond (nat_eq n 11) word.Open (
    cond (nat_eq n 12) word.Close (
    cond (nat_eq n 13) word.Comma (
    cond (nat_eq n 14) word.Semicolon (
    cond (nat_eq n 15) word.Equals (
    cond (nat_eq n 16) word.And (
    cond (nat_eq n 17) word.Xor (
    cond (nat_eq n 18) word.Or (
    cond (nat_eq n 19) word.Not (
    cond (nat_eq n 20) word.Event (
    word.Nonblocking)))))))))))))))))))))

numbered-of : (w : Word) → word_numbered (number_of w) ≡ w
unfolding word_numbered
numbered-of word.Module = refl
numbered-of word.Input = refl
numbered-of word.Output = refl
numbered-of word.Wire = refl
numbered-of word.Reg = refl
numbered-of word.Assign = refl
numbered-of word.Always = refl
numbered-of word.Posedge = refl
numbered-of word.Endmodule = refl
numbered-of word.Zero = refl
numbered-of word.One = refl
numbered-of word.Open = refl
numbered-of word.Close = refl
numbered-of word.Comma = refl
numbered-of word.Semicolon = refl
numbered-of word.Equals = refl
numbered-of word.And = refl
numbered-of word.Xor = refl
numbered-of word.Or = refl
numbered-of word.Not = refl
numbered-of word.Event = refl
numbered-of word.Nonblocking = refl

pub same_word-true : (v w : Word) → same_word v w ≡ true → v ≡ w
same_word-true v w h = sym (numbered-of v) ∙ ap word_numbered (eqb-true (number_of v) (number_of w) h) ∙ numbered-of w

-- the tokens begin with a word
pub next_is : (w : Word) (ts : List Mark) → is_next w ts ≡ true → (us : List Mark) × (ts ≡ Fixed w ∷ us)
next_is w [] h = cc
next_is w (Named name ∷ ts) h = cc
next_is w (Fixed v ∷ ts) h = (ts, ap (λ x. Fixed x ∷ ts) (same_word-true v w h))
