-- Words as tokens are tested for them.
use Rattle.std.proofs.Common.{◌≡◌, Bool, true, false, ◌&&◌, refl, ◌∙◌, ap}
use Rattle.std.proofs.lemmas.Slice.Eq.{bytes_eq-Decides}
use Rattle.std.specs.Str.{bytes_eq}
use Rattle.vod_token.specs.declared.TokenKind.{TokenKind}
use Rattle.vod_token.specs.declared.TokenKind.TheVariants as kinds
use Rattle.vod_expr.specs.Grammar.{Lexeme, IsName}
use Rattle.vod_grammar.specs.Words.{Is, is_word, is_text_of, is_symbol, kind_by, kind_of, same_kind, spelling, are_same}
use Rattle.vod_grammar.specs.declared.word.Word.{Word}

both_true : (a b : Bool) → (a && b) ≡ true → (a ≡ true) × (b ≡ true)
both_true true b h = (refl, h)
both_true false b h = cc

kinds_same : (a b : TokenKind) → same_kind a b ≡ true → a ≡ b
kinds_same kinds.Name kinds.Name h = refl
kinds_same kinds.Name kinds.Reserved h = cc
kinds_same kinds.Name kinds.Number h = cc
kinds_same kinds.Name kinds.Directive h = cc
kinds_same kinds.Name kinds.Symbol h = cc
kinds_same kinds.Reserved kinds.Name h = cc
kinds_same kinds.Reserved kinds.Reserved h = refl
kinds_same kinds.Reserved kinds.Number h = cc
kinds_same kinds.Reserved kinds.Directive h = cc
kinds_same kinds.Reserved kinds.Symbol h = cc
kinds_same kinds.Number kinds.Name h = cc
kinds_same kinds.Number kinds.Reserved h = cc
kinds_same kinds.Number kinds.Number h = refl
kinds_same kinds.Number kinds.Directive h = cc
kinds_same kinds.Number kinds.Symbol h = cc
kinds_same kinds.Directive kinds.Name h = cc
kinds_same kinds.Directive kinds.Reserved h = cc
kinds_same kinds.Directive kinds.Number h = cc
kinds_same kinds.Directive kinds.Directive h = refl
kinds_same kinds.Directive kinds.Symbol h = cc
kinds_same kinds.Symbol kinds.Name h = cc
kinds_same kinds.Symbol kinds.Reserved h = cc
kinds_same kinds.Symbol kinds.Number h = cc
kinds_same kinds.Symbol kinds.Directive h = cc
kinds_same kinds.Symbol kinds.Symbol h = refl

pub kind_same : (a b : TokenKind) → same_kind a b ≡ true → a ≡ b
kind_same = kinds_same

pub same_kind-refl : (a : TokenKind) → same_kind a a ≡ true
same_kind-refl kinds.Name = refl
same_kind-refl kinds.Reserved = refl
same_kind-refl kinds.Number = refl
same_kind-refl kinds.Directive = refl
same_kind-refl kinds.Symbol = refl

-- the test tells the words
pub word_is : (w : Word) (t : Lexeme) → is_word w t ≡ true → Is w t
unfolding is_text_of
word_is w t h =
    let p = both_true (same_kind t.kind (kind_of w)) (bytes_eq t.text (spelling w)) h in
    record { kind = kind_same t.kind (kind_of w) p.0; text = (bytes_eq-Decides t.text (spelling w)).0 p.1 }

pub is_word-is : (w : Word) (t : Lexeme) → Is w t → is_word w t ≡ true
unfolding is_text_of
is_word-is w t h =
    ap (λ k. same_kind k (kind_of w) && bytes_eq t.text (spelling w)) h.kind
    ∙ ap (λ b. b && bytes_eq t.text (spelling w)) (same_kind-refl (kind_of w))
    ∙ (bytes_eq-Decides t.text (spelling w)).1 h.text

-- a word is another one as far as they are spelled alike; no name and no number is a word
pub is_word-other : (v w : Word) (t : Lexeme) → Is w t → is_word v t ≡ are_same v w
unfolding is_text_of
is_word-other v w t h =
    ap (λ k. same_kind k (kind_of v) && bytes_eq t.text (spelling v)) h.kind ∙ ap (λ x. same_kind (kind_of w) (kind_of v) && bytes_eq x (spelling v)) h.text

name_is_none : (b : Bool) → same_kind kinds.Name (kind_by b) ≡ false
name_is_none true = refl
name_is_none false = refl

number_is_none : (b : Bool) → same_kind kinds.Number (kind_by b) ≡ false
number_is_none true = refl
number_is_none false = refl

pub is_word-name : (w : Word) (t : Lexeme) → IsName t → is_word w t ≡ false
unfolding is_text_of
is_word-name w t h =
    ap (λ k. same_kind k (kind_of w) && bytes_eq t.text (spelling w)) h ∙ ap (λ b. b && bytes_eq t.text (spelling w)) (name_is_none (is_symbol w))

pub is_word-number : (w : Word) (t : Lexeme) → t.kind ≡ kinds.Number → is_word w t ≡ false
unfolding is_text_of
is_word-number w t h =
    ap (λ k. same_kind k (kind_of w) && bytes_eq t.text (spelling w)) h ∙ ap (λ b. b && bytes_eq t.text (spelling w)) (number_is_none (is_symbol w))

-- some token is the word
pub word_token : Word → Lexeme
word_token w = record { kind = kind_of w; text = spelling w; place = 0 }

pub word_token-is : (w : Word) → Is w (word_token w)
unfolding word_token
word_token-is w = record { kind = refl; text = refl }
