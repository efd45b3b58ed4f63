-- The words, numbers and symbols of the thin form, and the tokens that they are.
use Rattle.std.proofs.Common.{◌≡◌, ℕ, List, Bool, true, false, cond, Option, None, Some, refl, ◌∙◌, ap, subst, lit<}
use Rattle.std.proofs.lemmas.Slice.Eq.{bytes_eq-Decides}
use Rattle.std.specs.Str.{bytes_eq}
use Rattle.vod_token.specs.Cut.{wrong_with}
use Rattle.vod_token.specs.Form.{Form, IsSpelled}
use Rattle.vod_token.specs.Form.Form.{Word as word_form, Plain, Symbol}
use Rattle.vod_thin_syntax.specs.Words.{spelling, keyword_of, symbol_of, or_else, if_spelled, word_of}
use Rattle.vod_thin_syntax.specs.declared.words.Word.{Word}
use Rattle.vod_thin_syntax.specs.declared.words.Word.TheVariants.{Module, Input, Output, Wire, Reg, Assign, Always, Posedge, Endmodule, Zero, One, Open, Close, Comma, Semicolon, Equals, And, Xor, Or, Not, Event, Nonblocking}

some_same : {A : Type 0} {a b : A} → Some a ≡ Some b → a ≡ b
some_same h = cc

-- what is found is spelled so, where it is in the rest of the table
picked : (text : List ℕ) (v : Word) (more : Option Word) → ((w : Word) → more ≡ Some w → text ≡ spelling w) → (w : Word) → if_spelled text v more ≡ Some w → text ≡ spelling w
picked text v more m w h = by_test (bytes_eq text (spelling v)) refl h
  where
    by_test : (t : Bool) → bytes_eq text (spelling v) ≡ t → cond t (Some v) more ≡ Some w → text ≡ spelling w
    by_test true e k = let same : v ≡ w = some_same k in (bytes_eq-Decides text (spelling v)).0 e ∙ ap spelling same
    by_test false e k = m w k

nothing_picked : (text : List ℕ) (w : Word) → None ≡ Some w → text ≡ spelling w
nothing_picked text w h = cc

keyword_spelled : (text : List ℕ) (w : Word) → keyword_of text ≡ Some w → text ≡ spelling w
unfolding keyword_of
keyword_spelled text =
    picked text Module _ (
    picked text Input _ (
    picked text Output _ (
    picked text Wire _ (
    picked text Reg _ (
    picked text Assign _ (
    picked text Always _ (
    picked text Posedge _ (
    picked text Endmodule _ (
    picked text Zero _ (
    picked text One _ (
    nothing_picked text)))))))))))

symbol_spelled : (text : List ℕ) (w : Word) → symbol_of text ≡ Some w → text ≡ spelling w
unfolding symbol_of
symbol_spelled text =
    picked text Open _ (
    picked text Close _ (
    picked text Comma _ (
    picked text Semicolon _ (
    picked text Equals _ (
    picked text And _ (
    picked text Xor _ (
    picked text Or _ (
    picked text Not _ (
    picked text Event _ (
    picked text Nonblocking _ (
    nothing_picked text)))))))))))

pub word_spelled : (text : List ℕ) (w : Word) → word_of text ≡ Some w → text ≡ spelling w
word_spelled text w h = by_keyword (keyword_of text) refl h
  where
    by_keyword : (found : Option Word) → keyword_of text ≡ found → or_else found (symbol_of text) ≡ Some w → text ≡ spelling w
    by_keyword (Some v) e k = let same : v ≡ w = some_same k in keyword_spelled text v e ∙ ap spelling same
    by_keyword None e k = symbol_spelled text w k

-- each is found by its spelling
pub spelled_word : (w : Word) → word_of (spelling w) ≡ Some w
unfolding keyword_of symbol_of
spelled_word Module = refl
spelled_word Input = refl
spelled_word Output = refl
spelled_word Wire = refl
spelled_word Reg = refl
spelled_word Assign = refl
spelled_word Always = refl
spelled_word Posedge = refl
spelled_word Endmodule = refl
spelled_word Zero = refl
spelled_word One = refl
spelled_word Open = refl
spelled_word Close = refl
spelled_word Comma = refl
spelled_word Semicolon = refl
spelled_word Equals = refl
spelled_word And = refl
spelled_word Xor = refl
spelled_word Or = refl
spelled_word Not = refl
spelled_word Event = refl
spelled_word Nonblocking = refl

-- one form of token for each text
abbrev pub OneForm : Type 0
OneForm = (text : List ℕ) (f g : Form) → IsSpelled text f → IsSpelled text g → f ≡ g

right_as : OneForm → (text : List ℕ) (f g : Form) → wrong_with 0 0 f ≡ None → IsSpelled text f → IsSpelled text g → wrong_with 0 0 g ≡ None
right_as one text f g right h k = subst (λ v. wrong_with 0 0 v ≡ None) (one text f g h k) right

-- no word, number or symbol is past a limit
pub word_right : OneForm → (w : Word) (g : Form) → IsSpelled (spelling w) g → wrong_with 0 0 g ≡ None
word_right one Module g k = right_as one (spelling Module) word_form g refl (refl, (refl, (refl, (refl, (refl, (refl, tt)))))) k
word_right one Input g k = right_as one (spelling Input) word_form g refl (refl, (refl, (refl, (refl, (refl, tt))))) k
word_right one Output g k = right_as one (spelling Output) word_form g refl (refl, (refl, (refl, (refl, (refl, (refl, tt)))))) k
word_right one Wire g k = right_as one (spelling Wire) word_form g refl (refl, (refl, (refl, (refl, tt)))) k
word_right one Reg g k = right_as one (spelling Reg) word_form g refl (refl, (refl, (refl, tt))) k
word_right one Assign g k = right_as one (spelling Assign) word_form g refl (refl, (refl, (refl, (refl, (refl, (refl, tt)))))) k
word_right one Always g k = right_as one (spelling Always) word_form g refl (refl, (refl, (refl, (refl, (refl, (refl, tt)))))) k
word_right one Posedge g k = right_as one (spelling Posedge) word_form g refl (refl, (refl, (refl, (refl, (refl, (refl, (refl, tt))))))) k
word_right one Endmodule g k = right_as one (spelling Endmodule) word_form g refl (refl, (refl, (refl, (refl, (refl, (refl, (refl, (refl, (refl, tt))))))))) k
word_right one Zero g k = right_as one (spelling Zero) (Plain 0) g refl ((refl, tt), refl) k
word_right one One g k = right_as one (spelling One) (Plain 1) g refl ((refl, tt), refl) k
word_right one Open g k = right_as one (spelling Open) Symbol g refl (29, lit< tt, refl) k
word_right one Close g k = right_as one (spelling Close) Symbol g refl (30, lit< tt, refl) k
word_right one Comma g k = right_as one (spelling Comma) Symbol g refl (35, lit< tt, refl) k
word_right one Semicolon g k = right_as one (spelling Semicolon) Symbol g refl (36, lit< tt, refl) k
word_right one Equals g k = right_as one (spelling Equals) Symbol g refl (28, lit< tt, refl) k
word_right one And g k = right_as one (spelling And) Symbol g refl (21, lit< tt, refl) k
word_right one Xor g k = right_as one (spelling Xor) Symbol g refl (23, lit< tt, refl) k
word_right one Or g k = right_as one (spelling Or) Symbol g refl (22, lit< tt, refl) k
word_right one Not g k = right_as one (spelling Not) Symbol g refl (20, lit< tt, refl) k
word_right one Event g k = right_as one (spelling Event) Symbol g refl (39, lit< tt, refl) k
word_right one Nonblocking g k = right_as one (spelling Nonblocking) Symbol g refl (6, lit< tt, refl) k
