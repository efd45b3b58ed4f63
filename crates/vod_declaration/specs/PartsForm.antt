-- How lists are read.
use Rattle.std.specs.Prelude.{List, [], ◌∷◌}
use Rattle.vod_grammar.specs.Form.{Form, word_form, then, mapped, behind, repeated, separated}
use Rattle.vod_grammar.specs.Words.{is_word}
use Rattle.vod_grammar.specs.declared.word.Word.TheVariants as word

-- parts behind others, each behind its `,`
abbrev pub further : {A : Type 0} → Form A → List A → Form (List A)
further f sofar = repeated (is_word word.Comma) (behind word.Comma f) sofar

-- parts with `,` between, and `;`
abbrev pub listed : {A B : Type 0} → (List A → B) → Form A → Form B
listed change f = then (separated f) (λ xs. mapped (λ _. change xs) (word_form word.Semicolon))

-- behind `(`: a first part, others behind it, and `)`
abbrev pub enclosed : {A : Type 0} → Form A → Form A → Form (List A)
enclosed first other = then first (λ x. then (further other (x ∷ [])) (λ xs. mapped (λ _. xs) (word_form word.CloseParen)))
