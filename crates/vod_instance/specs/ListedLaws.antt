-- Lists with `,` between are the phrases of the form of such lists.
use Rattle.std.proofs.Common.{◌≡◌, List, Option, Some, false}
use Rattle.vod_expr.specs.Grammar.{Lexeme}
use Rattle.vod_grammar.specs.Form.{Form, Sight, separated}
use Rattle.vod_grammar.specs.ListLaws.{Commas, commas_of, of_commas, last as commas_last, next as commas_next}
use Rattle.vod_grammar.specs.Read.{passes}
use Rattle.vod_grammar.specs.Words.{is_word}
use Rattle.vod_grammar.specs.declared.word.Word.TheVariants as word
use Rattle.vod_instance.specs.Listed.{Relation, AreListed, last, next}

-- the phrases of a form are such parts
abbrev pub Are : {A : Type 0} → Form A → Relation A → Type 0
Are {A} f R = (m : Sight) (ts : List Lexeme) (x : A) (b : Option Lexeme) → f.phrase m ts x b → R ts x

-- such parts are phrases of it, whatever follows
abbrev pub Fit : {A : Type 0} → Form A → Relation A → Type 0
Fit {A} f R = (m : Sight) (ts : List Lexeme) (x : A) (b : Option Lexeme) → R ts x → f.phrase m ts x b

commas_listed : {A : Type 0} (f : Form A) (R : Relation A) → Are f R → (m : Sight) (ts : List Lexeme) (xs : List A) (b : Option Lexeme) → Commas f.phrase m ts xs b → AreListed R ts xs
commas_listed f R is m ts _ b (commas_last {x = x} stop p) = last (is m ts x b p)
commas_listed f R is m _ _ b (commas_next {us = us} {vs = vs} {t = t} {x = x} {xs = xs} h p c) = next (is m us x (Some t) p) h (commas_listed f R is m vs xs b c)

pub listed_of : {A : Type 0} (f : Form A) (R : Relation A) → Are f R → (m : Sight) (ts : List Lexeme) (xs : List A) (b : Option Lexeme) → (separated f).phrase m ts xs b → AreListed R ts xs
listed_of f R is m ts xs b p = commas_listed f R is m ts xs b (commas_of f m ts xs b p)

listed_commas : {A : Type 0} (f : Form A) (R : Relation A) → Fit f R → (m : Sight) (ts : List Lexeme) (xs : List A) (b : Option Lexeme) → passes (is_word word.Comma) b ≡ false → AreListed R ts xs → Commas f.phrase m ts xs b
listed_commas f R fit m ts _ b n (last {x = x} d) = commas_last (λ e. n) (fit m ts x b d)
listed_commas f R fit m _ _ b n (next {comma = comma} {ts = ts} {us = us} {x = x} {xs = xs} d h ds) = commas_next h (fit m ts x (Some comma) d) (listed_commas f R fit m us xs b n ds)

pub of_listed : {A : Type 0} (f : Form A) (R : Relation A) → Fit f R → (m : Sight) (ts : List Lexeme) (xs : List A) (b : Option Lexeme) → passes (is_word word.Comma) b ≡ false → AreListed R ts xs → (separated f).phrase m ts xs b
of_listed f R fit m ts xs b n d = of_commas f m ts xs b (listed_commas f R fit m ts xs b n d)
