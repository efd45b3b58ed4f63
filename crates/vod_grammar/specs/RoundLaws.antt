-- A round of a list: a phrase, or a word and a phrase behind it.
use Rattle.std.proofs.Common.{◌≡◌, ℕ, suc, List, [], ◌∷◌, ◌++◌, Bool, true, cond, None, ◌∙◌, ap}
use Rattle.vod_expr.specs.Answer.{fault_at}
use Rattle.vod_expr.specs.Grammar.{Lexeme}
use Rattle.vod_grammar.specs.Read.{Reading, Got, Failed, followed, is_next, rest_of, place_of, first, passes, behind, repeat_within}
use Rattle.vod_grammar.specs.Words.{is_word}
use Rattle.vod_grammar.specs.declared.word.Word.{Word}

pub part_read : {A : Type 0} (test : Lexeme → Bool) (read : Reading A) (n : ℕ) (sofar : List A) (ts : List Lexeme) (x : A) (rest : List Lexeme) → passes test (first ts None) ≡ true → read ts ≡ Got x rest
    → repeat_within (suc n) test read sofar ts ≡ repeat_within n test read (sofar ++ x ∷ []) rest
part_read test read n sofar ts x rest e h =
    ap (λ b. cond b (followed (read ts) (λ y more. repeat_within n test read (sofar ++ y ∷ []) more)) (Got sofar ts)) e
    ∙ ap (λ r. followed r (λ y more. repeat_within n test read (sofar ++ y ∷ []) more)) h

behind_read : {A : Type 0} (w : Word) (read : Reading A) (ts : List Lexeme) → is_next w ts ≡ true → behind w read ts ≡ read (rest_of ts)
behind_read w read ts e = ap (λ b. followed (cond b (Got (place_of ts) (rest_of ts)) (Failed (fault_at ts))) (λ _. read)) e

pub round_read : {A : Type 0} (w : Word) (read : Reading A) (n : ℕ) (sofar : List A) (ts : List Lexeme) (x : A) (rest : List Lexeme) → is_next w ts ≡ true → read (rest_of ts) ≡ Got x rest
    → repeat_within (suc n) (is_word w) (behind w read) sofar ts ≡ repeat_within n (is_word w) (behind w read) (sofar ++ x ∷ []) rest
round_read w read n sofar ts x rest e h = part_read (is_word w) (behind w read) n sofar ts x rest e (behind_read w read ts e ∙ h)
