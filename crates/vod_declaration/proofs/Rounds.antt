-- A round of a list in which each part hangs on those before it.
use Rattle.std.proofs.Common.{◌≡◌, ℕ, suc, List, [], ◌∷◌, ◌++◌, true, cond, Result, Err, sym, ◌∙◌, ap, subst}
use Rattle.vod_expr.specs.Answer.{fault_at}
use Rattle.vod_expr.specs.Grammar.{Lexeme}
use Rattle.vod_expr.specs.declared.ParseFault.{ParseFault}
use Rattle.vod_expr.specs.declared.ParseFault.TheVariants.{At, End, Statement, Memory}
use Rattle.vod_grammar.specs.Read.{Read, Reading, Got, Failed, followed, is_next, rest_of, place_of, behind, repeat_by_within}
use Rattle.vod_grammar.specs.State.{Gives}
use Rattle.vod_grammar.specs.Words.{is_word}
use Rattle.vod_grammar.specs.declared.word.Word.{Word}

behind_read : {A : Type 0} (w : Word) (read : Reading A) (ts : List Lexeme) → is_next w ts ≡ true → behind w read ts ≡ read (rest_of ts)
behind_read w read ts e = ap (λ b. followed (cond b (Got (place_of ts) (rest_of ts)) (Failed (fault_at ts))) (λ _. read)) e

pub round_by : {A : Type 0} (w : Word) (read : List A → Reading A) (n : ℕ) (sofar : List A) (ts : List Lexeme) (x : A) (rest : List Lexeme) → is_next w ts ≡ true → read sofar (rest_of ts) ≡ Got x rest
    → repeat_by_within (suc n) (is_word w) (λ before. behind w (read before)) sofar ts ≡ repeat_by_within n (is_word w) (λ before. behind w (read before)) (sofar ++ x ∷ []) rest
round_by w read n sofar ts x rest e h =
    ap (λ b. cond b (followed (behind w (read sofar) ts) (λ y more. repeat_by_within n (is_word w) (λ before. behind w (read before)) (sofar ++ y ∷ []) more)) (Got sofar ts)) e
    ∙ ap (λ r. followed r (λ y more. repeat_by_within n (is_word w) (λ before. behind w (read before)) (sofar ++ y ∷ []) more)) (behind_read w (read sofar) ts e ∙ h)

pub round_fails : {A : Type 0} (w : Word) (read : List A → Reading A) (n : ℕ) (sofar : List A) (ts : List Lexeme) (fault : ParseFault) → is_next w ts ≡ true → read sofar (rest_of ts) ≡ Failed fault
    → repeat_by_within (suc n) (is_word w) (λ before. behind w (read before)) sofar ts ≡ Failed fault
round_fails w read n sofar ts fault e h =
    ap (λ b. cond b (followed (behind w (read sofar) ts) (λ y more. repeat_by_within n (is_word w) (λ before. behind w (read before)) (sofar ++ y ∷ []) more)) (Got sofar ts)) e
    ∙ ap (λ r. followed r (λ y more. repeat_by_within n (is_word w) (λ before. behind w (read before)) (sofar ++ y ∷ []) more)) (behind_read w (read sofar) ts e ∙ h)

-- a fault of a part is the fault of the whole
same_fault : {A B : Type 0} (f : ParseFault) (rest more : List Lexeme) (part : Read A) (whole : Read B) → Gives (Err f) more part → ((g : ParseFault) → part ≡ Failed g → whole ≡ Failed g) → Gives (Err f) rest whole
same_fault (At place) rest more part whole h on = on (At place) h
same_fault End rest more part whole h on = on End h
same_fault (Statement place) rest more part whole h on = on (Statement place) h
same_fault Memory rest more part whole h on = tt

pub handed_on : {A B : Type 0} (r : Result B ParseFault) (x f : ParseFault) (rest more : List Lexeme) (part : Read A) (whole : Read B) → r ≡ Err x → x ≡ f → Gives (Err f) more part
    → ((g : ParseFault) → part ≡ Failed g → whole ≡ Failed g) → Gives r rest whole
handed_on r x f rest more part whole a b h on = subst (λ v. Gives v rest whole) (sym (a ∙ ap Err b)) (same_fault f rest more part whole h on)
