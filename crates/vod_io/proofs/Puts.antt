-- What several writes in a row took of one text.
--
-- Written one after another: `appended-more` joins the texts that were put whole. Where a write failed,
-- `Written-stopped` is the exit, over `stopped_in_first` and `stopped_in_second`, which say of `first ++ second`
-- in which of the two that was. `Written-then` is the exit of a last write whose result is returned as it is.
--
-- In a loop: start with `Puts-start`, go on by `Puts-piece` after each piece that was put whole, and end with
-- `Written-last`, or with `Puts-part` where a piece failed.
use Rattle.std.proofs.Common.{◌≡◌, ℕ, ◌-◌, List, [], ◌++◌, length, take, drop, Option, None, Some, Result, Ok, Err, IsErr, refl, sym, ◌∙◌, ap, append_assoc, append-nil, arith}
use Rattle.std.proofs.lemmas.Grind.{common_steps}
use Rattle.std.proofs.lemmas.List.{take-append-drop, take_all}
use Rattle.vod_io.specs.Told.{appended, Puts, Written}

pub appended-nothing : (before : Option (List ℕ)) → appended before [] ≡ before
appended-nothing None = refl
appended-nothing (Some held) = ap (λ v. Some v) (append-nil held)

pub appended-appended : (before : Option (List ℕ)) (a b : List ℕ) → appended (appended before a) b ≡ appended before (a ++ b)
appended-appended None a b = refl
appended-appended (Some held) a b = ap (λ v. Some v) (append_assoc held a b)

-- two writes in a row
pub appended-more : (a b : List ℕ) (before mid after : Option (List ℕ)) →
    mid ≡ appended before a → after ≡ appended mid b → after ≡ appended before (a ++ b)
appended-more a b before mid after first second =
    second ∙ ap (λ v. appended v b) first ∙ appended-appended before a b

-- nothing is written yet
pub Puts-start : (before : Option (List ℕ)) (text : List ℕ) → Puts before before text text
Puts-start before text = record { done = []; whole = refl; taken = sym (appended-nothing before) }

-- a further piece was put whole
pub Puts-piece : (before mid after : Option (List ℕ)) (text piece rest : List ℕ) →
    Puts before mid text (piece ++ rest) → after ≡ appended mid piece → Puts before after text rest
Puts-piece before mid after text piece rest so_far put = record {
  done = so_far.done ++ piece;
  whole = append_assoc so_far.done piece rest ∙ so_far.whole;
  taken = appended-more so_far.done piece before mid after so_far.taken put;
}

-- a prefix of what was left to put was put
pub Puts-last : (before mid after : Option (List ℕ)) (text piece rest : List ℕ) →
    Puts before mid text piece → Puts mid after piece rest → Puts before after text rest
Puts-last before mid after text piece rest so_far put = record {
  done = so_far.done ++ put.done;
  whole = append_assoc so_far.done put.done rest ∙ ap (λ v. so_far.done ++ v) put.whole ∙ so_far.whole;
  taken = appended-more so_far.done put.done before mid after so_far.taken put.taken;
}

-- a prefix of a further piece was put
pub Puts-part : (before mid after : Option (List ℕ)) (text piece rest part : List ℕ) →
    Puts before mid text (piece ++ rest) → Puts mid after piece part → Puts before after text (part ++ rest)
Puts-part before mid after text piece rest part so_far put = Puts-last before mid after text (piece ++ rest) (part ++ rest) so_far record {
  done = put.done;
  whole = sym (append_assoc put.done part rest) ∙ ap (λ v. v ++ rest) put.whole;
  taken = put.taken;
}

-- the first bytes of what was left to put were put
pub Puts-front : (before mid after : Option (List ℕ)) (text rest : List ℕ) (n : ℕ) →
    Puts before mid text rest → after ≡ appended mid (take n rest) → Puts before after text (take (length rest - n) (drop n rest))
Puts-front before mid after text rest n so_far put =
    let parts : take n rest ++ take (length rest - n) (drop n rest) ≡ rest = grind (arith, common_steps, take_all, take-append-drop) in
    Puts-piece before mid after text (take n rest) (take (length rest - n) (drop n rest)) (rw parts so_far) put

-- the last piece was written, and so the text
pub Written-last : {T E : Type 0} (before mid after : Option (List ℕ)) (text piece : List ℕ) (result : Result T E) →
    Puts before mid text piece → Written result mid after piece → Written result before after text
Written-last before mid after text piece (Ok x) so_far put =
    appended-more so_far.done piece before mid after so_far.taken put ∙ ap (λ v. appended before v) so_far.whole
Written-last before mid after text piece (Err e) so_far put =
    (put.0, Puts-last before mid after text piece put.0 so_far put.1)

-- one text was put whole, and a second written
pub Written-then : {T E : Type 0} (before mid after : Option (List ℕ)) (first second : List ℕ) (result : Result T E) →
    mid ≡ appended before first → Written result mid after second → Written result before after (first ++ second)
Written-then before mid after first second result put written =
    Written-last before mid after (first ++ second) second result (record { done = first; whole = refl; taken = put }) written

-- a write failed, and a prefix was put
pub Written-stopped : {T E : Type 0} (before after : Option (List ℕ)) (text : List ℕ) (result : Result T E) →
    IsErr result → ((rest : List ℕ) × Puts before after text rest) → Written result before after text
Written-stopped before after text (Ok x) failed part = cc
Written-stopped before after text (Err e) failed part = part

-- a prefix of a first text was put, and the second wasn't begun
pub stopped_in_first : (before after : Option (List ℕ)) (first second : List ℕ) →
    ((rest : List ℕ) × Puts before after first rest) → (rest : List ℕ) × Puts before after (first ++ second) rest
stopped_in_first before after first second part =
    let start = Puts-start before (first ++ second) in
    (part.0 ++ second, Puts-part before before after (first ++ second) first second part.0 start part.1)

-- a first text was put whole, and a prefix of the second
pub stopped_in_second : (before mid after : Option (List ℕ)) (first second : List ℕ) → mid ≡ appended before first →
    ((rest : List ℕ) × Puts mid after second rest) → (rest : List ℕ) × Puts before after (first ++ second) rest
stopped_in_second before mid after first second put part =
    let so_far : Puts before mid (first ++ second) second = record { done = first; whole = refl; taken = put } in
    (part.0, Puts-last before mid after (first ++ second) second part.0 so_far part.1)
