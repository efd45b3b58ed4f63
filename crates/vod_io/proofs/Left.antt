-- What several reads in a row took.
use Rattle.std.proofs.Common.{◌≡◌, ℕ, suc, ◌+◌, ◌≤◌, ◌<◌, List, [], ◌∷◌, ◌++◌, length, take, drop, get_or, Option, None, Some, refl, sym, ◌∙◌, ap, append_assoc, arith, length-append}
use Rattle.std.proofs.lemmas.List.{take_all, take-append-le, take-append-drop, drop-drop}
use Rattle.std.proofs.Math.Seq.{take-suc}
use Rattle.vod_io.specs.Told.{put_back, IsTaken}

pub put_back-put_back : (a b : List ℕ) (rest : Option (List ℕ)) → put_back a (put_back b rest) ≡ put_back (a ++ b) rest
put_back-put_back a b None = refl
put_back-put_back a b (Some rest) = ap (λ v. Some v) (sym (append_assoc a b rest))

-- one more read
pub put_back-more : (a b : List ℕ) (before mid after : Option (List ℕ)) →
    before ≡ put_back a mid → mid ≡ put_back b after → before ≡ put_back (a ++ b) after
put_back-more a b before mid after first second =
    first ∙ ap (λ v. put_back a v) second ∙ put_back-put_back a b after

-- one more read that failed
pub IsTaken-more : (text : List ℕ) (before mid after : Option (List ℕ)) (some most : ℕ) →
    before ≡ put_back text mid → IsTaken mid after some → length text + some ≤ most → IsTaken before after most
IsTaken-more text before mid after some most first second fits = record {
  done = text ++ second.done;
  few = omega (arith, length-append text second.done, second.few);
  gone = put_back-more text second.done before mid after first second.gone;
}

-- a text of one byte more than `n` is its first `n` and that byte
pub take-last : (text : List ℕ) (n : ℕ) → length text ≡ n + 1 → take n text ++ get_or text n 0 ∷ [] ≡ text
take-last text n long =
    let short : n < length text = omega arith in
    let all : length text ≤ suc n = omega arith in
    sym (take-suc text n 0 short) ∙ take_all (suc n) text all

-- a read that copied the first `n` of what was left behind `at`, with what is left behind these
pub read-front : (bytes copied buf : List ℕ) (at n : ℕ) →
    copied ≡ take n (drop at bytes) → length copied ≡ n → drop at bytes ≡ take n (copied ++ drop n buf) ++ drop (at + n) bytes
read-front bytes copied buf at n is long =
    let short : n ≤ length copied = omega arith in
    let front : take n (copied ++ drop n buf) ≡ take n (drop at bytes) =
    take-append-le n copied (drop n buf) short ∙ take_all n copied (omega arith) ∙ is in
    rw (front, ← drop-drop n at bytes) (sym (take-append-drop n (drop at bytes)))
