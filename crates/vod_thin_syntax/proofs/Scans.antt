-- The tokens of a right side, up to its `;`.
use Rattle.std.proofs.Common.{◌≡◌, ℕ, zero, suc, List, [], ◌∷◌, ◌++◌, refl, sym, ◌∙◌, ap, subst, append_assoc, append-nil, Bool, true, false, ◌&&◌, cond, Option, None, Some}
use Rattle.vod_thin_syntax.proofs.Steady.{Takes, Stuck, Steady, Example, got_value, got_rest, refused_rest}
use Rattle.vod_thin_syntax.proofs.Rounds.{next_same}
use Rattle.vod_thin_syntax.specs.Reader.{Got, Refused, is_next, rest_of, after_mark, may_end, step_by, step_read, goes_on, scan_read, value_read}
use Rattle.vod_thin_syntax.specs.Syntax.{Name, Mark, Named, Fixed}
use Rattle.vod_thin_syntax.specs.declared.scan.Head.{Head}
use Rattle.vod_thin_syntax.specs.declared.scan.Head.TheVariants as head
use Rattle.vod_thin_syntax.specs.declared.scan.Scan.{Scan}
use Rattle.vod_thin_syntax.specs.declared.words.Word.TheVariants as word

-- a right side ends here
abbrev pub ends : Scan → List Mark → Bool
ends s ts = is_next word.Semicolon ts && may_end s

ends_same : (s : Scan) (t : Mark) (us vs : List Mark) → ends s (t ∷ us) ≡ ends s (t ∷ vs)
ends_same s t us vs = ap (λ b. b && may_end s) (next_same word.Semicolon t us vs)

-- one token of a scan
pub scan_ends : (s : Scan) (sofar : List Mark) (t : Mark) (ts : List Mark) → ends s (t ∷ ts) ≡ true → scan_read s sofar (t ∷ ts) ≡ Got sofar ts
scan_ends s sofar t ts e = ap (λ b. cond b (Got sofar ts) (goes_on (after_mark t s) (t ∷ ts) (λ next. scan_read next (sofar ++ t ∷ []) ts))) e

pub scan_goes : (s : Scan) (sofar : List Mark) (t : Mark) (ts : List Mark) → ends s (t ∷ ts) ≡ false → scan_read s sofar (t ∷ ts) ≡ goes_on (after_mark t s) (t ∷ ts) (λ next. scan_read next (sofar ++ t ∷ []) ts)
scan_goes s sofar t ts e = ap (λ b. cond b (Got sofar ts) (goes_on (after_mark t s) (t ∷ ts) (λ next. scan_read next (sofar ++ t ∷ []) ts))) e

scan_next : (s : Scan) (sofar : List Mark) (t : Mark) (ts : List Mark) (next : Scan) → ends s (t ∷ ts) ≡ false → after_mark t s ≡ Some next → scan_read s sofar (t ∷ ts) ≡ scan_read next (sofar ++ t ∷ []) ts
scan_next s sofar t ts next e f = scan_goes s sofar t ts e ∙ ap (λ o. goes_on o (t ∷ ts) (λ next. scan_read next (sofar ++ t ∷ []) ts)) f

scan_refused : (s : Scan) (sofar : List Mark) (t : Mark) (ts : List Mark) → ends s (t ∷ ts) ≡ false → after_mark t s ≡ None → scan_read s sofar (t ∷ ts) ≡ Refused (t ∷ ts)
scan_refused s sofar t ts e f = scan_goes s sofar t ts e ∙ ap (λ o. goes_on o (t ∷ ts) (λ next. scan_read next (sofar ++ t ∷ []) ts)) f

-- tokens that close what is open
pub closes : ℕ → List Mark
closes zero = []
closes (suc depth) = Fixed word.Close ∷ closes depth

close_read : (depth : ℕ) (sofar other : List Mark) → scan_read (record { head = head.Behind; depth = depth }) sofar (closes depth ++ Fixed word.Semicolon ∷ other) ≡ Got (sofar ++ closes depth) other
unfolding closes
close_read zero sofar other = ap (λ v. Got v other) (sym (append-nil sofar))
close_read (suc depth) sofar other =
    close_read depth (sofar ++ Fixed word.Close ∷ []) other ∙ ap (λ v. Got v other) (append_assoc sofar (Fixed word.Close ∷ []) (closes depth))

some_name : Name
some_name = record { place = 0; bytes = [] }

closing : Head → ℕ → List Mark
closing head.Operand depth = Named some_name ∷ closes depth
closing head.Inverted depth = Named some_name ∷ closes depth
closing head.Behind depth = closes depth

closing_read : (h : Head) (depth : ℕ) (sofar other : List Mark) → scan_read (record { head = h; depth = depth }) sofar (closing h depth ++ Fixed word.Semicolon ∷ other) ≡ Got (sofar ++ closing h depth) other
unfolding closing
closing_read head.Operand depth sofar other =
    close_read depth (sofar ++ Named some_name ∷ []) other ∙ ap (λ v. Got v other) (append_assoc sofar (Named some_name ∷ []) (closes depth))
closing_read head.Inverted depth sofar other =
    close_read depth (sofar ++ Named some_name ∷ []) other ∙ ap (λ v. Got v other) (append_assoc sofar (Named some_name ∷ []) (closes depth))
closing_read head.Behind depth sofar other = close_read depth sofar other

scan_example : (s : Scan) (sofar : List Mark) → Example (scan_read s sofar)
scan_example s sofar = record {
  marks = closing s.head s.depth ++ Fixed word.Semicolon ∷ [];
  value = sofar ++ closing s.head s.depth;
  goes = λ other. ap (scan_read s sofar) (append_assoc (closing s.head s.depth) (Fixed word.Semicolon ∷ []) other) ∙ closing_read s.head s.depth sofar other;
}

scan_takes : (ts : List Mark) (s : Scan) (sofar value rest : List Mark) → scan_read s sofar ts ≡ Got value rest → Takes (scan_read s sofar) ts value rest
scan_takes [] s sofar value rest h = cc
scan_takes (t ∷ ts) s sofar value rest h = by_end (λ next. scan_takes ts next (sofar ++ t ∷ []) value rest) (ends s (t ∷ ts)) refl
  where
    by_next : (o : Option Scan) → after_mark t s ≡ o → ends s (t ∷ ts) ≡ false → ((next : Scan) → scan_read next (sofar ++ t ∷ []) ts ≡ Got value rest → Takes (scan_read next (sofar ++ t ∷ [])) ts value rest)
        → Takes (scan_read s sofar) (t ∷ ts) value rest
    by_next None e f more = let none = scan_refused s sofar t ts f e in cc
    by_next (Some next) e f more =
        let p = more next (sym (scan_next s sofar t ts next f e) ∙ h) in
        record {
          front = t ∷ p.front;
          split = ap (λ v. t ∷ v) p.split;
          same = λ other. scan_next s sofar t (p.front ++ other) next (ends_same s t (p.front ++ other) ts ∙ f) e ∙ p.same other;
        }

    by_end : ((next : Scan) → scan_read next (sofar ++ t ∷ []) ts ≡ Got value rest → Takes (scan_read next (sofar ++ t ∷ [])) ts value rest) → (b : Bool) → ends s (t ∷ ts) ≡ b → Takes (scan_read s sofar) (t ∷ ts) value rest
    by_end more true f =
        let got : Got sofar ts ≡ Got value rest = sym (scan_ends s sofar t ts f) ∙ h in
        record { front = t ∷ []; split = ap (λ v. t ∷ v) (got_rest got); same = λ other. scan_ends s sofar t other (ends_same s t other ts ∙ f) ∙ ap (λ v. Got v other) (got_value got) }
    by_end more false f = by_next (after_mark t s) refl f more

scan_stuck : (ts : List Mark) (s : Scan) (sofar rest : List Mark) → scan_read s sofar ts ≡ Refused rest → Stuck (scan_read s sofar) ts rest
scan_stuck [] s sofar rest h =
    let example = scan_example s sofar in
    record { front = []; split = refused_rest h; more = example.marks; value = example.value; goes = example.goes; same = λ t us e other. let none : [] ≡ t ∷ us = refused_rest h ∙ e in cc }
scan_stuck (t ∷ ts) s sofar rest h = by_end (λ next. scan_stuck ts next (sofar ++ t ∷ []) rest) (ends s (t ∷ ts)) refl
  where
    by_next : (o : Option Scan) → after_mark t s ≡ o → ends s (t ∷ ts) ≡ false → ((next : Scan) → scan_read next (sofar ++ t ∷ []) ts ≡ Refused rest → Stuck (scan_read next (sofar ++ t ∷ [])) ts rest)
        → Stuck (scan_read s sofar) (t ∷ ts) rest
    by_next None e f more =
        let example = scan_example s sofar in
        let whole : t ∷ ts ≡ rest = refused_rest (sym (scan_refused s sofar t ts f e) ∙ h) in
        record {
          front = [];
          split = whole;
          more = example.marks;
          value = example.value;
          goes = example.goes;
          same = λ u us g other.
              let same : t ≡ u = (let both : t ∷ ts ≡ u ∷ us = whole ∙ g in cc) in
              subst (λ v. scan_read s sofar (v ∷ other) ≡ Refused (v ∷ other)) same (scan_refused s sofar t other (ends_same s t other ts ∙ f) e);
        }
    by_next (Some next) e f more =
        let p = more next (sym (scan_next s sofar t ts next f e) ∙ h) in
        record {
          front = t ∷ p.front;
          split = ap (λ v. t ∷ v) p.split;
          more = p.more;
          value = p.value;
          goes = λ other. scan_next s sofar t (p.front ++ (p.more ++ other)) next (ends_same s t (p.front ++ (p.more ++ other)) ts ∙ f) e ∙ p.goes other;
          same = λ u us g other. scan_next s sofar t (p.front ++ u ∷ other) next (ends_same s t (p.front ++ u ∷ other) ts ∙ f) e ∙ p.same u us g other;
        }

    by_end : ((next : Scan) → scan_read next (sofar ++ t ∷ []) ts ≡ Refused rest → Stuck (scan_read next (sofar ++ t ∷ [])) ts rest) → (b : Bool) → ends s (t ∷ ts) ≡ b → Stuck (scan_read s sofar) (t ∷ ts) rest
    by_end more true f = let got = scan_ends s sofar t ts f in cc
    by_end more false f = by_next (after_mark t s) refl f more

pub scan_steady : (s : Scan) (sofar : List Mark) → Steady (scan_read s sofar)
scan_steady s sofar = record { example = scan_example s sofar; takes = λ ts x rest h. scan_takes ts s sofar x rest h; stuck = λ ts rest h. scan_stuck ts s sofar rest h }

pub value_steady : Steady value_read
unfolding value_read
value_steady = scan_steady (record { head = head.Operand; depth = 0 }) []

-- what a step gives, as the code goes
pub step_ends : (s : Scan) (sofar ts : List Mark) → ends s ts ≡ true → scan_read s sofar ts ≡ Got sofar (rest_of ts)
step_ends s sofar [] e = cc
step_ends s sofar (t ∷ ts) e = scan_ends s sofar t ts e

-- it reads one token
pub record Stepped (s next : Scan) (ts rest : List Mark) : Type 0 where
  pub token : Mark
  pub split : ts ≡ token ∷ rest
  pub goes : (sofar : List Mark) → ends s ts ≡ false → scan_read s sofar ts ≡ scan_read next (sofar ++ token ∷ []) rest

pub stepped : (s next : Scan) (ts rest : List Mark) → step_read s ts ≡ Got next rest → Stepped s next ts rest
stepped s next [] rest h = cc
stepped s next (t ∷ ts) rest h = by_next (after_mark t s) refl h
  where
    by_next : (o : Option Scan) → after_mark t s ≡ o → step_by o t ts ≡ Got next rest → Stepped s next (t ∷ ts) rest
    by_next None e f = cc
    by_next (Some other) e f =
        let same : other ≡ next = got_value f in
        let left : ts ≡ rest = got_rest f in
        record {
          token = t;
          split = ap (λ v. t ∷ v) left;
          goes = λ sofar g. scan_next s sofar t ts next g (e ∙ ap Some same) ∙ ap (scan_read next (sofar ++ t ∷ [])) left;
        }

pub step_refused : (s : Scan) (sofar ts rest : List Mark) → ends s ts ≡ false → step_read s ts ≡ Refused rest → scan_read s sofar ts ≡ Refused rest
step_refused s sofar [] rest e h = ap Refused (refused_rest h)
step_refused s sofar (t ∷ ts) rest e h = by_next (after_mark t s) refl h
  where
    by_next : (o : Option Scan) → after_mark t s ≡ o → step_by o t ts ≡ Refused rest → scan_read s sofar (t ∷ ts) ≡ Refused rest
    by_next None f g = scan_refused s sofar t ts e f ∙ ap Refused (refused_rest g)
    by_next (Some other) f g = cc
