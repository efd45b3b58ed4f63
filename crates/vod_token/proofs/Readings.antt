-- What a whole reading says: where its tokens lie, and which faults there are.
use Rattle.std.proofs.Common.{◌≡◌, ℕ, zero, suc, ◌+◌, ◌-◌, ◌^◌, ◌≤◌, List, [], ◌∷◌, ◌++◌, arith, length, take, drop, refl, sym, ◌∙◌, ap, cond, true, false, ◌&&◌, ◌==◌, Bool, Option, Some, None, Result, Ok, Err, subst, length-append, append-nil}
use Rattle.std.proofs.lemmas.Grind.{common_steps}
use Rattle.std.proofs.Math.Seq.{take-append_seam, drop-append_seam}
use Rattle.std.proofs.lemmas.List.{drop-drop}
use Rattle.std.specs.Prelude.{All, IfSome, IfOk, IfErr, MatchResult, ◌≢◌, nat_le, nat_lt, ⊤}
use Rattle.vod_token.proofs.Cuts.{made, taken, one_fall}
use Rattle.vod_token.proofs.Lexemes.{spelled_some}
use Rattle.vod_token.specs.Cut.{Holds, wrong_with, Falls, Continues}
use Rattle.vod_token.specs.Cut.Falls.{ends, skips, takes, refuses, stops}
use Rattle.vod_token.specs.Fault.{IsCutFault, IsFault, IsNestingFault}
use Rattle.vod_token.specs.Form.{Form, kind_of}
use Rattle.vod_token.specs.Form.Form.{Word, Plain, Based, Directive, Symbol}
use Rattle.vod_token.specs.Nesting.{deep_at}
use Rattle.vod_token.specs.Scan.{token_at}
use Rattle.vod_token.specs.Span.{AreTokens, LiesIn, IsTokenText, IsTokenOf}
use Rattle.vod_token.specs.declared.TheConstants.{LITERAL_BITS}
use Rattle.vod_token.specs.declared.LexFault.{LexFault}
use Rattle.vod_token.specs.declared.LexFault.TheVariants.{At, Name, Literal, Nesting, Memory}
use Rattle.vod_token.specs.declared.Token.{Token}
use Rattle.vod_token.specs.declared.TokenKind.{TokenKind}

-- What is wrong with a token doesn't hang on its place.
none_by : (b : Bool) (f g : LexFault) → cond b None (Some f) ≡ None → cond b None (Some g) ≡ None
none_by true f g h = refl
none_by false f g h = cc

literal_by : (a b : Bool) (f g h i : LexFault) → cond a (Some f) (cond b None (Some g)) ≡ None → cond a (Some h) (cond b None (Some i)) ≡ None
literal_by true b f g h i e = cc
literal_by false b f g h i e = none_by b g i e

right_anywhere : (at n : ℕ) (form : Form) → wrong_with at n form ≡ None → wrong_with 0 n form ≡ None
right_anywhere at n Word h = none_by (nat_le n 1024) (Name at) (Name 0) h
right_anywhere at n (Plain v) h = none_by (nat_lt v 2147483648) (At at) (At 0) h
right_anywhere at n (Based s m v) h = literal_by (s == 0) (nat_le s LITERAL_BITS && nat_lt v (2 ^ LITERAL_BITS)) (At at) (Literal at) (At 0) (Literal 0) h
right_anywhere at n Directive h = refl
right_anywhere at n Symbol h = refl

-- Tokens from a place on are tokens from an earlier place on.
from_earlier : (source : List ℕ) (from late : ℕ) (ts : List Token) → from ≤ late → AreTokens source late ts → AreTokens source from ts
from_earlier source from late [] le h = tt
from_earlier source from late (t ∷ ts) le (low, lies, text, more) = ((omega arith), lies, text, more)

-- The tokens that the bytes fall into lie in the source, one behind the other.
behind_text : (source : List ℕ) (at : ℕ) (text rest : List ℕ) → drop at source ≡ text ++ rest → drop (at + length text) source ≡ rest
behind_text source at text rest e = sym (drop-drop (length text) at source) ∙ ap (drop (length text)) e ∙ drop-append_seam text rest

at_text : (source : List ℕ) (at : ℕ) (text rest : List ℕ) → drop at source ≡ text ++ rest → take (at + length text - at) (drop at source) ≡ text
at_text source at text rest e =
    ap (λ n. take n (drop at source)) (let s : at + length text - at ≡ length text = omega arith in s) ∙ ap (take (length text)) e ∙ take-append_seam text rest

token_text : (source : List ℕ) (at : ℕ) (text rest : List ℕ) (form : Form) → drop at source ≡ text ++ rest → Holds text rest form → wrong_with at (length text) form ≡ None
    → IsTokenText (take (at + length text - at) (drop at source)) (kind_of text form)
token_text source at text rest form e holds right =
    rw (at_text source at text rest e) (record { form = form; spelled = holds.spelled; right = right_anywhere at (length text) form right; is = refl })

pub falls_tokens : {at : ℕ} {bytes : List ℕ} {ts : List Token} {fault : Option LexFault} → Falls at bytes ts fault → (source : List ℕ) → drop at source ≡ bytes
    → at + length bytes ≡ length source → AreTokens source at ts
falls_tokens (ends at) source e long = tt
falls_tokens (skips at text rest ts fault layout more) source e long =
    let sum : length (text ++ rest) ≡ length text + length rest = length-append text rest in
    from_earlier source at (at + length text) ts (omega arith) (falls_tokens more source (behind_text source at text rest e) (omega arith))
falls_tokens (takes at text rest form ts fault holds right more) source e long =
    let sum : length (text ++ rest) ≡ length text + length rest = length-append text rest in
    let some = spelled_some text form holds.spelled in (
      (omega arith),
      record { some = omega arith; within = omega arith },
      token_text source at text rest form e holds right,
      falls_tokens more source (behind_text source at text rest e) (omega arith),
    )
falls_tokens (refuses at text rest form fault holds wrong) source e long = tt
falls_tokens (stops at b bs layout holds) source e long = tt

pub tokens_lie : (source : List ℕ) (from : ℕ) (ts : List Token) → AreTokens source from ts → All (LiesIn source) ts
tokens_lie source from [] h k d lt = absurd (omega arith)
tokens_lie source from (t ∷ ts) h zero d lt = h.1
tokens_lie source from (t ∷ ts) h (suc k) d lt = tokens_lie source t.end ts h.3 k d (omega arith)

tokens_each : (source : List ℕ) (from : ℕ) (ts : List Token) → AreTokens source from ts → All (IsTokenOf source) ts
tokens_each source from [] h k d lt = absurd (omega arith)
tokens_each source from (t ∷ ts) h zero d lt = record { lies = h.1; text = h.2 }
tokens_each source from (t ∷ ts) h (suc k) d lt = tokens_each source t.end ts h.3 k d (omega arith)

-- A reading stops for no other reasons.
IsLex : LexFault → Type 0
IsLex (At place) = ⊤
IsLex (Name place) = ⊤
IsLex (Literal place) = ⊤
IsLex (Nesting place) = ⊥
IsLex Memory = ⊥

lex_by : (b : Bool) (f g : LexFault) → IsLex f → cond b None (Some f) ≡ Some g → IsLex g
lex_by true f g h e = cc
lex_by false f g h e = subst IsLex (let same : f ≡ g = cc in same) h

literal_lex : (a b : Bool) (f g h : LexFault) → IsLex f → IsLex g → cond a (Some f) (cond b None (Some g)) ≡ Some h → IsLex h
literal_lex true b f g h p q e = subst IsLex (let same : f ≡ h = cc in same) p
literal_lex false b f g h p q e = lex_by b g h q e

wrong_lex : (at n : ℕ) (form : Form) (fault : LexFault) → wrong_with at n form ≡ Some fault → IsLex fault
unfolding IsLex
wrong_lex at n Word fault h = lex_by (nat_le n 1024) (Name at) fault tt h
wrong_lex at n (Plain v) fault h = lex_by (nat_lt v 2147483648) (At at) fault tt h
wrong_lex at n (Based s m v) fault h = literal_lex (s == 0) (nat_le s LITERAL_BITS && nat_lt v (2 ^ LITERAL_BITS)) (At at) (Literal at) fault tt tt h
wrong_lex at n Directive fault h = cc
wrong_lex at n Symbol fault h = cc

falls_lex : {at : ℕ} {bytes : List ℕ} {ts : List Token} {fault : Option LexFault} → Falls at bytes ts fault → IfSome fault IsLex
unfolding IsLex
falls_lex (ends at) = tt
falls_lex (skips at text rest ts fault layout more) = falls_lex more
falls_lex (takes at text rest form ts fault holds right more) = falls_lex more
falls_lex (refuses at text rest form fault holds wrong) = wrong_lex at (length text) form fault wrong
falls_lex (stops at b bs layout holds) = tt

pub cut_fault : (source : List ℕ) (ts : List Token) (fault : LexFault) → Falls 0 source ts (Some fault) → IsCutFault source fault
unfolding IsLex
cut_fault source ts (At place) h = (ts, h)
cut_fault source ts (Name place) h = (ts, h)
cut_fault source ts (Literal place) h = (ts, h)
cut_fault source ts (Nesting place) h = absurd (falls_lex h)
cut_fault source ts Memory h = tt

pub fault_of_cut : (source : List ℕ) (fault : LexFault) → IsCutFault source fault → IsFault source fault
fault_of_cut source (At place) h = h
fault_of_cut source (Name place) h = h
fault_of_cut source (Literal place) h = h
fault_of_cut source (Nesting place) h = absurd h
fault_of_cut source Memory h = tt

pub fault_of_nesting : (source : List ℕ) (ts : List Token) (fault : LexFault) → Falls 0 source ts None → IsNestingFault source ts fault → IsFault source fault
fault_of_nesting source ts (At place) h n = absurd n
fault_of_nesting source ts (Name place) h n = absurd n
fault_of_nesting source ts (Literal place) h n = absurd n
fault_of_nesting source ts (Nesting place) h n = (ts, h, n)
fault_of_nesting source ts Memory h n = tt

-- The token at the front, as a step of the reading.
pub continues : (at : ℕ) (bytes : List ℕ) (kind : TokenKind) (n : ℕ) → token_at at bytes ≡ Ok (kind, n) → Continues at bytes (made kind at n)
continues at bytes kind n h =
    let t = taken at bytes kind n h in
    let some = t.some in
    let within = t.within in
    record {
      start = refl;
      some = omega arith;
      within = omega arith;
      step = λ ts fault more. t.step ts fault (subst (λ k. Falls (at + n) (drop k bytes) ts fault) (let s : at + n - at ≡ n = omega arith in s) more);
    }

-- What the two sides of an answer say together: each source has one.
abbrev pub IsRead : List ℕ → List Token → Type 0
IsRead source ts = Falls 0 source ts None × (deep_at source ts ≡ None)

pub spans_of : {V : Type 0} (items : V → List Token) (source : List ℕ) (r : Result V LexFault) → IfOk r (λ v. IsRead source (items v)) → IfOk r (λ v. AreTokens source 0 (items v))
spans_of items source (Ok v) h = falls_tokens h.0 source refl (omega arith)
spans_of items source (Err e) h = tt

pub each_of : {V : Type 0} (items : V → List Token) (source : List ℕ) (r : Result V LexFault) → IfOk r (λ v. IsRead source (items v)) → IfOk r (λ v. All (IsTokenOf source) (items v))
each_of items source (Ok v) h = tokens_each source 0 (items v) (falls_tokens h.0 source refl (omega arith))
each_of items source (Err e) h = tt

accepted_fault : (source : List ℕ) (fault : LexFault) (ts : List Token) → IsFault source fault → IsRead source ts → fault ≡ Memory
accepted_fault source (At place) ts (us, h) (f, d) = let same = one_fall h ts None f in let e : Some (At place) ≡ None = same.1 in cc
accepted_fault source (Name place) ts (us, h) (f, d) = let same = one_fall h ts None f in let e : Some (Name place) ≡ None = same.1 in cc
accepted_fault source (Literal place) ts (us, h) (f, d) = let same = one_fall h ts None f in let e : Some (Literal place) ≡ None = same.1 in cc
accepted_fault source (Nesting place) ts (us, h, deep) (f, d) =
    let same : us ≡ ts = (one_fall h ts None f).0 in let there : deep_at source us ≡ deep_at source ts = ap (deep_at source) same in cc
accepted_fault source Memory ts h r = refl

pub accepts_of : {V : Type 0} (items : V → List Token) (source : List ℕ) (r : Result V LexFault) → IfOk r (λ v. IsRead source (items v)) → IfErr r (IsFault source)
    → (ts : List Token) → Falls 0 source ts None → deep_at source ts ≡ None → MatchResult r (λ v. items v ≡ ts) (λ fault. fault ≡ Memory)
accepts_of items source (Ok v) h e ts f d = (one_fall h.0 ts None f).0
accepts_of items source (Err fault) h e ts f d = accepted_fault source fault ts e (f, d)

refused_fault : (source : List ℕ) (other fault : LexFault) (ts : List Token) → IsFault source other → Falls 0 source ts (Some fault) → (other ≡ Memory → ⊥) → other ≡ fault
refused_fault source (At place) fault ts (us, h) f n = let e : Some (At place) ≡ Some fault = (one_fall h ts (Some fault) f).1 in cc
refused_fault source (Name place) fault ts (us, h) f n = let e : Some (Name place) ≡ Some fault = (one_fall h ts (Some fault) f).1 in cc
refused_fault source (Literal place) fault ts (us, h) f n = let e : Some (Literal place) ≡ Some fault = (one_fall h ts (Some fault) f).1 in cc
refused_fault source (Nesting place) fault ts (us, h, deep) f n = let e : None ≡ Some fault = (one_fall h ts (Some fault) f).1 in cc
refused_fault source Memory fault ts h f n = absurd (n refl)

pub refuses_of : {V : Type 0} (items : V → List Token) (source : List ℕ) (r : Result V LexFault) → IfOk r (λ v. IsRead source (items v)) → IfErr r (IsFault source)
    → (ts : List Token) (fault : LexFault) → Falls 0 source ts (Some fault) → MatchResult r (λ v. ⊥) (λ other. (other ≢ Memory) → other ≡ fault)
refuses_of items source (Ok v) h e ts fault f = let same : None ≡ Some fault = (one_fall h.0 ts (Some fault) f).1 in cc
refuses_of items source (Err other) h e ts fault f = λ n. refused_fault source other fault ts e f n

nested_fault : (source : List ℕ) (other : LexFault) (ts : List Token) (place : ℕ) → IsFault source other → Falls 0 source ts None → deep_at source ts ≡ Some place → (other ≡ Memory → ⊥)
    → other ≡ Nesting place
nested_fault source (At p) ts place (us, h) f d n = let e : Some (At p) ≡ None = (one_fall h ts None f).1 in cc
nested_fault source (Name p) ts place (us, h) f d n = let e : Some (Name p) ≡ None = (one_fall h ts None f).1 in cc
nested_fault source (Literal p) ts place (us, h) f d n = let e : Some (Literal p) ≡ None = (one_fall h ts None f).1 in cc
nested_fault source (Nesting p) ts place (us, h, deep) f d n =
    let there : deep_at source us ≡ deep_at source ts = ap (deep_at source) (one_fall h ts None f).0 in
    let e : Some p ≡ Some place = sym deep ∙ there ∙ d in cc
nested_fault source Memory ts place h f d n = absurd (n refl)

pub nested_of : {V : Type 0} (items : V → List Token) (source : List ℕ) (r : Result V LexFault) → IfOk r (λ v. IsRead source (items v)) → IfErr r (IsFault source)
    → (ts : List Token) (place : ℕ) → Falls 0 source ts None → deep_at source ts ≡ Some place → MatchResult r (λ v. ⊥) (λ other. (other ≢ Memory) → other ≡ Nesting place)
nested_of items source (Ok v) h e ts place f d =
    let there : deep_at source (items v) ≡ deep_at source ts = ap (deep_at source) (one_fall h.0 ts None f).0 in
    let e : None ≡ Some place = sym h.1 ∙ there ∙ d in cc
nested_of items source (Err other) h e ts place f d = λ n. nested_fault source other ts place e f d n

-- At the end of the source the tokens so far are all.
pub read_all : (source : List ℕ) (at : ℕ) (sofar : List Token) → length source ≤ at
    → ((ts : List Token) (fault : Option LexFault) → Falls at (drop at source) ts fault → Falls 0 source (sofar ++ ts) fault) → Falls 0 source sofar None
read_all source at sofar le reads =
    let none : drop at source ≡ [] = grind (arith, common_steps) in
    subst (λ ts. Falls 0 source ts None) (append-nil sofar) (reads [] None (subst (λ xs. Falls at xs [] None) (sym none) (ends at)))
