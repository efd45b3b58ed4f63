-- The answer as a function is the right one.
use Rattle.std.proofs.Common.{◌≡◌, ℕ, zero, suc, ◌+◌, ◌<◌, ◌≤◌, List, [], ◌∷◌, ◌++◌, length, take, drop, Option, None, Some, Result, Ok, Err, option_and_then, refl, ap, sym, subst, ◌∙◌, length-append, arith}
use Rattle.std.proofs.Math.Seq.{take-append_seam, drop-append_seam}
use Rattle.std.proofs.lemmas.List.{take_all, drop_all}
use Rattle.std.proofs.lemmas.List.Elements.{All-map}
use Rattle.std.specs.List.{AllByRecursion}
use Rattle.std.specs.Prelude.{All, MatchResult, option_map, unwrap_or}
use Rattle.vod_token.specs.Span.{IsTokenOf}
use Rattle.vod_token.specs.declared.Token.{Token}
use Rattle.vod_tree.specs.declared.expr.Expr.{Expr}
use Rattle.vod_expr.specs.declared.ParseFault.{ParseFault}
use Rattle.vod_expr.specs.declared.ParseFault.TheVariants.{At}
use Rattle.vod_expr.specs.Answer.{fault_at, IsRead, IsRefused, EndsExpr, BeginsNone, len_from, expr_len, expr_of, tree_or_fault, expr_read}
use Rattle.vod_expr.specs.Grammar.{Lexeme, lexeme, lexemes, IsLexeme, IsExpr, IsLongest}
use Rattle.vod_expr_machine.specs.Machine.{Machine, step, run, start, ended}
use Rattle.vod_expr_machine.specs.Numerals.{number_of}
use Rattle.vod_expr.specs.Reading.{Stops}
use Rattle.vod_expr.proofs.Ends.{stops_behind, step_none}
use Rattle.vod_expr.proofs.Longest.{read_longest, read_tree, read_none}
use Rattle.vod_expr.proofs.Numerals.{OneLiteral, knows, own_number}
use Rattle.vod_expr.proofs.States.{Sure}
use Rattle.vod_expr.proofs.Unique.{expr_runs}

-- so many tokens are read from a state on, to a state with which the next one doesn't go on
pub record Front (s : Machine) (ts : List Lexeme) (n : ℕ) : Type 0 where
  pub within : n ≤ length ts
  pub state : Machine
  pub runs : run number_of s (take n ts) ≡ Some state
  pub stops : Stops number_of state (drop n ts)

abbrev counted : List Lexeme → Option Machine → ℕ
counted ts o = unwrap_or (option_map (λ next. suc (len_from next ts)) o) 0

-- there is one such count, and it is the function's
front_is : (s : Machine) (ts : List Lexeme) → Front s ts (len_from s ts)
front_is s [] = record { within = omega arith; state = s; runs = refl; stops = tt }
front_is s (t ∷ ts) = by_step (step number_of s t) refl (λ u. front_is u ts)
  where
    by_step : (o : Option Machine) → step number_of s t ≡ o → ((u : Machine) → Front u ts (len_from u ts)) → Front s (t ∷ ts) (counted ts o)
    by_step None e goes = record { within = omega arith; state = s; runs = refl; stops = e }
    by_step (Some u) e goes =
        let f = goes u in
        let within : len_from u ts ≤ length ts = f.within in
        record {
          within = omega arith;
          state = f.state;
          runs = ap (option_and_then (λ v. run number_of v (take (len_from u ts) ts))) e ∙ f.runs;
          stops = f.stops;
        }

same_state : (s u : Machine) → Some s ≡ Some u → s ≡ u
same_state s u h = cc

len_is : (s : Machine) (ts : List Lexeme) (n : ℕ) → Front s ts n → len_from s ts ≡ n
len_is s [] zero f = refl
len_is s [] (suc n) f = let within : suc n ≤ 0 = f.within in absurd (omega arith)
len_is s (t ∷ ts) zero f = ap (counted ts) (ap (λ v. step number_of v t) (same_state s f.state f.runs) ∙ f.stops)
len_is s (t ∷ ts) (suc n) f =
    let within : suc n ≤ suc (length ts) = f.within in
    by_step (step number_of s t) f.runs (λ v g. len_is v ts n (record { within = omega arith; state = f.state; runs = g; stops = f.stops }))
  where
    by_step : (o : Option Machine) → option_and_then (λ v. run number_of v (take n ts)) o ≡ Some f.state → ((v : Machine) → run number_of v (take n ts) ≡ Some f.state → len_from v ts ≡ n) → counted ts o ≡ suc n
    by_step None h goes = cc
    by_step (Some v) h goes = ap suc (goes v h)

-- what is then answered
pub read_is : (ts : List Lexeme) (n : ℕ) (f : Front start ts n) → expr_read ts ≡ tree_or_fault (ended f.state.head f.state.frames) n (drop n ts)
unfolding expr_read expr_len expr_of
read_is ts n f =
    ap (λ k. tree_or_fault (expr_of (take k ts)) k (drop k ts)) (len_is start ts n f)
    ∙ ap (λ o. tree_or_fault o n (drop n ts)) (ap (option_and_then (λ s. ended s.head s.frames)) f.runs)

-- each token has its own number
all_sure : OneLiteral → (ts : List Lexeme) → All IsLexeme ts → AllByRecursion (Sure number_of) ts
all_sure one [] h = tt
all_sure one (t ∷ ts) h = (own_number one t (h 0 t (omega arith)), all_sure one ts (λ k d lt. h (suc k) d (omega arith)))

front_sure : (n : ℕ) (ts : List Lexeme) → AllByRecursion (Sure number_of) ts → AllByRecursion (Sure number_of) (take n ts)
front_sure zero ts h = tt
front_sure (suc n) [] h = tt
front_sure (suc n) (t ∷ ts) h = (h.0, front_sure n ts h.1)

front_longest : OneLiteral → (ts : List Lexeme) → All IsLexeme ts → (n : ℕ) → Front start ts n → IsLongest ts n
front_longest one ts all n f = read_longest number_of (knows one) ts n f.within (front_sure n ts (all_sure one ts all)) f.state f.runs f.stops

pub longest_by : OneLiteral → (ts : List Lexeme) → All IsLexeme ts → IsLongest ts (expr_len ts)
unfolding expr_len
longest_by one ts all = front_longest one ts all (len_from start ts) (front_is start ts)

-- the answer is right
abbrev pub Right : List Lexeme → Result (Expr × ℕ) ParseFault → Type 0
Right ts r = MatchResult r (λ read. IsRead ts read.1 read.0) (λ fault. IsRefused ts fault)

right_by : OneLiteral → (ts : List Lexeme) → All IsLexeme ts → (n : ℕ) (f : Front start ts n) → (o : Option Expr) → ended f.state.head f.state.frames ≡ o → Right ts (tree_or_fault o n (drop n ts))
right_by one ts all n f None e = record {
  taken = n;
  longest = front_longest one ts all n f;
  none = read_none number_of (knows one) (take n ts) f.state f.runs e;
  fault = refl;
}
right_by one ts all n f (Some x) e = record {
  longest = front_longest one ts all n f;
  expr = read_tree number_of (take n ts) (front_sure n ts (all_sure one ts all)) f.state f.runs x e;
}

pub answer_by : OneLiteral → (ts : List Lexeme) → All IsLexeme ts → Right ts (expr_read ts)
answer_by one ts all =
    let f = front_is start ts in
    subst (Right ts) (sym (read_is ts (len_from start ts) f)) (right_by one ts all (len_from start ts) f (ended f.state.head f.state.frames) refl)

-- its place
place_of : (o : Option Expr) (n : ℕ) (rest : List Lexeme) → MatchResult (tree_or_fault o n rest) (λ read. read.1 ≡ n) (λ fault. fault ≡ fault_at rest)
place_of None n rest = refl
place_of (Some x) n rest = refl

pub place_by : (ts : List Lexeme) → MatchResult (expr_read ts) (λ read. read.1 ≡ expr_len ts) (λ fault. fault ≡ fault_at (drop (expr_len ts) ts))
unfolding expr_read
place_by ts = place_of (expr_of (take (expr_len ts) ts)) (expr_len ts) (drop (expr_len ts) ts)

pub within_by : (ts : List Lexeme) → expr_len ts ≤ length ts
unfolding expr_len
within_by ts = (front_is start ts).within

-- something was taken
some_of : (k : ℕ) (ts : List Lexeme) (tree : Expr) (n : ℕ) → tree_or_fault (expr_of (take k ts)) k (drop k ts) ≡ Ok (tree, n) → 0 < n
unfolding expr_of ended
some_of zero ts tree n h = cc
some_of (suc k) ts tree n h = by_tree (expr_of (take (suc k) ts)) h
  where
    by_tree : (o : Option Expr) → tree_or_fault o (suc k) (drop (suc k) ts) ≡ Ok (tree, n) → 0 < n
    by_tree None h = cc
    by_tree (Some x) h = let same : suc k ≡ n = ap (λ v. count v) h in omega arith
      where
        count : Result (Expr × ℕ) ParseFault → ℕ
        count (Ok read) = read.1
        count (Err fault) = 0

pub some_by : (ts : List Lexeme) (tree : Expr) (n : ℕ) → expr_read ts ≡ Ok (tree, n) → 0 < n
unfolding expr_read
some_by ts tree n h = some_of (expr_len ts) ts tree n h

-- no more matters than the tokens taken and the one behind them
len_ahead : (s : Machine) (front rest other : List Lexeme) (t : Lexeme) → len_from s (front ++ t ∷ rest) ≡ length front → len_from s (front ++ t ∷ other) ≡ length front
len_ahead s [] rest other t h = by_step (step number_of s t) h
  where
    by_step : (o : Option Machine) → counted rest o ≡ 0 → counted other o ≡ 0
    by_step None h = refl
    by_step (Some u) h = absurd (omega arith)
len_ahead s (x ∷ front) rest other t h = by_step (step number_of s x) h (λ u. len_ahead u front rest other t)
  where
    by_step : (o : Option Machine) → counted (front ++ t ∷ rest) o ≡ suc (length front)
        → ((u : Machine) → len_from u (front ++ t ∷ rest) ≡ length front → len_from u (front ++ t ∷ other) ≡ length front) → counted (front ++ t ∷ other) o ≡ suc (length front)
    by_step None h goes = absurd (omega arith)
    by_step (Some u) h goes = ap suc (goes u (omega arith))

same_behind : (o : Option Expr) (n : ℕ) (t : Lexeme) (rest other : List Lexeme) → tree_or_fault o n (t ∷ rest) ≡ tree_or_fault o n (t ∷ other)
same_behind None n t rest other = refl
same_behind (Some x) n t rest other = refl

pub ahead_len_by : (front rest other : List Lexeme) (t : Lexeme) → expr_len (front ++ t ∷ rest) ≡ length front → expr_len (front ++ t ∷ other) ≡ length front
unfolding expr_len
ahead_len_by front rest other t h = len_ahead start front rest other t h

read_front : (front rest : List Lexeme) (t : Lexeme) → expr_len (front ++ t ∷ rest) ≡ length front → expr_read (front ++ t ∷ rest) ≡ tree_or_fault (expr_of front) (length front) (t ∷ rest)
unfolding expr_read
read_front front rest t h =
    let all = front ++ t ∷ rest in
    ap (λ k. tree_or_fault (expr_of (take k all)) k (drop k all)) h
    ∙ ap (λ v. tree_or_fault (expr_of v) (length front) (drop (length front) all)) (take-append_seam front (t ∷ rest))
    ∙ ap (tree_or_fault (expr_of front) (length front)) (drop-append_seam front (t ∷ rest))

pub ahead_by : (front rest other : List Lexeme) (t : Lexeme) → expr_len (front ++ t ∷ rest) ≡ length front → expr_read (front ++ t ∷ other) ≡ expr_read (front ++ t ∷ rest)
ahead_by front rest other t h =
    read_front front other t (ahead_len_by front rest other t h) ∙ same_behind (expr_of front) (length front) t other rest ∙ sym (read_front front rest t h)

-- an expression before a token with which none goes on, and before the end
pub before_by : OneLiteral → (ts us : List Lexeme) (t : Lexeme) (tree : Expr) → IsExpr 0 ts tree → EndsExpr t → expr_read (ts ++ t ∷ us) ≡ Ok (tree, length ts)
before_by one ts us t tree d ends =
    let r = expr_runs number_of (knows one) ts tree d in
    let all = ts ++ t ∷ us in
    let long : length all ≡ length ts + suc (length us) = length-append ts (t ∷ us) in
    read_is all (length ts) (record {
      within = omega arith;
      state = r.state;
      runs = ap (run number_of start) (take-append_seam ts (t ∷ us)) ∙ r.runs;
      stops = subst (Stops number_of r.state) (sym (drop-append_seam ts (t ∷ us))) (stops_behind number_of (knows one) ts tree d t ends r.state r.runs);
    })
    ∙ ap (λ o. tree_or_fault o (length ts) (drop (length ts) all)) r.ends

pub last_by : OneLiteral → (ts : List Lexeme) (tree : Expr) → IsExpr 0 ts tree → expr_read ts ≡ Ok (tree, length ts)
last_by one ts tree d =
    let r = expr_runs number_of (knows one) ts tree d in
    read_is ts (length ts) (record {
      within = omega arith;
      state = r.state;
      runs = ap (run number_of start) (take_all (length ts) ts (omega arith)) ∙ r.runs;
      stops = subst (Stops number_of r.state) (sym (drop_all (length ts) ts (omega arith))) tt;
    })
    ∙ ap (λ o. tree_or_fault o (length ts) (drop (length ts) ts)) r.ends

-- a token with which none begins
start_none : ended start.head start.frames ≡ None
unfolding ended
start_none = refl

pub refused_by : (t : Lexeme) (ts : List Lexeme) → BeginsNone t → expr_read (t ∷ ts) ≡ Err (At t.place)
refused_by t ts none =
    read_is (t ∷ ts) 0 (record { within = omega arith; state = start; runs = refl; stops = step_none number_of t none })
    ∙ ap (λ o. tree_or_fault o 0 (t ∷ ts)) start_none

-- the tokens of a source
pub source_by : (source : List ℕ) (ts : List Token) → All (IsTokenOf source) ts → All IsLexeme (lexemes source ts)
source_by source ts h = All-map IsLexeme (lexeme source) ts (λ k d lt. (h k d lt).text)
