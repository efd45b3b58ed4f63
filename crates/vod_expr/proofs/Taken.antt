-- What the loop over the tokens keeps, and what is then answered.
use Rattle.std.proofs.Common.{◌≡◌, ℕ, suc, ◌+◌, ◌<◌, Bool, true, false, List, [], ◌∷◌, ◌++◌, map, length, take, drop, get_or, Option, None, Some, Result, Ok, Err, option_and_then, refl, ap, sym, subst, ◌∙◌, arith}
use Rattle.std.proofs.Math.Seq.{drop-cons}
use Rattle.std.proofs.lemmas.List.{take-map, drop-map, take_more, length-map, drop_all, map-append}
use Rattle.std.specs.declared.alloc.AllocError.{AllocError}
use Rattle.std.specs.Prelude.{IfOk, IfErr, MatchResult, ◌≢◌}
use Rattle.vod_token.specs.declared.Token.{Token}
use Rattle.vod_tree.specs.declared.expr.Expr.{Expr}
use Rattle.vod_expr.specs.declared.ParseFault.{ParseFault}
use Rattle.vod_expr.specs.declared.ParseFault.TheVariants.{At, End, Statement, Memory}
use Rattle.vod_expr_machine.specs.declared.machine.Reader.{Reader}
use Rattle.vod_expr.specs.Answer.{fault_at, IsRead, IsRefused, tree_or_fault, expr_read}
use Rattle.vod_expr.specs.Grammar.{Lexeme, lexeme, lexemes, IsExpr, IsLongest}
use Rattle.vod_expr_machine.specs.Machine.{Machine, step, run, start, ended}
use Rattle.vod_expr_machine.specs.Numerals.{number_of}
use Rattle.vod_expr.specs.Reading.{Stops, Reads, fault_from, answered}
use Rattle.vod_expr_machine.specs.View.{frames_of, state_of, Gives}
use Rattle.vod_expr.proofs.Answered.{Right, read_is}
use Rattle.vod_expr.proofs.Longest.{run_onto}

-- what a step says, where it went on and where it didn't
pub went_on : (b : Bool) (expected : Option Machine) (tree : Option Expr) (new : Reader) → b ≡ true → Gives {E = AllocError} (Ok b) expected tree new → expected ≡ Some (state_of new)
went_on true expected tree new e h = h
went_on false expected tree new e h = cc

pub stayed : (b : Bool) (expected : Option Machine) (tree : Option Expr) (new : Reader) → b ≡ false → Gives {E = AllocError} (Ok b) expected tree new → (expected ≡ None) × (ended new.head (frames_of new) ≡ tree)
stayed true expected tree new e h = cc
stayed false expected tree new e h = h

-- the tokens from a place on, and up to behind it
at_place : (source : List ℕ) (ts : List Token) (i : ℕ) (d : Token) → i < length ts → drop i (lexemes source ts) ≡ lexeme source (get_or ts i d) ∷ drop (suc i) (lexemes source ts)
at_place source ts i d lt =
    drop-map (lexeme source) i ts ∙ ap (map (lexeme source)) (drop-cons ts i d lt)
    ∙ ap (λ v. lexeme source (get_or ts i d) ∷ v) (sym (drop-map (lexeme source) (suc i) ts))

up_to : (source : List ℕ) (ts : List Token) (i : ℕ) (d : Token) → i < length ts → take (i + 1) (lexemes source ts) ≡ take i (lexemes source ts) ++ lexeme source (get_or ts i d) ∷ []
up_to source ts i d lt =
    take-map (lexeme source) (i + 1) ts ∙ ap (map (lexeme source)) (take_more ts i d lt) ∙ map-append (lexeme source) (take i ts) (get_or ts i d ∷ [])
    ∙ ap (λ v. v ++ lexeme source (get_or ts i d) ∷ []) (sym (take-map (lexeme source) i ts))

pub goes_on : (source : List ℕ) (ts : List Token) (i : ℕ) (d : Token) → i < length ts → (s u : Machine) → run number_of start (take i (lexemes source ts)) ≡ Some s
    → step number_of s (lexeme source (get_or ts i d)) ≡ Some u → run number_of start (take (i + 1) (lexemes source ts)) ≡ Some u
goes_on source ts i d lt s u h g =
    let t = lexeme source (get_or ts i d) in
    ap (run number_of start) (up_to source ts i d lt) ∙ run_onto number_of start (take i (lexemes source ts)) (t ∷ [])
    ∙ ap (option_and_then (λ v. run number_of v (t ∷ []))) h ∙ ap (option_and_then (λ v. run number_of v [])) g

pub stops_at : (source : List ℕ) (ts : List Token) (i : ℕ) (d : Token) → i < length ts → (old new : Reader) → run number_of start (take i (lexemes source ts)) ≡ Some (state_of old)
    → step number_of (state_of old) (lexeme source (get_or ts i d)) ≡ None → ended new.head (frames_of new) ≡ ended old.head (frames_of old) → Reads (lexemes source ts) i new
stops_at source ts i d lt old new h none same =
    let long : length (lexemes source ts) ≡ length ts = length-map ts (lexeme source) in
    record {
      within = omega arith;
      state = state_of old;
      runs = h;
      stops = subst (Stops number_of (state_of old)) (sym (at_place source ts i d lt)) none;
      tree = same;
    }

pub stops_last : (source : List ℕ) (ts : List Token) (i : ℕ) → i ≡ length ts → (reader : Reader) → run number_of start (take i (lexemes source ts)) ≡ Some (state_of reader) → Reads (lexemes source ts) (length ts) reader
stops_last source ts i e reader h =
    let long : length (lexemes source ts) ≡ length ts = length-map ts (lexeme source) in
    record {
      within = omega arith;
      state = state_of reader;
      runs = ap (λ k. run number_of start (take k (lexemes source ts))) (sym e) ∙ h;
      stops = subst (Stops number_of (state_of reader)) (sym (drop_all (length ts) (lexemes source ts) (omega arith))) tt;
      tree = refl;
    }

-- what is answered: the function's answer, in the reader's list of tokens
abbrev pub Answers : ℕ → List Lexeme → Result (Expr × ℕ) ParseFault → Type 0
Answers from ts r = MatchResult r (λ read. (n : ℕ) × (read.1 ≡ from + n) × (expr_read ts ≡ Ok (read.0, n))) (λ fault. (fault ≢ Memory) → expr_read ts ≡ Err fault)

same_fault : (source : List ℕ) (ts : List Token) → fault_from ts ≡ fault_at (lexemes source ts)
same_fault source [] = refl
same_fault source (t ∷ ts) = refl

by_tree : (source : List ℕ) (ts : List Token) (from n : ℕ) (o : Option Expr) → expr_read (lexemes source ts) ≡ tree_or_fault o n (drop n (lexemes source ts)) → Answers from (lexemes source ts) (answered o (from + n) (drop n ts))
by_tree source ts from n None h = λ _. h ∙ ap Err (ap fault_at (drop-map (lexeme source) n ts) ∙ sym (same_fault source (drop n ts)))
by_tree source ts from n (Some x) h = (n, refl, h)

pub answers_by : (source : List ℕ) (ts : List Token) (from n : ℕ) (reader : Reader) → Reads (lexemes source ts) n reader
    → (o : Option Expr) → o ≡ ended reader.head (frames_of reader) → Answers from (lexemes source ts) (answered o (from + n) (drop n ts))
answers_by source ts from n reader r o e =
    by_tree source ts from n o
    (read_is (lexemes source ts) n (record { within = r.within; state = r.state; runs = r.runs; stops = r.stops })
    ∙ ap (λ v. tree_or_fault v n (drop n (lexemes source ts))) (sym r.tree ∙ sym e))

-- which is right
pub ok_by : (ts : List Lexeme) (from : ℕ) (r : Result (Expr × ℕ) ParseFault) → Right ts (expr_read ts) → Answers from ts r → IfOk r (λ read. (x : ℕ) × (read.1 ≡ from + x) × IsRead ts x read.0)
ok_by ts from (Ok read) right is = (is.0, is.1, subst (Right ts) is.2 right)
ok_by ts from (Err fault) right is = tt

pub err_by : (ts : List Lexeme) (from : ℕ) (r : Result (Expr × ℕ) ParseFault) → Right ts (expr_read ts) → Answers from ts r → IfErr r (λ fault. (fault ≢ Memory) → IsRefused ts fault)
err_by ts from (Ok read) right is = tt
err_by ts from (Err fault) right is = λ ne. subst (Right ts) (is ne) right

-- each run has one answer
abbrev pub OneTree : Type 0
OneTree = (ts : List Lexeme) (a b : Expr) → IsExpr 0 ts a → IsExpr 0 ts b → a ≡ b

one_length : (ts : List Lexeme) (n m : ℕ) → IsLongest ts n → IsLongest ts m → n ≡ m
one_length ts n m a b =
    let low = a.longest m b.within b.begins in
    let high = b.longest n a.within a.begins in
    omega arith

not_both : (ts : List Lexeme) (fault : ParseFault) (n : ℕ) (tree : Expr) → IsRefused ts fault → IsRead ts n tree → ⊥
not_both ts fault n tree r h = r.none tree (subst (λ k. IsExpr 0 (take k ts) tree) (one_length ts n r.taken h.longest r.longest) h.expr)

pub accepts_by : OneTree → (ts : List Lexeme) (from : ℕ) (r : Result (Expr × ℕ) ParseFault)
    → IfOk r (λ read. (x : ℕ) × (read.1 ≡ from + x) × IsRead ts x read.0) → IfErr r (λ fault. (fault ≢ Memory) → IsRefused ts fault)
    → (n : ℕ) (tree : Expr) → IsRead ts n tree → MatchResult r (λ read. (read.0 ≡ tree) × (read.1 ≡ from + n)) (λ fault. fault ≡ Memory)
accepts_by one ts from (Ok read) ok err n tree h =
    let same = one_length ts ok.0 n ok.2.longest h.longest in
    (one (take n ts) read.0 tree (subst (λ k. IsExpr 0 (take k ts) read.0) same ok.2.expr) h.expr, ok.1 ∙ ap (λ k. from + k) same)
accepts_by one ts from (Err Memory) ok err n tree h = refl
accepts_by one ts from (Err (At p)) ok err n tree h = absurd (not_both ts (At p) n tree (err (λ e. cc)) h)
accepts_by one ts from (Err End) ok err n tree h = absurd (not_both ts End n tree (err (λ e. cc)) h)
accepts_by one ts from (Err (Statement p)) ok err n tree h = absurd (not_both ts (Statement p) n tree (err (λ e. cc)) h)

pub refuses_by : (ts : List Lexeme) (from : ℕ) (r : Result (Expr × ℕ) ParseFault)
    → IfOk r (λ read. (x : ℕ) × (read.1 ≡ from + x) × IsRead ts x read.0) → IfErr r (λ fault. (fault ≢ Memory) → IsRefused ts fault)
    → (fault : ParseFault) → IsRefused ts fault → MatchResult r (λ read. ⊥) (λ other. (other ≢ Memory) → other ≡ fault)
refuses_by ts from (Ok read) ok err fault h = not_both ts fault ok.0 read.0 h ok.2
refuses_by ts from (Err other) ok err fault h = λ ne.
    let r = err ne in r.fault ∙ ap (λ k. fault_at (drop k ts)) (one_length ts r.taken h.taken r.longest h.longest) ∙ sym h.fault
