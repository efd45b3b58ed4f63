-- Batches in a row, and what is left of a log behind them.
use Rattle.std.proofs.Common.{◌≡◌, ℕ, zero, suc, ◌+◌, ◌<◌, ◌≤◌, ◌^◌, List, [], ◌∷◌, ◌++◌, length, get_or, take, drop, map, All, refl, sym, ap, ◌∙◌, subst, arith, append_assoc, inl, inr, ◌⊎◌}
use Rattle.std.specs.Prelude.{Bool, true, false, nat_lt, if◌then◌else◌}
use Rattle.std.proofs.lemmas.Bool.Decides.{nat_tests}
use Rattle.std.proofs.lemmas.List.{length-map}
use Rattle.vod_thin_design.specs.declared.thin.Vector.{Vector}
use Rattle.vod_thin_design.specs.Netlist.{Netlist}
use Rattle.vod_thin_design.specs.Vectors.{IsVector, IsLawful, times, last_time}
use Rattle.vod_log.specs.Format.{Entry}
use Rattle.vod_thin_code.specs.Bytes.{batch_bytes, IsInForm, IsHead}
use Rattle.vod_thin_code.specs.Held.{IsBatch, AreBatches, IsSound}
use Rattle.vod_thin_script.proofs.Lawful.{lawful_front, lawful_later, last_time-push}
use Rattle.std.proofs.lemmas.List.Elements.{All-nil, All-cons}
use Rattle.vod_log.specs.declared.log.Record.{Record}
use Rattle.vod_thin_replay.specs.declared.ReplayFault.{ReplayFault}
use Rattle.vod_thin_replay.specs.declared.ReplayFault.TheVariants.{Deck, Damaged, Memory}
use Rattle.vod_thin_replay.specs.Replay.{OnDamaged, entry_at, IsHeadDamagedAt, behind_head, reaching, AreUpTo, IsHeldUpTo, IsDamagedBehind, IsDamagedAmong, IsDamagedAt, AddsBatch}

-- a payload is that of one list of vectors at most
abbrev pub OneBatch : Netlist → Type 0
OneBatch d = (vs ws : List Vector) → All (IsInForm d) vs → All (IsInForm d) ws → batch_bytes vs ≡ batch_bytes ws → vs ≡ ws

-- one more batch behind some
are_more : (d : Netlist) (before : List Vector) (es : List Entry) (vs : List Vector) (e : Entry) (batch : List Vector) → AreBatches d before es vs → IsBatch d vs e batch → AreBatches d before (es ++ e ∷ []) (vs ++ batch)
are_more d before [] vs e batch are is = (batch, subst (λ us. IsBatch d us e batch) are is, ap (λ us. us ++ batch) are)
are_more d before (x ∷ es) vs e batch are is = (are.0, are.1, are_more d (before ++ are.0) es vs e batch are.2 is)

-- so many records were read, and what is to be read of the rest is known by the last time
pub record HasRead (d : Netlist) (to : ℕ) (es : List Entry) (i : ℕ) (vs : List Vector) : Type 0 where
  pub lawful : IsLawful d vs
  pub batches : AreBatches d [] (take i es) vs
  pub left : reaching to 0 es ≡ take i es ++ reaching to (last_time vs) (drop i es)

lawful_none : (d : Netlist) → IsLawful d []
lawful_none d = record { rising = λ k lt. absurd (omega arith); within = All-nil (λ t. (1 ≤ t) × (t < 2 ^ 63)); forms = All-nil (IsVector d); first = λ v rest e. absurd cc; unmixed = tt }

pub read_none : (d : Netlist) (to : ℕ) (es : List Entry) → HasRead d to es 0 []
read_none d to es = record { lawful = lawful_none d; batches = refl; left = refl }

next_is : (es : List Entry) (i : ℕ) (e : Entry) → i < length es → get_or es i e ≡ e → (take (suc i) es ≡ take i es ++ e ∷ []) × (drop i es ≡ e ∷ drop (suc i) es)
next_is [] i e lt here = absurd (omega arith)
next_is (x ∷ es) zero e lt here = (ap (λ y. y ∷ []) here, ap (λ y. y ∷ es) here)
next_is (x ∷ es) (suc i) e lt here = (let more = next_is es i e (omega arith) here in (ap (λ ys. x ∷ ys) more.0, more.1))

reaching_on : (to last : ℕ) (e : Entry) (es : List Entry) → last < to → reaching to last (e ∷ es) ≡ e ∷ reaching to e.entry.header.last es
reaching_on to last e es below = (let test : nat_lt last to ≡ true = grind (arith, nat_tests) in ap (λ t. if t then e ∷ reaching to e.entry.header.last es else []) test)

reaching_end : (to last : ℕ) (es : List Entry) → to ≤ last → reaching to last es ≡ []
reaching_end to last [] reached = refl
reaching_end to last (e ∷ es) reached = (let test : nat_lt last to ≡ false = grind (arith, nat_tests) in ap (λ t. if t then e ∷ reaching to e.entry.header.last es else []) test)

read_more : (d : Netlist) (to : ℕ) (es : List Entry) (i : ℕ) (vs vs' : List Vector) (e : Entry) → HasRead d to es i vs → i < length es → get_or es i e ≡ e → last_time vs < to → AddsBatch d vs e vs' → HasRead d to es (i + 1) vs'
read_more d to es i vs vs' e had lt here below adds =
    let next = next_is es i e lt here in
    let last : e.entry.header.last ≡ last_time vs' = ap (λ h. h.last) adds.is_batch.header ∙ ap last_time (sym adds.added) in
    let more : HasRead d to es (suc i) vs' = record {
      lawful = adds.lawful;
      batches = rw (next.0, adds.added) (are_more d [] (take i es) vs e adds.batch had.batches adds.is_batch);
      left = had.left ∙ ap (λ ys. take i es ++ reaching to (last_time vs) ys) next.1 ∙ ap (λ ys. take i es ++ ys) (reaching_on to (last_time vs) e (drop (suc i) es) below)
          ∙ ap (λ n. take i es ++ e ∷ reaching to n (drop (suc i) es)) last ∙ sym (append_assoc (take i es) (e ∷ []) (reaching to (last_time vs') (drop (suc i) es)))
          ∙ ap (λ ys. ys ++ reaching to (last_time vs') (drop (suc i) es)) (sym next.0);
    } in
    let place : suc i ≡ i + 1 = omega arith in
    subst (λ n. HasRead d to es n vs') place more

append_none : {X : Type 0} (xs : List X) → xs ++ [] ≡ xs
append_none [] = refl
append_none (x ∷ xs) = ap (λ ys. x ∷ ys) (append_none xs)

pub read_end : (d : Netlist) (to : ℕ) (es : List Entry) (i : ℕ) (vs : List Vector) → HasRead d to es i vs → to ≤ last_time vs → AreUpTo d es to vs
read_end d to es i vs had reached =
    let all : reaching to 0 es ≡ take i es = had.left ∙ ap (λ ys. take i es ++ ys) (reaching_end to (last_time vs) (drop i es) reached) ∙ append_none (take i es) in
    record { batches = rw all had.batches; lawful = had.lawful }

drop_all : (es : List Entry) (i : ℕ) → length es ≤ i → drop i es ≡ []
drop_all [] zero le = refl
drop_all [] (suc i) le = refl
drop_all (x ∷ es) zero le = absurd (omega arith)
drop_all (x ∷ es) (suc i) le = drop_all es i (omega arith)

pub read_all : (d : Netlist) (to : ℕ) (es : List Entry) (i : ℕ) (vs : List Vector) → HasRead d to es i vs → length es ≤ i → AreUpTo d es to vs
read_all d to es i vs had le =
    let all : reaching to 0 es ≡ take i es = had.left ∙ ap (λ ys. take i es ++ reaching to (last_time vs) ys) (drop_all es i le) ∙ append_none (take i es) in
    record { batches = rw all had.batches; lawful = had.lawful }

-- the next record is damaged
damaged_next : (d : Netlist) (to : ℕ) (es : List Entry) (i : ℕ) (vs : List Vector) (e : Entry) (at : ℕ) → HasRead d to es i vs → i < length es → get_or es i e ≡ e → last_time vs < to → IsDamagedBehind d vs e at → IsDamagedAmong d (reaching to 0 es) at
damaged_next d to es i vs e at had lt here below refused = record {
  front = take i es;
  damaged = e;
  back = reaching to e.entry.header.last (drop (suc i) es);
  entries = had.left ∙ ap (λ ys. take i es ++ reaching to (last_time vs) ys) (next_is es i e lt here).1 ∙ ap (λ ys. take i es ++ ys) (reaching_on to (last_time vs) e (drop (suc i) es) below);
  vectors = vs;
  batches = had.batches;
  refused = refused;
}

-- records begin with those that reach a time
reaching_front : (to last : ℕ) (es : List Entry) → (rest : List Entry) × (es ≡ reaching to last es ++ rest)
reaching_front to last [] = ([], refl)
reaching_front to last (e ∷ es) = by_test (nat_lt last to) (reaching_front to e.entry.header.last es)
  where
    by_test : (t : Bool) → ((rest : List Entry) × (es ≡ reaching to e.entry.header.last es ++ rest)) →
        (rest : List Entry) × (e ∷ es ≡ (if t then e ∷ reaching to e.entry.header.last es else []) ++ rest)
    by_test true more = (more.0, ap (λ ys. e ∷ ys) more.1)
    by_test false more = (e ∷ es, refl)

-- what is damaged among these is damaged among all
pub damaged_among : (d : Netlist) (to : ℕ) (es : List Entry) (at : ℕ) → IsDamagedAmong d (reaching to 0 es) at → IsDamagedAmong d es at
damaged_among d to es at is =
    let all = reaching_front to 0 es in
    record {
      front = is.front;
      damaged = is.damaged;
      back = is.back ++ all.0;
      entries = all.1 ∙ ap (λ ys. ys ++ all.0) is.entries ∙ append_assoc is.front (is.damaged ∷ is.back) all.0;
      vectors = is.vectors;
      batches = is.batches;
      refused = is.refused;
    }

-- the vectors of batches go on behind those of before
go_on : (d : Netlist) (before : List Vector) (es : List Entry) (vs : List Vector) → AreBatches d before es vs → (rest : List Vector) × (vs ≡ before ++ rest)
go_on d before [] vs are = ([], are ∙ sym (append_none before))
go_on d before (e ∷ es) vs are = (let more = go_on d (before ++ are.0) es vs are.2 in (are.0 ++ more.0, more.1 ∙ append_assoc before are.0 more.0))

-- those that were read up to a time, and what follows them
Follows : ℕ → List Vector → List Vector → Type 0
Follows to past vs = (rest : List Vector) × (vs ≡ past ++ rest) × ((rest ≡ []) ⊎ (to ≤ last_time past))

follows : (d : Netlist) → OneBatch d → (to : ℕ) (es : List Entry) (before vs past : List Vector) (last : ℕ) → last ≡ last_time before → AreBatches d before es vs → AreBatches d before (reaching to last es) past → Follows to past vs
unfolding Follows
follows d one to [] before vs past last is are read = ([], are ∙ sym read ∙ sym (append_none past), inl refl)
follows d one to (e ∷ es) before vs past last is are read =
    by_test (nat_lt last to) refl read
    (λ more. follows d one to es (before ++ are.0) vs past e.entry.header.last (ap (λ h. h.last) are.1.header) are.2 more)
  where
    by_test : (t : Bool) → nat_lt last to ≡ t → AreBatches d before (if t then e ∷ reaching to e.entry.header.last es else []) past →
        (AreBatches d (before ++ are.0) (reaching to e.entry.header.last es) past → Follows to past vs) → Follows to past vs
    by_test true test more step =
        let same : more.0 ≡ are.0 = one more.0 are.0 more.1.forms are.1.forms (sym more.1.payload ∙ are.1.payload) in
        step (subst (λ b. AreBatches d (before ++ b) (reaching to e.entry.header.last es) past) same more.2)
    by_test false test none step =
        let reached : to ≤ last = grind (arith, nat_tests) in
        let rest = go_on d before (e ∷ es) vs are in
        (rest.0, rest.1 ∙ ap (λ us. us ++ rest.0) (sym none), inr (omega (arith, is, ap last_time none)))

-- vectors behind lawful ones that reach a time are later than it
all_later : (d : Netlist) (to : ℕ) (past rest : List Vector) → IsLawful d (past ++ rest) → to ≤ last_time past → All (λ t. to < t) (times rest)
all_later d to past [] lawful reached = All-nil (λ t. to < t)
all_later d to past (v ∷ rest) lawful reached =
    let later : last_time past < v.time = lawful_later d past v rest lawful in
    let whole : past ++ v ∷ rest ≡ (past ++ v ∷ []) ++ rest = sym (append_assoc past (v ∷ []) rest) in
    All-cons (λ t. to < t) v.time (times rest) (omega arith)
    (all_later d to (past ++ v ∷ []) rest (subst (IsLawful d) whole lawful) (omega (arith, last_time-push past v)))

pub held_up_to : (d : Netlist) → OneBatch d → (bytes : List ℕ) (to : ℕ) (past : List Vector) → AreBatches d [] (reaching to 0 (behind_head bytes)) past → IsHeldUpTo d bytes to past
unfolding Follows
held_up_to d one bytes to past read source interval vs held =
    let behind : behind_head bytes ≡ held.batches = ap (drop 1) held.entries in
    let part : Follows to past vs = follows d one to held.batches [] vs past 0 refl held.are_batches (subst (λ es. AreBatches d [] (reaching to 0 es) past) behind read) in
    (part.0, part.1, by_cases part.0 part.1 part.2)
  where
    by_cases : (rest : List Vector) → vs ≡ past ++ rest → (rest ≡ []) ⊎ (to ≤ last_time past) → IsLawful d vs → All (λ t. to < t) (times rest)
    by_cases rest all (inl none) lawful = rw none (All-nil (λ t. to < t))
    by_cases rest all (inr reached) lawful = all_later d to past rest (subst (IsLawful d) all lawful) reached

-- behind those of its front, batches have one that lawful vectors go on with
pub at_front : (d : Netlist) → OneBatch d → (front : List Entry) (before : List Vector) (e : Entry) (back : List Entry) (vs ws : List Vector) → AreBatches d before (front ++ e ∷ back) vs → AreBatches d before front ws →
    (batch : List Vector) × IsBatch d ws e batch × ((rest : List Vector) × (vs ≡ (ws ++ batch) ++ rest))
at_front d one [] before e back vs ws are front_is =
    let more = go_on d (before ++ are.0) back vs are.2 in
    (are.0, rw front_is are.1, (more.0, rw front_is more.1))
at_front d one (x ∷ front) before e back vs ws are front_is =
    let same : front_is.0 ≡ are.0 = one front_is.0 are.0 front_is.1.forms are.1.forms (sym front_is.1.payload ∙ are.1.payload) in
    at_front d one front (before ++ are.0) e back vs ws are.2 (subst (λ b. AreBatches d (before ++ b) front ws) same front_is.2)

pub undamaged : (d : Netlist) → OneBatch d → (source : List ℕ) (interval : ℕ) (vs : List Vector) (bytes : List ℕ) (at : ℕ) → IsSound d source interval vs bytes → IsDamagedAt d bytes at → ⊥
undamaged d one source interval vs bytes at sound damaged =
    let behind : sound.held.batches ≡ damaged.front ++ damaged.damaged ∷ damaged.back = ap (drop 1) (sym sound.held.entries) ∙ damaged.entries in
    let there = at_front d one damaged.front [] damaged.damaged damaged.back vs damaged.vectors (subst (λ es. AreBatches d [] es vs) behind sound.held.are_batches) damaged.batches in
    damaged.refused.no_batch there.0 there.1 (lawful_front d (damaged.vectors ++ there.0) there.2.0 (subst (IsLawful d) there.2.1 sound.lawful))

pub headed : (d : Netlist) (source : List ℕ) (interval : ℕ) (vs : List Vector) (bytes : List ℕ) (at : ℕ) → IsSound d source interval vs bytes → IsHeadDamagedAt bytes at → ⊥
headed d source interval vs bytes at sound (inl none) = absurd (let nothing : sound.held.head ∷ sound.held.batches ≡ [] = sym sound.held.entries ∙ none.0 in cc)
headed d source interval vs bytes at sound (inr headless) =
    let both : sound.held.head ∷ sound.held.batches ≡ headless.head ∷ headless.batches = sym sound.held.entries ∙ headless.entries in
    let same : sound.held.head ≡ headless.head = cc in
    headless.no_head interval source (subst (λ e. IsHead e.payload interval source) same sound.held.is_head)

-- what holds of the gate of a damaged record holds where that is weaker
pub damaged_weaker : (fault : ReplayFault) (P Q : ℕ → Type 0) → ((at : ℕ) → P at → Q at) → OnDamaged fault P → OnDamaged fault Q
damaged_weaker Deck P Q weaker h = h
damaged_weaker (Damaged at) P Q weaker h = weaker at h
damaged_weaker Memory P Q weaker h = h

-- the entry of a record stands in its place
entry_in : (bytes : List ℕ) (rs : List Record) (i : ℕ) (r : Record) (d : Record) → i < length rs → r ≡ get_or rs i d → get_or (map (entry_at bytes) rs) i (entry_at bytes r) ≡ entry_at bytes r
entry_in bytes [] i r d lt here = absurd (omega arith)
entry_in bytes (x ∷ rs) zero r d lt here = ap (entry_at bytes) (sym here)
entry_in bytes (x ∷ rs) (suc i) r d lt here = entry_in bytes rs i r d (omega arith) here

-- the next record of a log is damaged
pub damaged_record : (d : Netlist) (to : ℕ) (bytes now : List ℕ) (rs : List Record) (i : ℕ) (vs : List Vector) (r : Record) (at : ℕ) → HasRead d to (map (entry_at bytes) rs) i vs → i < length rs → now ≡ bytes → last_time vs < to →
    IsDamagedBehind d vs (entry_at now (get_or rs i r)) at → IsDamagedAmong d (reaching to 0 (map (entry_at bytes) rs)) at
damaged_record d to bytes now rs i vs r at had lt same below refused =
    damaged_next d to (map (entry_at bytes) rs) i vs (entry_at bytes (get_or rs i r)) at had (omega (arith, length-map rs (entry_at bytes))) (entry_in bytes rs i (get_or rs i r) r lt refl) below
    (subst (λ bs. IsDamagedBehind d vs (entry_at bs (get_or rs i r)) at) same refused)

-- or it was read
pub more_record : (d : Netlist) (to : ℕ) (bytes now : List ℕ) (rs : List Record) (i : ℕ) (vs vs' : List Vector) (r : Record) → HasRead d to (map (entry_at bytes) rs) i vs → i < length rs → now ≡ bytes → last_time vs < to →
    AddsBatch d vs (entry_at now (get_or rs i r)) vs' → HasRead d to (map (entry_at bytes) rs) (i + 1) vs'
more_record d to bytes now rs i vs vs' r had lt same below adds =
    read_more d to (map (entry_at bytes) rs) i vs vs' (entry_at bytes (get_or rs i r)) had (omega (arith, length-map rs (entry_at bytes))) (entry_in bytes rs i (get_or rs i r) r lt refl) below
    (subst (λ bs. AddsBatch d vs (entry_at bs (get_or rs i r)) vs') same adds)
