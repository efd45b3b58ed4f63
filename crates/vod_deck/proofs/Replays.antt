-- Calls that are made again.
use Rattle.std.proofs.Common.{◌≡◌, ℕ, ◌+◌, ◌≤◌, ◌<◌, List, [], ◌∷◌, ◌++◌, length, take, drop, get_or, refl, sym, ◌∙◌, ap, subst, arith}
use Rattle.std.specs.Prelude.{true, false}
use Rattle.std.proofs.lemmas.List.{drop-drop, drop_all, take_more, take-append-drop}
use Rattle.vod_deck.specs.InMemory.{Piece, Event, Disk, after, picked, run, fresh, events_of, total_wrote}
use Rattle.vod_deck.specs.InMemory.Event.{Write, Sync, Give, Sure}
use Rattle.vod_deck.specs.Replay.{IsReplay, Again}
use Rattle.vod_deck.specs.declared.in_memory.replay.Replay.{Replay}
use Rattle.vod_deck.specs.declared.in_memory.Call.{Call}
use Rattle.vod_deck.specs.declared.in_memory.Call.TheVariants.{Wrote, Synced, Said}

-- the calls up to some, and the rest
pub events-split : (bytes : List ℕ) (cs rest : List Call) →
    events_of bytes [] (cs ++ rest) ≡ events_of bytes [] cs ++ events_of (drop (total_wrote cs) bytes) [] rest
events-split bytes [] rest = refl
events-split bytes (Wrote at n held ∷ cs) rest =
    ap (λ es. Write (record { at = at; bytes = take n bytes }) held ∷ es) (events-split (drop n bytes) cs rest
    ∙ ap (λ b. events_of (drop n bytes) [] cs ++ events_of b [] rest) (drop-drop (total_wrote cs) n bytes))
events-split bytes (Synced true ∷ cs) rest = ap (λ es. Sync ∷ es) (events-split bytes cs rest)
events-split bytes (Synced false ∷ cs) rest = events-split bytes cs rest
events-split bytes (Said n true ∷ cs) rest =
    rw (drop-nil n) (ap (λ es. Give (take n []) ∷ Sure ∷ es) (events-split bytes cs rest))
  where
    drop-nil : (m : ℕ) → drop {A = ℕ} m [] ≡ []
    drop-nil m = drop_all m [] (omega arith)
events-split bytes (Said n false ∷ cs) rest =
    rw (drop-nil n) (ap (λ es. Give (take n []) ∷ es) (events-split bytes cs rest))
  where
    drop-nil : (m : ℕ) → drop {A = ℕ} m [] ≡ []
    drop-nil m = drop_all m [] (omega arith)

pub run-append : (d : Disk) (es more : List Event) → run d (es ++ more) ≡ run (run d es) more
run-append d [] more = refl
run-append d (e ∷ es) more = run-append (after d e) es more

pub total_wrote-append : (cs rest : List Call) → total_wrote (cs ++ rest) ≡ total_wrote cs + total_wrote rest
total_wrote-append [] rest = omega arith
total_wrote-append (Wrote at n held ∷ cs) rest = omega (arith, total_wrote-append cs rest)
total_wrote-append (Synced held ∷ cs) rest = total_wrote-append cs rest
total_wrote-append (Said n held ∷ cs) rest = total_wrote-append cs rest

-- the file and the writes of two disks are the same
pub record SameFiles (d e : Disk) : Type 0 where
  pub file : d.file ≡ e.file
  pub writes : d.writes ≡ e.writes
  pub reads : d.reads ≡ e.reads

-- texts don't matter to the file
pub files-only : (cs : List Call) (bytes texts none : List ℕ) (d e : Disk) → SameFiles d e →
    SameFiles (run d (events_of bytes texts cs)) (run e (events_of bytes none cs))
files-only [] bytes texts none d e same = same
files-only (Wrote at n held ∷ cs) bytes texts none d e same =
    let w : Piece = record { at = at; bytes = take n bytes } in
    files-only cs (drop n bytes) texts none (after d (Write w held)) (after e (Write w held)) (record {
      file = same.file;
      writes = ap (λ ws. w ∷ ws) same.writes;
      reads = ap (λ r. (after (record d { reads = r }) (Write w held)).reads) same.reads;
    })
files-only (Synced true ∷ cs) bytes texts none d e same =
    files-only cs bytes texts none (after d Sync) (after e Sync) (record { file = same.reads; writes = refl; reads = same.reads })
files-only (Synced false ∷ cs) bytes texts none d e same = files-only cs bytes texts none d e same
files-only (Said n true ∷ cs) bytes texts none d e same =
    files-only cs bytes (drop n texts) (drop n none) (after (after d (Give (take n texts))) Sure) (after (after e (Give (take n none))) Sure)
    (record { file = same.file; writes = same.writes; reads = same.reads })
files-only (Said n false ∷ cs) bytes texts none d e same =
    files-only cs bytes (drop n texts) (drop n none) (after d (Give (take n texts))) (after e (Give (take n none)))
    (record { file = same.file; writes = same.writes; reads = same.reads })

-- one more call that is made again
pub again-more : (pick : ℕ) (first wrote : List ℕ) (calls : List Call) (i : ℕ) (none : Call) (old new : Replay) → i < length calls →
    IsReplay pick (run (fresh first) (events_of wrote [] (take i calls))) old →
    Again pick old new (events_of (drop (total_wrote (take i calls)) wrote) [] (get_or calls i none ∷ [])) →
    IsReplay pick (run (fresh first) (events_of wrote [] (take (i + 1) calls))) new
again-more pick first wrote calls i none old new le so_far again =
    let call : Call = get_or calls i none in
    let more : take (i + 1) calls ≡ take i calls ++ call ∷ [] = take_more calls i none le in
    let d : Disk = run (fresh first) (events_of wrote [] (take i calls)) in
    let all : run (fresh first) (events_of wrote [] (take (i + 1) calls)) ≡ run d (events_of (drop (total_wrote (take i calls)) wrote) [] (call ∷ [])) =
    ap (λ cs. run (fresh first) (events_of wrote [] cs)) more
    ∙ ap (λ es. run (fresh first) es) (events-split wrote (take i calls) (call ∷ []))
    ∙ run-append (fresh first) (events_of wrote [] (take i calls)) (events_of (drop (total_wrote (take i calls)) wrote) [] (call ∷ [])) in
    let P : Disk → Type 0 = λ e. IsReplay pick e new in
    subst P (sym all) (again d so_far)

pub total_wrote-more : (calls : List Call) (i : ℕ) (none : Call) → i < length calls →
    total_wrote (take (i + 1) calls) ≡ total_wrote (take i calls) + total_wrote (get_or calls i none ∷ [])
total_wrote-more calls i none le =
    ap total_wrote (take_more calls i none le) ∙ total_wrote-append (take i calls) (get_or calls i none ∷ [])

pub total_wrote-take : (calls : List Call) (i : ℕ) → total_wrote (take i calls) ≤ total_wrote calls
total_wrote-take calls i = omega (arith, total_wrote-append (take i calls) (drop i calls), ap total_wrote (take-append-drop i calls))

-- what a pick leaves hangs on no text
pub picked-same : (pick : ℕ) (first wrote texts : List ℕ) (calls : List Call) →
    picked pick (run (fresh first) (events_of wrote [] calls)).writes (run (fresh first) (events_of wrote [] calls)).file
    ≡ picked pick (run (fresh first) (events_of wrote texts calls)).writes (run (fresh first) (events_of wrote texts calls)).file
picked-same pick first wrote texts calls =
    let same : SameFiles (run (fresh first) (events_of wrote texts calls)) (run (fresh first) (events_of wrote [] calls)) =
    files-only calls wrote texts [] (fresh first) (fresh first) (record { file = refl; writes = refl; reads = refl }) in
    sym (ap (λ ws. picked pick ws (run (fresh first) (events_of wrote texts calls)).file) same.writes
    ∙ ap (λ f. picked pick (run (fresh first) (events_of wrote [] calls)).writes f) same.file)
