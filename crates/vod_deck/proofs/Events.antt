-- One more call, and the events that it makes.
use Rattle.std.proofs.Common.{◌≡◌, ℕ, ◌+◌, ◌≤◌, List, [], ◌∷◌, ◌++◌, length, take, drop, refl, ap, arith, length-drop}
use Rattle.std.specs.Prelude.{true, false}
use Rattle.std.proofs.lemmas.List.{take-append-le, drop-append-le, nil_from_length}
use Rattle.vod_deck.specs.InMemory.{events_of, total_wrote, total_said}
use Rattle.vod_deck.specs.InMemory.Event.{Write, Sync, Give, Sure}
use Rattle.vod_deck.specs.declared.in_memory.Call.{Call}
use Rattle.vod_deck.specs.declared.in_memory.Call.TheVariants.{Wrote, Synced, Said}

pub total_wrote-last : (cs : List Call) (c : Call) → total_wrote (cs ++ c ∷ []) ≡ total_wrote cs + total_wrote (c ∷ [])
total_wrote-last [] c = omega arith
total_wrote-last (Wrote at n held ∷ cs) c = omega (arith, total_wrote-last cs c)
total_wrote-last (Synced held ∷ cs) c = total_wrote-last cs c
total_wrote-last (Said n held ∷ cs) c = total_wrote-last cs c

pub total_said-last : (cs : List Call) (c : Call) → total_said (cs ++ c ∷ []) ≡ total_said cs + total_said (c ∷ [])
total_said-last [] c = omega arith
total_said-last (Wrote at n held ∷ cs) c = total_said-last cs c
total_said-last (Synced held ∷ cs) c = total_said-last cs c
total_said-last (Said n held ∷ cs) c = omega (arith, total_said-last cs c)

-- calls whose bytes and texts are the first of those that were handed, and then more calls
pub events-more : (bytes texts more said : List ℕ) (cs rest : List Call) → total_wrote cs ≡ length bytes → total_said cs ≡ length texts →
    events_of (bytes ++ more) (texts ++ said) (cs ++ rest) ≡ events_of bytes texts cs ++ events_of more said rest
events-more bytes texts more said [] rest w s =
    let no_bytes : bytes ≡ [] = nil_from_length bytes (omega arith) in
    let no_texts : texts ≡ [] = nil_from_length texts (omega arith) in
    rw (no_bytes, no_texts) refl
events-more bytes texts more said (Wrote at n held ∷ cs) rest w s =
    let fits : n ≤ length bytes = omega arith in
    rw (take-append-le n bytes more fits, drop-append-le n bytes more fits)
    (ap (λ es. Write (record { at = at; bytes = take n bytes }) held ∷ es) (events-more (drop n bytes) texts more said cs rest (omega (arith, length-drop n bytes)) s))
events-more bytes texts more said (Synced true ∷ cs) rest w s = ap (λ es. Sync ∷ es) (events-more bytes texts more said cs rest w s)
events-more bytes texts more said (Synced false ∷ cs) rest w s = events-more bytes texts more said cs rest w s
events-more bytes texts more said (Said n true ∷ cs) rest w s =
    let fits : n ≤ length texts = omega arith in
    rw (take-append-le n texts said fits, drop-append-le n texts said fits)
    (ap (λ es. Give (take n texts) ∷ Sure ∷ es) (events-more bytes (drop n texts) more said cs rest w (omega (arith, length-drop n texts))))
events-more bytes texts more said (Said n false ∷ cs) rest w s =
    let fits : n ≤ length texts = omega arith in
    rw (take-append-le n texts said fits, drop-append-le n texts said fits)
    (ap (λ es. Give (take n texts) ∷ es) (events-more bytes (drop n texts) more said cs rest w (omega (arith, length-drop n texts))))
