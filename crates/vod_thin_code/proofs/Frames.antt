-- A record's bytes, read as a log reads them.
use Rattle.std.proofs.Common.{◌≡◌, ℕ, ◌+◌, ◌-◌, ◌<◌, ◌^◌, true, List, [], ◌∷◌, ◌++◌, length, take, get_or, refl, sym, ap, ◌∙◌, arith, length-append}
use Rattle.std.proofs.lemmas.Bool.Decides.{nat_tests}
use Rattle.std.proofs.lemmas.List.{take_at, get_or_at, get_or-append-add}
use Rattle.std.proofs.lemmas.Nat.{from_le_bytes-to_le_bytes_8}
use Rattle.std.specs.Prelude.{Bool, false, ◌==◌, Option, None, Some, IfSome, if◌then◌else◌, codes}
use Rattle.std.specs.Int.{w64, from_le_bytes, to_le_bytes}
use Rattle.vod_log.specs.declared.header.Kind.{Kind}
use Rattle.vod_log.specs.declared.header.Kind.TheVariants.{Head, Batch, Image}
use Rattle.vod_log.specs.declared.header.Header.{Header}
use Rattle.vod_log.specs.Format.{begins_header, entry_of, kind_number, kind_of, known_of, never}
use Rattle.vod_log.specs.Tail.{frame_header}
use Rattle.vod_thin_code.specs.Bytes.{header_bytes, known_number, record_bytes}

pub begins : (h : Header) (payload : List ℕ) → begins_header (take 48 (record_bytes h payload)) ≡ true
begins h payload = by_kind h.kind refl
  where
    by_kind : (kind : Kind) → kind ≡ h.kind → begins_header (take 48 (record_bytes h payload)) ≡ true
    by_kind Head e = rw (← e) refl
    by_kind Batch e = rw (← e) refl
    by_kind Image e = rw (← e) refl

kind_read : (kind : Kind) → kind_of (kind_number kind) ≡ kind
kind_read Head = refl
kind_read Batch = refl
kind_read Image = refl

known_fits : (known : Option ℕ) → IfSome known (λ time. time < 2 ^ 64 - 1) → known_number known < 2 ^ 64
known_fits None fits = omega arith
known_fits (Some time) fits = omega (arith, fits)

known_read : (known : Option ℕ) → IfSome known (λ time. time < 2 ^ 64 - 1) → known_of (known_number known) ≡ known
known_read None fits = refl
known_read (Some time) fits =
    let some : (time == never) ≡ false = grind (arith, nat_tests, fits) in
    ap (λ none. if none then None else Some time) some

pub header_read : (h : Header) (payload : List ℕ) → h.length < 2 ^ 64 → h.before < 2 ^ 64 → h.after < 2 ^ 64 → h.last < 2 ^ 64 → IfSome h.known (λ time. time < 2 ^ 64 - 1) →
    frame_header (record_bytes h payload) ≡ h
header_read h payload length before after last known =
    let read : Header = frame_header (record_bytes h payload) in
    let known_is : known_of (from_le_bytes w64 (to_le_bytes w64 (known_number h.known))) ≡ h.known =
    ap known_of (from_le_bytes-to_le_bytes_8 (known_number h.known) (known_fits h.known known)) ∙ known_read h.known known in
    ap (λ k. record { kind = k; length = read.length; before = read.before; after = read.after; last = read.last; known = read.known }) (kind_read h.kind)
    ∙ ap (λ n. record { kind = h.kind; length = n; before = read.before; after = read.after; last = read.last; known = read.known }) (from_le_bytes-to_le_bytes_8 h.length length)
    ∙ ap (λ n. record { kind = h.kind; length = h.length; before = n; after = read.after; last = read.last; known = read.known }) (from_le_bytes-to_le_bytes_8 h.before before)
    ∙ ap (λ n. record { kind = h.kind; length = h.length; before = h.before; after = n; last = read.last; known = read.known }) (from_le_bytes-to_le_bytes_8 h.after after)
    ∙ ap (λ n. record { kind = h.kind; length = h.length; before = h.before; after = h.after; last = n; known = read.known }) (from_le_bytes-to_le_bytes_8 h.last last)
    ∙ ap (λ o. record { kind = h.kind; length = h.length; before = h.before; after = h.after; last = h.last; known = o }) known_is

pub long : (h : Header) (payload : List ℕ) → length (record_bytes h payload) ≡ 49 + length payload
long h payload = omega (arith, length-append payload (0 ∷ []))

pub closed : (h : Header) (payload : List ℕ) → get_or (record_bytes h payload) (48 + length payload) 0 ≡ 0
closed h payload = get_or-append-add (header_bytes h) (payload ++ 0 ∷ []) (length payload) 0 ∙ get_or_at payload 0 [] 0 (length payload) refl

pub entry : (at : ℕ) (h : Header) (payload : List ℕ) → h.length ≡ length payload → entry_of at h (record_bytes h payload) ≡ record { entry = record { at = at; header = h }; payload = payload }
entry at h payload e = ap (λ bs. record { entry = record { at = at; header = h }; payload = bs }) (take_at payload (0 ∷ []) h.length (sym e))
