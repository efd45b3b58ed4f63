-- Records that are read one by one.
use Rattle.std.proofs.Common.{◌≡◌, ℕ, ◌+◌, ◌-◌, ◌≤◌, ◌<◌, List, [], ◌∷◌, ◌++◌, length, take, drop, get_or, refl, sym, ◌∙◌, ap, arith, append_assoc, length-drop}
use Rattle.std.specs.Prelude.{Bool, true, false, ◌==◌, ◌&&◌, nat_lt, nat_le, Option, None, Some, if◌then◌else◌}
use Rattle.std.proofs.lemmas.List.{drop_more, drop-drop, append-nil, get_or-take, get_or-drop}
use Rattle.std.proofs.lemmas.Bool.Decides.{nat_tests}
use Rattle.vod_deck.specs.Outcomes.{View}
use Rattle.vod_log.specs.Format.{header_of, follows, accepted, record_at, entry_of, behind, gate_read, reading, committed}
use Rattle.vod_log.specs.Opened.{IsLogOf, IsWrongAt, IsNextAt, IsWrongNext, IsReadUpTo, records_of}
use Rattle.vod_log.specs.Tail.{IsUnchanged}
use Rattle.vod_log.specs.declared.header.Header.{Header}
use Rattle.vod_log.specs.declared.log.Record.{Record}
use Rattle.vod_log.proofs.Readings.{is_zero, accepted-some, reading-skip}

pub unchanged-then : (old mid new : View) → IsUnchanged old mid → IsUnchanged mid new → IsUnchanged old new
unchanged-then old mid new first second = record {
  bytes = second.bytes ∙ first.bytes;
  outcomes = record {
    moment = second.outcomes.moment ∙ first.outcomes.moment;
    may_leave = λ c now. first.outcomes.may_leave c (second.outcomes.may_leave c now);
    still_may_leave = λ c now. second.outcomes.still_may_leave c (first.outcomes.still_may_leave c now);
    left_since = λ t c left. first.outcomes.left_since t c (second.outcomes.left_since t c left);
    still_left_since = λ t c left. second.outcomes.still_left_since t c (first.outcomes.still_left_since t c left);
  };
}

-- with too little room nothing is accepted
pub accepted-none : (prev : Option Header) (size : ℕ) (o : Option Header) → size ≤ 48 → accepted prev size o ≡ None
accepted-none prev size None le = refl
accepted-none prev size (Some h) le = by_test (follows prev h)
  where
    no_room : nat_lt (48 + h.length) size ≡ false
    no_room = grind (arith, nat_tests)

    by_test : (t : Bool) → (if t && nat_lt (48 + h.length) size then Some h else None) ≡ None
    by_test true = ap (λ x. if x then Some h else None) no_room
    by_test false = refl

pub record-none : (last : Option Header) (rest : List ℕ) → length rest ≤ 48 → record_at last rest ≡ None
record-none last rest le = accepted-none last (length rest) (header_of (take 48 rest)) le

-- before the first record
pub read-start : (bytes : List ℕ) → 1 < length bytes → IsReadUpTo bytes [] 0 None
read-start bytes long =
    let t : nat_le (length bytes) 1 ≡ false = grind (arith, nat_tests) in
    let whole : committed bytes ≡ reading None 0 0 bytes = ap (λ x. if x then record { entries = []; gate = 0; last = None; framed = true } else reading None 0 0 bytes) t in
    record { entries = ap (λ r. records_of r.entries) whole; framed = ap (λ r. r.framed) whole; gate_is = ap (λ r. r.gate) whole; last_is = ap (λ r. r.last) whole }

-- the reading at a gate
at-gate : (bytes : List ℕ) (gate : ℕ) (last : Option Header) (t : Bool) (found : Option Header) → gate < length bytes → (get_or bytes gate 0 == 0) ≡ t → record_at last (drop (gate + 1) bytes) ≡ found →
    reading last 0 gate (drop gate bytes)
    ≡ gate_read last gate (drop (gate + 1) bytes) t found (λ h. reading (Some h) (48 + h.length) (gate + 1) (drop (gate + 1) bytes))
at-gate bytes gate last t found inside gate_is found_is =
    ap (λ xs. reading last 0 gate xs) (drop_more bytes gate 0 inside)
    ∙ ap (λ x. gate_read last gate (drop (gate + 1) bytes) x (record_at last (drop (gate + 1) bytes)) (λ h. reading (Some h) (48 + h.length) (gate + 1) (drop (gate + 1) bytes))) gate_is
    ∙ ap (λ o. gate_read last gate (drop (gate + 1) bytes) t o (λ h. reading (Some h) (48 + h.length) (gate + 1) (drop (gate + 1) bytes))) found_is

-- one more record
pub read-more : (bytes : List ℕ) (records : List Record) (gate : ℕ) (last : Option Header) (h : Header) → IsReadUpTo bytes records gate last → gate < length bytes →
    IsNextAt bytes gate last (Some h) → IsReadUpTo bytes (records ++ record { at = gate; header = h } ∷ []) (gate + (49 + h.length)) (Some h)
read-more bytes records gate last h is inside next =
    let rest : List ℕ = drop (gate + 1) bytes in
    let fits : 48 + h.length < length rest = (accepted-some last (length rest) (header_of (take 48 rest)) h next.1).2 in
    let place : gate + 1 + (48 + h.length) ≡ gate + (49 + h.length) = omega arith in
    let onward : reading (Some h) (48 + h.length) (gate + 1) rest ≡ reading (Some h) 0 (gate + (49 + h.length)) (drop (gate + (49 + h.length)) bytes) =
    reading-skip rest (Some h) (48 + h.length) (gate + 1) (omega (arith, fits))
    ∙ ap (λ xs. reading (Some h) 0 (gate + 1 + (48 + h.length)) xs) (drop-drop (48 + h.length) (gate + 1) bytes)
    ∙ ap (λ a. reading (Some h) 0 a (drop a bytes)) place in
    let whole : reading last 0 gate (drop gate bytes) ≡ behind (entry_of gate h rest) (reading (Some h) 0 (gate + (49 + h.length)) (drop (gate + (49 + h.length)) bytes)) =
    at-gate bytes gate last false (Some h) inside next.0 next.1 ∙ ap (λ r. behind (entry_of gate h rest) r) onward in
    record {
      entries = is.entries ∙ ap (λ r. records ++ records_of r.entries) whole
          ∙ sym (append_assoc records (record { at = gate; header = h } ∷ []) (records_of (reading (Some h) 0 (gate + (49 + h.length)) (drop (gate + (49 + h.length)) bytes)).entries));
      framed = is.framed ∙ ap (λ r. r.framed) whole;
      gate_is = is.gate_is ∙ ap (λ r. r.gate) whole;
      last_is = is.last_is ∙ ap (λ r. r.last) whole;
    }

is-zero : (g : ℕ) → g ≡ 0 → (g == 0) ≡ true
is-zero g e = grind arith

-- the gate is closed
pub read-end : (bytes : List ℕ) (records : List Record) (gate : ℕ) (last : Option Header) → IsReadUpTo bytes records gate last → gate < length bytes →
    IsNextAt bytes gate last None → IsLogOf (committed bytes) (record { records = records; gate = gate; last = last })
read-end bytes records gate last is inside next =
    let whole : reading last 0 gate (drop gate bytes) ≡ record { entries = []; gate = gate; last = last; framed = true } =
    at-gate bytes gate last true (record_at last (drop (gate + 1) bytes)) inside (is-zero (get_or bytes gate 0) next) refl in
    record {
      framed = is.framed ∙ ap (λ r. r.framed) whole;
      records = sym (is.entries ∙ ap (λ r. records ++ records_of r.entries) whole ∙ append-nil records);
      gate_is = sym (is.gate_is ∙ ap (λ r. r.gate) whole);
      last_is = sym (is.last_is ∙ ap (λ r. r.last) whole);
    }

-- the record is wrong
pub read-wrong : (bytes : List ℕ) (records : List Record) (gate : ℕ) (last : Option Header) → IsReadUpTo bytes records gate last → gate < length bytes →
    IsWrongNext bytes gate last → IsWrongAt (committed bytes) gate
read-wrong bytes records gate last is inside next =
    let whole : reading last 0 gate (drop gate bytes) ≡ record { entries = []; gate = gate; last = last; framed = false } =
    at-gate bytes gate last false None inside next.open_is next.wrong in
    record {
      framed = is.framed ∙ ap (λ r. r.framed) whole;
      gate_is = is.gate_is ∙ ap (λ r. r.gate) whole;
    }

gate-byte : (bytes buf : List ℕ) (gate : ℕ) → buf ≡ take 1 (drop gate bytes) → get_or buf 0 0 ≡ get_or bytes gate 0
gate-byte bytes buf gate got =
    let one : 0 < 1 = omega arith in
    let place : gate + 0 ≡ gate = omega arith in
    ap (λ xs. get_or xs 0 0) got ∙ get_or-take 1 (drop gate bytes) 0 0 one ∙ get_or-drop gate bytes 0 0 ∙ ap (λ i. get_or bytes i 0) place

-- a byte that was read at a gate says whether it is open
pub gate-open : (bytes buf : List ℕ) (gate : ℕ) → buf ≡ take 1 (drop gate bytes) → (get_or buf 0 0 == 0) ≡ false → (get_or bytes gate 0 == 0) ≡ false
gate-open bytes buf gate got open_is = ap (λ b. b == 0) (sym (gate-byte bytes buf gate got)) ∙ open_is

-- or closed
pub gate-closed : (bytes buf : List ℕ) (gate : ℕ) → buf ≡ take 1 (drop gate bytes) → (get_or buf 0 0 == 0) ≡ true → get_or bytes gate 0 ≡ 0
gate-closed bytes buf gate got closed = sym (gate-byte bytes buf gate got) ∙ is_zero (get_or buf 0 0) closed

-- what was accepted of the header that was read is the record behind the gate
pub record-read : (bytes buf : List ℕ) (gate len size : ℕ) (last : Option Header) (o : Option Header) → len ≡ length bytes → size ≡ len - gate - 1 →
    buf ≡ take 48 (drop (gate + 1) bytes) → o ≡ accepted last size (header_of buf) → record_at last (drop (gate + 1) bytes) ≡ o
record-read bytes buf gate len size last o total size_is got is =
    let e : length (drop (gate + 1) bytes) ≡ size = omega (arith, length-drop (gate + 1) bytes, total, size_is) in
    ap (λ n. accepted last n (header_of (take 48 (drop (gate + 1) bytes)))) e ∙ ap (λ xs. accepted last size (header_of xs)) (sym got) ∙ sym is
