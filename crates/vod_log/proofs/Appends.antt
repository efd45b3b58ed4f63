-- What is committed while a record is appended.
use Rattle.std.proofs.Common.{◌≡◌, ℕ, zero, suc, ◌+◌, ◌≤◌, ◌<◌, ◌⊎◌, inl, inr, List, [], ◌∷◌, ◌++◌, length, take, drop, get_or, refl, sym, ◌∙◌, ap, arith, append_assoc, length-append, length-take, length-drop}
use Rattle.std.specs.Prelude.{Bool, true, false, ◌==◌, nat_le, Option, None, Some, if◌then◌else◌}
use Rattle.std.proofs.lemmas.List.{take-take, take_at, drop_at, drop_all, take-append-le, drop-append-le, drop_more, append-nil, get_or-take, get_or-drop, get_or_append_left}
use Rattle.std.proofs.lemmas.Bool.Decides.{nat_tests}
use Rattle.vod_deck.specs.Outcomes.{Holds, Torn}
use Rattle.vod_log.specs.Format.{Reading, header_of, accepted, record_at, entry_of, behind, gate_read, reading, committed}
use Rattle.vod_log.specs.Tail.{frame_header, Continues, appended, EndsAt}
use Rattle.vod_log.specs.declared.header.Header.{Header}
use Rattle.vod_log.proofs.Readings.{is_zero, prepended, front, reading-skip, accepted-is}

-- bytes with a closed gate are read from the first gate on
pub as-reading : (bytes : List ℕ) (gate : ℕ) → gate < length bytes → get_or bytes gate 0 ≡ 0 → committed bytes ≡ reading None 0 0 bytes
as-reading [] gate inside closed = absurd (omega arith)
as-reading (b ∷ []) zero inside closed = sym (ap (λ t. gate_read None 0 [] t (record_at None []) (λ h. reading (Some h) (48 + h.length) (0 + 1) [])) (same closed))
  where
    same : b ≡ 0 → (b == 0) ≡ true
    same e = grind arith
as-reading (b ∷ []) (suc n) inside closed = absurd (omega arith)
as-reading (b ∷ c ∷ rest) gate inside closed =
    let t : nat_le (length (b ∷ c ∷ rest)) 1 ≡ false = grind (arith, nat_tests) in
    ap (λ x. if x then record { entries = []; gate = 0; last = None; framed = true } else reading None 0 0 (b ∷ c ∷ rest)) t

-- behind the same front, what is committed goes on from the gate
behind-front : (bytes bytes' : List ℕ) (gate : ℕ) (last : Option Header) → EndsAt bytes gate last → take gate bytes' ≡ take gate bytes → gate < length bytes' →
    reading None 0 0 bytes' ≡ prepended (committed bytes).entries (reading last 0 gate (drop gate bytes'))
behind-front bytes bytes' gate last is same inside =
    let whole : committed bytes ≡ reading None 0 0 bytes = as-reading bytes gate is.inside is.closed in
    let e : (reading None 0 0 bytes).framed ≡ true = ap (λ r. r.framed) (sym whole) ∙ is.framed in
    let there : (reading None 0 0 bytes).gate ≡ 0 + gate = ap (λ r. r.gate) (sym whole) ∙ is.gate_is ∙ omega arith in
    let start : 0 + gate ≡ gate = omega arith in
    front bytes bytes' None 0 0 gate e there same inside
    ∙ ap (λ r. prepended r.entries (reading r.last 0 (0 + gate) (drop gate bytes'))) (sym whole)
    ∙ ap (λ l. prepended (committed bytes).entries (reading l 0 (0 + gate) (drop gate bytes'))) is.last_is
    ∙ ap (λ a. prepended (committed bytes).entries (reading last 0 a (drop gate bytes'))) start

reading-closed : (last : Option Header) (gate v : ℕ) (rest : List ℕ) → v ≡ 0 → reading last 0 gate (v ∷ rest) ≡ record { entries = []; gate = gate; last = last; framed = true }
reading-closed last gate v rest e =
    let t : (v == 0) ≡ true = grind arith in
    ap (λ x. gate_read last gate rest x (record_at last rest) (λ h. reading (Some h) (48 + h.length) (gate + 1) rest)) t

reading-parts : (r : Reading) (gate : ℕ) (last : Option Header) → r.gate ≡ gate → r.last ≡ last → r.framed ≡ true →
    r ≡ record { entries = r.entries; gate = gate; last = last; framed = true }
reading-parts r gate last g l f =
    ap (λ x. record { entries = r.entries; gate = x; last = r.last; framed = r.framed }) g
    ∙ ap (λ x. record { entries = r.entries; gate = gate; last = x; framed = r.framed }) l
    ∙ ap (λ x. record { entries = r.entries; gate = gate; last = last; framed = x }) f

-- behind a closed gate anything may stand
pub behind-closed : (bytes bytes' : List ℕ) (gate : ℕ) (last : Option Header) → EndsAt bytes gate last → take gate bytes' ≡ take gate bytes → gate < length bytes' →
    get_or bytes' gate 0 ≡ 0 → committed bytes' ≡ committed bytes
behind-closed bytes bytes' gate last is same inside closed =
    let parts : (committed bytes) ≡ record { entries = (committed bytes).entries; gate = gate; last = last; framed = true } = reading-parts (committed bytes) gate last is.gate_is is.last_is is.framed in
    as-reading bytes' gate inside closed ∙ behind-front bytes bytes' gate last is same inside
    ∙ ap (λ xs. prepended (committed bytes).entries (reading last 0 gate xs)) (drop_more bytes' gate 0 inside)
    ∙ ap (λ r. prepended (committed bytes).entries r) (reading-closed last gate (get_or bytes' gate 0) (drop (gate + 1) bytes') closed)
    ∙ ap (λ es. record { entries = es; gate = gate; last = last; framed = true }) (append-nil (committed bytes).entries)
    ∙ sym parts

reading-frame : (last : Option Header) (gate v : ℕ) (frame more : List ℕ) → Continues last frame → (v == 0) ≡ false →
    reading last 0 gate (v ∷ frame ++ more)
    ≡ record { entries = entry_of gate (frame_header frame) frame ∷ []; gate = gate + length frame; last = Some (frame_header frame); framed = true }
reading-frame last gate v frame more is open_is =
    let h : Header = frame_header frame in
    let n : ℕ = 48 + h.length in
    let first : take 48 (frame ++ more) ≡ take 48 frame = take-append-le 48 frame more (omega (arith, is.long)) in
    let header : header_of (take 48 frame) ≡ Some h = ap (λ t. if t then Some h else None) is.begins in
    let size : 48 + h.length < length (frame ++ more) = omega (arith, is.long, length-append frame more) in
    let found : record_at last (frame ++ more) ≡ Some h =
    ap (λ xs. accepted last (length (frame ++ more)) (header_of xs)) first ∙ ap (λ o. accepted last (length (frame ++ more)) o) header
    ∙ accepted-is last (length (frame ++ more)) h is.right size in
    let payload : take h.length (drop 48 (frame ++ more)) ≡ take h.length (drop 48 frame) =
    ap (λ xs. take h.length xs) (drop-append-le 48 frame more (omega (arith, is.long)))
    ∙ take-append-le h.length (drop 48 frame) more (omega (arith, is.long, length-drop 48 frame)) in
    let last_byte : drop n frame ≡ 0 ∷ [] =
    drop_more frame n 0 (omega (arith, is.long)) ∙ ap (λ b. b ∷ drop (n + 1) frame) is.closed ∙ ap (λ xs. 0 ∷ xs) (drop_all (n + 1) frame (omega (arith, is.long))) in
    let next : drop n (frame ++ more) ≡ 0 ∷ more = drop-append-le n frame more (omega (arith, is.long)) ∙ ap (λ xs. xs ++ more) last_byte in
    let at_end : gate + 1 + n ≡ gate + length frame = omega (arith, is.long) in
    let rest : reading (Some h) n (gate + 1) (frame ++ more) ≡ record { entries = []; gate = gate + length frame; last = Some h; framed = true } =
    reading-skip (frame ++ more) (Some h) n (gate + 1) (omega (arith, size))
    ∙ ap (λ xs. reading (Some h) 0 (gate + 1 + n) xs) next
    ∙ reading-closed (Some h) (gate + 1 + n) 0 more refl
    ∙ ap (λ a. record { entries = []; gate = a; last = Some h; framed = true }) at_end in
    ap (λ t. gate_read last gate (frame ++ more) t (record_at last (frame ++ more)) (λ x. reading (Some x) (48 + x.length) (gate + 1) (frame ++ more))) open_is
    ∙ ap (λ o. gate_read last gate (frame ++ more) false o (λ x. reading (Some x) (48 + x.length) (gate + 1) (frame ++ more))) found
    ∙ ap (λ b. behind (record { entry = record { at = gate; header = h }; payload = b }) (reading (Some h) n (gate + 1) (frame ++ more))) payload
    ∙ ap (λ r. behind (entry_of gate h frame) r) rest

-- behind an open gate a whole record counts
pub behind-open : (bytes bytes' frame more : List ℕ) (gate v : ℕ) (last : Option Header) → EndsAt bytes gate last → Continues last frame → take gate bytes' ≡ take gate bytes →
    drop gate bytes' ≡ v ∷ frame ++ more → (v == 0) ≡ false → committed bytes' ≡ appended (committed bytes) gate frame
behind-open bytes bytes' frame more gate v last is goes_on same there open_is =
    let long : length bytes' ≡ gate + (1 + length frame + length more) = omega (arith, ap length there, length-drop gate bytes', length-append frame more, goes_on.long) in
    let t : nat_le (length bytes') 1 ≡ false = grind (arith, nat_tests, long, goes_on.long) in
    let whole : committed bytes' ≡ reading None 0 0 bytes' =
    ap (λ x. if x then record { entries = []; gate = 0; last = None; framed = true } else reading None 0 0 bytes') t in
    whole ∙ behind-front bytes bytes' gate last is same (omega (arith, long))
    ∙ ap (λ xs. prepended (committed bytes).entries (reading last 0 gate xs)) there
    ∙ ap (λ r. prepended (committed bytes).entries r) (reading-frame last gate v frame more goes_on open_is)

-- the end of a log with one more record
pub ends-appended : (bytes bytes' frame more : List ℕ) (gate v : ℕ) (last : Option Header) → EndsAt bytes gate last → Continues last frame →
    drop gate bytes' ≡ v ∷ frame ++ more → committed bytes' ≡ appended (committed bytes) gate frame →
    EndsAt bytes' (gate + length frame) (Some (frame_header frame))
ends-appended bytes bytes' frame more gate v last is goes_on there same =
    let h : Header = frame_header frame in
    let long : length bytes' ≡ gate + (1 + length frame + length more) = omega (arith, ap length there, length-drop gate bytes', length-append frame more, goes_on.long) in
    let place : gate + (1 + (48 + h.length)) ≡ gate + length frame = omega (arith, goes_on.long) in
    let closed : get_or bytes' (gate + length frame) 0 ≡ 0 =
    ap (λ i. get_or bytes' i 0) (sym place) ∙ sym (get_or-drop gate bytes' (1 + (48 + h.length)) 0) ∙ ap (λ xs. get_or xs (1 + (48 + h.length)) 0) there
    ∙ next (48 + h.length) ∙ get_or_append_left frame more 0 (48 + h.length) (omega (arith, goes_on.long)) ∙ goes_on.closed in
    record {
      framed = ap (λ r. r.framed) same;
      gate_is = ap (λ r. r.gate) same;
      last_is = ap (λ r. r.last) same;
      inside = omega (arith, long);
      closed = closed;
    }
  where
    next : (i : ℕ) → get_or (v ∷ frame ++ more) (1 + i) 0 ≡ get_or (frame ++ more) i 0
    next i = ap (λ j. get_or (v ∷ frame ++ more) j 0) (same_next i)
      where
        same_next : (i : ℕ) → 1 + i ≡ suc i
        same_next i = omega arith

-- the first write is torn: what is committed stays
pub torn-record : (bytes c : List ℕ) (gate n : ℕ) (last : Option Header) → EndsAt bytes gate last → Torn (gate + 1) n bytes c → committed c ≡ committed bytes
torn-record bytes c gate n last is torn =
    let le : gate ≤ gate + 1 = omega arith in
    let lt : gate < gate + 1 = omega arith in
    let front : take gate c ≡ take gate bytes = sym (take-take gate (gate + 1) c le) ∙ ap (λ xs. take gate xs) torn.before ∙ take-take gate (gate + 1) bytes le in
    let closed : get_or c gate 0 ≡ 0 = sym (get_or-take (gate + 1) c gate 0 lt) ∙ ap (λ xs. get_or xs gate 0) torn.before ∙ get_or-take (gate + 1) bytes gate 0 lt ∙ is.closed in
    behind-closed bytes c gate last is front (omega (arith, torn.no_shorter, is.inside)) closed

-- a file with a record written behind the closed gate
module _ (bytes mid frame : List ℕ) (gate : ℕ) (last : Option Header) (is : EndsAt bytes gate last) (goes_on : Continues last frame) (held : Holds bytes (gate + 1) frame mid) where
  abbrev pub more : List ℕ
  more = drop (gate + 1 + length frame) bytes

  front-length : length (take (gate + 1) bytes) ≡ gate + 1
  front-length = omega (arith, length-take (gate + 1) bytes, is.inside)

  mid-back : drop (gate + 1) mid ≡ frame ++ more
  mid-back =
      ap (λ xs. drop (gate + 1) xs) (held ∙ append_assoc (take (gate + 1) bytes) frame more)
      ∙ drop_at (take (gate + 1) bytes) (frame ++ more) (gate + 1) front-length

  mid-front : take gate mid ≡ take gate bytes
  mid-front =
      let le : gate ≤ gate + 1 = omega arith in
      sym (take-take gate (gate + 1) mid le)
      ∙ ap (λ xs. take gate xs) (ap (λ xs. take (gate + 1) xs) (held ∙ append_assoc (take (gate + 1) bytes) frame more) ∙ take_at (take (gate + 1) bytes) (frame ++ more) (gate + 1) front-length)
      ∙ take-take gate (gate + 1) bytes le

  pub mid-length : gate + 1 + length frame + length more ≡ length mid
  mid-length =
      omega (arith, ap length held, length-append (take (gate + 1) bytes) frame, length-append (take (gate + 1) bytes ++ frame) more, front-length)

  -- the gate's write is torn: the record counts or not
  pub torn-gate : (c : List ℕ) → Torn gate 1 mid c → (committed c ≡ committed bytes) ⊎ (committed c ≡ appended (committed bytes) gate frame)
  torn-gate c torn =
      let front : take gate c ≡ take gate bytes = torn.before ∙ mid-front in
      let inside : gate < length c = omega (arith, torn.no_shorter, mid-length) in
      let there : drop gate c ≡ get_or c gate 0 ∷ frame ++ more =
      drop_more c gate 0 inside ∙ ap (λ xs. get_or c gate 0 ∷ xs) (torn.after ∙ mid-back) in
      by_gate (get_or c gate 0 == 0) refl front inside there
    where
      by_gate : (t : Bool) → (get_or c gate 0 == 0) ≡ t → take gate c ≡ take gate bytes → gate < length c → drop gate c ≡ get_or c gate 0 ∷ frame ++ more →
          (committed c ≡ committed bytes) ⊎ (committed c ≡ appended (committed bytes) gate frame)
      by_gate true e front inside there = inl (behind-closed bytes c gate last is front inside (is_zero (get_or c gate 0) e))
      by_gate false e front inside there = inr (behind-open bytes c frame more gate (get_or c gate 0) last is goes_on front there e)

  -- the gate is open: the record counts
  new-there : (new : List ℕ) → Holds mid gate (1 ∷ []) new → drop gate new ≡ 1 ∷ frame ++ more
  new-there new open_gate =
      let long : length (take gate mid) ≡ gate = omega (arith, length-take gate mid, mid-length) in
      let e : new ≡ take gate mid ++ (1 ∷ drop (gate + 1) mid) = open_gate ∙ append_assoc (take gate mid) (1 ∷ []) (drop (gate + 1) mid) in
      ap (λ xs. drop gate xs) e ∙ drop_at (take gate mid) (1 ∷ drop (gate + 1) mid) gate long ∙ ap (λ xs. 1 ∷ xs) mid-back

  new-front : (new : List ℕ) → Holds mid gate (1 ∷ []) new → take gate new ≡ take gate bytes
  new-front new open_gate =
      let long : length (take gate mid) ≡ gate = omega (arith, length-take gate mid, mid-length) in
      let e : new ≡ take gate mid ++ (1 ∷ drop (gate + 1) mid) = open_gate ∙ append_assoc (take gate mid) (1 ∷ []) (drop (gate + 1) mid) in
      ap (λ xs. take gate xs) e ∙ take_at (take gate mid) (1 ∷ drop (gate + 1) mid) gate long ∙ mid-front

  pub held-gate : (new : List ℕ) → Holds mid gate (1 ∷ []) new → committed new ≡ appended (committed bytes) gate frame
  held-gate new open_gate = behind-open bytes new frame more gate 1 last is goes_on (new-front new open_gate) (new-there new open_gate) refl

  pub held-ends : (new : List ℕ) → Holds mid gate (1 ∷ []) new → EndsAt new (gate + length frame) (Some (frame_header frame))
  held-ends new open_gate = ends-appended bytes new frame more gate 1 last is goes_on (new-there new open_gate) (held-gate new open_gate)
