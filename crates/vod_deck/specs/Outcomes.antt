-- What callers see of a deck: the bytes as a read gives them, and what a crash may leave.
use Rattle.std.specs.Prelude.{◌≡◌, ℕ, ◌+◌, ◌-◌, ◌^◌, ◌≤◌, min, max, ◌⊎◌, List, ◌++◌, length, take, drop, Result, MatchResult}

-- what a crash leaves: the bytes of the file, and the text that was said
pub record Outcome : Type 0 where
  pub file : List ℕ
  pub said : List ℕ

-- a deck: the bytes as a read gives them, the outcomes of a crash now, the moment, the outcomes of a crash at some moment from one on, and the counts of faults and of bytes read
pub record View : Type 1 where
  pub bytes : List ℕ
  pub may_leave : Outcome → Type 0
  pub moment : ℕ
  pub left_since : ℕ → Outcome → Type 0
  pub faults : ℕ
  pub bytes_read : ℕ

-- new is old with these bytes at this offset
abbrev pub Holds : List ℕ → ℕ → List ℕ → List ℕ → Type 0
Holds old at bytes new = new ≡ take at old ++ bytes ++ drop (at + length bytes) old

-- a write of n bytes was cut short: any bytes in its range, the same elsewhere, and a length between
pub record Torn (at n : ℕ) (old new : List ℕ) : Type 0 where
  pub before : take at new ≡ take at old
  pub after : drop (at + n) new ≡ drop (at + n) old
  pub no_shorter : length old ≤ length new
  pub no_longer : length new ≤ max (length old) (at + n)

-- an outcome during or after a write, from one before it
pub record Writes (at n : ℕ) (d c : Outcome) : Type 0 where
  pub file : Torn at n d.file c.file
  pub said : c.said ≡ d.said

-- an outcome is as it was
abbrev pub Stays : Outcome → Outcome → Type 0
Stays d c = c ≡ d

-- of these outcomes, none has said anything that this one hasn't
abbrev pub IsLongest : (Outcome → Type 0) → Outcome → Type 0
IsLongest outcomes d = (e : Outcome) → outcomes e → (n : ℕ) × (e.said ≡ take n d.said)

-- behind the longest text so far, `text` was said
pub record SaysAll (outcomes : Outcome → Type 0) (text : List ℕ) (d c : Outcome) : Type 0 where
  pub file : c.file ≡ d.file
  pub said : c.said ≡ d.said ++ text
  pub longest : IsLongest outcomes d

-- an outcome during or after the call that says `text`, from one before it: it is as it was, or has a front of the text behind the longest so far
abbrev pub Says : (Outcome → Type 0) → List ℕ → Outcome → Outcome → Type 0
Says outcomes text d c = (c ≡ d) ⊎ ((k : ℕ) × SaysAll outcomes (take k text) d c)

-- an outcome comes from one before by a step
abbrev pub From : (Outcome → Type 0) → (Outcome → Outcome → Type 0) → Outcome → Type 0
From outcomes step c = (d : Outcome) × outcomes d × step d c

-- each outcome has these bytes in the file
abbrev pub Only : List ℕ → (Outcome → Type 0) → Type 0
Only file outcomes = (c : Outcome) → outcomes c → c.file ≡ file

-- time went on in a call: each outcome during or after it comes from one before it by a step, and none is forgotten
pub record Elapses (old new : View) (step : Outcome → Outcome → Type 0) : Type 0 where
  pub later : old.moment ≤ new.moment
  pub outcomes : (c : Outcome) → new.may_leave c → From old.may_leave step c
  pub nothing_else : (t : ℕ) (c : Outcome) → t ≤ old.moment → new.left_since t c → old.left_since t c ⊎ From old.may_leave step c
  pub keeps : (t : ℕ) (c : Outcome) → t ≤ old.moment → old.left_since t c → new.left_since t c

-- a call left the moment and all outcomes as they were
pub record SameOutcomes (old new : View) : Type 0 where
  pub moment : new.moment ≡ old.moment
  pub may_leave : (c : Outcome) → new.may_leave c → old.may_leave c
  pub still_may_leave : (c : Outcome) → old.may_leave c → new.may_leave c
  pub left_since : (t : ℕ) (c : Outcome) → new.left_since t c → old.left_since t c
  pub still_left_since : (t : ℕ) (c : Outcome) → old.left_since t c → new.left_since t c

-- what a crash since an earlier moment may leave is what it was, or has P
pub record Leaves (old new : View) (P : Outcome → Type 0) : Type 0 where
  pub later : old.moment ≤ new.moment
  pub nothing_else : (t : ℕ) (c : Outcome) → t ≤ old.moment → new.left_since t c → old.left_since t c ⊎ P c

-- a count that stays at the end of its type
abbrev pub capped : ℕ → ℕ
capped count = min count (2 ^ 64 - 1)

-- the count of bytes read after a read of n bytes
abbrev pub IsRead : {T E : Type 0} → ℕ → ℕ → ℕ → Result T E → Type 0
IsRead before now n result = MatchResult result (λ _. now ≡ capped (before + n)) (λ _. (before ≤ now) × (now ≤ capped (before + n)))

-- after a text was said, each outcome has it behind the longest text from before
abbrev pub IsSaid : View → View → List ℕ → Type 0
IsSaid old new text = (c : Outcome) → new.may_leave c → From old.may_leave (SaysAll old.may_leave text) c

-- the file as a read gives it is one that a crash now may leave, with some text
abbrev pub IsLive : View → Type 0
IsLive v = (said : List ℕ) × v.may_leave (record { file = v.bytes; said = said })
