-- What a crash may leave while a record is appended.
use Rattle.std.proofs.Common.{ℕ, ◌+◌, inl, List, length, ◌∙◌, subst}
use Rattle.std.specs.Prelude.{Option}
use Rattle.vod_deck.specs.Outcomes.{View, Holds, Torn, Writes, From, Only, Elapses, Leaves}
use Rattle.vod_deck.proofs.Leaves.{leaves-none, leaves-call}
use Rattle.vod_log.specs.Format.{committed}
use Rattle.vod_log.specs.Tail.{Continues, appended, IsSettled, HoldsEither}
use Rattle.vod_log.specs.declared.header.Header.{Header}
use Rattle.vod_log.proofs.Appends.{torn-record, torn-gate}

module _ (old mid : View) (gate : ℕ) (last : Option Header) (frame : List ℕ) (is : IsSettled old gate last) (first : Elapses old mid (Writes (gate + 1) (length frame))) where
  -- the record is written
  pub crashes-record : Leaves old mid (From old.may_leave (HoldsEither (committed old.bytes) (appended (committed old.bytes) gate frame)))
  crashes-record =
      leaves-call old old mid (From old.may_leave (HoldsEither (committed old.bytes) (appended (committed old.bytes) gate frame))) (Writes (gate + 1) (length frame))
      (leaves-none old (From old.may_leave (HoldsEither (committed old.bytes) (appended (committed old.bytes) gate frame)))) first
      (λ c from.
      let P : List ℕ → Type 0 = λ f. Torn (gate + 1) (length frame) f c.file in
      let torn : Torn (gate + 1) (length frame) old.bytes c.file = subst P (is.lasts from.0 from.1) from.2.file in
      (from.0, from.1, record { file = inl (torn-record old.bytes c.file gate (length frame) last is.ends torn); said = from.2.said }))

  -- and then the gate is opened
  pub crashes-gate : (new : View) → Continues last frame → Holds old.bytes (gate + 1) frame mid.bytes → Only mid.bytes mid.may_leave → Elapses mid new (Writes gate 1) →
      Leaves old new (From old.may_leave (HoldsEither (committed old.bytes) (appended (committed old.bytes) gate frame)))
  crashes-gate new goes_on held lasts second =
      leaves-call old mid new (From old.may_leave (HoldsEither (committed old.bytes) (appended (committed old.bytes) gate frame))) (Writes gate 1) crashes-record second
      (λ c from.
      let before : From old.may_leave (Writes (gate + 1) (length frame)) from.0 = first.outcomes from.0 from.1 in
      let P : List ℕ → Type 0 = λ f. Torn gate 1 f c.file in
      let torn : Torn gate 1 mid.bytes c.file = subst P (lasts from.0 from.1) from.2.file in
      (before.0, before.1, record { file = torn-gate old.bytes mid.bytes frame gate last is.ends goes_on held c.file torn; said = from.2.said ∙ before.2.said }))
