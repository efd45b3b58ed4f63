-- Each answer of `record`, and what a crash in it leaves.
use Rattle.std.proofs.Common.{◌≡◌, ℕ, ◌<◌, ◌≤◌, ◌⊎◌, List, [], ◌∷◌, ◌++◌, length, take, true, false, nat_le, None, Result, Ok, Err, refl, sym, ap, subst, ◌∙◌, inl, inr, arith, cond}
use Rattle.std.proofs.lemmas.List.{length-take-le}
use Rattle.vod_deck.specs.Outcomes.{Outcome, View, From, Only, Leaves, IsLive}
use Rattle.vod_deck.proofs.Leaves.{leaves-wider, leaves-then}
use Rattle.vod_log.specs.Format.{Reading, committed}
use Rattle.vod_log.specs.Tail.{Opens}
use Rattle.vod_thin_design.specs.declared.thin.Vector.{Vector}
use Rattle.vod_thin_design.specs.Netlist.{Netlist}
use Rattle.vod_thin_code.specs.Held.{IsHeld, IsEmpty, Acknowledges}
use Rattle.vod_thin_store.specs.Stored.{HasSaid, IsAsBefore, HoldsFirst, Adds, Records}
use Rattle.vod_thin_store.specs.declared.StoreFault.{StoreFault}
use Rattle.vod_thin_store.specs.declared.StoreFault.TheVariants as store
use Rattle.vod_thin_window.specs.Request.{Request}
use Rattle.vod_program.specs.declared.status.Part.TheVariants as part
use Rattle.vod_program.specs.declared.status.Fault.{Fault}
use Rattle.vod_program.specs.declared.status.Fault.TheVariants as failed
use Rattle.vod_program.specs.Phases.{store_fault, Fails}
use Rattle.vod_program.specs.Answer.{Inputs, Device, IsRisen, IsDeckRisen, IsFresh, HasDesign, HasNoDesign, HasNoRecording, Asks, AsksFor, RecordAnswers, IsLeft, Reads, HoldsSome, IsAcknowledged, KeepsAcknowledged}

pub no_design : (i : Inputs) (deck : Device) (f : Fault) → Fails part.Design f (HasNoDesign i) → (f ≡ failed.Read → IsRisen i.design_faults) → RecordAnswers i deck (Err f)
no_design i deck f (inl e) read = subst (λ v. RecordAnswers i deck (Err v)) (sym e) (inl (read e))
no_design i deck f (inr (inl e)) read = subst (λ v. RecordAnswers i deck (Err v)) (sym e) tt
no_design i deck f (inr (inr (place, e, refused))) read = subst (λ v. RecordAnswers i deck (Err v)) (sym e) refused

pub no_vectors : (i : Inputs) (deck : Device) (f : Fault) → HasDesign i → (deck.told → IsFresh deck) → Fails part.Script f (HasNoRecording i) → (f ≡ failed.Read → IsRisen i.input_faults) → RecordAnswers i deck (Err f)
no_vectors i deck f design fresh (inl e) read = subst (λ v. RecordAnswers i deck (Err v)) (sym e) (inr (design, fresh, read e))
no_vectors i deck f design fresh (inr (inl e)) read = subst (λ v. RecordAnswers i deck (Err v)) (sym e) tt
no_vectors i deck f design fresh (inr (inr (line, e, refused))) read = subst (λ v. RecordAnswers i deck (Err v)) (sym e) (design, fresh, refused)

pub no_record : (i : Inputs) (deck : Device) (f : StoreFault) → HasDesign i → (f ≡ store.Deck → IsDeckRisen deck) → (f ≡ store.NotEmpty → deck.told → ⊥) → RecordAnswers i deck (Err (store_fault f))
no_record i deck store.Deck design rose empty = (design, rose refl)
no_record i deck store.NotEmpty design rose empty = (design, λ told. absurd (empty refl told))
no_record i deck store.Memory design rose empty = tt

-- a log that isn't opened
pub not_opened : (i : Inputs) (deck : Device) (s : Fault) → HasDesign i → (s ≡ failed.Deck) ⊎ (s ≡ failed.Memory) ⊎ ((at : ℕ) × (s ≡ failed.NotYet part.Log at)) → (s ≡ failed.Deck → IsDeckRisen deck) →
    ((at : ℕ) → s ≡ failed.NotYet part.Log at → deck.told → (at ≡ length deck.before.bytes) × (1 < at)) → RecordAnswers i deck (Err s)
not_opened i deck s design (inl e) rose more = subst (λ v. RecordAnswers i deck (Err v)) (sym e) (design, rose e)
not_opened i deck s design (inr (inl e)) rose more = subst (λ v. RecordAnswers i deck (Err v)) (sym e) tt
not_opened i deck s design (inr (inr (at, e))) rose more = subst (λ v. RecordAnswers i deck (Err v)) (sym e) (design, more at e)

-- a file of one byte or none is an empty log
pub short_is_empty : (bytes : List ℕ) → length bytes ≤ 1 → IsEmpty bytes
short_is_empty [] few = record { framed = refl; none = refl }
short_is_empty (b ∷ []) few = record { framed = refl; none = refl }
short_is_empty (b ∷ c ∷ bytes) few = absurd (omega arith)

-- a log that holds what an empty one does is empty
as_empty : (a b : List ℕ) → committed a ≡ committed b → IsEmpty b → IsEmpty a
as_empty a b same empty = record {
  framed = ap (λ r. r.framed) same ∙ empty.framed;
  none = ap (λ r. r.entries) same ∙ empty.none;
}

-- an outcome of opening
pub opened_left : (i : Inputs) (deck : Device) (c : Outcome) → From deck.before.may_leave (Opens deck.before.bytes) c → From deck.before.may_leave (IsLeft i deck) c
opened_left i deck c (e, may, o) = (e, may, by_file o.file)
  where
    by_file : (c.file ≡ e.file) ⊎ ((length deck.before.bytes ≤ 1) × (length e.file ≤ 1) × (length c.file ≤ 1)) → IsLeft i deck e c
    by_file (inl same) = inl (same, o.said)
    by_file (inr (fresh, few, short)) = inr (fresh, few, inl (short_is_empty c.file short, o.said))

-- the outcomes of a moment are from those at entry
pub now_from : (old mid : View) (P : Outcome → Type 0) → Leaves old mid P →
    ((t : ℕ) (c : Outcome) → t ≤ mid.moment → mid.may_leave c → mid.left_since t c) → ((c : Outcome) → old.left_since old.moment c → old.may_leave c) →
    (c : Outcome) → mid.may_leave c → old.may_leave c ⊎ P c
now_from old mid P leaves counts only c may = by_left (leaves.nothing_else old.moment c (omega arith) (counts old.moment c leaves.later may))
  where
    by_left : old.left_since old.moment c ⊎ P c → old.may_leave c ⊎ P c
    by_left (inl left) = inl (only c left)
    by_left (inr p) = inr p

-- an outcome of a log that was created: it says what one at entry said, which had a file of one byte or none
abbrev pub IsCreated : View → Outcome → Type 0
IsCreated old m = (e : Outcome) × old.may_leave e × (length e.file ≤ 1) × (m.said ≡ e.said)

pub created : (old : View) (bytes : List ℕ) (m : Outcome) → m.file ≡ 0 ∷ [] → old.may_leave m ⊎ From old.may_leave (Opens bytes) m → IsCreated old m
created old bytes m file (inl may) = (m, may, subst (λ f. length f ≤ 1) (sym file) (omega arith), refl)
created old bytes m file (inr (e, may, o)) = by_file o.file
  where
    by_file : (m.file ≡ e.file) ⊎ ((length bytes ≤ 1) × (length e.file ≤ 1) × (length m.file ≤ 1)) → IsCreated old m
    by_file (inl same) = (e, may, subst (λ f. length f ≤ 1) (sym file ∙ same) (omega arith), o.said)
    by_file (inr (fresh, few, short)) = (e, may, few, o.said)

-- an outcome of the recording behind it
recorded_by : (i : Inputs) (deck : Device) (r : Request) (m c : Outcome) → IsFresh deck → m.file ≡ 0 ∷ [] → IsCreated deck.before m → ((P : Request → Type 0) → P r → AsksFor i P) →
    Records r.design r.source r.vectors m c → From deck.before.may_leave (IsLeft i deck) c
recorded_by i deck r m c fresh file (e, may, few, said) asks (inl same) =
    (e, may, inr (fresh, few, inl (as_empty c.file m.file same.file (short_is_empty m.file (subst (λ f. length f ≤ 1) (sym file) (omega arith))), same.text ∙ said)))
recorded_by i deck r m c fresh file (e, may, few, said) asks (inr (k, h)) = (
  e,
  may,
  inr (
    fresh,
    few,
    inr (asks (λ q. Adds q.design q.source q.vectors e c) (
      k,
      record {
        most = h.most;
        sound = h.sound;
        batches = h.batches;
        front = h.front;
        text = h.text ∙ ap (λ t. t ++ h.front) said;
        begins = h.begins;
      },
    )),
  ),
)

-- what a crash in the whole of `record` leaves
pub record_left : (i : Inputs) (deck : Device) (mid : View) (r : Request) → IsFresh deck → ((P : Request → Type 0) → P r → AsksFor i P) →
    Leaves deck.before mid (From deck.before.may_leave (Opens deck.before.bytes)) →
    ((m : Outcome) → mid.may_leave m → (m.file ≡ 0 ∷ []) × IsCreated deck.before m) →
    Leaves mid deck.after (From mid.may_leave (Records r.design r.source r.vectors)) →
    Leaves deck.before deck.after (From deck.before.may_leave (IsLeft i deck))
record_left i deck mid r fresh asks opens begins records =
    leaves-then deck.before mid deck.after (From deck.before.may_leave (IsLeft i deck))
    (leaves-wider deck.before mid _ _ opens (opened_left i deck))
    (leaves-wider mid deck.after _ _ records (λ c from. let m = begins from.0 from.1 in recorded_by i deck r from.0 c fresh m.0 m.1 asks from.2))

-- what was said behind the opening was said behind the text at entry
pub said_behind : (old mid : View) (text : List ℕ) (c : Outcome) → ((m : Outcome) → mid.may_leave m → IsCreated old m) → From mid.may_leave (HasSaid text) c → From old.may_leave (HasSaid text) c
said_behind old mid text c begins (m, may, said) =
    let (e, was, few, same) = begins m may in
    (e, was, said ∙ ap (λ t. t ++ text) same)

-- the outcomes of a log that was just created
pub begun_with : (old mid : View) → Leaves old mid (From old.may_leave (Opens old.bytes)) →
    ((t : ℕ) (c : Outcome) → t ≤ mid.moment → mid.may_leave c → mid.left_since t c) → ((c : Outcome) → old.left_since old.moment c → old.may_leave c) →
    Only mid.bytes mid.may_leave → mid.bytes ≡ 0 ∷ [] → (m : Outcome) → mid.may_leave m → (m.file ≡ 0 ∷ []) × IsCreated old m
begun_with old mid leaves counts only lasts is m may =
    let file : m.file ≡ 0 ∷ [] = lasts m may ∙ is in
    (file, created old old.bytes m file (now_from old mid (From old.may_leave (Opens old.bytes)) leaves counts only m may))

-- the file as it reads afterwards is what a crash during the call may have left
pub reads_left : (i : Inputs) (deck : Device) → Leaves deck.before deck.after (From deck.before.may_leave (IsLeft i deck)) →
    ((t : ℕ) (c : Outcome) → t ≤ deck.after.moment → deck.after.may_leave c → deck.after.left_since t c) → ((c : Outcome) → deck.before.left_since deck.before.moment c → deck.before.may_leave c) →
    IsLive deck.after → Reads i deck
reads_left i deck leaves counts only (text, may) = (text, by_left (now_from deck.before deck.after (From deck.before.may_leave (IsLeft i deck)) leaves counts only c may))
  where
    c : Outcome
    c = record { file = deck.after.bytes; said = text }

    by_left : deck.before.may_leave c ⊎ From deck.before.may_leave (IsLeft i deck) c → From deck.before.may_leave (IsLeft i deck) c
    by_left (inl was) = (c, was, inl (refl, refl))
    by_left (inr from) = from

-- a text that a file of one byte or none backs acknowledges nothing
none_acknowledged : (e : Outcome) → length e.file ≤ 1 → IsAcknowledged e → (n : ℕ) → Acknowledges e.said n → n ≡ 0
none_acknowledged e few kept n said = by_held (kept n said)
  where
    by_held : HoldsSome e.file n → n ≡ 0
    by_held (inl none) = none
    by_held (inr (d, source, interval, vs, held, most)) = let clash : [] ≡ held.head ∷ held.batches = sym (short_is_empty e.file few).none ∙ held.entries in cc

-- what the law of the recording says: an outcome that holds the first k vectors acknowledges k at most, where none were before
abbrev pub SaidIsHeld : Type 0
SaidIsHeld = (d : Netlist) (source : List ℕ) (vs : List Vector) (e c : Outcome) (k : ℕ) → HoldsFirst d source vs e c k → ((n : ℕ) → Acknowledges e.said n → n ≡ 0) → (n : ℕ) → Acknowledges c.said n → n ≤ k

-- an outcome from one that holds what it acknowledges does too
left_acknowledged : SaidIsHeld → (i : Inputs) (deck : Device) (e c : Outcome) → IsAcknowledged e → IsLeft i deck e c → IsAcknowledged c
left_acknowledged law i deck e c kept (inl same) n said = subst (λ f. HoldsSome f n) (sym same.0) (kept n (subst (λ t. Acknowledges t n) same.1 said))
left_acknowledged law i deck e c kept (inr (fresh, few, inl (empty, same))) n said = inl (none_acknowledged e few kept n (subst (λ t. Acknowledges t n) same said))
left_acknowledged law i deck e c kept (inr (fresh, few, inr (r, asks, (k, first)))) n said =
    let most : n ≤ k = law r.design r.source r.vectors e c k first (none_acknowledged e few kept) n said in
    let count : length (take k r.vectors) ≡ k = length-take-le k r.vectors first.most in
    inr (r.design, r.source, 4096, take k r.vectors, first.sound.held, subst (λ m. n ≤ m) (sym count) most)

pub acknowledged_left : SaidIsHeld → (i : Inputs) (deck : Device) → Leaves deck.before deck.after (From deck.before.may_leave (IsLeft i deck)) →
    ((c : Outcome) → deck.before.left_since deck.before.moment c → deck.before.may_leave c) → KeepsAcknowledged deck
acknowledged_left law i deck leaves only kept c left = by_left (leaves.nothing_else deck.before.moment c (omega arith) left)
  where
    by_left : deck.before.left_since deck.before.moment c ⊎ From deck.before.may_leave (IsLeft i deck) c → IsAcknowledged c
    by_left (inl was) = kept c (only c was)
    by_left (inr (e, may, is)) = left_acknowledged law i deck e c (kept e may) is
