-- What was read of a source, and its faults as those of a phase.
use Rattle.std.proofs.Common.{◌≡◌, ℕ, ◌<◌, ◌≤◌, ◌^◌, List, length, take, nat_lt, Bool, true, false, Option, Some, Result, Err, refl, sym, ap, subst, ◌∙◌, inl, inr, min, arith, take_all, IfErr}
use Rattle.std.proofs.lemmas.Bool.Decides.{nat_tests}
use Rattle.vod_io.specs.Told.{Told, Tells}
use Rattle.vod_thin_design.specs.Netlist.{Netlist}
use Rattle.vod_thin.specs.declared.fault.ThinFault as thin
use Rattle.vod_thin.specs.declared.fault.ThinFault.TheVariants as thins
use Rattle.vod_thin.specs.Faults as thin_faults
use Rattle.vod_thin.specs.Thin as form
use Rattle.vod_thin_script.specs.declared.ScriptFault as script
use Rattle.vod_thin_script.specs.declared.ScriptFault.TheVariants as scripts
use Rattle.vod_thin_script.specs.Fault as script_faults
use Rattle.vod_thin_script.specs.Script.{IsScript, IsRefused}
use Rattle.vod_io.specs.declared.reading.FillFault as fill
use Rattle.vod_io.specs.declared.reading.FillFault.TheVariants as fills
use Rattle.vod_program.specs.declared.status.Part.{Part}
use Rattle.vod_program.specs.declared.status.Part.TheVariants as part
use Rattle.vod_program.specs.declared.status.Fault.{Fault}
use Rattle.vod_program.specs.declared.status.Fault.TheVariants as failed
use Rattle.vod_thin_design.specs.declared.thin.Vector.{Vector}
use Rattle.vod_program.specs.Sources.{IsSource, IsRefusedSource, IsOtherSource, IsUnrecordable}
use Rattle.vod_program.specs.Phases.{fill_fault, thin_fault, script_fault, fault_within, Fails}

pub lt_true : (a b : ℕ) → a < b → nat_lt a b ≡ true
lt_true a b h = grind (arith, nat_tests, h)

pub lt_false : (a b : ℕ) → b ≤ a → nat_lt a b ≡ false
lt_false a b h = grind (arith, nat_tests, h)

pub lt_from : (a b : ℕ) → nat_lt a b ≡ true → a < b
lt_from a b h = grind (arith, nat_tests, h)

pub le_from : (a b : ℕ) → nat_lt a b ≡ false → b ≤ a
le_from a b h = grind (arith, nat_tests, h)

-- the bytes that came are the front of the source
pub front_of : (more : Bool) (bytes text : List ℕ) → length bytes ≤ 2 ^ 20 → (more ≡ false → text ≡ bytes) → (more ≡ true → (2 ^ 20 < length text) × (bytes ≡ take (2 ^ 20) text)) → bytes ≡ take (2 ^ 20) text
front_of true bytes text few whole past = (past refl).1
front_of false bytes text few whole past = sym (take_all (2 ^ 20) bytes few) ∙ ap (take (2 ^ 20)) (sym (whole refl))

pub more_is : (more : Bool) (bytes text : List ℕ) → length bytes ≤ 2 ^ 20 → (more ≡ false → text ≡ bytes) → (more ≡ true → (2 ^ 20 < length text) × (bytes ≡ take (2 ^ 20) text)) → more ≡ nat_lt (2 ^ 20) (length text)
more_is true bytes text few whole past = sym (lt_true (2 ^ 20) (length text) (past refl).0)
more_is false bytes text few whole past = sym (lt_false (2 ^ 20) (length text) (subst (λ b. length b ≤ 2 ^ 20) (sym (whole refl)) few))

-- of a source with no more bytes they are all
pub all_told : (more : Bool) (bytes : List ℕ) (left : Option (List ℕ)) → Tells left (λ text. bytes ≡ take (2 ^ 20) text) → Tells left (λ text. more ≡ nat_lt (2 ^ 20) (length text)) → more ≡ false → Told left bytes
all_told more bytes left front is none = λ text e.
    let short : length text ≤ 2 ^ 20 = le_from (2 ^ 20) (length text) (sym (is text e) ∙ none) in
    sym (front text e ∙ take_all (2 ^ 20) text short)

-- a script with more bytes is refused as a whole
pub script_long : (more : Bool) (d : Netlist) (left : Option (List ℕ)) → Tells left (λ text. more ≡ nat_lt (2 ^ 20) (length text)) → more ≡ true → Tells left (λ text. IsRefused d text 0)
script_long more d left is some = λ text e. inl (lt_from (2 ^ 20) (length text) (sym (is text e) ∙ some), refl)

-- what is read failed, or memory ran out
pub read_failed : (p : Part) (f : fill.FillFault) (P : ℕ → Type 0) → Fails p (fill_fault f) P
read_failed p fills.Read P = inl refl
read_failed p fills.Memory P = inr (inl refl)

-- a fault of the script's reader
pub script_refused : (d : Netlist) (bytes : List ℕ) (left : Option (List ℕ)) (f : script.ScriptFault) → Told left bytes → script_faults.IsFault d bytes f → Fails part.Script (script_fault f) (λ line. Tells left (λ text. IsRefused d text line))
script_refused d bytes left (scripts.Refused line) told is = inr (inr (line, refl, λ text e. subst (λ b. IsRefused d b line) (sym (told text e)) is))
script_refused d bytes left scripts.Memory told is = inr (inl refl)

-- a fault of the design's reader
pub design_refused : (more : Bool) (bytes : List ℕ) (left : Option (List ℕ)) (f : thin.ThinFault) → Tells left (λ text. bytes ≡ take (2 ^ 20) text) → Tells left (λ text. more ≡ nat_lt (2 ^ 20) (length text))
    → thin_faults.IsFault bytes more f → Fails part.Design (thin_fault f) (λ place. Tells left (λ text. IsRefusedSource text place))
design_refused more bytes left (thins.At place) front is fault = inr (inr (place, refl, λ text e. subst (λ m. form.IsRefused (take (2 ^ 20) text) m place) (is text e) (subst (λ b. form.IsRefused b more place) (front text e) fault)))
design_refused more bytes left thins.Memory front is fault = inr (inl refl)

-- the fault that a phase hands on
pub handed : {T : Type 0} (p : Part) (r : Result T Fault) (x f : Fault) (P : ℕ → Type 0) → r ≡ Err x → x ≡ f → Fails p f P → IfErr r (λ fault. Fails p fault P)
handed p r x f P a b h = subst (λ s. IfErr s (λ fault. Fails p fault P)) (sym (a ∙ ap (λ v. Err v) b)) h

-- a script that is refused isn't recorded
pub within_refused : (d : Netlist) (left : Option (List ℕ)) (f : Fault) → Fails part.Script f (λ line. Tells left (λ text. IsRefused d text line)) → Fails part.Script (fault_within f 4096) (λ line. Tells left (λ text. IsUnrecordable d text line))
within_refused d left f (inl e) = inl (ap (λ v. fault_within v 4096) e)
within_refused d left f (inr (inl e)) = inr (inl (ap (λ v. fault_within v 4096) e))
within_refused d left f (inr (inr (line, e, h))) = inr (inr (min line 4096, ap (λ v. fault_within v 4096) e, λ text told. inl (line, h text told, refl)))

pub within_read : (f : Fault) (n : ℕ) → fault_within f n ≡ failed.Read → f ≡ failed.Read
within_read failed.Usage n e = e
within_read (failed.NotYet p line) n e = let clash : failed.NotYet p (min line n) ≡ failed.Read = e in cc
within_read (failed.Range fault) n e = e
within_read (failed.NotALog at) n e = e
within_read (failed.Damaged at) n e = e
within_read failed.Deck n e = e
within_read failed.Read n e = e
within_read failed.Write n e = e
within_read failed.Memory n e = e

-- more vectors than are recorded
pub many_refused : (d : Netlist) (left : Option (List ℕ)) (vs : List Vector) → Tells left (λ text. IsScript d text vs) → 4095 < length vs → Tells left (λ text. IsUnrecordable d text 4096)
many_refused d left vs reads many text e = inr (vs, reads text e, omega (arith, many), refl)

-- a held source that is refused is none of the thin form
pub held_other : (source : List ℕ) (place : ℕ) → length source ≤ 2 ^ 20 → form.IsRefused source false place → IsOtherSource source
held_other source place short fault = inr (
  place,
  subst (λ m. form.IsRefused (take (2 ^ 20) source) m place) (sym (lt_false (2 ^ 20) (length source) short)) (subst (λ s. form.IsRefused s false place) (sym (take_all (2 ^ 20) source short)) fault),
)
