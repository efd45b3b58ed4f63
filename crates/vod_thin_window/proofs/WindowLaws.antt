-- The window of a run, slot by slot.
use Rattle.std.proofs.Common.{◌≡◌, ℕ, suc, ◌<◌, ◌≤◌, List, [], ◌∷◌, ◌++◌, Bool, true, false, cond, nat_le, Option, Result, IsErr, All, refl, sym, ap, subst, ◌∙◌, arith, append_assoc}
use Rattle.std.proofs.lemmas.Bool.{le-leb, leb-true}
use Rattle.vod_thin_design.specs.declared.thin.Vector.{Vector}
use Rattle.vod_thin_design.specs.Netlist.{Netlist}
use Rattle.vod_thin_queue.specs.State.{State}
use Rattle.vod_thin_queue.specs.Run.{IsSlot, AreSlots}
use Rattle.vod_thin_vcd.specs.Text.{opening_text}
use Rattle.vod_thin_vcd.specs.Dump.{closing_text}
use Rattle.vod_thin_vcd.specs.Stream.{slot_text, printed_after, window_text, rest_text}
use Rattle.vod_io.specs.Told.{appended, Puts, Written}
use Rattle.vod_io.proofs.Puts.{appended-nothing, appended-appended, Written-then, Written-stopped, stopped_in_first, stopped_in_second}
use Rattle.vod_thin_window.specs.Moments.{moments}
use Rattle.vod_thin_window.specs.Progress.{IsOver, Passes, Skips, Follows}

lt-leb-false : (a b : ℕ) → b < a → nat_le a b ≡ false
lt-leb-false a b h = by_test (nat_le a b) refl
  where
    by_test : (v : Bool) → nat_le a b ≡ v → nat_le a b ≡ false
    by_test true e = let le = leb-true a b e in absurd (omega arith)
    by_test false e = e

pub passes_start : (d : Netlist) (s : State) (vectors : List Vector) (from : ℕ) → Passes d s vectors from s vectors
passes_start d s vectors from = record { passes = λ ends h. (ends, h, λ to. refl) }

-- slots of a vector and others are a slot and others
pub record Splits (d : Netlist) (s : State) (v : Vector) (rest : List Vector) (ends : List State) : Type 0 where
  pub end : State
  pub more : List State
  pub whole : ends ≡ end ∷ more
  pub slot : IsSlot d s v.moves end
  pub slots : AreSlots d end rest more

pub splits : (d : Netlist) (s : State) (v : Vector) (rest : List Vector) (ends : List State) → AreSlots d s (v ∷ rest) ends → Splits d s v rest ends
splits d s v rest [] h = absurd h
splits d s v rest (end ∷ more) h = record { end = end; more = more; whole = refl; slot = h.0; slots = h.1 }

-- a slot not past the time
passes_more_cons : (d : Netlist) (s t u : State) (vectors : List Vector) (from : ℕ) (v : Vector) (rest : List Vector) →
    Passes d s vectors from t (v ∷ rest) → v.time ≤ from → ((e : State) → IsSlot d t v.moves e → e ≡ u) → Passes d s vectors from u rest
passes_more_cons d s t u vectors from v rest passes early only = record {
  passes = λ ends h.
      let at = passes.passes ends h in
      let split = splits d t v rest at.0 at.1 in
      let same : split.end ≡ u = only split.end split.slot in
      let test : nat_le v.time from ≡ true = le-leb v.time from early in
      let text : (to : ℕ) → window_text t.val (moments (v ∷ rest) at.0) from to ≡ window_text u.val (moments rest split.more) from to =
      λ to. ap (λ w. window_text t.val (moments (v ∷ rest) w) from to) split.whole
      ∙ ap (λ b. cond b (window_text split.end.val (moments rest split.more) from to) (opening_text from t.val ++ rest_text t.val from (moments (v ∷ rest) (split.end ∷ split.more)) to)) test
      ∙ ap (λ e. window_text e.val (moments rest split.more) from to) same in
      (split.more, subst (λ e. AreSlots d e rest split.more) same split.slots, λ to. at.2 to ∙ text to);
}

-- the front of what is left is a slot not past the time
pub passes_more : (d : Netlist) (s t u : State) (vectors : List Vector) (from : ℕ) (v : Vector) (rest behind : List Vector) →
    Passes d s vectors from t rest → rest ≡ v ∷ behind → v.time ≤ from → ((e : State) → IsSlot d t v.moves e → e ≡ u) → Passes d s vectors from u behind
passes_more d s t u vectors from v rest behind passes whole early only =
    passes_more_cons d s t u vectors from v behind (subst (λ r. Passes d s vectors from t r) whole passes) early only

-- no vector is left up to the time: the window opens
pub passes_over : (d : Netlist) (s t : State) (vectors : List Vector) (from : ℕ) (rest : List Vector) →
    Passes d s vectors from t rest → IsOver rest from → Skips d s vectors from t rest
passes_over d s t vectors from [] passes over = record { skips = λ ends h. let at = passes.passes ends h in (at.0, at.1, at.2) }
passes_over d s t vectors from (v ∷ behind) passes over = record { skips = skips }
  where
    skips : (ends : List State) → AreSlots d s vectors ends → (more : List State) × AreSlots d t (v ∷ behind) more × ((to : ℕ) → window_text s.val (moments vectors ends) from to ≡ opening_text from t.val ++ rest_text t.val from (moments (v ∷ behind) more) to)
    skips ends h =
        let at = passes.passes ends h in
        let split = splits d t v behind at.0 at.1 in
        let test : nat_le v.time from ≡ false = lt-leb-false v.time from (over v behind refl) in
        let opens : (to : ℕ) → window_text t.val (moments (v ∷ behind) at.0) from to ≡ opening_text from t.val ++ rest_text t.val from (moments (v ∷ behind) at.0) to =
        λ to. ap (λ w. window_text t.val (moments (v ∷ behind) w) from to) split.whole
        ∙ ap (λ b. cond b (window_text split.end.val (moments behind split.more) from to) (opening_text from t.val ++ rest_text t.val from (moments (v ∷ behind) (split.end ∷ split.more)) to)) test
        ∙ ap (λ w. opening_text from t.val ++ rest_text t.val from (moments (v ∷ behind) w) to) (sym split.whole) in
        (at.0, at.1, λ to. at.2 to ∙ opens to)

pub follows_start : (d : Netlist) (s : State) (printed : ℕ) (vectors : List Vector) (to : ℕ) (before : Option (List ℕ)) → Follows d s printed vectors to before s printed vectors before
follows_start d s printed vectors to before = record { follows = λ ends h. (ends, [], h, sym (appended-nothing before), refl) }

-- what is left where a slot isn't past the time is its text and what is left behind it
slot_left : (d : Netlist) (t u : State) (last to : ℕ) (v : Vector) (behind : List Vector) (ends : List State) → AreSlots d t (v ∷ behind) ends → v.time ≤ to → ((e : State) → IsSlot d t v.moves e → e ≡ u) →
    (more : List State) × AreSlots d u behind more
    × (rest_text t.val last (moments (v ∷ behind) ends) to ≡ slot_text t.val v.time u.val ++ rest_text u.val (printed_after t.val last v.time u.val) (moments behind more) to)
slot_left d t u last to v behind ends h early only =
    let split = splits d t v behind ends h in
    let same : split.end ≡ u = only split.end split.slot in
    let test : nat_le v.time to ≡ true = le-leb v.time to early in
    let text : rest_text t.val last (moments (v ∷ behind) ends) to ≡ slot_text t.val v.time u.val ++ rest_text u.val (printed_after t.val last v.time u.val) (moments behind split.more) to =
    ap (λ w. rest_text t.val last (moments (v ∷ behind) w) to) split.whole
    ∙ ap (λ b. cond b (slot_text t.val v.time split.end.val ++ rest_text split.end.val (printed_after t.val last v.time split.end.val) (moments behind split.more) to) (closing_text last to)) test
    ∙ ap (λ e. slot_text t.val v.time e.val ++ rest_text e.val (printed_after t.val last v.time e.val) (moments behind split.more) to) same in
    (split.more, subst (λ e. AreSlots d e behind split.more) same split.slots, text)

-- a slot not past the time, whose text was taken
pub follows_more : (d : Netlist) (s t u : State) (printed to last : ℕ) (vectors : List Vector) (before mid now : Option (List ℕ)) (v : Vector) (rest behind : List Vector) →
    Follows d s printed vectors to before t last rest mid → rest ≡ v ∷ behind → v.time ≤ to → ((e : State) → IsSlot d t v.moves e → e ≡ u) →
    now ≡ appended mid (slot_text t.val v.time u.val) → Follows d s printed vectors to before u (printed_after t.val last v.time u.val) behind now
follows_more d s t u printed to last vectors before mid now v rest behind follows whole early only taken = record { follows = more }
  where
    more : (ends : List State) → AreSlots d s vectors ends → (more : List State) × (done : List ℕ) × AreSlots d u behind more × (now ≡ appended before done) × (rest_text s.val printed (moments vectors ends) to ≡ done ++ rest_text u.val (printed_after t.val last v.time u.val) (moments behind more) to)
    more ends h =
        let at = (subst (λ r. Follows d s printed vectors to before t last r mid) whole follows).follows ends h in
        let left = slot_left d t u last to v behind at.0 at.2 early only in
        let piece = slot_text t.val v.time u.val in (
          left.0,
          at.1 ++ piece,
          left.1,
          taken ∙ ap (λ w. appended w piece) at.3 ∙ appended-appended before at.1 piece,
          at.4 ∙ ap (λ w. at.1 ++ w) left.2 ∙ sym (append_assoc at.1 piece (rest_text u.val (printed_after t.val last v.time u.val) (moments behind left.0) to)),
        )

-- what is left where no vector is left up to the time is the close
over_text : (d : Netlist) (t : State) (last to : ℕ) (rest : List Vector) (more : List State) → AreSlots d t rest more → IsOver rest to → rest_text t.val last (moments rest more) to ≡ closing_text last to
over_text d t last to [] more h over = refl
over_text d t last to (v ∷ behind) [] h over = absurd h
over_text d t last to (v ∷ behind) (e ∷ es) h over =
    ap (λ b. cond b (slot_text t.val v.time e.val ++ rest_text e.val (printed_after t.val last v.time e.val) (moments behind es) to) (closing_text last to)) (lt-leb-false v.time to (over v behind refl))

-- the close was written, or a part of it
pub follows_close : {T E : Type 0} (result : Result T E) (d : Netlist) (s t : State) (printed to last : ℕ) (vectors : List Vector) (before mid now : Option (List ℕ)) (rest : List Vector) →
    Follows d s printed vectors to before t last rest mid → IsOver rest to → Written result mid now (closing_text last to) →
    (ends : List State) → AreSlots d s vectors ends → Written result before now (rest_text s.val printed (moments vectors ends) to)
follows_close result d s t printed to last vectors before mid now rest follows over written ends h =
    let at = follows.follows ends h in
    let text = at.4 ∙ ap (λ w. at.1 ++ w) (over_text d t last to rest at.0 at.2 over) in
    subst (λ w. Written result before now w) (sym text) (Written-then before mid now at.1 (closing_text last to) result at.3 written)

-- a slot was written in part
pub follows_stops : {T E : Type 0} (result : Result T E) (d : Netlist) (s t u : State) (printed to last : ℕ) (vectors : List Vector) (before mid now : Option (List ℕ)) (v : Vector) (rest behind : List Vector) →
    Follows d s printed vectors to before t last rest mid → rest ≡ v ∷ behind → v.time ≤ to → ((e : State) → IsSlot d t v.moves e → e ≡ u) →
    IsErr result → ((left : List ℕ) × Puts mid now (slot_text t.val v.time u.val) left) →
    (ends : List State) → AreSlots d s vectors ends → Written result before now (rest_text s.val printed (moments vectors ends) to)
follows_stops result d s t u printed to last vectors before mid now v rest behind follows whole early only failed part ends h =
    let at = (subst (λ r. Follows d s printed vectors to before t last r mid) whole follows).follows ends h in
    let left = slot_left d t u last to v behind at.0 at.2 early only in
    let piece = slot_text t.val v.time u.val in
    let behind_text = rest_text u.val (printed_after t.val last v.time u.val) (moments behind left.0) to in
    let text = at.4 ∙ ap (λ w. at.1 ++ w) left.2 in
    subst (λ w. Written result before now w) (sym text)
    (Written-stopped before now (at.1 ++ (piece ++ behind_text)) result failed
    (stopped_in_second before mid now at.1 (piece ++ behind_text) at.3 (stopped_in_first mid now piece behind_text part)))
