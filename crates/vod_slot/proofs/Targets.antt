-- What the rules of a design say of the targets of its drivers: which writes miss them.
use Rattle.std.proofs.Common.{◌≡◌, ◌≢◌, ℕ, zero, suc, ◌<◌, true, false, List, [], ◌∷◌, length, map, flat_map, take, get_or, refl, ap, sym, ◌∙◌, subst, ⊎_elim, All, AllPairs, Option, Some, None, option_map, slice_get, slice_index_or}
use Rattle.std.specs.List.{Contains}
use Rattle.std.proofs.lemmas.Bool.{cases_order}
use Rattle.std.proofs.lemmas.List.Elements.{All-head, All-tail, All-append, All-weaker, Contains-get_or}
use Rattle.std.proofs.lemmas.List.{length-map}
use Rattle.std.proofs.lemmas.Option.{same_Some}
use Rattle.vod_bits.specs.Bit.{Bit}
use Rattle.vod_design.specs.declared.parts.Driver.{Driver}
use Rattle.vod_design.specs.declared.parts.InitialAssign.{InitialAssign}
use Rattle.vod_design.specs.declared.parts.InitialTarget.{InitialTarget}
use Rattle.vod_design.specs.declared.parts.InitialTarget.TheVariants as initial
use Rattle.vod_design.specs.declared.parts.Input.{Input}
use Rattle.vod_design.specs.declared.parts.Signal.{Signal}
use Rattle.vod_design.specs.declared.sized.Variable.TheVariants as variable
use Rattle.vod_design.specs.declared.statement.Place.{Place}
use Rattle.vod_design.specs.declared.statement.Target.{Target}
use Rattle.vod_design.specs.declared.statement.Target.TheVariants.{Bits, Word}
use Rattle.vod_design.specs.Accepted.{IsAccepted, IsToDrive}
use Rattle.vod_design.specs.Netlist.{Netlist, width_in, IsNet, IsRegister}
use Rattle.vod_slot.specs.Store.{Store, ToWord, bits_written, places_written}
use Rattle.vod_slot.specs.State.{Piece, Update, input_signals}
use Rattle.vod_slot.specs.Step.{target_written, update_written, initial_written}
use Rattle.vod_slot.specs.Shape.{sizes, widths, TargetWrites, UpdateWrites, InitialWrites, AssignsWrite}
use Rattle.vod_slot.proofs.Lists.{all_none, all_one, all_of, pairs_of, across_of}
use Rattle.vod_slot.proofs.Puts.{Misses, IsThere, bits-miss, places-miss}

pub all_flat : {A B : Type 0} (Q : A → Type 0) (P : B → Type 0) (f : A → List B) (xs : List A) → ((x : A) → Q x → All P (f x)) → All Q xs → All P (flat_map f xs)
all_flat Q P f [] each h = all_none P
all_flat Q P f (x ∷ xs) each h = All-append P (f x) (flat_map f xs) (each x (All-head Q x xs h)) (all_flat Q P f xs each (All-tail Q x xs h))

pub some_of : {A : Type 0} (P : A → Type 0) (xs : List A) → All P xs → All P (take 1 xs)
some_of P [] h = h
some_of P (x ∷ xs) h = all_one P x (All-head P x xs h)

-- the targets of a driver

pub to_drive : (d : Netlist) (ranked : List ℕ) → IsAccepted d ranked → (k : ℕ) (a : Driver) → slice_get d.drivers k ≡ Some a → All (IsToDrive d) a.target
to_drive d ranked h k a at = all_of (IsToDrive d) (λ (r : Driver). r.target) d.drivers k a h.driven.only at

pub targets_once : (d : Netlist) (ranked : List ℕ) → IsAccepted d ranked → (k : ℕ) (a : Driver) → slice_get d.drivers k ≡ Some a → AllPairs (λ b c. b ≢ c) a.target
targets_once d ranked h k a at = pairs_of (λ b c. b ≢ c) (λ (r : Driver). r.target) d.drivers k a h.driven.once at

flip : {A B : Type 0} (R : A → B → Type 0) (xs : List A) (ys : List B) → All (λ x. All (R x) ys) xs → All (λ y. All (λ x. R x y) xs) ys
flip R xs ys h = λ i d l i' d' l'. h i' d' l' i d l

-- each bit that one driver drives is another than each that another one drives
pub targets_apart : (d : Netlist) (ranked : List ℕ) → IsAccepted d ranked → (j k : ℕ) (a c : Driver) → slice_get d.drivers j ≡ Some a → slice_get d.drivers k ≡ Some c → j ≢ k → All (λ (y : Place). All (λ (x : Place). x ≢ y) a.target) c.target
targets_apart d ranked h j k a c at at' apart =
    ⊎_elim
    (λ same. absurd (apart same))
    (λ order. ⊎_elim
    (λ lt. flip (λ x y. x ≢ y) a.target c.target (across_of (λ x y. x ≢ y) (λ (r : Driver). r.target) d.drivers j k a c h.driven.once at at' lt))
    (λ gt. All-weaker (λ (y : Place). All (λ (x : Place). y ≢ x) a.target) (λ (y : Place). All (λ (x : Place). x ≢ y) a.target)
    (λ y each. All-weaker (λ (x : Place). y ≢ x) (λ (x : Place). x ≢ y) (λ x n e. n (sym e)) a.target each)
    c.target (across_of (λ x y. x ≢ y) (λ (r : Driver). r.target) d.drivers k j c a h.driven.once at' at gt))
    order)
    (cases_order j k)

pub width_at : (signals : List Signal) (n : ℕ) → width_in signals n ≡ get_or (map (λ (s : Signal). s.width) signals) n 0
width_at [] n = refl
width_at (s ∷ signals) zero = refl
width_at (s ∷ signals) (suc n) = width_at signals n

pub are_there : (d : Netlist) (store : Store) (places : List Place) → sizes store ≡ widths d → All (IsToDrive d) places → All (IsThere store) places
are_there d store places same h =
    All-weaker (IsToDrive d) (IsThere store)
    (λ b drive. subst (λ ns. b.bit < get_or ns b.signal 0) (sym same) (subst (λ n. b.bit < n) (width_at d.signals b.signal) drive.inside))
    places h

-- writes that miss a net

register_misses : (d : Netlist) (b : Place) (n low : ℕ) (value : List Bit) → IsNet d b.signal → IsRegister d n → All (Misses b) (bits_written n low value)
register_misses d b n low value net register =
    bits-miss b n low value
    (λ same. let e : Some true ≡ Some false = sym register ∙ ap (λ m. option_map (λ (s : Signal). s.register) (slice_get d.signals m)) same ∙ net in
    let clash : true ≡ false = same_Some true false e in cc)

target_misses : (d : Netlist) (b : Place) (t : Option Target) (value : List Bit) → IsNet d b.signal → TargetWrites d t → All (Misses b) (target_written t value)
target_misses d b None value net h = all_none (Misses b)
target_misses d b (Some (Bits (variable.Signal n) low)) value net h = register_misses d b n low value net h
target_misses d b (Some (Bits (variable.Local n) low)) value net h = all_none (Misses b)
target_misses d b (Some (Word memory place)) value net h = all_one (Misses b) (ToWord memory place value) tt

pub update_misses : (d : Netlist) (b : Place) (u : Update) → IsNet d b.signal → UpdateWrites d u → All (Misses b) (update_written u)
update_misses d b u net h = all_flat (λ (p : Piece). TargetWrites d p.target) (Misses b) (λ p. target_written p.target p.value) u (λ p writes. target_misses d b p.target p.value net writes) h

pub initial_misses : (d : Netlist) (b : Place) (t : InitialTarget) (value : List Bit) → IsNet d b.signal → InitialWrites d t → All (Misses b) (initial_written t value)
initial_misses d b (initial.Register n) value net h = register_misses d b n 0 value net h
initial_misses d b (initial.Word memory place) value net h = all_one (Misses b) (ToWord memory place value) tt

-- whatever blocks, initial items and inputs write misses the targets of drivers

pub updates_miss : (d : Netlist) (places : List Place) (us : List Update) → All (IsToDrive d) places → All (UpdateWrites d) us → All (λ b. All (Misses b) (flat_map update_written us)) places
updates_miss d places us drive h =
    All-weaker (IsToDrive d) (λ b. All (Misses b) (flat_map update_written us))
    (λ b is. all_flat (UpdateWrites d) (Misses b) update_written us (λ u writes. update_misses d b u is.net writes) h)
    places drive

pub initials_miss : (d : Netlist) (places : List Place) (assigns : List InitialAssign) → All (IsToDrive d) places → AssignsWrite d assigns → All (λ b. All (Misses b) (flat_map (λ (a : InitialAssign). initial_written a.target a.value) assigns)) places
initials_miss d places assigns drive h =
    All-weaker (IsToDrive d) (λ b. All (Misses b) (flat_map (λ (a : InitialAssign). initial_written a.target a.value) assigns))
    (λ b is. all_flat (λ (a : InitialAssign). InitialWrites d a.target) (Misses b) (λ (a : InitialAssign). initial_written a.target a.value) assigns (λ a writes. initial_misses d b a.target a.value is.net writes) h)
    places drive

pub input_misses : (d : Netlist) (places : List Place) (i : ℕ) (value : List Bit) → i < length d.inputs → All (IsToDrive d) places → All (λ b. All (Misses b) (bits_written (slice_index_or (input_signals d.inputs) i 0) 0 value)) places
input_misses d places i value h drive =
    let signal = get_or (input_signals d.inputs) i 0 in
    let is : Contains (map (λ (x : Input). x.signal) d.inputs) signal = Contains-get_or (input_signals d.inputs) i 0 (rw length-map h) in
    All-weaker (IsToDrive d) (λ b. All (Misses b) (bits_written signal 0 value))
    (λ b to. bits-miss b signal 0 value (λ same. to.free (subst (Contains (map (λ (x : Input). x.signal) d.inputs)) same is)))
    places drive

pub places_miss : (places others : List Place) (value : List Bit) → All (λ (y : Place). All (λ (x : Place). x ≢ y) others) places → All (λ b. All (Misses b) (places_written others value)) places
places_miss places others value h =
    All-weaker (λ (y : Place). All (λ (x : Place). x ≢ y) others) (λ b. All (Misses b) (places_written others value)) (λ b apart. places-miss b others value apart) places h
