-- What edges come by in an accepted design: edge nets alone, each from the one that its driver copies; so that no other driver, no
-- register and no word is on the way.
use Rattle.std.proofs.Common.{◌≡◌, ◌≢◌, ℕ, zero, suc, ◌<◌, ◌≤◌, Bool, true, false, if◌then◌else◌, List, [], ◌∷◌, ◌++◌, length, map, take, drop, get_or, arith, refl, ap, sym, ◌∙◌, subst, ⊎_elim, All, AllPairs, Option, Some, None, slice_get, drop-cons}
use Rattle.std.specs.List.{Contains, list_any}
use Rattle.std.proofs.lemmas.Bool.{cases_eq, or_cases, eqb-true, false_from_ne_true}
use Rattle.std.proofs.lemmas.List.{length-take-le, get_or-take, take-append-drop}
use Rattle.std.proofs.lemmas.List.Elements.{All-head, All-tail, All-cons, All-append, All-contains, Contains-get_or}
use Rattle.std.proofs.lemmas.Option.{same_Some, get_or_from_slice_get, slice_get_within}
use Rattle.vod_design.specs.declared.parts.Block.{Block}
use Rattle.vod_design.specs.declared.parts.Driver.{Driver}
use Rattle.vod_design.specs.declared.parts.Edge.{Edge}
use Rattle.vod_design.specs.declared.parts.Input.{Input}
use Rattle.vod_design.specs.declared.read.Read.{Read}
use Rattle.vod_design.specs.declared.read.Read.TheVariants.{Whole}
use Rattle.vod_design.specs.declared.sized.SizedExpr.{SizedExpr}
use Rattle.vod_design.specs.declared.sized.SizedKind.{SizedKind}
use Rattle.vod_design.specs.declared.sized.SizedKind.TheOpen.{SizedKind-F}
use Rattle.vod_design.specs.declared.sized.SizedKind.TheFolds.{fold-SizedKind, map-SizedKind, fold-roll-SizedKind, fold_out-SizedExpr}
use Rattle.vod_design.specs.declared.sized.SizedKind.TheViews.{roll-SizedKind}
use Rattle.vod_design.specs.declared.sized.Named.TheVariants as named
use Rattle.vod_design.specs.declared.sized.Variable.TheVariants as variable
use Rattle.vod_design.specs.declared.statement.Place.{Place}
use Rattle.vod_design.specs.declared.vector.Class.{Class}
use Rattle.vod_design.specs.declared.vector.Class.TheVariants.{Clock, Reset, Data}
use Rattle.vod_design.specs.Accepted.{IsAccepted, IsToDrive, BlockRuns}
use Rattle.vod_design.specs.Flat.{DriverFits}
use Rattle.vod_design.specs.Feeds.{is_read, feeds}
use Rattle.vod_design.specs.Netlist.{Netlist, signal_width}
use Rattle.vod_design.specs.Nets.{IsBit, Follows, itself, copied, FollowsClass, IsEdgeNet, Copies}
use Rattle.vod_design.specs.Image.{is_data}
use Rattle.vod_design.specs.Reads.{kind_reads, reads}
use Rattle.vod_slot.specs.Weight.{reset_read, awaited, writes_read, reads_before, upstream, edge_path}
use Rattle.vod_slot.proofs.Lists.{all_none, all_one, all_at, all_from_places}
use Rattle.vod_slot.proofs.Targets.{to_drive, targets_apart}

-- where what a list has stands in it
pub place_in : {A : Type 0} (xs : List A) (x : A) → Contains xs x → (k : ℕ) × (slice_get xs k ≡ Some x)
place_in xs x h = All-contains (λ y. (k : ℕ) × (slice_get xs k ≡ Some y)) xs x (all_from_places (λ y. (k : ℕ) × (slice_get xs k ≡ Some y)) xs (λ k y at. (k, at))) h

pub stands_at : {A : Type 0} (xs : List A) (k : ℕ) (x : A) → slice_get xs k ≡ Some x → Contains xs x
stands_at xs k x at = subst (Contains xs) (get_or_from_slice_get xs k x x at) (Contains-get_or xs k x (slice_get_within xs k x at))

stands_mapped : {A B : Type 0} (f : A → B) (xs : List A) (x : A) → Contains xs x → Contains (map f xs) (f x)
stands_mapped f xs x h = let p = place_in xs x h in stands_at (map f xs) p.0 (f x) (mapped_at xs p.0 p.1)
  where
    mapped_at : (ys : List _) (k : ℕ) → slice_get ys k ≡ Some x → slice_get (map f ys) k ≡ Some (f x)
    mapped_at [] k at = absurd (cc)
    mapped_at (y ∷ ys) zero at = ap (λ z. Some (f z)) (same_Some y x at)
    mapped_at (y ∷ ys) (suc k) at = mapped_at ys k at

-- an expression that is the whole of a net reads that alone
pub kind_at : (e : SizedExpr) (x : SizedKind-F SizedKind SizedExpr) → e.kind ≡ roll-SizedKind x
    → reads e ≡ kind_reads (map-SizedKind SizedKind SizedExpr (List Read) (List Read) (fold-SizedKind (List Read) (List Read) kind_reads (λ e. e.kind)) reads x)
unfolding reads
kind_at e x is = fold_out-SizedExpr (List Read) (List Read) kind_reads (λ e. e.kind) e ∙ ap (λ k. fold-SizedKind (List Read) (List Read) kind_reads (λ e. e.kind) k) is ∙ fold-roll-SizedKind (List Read) (List Read) kind_reads (λ e. e.kind) x

pub bit_reads : (n : ℕ) (e : SizedExpr) → IsBit n e → reads e ≡ Whole n ∷ []
bit_reads n e h = kind_at e (SizedKind-F.Name (named.Variable (variable.Signal n))) h.kind

-- the driver of an edge net copies an edge net
first_of : {A : Type 0} (xs : List A) → 1 ≤ length xs → (x : A) × (slice_get xs 0 ≡ Some x)
first_of [] h = absurd (omega arith)
first_of (x ∷ xs) h = (x, refl)

abbrev place_of : ℕ → ℕ → Place
place_of signal bit = record { signal = signal; bit = bit }

same_place : (b c : Place) → b.signal ≡ c.signal → b.bit ≡ c.bit → b ≡ c
same_place b c e f = let p : Place = record { signal = b.signal; bit = c.bit } in let q : b ≡ p = ap (λ n. place_of b.signal n) f in let r : p ≡ c = ap (λ n. place_of n c.bit) e in q ∙ r

-- where a net stands that a driver drives, and what that driver is
pub record IsCopied (d : Netlist) (a : Driver) (to : ℕ) : Type 0 where
  pub from : ℕ
  pub reads_it : reads a.value ≡ Whole from ∷ []
  pub net : IsEdgeNet d from
  pub copies : Copies from to a

copies_net : (d : Netlist) (ranked : List ℕ) → IsAccepted d ranked → (k : ℕ) (a : Driver) (p : Place) → slice_get d.drivers k ≡ Some a → Contains a.target p →
    (input : Input) → Contains d.inputs input → input.class ≢ Data → (n : ℕ) → n ≡ p.signal → Follows d input.signal n → IsCopied d a p.signal
copies_net d ranked h k a p at in_target input stands edge n is itself =
    let drive : IsToDrive d p = All-contains (IsToDrive d) a.target p (to_drive d ranked h k a at) in_target in
    absurd (drive.free (subst (Contains (map (λ (i : Input). i.signal) d.inputs)) is (stands_mapped (λ (i : Input). i.signal) d.inputs input stands)))
copies_net d ranked h k a p at in_target input stands edge n is (copied {from = from} {to = to} {a = c} is_driver copies follows) =
    let place = place_in d.drivers c is_driver in
    let fits : DriverFits d c = all_at (DriverFits d) d.drivers place.0 c h.flat.drivers place.1 in
    let first = first_of c.target fits.some in
    let b = first.0 in
    let holds_b = stands_at c.target 0 b first.1 in
    let signal : b.signal ≡ p.signal = copies.target b holds_b ∙ is in
    let net : IsEdgeNet d n = record { input = input; stands = stands; edge = edge; follows = copied is_driver copies follows } in
    let one : signal_width d n ≡ 1 = h.edge_bits n net in
    let drive_p : IsToDrive d p = All-contains (IsToDrive d) a.target p (to_drive d ranked h k a at) in_target in
    let drive_b : IsToDrive d b = All-contains (IsToDrive d) c.target b (to_drive d ranked h place.0 c place.1) holds_b in
    let p_low : p.bit < 1 = subst (λ w. p.bit < w) (ap (signal_width d) (sym is) ∙ one) drive_p.inside in
    let b_low : b.bit < 1 = subst (λ w. b.bit < w) (ap (signal_width d) (signal ∙ sym is) ∙ one) drive_b.inside in
    let same : b ≡ p = same_place b p signal (omega arith) in
    ⊎_elim
    (λ here.
    let c_is : c ≡ a = same_Some c a (sym place.1 ∙ ap (slice_get d.drivers) here ∙ at) in
    record {
      from = from;
      reads_it = subst (λ (x : Driver). reads x.value ≡ Whole from ∷ []) c_is (bit_reads from c.value copies.value);
      net = record { input = input; stands = stands; edge = edge; follows = follows };
      copies = subst (Copies from p.signal) c_is (subst (λ m. Copies from m c) is copies);
    })
    (λ apart. absurd (All-contains (λ (x : Place). x ≢ p) c.target b (All-contains (λ (y : Place). All (λ (x : Place). x ≢ y) c.target) a.target p (targets_apart d ranked h place.0 k c a place.1 at apart) in_target) holds_b same))
    (cases_eq place.0 k)

pub edge_driver : (d : Netlist) (ranked : List ℕ) → IsAccepted d ranked → (k : ℕ) (a : Driver) (p : Place) → slice_get d.drivers k ≡ Some a → Contains a.target p → IsEdgeNet d p.signal → IsCopied d a p.signal
edge_driver d ranked h k a p at in_target net = copies_net d ranked h k a p at in_target net.input net.stands net.edge p.signal refl net.follows

-- what is read on the path are edge nets
pub record IsPathRead (d : Netlist) (r : Read) : Type 0 where
  pub net : ℕ
  pub is_whole : r ≡ Whole net
  pub is_edge : IsEdgeNet d net

pub found : {A : Type 0} (test : A → Bool) (xs : List A) → list_any test xs ≡ true → (k : ℕ) × (x : A) × (slice_get xs k ≡ Some x) × (test x ≡ true)
found test [] h = absurd (cc)
found test (x ∷ xs) h = ⊎_elim (λ here. (0, x, refl, here)) (λ later. let p = found test xs later in (suc p.0, p.1, p.2, p.3)) (or_cases (test x) (list_any test xs) h)

path_of : (d : Netlist) (ranked : List ℕ) → IsAccepted d ranked → (rs : List Read) → All (IsPathRead d) rs → (k : ℕ) (a : Driver) → slice_get d.drivers k ≡ Some a → writes_read rs a ≡ true → All (IsPathRead d) (reads a.value)
path_of d ranked h rs each k a at writes =
    let t = found (λ p. list_any (is_read p) rs) a.target writes in
    let p = t.1 in
    let u = found (is_read p) rs t.3 in
    let path = all_at (IsPathRead d) rs u.0 u.1 each u.2 in
    let read : is_read p (Whole path.net) ≡ true = subst (λ r. is_read p r ≡ true) path.is_whole u.3 in
    let net : IsEdgeNet d p.signal = subst (IsEdgeNet d) (sym (eqb-true p.signal path.net read)) path.is_edge in
    let c = edge_driver d ranked h k a p at (stands_at a.target t.0 p t.2) net in
    subst (All (IsPathRead d)) (sym c.reads_it) (all_one (IsPathRead d) (Whole c.from) (record { net = c.from; is_whole = refl; is_edge = c.net }))

before_on_path : (d : Netlist) (ranked : List ℕ) → IsAccepted d ranked → (rs : List Read) → All (IsPathRead d) rs → (j : ℕ) (o : Option Driver) → slice_get d.drivers j ≡ o → All (IsPathRead d) (reads_before rs o)
before_on_path d ranked h rs each j None at = all_none (IsPathRead d)
before_on_path d ranked h rs each j (Some a) at = chosen (writes_read rs a) refl
  where
    chosen : (b : Bool) → writes_read rs a ≡ b → All (IsPathRead d) (if b then reads a.value else [])
    chosen true is = path_of d ranked h rs each j a at is
    chosen false is = all_none (IsPathRead d)

upstream_path : (d : Netlist) (ranked : List ℕ) → IsAccepted d ranked → (js : List ℕ) (rs : List Read) → All (IsPathRead d) rs → All (IsPathRead d) (upstream d.drivers js rs)
upstream_path d ranked h [] rs each = each
upstream_path d ranked h (j ∷ js) rs each =
    let later = upstream_path d ranked h js rs each in
    All-append (IsPathRead d) (upstream d.drivers js rs) (reads_before (upstream d.drivers js rs) (slice_get d.drivers j)) later (before_on_path d ranked h (upstream d.drivers js rs) later j (slice_get d.drivers j) refl)

pub class_net : (d : Netlist) (class : Class) (n : ℕ) → class ≢ Data → FollowsClass d class n → IsEdgeNet d n
class_net d class n apart f = record { input = f.input; stands = f.stands; edge = λ e. apart (sym f.class_is ∙ e); follows = f.follows }

class_edge : (d : Netlist) (class : Class) (n : ℕ) → class ≢ Data → FollowsClass d class n → IsPathRead d (Whole n)
class_edge d class n apart f = record { net = n; is_whole = refl; is_edge = class_net d class n apart f }

pub not_data : (class : Class) → is_data class ≡ false → class ≢ Data
not_data class h e = let clash : true ≡ false = sym (ap is_data e) ∙ h in cc

reset_path : (d : Netlist) (b : Block) (reset : Option Edge) → BlockRuns d b reset → All (IsPathRead d) (reset_read reset)
reset_path d b None h = all_none (IsPathRead d)
reset_path d b (Some e) h = all_one (IsPathRead d) (Whole e.signal) (class_edge d Reset e.signal (not_data Reset refl) h.reset_is)

blocks_path : (d : Netlist) (blocks : List Block) → All (λ (b : Block). FollowsClass d Clock b.clock.signal) blocks → All (λ (b : Block). BlockRuns d b b.reset) blocks → All (IsPathRead d) (awaited blocks)
blocks_path d [] c r = all_none (IsPathRead d)
blocks_path d (b ∷ blocks) c r =
    All-cons (IsPathRead d) (Whole b.clock.signal) (reset_read b.reset ++ awaited blocks) (class_edge d Clock b.clock.signal (not_data Clock refl) (All-head (λ (x : Block). FollowsClass d Clock x.clock.signal) b blocks c))
    (All-append (IsPathRead d) (reset_read b.reset) (awaited blocks) (reset_path d b b.reset (All-head (λ (x : Block). BlockRuns d x x.reset) b blocks r))
    (blocks_path d blocks (All-tail (λ (x : Block). FollowsClass d Clock x.clock.signal) b blocks c) (All-tail (λ (x : Block). BlockRuns d x x.reset) b blocks r)))

pub path_reads : (d : Netlist) (ranked : List ℕ) → IsAccepted d ranked → All (IsPathRead d) (edge_path d ranked)
path_reads d ranked h = upstream_path d ranked h ranked (awaited d.blocks) (blocks_path d d.blocks h.clocks h.resets)

-- the order of the drivers

pub self_free : (d : Netlist) (ranked : List ℕ) → IsAccepted d ranked → (k m : ℕ) → k ≤ m → m < length ranked → feeds d.drivers (get_or ranked m 0) (get_or ranked k 0) ≡ false
self_free d ranked h k m le lt =
    let j = get_or ranked m 0 in
    let q = get_or ranked k 0 in
    false_from_ne_true (feeds d.drivers j q)
    (λ fed.
    let split : ranked ≡ take k ranked ++ q ∷ drop (suc k) ranked = sym (take-append-drop k ranked) ∙ ap (λ ys. take k ranked ++ ys) (drop-cons ranked k 0 (omega arith)) in
    let stands = h.order.behind (take k ranked) (drop (suc k) ranked) j q split fed in
    let p = place_in (take k ranked) j stands in
    let within = slice_get_within (take k ranked) p.0 j p.1 in
    let len : length (take k ranked) ≡ k = length-take-le k ranked (omega arith) in
    let below : p.0 < k = omega arith in
    let at : get_or ranked p.0 0 ≡ j = sym (get_or-take k ranked p.0 0 below) ∙ get_or_from_slice_get (take k ranked) p.0 j 0 p.1 in
    h.order.each.once p.0 m 0 (omega arith) lt at)

get_or_any : (xs : List ℕ) (i e f : ℕ) → i < length xs → get_or xs i e ≡ get_or xs i f
get_or_any [] i e f l = absurd (omega arith)
get_or_any (x ∷ xs) zero e f l = refl
get_or_any (x ∷ xs) (suc i) e f l = get_or_any xs i e f (omega arith)

pub ordered : (d : Netlist) (ranked : List ℕ) → IsAccepted d ranked → AllPairs (λ q k. feeds d.drivers k q ≡ false) ranked
ordered d ranked h = λ i j e lt l. at_any i j e lt l
  where
    at_any : (i j e : ℕ) → i < j → j < length ranked → feeds d.drivers (get_or ranked j e) (get_or ranked i e) ≡ false
    at_any i j e lt l = rw (get_or_any ranked j e 0 l, get_or_any ranked i e 0 (omega arith)) (self_free d ranked h i j (omega arith) l)

pub ranked_has : (d : Netlist) (ranked : List ℕ) → IsAccepted d ranked → (j : ℕ) → j < length d.drivers → Contains ranked j
ranked_has d ranked h j lt = h.order.each.all j lt

pub feeds_itself : (d : Netlist) (ranked : List ℕ) → IsAccepted d ranked → (j : ℕ) → j < length d.drivers → feeds d.drivers j j ≡ false
feeds_itself d ranked h j lt =
    let p = place_in ranked j (ranked_has d ranked h j lt) in
    let at = get_or_from_slice_get ranked p.0 j 0 p.1 in
    subst (λ n. feeds d.drivers n n ≡ false) at (self_free d ranked h p.0 p.0 (omega arith) (slice_get_within ranked p.0 j p.1))
