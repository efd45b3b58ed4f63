-- Drivers that copy edge nets: what they drive, and what they bring.
use Rattle.std.proofs.Common.{◌≡◌, ◌≢◌, ℕ, zero, suc, ◌-◌, ◌<◌, ◌≤◌, Bool, false, List, [], ◌∷◌, length, arith, refl, ap, sym, ◌∙◌, subst, All, AllPairs}
use Rattle.std.specs.List.{Contains}
use Rattle.std.proofs.lemmas.List.Elements.{All-head, All-tail}
use Rattle.vod_bits.specs.Bit.{Bit, BX}
use Rattle.vod_bits.specs.Value.{resize_bits}
use Rattle.vod_design.specs.declared.parts.Driver.{Driver}
use Rattle.vod_design.specs.declared.sized.SizedExpr.{SizedExpr}
use Rattle.vod_design.specs.declared.sized.SizedKind.TheOpen.{SizedKind-F}
use Rattle.vod_design.specs.declared.sized.SizedKind.TheFolds.{fold-SizedKind, fold-roll-SizedKind, fold_out-SizedExpr}
use Rattle.vod_design.specs.declared.sized.Named.TheVariants as named
use Rattle.vod_design.specs.declared.sized.Variable.TheVariants as variable
use Rattle.vod_design.specs.declared.statement.Function.{Function}
use Rattle.vod_design.specs.declared.statement.Place.{Place}
use Rattle.vod_design.specs.Accepted.{IsAccepted, IsToDrive}
use Rattle.vod_design.specs.Eval.{kind_bits, sized_operand, operand_of}
use Rattle.vod_design.specs.Flat.{DriverFits}
use Rattle.vod_design.specs.Netlist.{Netlist, width_in, signal_width}
use Rattle.vod_design.specs.Nets.{IsBit, copied, IsEdgeNet}
use Rattle.vod_design.specs.Run.{call_below, eval}
use Rattle.vod_design.specs.Values.{Values, Operand, at_size, value_at}
use Rattle.vod_slot.specs.Store.{Store, bit_in, brought, values_in}
use Rattle.vod_slot.specs.Shape.{sizes, widths}
use Rattle.vod_slot.specs.Edges.{IsLink, edge_bit}
use Rattle.vod_slot.proofs.Lists.{all_at, pairs_head}
use Rattle.vod_slot.proofs.Replaced.{in_within}
use Rattle.vod_slot.proofs.Targets.{to_drive, targets_once}
use Rattle.vod_slot.proofs.Paths.{stands_at}
use Rattle.vod_slot.proofs.Unique.{value_size}

abbrev pub lowest : ℕ → Place
lowest n = record { signal = n; bit = 0 }

-- what it drives is an edge net
pub target_net : (d : Netlist) (j from to : ℕ) (a : Driver) → IsLink d j a from to → IsEdgeNet d to
target_net d j from to a l =
    record { input = l.net.input; stands = l.net.stands; edge = l.net.edge; follows = copied (stands_at d.drivers j a l.at) l.copies l.net.follows }

abbrev place_of : ℕ → ℕ → Place
place_of signal bit = record { signal = signal; bit = bit }

same_place : (b : Place) (n : ℕ) → b.signal ≡ n → b.bit ≡ 0 → b ≡ lowest n
same_place b n e f = let p : Place = record { signal = b.signal; bit = 0 } in let q : b ≡ p = ap (λ k. place_of b.signal k) f in let r : p ≡ lowest n = ap (λ k. place_of k 0) e in q ∙ r

-- and nothing else
pub one_target : (d : Netlist) (ranked : List ℕ) → IsAccepted d ranked → (j from to : ℕ) (a : Driver) → IsLink d j a from to → a.target ≡ lowest to ∷ []
one_target d ranked h j from to a l =
    let fits : DriverFits d a = all_at (DriverFits d) d.drivers j a h.flat.drivers l.at in
    let one : signal_width d to ≡ 1 = h.edge_bits to (target_net d j from to a l) in
    only a.target fits.some (to_drive d ranked h j a l.at) (targets_once d ranked h j a l.at) l.copies.target one
  where
    is_lowest : (b : Place) → IsToDrive d b → b.signal ≡ to → signal_width d to ≡ 1 → b ≡ lowest to
    is_lowest b drive same one =
        let low : b.bit < 1 = subst (λ w. b.bit < w) (ap (signal_width d) same ∙ one) drive.inside in
        same_place b to same (omega arith)

    only : (places : List Place) → 1 ≤ length places → All (IsToDrive d) places → AllPairs (λ b c. b ≢ c) places → ((b : Place) → Contains places b → b.signal ≡ to) → signal_width d to ≡ 1 → places ≡ lowest to ∷ []
    only [] some drive once same one = absurd (omega arith)
    only (b ∷ []) some drive once same one = ap (λ x. x ∷ []) (is_lowest b (All-head (IsToDrive d) b [] drive) (same b (stands_at (b ∷ []) 0 b refl)) one)
    only (b ∷ c ∷ places) some drive once same one =
        let here = is_lowest b (All-head (IsToDrive d) b (c ∷ places) drive) (same b (stands_at (b ∷ c ∷ places) 0 b refl)) one in
        let next = is_lowest c (All-head (IsToDrive d) c places (All-tail (IsToDrive d) b (c ∷ places) drive)) (same c (stands_at (b ∷ c ∷ places) 1 c refl)) one in
        absurd (All-head (λ x. b ≢ x) c places (pairs_head (λ x y. x ≢ y) b (c ∷ places) once) (here ∙ sym next))

-- the value of a name of one bit
name_bits : (fill : Bit) (functions : List Function) (values : Values) (e : SizedExpr) (n : ℕ) → IsBit n e → eval fill functions values [] e ≡ at_size 1 e.signed (values.signal n)
unfolding eval operand_of
name_bits fill functions values e n h =
    let calls = call_below fill functions (length functions) in
    ap (λ (o : Operand). o.bits) (fold_out-SizedExpr (ℕ → Bool → List Bit) Operand (kind_bits fill calls values []) sized_operand e)
    ∙ ap (λ k. at_size e.width e.signed (fold-SizedKind (ℕ → Bool → List Bit) Operand (kind_bits fill calls values []) sized_operand k e.width e.signed)) h.kind
    ∙ ap (λ (v : ℕ → Bool → List Bit). at_size e.width e.signed (v e.width e.signed)) (fold-roll-SizedKind (ℕ → Bool → List Bit) Operand (kind_bits fill calls values []) sized_operand (SizedKind-F.Name (named.Variable (variable.Signal n))))
    ∙ ap (λ w. at_size w e.signed (values.signal n)) h.width

resize_same : (width : ℕ) (signed : Bool) (bits : List Bit) → length bits ≡ width → resize_bits width signed bits ≡ bits
unfolding resize_bits
resize_same width signed bits len = let none : width - length bits ≡ 0 = omega arith in let all : length bits - width ≡ 0 = omega arith in rw (none, all) refl

sized_same : (signed : Bool) (bits : List Bit) → length bits ≡ 1 → at_size 1 signed bits ≡ bits
unfolding at_size
sized_same signed bits len = resize_same 1 signed bits len

pub single : (bits : List Bit) → length bits ≡ 1 → bits ≡ bit_in bits 0 ∷ []
single [] len = absurd (omega arith)
single (b ∷ []) len = ap (λ x. x ∷ []) (sym (in_within (b ∷ []) 0 (omega arith)))
single (b ∷ c ∷ bits) len = absurd (omega arith)

pub edge_within : (d : Netlist) (n : ℕ) → signal_width d n ≡ 1 → n < length d.signals
edge_within d n one = within d.signals n one
  where
    within : (signals : List _) (n : ℕ) → width_in signals n ≡ 1 → n < length signals
    within [] n one = absurd (cc)
    within (s ∷ signals) zero one = omega arith
    within (s ∷ signals) (suc n) one = let l = within signals n one in omega arith

-- what it brings is what the net has that it copies
pub link_brings : (d : Netlist) (ranked : List ℕ) → IsAccepted d ranked → (store : Store) → sizes store ≡ widths d → (j from to : ℕ) (a : Driver) → IsLink d j a from to → brought d store a ≡ edge_bit store from ∷ []
unfolding brought
link_brings d ranked h store same j from to a l =
    let one : signal_width d from ≡ 1 = h.edge_bits from l.net in
    let bits = value_at BX store.signals from in
    let len : length bits ≡ 1 = value_size store d from same (edge_within d from one) ∙ one in
    let target : length a.target ≡ 1 = ap length (one_target d ranked h j from to a l) in
    ap (λ v. resize_bits (length a.target) false v) (name_bits BX d.functions (values_in store) a.value from l.copies.value ∙ sized_same a.value.signed bits len)
    ∙ ap (λ n. resize_bits n false bits) target
    ∙ resize_same 1 false bits len
    ∙ single bits len
