-- What a statement of a function leaves: the variables that are assigned by then are known.
use Rattle.std.proofs.Common.{arith, ◌≡◌, ◌≢◌, ◌≤◌, ◌<◌, ℕ, zero, suc, ◌+◌, ◌-◌, ◌^◌, ◌==◌, nat_le, Bool, true, false, if◌then◌else◌, List, [], ◌∷◌, ◌++◌, length, map, take, drop, set, get_or, refl, ap, sym, ◌∙◌, subst, ⊎_elim, All, Option, Some, None, slice_get, get_or-set_same, get_or-set_other, length-append}
use Rattle.std.specs.List.{list_all}
use Rattle.std.proofs.Math.Nat.{one-le-pow}
use Rattle.std.proofs.Math.Seq.{map-set_same}
use Rattle.std.proofs.lemmas.Bool.{and_parts, cases_eq, cases_lt, eqb-true, le-leb, leb-true}
use Rattle.std.proofs.lemmas.List.{append-nil, length-take-le, length-drop, set_past, drop_all}
use Rattle.std.proofs.lemmas.List.Elements.{All-head, All-tail, All-cons}
use Rattle.vod_bits.specs.Bit.{Bit, BX}
use Rattle.vod_design.specs.declared.sized.Named.{Named}
use Rattle.vod_design.specs.declared.sized.Named.TheVariants as named
use Rattle.vod_design.specs.declared.sized.SizedExpr.{SizedExpr}
use Rattle.vod_design.specs.declared.sized.Variable.{Variable}
use Rattle.vod_design.specs.declared.sized.Variable.TheVariants as variable
use Rattle.vod_design.specs.declared.statement.Part.{Part}
use Rattle.vod_design.specs.declared.statement.PartTarget.{PartTarget}
use Rattle.vod_design.specs.declared.statement.PartTarget.TheVariants as part
use Rattle.vod_design.specs.declared.statement.Target.TheVariants.{Bits}
use Rattle.vod_design.specs.Eval.{Calls, operand_of}
use Rattle.vod_design.specs.Flat.{TargetFits, PartFits}
use Rattle.vod_design.specs.Functions.{Assigned, has_variable, has_name, has_use, may_read, checked, after_both, is_whole, bits_assigned, part_assigned, parts_assigned}
use Rattle.vod_design.specs.Netlist.{Netlist, or_0, variable_width, named_width}
use Rattle.vod_design.specs.Run.{at_index, target_of, replace_bits, written, assigned, nothing}
use Rattle.vod_design.specs.Uses.{Use, Whole as WholeUse, Bits as BitsUse, BitAt, Word as WordUse, WordAt, Called, Inputs, uses}
use Rattle.vod_design.specs.Values.{Frame, bounded, value_at, select_bits, index_place, named_bits}
use Rattle.vod_slot.specs.Known.{AreKnown}
use Rattle.vod_slot.proofs.Lists.{all_none}
use Rattle.vod_slot.proofs.Replaced.{selected_inside}
use Rattle.vod_slot.proofs.Constants.{IsFreeName, IsFree, free_reads}
use Rattle.vod_slot.proofs.KnownBits.{known_append, known_take, known_drop, select_known}
use Rattle.vod_slot.proofs.KnownExprs.{ReadKnown, NameKnown, UseOk, expr_known}
use Rattle.vod_slot.proofs.KnownUses.{UseGood, ExprGood, bounded_size}

-- the variables have their widths, and those that were assigned are known
pub record IsFrame (ws : List ℕ) (done : Assigned) (frame : Frame) : Type 0 where
  pub sizes : map length frame ≡ ws
  pub known : (n : ℕ) → get_or done n false ≡ true → AreKnown (value_at BX frame n)

-- an expression that may be read has a known value

width_of : (ws : List ℕ) (n : ℕ) → or_0 (slice_get ws n) ≡ get_or ws n 0
width_of [] n = refl
width_of (w ∷ ws) zero = refl
width_of (w ∷ ws) (suc n) = width_of ws n

within_frame : (frame : Frame) (n : ℕ) → 1 ≤ get_or (map length frame) n 0 → n < length frame
within_frame [] n h = absurd (omega arith)
within_frame (v ∷ frame) zero h = omega arith
within_frame (v ∷ frame) (suc n) h = let l = within_frame frame n h in omega arith

length_at : (frame : Frame) (n : ℕ) → n < length frame → length (value_at BX frame n) ≡ get_or (map length frame) n 0
length_at [] n h = absurd (omega arith)
length_at (v ∷ frame) zero h = refl
length_at (v ∷ frame) (suc n) h = length_at frame n (omega arith)

-- a variable has the width that it was declared with
local_length : (ws : List ℕ) (frame : Frame) (n : ℕ) → map length frame ≡ ws → 1 ≤ or_0 (slice_get ws n) → length (value_at BX frame n) ≡ or_0 (slice_get ws n)
local_length ws frame n same some =
    let w : get_or (map length frame) n 0 ≡ or_0 (slice_get ws n) = ap (λ xs. get_or xs n 0) same ∙ sym (width_of ws n) in
    length_at frame n (within_frame frame n (omega arith)) ∙ w

named_length : (d : Netlist) (ws : List ℕ) (done : Assigned) (frame : Frame) (n : Named) → map length frame ≡ ws → has_name done n ≡ true → 1 ≤ named_width d ws n → length (named_bits BX (nothing BX) frame n) ≡ named_width d ws n
named_length d ws done frame (named.Variable (variable.Signal m)) same has some = absurd (cc)
named_length d ws done frame (named.Variable (variable.Local m)) same has some = local_length ws frame m same some
named_length d ws done frame (named.Constant b) same has some = refl

name_ok : (ws : List ℕ) (done : Assigned) (frame : Frame) (n : Named) → IsFrame ws done frame → has_name done n ≡ true → NameKnown frame n
name_ok ws done frame (named.Variable (variable.Signal m)) f has = tt
name_ok ws done frame (named.Variable (variable.Local m)) f has = f.known m has
name_ok ws done frame (named.Constant b) f has = tt

use_ok : (d : Netlist) (ws : List ℕ) (calls : Calls) (done : Assigned) (frame : Frame) (u : Use) → IsFrame ws done frame → has_use done u ≡ true → UseGood d ws calls u → UseOk calls (nothing BX) frame u
use_ok d ws calls done frame (WholeUse n) f has good = name_ok ws done frame n f has
use_ok d ws calls done frame (BitsUse n low width) f has good =
    let len = named_length d ws done frame n f.sizes has (omega arith) in (name_ok ws done frame n f has, omega arith)
use_ok d ws calls done frame (BitAt n least index) f has good =
    let some : 1 ≤ 2 ^ bounded index.width = one-le-pow (bounded index.width) 2 (omega arith) in
    let inside = good.1 in
    let len = named_length d ws done frame n f.sizes has (omega arith) in (name_ok ws done frame n f has, (good.0, omega arith))
use_ok d ws calls done frame (WordUse memory place) f has good = absurd (cc)
use_ok d ws calls done frame (WordAt memory least index) f has good = absurd (cc)
use_ok d ws calls done frame (Called n count) f has good = good
use_ok d ws calls done frame (Inputs op count) f has good = good

uses_ok : (d : Netlist) (ws : List ℕ) (calls : Calls) (done : Assigned) (frame : Frame) (us : List Use) → IsFrame ws done frame → list_all (has_use done) us ≡ true → All (UseGood d ws calls) us → All (UseOk calls (nothing BX) frame) us
uses_ok d ws calls done frame [] f has good = all_none (UseOk calls (nothing BX) frame)
uses_ok d ws calls done frame (u ∷ us) f has good =
    let p = and_parts (has_use done u) (list_all (has_use done) us) has in
    All-cons (UseOk calls (nothing BX) frame) u us (use_ok d ws calls done frame u f p.0 (All-head (UseGood d ws calls) u us good)) (uses_ok d ws calls done frame us f p.1 (All-tail (UseGood d ws calls) u us good))

free_name : (done : Assigned) (n : Named) → has_name done n ≡ true → IsFreeName n
free_name done (named.Variable (variable.Signal m)) has = absurd (cc)
free_name done (named.Variable (variable.Local m)) has = tt
free_name done (named.Constant b) has = tt

free_use : (done : Assigned) (u : Use) → has_use done u ≡ true → IsFree u
free_use done (WholeUse n) has = free_name done n has
free_use done (BitsUse n low width) has = free_name done n has
free_use done (BitAt n least index) has = free_name done n has
free_use done (WordUse memory place) has = absurd (cc)
free_use done (WordAt memory least index) has = absurd (cc)
free_use done (Called n count) has = tt
free_use done (Inputs op count) has = tt

free_uses : (done : Assigned) (us : List Use) → list_all (has_use done) us ≡ true → All IsFree us
free_uses done [] has = all_none IsFree
free_uses done (u ∷ us) has = let p = and_parts (has_use done u) (list_all (has_use done) us) has in All-cons IsFree u us (free_use done u p.0) (free_uses done us p.1)

pub read_known : (d : Netlist) (ws : List ℕ) (calls : Calls) (done : Assigned) (frame : Frame) (e : SizedExpr) → IsFrame ws done frame → may_read done e ≡ true → ExprGood d ws calls e → AreKnown (operand_of BX calls (nothing BX) frame e).bits
read_known d ws calls done frame e f has good =
    let none = free_reads e (free_uses done (uses e) has) in
    expr_known calls (nothing BX) frame e (subst (All (ReadKnown (nothing BX))) (sym none) (all_none (ReadKnown (nothing BX)))) (uses_ok d ws calls done frame (uses e) f has good.uses) good.values

-- bits of a variable are assigned

length-replace : (low : ℕ) (new old : List Bit) → length (replace_bits low new old) ≡ length old
unfolding replace_bits
length-replace low new old = by_fit (nat_le (low + length new) (length old)) refl
  where
    by_fit : (b : Bool) → nat_le (low + length new) (length old) ≡ b → length (if b then take (length old - (low + length new)) old ++ new ++ drop (length old - low) old else old) ≡ length old
    by_fit true is =
        let fits = leb-true (low + length new) (length old) is in
        let a = length-take-le (length old - (low + length new)) old (omega arith) in
        let b = length-drop (length old - low) old in
        let c = length-append (take (length old - (low + length new)) old ++ new) (drop (length old - low) old) in
        let e = length-append (take (length old - (low + length new)) old) new in
        omega arith
    by_fit false is = refl

known-replace : (low : ℕ) (new old : List Bit) → AreKnown new → AreKnown old → AreKnown (replace_bits low new old)
unfolding replace_bits
known-replace low new old h k = by_fit (nat_le (low + length new) (length old))
  where
    by_fit : (b : Bool) → AreKnown (if b then take (length old - (low + length new)) old ++ new ++ drop (length old - low) old else old)
    by_fit true =
        let upper = take (length old - (low + length new)) old in
        known_append (upper ++ new) (drop (length old - low) old) (known_append upper new (known_take (length old - (low + length new)) old k) h) (known_drop (length old - low) old k)
    by_fit false = k

whole-replace : (new old : List Bit) → length new ≡ length old → replace_bits 0 new old ≡ new
unfolding replace_bits
whole-replace new old len =
    let fits : nat_le (0 + length new) (length old) ≡ true = le-leb (0 + length new) (length old) (omega arith) in
    let none : length old - (0 + length new) ≡ 0 = omega arith in
    let all : drop (length old - 0) old ≡ [] = dropped old in
    ap (λ b. if b then take (length old - (0 + length new)) old ++ new ++ drop (length old - 0) old else old) fits
    ∙ ap (λ n. take n old ++ new ++ drop (length old - 0) old) none
    ∙ ap (λ xs. new ++ xs) all
    ∙ append-nil new
  where
    dropped : (xs : List Bit) → drop (length xs - 0) xs ≡ []
    dropped xs = drop_all (length xs - 0) xs (omega arith)

-- one variable is changed, and known then, or it was
frame_set : (ws : List ℕ) (done now : Assigned) (frame : Frame) (n : ℕ) (v : List Bit) → IsFrame ws done frame → n < length frame → length v ≡ length (value_at BX frame n) → ((m : ℕ) → m ≢ n → get_or now m false ≡ true → get_or done m false ≡ true) → (get_or now n false ≡ true → AreKnown v) → IsFrame ws now (set frame n v)
frame_set ws done now frame n v f within len others here = record {
  sizes = map-set_same length frame n v (BX ∷ []) len ∙ f.sizes;
  known = λ m is. ⊎_elim
      (λ same. subst (λ k. AreKnown (value_at BX (set frame n v) k)) (sym same) (subst AreKnown (sym (get_or-set_same frame n v (BX ∷ []) within)) (here (ap (λ k. get_or now k false) (sym same) ∙ is))))
      (λ apart. subst AreKnown (sym (get_or-set_other frame n m v (BX ∷ []) apart)) (f.known m (others m apart is)))
      (cases_eq m n);
}

set_other : (done : Assigned) (n m : ℕ) → m ≢ n → get_or (set done n true) m false ≡ true → get_or done m false ≡ true
set_other done n m apart is = sym (get_or-set_other done n m true false apart) ∙ is

bits_frame : (d : Netlist) (ws : List ℕ) (done : Assigned) (frame : Frame) (x : Variable) (low width : ℕ) (new : List Bit) → IsFrame ws done frame → AreKnown new → length new ≡ width → 1 ≤ width → low + width ≤ variable_width d ws x → (bits_assigned ws done x low width).fine ≡ true →
    IsFrame ws (bits_assigned ws done x low width).after (written BX (Some (Bits x low)) new frame)
bits_frame d ws done frame (variable.Signal n) low width new f known len some fits fine = absurd (cc)
bits_frame d ws done frame (variable.Local n) low width new f known len some fits fine = by_whole (is_whole ws n low width) refl fine
  where
    there : n < length frame
    there = let w : get_or (map length frame) n 0 ≡ or_0 (slice_get ws n) = ap (λ xs. get_or xs n 0) f.sizes ∙ sym (width_of ws n) in within_frame frame n (omega arith)

    by_whole : (b : Bool) → is_whole ws n low width ≡ b → (if b then checked true (set done n true) else checked (get_or done n false) done).fine ≡ true → IsFrame ws (if b then checked true (set done n true) else checked (get_or done n false) done).after (set frame n (replace_bits low new (value_at BX frame n)))
    by_whole true is fine =
        let old = value_at BX frame n in
        let p = and_parts (low == 0) (get_or ws n 0 == width) is in
        let zero_ : low ≡ 0 = eqb-true low 0 p.0 in
        let size : length old ≡ or_0 (slice_get ws n) = local_length ws frame n f.sizes (omega arith) in
        let w : get_or ws n 0 ≡ width = eqb-true (get_or ws n 0) width p.1 in
        let same : length new ≡ length old = len ∙ sym w ∙ sym (width_of ws n) ∙ sym size in
        let whole : replace_bits low new old ≡ new = ap (λ l. replace_bits l new old) zero_ ∙ whole-replace new old same in
        frame_set ws done (set done n true) frame n (replace_bits low new old) f there (length-replace low new old) (λ m apart on. set_other done n m apart on) (λ on. subst AreKnown (sym whole) known)
    by_whole false is fine =
        let old = value_at BX frame n in
        frame_set ws done done frame n (replace_bits low new old) f there (length-replace low new old) (λ m apart on. on) (λ on. known-replace low new old known (f.known n on))

index_frame : (ws : List ℕ) (done : Assigned) (frame : Frame) (x : Variable) (place : Option ℕ) (new : List Bit) → IsFrame ws done frame → AreKnown new → has_variable done x ≡ true → IsFrame ws done (written BX (at_index (Bits x) place) new frame)
index_frame ws done frame x None new f known fine = f
index_frame ws done frame (variable.Signal n) (Some place) new f known fine = absurd (cc)
index_frame ws done frame (variable.Local n) (Some place) new f known fine =
    let old = value_at BX frame n in
    ⊎_elim
    (λ there. frame_set ws done done frame n (replace_bits place new old) f there (length-replace place new old) (λ m apart on. on) (λ on. known-replace place new old known (f.known n on)))
    (λ past. subst (IsFrame ws done) (sym (set_past frame n (replace_bits place new old) past)) f)
    (cases_lt n (length frame))

part_frame : (d : Netlist) (ws : List ℕ) (done : Assigned) (frame : Frame) (right : SizedExpr) (p : Part) (index new : List Bit) → IsFrame ws done frame → PartFits d ws right p → AreKnown new → length new ≡ p.width → (part_assigned ws done p.width p.target).fine ≡ true →
    IsFrame ws (part_assigned ws done p.width p.target).after (written BX (target_of p.target index) new frame)
part_frame d ws done frame right p index new f fits known len fine = of p.target fits.target fine
  where
    of : (t : PartTarget) → TargetFits d ws p.width t → (part_assigned ws done p.width t).fine ≡ true → IsFrame ws (part_assigned ws done p.width t).after (written BX (target_of t index) new frame)
    of (part.Bits x low) inside fine = bits_frame d ws done frame x low p.width new f known len fits.size.0 inside fine
    of (part.Index x least e) inside fine = index_frame ws done frame x (index_place least index) new f known fine
    of (part.Word memory least e) inside fine = absurd (cc)

taken_length : (low width : ℕ) (xs : List Bit) → low + width ≤ length xs → length (take width (drop (length xs - (low + width)) xs)) ≡ width
taken_length low width xs h =
    let rest = length-drop (length xs - (low + width)) xs in
    length-take-le width (drop (length xs - (low + width)) xs) (omega arith)

-- the parts of a left side, from the left
pub parts_frame : (d : Netlist) (ws : List ℕ) (done : Assigned) (frame : Frame) (right : SizedExpr) (parts : List Part) (index : PartTarget → List Bit) (value : List Bit) → IsFrame ws done frame → All (PartFits d ws right) parts → AreKnown value → length value ≡ right.width → (parts_assigned ws parts done).fine ≡ true →
    IsFrame ws (parts_assigned ws parts done).after (assigned BX parts (map (λ (p : Part). index p.target) parts) value frame)
parts_frame d ws done frame right [] index value f fits known len fine = f
parts_frame d ws done frame right (p ∷ parts) index value f fits known len fine =
    let both = and_parts (part_assigned ws done p.width p.target).fine (parts_assigned ws parts (part_assigned ws done p.width p.target).after).fine fine in
    let here : PartFits d ws right p = All-head (PartFits d ws right) p parts fits in
    let size = bounded_size p.width here.size in
    let inside = here.inside in
    let fit : p.low + bounded p.width ≤ length value = omega arith in
    let new = select_bits BX p.low (bounded p.width) value in
    let new_length : length new ≡ p.width = ap length (selected_inside p.low (bounded p.width) value fit) ∙ taken_length p.low (bounded p.width) value fit ∙ size in
    let next = part_frame d ws done frame right p (index p.target) new f here (select_known p.low (bounded p.width) value fit known) new_length both.0 in
    parts_frame d ws (part_assigned ws done p.width p.target).after (written BX (target_of p.target (index p.target)) new frame) right parts index value next (All-tail (PartFits d ws right) p parts fits) known len both.1

-- what is assigned on both of two ways
pub after_left : (as_ bs : Assigned) (n : ℕ) → get_or (after_both as_ bs) n false ≡ true → get_or as_ n false ≡ true
after_left [] bs n h = absurd (cc)
after_left (a ∷ as_) [] n h = absurd (cc)
after_left (a ∷ as_) (b ∷ bs) zero h = (and_parts a b h).0
after_left (a ∷ as_) (b ∷ bs) (suc n) h = after_left as_ bs n h

pub after_right : (as_ bs : Assigned) (n : ℕ) → get_or (after_both as_ bs) n false ≡ true → get_or bs n false ≡ true
after_right [] bs n h = absurd (cc)
after_right (a ∷ as_) [] n h = absurd (cc)
after_right (a ∷ as_) (b ∷ bs) zero h = (and_parts a b h).1
after_right (a ∷ as_) (b ∷ bs) (suc n) h = after_right as_ bs n h

pub frame_left : (ws : List ℕ) (as_ bs : Assigned) (frame : Frame) → IsFrame ws as_ frame → IsFrame ws (after_both as_ bs) frame
frame_left ws as_ bs frame f = record { sizes = f.sizes; known = λ n is. f.known n (after_left as_ bs n is) }

pub frame_right : (ws : List ℕ) (as_ bs : Assigned) (frame : Frame) → IsFrame ws bs frame → IsFrame ws (after_both as_ bs) frame
frame_right ws as_ bs frame f = record { sizes = f.sizes; known = λ n is. f.known n (after_right as_ bs n is) }
