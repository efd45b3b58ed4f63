-- Where all that an expression reads is known and there, its value is known.
use Rattle.std.proofs.Common.{arith, ◌≡◌, ◌≤◌, ◌<◌, ℕ, suc, ◌+◌, ◌-◌, ◌*◌, ◌^◌, ◌&&◌, nat_le, Bool, true, false, if◌then◌else◌, List, [], ◌∷◌, ◌++◌, length, map, flat_map, refl, ap, sym, ◌∙◌, subst, All, Some, None, pow-suc, length-append}
use Rattle.std.proofs.lemmas.Bool.{le-leb}
use Rattle.std.proofs.lemmas.List.Elements.{All-head, All-tail, All-cons}
use Rattle.vod_bits.specs.Bit.{Bit, BX, is_1, not_bit}
use Rattle.vod_bits.specs.Value.{number_of, all_known}
use Rattle.vod_bits.specs.Lengths.{resize_length}
use Rattle.vod_four.specs.Four.{truth_bit}
use Rattle.vod_design.specs.declared.read.Read.{Read}
use Rattle.vod_design.specs.declared.read.Read.TheVariants.{Whole, Bits, Word, Ram}
use Rattle.vod_design.specs.declared.sized.Named.{Named}
use Rattle.vod_design.specs.declared.sized.Named.TheVariants as named
use Rattle.vod_design.specs.declared.sized.SizedExpr.{SizedExpr}
use Rattle.vod_design.specs.declared.sized.SizedKind.{SizedKind}
use Rattle.vod_design.specs.declared.sized.SizedKind.TheOpen.{SizedKind-F, SizedExpr-F}
use Rattle.vod_design.specs.declared.sized.SizedKind.TheFolds.{fold-SizedKind, fold-roll-SizedKind, fold-roll-SizedExpr, fold_out-SizedExpr, map-SizedKind, map-SizedExpr, ind-SizedExpr}
use Rattle.vod_design.specs.declared.sized.SizedKind.TheViews.{roll-SizedKind, roll-SizedExpr}
use Rattle.vod_design.specs.declared.sized.Variable.TheVariants as variable
use Rattle.vod_design.specs.Eval.{Calls, kind_bits, sized_operand, operand_of, compared, logical_bit, reduction_bit, gate_bit}
use Rattle.vod_design.specs.Reads.{whole, bits, kind_reads, reads}
use Rattle.vod_design.specs.Uses.{Use, Whole as WholeUse, Bits as BitsUse, BitAt, Word as WordUse, WordAt, Called, Inputs, Seen, kind_uses, expr_seen, seen, uses, all_uses}
use Rattle.vod_design.specs.Values.{Values, Frame, Operand, bounded, at_size, value_at, select_bits, index_place, named_bits, bit_at_place, word_or_x, word_at}
use Rattle.vod_slot.specs.Known.{AreKnown, name_constants, kind_constants, constants}
use Rattle.vod_slot.proofs.Lists.{all_none, all_front, all_back}
use Rattle.vod_slot.proofs.KnownBits.{not_known, known_one, known_append, size_known, select_known, unary_known, binary_known, compared_known, truth_known, logical_known, reduction_known, shift_known, choose_known, repeated_known, gate_known}

-- what is read is known, and what is used is there

abbrev pub ReadKnown : Values → Read → Type 0
ReadKnown values (Whole n) = AreKnown (values.signal n)
ReadKnown values (Bits n low width) = AreKnown (select_bits BX low (bounded width) (values.signal n))
ReadKnown values (Word memory place) = (w : List Bit) → values.word memory place ≡ Some w → AreKnown w
ReadKnown values (Ram memory) = (place : ℕ) (w : List Bit) → values.word memory place ≡ Some w → AreKnown w

abbrev pub NameKnown : Frame → Named → Type 0
NameKnown frame (named.Variable (variable.Signal n)) = Unit {0}
NameKnown frame (named.Variable (variable.Local n)) = AreKnown (value_at BX frame n)
NameKnown frame (named.Constant bits) = Unit {0}

abbrev pub UseOk : Calls → Values → Frame → Use → Type 0
UseOk calls values frame (WholeUse name) = NameKnown frame name
UseOk calls values frame (BitsUse name low width) = NameKnown frame name × (low + bounded width ≤ length (named_bits BX values frame name))
UseOk calls values frame (BitAt name least index) = NameKnown frame name × ((least ≡ 0) × (2 ^ bounded index.width ≤ length (named_bits BX values frame name)))
UseOk calls values frame (WordUse memory place) = (w : List Bit) × (values.word memory.number place ≡ Some w)
UseOk calls values frame (WordAt memory least index) = (least ≡ 0) × ((place : ℕ) → place < 2 ^ bounded index.width → (w : List Bit) × (values.word memory.number place ≡ Some w))
UseOk calls values frame (Called n count) = (arguments : List Operand) → length arguments ≡ count → All (λ (a : Operand). AreKnown a.bits) arguments → AreKnown (calls n arguments)
UseOk calls values frame (Inputs op count) = 1 ≤ count

-- an index whose value is known is inside

digit_most : (b : Bool) → (if b then 1 else 0) ≤ 1
digit_most true = omega arith
digit_most false = omega arith

digit_times : (b : Bool) (n : ℕ) → (if b then 1 else 0) * n ≤ n
digit_times true n = omega arith
digit_times false n = omega arith

number_below : (xs : List Bit) → number_of xs < 2 ^ length xs
unfolding number_of
number_below [] = omega arith
number_below (x ∷ xs) =
    let rest = number_below xs in
    let here = digit_times (is_1 x) (2 ^ length xs) in
    let twice : 2 ^ suc (length xs) ≡ 2 ^ length xs * 2 = pow-suc 2 (length xs) in
    omega arith

from_least : (known : Bool) (n : ℕ) → known ≡ true → (if known && nat_le 0 n then Some (n - 0) else None) ≡ Some n
from_least true n h = let none : n - 0 ≡ n = omega arith in rw (le-leb 0 n (omega arith)) (ap Some none)
from_least false n h = absurd (cc)

at_known : (least : ℕ) (index : List Bit) → least ≡ 0 → AreKnown index → index_place least index ≡ Some (number_of index)
at_known least index is h = ap (λ l. index_place l index) is ∙ from_least (all_known index) (number_of index) h

index_known : (names index : List Bit) (least width : ℕ) → least ≡ 0 → length index ≡ width → 2 ^ width ≤ length names → AreKnown index → AreKnown names → AreKnown (bit_at_place BX names (index_place least index))
index_known names index least width is size inside h k =
    let below = number_below index in
    let same : 2 ^ length index ≡ 2 ^ width = ap (λ n. 2 ^ n) size in
    subst (λ o. AreKnown (bit_at_place BX names o)) (sym (at_known least index is h)) (select_known (number_of index) 1 names (omega arith) k)

word_known : (values : Values) (number : ℕ) (index : List Bit) (least width size : ℕ) → least ≡ 0 → length index ≡ width → ((place : ℕ) → place < 2 ^ width → (w : List Bit) × (values.word number place ≡ Some w)) → ((place : ℕ) (w : List Bit) → values.word number place ≡ Some w → AreKnown w) → AreKnown index →
    AreKnown (word_or_x BX size (word_at values number (index_place least index)))
word_known values number index least width size is len there known h =
    let below = number_below index in
    let same : 2 ^ length index ≡ 2 ^ width = ap (λ n. 2 ^ n) len in
    let p = there (number_of index) (omega arith) in
    subst (λ o. AreKnown (word_or_x BX size (word_at values number o))) (sym (at_known least index is h)) (subst (λ o. AreKnown (word_or_x BX size o)) (sym p.1) (known (number_of index) p.0 p.1))

-- expressions

abbrev Constants : Type 0
Constants = List (List Bit)

abbrev kind_reads_of : SizedKind → List Read
kind_reads_of k = fold-SizedKind (List Read) (List Read) kind_reads (λ e. e.kind) k

abbrev kind_uses_of : SizedKind → List Use
kind_uses_of k = fold-SizedKind (List Use) Seen kind_uses expr_seen k

abbrev kind_constants_of : SizedKind → Constants
kind_constants_of k = fold-SizedKind Constants Constants kind_constants (λ e. e.kind) k

abbrev kind_value : Calls → Values → Frame → SizedKind → ℕ → Bool → List Bit
kind_value calls values frame k = fold-SizedKind (ℕ → Bool → List Bit) Operand (kind_bits BX calls values frame) sized_operand k

abbrev KindKnown : Calls → Values → Frame → SizedKind → Type 0
KindKnown calls values frame k = (w : ℕ) (s : Bool) → All (ReadKnown values) (kind_reads_of k) → All (UseOk calls values frame) (kind_uses_of k) → All AreKnown (kind_constants_of k) → AreKnown (kind_value calls values frame k w s)

abbrev ExprKnown : Calls → Values → Frame → SizedExpr → Type 0
ExprKnown calls values frame e = All (ReadKnown values) (reads e) → All (UseOk calls values frame) (uses e) → All AreKnown (constants e) → AreKnown (operand_of BX calls values frame e).bits

abbrev With : Calls → Values → Frame → Type 0
With calls values frame = (e : SizedExpr) × ExprKnown calls values frame e

abbrev WithKind : Calls → Values → Frame → Type 0
WithKind calls values frame = (k : SizedKind) × KindKnown calls values frame k

abbrev Layer : Type 0
Layer = SizedKind-F SizedKind SizedExpr

abbrev Proved : Calls → Values → Frame → Type 0
Proved calls values frame = SizedKind-F (WithKind calls values frame) (With calls values frame)

abbrev bare : (calls : Calls) (values : Values) (frame : Frame) → Proved calls values frame → Layer
bare calls values frame y = map-SizedKind (WithKind calls values frame) (With calls values frame) SizedKind SizedExpr (λ k. k.0) (λ e. e.0) y

abbrev layer_reads : Layer → List Read
layer_reads x = kind_reads (map-SizedKind SizedKind SizedExpr (List Read) (List Read) kind_reads_of reads x)

abbrev layer_uses : Layer → List Use
layer_uses x = kind_uses (map-SizedKind SizedKind SizedExpr (List Use) Seen kind_uses_of seen x)

abbrev layer_constants : Layer → Constants
layer_constants x = kind_constants (map-SizedKind SizedKind SizedExpr Constants Constants kind_constants_of constants x)

abbrev layer_value : Calls → Values → Frame → Layer → ℕ → Bool → List Bit
layer_value calls values frame x = kind_bits BX calls values frame (map-SizedKind SizedKind SizedExpr (ℕ → Bool → List Bit) Operand (kind_value calls values frame) (operand_of BX calls values frame) x)

size_of : (e : SizedExpr) → (seen e).size.width ≡ e.width
unfolding seen
size_of e = ap (λ (s : Seen). s.size.width) (fold_out-SizedExpr (List Use) Seen kind_uses expr_seen e)

pub at_size_length : (width : ℕ) (signed : Bool) (xs : List Bit) → length (at_size width signed xs) ≡ bounded width
unfolding at_size
at_size_length width signed xs = resize_length (bounded width) signed xs

pub operand_length : (fill : Bit) (calls : Calls) (values : Values) (frame : Frame) (e : SizedExpr) → length (operand_of fill calls values frame e).bits ≡ bounded e.width
unfolding operand_of
operand_length fill calls values frame e =
    ap (λ (o : Operand). length o.bits) (fold_out-SizedExpr (ℕ → Bool → List Bit) Operand (kind_bits fill calls values frame) sized_operand e)
    ∙ at_size_length e.width e.signed (fold-SizedKind (ℕ → Bool → List Bit) Operand (kind_bits fill calls values frame) sized_operand e.kind e.width e.signed)

index_length : (calls : Calls) (values : Values) (frame : Frame) (e : SizedExpr) → length (operand_of BX calls values frame e).bits ≡ bounded (seen e).size.width
index_length calls values frame e = operand_length BX calls values frame e ∙ ap bounded (sym (size_of e))

name_known : (values : Values) (frame : Frame) (n : Named) → All (ReadKnown values) (whole n) → NameKnown frame n → All AreKnown (name_constants n) → AreKnown (named_bits BX values frame n)
name_known values frame (named.Variable (variable.Signal n)) r u c = All-head (ReadKnown values) (Whole n) [] r
name_known values frame (named.Variable (variable.Local n)) r u c = u
name_known values frame (named.Constant b) r u c = All-head AreKnown b [] c

selection_known : (values : Values) (frame : Frame) (n : Named) (low width : ℕ) → All (ReadKnown values) (bits n low width) → NameKnown frame n → low + bounded width ≤ length (named_bits BX values frame n) → All AreKnown (name_constants n) → AreKnown (select_bits BX low (bounded width) (named_bits BX values frame n))
selection_known values frame (named.Variable (variable.Signal n)) low width r u inside c = All-head (ReadKnown values) (Bits n low width) [] r
selection_known values frame (named.Variable (variable.Local n)) low width r u inside c = select_known low (bounded width) (value_at BX frame n) inside u
selection_known values frame (named.Constant b) low width r u inside c = select_known low (bounded width) b inside (All-head AreKnown b [] c)

abbrev OperandKnown : Operand → Type 0
OperandKnown o = AreKnown o.bits

each_known : (calls : Calls) (values : Values) (frame : Frame) (es : List (With calls values frame)) → All (ReadKnown values) (flat_map (λ part. part) (map reads (map (λ e. e.0) es))) → All (UseOk calls values frame) (all_uses (map seen (map (λ e. e.0) es))) → All AreKnown (flat_map (λ part. part) (map constants (map (λ e. e.0) es))) →
    All OperandKnown (map (operand_of BX calls values frame) (map (λ e. e.0) es))
each_known calls values frame [] r u c = all_none OperandKnown
each_known calls values frame (e ∷ es) r u c =
    let rs = flat_map (λ part. part) (map reads (map (λ x. x.0) es)) in
    let us = all_uses (map seen (map (λ x. x.0) es)) in
    let cs = flat_map (λ part. part) (map constants (map (λ x. x.0) es)) in
    All-cons OperandKnown (operand_of BX calls values frame e.0) (map (operand_of BX calls values frame) (map (λ x. x.0) es))
    (e.1 (all_front (ReadKnown values) (reads e.0) rs r) (all_front (UseOk calls values frame) (uses e.0) us u) (all_front AreKnown (constants e.0) cs c))
    (each_known calls values frame es (all_back (ReadKnown values) (reads e.0) rs r) (all_back (UseOk calls values frame) (uses e.0) us u) (all_back AreKnown (constants e.0) cs c))

joined_known : (os : List Operand) → All OperandKnown os → AreKnown (flat_map (λ (o : Operand). o.bits) os)
joined_known [] h = refl
joined_known (o ∷ os) h = known_append o.bits (flat_map (λ (p : Operand). p.bits) os) (All-head OperandKnown o os h) (joined_known os (All-tail OperandKnown o os h))

inputs_known : (os : List Operand) → All OperandKnown os → AreKnown (flat_map (λ (o : Operand). at_size 1 false o.bits) os)
inputs_known [] h = refl
inputs_known (o ∷ os) h = known_append (at_size 1 false o.bits) (flat_map (λ (p : Operand). at_size 1 false p.bits) os) (size_known 1 false o.bits (All-head OperandKnown o os h)) (inputs_known os (All-tail OperandKnown o os h))

some_input : (calls : Calls) (values : Values) (frame : Frame) (es : List (With calls values frame)) → 1 ≤ length (map seen (map (λ e. e.0) es)) → 1 ≤ length (flat_map (λ (o : Operand). at_size 1 false o.bits) (map (operand_of BX calls values frame) (map (λ e. e.0) es)))
some_input calls values frame [] h = absurd (omega arith)
some_input calls values frame (e ∷ es) h =
    let first = at_size 1 false (operand_of BX calls values frame e.0).bits in
    let rest = flat_map (λ (o : Operand). at_size 1 false o.bits) (map (operand_of BX calls values frame) (map (λ x. x.0) es)) in
    let one : length first ≡ bounded 1 = at_size_length 1 false (operand_of BX calls values frame e.0).bits in
    let both : length (first ++ rest) ≡ length first + length rest = length-append first rest in
    omega arith

same_count : (calls : Calls) (values : Values) (frame : Frame) (es : List (With calls values frame)) → length (map (operand_of BX calls values frame) (map (λ e. e.0) es)) ≡ length (map seen (map (λ e. e.0) es))
same_count calls values frame [] = refl
same_count calls values frame (e ∷ es) = let more = same_count calls values frame es in omega arith

two : (calls : Calls) (values : Values) (frame : Frame) (a b : With calls values frame) → All (ReadKnown values) (reads a.0 ++ reads b.0) → All (UseOk calls values frame) (uses a.0 ++ uses b.0) → All AreKnown (constants a.0 ++ constants b.0) → OperandKnown (operand_of BX calls values frame a.0) × OperandKnown (operand_of BX calls values frame b.0)
two calls values frame a b r u c = (
  a.1 (all_front (ReadKnown values) (reads a.0) (reads b.0) r) (all_front (UseOk calls values frame) (uses a.0) (uses b.0) u) (all_front AreKnown (constants a.0) (constants b.0) c),
  b.1 (all_back (ReadKnown values) (reads a.0) (reads b.0) r) (all_back (UseOk calls values frame) (uses a.0) (uses b.0) u) (all_back AreKnown (constants a.0) (constants b.0) c),
)

layer_known : (calls : Calls) (values : Values) (frame : Frame) (y : Proved calls values frame) (w : ℕ) (s : Bool) → All (ReadKnown values) (layer_reads (bare calls values frame y)) → All (UseOk calls values frame) (layer_uses (bare calls values frame y)) → All AreKnown (layer_constants (bare calls values frame y)) →
    AreKnown (layer_value calls values frame (bare calls values frame y) w s)
layer_known calls values frame (SizedKind-F.Number b) w s r u c = All-head AreKnown b [] c
layer_known calls values frame (SizedKind-F.Name n) w s r u c = name_known values frame n r (All-head (UseOk calls values frame) (WholeUse n) [] u) c
layer_known calls values frame (SizedKind-F.Select n low count) w s r u c = let own = All-head (UseOk calls values frame) (BitsUse n low count) [] u in selection_known values frame n low count r own.0 own.1 c
layer_known calls values frame (SizedKind-F.Index n least e) w s r u c =
    let here = BitAt n least (seen e.0).size in
    let own = All-head (UseOk calls values frame) here [] (all_back (UseOk calls values frame) (uses e.0) (here ∷ []) u) in
    let index = e.1 (all_back (ReadKnown values) (whole n) (reads e.0) r) (all_front (UseOk calls values frame) (uses e.0) (here ∷ []) u) (all_back AreKnown (name_constants n) (constants e.0) c) in
    let names = name_known values frame n (all_front (ReadKnown values) (whole n) (reads e.0) r) own.0 (all_front AreKnown (name_constants n) (constants e.0) c) in
    index_known (named_bits BX values frame n) (operand_of BX calls values frame e.0).bits least (bounded (seen e.0).size.width) own.1.0 (index_length calls values frame e.0) own.1.1 index names
layer_known calls values frame (SizedKind-F.Word memory place) w s r u c =
    let own = All-head (UseOk calls values frame) (WordUse memory place) [] u in
    subst (λ o. AreKnown (word_or_x BX (bounded memory.width) o)) (sym own.1) (All-head (ReadKnown values) (Word memory.number place) [] r own.0 own.1)
layer_known calls values frame (SizedKind-F.WordIndex memory least e) w s r u c =
    let here = WordAt memory least (seen e.0).size in
    let own = All-head (UseOk calls values frame) here [] (all_back (UseOk calls values frame) (uses e.0) (here ∷ []) u) in
    let index = e.1 (All-tail (ReadKnown values) (Ram memory.number) (reads e.0) r) (all_front (UseOk calls values frame) (uses e.0) (here ∷ []) u) c in
    word_known values memory.number (operand_of BX calls values frame e.0).bits least (bounded (seen e.0).size.width) (bounded memory.width) own.0 (index_length calls values frame e.0) own.1 (All-head (ReadKnown values) (Ram memory.number) (reads e.0) r) index
layer_known calls values frame (SizedKind-F.Unary op a) w s r u c = unary_known op (at_size w s (operand_of BX calls values frame a.0).bits) (size_known w s (operand_of BX calls values frame a.0).bits (a.1 r u c))
layer_known calls values frame (SizedKind-F.Binary op a b) w s r u c =
    let p = two calls values frame a b r u c in
    binary_known op (at_size w s (operand_of BX calls values frame a.0).bits) (at_size w s (operand_of BX calls values frame b.0).bits) (size_known w s (operand_of BX calls values frame a.0).bits p.0) (size_known w s (operand_of BX calls values frame b.0).bits p.1)
layer_known calls values frame (SizedKind-F.Comparison op a b) w s r u c =
    let p = two calls values frame a b r u c in
    known_one (compared op (operand_of BX calls values frame a.0) (operand_of BX calls values frame b.0)) (compared_known op (operand_of BX calls values frame a.0) (operand_of BX calls values frame b.0) p.0 p.1)
layer_known calls values frame (SizedKind-F.LogicalNot a) w s r u c =
    let t = truth_bit (operand_of BX calls values frame a.0).bits in
    known_one (not_bit t) (not_known t (truth_known (operand_of BX calls values frame a.0).bits (a.1 r u c)))
layer_known calls values frame (SizedKind-F.Logical op a b) w s r u c =
    let p = two calls values frame a b r u c in
    let v = truth_bit (operand_of BX calls values frame a.0).bits in
    let t = truth_bit (operand_of BX calls values frame b.0).bits in
    known_one (logical_bit op v t) (logical_known op v t (truth_known (operand_of BX calls values frame a.0).bits p.0) (truth_known (operand_of BX calls values frame b.0).bits p.1))
layer_known calls values frame (SizedKind-F.Reduction op a) w s r u c = known_one (reduction_bit op (operand_of BX calls values frame a.0).bits) (reduction_known op (operand_of BX calls values frame a.0).bits (a.1 r u c))
layer_known calls values frame (SizedKind-F.Shift op a b) w s r u c =
    let p = two calls values frame a b r u c in
    shift_known op s (operand_of BX calls values frame b.0).bits (at_size w s (operand_of BX calls values frame a.0).bits) p.1 (size_known w s (operand_of BX calls values frame a.0).bits p.0)
layer_known calls values frame (SizedKind-F.Conditional t a b) w s r u c =
    let r1 = all_front (ReadKnown values) (reads t.0 ++ reads a.0) (reads b.0) r in
    let u1 = all_front (UseOk calls values frame) (uses t.0 ++ uses a.0) (uses b.0) u in
    let c1 = all_front AreKnown (constants t.0 ++ constants a.0) (constants b.0) c in
    let p = two calls values frame t a r1 u1 c1 in
    let q = b.1 (all_back (ReadKnown values) (reads t.0 ++ reads a.0) (reads b.0) r) (all_back (UseOk calls values frame) (uses t.0 ++ uses a.0) (uses b.0) u) (all_back AreKnown (constants t.0 ++ constants a.0) (constants b.0) c) in
    choose_known (truth_bit (operand_of BX calls values frame t.0).bits) (at_size w s (operand_of BX calls values frame a.0).bits) (at_size w s (operand_of BX calls values frame b.0).bits)
    (truth_known (operand_of BX calls values frame t.0).bits p.0) (size_known w s (operand_of BX calls values frame a.0).bits p.1) (size_known w s (operand_of BX calls values frame b.0).bits q)
layer_known calls values frame (SizedKind-F.Concat parts) w s r u c = joined_known (map (operand_of BX calls values frame) (map (λ e. e.0) parts)) (each_known calls values frame parts r u c)
layer_known calls values frame (SizedKind-F.Replicate count a) w s r u c = repeated_known count (operand_of BX calls values frame a.0).bits (a.1 r u c)
layer_known calls values frame (SizedKind-F.Call n arguments) w s r u c =
    let here = Called n (length (map seen (map (λ e. e.0) arguments))) in
    let us = all_uses (map seen (map (λ e. e.0) arguments)) in
    All-head (UseOk calls values frame) here [] (all_back (UseOk calls values frame) us (here ∷ []) u) (map (operand_of BX calls values frame) (map (λ e. e.0) arguments)) (same_count calls values frame arguments) (each_known calls values frame arguments r (all_front (UseOk calls values frame) us (here ∷ []) u) c)
layer_known calls values frame (SizedKind-F.Gate op inputs) w s r u c =
    let here = Inputs op (length (map seen (map (λ e. e.0) inputs))) in
    let us = all_uses (map seen (map (λ e. e.0) inputs)) in
    let some = All-head (UseOk calls values frame) here [] (all_back (UseOk calls values frame) us (here ∷ []) u) in
    let os = map (operand_of BX calls values frame) (map (λ e. e.0) inputs) in
    let xs = flat_map (λ (o : Operand). at_size 1 false o.bits) os in
    known_one (gate_bit BX op xs) (gate_known op xs (some_input calls values frame inputs some) (inputs_known os (each_known calls values frame inputs r (all_front (UseOk calls values frame) us (here ∷ []) u) c)))

rolled : (calls : Calls) (values : Values) (frame : Frame) (y : Proved calls values frame) → KindKnown calls values frame (roll-SizedKind (bare calls values frame y))
unfolding reads seen constants operand_of
rolled calls values frame y w s r u c =
    let x = bare calls values frame y in
    let rs = subst (All (ReadKnown values)) (fold-roll-SizedKind (List Read) (List Read) kind_reads (λ e. e.kind) x) r in
    let us = subst (All (UseOk calls values frame)) (fold-roll-SizedKind (List Use) Seen kind_uses expr_seen x) u in
    let cs = subst (All AreKnown) (fold-roll-SizedKind Constants Constants kind_constants (λ e. e.kind) x) c in
    subst (λ (f : ℕ → Bool → List Bit). AreKnown (f w s)) (sym (fold-roll-SizedKind (ℕ → Bool → List Bit) Operand (kind_bits BX calls values frame) sized_operand x)) (layer_known calls values frame y w s rs us cs)

abbrev bare_expr : (calls : Calls) (values : Values) (frame : Frame) → SizedExpr-F (WithKind calls values frame) (With calls values frame) → SizedExpr-F SizedKind SizedExpr
bare_expr calls values frame y = map-SizedExpr (WithKind calls values frame) (With calls values frame) SizedKind SizedExpr (λ k. k.0) (λ e. e.0) y

sized : (calls : Calls) (values : Values) (frame : Frame) (y : SizedExpr-F (WithKind calls values frame) (With calls values frame)) → ExprKnown calls values frame (roll-SizedExpr (bare_expr calls values frame y))
unfolding reads seen constants operand_of
sized calls values frame y r u c =
    let x = bare_expr calls values frame y in
    let rs = subst (All (ReadKnown values)) (fold-roll-SizedExpr (List Read) (List Read) kind_reads (λ e. e.kind) x) r in
    let us = subst (λ (t : Seen). All (UseOk calls values frame) t.uses) (fold-roll-SizedExpr (List Use) Seen kind_uses expr_seen x) u in
    let cs = subst (All AreKnown) (fold-roll-SizedExpr Constants Constants kind_constants (λ e. e.kind) x) c in
    subst (λ (o : Operand). AreKnown o.bits) (sym (fold-roll-SizedExpr (ℕ → Bool → List Bit) Operand (kind_bits BX calls values frame) sized_operand x))
    (size_known y.width y.signed (kind_value calls values frame x.kind y.width y.signed) (y.kind.1 y.width y.signed rs us cs))

pub expr_known : (calls : Calls) (values : Values) (frame : Frame) (e : SizedExpr) → ExprKnown calls values frame e
expr_known calls values frame =
    ind-SizedExpr (KindKnown calls values frame) (ExprKnown calls values frame)
    (λ x y is. let P : Layer → Type 0 = λ z. KindKnown calls values frame (roll-SizedKind z) in subst P is (rolled calls values frame y))
    (λ x y is. let P : SizedExpr-F SizedKind SizedExpr → Type 0 = λ z. ExprKnown calls values frame (roll-SizedExpr z) in subst P is (sized calls values frame y))
