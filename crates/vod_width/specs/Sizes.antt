-- Sizes and signs (IEEE 1364-2005, 5.4 and 5.5): what an expression is by itself, and how it stands at a size and sign.
use Rattle.std.specs.Prelude.{ℕ, ◌+◌, ◌-◌, ◌*◌, min, max, nat_lt, nat_le, Bool, true, false, ◌&&◌, if◌then◌else◌, List, [], ◌∷◌, ◌++◌, drop, map, flat_map, sum, Option, None, Some}
use Rattle.std.specs.List.{list_all}
use Rattle.vod_bits.specs.Bit.{B0}
use Rattle.vod_bits.specs.Value.{all_known}
use Rattle.vod_bits.specs.declared.TheConstants.{WIDTH}
use Rattle.vod_tree.specs.declared.expr.Expr.{Expr}
use Rattle.vod_tree.specs.declared.expr.ExprKind.TheOpen.{ExprKind-F, Expr-F}
use Rattle.vod_tree.specs.declared.expr.ExprKind.TheFolds.{fold-Expr, fold-ExprKind}
use Rattle.vod_design.specs.declared.sized.NamedMemory.{NamedMemory}
use Rattle.vod_design.specs.declared.sized.Named.{Named}
use Rattle.vod_design.specs.declared.sized.SizedExpr.{SizedExpr}
use Rattle.vod_design.specs.declared.statement.Size.{Size}
use Rattle.vod_design.specs.declared.sized.Named.TheVariants as named
use Rattle.vod_design.specs.declared.sized.SizedKind.TheVariants as kind
use Rattle.vod_operand.specs.declared.fault.Fault.{Fault}
use Rattle.vod_operand.specs.declared.fault.Fault.TheVariants.{Rule, Open}
use Rattle.vod_operand.specs.Operands.{Looked, node, standing, own, is_sound, looked, value, natural, known_natural, number_where, unless, look_number, at_place}
use Rattle.vod_operand.specs.Operators.{look_unary, look_binary, look_conditional}
use Rattle.vod_width.specs.declared.decls.Declared.{Declared}
use Rattle.vod_width.specs.declared.decls.Sort.{Sort}
use Rattle.vod_width.specs.declared.decls.Vector.{Vector}
use Rattle.vod_width.specs.declared.decls.WordArray.{WordArray}
use Rattle.vod_width.specs.Names.{Declaration, declared}
use Rattle.vod_width.specs.declared.decls.Declared.TheVariants as stands
use Rattle.vod_width.specs.declared.decls.Sort.TheVariants as sorts

abbrev pub or_zero : Option ℕ → ℕ
or_zero None = 0
or_zero (Some n) = n

-- a name that isn't declared, or is used as what it isn't, is at fault
abbrev pub misused : ℕ → List Fault → Looked
misused place inner = looked 0 false false (Rule place ∷ inner) (λ w s. node w s (kind.Number (B0 ∷ [])))

abbrev pub is_constant : Named → Bool
is_constant (named.Variable x) = false
is_constant (named.Constant b) = true

-- what hangs on a name whose size, range or value couldn't be formed has the faults beside that name, and behind them that it is open
abbrev pub left_open : ℕ → Bool → List Fault → Looked
left_open width constant inner = looked width false constant (inner ++ Open ∷ []) (λ w s. node w s (kind.Number (B0 ∷ [])))

-- an open net is no constant; an open constant is one, of no size
abbrev pub open_name : ℕ → Sort → Looked
open_name place sorts.Net = left_open 0 false []
open_name place sorts.Constant = left_open 0 true []
open_name place sorts.Ram = misused place []
open_name place sorts.Function = misused place []

-- a name has the size and sign of its declaration
abbrev pub look_name : ℕ → Option Declared → Looked
look_name place (Some (stands.Vector v)) = looked v.width v.signed (is_constant v.name) [] (λ w s. node w s (kind.Name v.name))
look_name place (Some (stands.Ram m)) = misused place []
look_name place (Some (stands.Function f)) = misused place []
look_name place (Some (stands.Open sort)) = open_name place sort
look_name place None = misused place []

-- whether an index is inside the range of a vector; one without a range has nothing inside
abbrev pub in_vector : Vector → ℕ → Bool
in_vector v n = v.ranged && (nat_le v.lsb n && nat_lt (n - v.lsb) v.width)

abbrev pub in_ram : WordArray → ℕ → Bool
in_ram m n = nat_le m.low n && nat_le n m.high

-- a memory as expressions see it
abbrev pub memory : WordArray → NamedMemory
memory m = record { number = m.number; width = m.width }

-- whether an index is inside some range (A range's bounds are 0 to 65,535)
abbrev pub in_some_range : ℕ → Bool
in_some_range n = nat_le n 65535

-- an index that is constant is one for which a test holds
abbrev pub index_faults : (ℕ → Bool) → Looked → List Fault
index_faults test i = i.faults ++ (if i.constant then unless test i else [])

-- a bit of a vector has one bit, whatever its range is. An index that is inside no range is at fault, though the range is open
abbrev pub open_index : ℕ → Sort → Looked → Looked
open_index place sorts.Net i = left_open 1 false (index_faults in_some_range i)
open_index place sorts.Constant i = left_open 1 i.constant (index_faults in_some_range i)
open_index place sorts.Ram i = left_open 0 false (index_faults in_some_range i)
open_index place sorts.Function i = misused place i.faults

-- a select is unsigned and has the size selected; its index is self-determined, and a constant one is inside the range (5.2.1, 5.2.2)
abbrev pub look_index : ℕ → Option Declared → Looked → Looked
look_index place (Some (stands.Vector v)) i =
    looked 1 false (is_constant v.name && i.constant) (index_faults (in_vector v) i)
    (λ w s. node w s (if i.constant then kind.Select v.name (or_zero (natural i) - v.lsb) 1 else kind.Index v.name v.lsb (own i)))
look_index place (Some (stands.Ram m)) i =
    looked m.width false false (index_faults (in_ram m) i)
    (λ w s. node w s (if i.constant then kind.Word (memory m) (or_zero (natural i) - m.low) else kind.WordIndex (memory m) m.low (own i)))
look_index place (Some (stands.Function f)) i = misused place i.faults
look_index place (Some (stands.Open sort)) i = open_index place sort i
look_index place None i = misused place i.faults

-- how many bits a part select has, where its bounds are numbers inside the range and in order
abbrev pub selected : Option ℕ → Option ℕ → ℕ
selected None b = 0
selected (Some msb) None = 0
selected (Some msb) (Some lsb) = if nat_le lsb msb then msb - lsb + 1 else 0

-- whether two bounds are in the wrong order
abbrev pub in_wrong_order : Option ℕ → Option ℕ → Bool
in_wrong_order None b = false
in_wrong_order (Some msb) None = false
in_wrong_order (Some msb) (Some lsb) = nat_lt msb lsb

-- bounds are constants inside the range, the first not below the second; two in the wrong order are at fault at the first, whether or
-- not they are inside the range
abbrev pub range_faults : (ℕ → Bool) → Looked → Looked → List Fault
range_faults test a b =
    a.faults ++ unless test a ++ b.faults ++ unless test b ++ (if in_wrong_order (known_natural a) (known_natural b) then Rule a.place ∷ [] else [])

-- bits of an open name have no size: whether they are inside its range can't be said
abbrev pub open_range : ℕ → Sort → Looked → Looked → Looked
open_range place sorts.Net a b = left_open 0 false (range_faults in_some_range a b)
open_range place sorts.Constant a b = left_open 0 (a.constant && b.constant) (range_faults in_some_range a b)
open_range place sorts.Ram a b = misused place (a.faults ++ b.faults)
open_range place sorts.Function a b = misused place (a.faults ++ b.faults)

abbrev pub look_range : ℕ → Option Declared → Looked → Looked → Looked
look_range place (Some (stands.Vector v)) a b =
    let msb = number_where (in_vector v) a in
    let lsb = number_where (in_vector v) b in
    looked (selected msb lsb) false (is_constant v.name && (a.constant && b.constant)) (range_faults (in_vector v) a b)
    (λ w s. node w s (kind.Select v.name (or_zero lsb - v.lsb) (selected msb lsb)))
look_range place (Some (stands.Ram m)) a b = misused place (a.faults ++ b.faults)
look_range place (Some (stands.Function f)) a b = misused place (a.faults ++ b.faults)
look_range place (Some (stands.Open sort)) a b = open_range place sort a b
look_range place None a b = misused place (a.faults ++ b.faults)

-- an argument is assigned to its input: it takes the larger size of the two, and its own sign (5.4.1, 10.4.3)
abbrev pub input_width : List Size → ℕ
input_width [] = 0
input_width (input ∷ inputs) = input.width

abbrev pub sized_arguments : List Size → List Looked → List SizedExpr
sized_arguments inputs [] = []
sized_arguments inputs (a ∷ arguments) = a.sized (max (input_width inputs) a.width) a.signed ∷ sized_arguments (drop 1 inputs) arguments

abbrev pub open_call : ℕ → Sort → List Fault → Looked
open_call place sorts.Net inner = misused place inner
open_call place sorts.Constant inner = misused place inner
open_call place sorts.Ram inner = misused place inner
open_call place sorts.Function inner = left_open 0 false inner

-- a call has the function's size and sign
abbrev pub look_call : ℕ → Option Declared → List Looked → Looked
look_call place (Some (stands.Function f)) arguments =
    looked f.width f.signed false (flat_map (λ a. a.faults) arguments) (λ w s. node w s (kind.Call f.number (sized_arguments f.inputs arguments)))
look_call place (Some (stands.Vector v)) arguments = misused place (flat_map (λ a. a.faults) arguments)
look_call place (Some (stands.Ram m)) arguments = misused place (flat_map (λ a. a.faults) arguments)
look_call place (Some (stands.Open sort)) arguments = open_call place sort (flat_map (λ a. a.faults) arguments)
look_call place None arguments = misused place (flat_map (λ a. a.faults) arguments)

-- the size of a concatenation: the sum (5.4.1), and none where a part has none
abbrev pub have_sizes : List Looked → Bool
have_sizes parts = list_all (λ x. nat_lt 0 x.width) parts

abbrev pub total : List Looked → ℕ
total parts = if have_sizes parts then sum (map (λ x. x.width) parts) else 0

-- parts are self-determined, and the whole is unsigned (5.1.14, 5.5.1)
abbrev pub look_concat : List Looked → Looked
look_concat parts = looked (total parts) false (list_all (λ x. x.constant) parts) (flat_map (λ x. x.faults) parts) (λ w s. node w s (kind.Concat (map own parts)))

-- the count is a constant of at least 1; one past WIDTH has too many bits. What its count reads, the whole reads. The concatenation
-- inside it has the place of the whole
abbrev pub look_replicate : ℕ → Looked → List Looked → Looked
look_replicate place c parts =
    let count = or_zero (number_where (nat_lt 0) c) in
    looked (count * total parts) false (c.constant && list_all (λ x. x.constant) parts) (c.faults ++ unless (nat_lt 0) c ++ flat_map (λ x. x.faults) parts)
    (λ w s. node w s (kind.Replicate (min count WIDTH) (standing place (node (total parts) false (kind.Concat (map own parts))))))

-- each alternative at a place, with what its parts are in their places
abbrev pub look_kind : List Declaration → ExprKind-F (ℕ → Looked) Looked → ℕ → Looked
look_kind decls (ExprKind-F.Number n) place = look_number n
look_kind decls (ExprKind-F.Name name) place = look_name place (declared decls name.name)
look_kind decls (ExprKind-F.Index name i) place = look_index place (declared decls name.name) i
look_kind decls (ExprKind-F.Range name a b) place = look_range place (declared decls name.name) a b
look_kind decls (ExprKind-F.Call name arguments) place = look_call place (declared decls name.name) arguments
look_kind decls (ExprKind-F.Paren a) place = a
look_kind decls (ExprKind-F.Concat parts) place = look_concat parts
look_kind decls (ExprKind-F.Replicate count parts) place = look_replicate place count parts
look_kind decls (ExprKind-F.Unary op a) place = look_unary op a
look_kind decls (ExprKind-F.Binary op a b) place = look_binary op a b
look_kind decls (ExprKind-F.Conditional t a b) place = look_conditional t a b

abbrev pub look_whole : Expr-F (ℕ → Looked) Looked → Looked
look_whole e = at_place e.place (e.kind e.place)

-- what an expression is, where names stand for these
unfoldable pub look : List Declaration → Expr → Looked
look decls e = fold-Expr (ℕ → Looked) Looked (look_kind decls) look_whole e

-- what an expression is inside, apart from its own place and width
unfoldable pub inside : List Declaration → Expr → Looked
inside decls e = fold-ExprKind (ℕ → Looked) Looked (look_kind decls) look_whole e.kind e.place

-- the expression as it is evaluated in a context: at its own size or the context's, whichever is larger (5.4.1)
abbrev pub in_context : ℕ → Looked → SizedExpr
in_context context x = x.sized (max context x.width) x.signed

-- whether it is a constant with a known value, as far as nothing in it is at fault
abbrev pub has_value : Looked → Bool
has_value x = x.constant && (if is_sound x then all_known (value x) else true)

-- an expression that has to be constant and isn't is at fault at its first token
abbrev pub constant_faults : Looked → List Fault
constant_faults x = x.faults ++ (if has_value x then [] else Rule x.place ∷ [])
