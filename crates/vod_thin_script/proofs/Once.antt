-- A script has one list of vectors: names, assignments, lines and their lists have one reading each.
use Rattle.std.proofs.Common.{lit≤, ◌≡◌, ◌≢◌, ℕ, ◌<◌, ◌≤◌, arith, List, [], ◌∷◌, ◌++◌, length, get_or, refl, sym, ap, ◌∙◌, subst, true, false, not, ◌==◌, ◌&&◌, ◌||◌, Bool, IsTrue, inl, inr, append_assoc, append-nil}
use Rattle.std.proofs.lemmas.Bool.{cases_order, cases_lt}
use Rattle.std.proofs.lemmas.List.{get_or_past, length-map, get_or-map}
use Rattle.std.proofs.lemmas.List.Concat.{flat_map-append}
use Rattle.std.proofs.lemmas.List.Elements.{All-head, All-tail, Contains-get_or}
use Rattle.std.proofs.lemmas.List.Sorted.{IsPermutation-sym, IsPermutation-trans, All-permutation}
use Rattle.std.specs.List.{flat_map, All, AllPairs, Contains}
use Rattle.std.specs.List.Sorted.{IsPermutation}
use Rattle.std.specs.Str.Parse.{AllDigits, digits_value}
use Rattle.std.specs.Char.{digit_value}
use Rattle.vod_thin_design.specs.declared.thin.Bit.{Bit}
use Rattle.vod_thin_design.specs.declared.thin.Bit.TheVariants as bit
use Rattle.vod_thin_design.specs.declared.thin.Move.{Move}
use Rattle.vod_thin_design.specs.declared.thin.Vector.{Vector}
use Rattle.vod_thin_design.specs.Netlist.{Netlist}
use Rattle.vod_thin_design.specs.Vectors.{IsVector, assigned}
use Rattle.vod_thin_design.specs.Names.{input_names, is_plain, HasPlainNames}
use Rattle.vod_thin_script.specs.Pieces.{Lacks, StopsAt}
use Rattle.vod_thin_script.specs.Script.{IsLine, AreLines, IsScript, digit_of, assignment_text}
use Rattle.vod_thin_script.specs.Reading.{IsMove, Assigns, IsValue}
use Rattle.vod_thin_script.proofs.Cuts.{cut_once, Lacks-append}
use Rattle.vod_thin_script.proofs.Names.{names_size}
use Rattle.vod_thin_script.proofs.Order.{rising_once}

-- different elements that are equal have one place
pub place_once : (names : List (List ℕ)) → AllPairs (λ a b. a ≢ b) names → (i j : ℕ) (d : List ℕ) → i < length names → j < length names → get_or names i d ≡ get_or names j d → i ≡ j
place_once names differ i j d li lj e =
    elim (cases_order i j) [
      | inl same ↦ same
      | inr apart ↦ elim apart [ inl lt ↦ absurd (differ i j d lt lj e) | inr gt ↦ absurd (differ j i d gt li (sym e)) ]
    ]

-- a digit is of one bit
pub digit_once : (a b : Bit) → digit_of a ≡ digit_of b → a ≡ b
digit_once bit.Zero bit.Zero e = refl
digit_once bit.Zero bit.One e = absurd (omega arith)
digit_once bit.Zero bit.X e = absurd (omega arith)
digit_once bit.Zero bit.Z e = absurd (omega arith)
digit_once bit.One bit.Zero e = absurd (omega arith)
digit_once bit.One bit.One e = refl
digit_once bit.One bit.X e = absurd (omega arith)
digit_once bit.One bit.Z e = absurd (omega arith)
digit_once bit.X bit.Zero e = absurd (omega arith)
digit_once bit.X bit.One e = absurd (omega arith)
digit_once bit.X bit.X e = refl
digit_once bit.X bit.Z e = absurd (omega arith)
digit_once bit.Z bit.Zero e = absurd (omega arith)
digit_once bit.Z bit.One e = absurd (omega arith)
digit_once bit.Z bit.X e = absurd (omega arith)
digit_once bit.Z bit.Z e = refl

pub digit-no_line_end : (a : Bit) → digit_of a ≢ 10
digit-no_line_end bit.Zero e = absurd (omega arith)
digit-no_line_end bit.One e = absurd (omega arith)
digit-no_line_end bit.X e = absurd (omega arith)
digit-no_line_end bit.Z e = absurd (omega arith)

pub digit-no_space : (a : Bit) → digit_of a ≢ 32
digit-no_space bit.Zero e = absurd (omega arith)
digit-no_space bit.One e = absurd (omega arith)
digit-no_space bit.X e = absurd (omega arith)
digit-no_space bit.Z e = absurd (omega arith)

-- a plain name has no `=`, no space and no LF
pub and_both : (a b : Bool) → IsTrue (a && b) → IsTrue a × IsTrue b
and_both true b h = (refl, h)
and_both false b h = cc

plain_byte : (c : ℕ) → IsTrue (not (c == 61 || c == 32 || c == 10)) → (c ≢ 61) × (c ≢ 32) × (c ≢ 10)
plain_byte c h =
    let P : ℕ → Type 0 = λ n. IsTrue (not (n == 61 || n == 32 || n == 10)) in
    ((λ e. let k : P 61 = subst P e h in cc), (λ e. let k : P 32 = subst P e h in cc), (λ e. let k : P 10 = subst P e h in cc))

plain_bytes : (name : List ℕ) → IsTrue (is_plain name) → Lacks 61 name × Lacks 32 name × Lacks 10 name
plain_bytes [] p = (tt, tt, tt)
plain_bytes (c ∷ cs) p =
    let both = and_both (not (c == 61 || c == 32 || c == 10)) (is_plain cs) p in
    let byte = plain_byte c both.0 in
    let rest = plain_bytes cs both.1 in
    ((byte.0, rest.0), (byte.1, rest.1), (byte.2, rest.2))

plain_names : (names : List (List ℕ)) → All (λ name. IsTrue (is_plain name)) names → (i : ℕ) → IsTrue (is_plain (get_or names i []))
plain_names names plain i =
    elim (cases_lt i (length names)) [
      | inl lt ↦ plain i [] lt
      | inr ge ↦ rw (get_or_past names i [] ge) refl
    ]

pub plain_name : (d : Netlist) → HasPlainNames d → (i : ℕ) → Lacks 61 (get_or (input_names d) i []) × Lacks 32 (get_or (input_names d) i []) × Lacks 10 (get_or (input_names d) i [])
plain_name d h i = plain_bytes (get_or (input_names d) i []) (plain_names (input_names d) h.plain i)

-- what follows the name of an assignment
names_len : (d : Netlist) → length (input_names d) ≡ length d.inputs
names_len d = names_size d

same_move : (m n : Move) → m.input ≡ n.input → m.value ≡ n.value → m ≡ n
same_move m n i v = same_fields m.input n.input m.value n.value i v
  where
    same_fields : (i j : ℕ) (x y : Bit) → i ≡ j → x ≡ y → (let a : Move = record { input = i; value = x } in let b : Move = record { input = j; value = y } in a ≡ b)
    same_fields i j x y e f = cc

-- an assignment is read from the front of a text in one way
pub move_once : (d : Netlist) → HasPlainNames d → (m n : Move) (t u : List ℕ) → m.input < length d.inputs → n.input < length d.inputs
    → assignment_text d m ++ t ≡ assignment_text d n ++ u → (m ≡ n) × (t ≡ u)
move_once d h m n t u lm ln e =
    let names : List (List ℕ) = input_names d in
    let size : length names ≡ length d.inputs = names_len d in
    let texts : get_or names m.input [] ++ 61 ∷ digit_of m.value ∷ t ≡ get_or names n.input [] ++ 61 ∷ digit_of n.value ∷ u = regroup (get_or names m.input []) (get_or names n.input []) (digit_of m.value) (digit_of n.value) t u e in
    let cut = cut_once 61 (get_or names m.input []) (get_or names n.input []) (61 ∷ digit_of m.value ∷ t) (61 ∷ digit_of n.value ∷ u) (plain_name d h m.input).0 (plain_name d h n.input).0 refl refl texts in
    let ends = cut.1 in
    let digits : digit_of m.value ≡ digit_of n.value = cc in
    let rests : t ≡ u = cc in
    let inputs : m.input ≡ n.input = place_once names h.differ m.input n.input [] (omega arith) (omega arith) cut.0 in
    (same_move m n inputs (digit_once m.value n.value digits), rests)
  where
    regroup : (x y : List ℕ) (a b : ℕ) (t u : List ℕ) → (32 ∷ (x ++ 61 ∷ a ∷ [])) ++ t ≡ (32 ∷ (y ++ 61 ∷ b ∷ [])) ++ u → x ++ 61 ∷ a ∷ t ≡ y ++ 61 ∷ b ∷ u
    regroup x y a b t u e =
        let tails : (x ++ 61 ∷ a ∷ []) ++ t ≡ (y ++ 61 ∷ b ∷ []) ++ u = cc in
        simp append_assoc at tails

-- the text of some assignments
abbrev pub moves_text : Netlist → List Move → List ℕ
moves_text d moves = flat_map (assignment_text d) moves

-- assignments are read from the front of a text in one way: those that are read are the first of all
pub moves_front : (d : Netlist) → HasPlainNames d → (done moves : List Move) (tail : List ℕ) → All (IsMove d) done → All (IsMove d) moves
    → moves_text d moves ≡ moves_text d done ++ tail → (left : List Move) × (moves ≡ done ++ left) × (moves_text d left ≡ tail) × All (IsMove d) left
moves_front d h [] moves tail good all e = (moves, refl, e, all)
moves_front d h (m ∷ done) [] tail good all e = cc
moves_front d h (m ∷ done) (n ∷ moves) tail good all e =
    let texts : assignment_text d n ++ moves_text d moves ≡ assignment_text d m ++ (moves_text d done ++ tail) = e ∙ append_assoc (assignment_text d m) (moves_text d done) tail in
    let first = move_once d h n m (moves_text d moves) (moves_text d done ++ tail) (All-head (IsMove d) n moves all).input (All-head (IsMove d) m done good).input texts in
    let rest = moves_front d h done moves tail (All-tail (IsMove d) m done good) (All-tail (IsMove d) n moves all) first.1 in
    let heads : n ≡ m = first.0 in
    let tails : moves ≡ done ++ rest.0 = rest.1 in
    (rest.0, cc, rest.2, rest.3)

-- what the digits of a time lack
digits_lack : (b : ℕ) → 10 ≤ digit_value b → (text : List ℕ) → AllDigits 10 text → Lacks b text
digits_lack b above [] h = tt
digits_lack b above (c ∷ cs) h = ((λ e. let P : ℕ → Type 0 = λ n. digit_value n < 10 in let k : digit_value b < 10 = subst P e h.0 in omega arith), digits_lack b above cs h.1)

-- the assignments of a line are empty, or begin with a space
pub moves_text-spaced : (d : Netlist) (moves : List Move) → StopsAt 32 (moves_text d moves)
moves_text-spaced d [] = tt
moves_text-spaced d (m ∷ moves) = refl

-- the assignments of a vector in form
pub vector_moves : (d : Netlist) (v : Vector) → IsVector d v → All (IsMove d) v.moves
vector_moves d v form = λ k e lt. record { input = input k e lt; known = form.known k e lt }
  where
    input : (k : ℕ) (e : Move) → k < length v.moves → (get_or v.moves k e).input < length d.inputs
    input k e lt =
        let among : k < length (assigned v.moves) = simp length-map lt in
        let same : get_or (assigned v.moves) k 0 ≡ (get_or v.moves k e).input = get_or-map (λ (m : Move). m.input) v.moves k e 0 lt in
        subst (λ i. i < length d.inputs) same (form.inputs k 0 among)

-- and those of its line
pub line_moves : (d : Netlist) (line : List ℕ) (v : Vector) (l : IsLine d line v) → IsVector d v → All (IsMove d) l.moves
line_moves d line v l form = All-permutation (IsMove d) v.moves l.moves (IsPermutation-sym l.moves v.moves l.order) (vector_moves d v form)

-- no text but the empty one is of no assignment
pub moves_text-nil : (d : Netlist) (moves : List Move) → moves_text d moves ≡ [] → moves ≡ []
moves_text-nil d [] e = refl
moves_text-nil d (m ∷ moves) e = cc

-- a text is of one list of assignments
pub same_moves : (d : Netlist) → HasPlainNames d → (ms ns : List Move) → All (IsMove d) ms → All (IsMove d) ns → moves_text d ms ≡ moves_text d ns → ms ≡ ns
same_moves d h ms ns gm gn e =
    let texts : moves_text d ms ≡ moves_text d ns ++ [] = e ∙ sym (append-nil (moves_text d ns)) in
    let front = moves_front d h ns ms [] gn gm texts in
    let none : front.0 ≡ [] = moves_text-nil d front.0 front.2 in
    front.1 ∙ ap (λ left. ns ++ left) none ∙ append-nil ns

same_vector : (v w : Vector) → v.time ≡ w.time → v.moves ≡ w.moves → v ≡ w
same_vector v w t m = same_fields v.time w.time v.moves w.moves t m
  where
    same_fields : (s t : ℕ) (x y : List Move) → s ≡ t → x ≡ y → (let a : Vector = record { time = s; moves = x } in let b : Vector = record { time = t; moves = y } in a ≡ b)
    same_fields s t x y e f = cc

-- what a line is cut into at its first space
pub line_parts : (d : Netlist) (line : List ℕ) (v : Vector) → (l : IsLine d line v) → (time rest : List ℕ) → Lacks 32 time → StopsAt 32 rest → line ≡ time ++ rest
    → (l.time ≡ time) × (moves_text d l.moves ≡ rest)
line_parts d line v l time rest lacks stops e =
    cut_once 32 l.time time (moves_text d l.moves) rest (digits_lack 32 (lit≤ tt) l.time l.decimal.0.1) lacks (moves_text-spaced d l.moves) stops (sym l.text ∙ e)

-- a line is of one vector
pub line_once : (d : Netlist) → HasPlainNames d → (line : List ℕ) (v w : Vector) → IsVector d v → IsVector d w → IsLine d line v → IsLine d line w → v ≡ w
line_once d h line v w fv fw lv lw =
    let parts = line_parts d line v lv lw.time (moves_text d lw.moves) (digits_lack 32 (lit≤ tt) lw.time lw.decimal.0.1) (moves_text-spaced d lw.moves) lw.text in
    let times : v.time ≡ w.time = sym lv.value ∙ ap (λ t. digits_value 10 t) parts.0 ∙ lw.value in
    let there : lv.moves ≡ lw.moves = same_moves d h lv.moves lw.moves (line_moves d line v lv fv) (line_moves d line w lw fw) parts.1 in
    let order : IsPermutation v.moves w.moves = IsPermutation-trans v.moves lw.moves w.moves (subst (λ ms. IsPermutation v.moves ms) there (IsPermutation-sym lv.moves v.moves lv.order)) lw.order in
    same_vector v w times (rising_once v.moves w.moves order lv.rises lw.rises)

moves_text-lacks : (d : Netlist) → HasPlainNames d → (moves : List Move) → Lacks 10 (moves_text d moves)
moves_text-lacks d h [] = tt
moves_text-lacks d h (m ∷ moves) =
    let name = (plain_name d h m.input).2 in
    let value : Lacks 10 (61 ∷ digit_of m.value ∷ []) = ((λ e. omega arith), (digit-no_line_end m.value, tt)) in
    Lacks-append 10 (assignment_text d m) (moves_text d moves) ((λ e. omega arith), Lacks-append 10 (get_or (input_names d) m.input []) (61 ∷ digit_of m.value ∷ []) name value) (moves_text-lacks d h moves)

-- no line has an LF in it
pub line_lacks : (d : Netlist) → HasPlainNames d → (line : List ℕ) (v : Vector) → IsLine d line v → Lacks 10 line
line_lacks d h line v l =
    subst (Lacks 10) (sym l.text) (Lacks-append 10 l.time (moves_text d l.moves) (digits_lack 10 (lit≤ tt) l.time l.decimal.0.1) (moves_text-lacks d h l.moves))

-- the first line of a text is the one before its first LF
pub lines_first : (d : Netlist) → HasPlainNames d → (line rest : List ℕ) → Lacks 10 line → (vs : List Vector) → AreLines d (line ++ 10 ∷ rest) vs
    → (v : Vector) × (left : List Vector) × (vs ≡ v ∷ left) × IsLine d line v × AreLines d rest left
lines_first d h line rest lacks [] l = absurd (no_end line l)
  where
    no_end : (line : List ℕ) → line ++ 10 ∷ rest ≡ [] → ⊥
    no_end [] e = cc
    no_end (b ∷ bs) e = cc
lines_first d h line rest lacks (v ∷ vs) l =
    let cut = cut_once 10 l.0 line (10 ∷ l.1) (10 ∷ rest) (line_lacks d h l.0 v l.3) lacks refl refl (sym l.2) in
    let ends = cut.1 in
    let rests : l.1 ≡ rest = cc in
    (v, vs, refl, subst (λ t. IsLine d t v) cut.0 l.3, subst (λ t. AreLines d t vs) rests l.4)

-- lines are read from the front of a text in one way: those that are read are the first of all
pub lines_front : (d : Netlist) → HasPlainNames d → (done vs : List Vector) (front tail : List ℕ) → All (IsVector d) done → All (IsVector d) vs
    → AreLines d front done → AreLines d (front ++ tail) vs → (left : List Vector) × (vs ≡ done ++ left) × AreLines d tail left
lines_front d h [] vs front tail gd gv ld lv = (vs, refl, let none : front ≡ [] = ld in subst (λ f. AreLines d (f ++ tail) vs) none lv)
lines_front d h (v ∷ done) vs front tail gd gv ld lv =
    let whole : front ++ tail ≡ ld.0 ++ 10 ∷ (ld.1 ++ tail) = ap (λ f. f ++ tail) ld.2 ∙ append_assoc ld.0 (10 ∷ ld.1) tail in
    let first = lines_first d h ld.0 (ld.1 ++ tail) (line_lacks d h ld.0 v ld.3) vs (subst (λ t. AreLines d t vs) whole lv) in
    let gw : All (IsVector d) (first.0 ∷ first.1) = subst (All (IsVector d)) first.2 gv in
    let heads : first.0 ≡ v = line_once d h ld.0 first.0 v (All-head (IsVector d) first.0 first.1 gw) (All-head (IsVector d) v done gd) first.3 ld.3 in
    let rest = lines_front d h done first.1 ld.1 tail (All-tail (IsVector d) v done gd) (All-tail (IsVector d) first.0 first.1 gw) ld.4 first.4 in
    let tails : first.1 ≡ done ++ rest.0 = rest.1 in
    let all : vs ≡ first.0 ∷ first.1 = first.2 in
    (rest.0, cc, rest.2)

-- no text but the empty one has no line
pub lines-nil : (d : Netlist) (vs : List Vector) → AreLines d [] vs → vs ≡ []
lines-nil d [] l = refl
lines-nil d (v ∷ vs) l = absurd (no_end l.0 (sym l.2))
  where
    no_end : (line : List ℕ) → line ++ 10 ∷ l.1 ≡ [] → ⊥
    no_end [] e = cc
    no_end (b ∷ bs) e = cc

-- a script has one list of vectors
pub script_once : (d : Netlist) → HasPlainNames d → (bytes : List ℕ) (vs ws : List Vector) → IsScript d bytes vs → IsScript d bytes ws → vs ≡ ws
script_once d h bytes vs ws sv sw =
    let front = lines_front d h ws vs bytes [] sw.lawful.forms sv.lawful.forms sw.lines (subst (λ t. AreLines d t vs) (sym (append-nil bytes)) sv.lines) in
    let none : front.0 ≡ [] = lines-nil d front.0 front.2 in
    front.1 ∙ ap (λ left. ws ++ left) none ∙ append-nil ws

-- what an assignment is cut into at its first `=`
pub piece_parts : (d : Netlist) → HasPlainNames d → (piece name value : List ℕ) (move : Move) → piece ≡ name ++ value → Lacks 61 name → StopsAt 61 value → Assigns d piece move
    → (get_or (input_names d) move.input [] ≡ name) × (61 ∷ digit_of move.value ∷ [] ≡ value)
piece_parts d h piece name value move e lacks stops a =
    let spelled = a.spelled in
    let texts : piece ≡ get_or (input_names d) move.input [] ++ 61 ∷ digit_of move.value ∷ [] = cc in
    cut_once 61 (get_or (input_names d) move.input []) name (61 ∷ digit_of move.value ∷ []) value (plain_name d h move.input).0 lacks refl stops (sym texts ∙ e)

-- no assignment is of a name that no input has
pub no_input_named : (d : Netlist) → HasPlainNames d → (piece name value : List ℕ) → piece ≡ name ++ value → Lacks 61 name → StopsAt 61 value
    → (Contains (input_names d) name → ⊥) → (move : Move) → Assigns d piece move → ⊥
no_input_named d h piece name value e lacks stops none move a =
    let parts = piece_parts d h piece name value move e lacks stops a in
    let size = names_len d in
    let inside = a.allowed.input in
    let among : move.input < length (input_names d) = omega arith in
    none (subst (Contains (input_names d)) parts.0 (Contains-get_or (input_names d) move.input [] among))

-- nor with a value that is none
pub no_value : (d : Netlist) → HasPlainNames d → (piece name value : List ℕ) → piece ≡ name ++ value → Lacks 61 name → StopsAt 61 value
    → ((bit : Bit) → IsValue value bit → ⊥) → (move : Move) → Assigns d piece move → ⊥
no_value d h piece name value e lacks stops none move a =
    none move.value (record { known = a.allowed.known; spelled = sym (piece_parts d h piece name value move e lacks stops a).1 })

-- a name and a value that are there make an assignment
pub assigns : (d : Netlist) (piece name value : List ℕ) (i : ℕ) (bit : Bit) → piece ≡ name ++ value → i < length d.inputs → get_or (input_names d) i [] ≡ name → IsValue value bit
    → Assigns d piece (record { input = i; value = bit })
assigns d piece name value i bit e lt named v = record {
  allowed = record { input = lt; known = v.known };
  spelled = ap (λ text. 32 ∷ text) (e ∙ ap (λ (n : List ℕ). n ++ value) (sym named) ∙ ap (λ text. get_or (input_names d) i [] ++ text) v.spelled);
}

-- where no assignment is of the next piece, no assignments are of the text
pub no_moves_with : (d : Netlist) → HasPlainNames d → (done : List Move) (piece rest : List ℕ) → All (IsMove d) done → Lacks 32 piece → StopsAt 32 rest
    → ((move : Move) → Assigns d piece move → ⊥) → (moves : List Move) → All (IsMove d) moves → moves_text d moves ≡ moves_text d done ++ 32 ∷ (piece ++ rest) → ⊥
no_moves_with d h done piece rest good lacks stops none moves all e =
    let front = moves_front d h done moves (32 ∷ (piece ++ rest)) good all e in
    next front.0 front.3 front.2
  where
    next : (left : List Move) → All (IsMove d) left → moves_text d left ≡ 32 ∷ (piece ++ rest) → ⊥
    next [] g t = cc
    next (m ∷ left) g t =
        let name : List ℕ = get_or (input_names d) m.input [] in
        let apart : Lacks 32 (61 ∷ digit_of m.value ∷ []) = ((λ k. omega arith), (digit-no_space m.value, tt)) in
        let texts : (name ++ 61 ∷ digit_of m.value ∷ []) ++ moves_text d left ≡ piece ++ rest = cc in
        let cut = cut_once 32 (name ++ 61 ∷ digit_of m.value ∷ []) piece (moves_text d left) rest (Lacks-append 32 name (61 ∷ digit_of m.value ∷ []) (plain_name d h m.input).1 apart) lacks (moves_text-spaced d left) stops texts in
        none m (record { allowed = All-head (IsMove d) m left g; spelled = ap (λ text. 32 ∷ text) (sym cut.0) })

-- the text of some assignments and one more
pub moves_text-push : (d : Netlist) (done : List Move) (move : Move) (piece rest : List ℕ) → Assigns d piece move
    → moves_text d done ++ 32 ∷ (piece ++ rest) ≡ moves_text d (done ++ move ∷ []) ++ rest
moves_text-push d done move piece rest a =
    let more : moves_text d (done ++ move ∷ []) ≡ moves_text d done ++ (assignment_text d move ++ []) = flat_map-append (assignment_text d) done (move ∷ []) in
    let one : assignment_text d move ++ [] ≡ 32 ∷ piece = append-nil (assignment_text d move) ∙ sym a.spelled in
    let whole : moves_text d (done ++ move ∷ []) ≡ moves_text d done ++ 32 ∷ piece = more ∙ ap (λ text. moves_text d done ++ text) one in
    sym (ap (λ text. text ++ rest) whole ∙ append_assoc (moves_text d done) (32 ∷ piece) rest)

-- a text whose tail is a space, a piece and a rest
pub tail_parts : (text front tail behind piece rest : List ℕ) → text ≡ front ++ tail → tail ≡ 32 ∷ behind → behind ≡ piece ++ rest → text ≡ front ++ 32 ∷ (piece ++ rest)
tail_parts text front tail behind piece rest e f g = e ∙ ap (λ t. front ++ t) (f ∙ ap (λ t. 32 ∷ t) g)
