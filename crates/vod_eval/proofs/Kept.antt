-- The most of several, and what is kept one after the other.
use Rattle.std.proofs.Common.{◌≡◌, ℕ, zero, suc, ◌+◌, ◌≤◌, ◌<◌, max, Bool, true, false, ◌||◌, List, [], ◌∷◌, ◌++◌, map, flat_map, length, take, drop, slice_get, Some, get_or, length-append, refl, sym, ◌∙◌, ap, arith, add-one, append_assoc, drop-cons}
use Rattle.std.specs.List.{list_any}
use Rattle.std.proofs.Math.ListN.{set, drop_of_length-le}
use Rattle.std.proofs.Math.Seq.{take-suc, take-suc-set, set-append_seam}
use Rattle.std.proofs.lemmas.List.{append-nil, length-take-le, take_at, take-map, map-append, map-set, length-map}
use Rattle.vod_eval.specs.Room.{most, staged}

pub most_at : {A : Type 0} (f : A → ℕ) (xs : List A) (i : ℕ) (d : A) → i < length xs → f (get_or xs i d) ≤ most (map f xs)
most_at f [] i d h = absurd (omega arith)
most_at f (x ∷ xs) zero d h = omega arith
most_at f (x ∷ xs) (suc i) d h = let more : f (get_or xs i d) ≤ most (map f xs) = most_at f xs i d (omega arith) in omega arith

pub staged_at : {A : Type 0} (f : A → ℕ) (xs : List A) (i : ℕ) (d : A) → i < length xs → i + f (get_or xs i d) ≤ staged (map f xs)
staged_at f [] i d h = absurd (omega arith)
staged_at f (x ∷ xs) zero d h = omega arith
staged_at f (x ∷ xs) (suc i) d h = let more : i + f (get_or xs i d) ≤ staged (map f xs) = staged_at f xs i d (omega arith) in omega arith

pub staged_long : {A : Type 0} (f : A → ℕ) (xs : List A) → length xs ≤ staged (map f xs)
staged_long f [] = omega arith
staged_long f (x ∷ xs) = let more : length xs ≤ staged (map f xs) = staged_long f xs in omega arith

-- the same of an element that a loop has come to
pub most_item : {A : Type 0} (f : A → ℕ) (xs : List A) (i : ℕ) (x : A) → x ≡ get_or xs i x → i < length xs → f x ≤ most (map f xs)
most_item f xs i x is h = let here : f x ≡ f (get_or xs i x) = ap f is in rw here (most_at f xs i x h)

pub staged_item : {A : Type 0} (f : A → ℕ) (xs : List A) (i : ℕ) (x : A) → x ≡ get_or xs i x → i < length xs → i + f x ≤ staged (map f xs)
staged_item f xs i x is h = let here : f x ≡ f (get_or xs i x) = ap f is in rw here (staged_at f xs i x h)

pub flat_map_map : {A B C : Type 0} (f : B → List C) (g : A → B) (xs : List A) → flat_map f (map g xs) ≡ flat_map (λ x. f (g x)) xs
flat_map_map f g [] = refl
flat_map_map f g (x ∷ xs) = ap (λ ys. f (g x) ++ ys) (flat_map_map f g xs)

flat_append : {A C : Type 0} (f : A → List C) (xs ys : List A) → flat_map f (xs ++ ys) ≡ flat_map f xs ++ flat_map f ys
flat_append f [] ys = refl
flat_append f (x ∷ xs) ys = ap (λ zs. f x ++ zs) (flat_append f xs ys) ∙ sym (append_assoc (f x) (flat_map f xs) (flat_map f ys))

-- one element more of a list, where a loop has come to it
pub take_item : {A : Type 0} (xs : List A) (i : ℕ) (x : A) → x ≡ get_or xs i x → i < length xs → take (i + 1) xs ≡ take i xs ++ x ∷ []
take_item xs i x is h = rw add-one (take-suc xs i x h ∙ ap (λ y. take i xs ++ y ∷ []) (sym is))

pub drop_item : {A : Type 0} (xs : List A) (i : ℕ) (x : A) → x ≡ get_or xs i x → i < length xs → drop i xs ≡ x ∷ drop (i + 1) xs
drop_item xs i x is h = rw add-one (drop-cons xs i x h ∙ ap (λ y. y ∷ drop (suc i) xs) (sym is))

pub drop_past : {A : Type 0} (i : ℕ) (xs : List A) → length xs ≤ i → drop i xs ≡ []
drop_past i xs h = drop_of_length-le xs h

pub flat_take : {A C : Type 0} (f : A → List C) (xs : List A) (i : ℕ) (x : A) → x ≡ get_or xs i x → i < length xs → flat_map f (take (i + 1) xs) ≡ flat_map f (take i xs) ++ f x
flat_take f xs i x is h = ap (flat_map f) (take_item xs i x is h) ∙ flat_append f (take i xs) (x ∷ []) ∙ ap (λ ys. flat_map f (take i xs) ++ ys) (append-nil (f x))

pub any_past : {A : Type 0} (f : A → Bool) (xs : List A) (i : ℕ) (x : A) → x ≡ get_or xs i x → i < length xs → f x ≡ false → list_any f (drop (i + 1) xs) ≡ list_any f (drop i xs)
any_past f xs i x is h test = sym (ap (list_any f) (drop_item xs i x is h) ∙ ap (λ b. b || list_any f (drop (i + 1) xs)) test)

pub any_here : {A : Type 0} (f : A → Bool) (xs : List A) (i : ℕ) (x : A) → x ≡ get_or xs i x → i < length xs → f x ≡ true → list_any f (drop i xs) ≡ true
any_here f xs i x is h test = ap (list_any f) (drop_item xs i x is h) ∙ ap (λ b. b || list_any f (drop (i + 1) xs)) test

-- a value more is kept at the front of the room; `later` is what the room's rest became
kept_next : {A X : Type 0} (f : A → X) (xs : List A) (room later : List X) (i : ℕ) (x : A) (v : X) → x ≡ get_or xs i x → i < length xs → i < length room
    → i < length (take i room ++ later) → take i room ≡ map f (take i xs) → v ≡ f x → take (i + 1) (set (take i room ++ later) i v) ≡ map f (take (i + 1) xs)
kept_next f xs room later i x v is h l m kept e =
    let len : length (take i room) ≡ i = length-take-le i room (omega arith) in
    rw add-one (take-suc-set (take i room ++ later) i v m ∙ ap (λ ys. ys ++ v ∷ []) (take_at (take i room) later i len ∙ kept) ∙ ap (λ y. map f (take i xs) ++ y ∷ []) e
    ∙ sym (ap (map f) (rw (← add-one) (take_item xs i x is h)) ∙ map-append f (take i xs) (x ∷ [])))

-- the same of values that are seen as others
pub kept_more : {A V X : Type 0} (b : V → X) (f : A → X) (xs : List A) (room later : List V) (i : ℕ) (x : A) (v : V) → x ≡ get_or xs i x → i < length xs → i < length room
    → i < length (take i room ++ later) → take i (map b room) ≡ map f (take i xs) → b v ≡ f x → take (i + 1) (map b (set (take i room ++ later) i v)) ≡ map f (take (i + 1) xs)
kept_more b f xs room later i x v is h l m kept e =
    let front : map b (take i room ++ later) ≡ take i (map b room) ++ map b later = map-append b (take i room) later ∙ ap (λ ys. ys ++ map b later) (sym (take-map b i room)) in
    let long : i < length (map b room) = omega (arith, length-map room b) in
    let inside : i < length (take i (map b room) ++ map b later) = omega (arith, length-map (take i room ++ later) b, ap length front) in
    ap (take (i + 1)) (map-set b (take i room ++ later) i v ∙ ap (λ ys. set ys i (b v)) front) ∙ kept_next f xs (map b room) (map b later) i x (b v) is h long inside kept e

pub map_take_more : {A X : Type 0} (f : A → X) (xs : List A) (i : ℕ) (x : A) → x ≡ get_or xs i x → i < length xs → map f (take (i + 1) xs) ≡ map f (take i xs) ++ f x ∷ []
map_take_more f xs i x is h = ap (map f) (take_item xs i x is h) ∙ map-append f (take i xs) (x ∷ [])

-- a value written behind those that were written so far
pub set_next : {X : Type 0} (ys room : List X) (i : ℕ) (v : X) → length ys ≡ i → i < length room → set (ys ++ drop i room) i v ≡ (ys ++ v ∷ []) ++ drop (i + 1) room
set_next ys room i v e h =
    ap (λ zs. set (ys ++ zs) i v) (drop-cons room i v h) ∙ ap (λ k. set (ys ++ get_or room i v ∷ drop (suc i) room) k v) (sym e) ∙ set-append_seam ys (get_or room i v) (drop (suc i) room) v
    ∙ sym (append_assoc ys (v ∷ []) (drop (suc i) room)) ∙ ap (λ k. (ys ++ v ∷ []) ++ drop k room) (sym (add-one i))

pub map_take_length : {A X : Type 0} (f : A → X) (xs : List A) (i : ℕ) → i ≤ length xs → length (map f (take i xs)) ≡ i
map_take_length f xs i h = length-map (take i xs) f ∙ length-take-le i xs h

-- what stands at the front of a function's room as it is entered: its inputs, what was cleared behind them, and its result
front_of_seen : {X : Type 0} (inputs locals room cleared rest later : List X) (m n : ℕ) (v : X) → take m room ≡ inputs → length inputs ≡ m → cleared ≡ locals ++ rest → length locals ≡ n
    → m + n < length (take m room) + length cleared → take (m + n + 1) (set (take m room ++ (cleared ++ later)) (m + n) v) ≡ inputs ++ locals ++ v ∷ []
front_of_seen inputs locals room cleared rest later m n v p q r s l =
    let h : m + n < length (take m room ++ (cleared ++ later)) = omega (arith, length-append (take m room) (cleared ++ later), length-append cleared later) in
    let whole : take m room ++ (cleared ++ later) ≡ (inputs ++ locals) ++ (rest ++ later)
    = ap (λ xs. xs ++ (cleared ++ later)) p ∙ ap (λ xs. inputs ++ (xs ++ later)) r ∙ ap (λ xs. inputs ++ xs) (append_assoc locals rest later) ∙ sym (append_assoc inputs locals (rest ++ later)) in
    let len : length (inputs ++ locals) ≡ m + n = omega (arith, length-append inputs locals) in
    rw add-one (take-suc-set (take m room ++ (cleared ++ later)) (m + n) v h ∙ ap (λ xs. take (m + n) xs ++ v ∷ []) whole ∙ ap (λ xs. xs ++ v ∷ []) (take_at (inputs ++ locals) (rest ++ later) (m + n) len))

pub front_of : {V X : Type 0} (b : V → X) (inputs locals rest : List X) (room cleared later : List V) (m n : ℕ) (v : V) → take m (map b room) ≡ inputs → length inputs ≡ m
    → map b cleared ≡ locals ++ rest → length locals ≡ n → m + n < length (take m room) + length cleared
    → take (m + n + 1) (map b (set (take m room ++ (cleared ++ later)) (m + n) v)) ≡ inputs ++ locals ++ b v ∷ []
front_of b inputs locals rest room cleared later m n v p q r s l =
    let whole : map b (take m room ++ (cleared ++ later)) ≡ take m (map b room) ++ (map b cleared ++ map b later)
    = map-append b (take m room) (cleared ++ later) ∙ ap (λ ys. map b (take m room) ++ ys) (map-append b cleared later) ∙ ap (λ ys. ys ++ (map b cleared ++ map b later)) (sym (take-map b m room)) in
    let front : length (take m (map b room)) ≡ length (take m room) = ap length (take-map b m room) ∙ length-map (take m room) b in
    let long : m + n < length (take m (map b room)) + length (map b cleared) = omega (arith, front, length-map cleared b) in
    ap (take (m + n + 1)) (map-set b (take m room ++ (cleared ++ later)) (m + n) v ∙ ap (λ ys. set ys (m + n) (b v)) whole)
    ∙ front_of_seen inputs locals (map b room) (map b cleared) rest (map b later) m n (b v) p q r s long

pub get_same : {X : Type 0} (xs : List X) (i : ℕ) (d e : X) → i < length xs → get_or xs i d ≡ get_or xs i e
get_same [] i d e h = absurd (omega arith)
get_same (x ∷ xs) zero d e h = refl
get_same (x ∷ xs) (suc i) d e h = get_same xs i d e (omega arith)

pub get_seam : {X : Type 0} (ys : List X) (y : X) (zs : List X) (d : X) → get_or (ys ++ y ∷ zs) (length ys) d ≡ y
get_seam [] y zs d = refl
get_seam (x ∷ ys) y zs d = get_seam ys y zs d

-- what isn't written yet is as it was
pub get_behind : {X : Type 0} (ys room : List X) (i : ℕ) (d : X) → length ys ≡ i → i < length room → get_or (ys ++ drop i room) i d ≡ get_or room i d
get_behind ys room i d e h =
    ap (λ zs. get_or (ys ++ zs) i d) (drop-cons room i d h) ∙ ap (λ k. get_or (ys ++ get_or room i d ∷ drop (suc i) room) k d) (sym e) ∙ get_seam ys (get_or room i d) (drop (suc i) room) d

most_append : (ns : List ℕ) (n : ℕ) → most (ns ++ n ∷ []) ≡ max (most ns) n
most_append [] n = omega arith
most_append (m ∷ ns) n = let more : most (ns ++ n ∷ []) ≡ max (most ns) n = most_append ns n in omega arith

staged_append : (ns : List ℕ) (n : ℕ) → staged (ns ++ n ∷ []) ≡ max (staged ns) (length ns + max n 1)
staged_append [] n = omega arith
staged_append (m ∷ ns) n = let more : staged (ns ++ n ∷ []) ≡ max (staged ns) (length ns + max n 1) = staged_append ns n in omega arith

pub most_take : {A : Type 0} (f : A → ℕ) (xs : List A) (i : ℕ) (x : A) → x ≡ get_or xs i x → i < length xs → most (map f (take (i + 1) xs)) ≡ max (most (map f (take i xs))) (f x)
most_take f xs i x is h = ap most (map_take_more f xs i x is h) ∙ most_append (map f (take i xs)) (f x)

pub staged_take : {A : Type 0} (f : A → ℕ) (xs : List A) (i : ℕ) (x : A) → x ≡ get_or xs i x → i < length xs → staged (map f (take (i + 1) xs)) ≡ max (staged (map f (take i xs))) (i + max (f x) 1)
staged_take f xs i x is h =
    ap staged (map_take_more f xs i x is h) ∙ staged_append (map f (take i xs)) (f x) ∙ ap (λ k. max (staged (map f (take i xs))) (k + max (f x) 1)) (map_take_length f xs i (omega arith))

pub get_there : {X : Type 0} (xs : List X) (i : ℕ) (x : X) → x ≡ get_or xs i x → i < length xs → slice_get xs i ≡ Some x
get_there [] i x is h = absurd (omega arith)
get_there (y ∷ xs) zero x is h = ap Some (sym is)
get_there (y ∷ xs) (suc i) x is h = get_there xs i x is (omega arith)
