-- Writes of different places may change their order: so what is left, applied to what is stored, stays as it was where the first of a list
-- was written.
use Rattle.std.proofs.Common.{◌≡◌, ◌≢◌, ◌⊎◌, inl, inr, ℕ, zero, suc, ◌<◌, List, [], ◌∷◌, ◌++◌, length, flat_map, take, drop, set, arith, refl, ap, sym, ◌∙◌, subst, ⊎_elim, All, length-set, get_or-set_same, get_or-set_other}
use Rattle.std.proofs.lemmas.Bool.{cases_eq, cases_lt}
use Rattle.std.proofs.lemmas.List.{set_comm, set-set, set_past, append-nil}
use Rattle.std.proofs.lemmas.List.Elements.{All-head, All-tail, All-weaker}
use Rattle.vod_bits.specs.Bit.{Bit, BX}
use Rattle.vod_design.specs.Netlist.{Netlist, IsNet, IsRegister}
use Rattle.vod_design.specs.Values.{value_at}
use Rattle.vod_slot.specs.Store.{Store, Write, ToBit, ToWord, bit_replaced, written, list_at}
use Rattle.vod_slot.specs.State.{State}
use Rattle.vod_slot.specs.Step.{put, put_all}
use Rattle.vod_slot.proofs.Lists.{all_front, all_back}
use Rattle.vod_slot.proofs.Outside.{not_register}
use Rattle.vod_slot.proofs.Calm.{OfNet}

-- what is stored after several writes
abbrev pub stored : List Write → Store → Store
stored [] store = store
stored (w ∷ writes) store = stored writes (written store w)

pub stored-put_all : (d : Netlist) (writes : List Write) (st : State) → (put_all d writes st).store ≡ stored writes st.store
stored-put_all d [] st = refl
stored-put_all d (w ∷ writes) st = stored-put_all d writes (put d w st)

pub stored-append : (xs ys : List Write) (store : Store) → stored (xs ++ ys) store ≡ stored ys (stored xs store)
stored-append [] ys store = refl
stored-append (w ∷ xs) ys store = stored-append xs ys (written store w)

-- of different signals, or different words
abbrev pub Apart : Write → Write → Type 0
Apart (ToBit n p b) (ToBit m q c) = n ≢ m
Apart (ToBit n p b) (ToWord m q c) = Unit {0}
Apart (ToWord n p b) (ToBit m q c) = Unit {0}
Apart (ToWord n p b) (ToWord m q c) = (n ≢ m) ⊎ (p ≢ q)

abbrev store_of : List (List Bit) → List (List (List Bit)) → Store
store_of signals memories = record { signals = signals; memories = memories }

bits_swap : (signals : List (List Bit)) (n m p q : ℕ) (b c : Bit) → n ≢ m → set (set signals n (bit_replaced p b (value_at BX signals n))) m (bit_replaced q c (value_at BX (set signals n (bit_replaced p b (value_at BX signals n))) m))
    ≡ set (set signals m (bit_replaced q c (value_at BX signals m))) n (bit_replaced p b (value_at BX (set signals m (bit_replaced q c (value_at BX signals m))) n))
bits_swap signals n m p q b c apart =
    let x = bit_replaced p b (value_at BX signals n) in
    let y = bit_replaced q c (value_at BX signals m) in
    ap (λ v. set (set signals n x) m (bit_replaced q c v)) (get_or-set_other signals n m x (BX ∷ []) (λ e. apart (sym e)))
    ∙ set_comm signals n m x y apart
    ∙ ap (λ v. set (set signals m y) n (bit_replaced p b v)) (sym (get_or-set_other signals m n y (BX ∷ []) apart))

abbrev Memories : Type 0
Memories = List (List (List Bit))

memories_swap : (memories : Memories) (n m p q : ℕ) (b c : List Bit) → n ≢ m → set (set memories n (set (list_at memories n) p b)) m (set (list_at (set memories n (set (list_at memories n) p b)) m) q c)
    ≡ set (set memories m (set (list_at memories m) q c)) n (set (list_at (set memories m (set (list_at memories m) q c)) n) p b)
memories_swap memories n m p q b c apart =
    let x = set (list_at memories n) p b in
    let y = set (list_at memories m) q c in
    ap (λ (v : List (List Bit)). set (set memories n x) m (set v q c)) (get_or-set_other memories n m x [] (λ e. apart (sym e)))
    ∙ set_comm memories n m x y apart
    ∙ ap (λ (v : List (List Bit)). set (set memories m y) n (set v p b)) (sym (get_or-set_other memories m n y [] apart))

memory_swap : (memories : Memories) (n p q : ℕ) (b c : List Bit) → p ≢ q → set (set memories n (set (list_at memories n) p b)) n (set (list_at (set memories n (set (list_at memories n) p b)) n) q c)
    ≡ set (set memories n (set (list_at memories n) q c)) n (set (list_at (set memories n (set (list_at memories n) q c)) n) p b)
memory_swap memories n p q b c apart =
    let words = list_at memories n in
    let x = set words p b in
    let y = set words q c in
    ⊎_elim
    (λ lt. ap (λ (v : List (List Bit)). set (set memories n x) n (set v q c)) (get_or-set_same memories n x [] lt)
    ∙ set-set memories n x (set x q c)
    ∙ ap (set memories n) (set_comm words p q b c apart)
    ∙ sym (set-set memories n y (set y p b))
    ∙ ap (λ (v : List (List Bit)). set (set memories n y) n (set v p b)) (sym (get_or-set_same memories n y [] lt)))
    (λ ge.
    let past : (z : List (List Bit)) → set memories n z ≡ memories = λ z. set_past memories n z ge in
    ap (λ (ms : Memories). set ms n (set (list_at ms n) q c)) (past x) ∙ past y ∙ sym (past x) ∙ sym (ap (λ (ms : Memories). set ms n (set (list_at ms n) p b)) (past y)))
    (cases_lt n (length memories))

words_swap : (memories : Memories) (n m p q : ℕ) (b c : List Bit) → (n ≢ m) ⊎ (p ≢ q) → set (set memories n (set (list_at memories n) p b)) m (set (list_at (set memories n (set (list_at memories n) p b)) m) q c)
    ≡ set (set memories m (set (list_at memories m) q c)) n (set (list_at (set memories m (set (list_at memories m) q c)) n) p b)
words_swap memories n m p q b c (inl apart) = memories_swap memories n m p q b c apart
words_swap memories n m p q b c (inr apart) =
    ⊎_elim
    (λ same. subst (λ k. set (set memories n (set (list_at memories n) p b)) k (set (list_at (set memories n (set (list_at memories n) p b)) k) q c)
    ≡ set (set memories k (set (list_at memories k) q c)) n (set (list_at (set memories k (set (list_at memories k) q c)) n) p b)) same
    (memory_swap memories n p q b c apart))
    (λ other. memories_swap memories n m p q b c other)
    (cases_eq n m)

pub written-swap : (store : Store) (v w : Write) → Apart v w → written (written store v) w ≡ written (written store w) v
written-swap store (ToBit n p b) (ToBit m q c) apart = ap (λ x. store_of x store.memories) (bits_swap store.signals n m p q b c apart)
written-swap store (ToBit n p b) (ToWord m q c) apart = refl
written-swap store (ToWord n p b) (ToBit m q c) apart = refl
written-swap store (ToWord n p b) (ToWord m q c) apart = ap (store_of store.signals) (words_swap store.memories n m p q b c apart)

one_swap : (w : Write) (writes : List Write) (store : Store) → All (λ v. Apart w v) writes → stored writes (written store w) ≡ written (stored writes store) w
one_swap w [] store h = refl
one_swap w (v ∷ writes) store h =
    ap (stored writes) (written-swap store w v (All-head (λ x. Apart w x) v writes h)) ∙ one_swap w writes (written store v) (All-tail (λ x. Apart w x) v writes h)

abbrev pub AreApart : List Write → List Write → Type 0
AreApart xs ys = All (λ x. All (λ y. Apart x y) ys) xs

pub stored-swap : (xs ys : List Write) (store : Store) → AreApart xs ys → stored ys (stored xs store) ≡ stored xs (stored ys store)
stored-swap [] ys store h = refl
stored-swap (x ∷ xs) ys store h =
    stored-swap xs ys (written store x) (All-tail (λ w. All (λ y. Apart w y) ys) x xs h)
    ∙ ap (stored xs) (one_swap x ys store (All-head (λ w. All (λ y. Apart w y) ys) x xs h))

-- lists of items, each of which writes something, one list after the other
abbrev pub all_written : {A : Type 0} → (A → List Write) → List (List A) → List Write
all_written f lists = flat_map (λ list. flat_map f list) lists

-- what two of them write is apart
abbrev pub ListsApart : {A : Type 0} → (A → List Write) → List (List A) → Type 0
ListsApart f lists = (j k : ℕ) → j < k → AreApart (flat_map f (list_at lists j)) (flat_map f (list_at lists k))

first_front : {A : Type 0} (f : A → List Write) (xs : List A) (store : Store) → stored (flat_map f (drop 1 xs)) (stored (flat_map f (take 1 xs)) store) ≡ stored (flat_map f xs) store
first_front f [] store = refl
first_front f (x ∷ xs) store = ap (λ ws. stored (flat_map f xs) (stored ws store)) (append-nil (f x)) ∙ sym (stored-append (f x) (flat_map f xs) store)

pub front_apart : {A : Type 0} (f : A → List Write) (xs : List Write) (ys : List A) → AreApart xs (flat_map f ys) → AreApart xs (flat_map f (take 1 ys))
front_apart f xs [] h = h
front_apart f xs (y ∷ ys) h =
    subst (AreApart xs) (sym (append-nil (f y))) (All-weaker (λ x. All (λ w. Apart x w) (f y ++ flat_map f ys)) (λ x. All (λ w. Apart x w) (f y)) (λ x each. all_front (λ w. Apart x w) (f y) (flat_map f ys) each) xs h)

rest_apart : {A : Type 0} (f : A → List Write) (xs : List Write) (ys : List A) → AreApart xs (flat_map f ys) → AreApart xs (flat_map f (drop 1 ys))
rest_apart f xs [] h = h
rest_apart f xs (y ∷ ys) h = All-weaker (λ x. All (λ w. Apart x w) (f y ++ flat_map f ys)) (λ x. All (λ w. Apart x w) (flat_map f ys)) (λ x each. all_back (λ w. Apart x w) (f y) (flat_map f ys) each) xs h

apart_rest : {A : Type 0} (f : A → List Write) (xs : List A) (ys : List Write) → AreApart (flat_map f xs) ys → AreApart (flat_map f (drop 1 xs)) ys
apart_rest f [] ys h = h
apart_rest f (x ∷ xs) ys h = all_back (λ w. All (λ y. Apart w y) ys) (f x) (flat_map f xs) h

-- the first item of a list is written
pub first_written : {A : Type 0} (f : A → List Write) (lists : List (List A)) (k : ℕ) (store : Store) → ListsApart f lists →
    stored (all_written f (set lists k (drop 1 (list_at lists k)))) (stored (flat_map f (take 1 (list_at lists k))) store) ≡ stored (all_written f lists) store
first_written f [] k store h = refl
first_written f (xs ∷ lists) zero store h =
    stored-append (flat_map f (drop 1 xs)) (all_written f lists) (stored (flat_map f (take 1 xs)) store)
    ∙ ap (stored (all_written f lists)) (first_front f xs store)
    ∙ sym (stored-append (flat_map f xs) (all_written f lists) store)
first_written f (xs ∷ lists) (suc k) store h =
    let first = flat_map f (take 1 (list_at lists k)) in
    let rest = all_written f (set lists k (drop 1 (list_at lists k))) in
    stored-append (flat_map f xs) rest (stored first store)
    ∙ ap (stored rest) (sym (stored-swap (flat_map f xs) first store (front_apart f (flat_map f xs) (list_at lists k) (h 0 (suc k) (omega arith)))))
    ∙ first_written f lists k (stored (flat_map f xs) store) (λ i j lt. h (suc i) (suc j) (omega arith))
    ∙ sym (stored-append (flat_map f xs) (all_written f lists) store)

set_list : {A : Type 0} (lists : List (List A)) (k : ℕ) (xs : List A) (m : ℕ) → (list_at (set lists k xs) m ≡ list_at lists m) ⊎ ((k ≡ m) × (list_at (set lists k xs) m ≡ xs))
set_list lists k xs m =
    ⊎_elim
    (λ same. ⊎_elim
    (λ lt. inr (same, subst (λ n. list_at (set lists k xs) n ≡ xs) same (get_or-set_same lists k xs [] lt)))
    (λ ge. inl (ap (λ ls. list_at ls m) (set_past lists k xs ge)))
    (cases_lt k (length lists)))
    (λ apart. inl (get_or-set_other lists k m xs [] (λ e. apart (sym e))))
    (cases_eq k m)

left_apart : {A : Type 0} (f : A → List Write) (lists : List (List A)) (k m : ℕ) (ys : List Write) → AreApart (flat_map f (list_at lists m)) ys → AreApart (flat_map f (list_at (set lists k (drop 1 (list_at lists k))) m)) ys
left_apart f lists k m ys h =
    ⊎_elim
    (λ kept. subst (λ xs. AreApart (flat_map f xs) ys) (sym kept) h)
    (λ first. subst (λ xs. AreApart (flat_map f xs) ys) (sym (first.1 ∙ ap (λ n. drop 1 (list_at lists n)) first.0)) (apart_rest f (list_at lists m) ys h))
    (set_list lists k (drop 1 (list_at lists k)) m)

right_apart : {A : Type 0} (f : A → List Write) (lists : List (List A)) (k m : ℕ) (xs : List Write) → AreApart xs (flat_map f (list_at lists m)) → AreApart xs (flat_map f (list_at (set lists k (drop 1 (list_at lists k))) m))
right_apart f lists k m xs h =
    ⊎_elim
    (λ kept. subst (λ ys. AreApart xs (flat_map f ys)) (sym kept) h)
    (λ first. subst (λ ys. AreApart xs (flat_map f ys)) (sym (first.1 ∙ ap (λ n. drop 1 (list_at lists n)) first.0)) (rest_apart f xs (list_at lists m) h))
    (set_list lists k (drop 1 (list_at lists k)) m)

pub apart-first : {A : Type 0} (f : A → List Write) (lists : List (List A)) (k : ℕ) → ListsApart f lists → ListsApart f (set lists k (drop 1 (list_at lists k)))
apart-first f lists k h i j lt = left_apart f lists k i (flat_map f (list_at (set lists k (drop 1 (list_at lists k))) j)) (right_apart f lists k j (flat_map f (list_at lists i)) (h i j lt))

-- registers and words are apart from nets

abbrev pub OfState : Netlist → Write → Type 0
OfState d (ToBit n place bit) = IsRegister d n
OfState d (ToWord memory place word) = Unit {0}

net_apart : (d : Netlist) (v w : Write) → OfNet d v → OfState d w → Apart v w
net_apart d (ToBit n p b) (ToBit m q c) net register = λ same. not_register d m (subst (IsNet d) same net) register
net_apart d (ToBit n p b) (ToWord m q c) net register = tt
net_apart d (ToWord n p b) w net register = absurd net

pub nets_apart : (d : Netlist) (xs ys : List Write) → All (OfNet d) xs → All (OfState d) ys → AreApart xs ys
nets_apart d xs ys nets registers = All-weaker (OfNet d) (λ x. All (λ y. Apart x y) ys) (λ x net. All-weaker (OfState d) (λ y. Apart x y) (λ y register. net_apart d x y net register) ys registers) xs nets

-- two stores with the same registers and words
pub record SameRegisters (d : Netlist) (s t : Store) : Type 0 where
  pub registers : (n : ℕ) → IsRegister d n → value_at BX s.signals n ≡ value_at BX t.signals n
  pub memories : s.memories ≡ t.memories

pub same-same : (d : Netlist) (s t : Store) → s ≡ t → SameRegisters d s t
same-same d s t e = record { registers = λ n register. ap (λ (x : Store). value_at BX x.signals n) e; memories = ap (λ (x : Store). x.memories) e }

pub same-then : (d : Netlist) (s t u : Store) → SameRegisters d s t → SameRegisters d t u → SameRegisters d s u
same-then d s t u h k = record { registers = λ n register. h.registers n register ∙ k.registers n register; memories = h.memories ∙ k.memories }

pub same-sym : (d : Netlist) (s t : Store) → SameRegisters d s t → SameRegisters d t s
same-sym d s t h = record { registers = λ n register. sym (h.registers n register); memories = sym h.memories }

net_written : (d : Netlist) (w : Write) (store : Store) → OfNet d w → SameRegisters d (written store w) store
net_written d (ToBit n place bit) store net = record {
  registers = λ m register. get_or-set_other store.signals n m (bit_replaced place bit (value_at BX store.signals n)) (BX ∷ []) (λ e. not_register d m (subst (IsNet d) (sym e) net) register);
  memories = refl;
}
net_written d (ToWord memory place word) store net = absurd net

pub nets_written : (d : Netlist) (writes : List Write) (store : Store) → All (OfNet d) writes → SameRegisters d (stored writes store) store
nets_written d [] store h = same-same d store store refl
nets_written d (w ∷ writes) store h =
    same-then d (stored writes (written store w)) (written store w) store (nets_written d writes (written store w) (All-tail (OfNet d) w writes h)) (net_written d w store (All-head (OfNet d) w writes h))

-- a net that is written leaves what registers and words come to
pub nets_leave : (d : Netlist) (nets left : List Write) (store : Store) → All (OfNet d) nets → All (OfState d) left → SameRegisters d (stored left (stored nets store)) (stored left store)
nets_leave d nets left store h k =
    same-then d (stored left (stored nets store)) (stored nets (stored left store)) (stored left store)
    (same-same d (stored left (stored nets store)) (stored nets (stored left store)) (stored-swap nets left store (nets_apart d nets left h k)))
    (nets_written d nets (stored left store) h)

-- the same is written over the same registers
state_written : (d : Netlist) (w : Write) (s t : Store) → length s.signals ≡ length t.signals → OfState d w → SameRegisters d s t → SameRegisters d (written s w) (written t w)
state_written d (ToBit n place bit) s t len register same = record {
  registers = λ m is. ⊎_elim
      (λ here. ⊎_elim
      (λ lt. subst (λ k. value_at BX (set s.signals n (bit_replaced place bit (value_at BX s.signals n))) k ≡ value_at BX (set t.signals n (bit_replaced place bit (value_at BX t.signals n))) k) here
      (get_or-set_same s.signals n (bit_replaced place bit (value_at BX s.signals n)) (BX ∷ []) lt
      ∙ ap (bit_replaced place bit) (same.registers n register)
      ∙ sym (get_or-set_same t.signals n (bit_replaced place bit (value_at BX t.signals n)) (BX ∷ []) (omega arith))))
      (λ ge. ap (λ (xs : List (List Bit)). value_at BX xs m) (set_past s.signals n (bit_replaced place bit (value_at BX s.signals n)) ge)
      ∙ same.registers m is
      ∙ sym (ap (λ (xs : List (List Bit)). value_at BX xs m) (set_past t.signals n (bit_replaced place bit (value_at BX t.signals n)) (omega arith))))
      (cases_lt n (length s.signals)))
      (λ apart. get_or-set_other s.signals n m (bit_replaced place bit (value_at BX s.signals n)) (BX ∷ []) (λ e. apart (sym e))
      ∙ same.registers m is
      ∙ sym (get_or-set_other t.signals n m (bit_replaced place bit (value_at BX t.signals n)) (BX ∷ []) (λ e. apart (sym e))))
      (cases_eq n m);
  memories = same.memories;
}
state_written d (ToWord memory place word) s t len register same = record {
  registers = same.registers;
  memories = ap (λ (ms : Memories). set ms memory (set (list_at ms memory) place word)) same.memories;
}

abbrev pub count : Store → ℕ
count store = length store.signals

length-written : (store : Store) (w : Write) → count (written store w) ≡ count store
length-written store (ToBit n place bit) = length-set store.signals n (bit_replaced place bit (value_at BX store.signals n))
length-written store (ToWord memory place word) = refl

pub state_stored : (d : Netlist) (writes : List Write) (s t : Store) → count s ≡ count t → All (OfState d) writes → SameRegisters d s t → SameRegisters d (stored writes s) (stored writes t)
state_stored d [] s t len each same = same
state_stored d (w ∷ writes) s t len each same =
    let here = state_written d w s t len (All-head (OfState d) w writes each) same in
    let left = length-written s w in
    let right = length-written t w in
    state_stored d writes (written s w) (written t w) (left ∙ len ∙ sym right) (All-tail (OfState d) w writes each) here
