-- Words are one command at most.
use Rattle.std.proofs.Common.{◌≡◌, ℕ, zero, suc, List, [], ◌∷◌, length, map, get_or, ◌<◌, codes, refl, sym, ap, subst, ◌∙◌, arith}
use Rattle.std.specs.Str.Parse.{digits_value}
use Rattle.vod_thin_window.specs.declared.window.Window as span
use Rattle.vod_program.specs.Command.{IsCommand, IsTime}
use Rattle.vod_program.specs.declared.command.Command.{Command}
use Rattle.vod_program.specs.declared.command.Command.TheVariants.{Record, Window, Dump}

-- the word at a place
word_at : ℕ → List (List ℕ) → List ℕ
word_at i [] = []
word_at zero (w ∷ ws) = w
word_at (suc i) (w ∷ ws) = word_at i ws

one_time : (text other : List ℕ) (a b : ℕ) → text ≡ other → IsTime text a → IsTime other b → a ≡ b
one_time text other a b same h k = sym h.value ∙ ap (digits_value 10) same ∙ k.value

clash : {P : Type 0} (ws us vs : List (List ℕ)) → ws ≡ us → ws ≡ vs → (length us ≡ length vs → ⊥) → P
clash ws us vs a b h = absurd (h (ap length (sym a ∙ b)))

pub one_command : (words : List (List ℕ)) (c d : Command) → IsCommand words c → IsCommand words d → c ≡ d
unfolding word_at
one_command words Record Record h k = refl
one_command words Record (Window window) (d, l, e) (l2, a, b, f, ta, tb) = clash words _ _ e f (λ n. cc)
one_command words Record Dump (d, l, e) (d2, f) = clash words _ _ e f (λ n. cc)
one_command words (Window window) Record (l2, a, b, f, ta, tb) (d, l, e) = clash words _ _ f e (λ n. cc)
one_command words (Window window) (Window other) (l, a, b, e, ta, tb) (l2, a2, b2, f, ta2, tb2) =
    let froms = one_time a a2 window.from other.from (ap (word_at 2) (sym e ∙ f)) ta ta2 in
    let tos = one_time b b2 window.to other.to (ap (word_at 3) (sym e ∙ f)) tb tb2 in
    ap (λ n. Window (record { from = n; to = window.to })) froms ∙ ap (λ n. Window (record { from = other.from; to = n })) tos
one_command words (Window window) Dump (l2, a, b, f, ta, tb) (d, e) = clash words _ _ f e (λ n. cc)
one_command words Dump Record (d2, f) (d, l, e) = clash words _ _ f e (λ n. cc)
one_command words Dump (Window window) (d, e) (l2, a, b, f, ta, tb) = clash words _ _ e f (λ n. cc)
one_command words Dump Dump h k = refl

-- a place of a mapped list
pub map_at : {A B : Type 0} (f : A → B) (xs : List A) (i : ℕ) (x : A) (d : B) → i < length xs → x ≡ get_or xs i x → get_or (map f xs) i d ≡ f x
map_at f [] i x d h e = absurd (omega arith)
map_at f (y ∷ ys) zero x d h e = ap f (sym e)
map_at f (y ∷ ys) (suc i) x d h e = map_at f ys i x d (omega arith) e

pub two_words : (ws : List (List ℕ)) (action : List ℕ) → length ws ≡ 2 → get_or ws 0 [] ≡ action → (x : List ℕ) × (ws ≡ action ∷ x ∷ [])
two_words [] action n e = absurd (omega (arith, n))
two_words (w ∷ []) action n e = absurd (omega (arith, n))
two_words (w ∷ x ∷ []) action n e = (x, ap (λ v. v ∷ x ∷ []) e)
two_words (w ∷ x ∷ y ∷ ys) action n e = absurd (omega (arith, n))

pub three_words : (ws : List (List ℕ)) (action : List ℕ) → length ws ≡ 3 → get_or ws 0 [] ≡ action → (x : List ℕ) × (y : List ℕ) × (ws ≡ action ∷ x ∷ y ∷ [])
three_words [] action n e = absurd (omega (arith, n))
three_words (w ∷ []) action n e = absurd (omega (arith, n))
three_words (w ∷ x ∷ []) action n e = absurd (omega (arith, n))
three_words (w ∷ x ∷ y ∷ []) action n e = (x, y, ap (λ v. v ∷ x ∷ y ∷ []) e)
three_words (w ∷ x ∷ y ∷ z ∷ zs) action n e = absurd (omega (arith, n))

pub four_words : (ws : List (List ℕ)) (action : List ℕ) → length ws ≡ 4 → get_or ws 0 [] ≡ action → (x : List ℕ) × (ws ≡ action ∷ x ∷ get_or ws 2 [] ∷ get_or ws 3 [] ∷ [])
four_words [] action n e = absurd (omega (arith, n))
four_words (w ∷ []) action n e = absurd (omega (arith, n))
four_words (w ∷ x ∷ []) action n e = absurd (omega (arith, n))
four_words (w ∷ x ∷ y ∷ []) action n e = absurd (omega (arith, n))
four_words (w ∷ x ∷ y ∷ z ∷ []) action n e = (x, ap (λ v. v ∷ x ∷ y ∷ z ∷ []) e)
four_words (w ∷ x ∷ y ∷ z ∷ a ∷ more) action n e = absurd (omega (arith, n))

-- four words whose last two aren't times are no command
pub no_times : (ws : List (List ℕ)) → length ws ≡ 4 → ((a b : ℕ) → IsTime (get_or ws 2 []) a → IsTime (get_or ws 3 []) b → ⊥) → (c : Command) → IsCommand ws c → ⊥
no_times ws four none Record (d, l, e) = let three : length ws ≡ 3 = ap length e in absurd (omega (arith, four, three))
no_times ws four none (Window window) (l, a, b, e, ta, tb) =
    none window.from window.to (subst (λ t. IsTime t window.from) (ap (λ (vs : List (List ℕ)). get_or vs 2 []) (sym e)) ta) (subst (λ t. IsTime t window.to) (ap (λ (vs : List (List ℕ)). get_or vs 3 []) (sym e)) tb)
no_times ws four none Dump (d, e) = let two : length ws ≡ 2 = ap length e in absurd (omega (arith, four, two))
