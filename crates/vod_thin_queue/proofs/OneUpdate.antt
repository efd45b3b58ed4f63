-- A list of optional updates as lists of updates.
use Rattle.std.proofs.Common.{◌≡◌, ℕ, ◌+◌, zero, suc, Bool, true, false, cond, List, [], ◌∷◌, ◌++◌, length, map, set, take, drop, get_or, replicate, refl, ap, sym, ◌∙◌, Option, Some, None, is_some, count_by, unwrap_or, slice_index_or}
use Rattle.std.proofs.lemmas.List.{map-set, take-map, length-map}
use Rattle.vod_thin_design.specs.declared.thin.Bit.{Bit}
use Rattle.vod_thin_design.specs.declared.thin.Bit.TheVariants.{X}
use Rattle.vod_thin_queue.specs.State.{option_at, list_at}
use Rattle.vod_thin_queue.specs.Step.{is_filled}
use Rattle.vod_thin_queue.specs.Core.{updates_of}
use Rattle.vod_thin_queue.proofs.Count.{count_by-cons}

pub list_at-updates : (options : List (Option Bit)) (k : ℕ) → list_at (map updates_of options) k ≡ updates_of (option_at options k)
list_at-updates [] k = refl
list_at-updates (option ∷ options) zero = refl
list_at-updates (option ∷ options) (suc k) = list_at-updates options k

pub is_filled-updates : (option : Option Bit) → is_filled (updates_of option) ≡ is_some option
is_filled-updates None = refl
is_filled-updates (Some bit) = refl

pub count-updates : (options : List (Option Bit)) → count_by is_filled (map updates_of options) ≡ count_by is_some options
count-updates [] = refl
count-updates (option ∷ options) =
    count_by-cons is_filled (updates_of option) (map updates_of options)
    ∙ ap (λ (b : Bool). cond {A = ℕ} b 1 0 + count_by is_filled (map updates_of options)) (is_filled-updates option)
    ∙ ap (λ n. cond {A = ℕ} (is_some option) 1 0 + n) (count-updates options)
    ∙ sym (count_by-cons is_some option options)

rest-updates : (option : Option Bit) → drop 1 (updates_of option) ≡ []
rest-updates None = refl
rest-updates (Some bit) = refl

-- an update of a block that had none
pub updates-add : (lists : List (List Bit)) (options after : List (Option Bit)) (k : ℕ) (bit : Bit) → map updates_of options ≡ lists → list_at lists k ≡ [] → after ≡ set options k (Some bit) → map updates_of after ≡ set lists k (list_at lists k ++ bit ∷ [])
updates-add lists options after k bit same none is = rw (is, none, ← same) (map-set updates_of options k (Some bit))

-- the first update of a block is taken
pub updates-rest : (lists : List (List Bit)) (options after : List (Option Bit)) (k : ℕ) → map updates_of options ≡ lists → after ≡ set options k None → map updates_of after ≡ set lists k (drop 1 (list_at lists k))
updates-rest lists options after k same is = rw (is, ← same, list_at-updates options k, rest-updates (option_at options k)) (map-set updates_of options k None)

pub updates-nth : (lists : List (List Bit)) (options : List (Option Bit)) (k nth : ℕ) → map updates_of options ≡ lists → count_by is_some (take k options) ≡ nth → count_by is_filled (take k lists) ≡ nth
updates-nth lists options k nth same is = rw (← same, take-map updates_of k options) (count-updates (take k options) ∙ is)
