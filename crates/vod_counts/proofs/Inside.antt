-- The instances of a source are of modules that there are, and each module has one count.
use Rattle.std.proofs.Common.{◌≡◌, ◌<◌, ℕ, nat_lt, Bool, true, false, cond, ◌&&◌, sym, List, [], ◌∷◌, All, Option, None, Some, flat_map, length, slice_index, ◌+◌, ◌∙◌, refl, ap, arith}
use Rattle.std.proofs.lemmas.List.{length-append}
use Rattle.std.proofs.lemmas.Bool.{ltb-true}
use Rattle.std.proofs.lemmas.List.Elements.{All-nil, All-cons, All-append}
use Rattle.vod_tree.specs.declared.instance.Instance.{Instance}
use Rattle.vod_tree.specs.declared.instance.Instances.{Instances}
use Rattle.vod_tree.specs.declared.«module».Item.{Item}
use Rattle.vod_tree.specs.declared.«module».Module.{Module}
use Rattle.vod_tree.specs.declared.«module».SourceItem.{SourceItem}
use Rattle.vod_fanout.specs.declared.Feed.{Feed}
use Rattle.vod_modules.specs.Names.{module_in, number_of, head_in, heads_in}
use Rattle.vod_modules.specs.Uses.{instances_in, edge_of}
use Rattle.vod_counts.specs.Edges.{instances_edges, item_edges, module_edges, instance_edges}
use Rattle.vod_counts.specs.Limits.{each_module, one_count, signal_count, token_count}
use Rattle.vod_counts.specs.Counts.{instances_of, total, capped, IsTable}
use Rattle.vod_counts.specs.Totals.{summed}
use Rattle.vod_counts.proofs.Past.{total_capped}

abbrev Inside : ℕ → Feed → Type 0
Inside n e = (e.source < n) × (e.reader < n)

all_flat : {A B : Type 0} (P : B → Type 0) (f : A → List B) (xs : List A) → ((x : A) → All P (f x)) → All P (flat_map f xs)
all_flat P f [] h = All-nil P
all_flat P f (x ∷ xs) h = All-append P (f x) (flat_map f xs) (h x) (all_flat P f xs h)

edge_kept : (n : ℕ) (e : Feed) (s t : Bool) → s ≡ nat_lt e.source n → t ≡ nat_lt e.reader n → All {X = Feed} (Inside n) (cond (s && t) (e ∷ []) [])
edge_kept n e true true h k = All-cons (Inside n) e [] (ltb-true e.source n (sym h), ltb-true e.reader n (sym k)) (All-nil (Inside n))
edge_kept n e true false h k = All-nil (Inside n)
edge_kept n e false t h k = All-nil (Inside n)

edge_inside : (n : ℕ) (user used : Option ℕ) → All (Inside n) (edge_of n user used)
edge_inside n None used = All-nil (Inside n)
edge_inside n (Some p) None = All-nil (Inside n)
edge_inside n (Some p) (Some q) = edge_kept n (record { source = p; reader = q }) (nat_lt p n) (nat_lt q n) refl refl

instances_inside : (numbers : List ℕ → Option ℕ) (n : ℕ) (user : Option ℕ) (i : Option Instances) → All (Inside n) (instances_edges numbers n user i)
instances_inside numbers n user None = All-nil (Inside n)
instances_inside numbers n user (Some i) = all_flat (Inside n) (λ (x : Instance). edge_of n user (numbers i.«module».name)) i.instances (λ x. edge_inside n user (numbers i.«module».name))

module_inside : (numbers : List ℕ → Option ℕ) (n : ℕ) (m : Option Module) → All (Inside n) (module_edges numbers n m)
module_inside numbers n None = All-nil (Inside n)
module_inside numbers n (Some m) = all_flat (Inside n) (item_edges numbers n (numbers m.name.name)) m.items (λ (i : Item). instances_inside numbers n (numbers m.name.name) (instances_in i.kind))

all_inside : (n : ℕ) (parts : List SourceItem) → All (Inside n) (instance_edges n parts)
all_inside n parts = all_flat (Inside n) (λ x. module_edges (number_of parts) n (module_in x)) parts (λ x. module_inside (number_of parts) n (module_in x))

pub sources_inside : (n : ℕ) (parts : List SourceItem) → All (λ (e : Feed). e.source < n) (instance_edges n parts)
sources_inside n parts k d lt = (all_inside n parts k d lt).0

pub readers_inside : (n : ℕ) (parts : List SourceItem) → All (λ (e : Feed). e.reader < n) (instance_edges n parts)
readers_inside n parts k d lt = (all_inside n parts k d lt).1

-- a count of each module is as long as the list of modules
pub record IsCount (count : Option Module → List ℕ) : Type 0 where
  pub nothing : count None ≡ []
  pub one : (m : Module) → length (count (Some m)) ≡ 1

part_length : (count : Option Module → List ℕ) → IsCount count → (numbers : List ℕ → Option ℕ) (m : Option Module) → length (count m) ≡ length (head_in numbers m)
part_length count h numbers None = ap length h.nothing
part_length count h numbers (Some m) = h.one m

pub each_length : (count : Option Module → List ℕ) → IsCount count → (numbers : List ℕ → Option ℕ) (parts : List SourceItem)
    → length (each_module count parts) ≡ length (flat_map (λ x. head_in numbers (module_in x)) parts)
each_length count h numbers [] = refl
each_length count h numbers (x ∷ parts) =
    let one = part_length count h numbers (module_in x) in
    let more = each_length count h numbers parts in
    length-append (count (module_in x)) (each_module count parts) ∙ ap (λ n. n + length (each_module count parts)) one ∙ ap (λ n. length (head_in numbers (module_in x)) + n) more
    ∙ sym (length-append (head_in numbers (module_in x)) (flat_map (λ y. head_in numbers (module_in y)) parts))

pub ones_count : IsCount one_count
ones_count = record { nothing = refl; one = λ m. refl }

pub signals_count : IsCount signal_count
signals_count = record { nothing = refl; one = λ m. refl }

pub tokens_count : IsCount token_count
tokens_count = record { nothing = refl; one = λ m. refl }

-- so the sums are alike as far as they are told apart
pub sums_alike : (parts : List SourceItem) (n : ℕ) (top : Option ℕ) (table : List ℕ) (count : Option Module → List ℕ) (s : ℕ) → n ≡ length (heads_in parts) → IsCount count
    → IsTable n (instances_of (instance_edges n parts) top n) table → capped s ≡ capped (total (slice_index table) 0 (each_module count parts)) → capped s ≡ capped (summed parts n top count)
sums_alike parts n top table count s size h table_is e =
    let len : length (each_module count parts) ≡ length (heads_in parts) = each_length count h (number_of parts) parts in
    e ∙ total_capped (slice_index table) (instances_of (instance_edges n parts) top n) n 0 (each_module count parts) (omega (arith, len, size)) table_is.1

pub sums_of : (parts : List SourceItem) (n : ℕ) (top : Option ℕ) (table t ws : List ℕ) (count : Option Module → List ℕ) (s : ℕ) → n ≡ length (heads_in parts) → IsCount count
    → IsTable n (instances_of (instance_edges n parts) top n) table → t ≡ table → ws ≡ each_module count parts → capped s ≡ capped (total (slice_index t) 0 ws) → capped s ≡ capped (summed parts n top count)
sums_of parts n top table t ws count s size h table_is ht hw e =
    sums_alike parts n top table count s size h table_is (e ∙ ap (λ x. capped (total (slice_index x) 0 ws)) ht ∙ ap (λ w. capped (total (slice_index table) 0 w)) hw)
