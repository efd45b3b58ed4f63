use Rattle.std.proofs.Common.{◌≡◌, ◌∙◌, ◌<◌, ap, sym, subst, arith, List, ℕ, length, All}
use Rattle.vod_fanout.specs.declared.Feed.{Feed}
use Rattle.vod_components.specs.Components.{IsComponents}
use Rattle.vod_modules.specs.Names.{heads_in, number_of}
use Rattle.vod_modules.specs.Uses.{uses_in, edges_of}
use Rattle.vod_modules.specs.Faults.{tops, fault_in, module_count, tree_edges}
use Rattle.vod_modules.proofs.Growing.{edge_sources, edge_readers}
use Rattle.vod_modules.proofs.judge.Goals as goal

pub components_of-requires-clause-sources : goal.components_of-requires-clause-sources
components_of-requires-clause-sources c =
    let P : List Feed → Type 0 = λ es. All (λ e. e.source < c.in_ok-count.count) es in
    subst P (sym (c.as_slice-2.ensures.value ∙ c.in_ok-edges.ensures)) (edge_sources c.in_ok-count.count c.as_slice.result.now)

pub components_of-requires-clause-readers : goal.components_of-requires-clause-readers
components_of-requires-clause-readers c =
    let P : List Feed → Type 0 = λ es. All (λ e. e.reader < c.in_ok-count.count) es in
    subst P (sym (c.as_slice-2.ensures.value ∙ c.in_ok-edges.ensures)) (edge_readers c.in_ok-count.count c.as_slice.result.now)

pub tops-requires : goal.tops-requires
tops-requires c =
    let P : List Feed → Type 0 = λ es. All (λ e. e.reader < c.in_ok-count.count) es in
    subst P (sym (c.as_slice-3.ensures.value ∙ c.in_ok-edges.ensures)) (edge_readers c.in_ok-count.count c.as_slice.result.now)

pub returns : goal.returns
returns c =
    let tree = c.args.tree.now in
    let parts_are : c.as_slice-parts.result.now ≡ tree.items = c.as_slice-parts.ensures in
    let heads_are : c.in_ok-heads.heads.items ≡ heads_in tree.items = c.in_ok-heads.ensures ∙ ap heads_in parts_are in
    let uses_are : c.in_ok-uses.uses.items ≡ uses_in tree.items = c.in_ok-uses.ensures ∙ ap uses_in parts_are in
    let size = ap length heads_are in
    let count_is : c.in_ok-count.count ≡ module_count tree = omega (arith, c.in_ok-count.ensures, c.len.ensures, c.in_ok-heads.heads.ok, size) in
    let edges_are : c.in_ok-edges.edges.items ≡ tree_edges tree = c.in_ok-edges.ensures ∙ ap (edges_of c.in_ok-count.count) (c.as_slice.ensures.value ∙ uses_are) ∙ ap (λ n. edges_of n (uses_in tree.items)) count_is in
    let numbers = c.in_ok-components.components.numbers.items in
    let nodes = c.in_ok-components.components.nodes.items in
    let P : List Feed → Type 0 = λ es. IsComponents es c.in_ok-count.count numbers nodes in
    let Q : ℕ → Type 0 = λ n. IsComponents (tree_edges tree) n numbers nodes in
    let tops_are : c.in_ok-tops.tops.items ≡ tops (tree_edges tree) (heads_in tree.items) = c.in_ok-tops.ensures ∙ ap (λ es. tops es c.as_slice-4.result.now) (c.as_slice-3.ensures.value ∙ edges_are) ∙ ap (tops (tree_edges tree)) (c.as_slice-4.ensures.value ∙ heads_are) in
    let given : c.as_slice-7.result.now ≡ tops (tree_edges tree) c.as_slice-5.result.now = c.as_slice-7.ensures.value ∙ tops_are ∙ ap (tops (tree_edges tree)) (sym (c.as_slice-5.ensures.value ∙ heads_are)) in record {
      names = c.in_ok-names.ensures ∙ ap number_of parts_are;
      components = subst Q count_is (subst P (c.as_slice-2.ensures.value ∙ edges_are) c.in_ok-components.ensures);
      fault = c.fault_in-fault.ensures (tree_edges tree) given ∙ ap (λ ns. fault_in ns (tree_edges tree) c.as_slice-5.result.now c.as_slice-6.result.now) c.as_slice-numbers.ensures.value ∙ ap (λ hs. fault_in numbers (tree_edges tree) hs c.as_slice-6.result.now) (c.as_slice-5.ensures.value ∙ heads_are) ∙ ap (fault_in numbers (tree_edges tree) (heads_in tree.items)) (c.as_slice-6.ensures.value ∙ uses_are);
      tops = tops_are;
    }
