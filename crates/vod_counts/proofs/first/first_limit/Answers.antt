use Rattle.std.proofs.Common.{◌≡◌, ◌∙◌, ℕ, List, Option, nat_lt, false, sym, subst, ap, arith, length}
use Rattle.std.proofs.lemmas.Bool.Decides.{nat_tests}
use Rattle.vod_tree.specs.declared.«module».SourceItem.{SourceItem}
use Rattle.vod_modules.specs.Faults.{module_count}
use Rattle.vod_modules.specs.Names.{heads_in}
use Rattle.vod_counts.specs.Limits.{top_of, number_in_head}
use Rattle.vod_counts.specs.Totals.{AreTotals}
use Rattle.vod_counts.proofs.Past.{past_limit}
use Rattle.vod_counts.proofs.first.first_limit.Goals as goal

pub returns : goal.returns
returns c =
    let t = c.args.tree.now in
    let s = c.in_ok-totals.totals in
    let heads : length c.in_ok-heads.heads.items ≡ module_count t = ap length (c.in_ok-heads.ensures ∙ ap heads_in c.as_slice-parts.ensures) in
    let size : c.len-count.result ≡ module_count t = omega (arith, c.len-count.ensures, heads, c.in_ok-heads.heads.ok) in
    let top : top_of t ≡ c.args.modules.now.top.number = ap number_in_head c.requires.top in
    let few : nat_lt 256 (module_count t) ≡ false = grind (arith, nat_tests, size, c.if-len-gt-MOST_MODULES.false) in
    let one = subst (λ (ps : List SourceItem). AreTotals ps c.len-count.result c.args.modules.now.top.number s) c.as_slice-parts.ensures c.in_ok-totals.ensures in
    let two = subst (λ (n : ℕ). AreTotals t.items n c.args.modules.now.top.number s) size one in
    let three = subst (λ (o : Option ℕ). AreTotals t.items (module_count t) o s) (sym top) two in
    c.past.ensures ∙ past_limit t s few three
