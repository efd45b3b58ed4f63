use Rattle.std.proofs.Common.{◌≡◌, ◌∙◌, List, length, None, Some, sym, ap, subst}
use mathlib.Core.List.{reverse}
use Rattle.vod_width.specs.declared.decls.Entry.{Entry}
use Rattle.vod_width.specs.Tables.{Places, joined, IsTable}
use Rattle.vod_width.proofs.Tables.{table_fewer, last_there}
use Rattle.vod_width.proofs.decls.Decls.remove_last.Goals as goal

pub invariant_of-self : goal.invariant_of-self
invariant_of-self c =
    let places = c.self.inside.latest.entries in
    let es = c.pop.new.self.items in
    let P : List Entry → Type 0 = λ xs. IsTable places xs in
    let t = subst P c.in-Some.ensures.items c.self.invariant in
    let Q : Places → Type 0 = λ ps. IsTable ps es in
    subst Q (sym c.in-Ok.ensures.entries) (table_fewer places es c.in-Some.entry t)

pub invariant_of-self-in-Some : goal.invariant_of-self-in-Some
invariant_of-self-in-Some c =
    let places = c.self.inside.latest.entries in
    let es = c.pop.new.self.items in
    let P : List Entry → Type 0 = λ xs. IsTable places xs in
    let t = subst P c.in-Some.ensures.items c.self.invariant in
    let none : None ≡ Some (length (reverse es)) = sym (ap joined c.in-Err.ensures.absent) ∙ last_there places es c.in-Some.entry t in
    absurd (cc)
