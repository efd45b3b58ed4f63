use Rattle.std.proofs.Common.{◌≡◌, ◌∷◌, ◌∙◌, List, length, Some, ap, sym, subst, arith}
use Rattle.vod_width.specs.declared.decls.Entry.{Entry}
use Rattle.vod_width.specs.Tables.{Places, declarations, IsTable, shown}
use Rattle.vod_width.proofs.Tables.{inserted, declared_more, table_more}
use Rattle.vod_width.proofs.decls.Decls.add.Goals as goal

pub invariant_of-self-in-Ok : goal.invariant_of-self-in-Ok
invariant_of-self-in-Ok c =
    let places = c.self.inside.latest.entries in
    let es = c.self.inside.entries.items in
    let e : Entry = record { name = c.args.name; declared = c.args.declared; hidden = c.place_of-hidden.result } in
    let n : c.len-place.result ≡ length es = omega (arith, c.len-place.ensures, c.self.inside.entries.ok) in
    let P : Places → Type 0 = λ ps. IsTable ps c.push.new.self.items in
    let Q : List Entry → Type 0 = λ xs. IsTable (inserted places e.name (Some c.len-place.result)) xs in
    subst P (sym c.in-Ok.ensures.entries) (subst Q (sym c.in_ok-push.ensures.items) (table_more places es e c.len-place.result c.self.invariant n c.place_of-hidden.ensures))

pub returns-in-Ok-clause-ok : goal.returns-in-Ok-clause-ok
returns-in-Ok-clause-ok c =
    let es = c.self.inside.entries.items in
    let e : Entry = record { name = c.args.name; declared = c.args.declared; hidden = c.place_of-hidden.result } in
    ap declarations c.in_ok-push.ensures.items ∙ declared_more es e ∙ ap (λ ds. shown e ∷ ds) c.self.view_is
