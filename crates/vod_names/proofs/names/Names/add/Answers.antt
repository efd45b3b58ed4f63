use Rattle.std.proofs.Common.{◌≡◌, ◌++◌, ◌∷◌, [], List, length, map, sym, ◌∙◌, ap, subst, arith}
use Rattle.std.proofs.lemmas.List.{map-append, length-map}
use Rattle.vod_names.specs.declared.entry.Entry.{Entry}
use Rattle.vod_names.specs.Entries.{Named, shown}
use Rattle.vod_names.specs.Tables.{Places, known_after, IsTable}
use Rattle.vod_names.proofs.Tables.{inserted, table_more}
use Rattle.vod_names.proofs.names.Names.add.Goals as goal

pub invariant_of-self-in-Ok-insert : goal.invariant_of-self-in-Ok-insert
invariant_of-self-in-Ok-insert c =
    let places = c.self.inside.known.entries in
    let es = c.self.inside.entries.items in
    let known = c.known_after-known.result in
    let e : Entry = record { name = c.args.name; declaration = c.args.declaration } in
    let n : c.len-number.result ≡ length (map shown es) =
    let own : c.len-number.result ≡ length es = omega (arith, c.len-number.ensures, c.self.inside.entries.ok) in own ∙ sym (length-map es shown) in
    let is = c.known_after-known.ensures ∙ ap (λ o. known_after o c.len-number.result c.args.declaration) c.known_of.ensures in
    let P : Places → Type 0 = λ ps. IsTable ps (map shown c.push.new.self.items) in
    let Q : List Named → Type 0 = λ ds. IsTable (inserted places c.args.name known) ds in
    let more : map shown c.push.new.self.items ≡ map shown es ++ (c.args.name.now, c.args.declaration) ∷ [] = ap (map shown) c.in-Ok.ensures.items ∙ map-append shown es (e ∷ []) in
    subst P (sym c.in-Ok-insert.ensures.entries) (subst Q (sym more) (table_more places (map shown es) c.args.name c.len-number.result c.args.declaration known c.self.invariant n is))
