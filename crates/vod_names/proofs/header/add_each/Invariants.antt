use Rattle.std.proofs.Common.{◌≡◌, ◌++◌, drop}
use Rattle.vod_names.specs.Lists.{each_named}
use Rattle.vod_names.proofs.header.add_each.Given as goal

abbrev pub invariant-loop-ident : goal.invariant-loop-ident
invariant-loop-ident l = l.names ++ each_named l.declaration (drop l.ident-index l.idents) ≡ l.fn.names ++ each_named l.declaration l.idents
