-- What a module without fault declares.
use Rattle.std.specs.Prelude.{◌≡◌, ◌⊎◌, true, List, ◌∷◌, ◌++◌, None, Some}
use Rattle.vod_tree.specs.declared.module.Module.{Module}
use Rattle.vod_tree.specs.declared.module.SourceItem.{SourceItem}
use Rattle.vod_tree.specs.declared.module.SourceItem.TheVariants as part
use Rattle.vod_tree.specs.declared.module.Tree.{Tree}
use Rattle.vod_names.specs.declared.entry.Declaration.{Declaration}
use Rattle.vod_names.specs.Entries.{Named, last_of}
use Rattle.vod_names.specs.Lists.{declarations}
use Rattle.vod_declared.specs.Faults.{completes}

-- before a declaration none of its name stands, or it completes the last of these
abbrev pub AreOnce : List Named → Type 0
AreOnce ds =
    (before : List Named) → (d : Named) → (after : List Named) → ds ≡ before ++ d ∷ after
    → (last_of d.0 before ≡ None) ⊎ ((e : Declaration) × ((last_of d.0 before ≡ Some e) × (completes e d.1 ≡ true)))

-- a fact on what each module of a source declares
abbrev pub OfModules : Tree → (List Named → Type 0) → Type 0
OfModules t Fact = (before : List SourceItem) → (m : Module) → (after : List SourceItem) → t.items ≡ before ++ part.Module m ∷ after → Fact (declarations m)
