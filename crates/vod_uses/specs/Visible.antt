-- What names mean where they are used.
use Rattle.std.specs.Prelude.{ℕ, List, [], ◌∷◌, ◌++◌, flat_map}
use Rattle.vod_tree.specs.declared.ident.Ident.{Ident}
use Rattle.vod_tree.specs.declared.module.Module.{Module}
use Rattle.vod_names.specs.declared.entry.Kind.TheVariants.{Integer}
use Rattle.vod_names.specs.Entries.{Named, plain, named}
use Rattle.vod_names.specs.Lists.{declarations}
use Rattle.vod_uses.specs.Calls.{Called, item_functions}
use Rattle.vod_uses.specs.Registers.{registers_after}
use Rattle.vod_uses.specs.declared.scope.Scope.{Scope}

-- inner names, which stand before those of the module, its registers and functions, and a place before which its names are
-- declared (12.7)
pub record Visible : Type 0 where
  pub inner : List Named
  pub outer : List Named
  pub registers : List Named
  pub functions : List Called
  pub limit : ℕ

abbrev pub seen : Scope → Visible
seen s = record { inner = s.inner.now; outer = s.outer.now; registers = s.registers.now; functions = s.functions.now; limit = s.limit }

-- the same before another place, and with other inner names
abbrev pub before : Visible → ℕ → Visible
before v p = record { inner = v.inner; outer = v.outer; registers = v.registers; functions = v.functions; limit = p }

abbrev pub within : Visible → List Named → Visible
within v ds = record { inner = ds; outer = v.outer; registers = v.registers; functions = v.functions; limit = v.limit }

-- the same in the body of a loop, where its index is a constant
abbrev pub in_loop : Visible → Ident → Visible
in_loop v i = within v (v.inner ++ named (plain Integer) i ∷ [])

-- what names mean in a module, before a place
abbrev pub visible : Module → ℕ → Visible
visible m p = record { inner = []; outer = declarations m; registers = registers_after [] (declarations m); functions = flat_map item_functions m.items; limit = p }
