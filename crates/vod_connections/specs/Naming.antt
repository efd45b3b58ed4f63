-- The rule on names.
use Rattle.std.specs.Prelude.{ℕ, List, ◌++◌}
use Rattle.vod_tree.specs.declared.module.Tree.{Tree}
use Rattle.vod_declared.specs.Faults.{declaration_faults}
use Rattle.vod_uses.specs.Items.{use_faults}
use Rattle.vod_connections.specs.Connections.{source_faults}

-- declarations that are at fault, names that are misused, and connections and parameters of instances that their modules don't have
abbrev pub name_faults : Tree → List ℕ
name_faults t = declaration_faults t ++ (use_faults t ++ source_faults t)
