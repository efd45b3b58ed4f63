use Rattle.std.proofs.Common.{◌≡◌, ◌++◌, map, drop}
use Rattle.std.specs.List.{flat_map}
use Rattle.vod_thin_syntax.specs.View.{item_of}
use Rattle.vod_thin.specs.Machine.{read_expr}
use Rattle.vod_thin.specs.Netlists.{driver_of}
use Rattle.vod_thin.proofs.netlist.Builder.drivers.Given as goal

-- the items that are left bring the rest
abbrev pub invariant-loop-item : goal.invariant-loop-item
invariant-loop-item l =
    l.drivers.items ++ flat_map (driver_of l.self.signals.now (read_expr l.self.signals.now)) (map (item_of l.self.text.source.now l.self.text.tokens.now) (drop l.item-index l.items))
    ≡ flat_map (driver_of l.self.signals.now (read_expr l.self.signals.now)) (map (item_of l.self.text.source.now l.self.text.tokens.now) l.items)
