use Rattle.file_decoding.specs.Tiles.{HasStored}
use Rattle.std.proofs.Common.{◌≤◌, ◌-◌}
use Rattle.file_decoding.proofs.tile.Tile.store.Given as goal

abbrev pub invariant-loop-b : goal.invariant-loop-b
invariant-loop-b l = record { stored : HasStored l.initial.cube l.cube l.self l.numbers l.b; within : l.b ≤ l.self.bands }

abbrev pub decreases-loop-b : goal.decreases-loop-b
decreases-loop-b l = l.self.bands - l.b
