use Rattle.std.proofs.Common.{◌≡◌, ◌-◌, ◌*◌, ◌≤◌, ℕ, List}
use Rattle.cube_core.specs.Parts.{unit_of}
use Rattle.cube_core.specs.Raw.{IsFound}
use Rattle.command_devices.specs.Devices.{Gave}
use Rattle.raw_streams.proofs.read.read_pieces.Given as goal

abbrev pub invariant-loop-done : goal.invariant-loop-done
invariant-loop-done g l = record {
  within : l.done ≤ l.units;
  worked : g.S.Source.failures l.source ≡ g.S.Source.failures l.fn.source;
  come : (bytes : List ℕ) × Gave (g.S.Source.left l.fn.source) (g.S.Source.left l.source) bytes
      × IsFound l.shape l.fn.kind l.layout bytes (l.done * unit_of l.layout.order l.shape) l.found;
}

abbrev pub decreases-loop-done : goal.decreases-loop-done
decreases-loop-done g l = l.units - l.done
