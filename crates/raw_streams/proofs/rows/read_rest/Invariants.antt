use Rattle.std.proofs.Common.{◌≡◌, ◌-◌, ◌*◌, ◌≤◌, ℕ, List, length}
use Rattle.command_devices.specs.Devices.{Gave}
use Rattle.raw_streams.specs.Rows.{row_bytes}
use Rattle.raw_streams.proofs.rows.read_rest.Given as goal

abbrev pub invariant-loop-done : goal.invariant-loop-done
invariant-loop-done g l = record {
  within : (l.y ≤ l.done) × (l.done ≤ l.rows);
  long : length l.bytes ≡ row_bytes l.shape l.layout;
  some : 1 ≤ row_bytes l.shape l.layout;
  worked : g.S.Source.failures l.source ≡ g.S.Source.failures l.fn.source;
  come : (bytes : List ℕ) × Gave (g.S.Source.left l.fn.source) (g.S.Source.left l.source) bytes × (length bytes ≡ (l.done - l.y) * row_bytes l.shape l.layout);
}

abbrev pub decreases-loop-done : goal.decreases-loop-done
decreases-loop-done g l = l.rows - l.done
