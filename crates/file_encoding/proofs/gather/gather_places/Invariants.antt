use Rattle.std.proofs.Common.{◌≡◌, ◌*◌, ◌-◌, ◌≤◌, length, take}
use Rattle.std.specs.List.{flat_map}
use Rattle.cube_core.specs.Order.{from}
use Rattle.file_encoding.specs.Pieces.{held_at}
use Rattle.file_encoding.proofs.gather.gather_places.Given as goal

abbrev pub invariant-loop-k : goal.invariant-loop-k
invariant-loop-k l = record { within : l.k ≤ l.count; done : take (l.k * length l.bands) l.residuals ≡ flat_map (λ i. held_at l.bands i) (from l.first l.k) }

abbrev pub decreases-loop-k : goal.decreases-loop-k
decreases-loop-k l = l.count - l.k

abbrev pub invariant-loop-i : goal.invariant-loop-i
invariant-loop-i l = take (l.i * length l.bands) l.residuals ≡ flat_map (λ i. held_at l.bands i) (from l.first l.i)
