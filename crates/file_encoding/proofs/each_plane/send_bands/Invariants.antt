use Rattle.std.proofs.Common.{◌-◌, ◌∷◌, [], take, length, true}
use Rattle.std.specs.List.{flat_map}
use Rattle.file_encoding.specs.Own.{rows_of}
use Rattle.file_encoding.specs.Walks.{bands_of}
use Rattle.file_encoding.proofs.Sending.{Parted}
use Rattle.file_encoding.proofs.each_plane.send_bands.Given as goal

abbrev pub invariant-loop-first : goal.invariant-loop-first
invariant-loop-first g l = record {
  parted : Parted (λ b. Unit) l.params l.cube 0 l.first l.bands l.initial.bands;
  sent : g.T.Taker.takes l.initial.taker l.taker true (flat_map (λ z. rows_of l.params l.cube (z ∷ [])) (take l.first (bands_of l.initial.bands)));
}

abbrev pub decreases-loop-first : goal.decreases-loop-first
decreases-loop-first g l = length l.bands - l.first
