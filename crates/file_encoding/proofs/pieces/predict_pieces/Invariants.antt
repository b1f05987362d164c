use Rattle.std.proofs.Common.{◌+◌, ◌*◌, ◌-◌, length}
use Rattle.file_encoding.specs.Pieces.{IsPast}
use Rattle.file_encoding.proofs.Sending.{Parted}
use Rattle.file_encoding.proofs.pieces.predict_pieces.Given as goal

abbrev pub invariant-loop-first : goal.invariant-loop-first
invariant-loop-first l =
    Parted (IsPast l.params l.rows.image (l.rows.y * l.rows.image.shape.columns + l.x) l.count) l.params l.rows.image (l.rows.y * l.rows.image.shape.columns + l.x) l.first l.bands l.initial.bands

abbrev pub decreases-loop-first : goal.decreases-loop-first
decreases-loop-first l = length l.bands - l.first
