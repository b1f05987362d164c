use Rattle.std.proofs.Common.{◌+◌, ◌*◌, ◌-◌, ◌≤◌}
use Rattle.file_encoding.specs.Walks.{AreAt}
use Rattle.coder_tests.proofs.band_groups.row_is_the_same.Given as goal

abbrev pub invariant-loop-x : goal.invariant-loop-x
invariant-loop-x g l = record {
  within : l.x ≤ l.rows.image.shape.columns;
  at : AreAt l.params l.rows.image (l.rows.y * l.rows.image.shape.columns + l.x) l.bands;
}

abbrev pub decreases-loop-x : goal.decreases-loop-x
decreases-loop-x g l = l.columns - l.x
