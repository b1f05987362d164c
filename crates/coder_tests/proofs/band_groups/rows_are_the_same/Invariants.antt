use Rattle.std.proofs.Common.{◌*◌}
use Rattle.file_encoding.specs.Walks.{AreAt}
use Rattle.coder_tests.proofs.band_groups.rows_are_the_same.Given as goal

abbrev pub invariant-loop-y : goal.invariant-loop-y
invariant-loop-y g l = AreAt l.params l.cube (l.y * l.cube.shape.columns) l.bands
