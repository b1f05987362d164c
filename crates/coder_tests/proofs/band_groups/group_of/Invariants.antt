use Rattle.file_encoding.specs.Walks.{AreAt}
use Rattle.coder_tests.proofs.band_groups.group_of.Given as goal

abbrev pub invariant-loop-z : goal.invariant-loop-z
invariant-loop-z g l = AreAt l.params l.cube 0 l.bands.items
