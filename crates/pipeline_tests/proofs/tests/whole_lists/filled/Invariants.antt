use Rattle.std.proofs.Common.{◌≡◌}
use Rattle.pipeline_tests.proofs.tests.whole_lists.filled.Given as goal

abbrev pub invariant-loop-place : goal.invariant-loop-place
invariant-loop-place g l =
    record {
      first : (l.first.shape ≡ l.cube.shape) × (l.first.kind ≡ l.cube.kind) × (l.first.band ≡ 0);
      second : (l.second.shape ≡ l.cube.shape) × (l.second.kind ≡ l.cube.kind) × (l.second.band ≡ 1);
    }
