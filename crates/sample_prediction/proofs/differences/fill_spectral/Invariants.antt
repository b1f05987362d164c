use Rattle.std.proofs.Common.{◌≡◌, ◌-◌, ◌++◌, take, length, pos, replicate}
use Rattle.sample_prediction.specs.Differences.{spectral_differences}
use Rattle.sample_prediction.specs.Bounds.{AllWithin}
use Rattle.sample_prediction.proofs.differences.fill_spectral.Given as goal

abbrev pub invariant-loop-i : goal.invariant-loop-i
invariant-loop-i g l = record {
  filled : l.out ≡ take l.first l.fn.out ++ spectral_differences l.predictor l.rows.image l.z l.y l.x l.i ++ replicate (18 - l.first - l.i) (pos 0);
  bound : AllWithin 262144 l.out;
  long : length l.out ≡ 18;
}
