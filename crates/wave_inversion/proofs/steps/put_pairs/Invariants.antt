use Rattle.std.proofs.Common.{◌≡◌, take, length}
use Rattle.wave_inversion.proofs.steps.put_pairs.Given as goal

abbrev pub invariant-loop-k : goal.invariant-loop-k
invariant-loop-k g l = record {
  first : take l.k l.own ≡ take l.k l.pairs;
  long : length l.own ≡ 9;
}
