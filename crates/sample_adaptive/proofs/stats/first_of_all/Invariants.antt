use Rattle.std.proofs.Common.{◌≡◌, ℕ, ◌<◌, length}
use Rattle.sample_adaptive.specs.Statistics.{constant_of, start_statistics}
use Rattle.sample_adaptive.specs.BandStates.{IsBandState, state_of}
use Rattle.sample_adaptive.proofs.stats.first_of_all.Given as goal

abbrev pub invariant-loop-z : goal.invariant-loop-z
invariant-loop-z l = record {
  count : length l.bands ≡ l.count;
  first : (k : ℕ) → k < l.z → (state_of l.bands k).statistics ≡ start_statistics l.gamma_zero (constant_of l.start k);
  state : (k : ℕ) → k < l.z → IsBandState l.settings (state_of l.bands k);
}
