use Rattle.std.proofs.Common.{◌≡◌, ◌+◌, ◌<◌, ℕ, length}
use Rattle.sample_adaptive.specs.Taken.{CoderState, HasSettings, Reaches, of_band, with_band}
use Rattle.sample_adaptive.specs.BandStates.{IsBandState}
use Rattle.sample_adaptive.proofs.read_run.take_rest.Given as goal

abbrev pub invariant-loop-i : goal.invariant-loop-i
invariant-loop-i l =
    record {
      taken : (v : CoderState) (z t k : ℕ) → z < length v.bands → HasSettings v l.fn.settings.bits l.fn.settings.limit l.fn.settings.rescaling.size
          → of_band v.bands z ≡ l.initial.state.statistics → 0 < t + k
          → Reaches (λ i. z) (λ i. t + i) k l.fn.index l.i v (with_band v z l.state.statistics) l.initial.reader l.reader l.residuals;
      state : IsBandState l.fn.settings l.state;
      count : l.reader.count ≡ l.initial.reader.count;
      long : length l.residuals ≡ length l.initial.residuals;
    }
