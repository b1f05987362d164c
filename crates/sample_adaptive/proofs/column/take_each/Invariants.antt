use Rattle.std.proofs.Common.{◌≡◌, ◌+◌, ℕ, eqb, length}
use Rattle.sample_adaptive.specs.Taken.{CoderState, HasSettings, Reaches}
use Rattle.sample_adaptive.specs.BandStates.{AreBandStates, statistics_of}
use Rattle.sample_adaptive.proofs.column.take_each.Given as goal

abbrev pub invariant-loop-i : goal.invariant-loop-i
invariant-loop-i l =
    record {
      taken : (v : CoderState) (b t k : ℕ) → l.fn.z ≡ b + k → l.fn.first ≡ eqb t 0 → v.bands ≡ statistics_of l.initial.bands
          → HasSettings v l.fn.settings.bits l.fn.settings.limit l.fn.settings.rescaling.size
          → Reaches (λ i. b + i) (λ i. t) k l.fn.index l.i v (record v { bands = statistics_of l.bands }) l.initial.reader l.reader l.residuals;
      state : AreBandStates l.fn.settings l.bands;
      count : l.reader.count ≡ l.initial.reader.count;
      long : length l.residuals ≡ length l.initial.residuals;
      bands : length l.bands ≡ length l.initial.bands;
    }
