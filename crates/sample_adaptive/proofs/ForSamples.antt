-- Lawful parameters are lawful for the sample-adaptive coder.
use Rattle.std.proofs.Common.{◌≡◌, ◌+◌, ◌-◌, ◌<◌, ◌≤◌, ℕ, refl, sym, subst, arith}
use Rattle.std.specs.List.{slice_index}
use Rattle.header_bits.specs.declared.params.Params.{Params}
use Rattle.header_bits.specs.declared.params.Coder.{Coder}
use Rattle.header_bits.specs.declared.params.Coder.TheVariants.{Sample, Block}
use Rattle.header_bits.specs.declared.params.CountStart.{CountStart}
use Rattle.header_bits.specs.declared.params.CountStart.TheVariants.{Constant, Each}
use Rattle.header_bits.specs.Lawful.{IsLawful, IsCoder, IsCountStart}
use Rattle.cube_core.specs.Shape.{InRange}
use Rattle.header_bits.proofs.TableWriting.{all_at}
use Rattle.sample_adaptive.specs.Statistics.{constant_of}
use Rattle.sample_adaptive.specs.Settings.{IsSample, HasEntries, AreLawful, AreForSamples, coder_settings, settings}

entries : (p : Params) (start : CountStart) → IsCountStart p start → HasEntries p.shape.bands start
entries p (Constant k) h = tt
entries p (Each table) h = h.0

constants : (p : Params) (start : CountStart) → 2 ≤ p.kind.bits → IsCountStart p start → (z : ℕ) → z < p.shape.bands → constant_of start z + 2 ≤ p.kind.bits
unfolding constant_of
constants p (Constant k) b h z lt = omega (arith, h)
constants p (Each table) b h z lt =
    let below : slice_index table z ≤ p.kind.bits - 2 = all_at (λ v. v ≤ p.kind.bits - 2) table z 0 (omega (arith, h.0)) h.1 in omega (arith, below)

by_coder : (p : Params) (coder : Coder) → InRange 2 16 p.kind.bits → IsCoder p coder → IsSample coder
    → AreLawful p.shape.bands (coder_settings p.kind.bits coder)
by_coder p (Sample umax gamma_star gamma_zero start) b h s =
    record { bits = b; umax = h.0; gamma_star = h.1; gamma_zero = h.2; order = h.3; entries = entries p start h.4; constants = constants p start b.0 h.4 }
by_coder p (Block size restricted reference) b h s = absurd s

pub for_samples : (p : Params) → IsLawful p → IsSample p.coder → AreForSamples p
for_samples p h s = record { coder = s; lawful = by_coder p p.coder h.kind h.coder s }

-- parameters with a coder of one constant, each number in its range, are for this coder
pub with_constant : (p : Params) (umax gamma_star gamma_zero k : ℕ) → p.coder ≡ Sample umax gamma_star gamma_zero (Constant k) → InRange 2 16 p.kind.bits
    → InRange 8 32 umax → InRange 4 9 gamma_star → InRange 1 8 gamma_zero → gamma_zero + 1 ≤ gamma_star → k + 2 ≤ p.kind.bits → AreForSamples p
with_constant p umax gamma_star gamma_zero k is bits limit size first order small =
    record {
      coder = subst IsSample (sym is) tt;
      lawful = subst (λ (coder : Coder). AreLawful p.shape.bands (coder_settings p.kind.bits coder)) (sym is)
          (by_coder p (Sample umax gamma_star gamma_zero (Constant k)) bits (limit, size, first, order, omega (arith, small)) tt);
    }

pub settings_bits : (p : Params) → (settings p).bits ≡ p.kind.bits
settings_bits p =
    elim p.coder as (λ k. (coder_settings p.kind.bits k).bits ≡ p.kind.bits) [ Sample umax star zero start ↦ refl | Block size restricted reference ↦ refl ]

pub sample_is : (k : Coder) → IsSample k
    → (umax : ℕ) × (gamma_star : ℕ) × (gamma_zero : ℕ) × (start : CountStart) × (k ≡ Sample umax gamma_star gamma_zero start)
sample_is (Sample umax gamma_star gamma_zero start) is = (umax, gamma_star, gamma_zero, start, refl)
sample_is (Block size restricted reference) is = absurd is
