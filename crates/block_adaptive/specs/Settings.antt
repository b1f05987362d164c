-- The settings of the block-adaptive coder among the parameters.
use Rattle.std.specs.Prelude.{ℕ, ◌≡◌, ◌⊎◌, ◌*◌, ◌≤◌, false}
use Rattle.cube_core.specs.Shape.{InRange, sample_count}
use Rattle.header_bits.specs.declared.params.Params.{Params}
use Rattle.header_bits.specs.declared.params.Coder.{Coder}
use Rattle.header_bits.specs.declared.params.Coder.TheVariants.{Sample, Block}
use Rattle.block_adaptive.specs.Segments.{block_count}
use Rattle.block_adaptive.specs.DataSets.{Cut, cut_of, capacity}

-- how n residuals of `bits` bits are cut into blocks
abbrev pub coder_cut : ℕ → ℕ → Coder → Cut
coder_cut bits n (Block size restricted reference) = cut_of (record { bits = bits; restricted = restricted }) size reference n
coder_cut bits n (Sample umax gamma_star gamma_zero start) = cut_of (record { bits = bits; restricted = false }) 8 1 n

-- how an image's residuals are cut into blocks
abbrev pub cut_by : Params → Cut
cut_by p = coder_cut p.kind.bits (sample_count p.shape) p.coder

-- the coder is the block-adaptive one
abbrev pub IsBlock : Coder → Type 0
IsBlock (Block size restricted reference) = Unit {0}
IsBlock (Sample umax gamma_star gamma_zero start) = ⊥

-- J is 8, 16, 32 or 64
abbrev pub IsSize : ℕ → Type 0
IsSize size = (size ≡ 8) ⊎ (size ≡ 16) ⊎ (size ≡ 32) ⊎ (size ≡ 64)

-- D, J and r are in their ranges
pub record IsCut (c : Cut) : Type 0 where
  pub bits : InRange 2 16 c.set.bits
  pub size : IsSize c.size
  pub reference : InRange 1 4096 c.reference

-- n residuals in ⌈n / J⌉ blocks, the least number that holds them
pub record IsCutOf (n : ℕ) (c : Cut) : Type 0 where
  pub lawful : IsCut c
  pub blocks : c.count ≡ block_count c.size n
  pub room : n ≤ capacity c
  pub least : (blocks : ℕ) → n ≤ blocks * c.size → c.count ≤ blocks

-- the parameters name this coder, and its settings are in range
pub record AreForBlocks (p : Params) : Type 0 where
  pub coder : IsBlock p.coder
  pub lawful : IsCut (cut_by p)
