-- How the memory of a writer grows as data sets are written.
use Rattle.std.proofs.Common.{arith}
use Rattle.header_bits.specs.Bits.{Written}
use Rattle.block_adaptive.specs.Taken.{GrowsByNeed}

pub grows_both : {old mid new : Written} → GrowsByNeed old mid → GrowsByNeed mid new → GrowsByNeed old new
grows_both first second = record {
  longer = omega (arith, first.longer, second.longer);
  bounded = omega (arith, first.bounded, second.bounded, second.longer);
}
