-- The plainest parameters of an image, from which others are made by naming the fields that differ.
use Rattle.std.specs.Prelude.{true, pos, negsuc}
use Rattle.cube_core.specs.declared.order.Order.TheVariants.{Bsq}
use Rattle.cube_core.specs.Shape.{Sizes}
use Rattle.cube_core.specs.Kind.{SampleKind}
use Rattle.header_bits.specs.declared.params.Params.{Params}
use Rattle.header_bits.specs.declared.params.WeightStart.TheVariants.{Usual}
use Rattle.header_bits.specs.declared.params.Coder.{Coder}
use Rattle.header_bits.specs.declared.params.Coder.TheVariants.{Sample}
use Rattle.header_bits.specs.declared.params.CountStart.TheVariants.{Constant}

-- the sample-adaptive coder with a unary length limit of 16, counters from 2^1 up to 2^6 - 1, and the constant 3
abbrev pub plain_coder : Coder
plain_coder = Sample 16 6 1 (Constant 3)

-- band by band, in reduced mode with column-oriented sums, from no previous band, by the sample-adaptive coder
abbrev pub plain : Sizes → SampleKind → Params
plain s k = record {
  shape = s;
  kind = k;
  order = Bsq;
  user = 0;
  word = 1;
  previous = 0;
  reduced = true;
  column = true;
  register = 32;
  omega = 13;
  interval_log = 6;
  vmin = negsuc 0;
  vmax = pos 3;
  start = Usual;
  coder = plain_coder;
}
