use Rattle.std.proofs.Common.{rules}
use Rattle.header_bits.specs.TableParts.{weight_count}
use Rattle.header_bits.proofs.weight_part.weight_count.Goals as goal

pub loop-band-preserved : goal.loop-band-preserved
unfolding weight_count
loop-band-preserved c = search rules
