use Rattle.header_bits.proofs.Ahead.{shifted_after}
use Rattle.header_bits.proofs.bit_reader.bits_after.Goals as goal

pub returns : goal.returns
returns c = shifted_after c.args.word c.args.highest c.args.n c.requires.few c.requires.within
