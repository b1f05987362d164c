use Rattle.std.proofs.Common.{◌/◌}
use Rattle.header_bits.proofs.Windows.{whole_tail, window_shifted}
use Rattle.header_bits.proofs.bit_reader.window_at.Goals as goal

pub returns : goal.returns
returns c = window_shifted c.args.bytes.now c.args.at c.word_of.result c.requires.within (rw (whole_tail c.args.bytes.now (c.args.at / 8)) at c.word_of.ensures)
