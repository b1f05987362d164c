use Rattle.header_bits.proofs.bit_reader.BitReader.fork.Goals as goal

pub returns : goal.returns
returns c = c.self.view_is
