use Rattle.header_bits.proofs.Words.{bits_of_eight}
use Rattle.header_bits.proofs.bit_reader.word_of_eight.Goals as goal

pub returns-clause-bits : goal.returns-clause-bits
returns-clause-bits c = bits_of_eight c.args.bytes.now c.from_be_bytes.result c.told-bytes c.fits-bytes c.from_be_bytes.ensures
