use Rattle.header_bits.proofs.Windows.{front_of_more, front_of_few}
use Rattle.header_bits.proofs.bit_reader.word_of.Goals as goal

pub returns-in-Some : goal.returns-in-Some
returns-in-Some c = front_of_more c.args.bytes.now _ c.word_of_eight.result c.word_of_eight.ensures.bits c.in-Some.ensures.cases.same

pub returns-in-None : goal.returns-in-None
returns-in-None c = front_of_few c.args.bytes.now _ c.word_of_eight-in-None.result c.word_of_eight-in-None.ensures.bits c.padded.ensures
