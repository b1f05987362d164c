use Rattle.header_bits.proofs.SpeltLawful.{image_is_lawful}
use Rattle.header_bits.proofs.image_part.part_of.Goals as goal

pub unwrap-requires : goal.unwrap-requires
unwrap-requires c = c.new.ensures.in_range.1 (image_is_lawful c.args.numbers.now c.requires.held c.requires.passed).sizes

pub unwrap-requires-2 : goal.unwrap-requires-2
unwrap-requires-2 c = c.new-2.ensures.in_range.1 (image_is_lawful c.args.numbers.now c.requires.held c.requires.passed).kind
