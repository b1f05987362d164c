use Rattle.std.proofs.Common.{rules}
use Rattle.file_decoding.proofs.minimum_length.test_length.Goals as goal

pub returns-then-left-minimum_length : goal.returns-then-left-minimum_length
returns-then-left-minimum_length c = search rules
