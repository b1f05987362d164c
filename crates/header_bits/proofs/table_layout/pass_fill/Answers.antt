use Rattle.std.proofs.Common.{ap, ◌∙◌}
use Rattle.header_bits.specs.Parts.{reserved_test}
use Rattle.header_bits.proofs.Numbers.{taken_is}
use Rattle.header_bits.proofs.table_layout.pass_fill.Goals as goal

pub returns-clause-test : goal.returns-clause-test
returns-clause-test c =
    let taken = rw c.unwrap-zeros.ensures at c.take.ensures.taken in
    let below = rw c.unwrap-zeros.ensures at c.take.ensures.below in
    c.check_reserved.ensures
    ∙ ap (reserved_test c.args.at c.args.fill) (taken_is c.args.fill c.unwrap-zeros.result c.args.reader.now.left c.take.new.self.left below taken).0

pub returns-clause-left : goal.returns-clause-left
returns-clause-left c =
    let taken = rw c.unwrap-zeros.ensures at c.take.ensures.taken in
    let below = rw c.unwrap-zeros.ensures at c.take.ensures.below in
    (taken_is c.args.fill c.unwrap-zeros.result c.args.reader.now.left c.take.new.self.left below taken).1
