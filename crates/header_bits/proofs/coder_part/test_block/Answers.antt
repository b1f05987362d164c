use Rattle.std.proofs.Common.{◌≡◌, ◌+◌, arith}
use Rattle.header_bits.specs.Layout.{total}
use Rattle.header_bits.proofs.Tests.{passed}
use Rattle.header_bits.proofs.coder_part.test_block.Goals as goal

pub returns : goal.returns
unfolding total
returns c =
    let first : c.args.at + 0 ≡ c.args.at = omega arith in
    passed (rw first at c.in_ok-check_reserved_field.ensures) (rw c.bits-deep.ensures.value at c.disagree_if.ensures)
