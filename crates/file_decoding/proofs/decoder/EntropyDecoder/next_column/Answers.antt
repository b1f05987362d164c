use Rattle.std.proofs.Common.{◌+◌, ◌-◌, length, arith}
use Rattle.file_decoding.proofs.Givers.{may_give, samples_each}
use Rattle.file_decoding.proofs.decoder.EntropyDecoder.next_column.Goals as goal

pub get_column-requires-clause-inside : goal.get_column-requires-clause-inside
get_column-requires-clause-inside c =
    let last = (rw c.in-Samples.is at (may_give _ c.requires.may c.requires.small.0)) (length c.args.deltas.now - 1) (omega (arith, c.requires.small)) in
    omega (arith, last, c.requires.small)

pub next_of_blocks-requires : goal.next_of_blocks-requires
next_of_blocks-requires c =
    let room = rw c.in-Blocks.is at (may_give _ c.requires.may c.requires.small.0) in
    omega (arith, room)

pub returns-in-Samples-clause-given : goal.returns-in-Samples-clause-given
returns-in-Samples-clause-given c =
    rw c.in-Samples.is (samples_each _ _ _ _ _ _ _ _ _ c.get_column.ensures.taken c.get_column.ensures.bands.0)

pub returns-in-Blocks-clause-given : goal.returns-in-Blocks-clause-given
returns-in-Blocks-clause-given c = rw c.in-Blocks.is (c.next_of_blocks.ensures.given (λ i. c.args.z + i) (λ i. c.args.t) c.args.index)
