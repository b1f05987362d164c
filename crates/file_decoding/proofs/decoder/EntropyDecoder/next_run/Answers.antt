use Rattle.std.proofs.Common.{◌+◌, arith}
use Rattle.file_decoding.proofs.Givers.{may_give, samples_each}
use Rattle.file_decoding.proofs.decoder.EntropyDecoder.next_run.Goals as goal

pub get_run-requires-clause-band : goal.get_run-requires-clause-band
get_run-requires-clause-band c = (rw c.in-Samples.is at (may_give _ c.requires.may c.requires.small.0)) 0 c.requires.small.0

pub next_of_blocks-requires : goal.next_of_blocks-requires
next_of_blocks-requires c =
    let room = rw c.in-Blocks.is at (may_give _ c.requires.may c.requires.small.0) in
    omega (arith, room)

pub returns-in-Samples-clause-given : goal.returns-in-Samples-clause-given
returns-in-Samples-clause-given c =
    rw c.in-Samples.is (samples_each _ _ _ _ _ _ _ _ _ c.get_run.ensures.taken c.get_run.ensures.bands.0)

pub returns-in-Blocks-clause-given : goal.returns-in-Blocks-clause-given
returns-in-Blocks-clause-given c = rw c.in-Blocks.is (c.next_of_blocks.ensures.given (λ i. c.args.z) (λ i. c.args.t + i) c.args.index)
