use Rattle.std.proofs.Common.{rules, arith, ap, ◌+◌, ◌≤◌}
use Rattle.header_bits.proofs.Pushes.{part_pushed}
use Rattle.header_bits.proofs.bit_writer.BitWriter.push.Goals as goal

pub returns-then-self-n-clause-appended : goal.returns-then-self-n-clause-appended
returns-then-self-n-clause-appended c =
    let few : c.self.inside.held + c.args.n ≤ 64 = grind arith in
    part_pushed _ _ _ _ _ _ c.requires.below few (ap (λ w. w.bits) c.self.view_is)

pub push_reserved-requires-clause-room : goal.push_reserved-requires-clause-room
push_reserved-requires-clause-room c = search rules
