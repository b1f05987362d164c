use Rattle.block_adaptive.proofs.Gathers.{pushed}
use Rattle.block_adaptive.proofs.written_split.append_long_codes.Goals as goal

pub push_reserved-requires-clause-room : goal.push_reserved-requires-clause-room
push_reserved-requires-clause-room c = rw c.quotients_cost-cost.ensures.value c.requires.room

pub returns-then-cost-lt64 : goal.returns-then-cost-lt64
returns-then-cost-lt64 c =
    rw (c.quotients_cost-cost.ensures.value, c.quotient_word.ensures.bits)
    at (pushed c.quotients_cost-cost.result c.quotient_word.result c.push_reserved.ensures.appended c.push_reserved.ensures.room)
