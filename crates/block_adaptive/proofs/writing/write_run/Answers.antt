use Rattle.std.proofs.Common.{arith}
use Rattle.block_adaptive.proofs.Emits.{identifier_zero, run_text_cost}
use Rattle.block_adaptive.proofs.Gathers.{pushed, writes_both}
use Rattle.block_adaptive.proofs.writing.write_run.Goals as goal

pub push_reserved-requires-clause-room : goal.push_reserved-requires-clause-room
push_reserved-requires-clause-room c = grind (arith, run_text_cost)

pub append_fundamental-requires : goal.append_fundamental-requires
append_fundamental-requires c =
    omega (arith, c.requires.room, run_text_cost c.args.set.now c.args.zeros, c.push_reserved.ensures.room, c.identifier_width.ensures.value, c.from.ensures)

pub returns : goal.returns
returns c =
    let first = pushed _ 0 c.push_reserved.ensures.appended c.push_reserved.ensures.room in
    writes_both (rw (c.identifier_width.ensures.value, identifier_zero _) at first) (rw c.from.ensures at c.append_fundamental.ensures)
