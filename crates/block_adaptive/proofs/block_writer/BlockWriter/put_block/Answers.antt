use Rattle.std.proofs.Common.{◌≡◌, ◌∙◌, ◌+◌, ◌-◌, ◌++◌, length, take, ap, arith, rules}
use Rattle.std.proofs.lemmas.List.{take_all}
use Rattle.block_adaptive.specs.Taken.{WriterState}
use Rattle.block_adaptive.proofs.Counts.{room_left}
use Rattle.block_adaptive.proofs.Handed.{size_least}
use Rattle.block_adaptive.proofs.Packing.{values_held, values_packed}
use Rattle.block_adaptive.proofs.block_writer.BlockWriter.put_block.Goals as goal

pub returns-in-Ok-clause-taken : goal.returns-in-Ok-clause-taken
returns-in-Ok-clause-taken c =
    let size = rw (← c.self.view_is) at c.requires.whole in
    let all : c.args.self.now.held ++ c.args.block.now ≡ c.args.block.now = (λ i. c.requires.none i ++ c.args.block.now) in
    let more = room_left c.args.self.now (omega (arith, c.requires.more, size, size_least c.self.inside.size c.self.invariant.cut.size)) in
    rw (take_all (c.self.inside.size - 1 + 1) c.args.block.now (omega (arith, size))) (values_packed c.args.self.now c.pack.new.self _ _ c.args.block.now
    (rw (← c.self.view_is) c.self.invariant.cut) more (ap length all ∙ c.requires.whole) (rw all c.requires.range) (rw all c.in-Ok.ensures.appended)
    (rw all c.in-Ok.ensures.packed))

pub returns-in-Ok-clause-counted : goal.returns-in-Ok-clause-counted
returns-in-Ok-clause-counted c = search rules

pub returns-in-Ok-clause-memory : goal.returns-in-Ok-clause-memory
returns-in-Ok-clause-memory c = search rules

pub returns-in-Err-clause-taken : goal.returns-in-Err-clause-taken
returns-in-Err-clause-taken c =
    rw c.in-Err.ensures.same.1 (values_held c.args.self.now c.hold.new.self _ (take (c.self.inside.size - 1) c.args.block.now) (c.hold.ensures
    ∙ ap (λ (v : WriterState). record v { held = v.held ++ take (c.self.inside.size - 1) c.args.block.now }) c.in-Err.ensures.same.0))
