use Rattle.std.proofs.Common.{◌≡◌, ◌≤◌, length, sym, ap, arith}
use Rattle.std.proofs.lemmas.List.{length-take}
use Rattle.block_adaptive.proofs.Counts.{room_left}
use Rattle.block_adaptive.proofs.Handed.{size_most}
use Rattle.block_adaptive.proofs.Holds.{stored_more}
use Rattle.block_adaptive.proofs.Stored.{total_few}
use Rattle.block_adaptive.proofs.block_writer.BlockWriter.hold.Goals as goal
use Rattle.block_adaptive.proofs.ListSums.{sum_small}
use Rattle.block_adaptive.proofs.Places.{held_all}

pub overflow_add-self-2 : goal.overflow_add-self-2
overflow_add-self-2 c =
    let size-is : c.args.self.now.cut.size ≡ c.self.inside.size = ap (λ v. v.cut.size) (sym c.self.view_is) in
    let held = total_few _ _ _ c.self.inside.total _ c.self.invariant in
    let size = size_most c.self.inside.size c.self.invariant.cut.size in
    record { fits = omega (arith, held, ap (λ n. n) c.sum_of.ensures, c.requires.few, size-is, size, sum_small c.args.numbers.now c.type_inv.numbers) }

pub invariant_of-self : goal.invariant_of-self
invariant_of-self c =
    let size = size_most c.self.inside.size c.self.invariant.cut.size in
    let room : c.self.inside.held ≤ length c.self.inside.values =
    omega (arith, c.self.told, c.self.invariant.few, size, length-take c.self.inside.held c.self.inside.values) in
    let copied : c.copy_from_slice.new.self ≡ c.args.numbers.now = c.copy_from_slice.ensures.after in
    rw (copied, held_all c.self.inside.values c.args.numbers.now _ c.self.inside.held room, c.sum_of.ensures)
    (stored_more _ _ _ _ _ c.args.numbers.now c.self.invariant (rw (← c.self.view_is) at c.requires.numbers) (rw (← c.self.view_is) at c.requires.few)
    (λ some. rw (← c.self.view_is) at (room_left c.args.self.now (omega (arith, some, c.requires.more)))))

pub returns : goal.returns
returns c = grind (arith, held_all, length-take)
