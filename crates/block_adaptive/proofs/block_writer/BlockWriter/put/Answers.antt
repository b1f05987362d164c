use Rattle.std.proofs.Common.{◌≡◌, List, ℕ, [], ◌∷◌, ◌++◌, length, take, ap, arith}
use Rattle.std.proofs.lemmas.List.{length-append, length-take}
use Rattle.header_bits.proofs.Items.{all_append}
use Rattle.block_adaptive.proofs.Places.{held_more, on_ok_both}
use Rattle.block_adaptive.specs.contracts.block_writer.BlockWriter.{the_view}
use Rattle.block_adaptive.proofs.Counts.{room_left}
use Rattle.block_adaptive.proofs.Handed.{size_most}
use Rattle.block_adaptive.proofs.Packing.{values_held, values_packed}
use Rattle.block_adaptive.proofs.Stored.{total_few}
use Rattle.std.proofs.lemmas.Grind.{common_steps}
use Rattle.block_adaptive.proofs.block_writer.BlockWriter.put.Goals as goal

pub overflow_add-self-then-self : goal.overflow_add-self-then-self
overflow_add-self-then-self c = record { fits = omega (arith, total_few _ _ _ c.self.inside.total _ c.self.invariant, c.from.ensures, c.ranges.delta.fits) }

pub invariant_of-self : goal.invariant_of-self
invariant_of-self c = grind (arith, common_steps)

pub returns-then-self-clause-taken : goal.returns-then-self-clause-taken
returns-then-self-clause-taken c =
    let more = held_more c.self.inside.values c.self.inside.held c.args.delta
    (omega (arith, c.self.told, c.if-self.true, size_most c.self.inside.size c.self.invariant.cut.size)) in
    rw (← c.self.view_is) (values_held (the_view c.self.inside) _ _ (c.args.delta ∷ []) (ap (λ (held : List ℕ). record (the_view c.self.inside) { held = held })
    more))

pub returns-clause-taken : goal.returns-clause-taken
returns-clause-taken c =
    let was = c.self.invariant in
    let held : List ℕ = take c.self.inside.held c.self.inside.values in
    let size = length-take c.self.inside.held c.self.inside.values in
    let few = size_most c.self.inside.size was.cut.size in
    let len : length (held ++ c.args.delta ∷ []) ≡ c.self.inside.size =
    omega (arith, length-append held (c.args.delta ∷ []), was.few, c.if-self.false, size, c.self.told, few) in
    rw (← c.self.view_is) (on_ok_both c.put_last.result _ _ _ (λ p q. values_packed (the_view c.self.inside) c.put_last.new.self _ _ (c.args.delta ∷ []) was.cut
    (rw (← c.self.view_is) at (room_left c.args.self.now c.requires.more)) len (all_append _ held (c.args.delta ∷ []) was.range
    (rw (← c.self.view_is) at c.requires.number, tt)) p q) (rw (← c.self.view_is) at c.put_last.ensures.appended)
    (rw (← c.self.view_is) at c.put_last.ensures.packed))

pub returns-clause-counted : goal.returns-clause-counted
returns-clause-counted c = grind (arith, common_steps)

pub returns-clause-memory : goal.returns-clause-memory
returns-clause-memory c = grind (arith, common_steps)
