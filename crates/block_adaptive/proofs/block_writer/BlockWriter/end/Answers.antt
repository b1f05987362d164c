use Rattle.std.proofs.Common.{◌≡◌, ◌∙◌, false, eqb, length, take, refl, arith, rules}
use Rattle.std.proofs.lemmas.Bool.{ne_eqb}
use Rattle.std.proofs.lemmas.List.{length-take}
use Rattle.std.proofs.lemmas.Nat.{pow_pos}
use Rattle.block_adaptive.proofs.Places.{on_ok_of}
use Rattle.block_adaptive.specs.Segments.{filled}
use Rattle.block_adaptive.specs.contracts.block_writer.BlockWriter.{the_view}
use Rattle.block_adaptive.proofs.Handed.{size_most}
use Rattle.block_adaptive.proofs.Packing.{nothing_left, last_block, range_filled}
use Rattle.std.proofs.lemmas.Grind.{common_steps}
use Rattle.block_adaptive.proofs.block_writer.BlockWriter.end.Goals as goal

pub returns-then-self-eq0-clause-ended : goal.returns-then-self-eq0-clause-ended
returns-then-self-eq0-clause-ended c = grind (arith, nothing_left)

pub returns-then-self-eq0-clause-past : goal.returns-then-self-eq0-clause-past
returns-then-self-eq0-clause-past c = search rules

pub pack-requires-clause-total : goal.pack-requires-clause-total
pack-requires-clause-total c = grind (arith, common_steps)

pub returns-clause-ended : goal.returns-clause-ended
returns-clause-ended c =
    let was = c.self.invariant in
    let few = size_most c.self.inside.size was.cut.size in
    let size : length (take c.self.inside.held c.self.inside.values) ≡ c.self.inside.held =
    omega (arith, was.few, length-take c.self.inside.held c.self.inside.values, c.self.told) in
    let block-is : take c.self.inside.size c.filled_block-block.result ≡ filled c.self.inside.size (take c.self.inside.held c.self.inside.values) =
    c.filled_block-block.ensures c.self.inside.size (omega (arith, was.few, size)) few ∙ rw size refl in
    let some = was.more (omega (arith, size, c.if-self-eq0.false)) in
    rw (← c.self.view_is) (on_ok_of c.pack-2.result _ _ (λ p. last_block (the_view c.self.inside) _ _ was.cut (omega (arith, size, c.if-self-eq0.false))
    (omega (arith, was.few)) some (range_filled _ _ _ (pow_pos c.self.inside.set.bits) was.range) p)
    (rw (← c.self.view_is, block-is) at c.pack-2.ensures.appended))

pub returns-clause-past : goal.returns-clause-past
returns-clause-past c =
    let was = c.self.invariant in
    let few = size_most c.self.inside.size was.cut.size in
    let size : length (take c.self.inside.held c.self.inside.values) ≡ c.self.inside.held =
    omega (arith, was.few, length-take c.self.inside.held c.self.inside.values, c.self.told) in
    let block-is : take c.self.inside.size c.filled_block-block.result ≡ filled c.self.inside.size (take c.self.inside.held c.self.inside.values) =
    c.filled_block-block.ensures c.self.inside.size (omega (arith, was.few, size)) few ∙ rw size refl in
    let some : eqb (length (take c.self.inside.held c.self.inside.values)) 0 ≡ false = ne_eqb _ 0 (λ e. omega (arith, e, size, c.if-self-eq0.false)) in
    rw (← c.self.view_is, some) (rw (← c.self.view_is, block-is) at c.pack-2.ensures.packed)

pub returns-clause-memory : goal.returns-clause-memory
returns-clause-memory c = grind (arith, common_steps)
