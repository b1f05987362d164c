use Rattle.std.proofs.Common.{to_z-of_z, arith}
use Rattle.cube_core.proofs.Offsets.{image_put, are_offsets_put}
use Rattle.cube_core.proofs.cube.Cube.set.Goals as goal

pub returns : goal.returns
returns c =
    let offset = simp (to_z-of_z c.ranges.sample) at c.offset_of.ensures.value in
    image_put _ _ _ _ _ _ _ _ _ _ c.self.view_is c.index_at-at.ensures.value offset

pub invariant_of-self : goal.invariant_of-self
invariant_of-self c = are_offsets_put _ _ _ _ _ c.self.invariant (omega (arith, c.self.invariant.whole, c.index_at-at.ensures.below)) c.offset_of.ensures.below
