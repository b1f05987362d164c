use Rattle.std.proofs.Common.{sym}
use Rattle.block_adaptive.proofs.Triangles.{sum_of_root}
use Rattle.block_adaptive.proofs.pairs.sum_of.Goals as goal

pub returns : goal.returns
returns c =
    let root = sum_of_root _ _ _ c.requires c.isqrt.ensures.square_le c.isqrt.ensures.next_square_gt in
    record { value = sym root.is; under = root.under; bound = root.bound }
