use Rattle.std.proofs.Common.{◌≡◌, ◌<◌, arith, ap}
use Rattle.cube_core.proofs.Words.{Image, sample_count}
use Rattle.cube_core.proofs.PartBytes.{whole_written}
use Rattle.cube_core.proofs.RawBytes.{length-raw_bytes}
use Rattle.cube_core.proofs.cube.Cube.write_raw.Goals as goal

pub returns : goal.returns
returns c =
    let shape_is : c.self.inside.shape ≡ c.args.self.now.shape = ap (λ (i : Image). i.shape) c.self.view_is in
    let range = rw shape_is at c.all.ensures.range in
    let some : 0 < sample_count c.args.self.now.shape = omega (arith, range) in
    whole_written _ _ c.args.layout _ _ (sample_count c.args.self.now.shape) (rw shape_is at c.all.ensures.first) (rw shape_is at c.all.ensures.samples)
    (length-raw_bytes c.args.self.now c.args.layout c.requires.layout some) c.write_part.ensures
