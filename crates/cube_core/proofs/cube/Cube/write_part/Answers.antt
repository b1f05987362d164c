use Rattle.std.proofs.Common.{◌≡◌, ◌*◌, ◌<◌, ◌∙◌, sym, ap, length, arith}
use Rattle.cube_core.proofs.Words.{sample_count, Image, samples_of, unit_of}
use Rattle.cube_core.proofs.PartBytes.{part_written, part_within}
use Rattle.cube_core.proofs.Written.{can_be_written}
use Rattle.cube_core.proofs.cube.Cube.write_part.Goals as goal

pub returns : goal.returns
returns c =
    let shape_is : c.self.inside.shape ≡ c.shape-shape.result = ap (λ (i : Image). i.shape) c.self.view_is ∙ sym c.shape-shape.ensures in
    let image_is : record { shape = c.shape-shape.result; kind = c.self.inside.kind; samples = samples_of c.self.inside.kind c.self.inside.offsets.items }
    ≡ c.args.self.now = rw (← shape_is) c.self.view_is in
    let some : 0 < sample_count c.shape-shape.result = omega (arith, c.sample_count-count.ensures.value, c.sample_count-count.ensures.range) in
    let full : length c.self.inside.offsets.items ≡ sample_count c.shape-shape.result = rw shape_is at c.self.invariant.whole in
    let can = can_be_written _ _ _ _ _ image_is some full c.requires.fits in
    let true_is = c.write_part-all.ensures.good (rw c.deref.ensures.value can) in
    let room : length c.args.bytes.now ≡ c.args.part.count * unit_of c.args.layout.order c.shape-shape.result * c.args.layout.bytes =
    rw c.shape-shape.ensures c.requires.room in
    let within = part_within c.args.layout.order c.shape-shape.result c.args.part.first c.args.part.count (rw c.shape-shape.ensures c.requires.part) in
    let made = part_written c.args.self.now c.shape-shape.result c.self.inside.kind c.args.layout _ _ c.self.inside.offsets.items c.write_part-all.new.bytes
    image_is c.requires.layout some within (omega (arith, c.write_part-all.auto.bytes, room)) full
    (rw c.deref.ensures.value at (c.write_part-all.ensures.written true_is)) in
    rw c.shape-shape.ensures at made
