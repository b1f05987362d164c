use Rattle.std.proofs.Common.{◌≡◌, ◌∙◌, ◌*◌, ◌<◌, sym, ap, length, arith, refl}
use Rattle.std.proofs.lemmas.Bool.{false≢true}
use Rattle.std.proofs.lemmas.List.{with_items_is}
use Rattle.std.specs.Vec.{with_items}
use Rattle.cube_core.proofs.Words.{sample_count, Image, samples_of, AreWrittenTo}
use Rattle.cube_core.proofs.PartBytes.{part_written, can_be_written_to, whole_written}
use Rattle.cube_core.proofs.RawBytes.{length-raw_bytes}
use Rattle.cube_core.proofs.Written.{have_bytes, can_be_written}
use Rattle.cube_core.proofs.cube.Cube.to_raw.Goals as goal
use Rattle.cube_core.proofs.cube.Cube.to_raw.Goals.{After-write_part}

shape_is : (c : After-write_part) → c.self.inside.shape ≡ c.shape-shape.result
shape_is c = ap (λ (i : Image). i.shape) c.self.view_is ∙ sym c.shape-shape.ensures

image_is : (c : After-write_part)
    → record { shape = c.shape-shape.result; kind = c.self.inside.kind; samples = samples_of c.self.inside.kind c.self.inside.offsets.items } ≡ c.args.self.now
image_is c = rw (← shape_is c) c.self.view_is

full : (c : After-write_part) → length c.self.inside.offsets.items ≡ sample_count c.shape-shape.result
full c = rw (shape_is c) at c.self.invariant.whole

some : (c : After-write_part) → 0 < sample_count c.shape-shape.result
some c = omega (arith, c.sample_count-count.ensures.value, c.sample_count-count.ensures.range)

long : (c : After-write_part) → length c.write_part.new.bytes ≡ sample_count c.shape-shape.result * c.args.layout.bytes
long c = omega (arith, c.write_part.auto.bytes, c.deref_mut.ensures.len, c.in_ok-bytes.ensures.len, c.length.ensures)

pub first_unfit-requires-clause-some : goal.first_unfit-requires-clause-some
first_unfit-requires-clause-some c = λ have.
    let d = (goal.at.first_unfit-requires-clause-some c).After-write_part in
    let can = can_be_written _ _ _ _ _ (image_is d) (some d) (full d) have in
    false≢true (c.if-write_part.ensures.good (rw c.deref.ensures.value can))

written : (c : After-write_part)
    → AreWrittenTo c.shape-shape.result c.self.inside.kind c.args.layout 0 (sample_count c.shape-shape.result) c.deref.result.now c.write_part.new.bytes
    → AreWrittenTo c.shape-shape.result c.self.inside.kind c.args.layout 0 (sample_count c.shape-shape.result) c.self.inside.offsets.items c.write_part.new.bytes
written c h = rw c.deref.ensures.value at h

pub returns-then-write_part-clause-bytes : goal.returns-then-write_part-clause-bytes
returns-then-write_part-clause-bytes c =
    let d = (goal.at.returns-then-write_part-clause-bytes c).After-write_part in
    let items : (with_items c.in_ok-bytes.bytes c.write_part.new.bytes).items ≡ c.write_part.new.bytes =
    with_items_is c.in_ok-bytes.bytes c.write_part.new.bytes (omega (arith, c.write_part.auto.bytes, c.deref_mut.ensures.len)) in
    items ∙ whole_written c.write_part.new.bytes _ c.args.layout 0 (sample_count c.shape-shape.result) (sample_count c.shape-shape.result) refl refl
    (rw (← image_is d) (length-raw_bytes _ c.args.layout c.requires (some d)))
    (part_written c.args.self.now c.shape-shape.result c.self.inside.kind c.args.layout 0 (sample_count c.shape-shape.result) c.self.inside.offsets.items
    c.write_part.new.bytes (image_is d) c.requires (some d) (omega arith) (long d) (full d)
    (written d (rw (c.all-all.ensures.first, c.all-all.ensures.samples) at (c.if-write_part.ensures.written refl))))

pub returns-then-write_part-clause-fits : goal.returns-then-write_part-clause-fits
returns-then-write_part-clause-fits c =
    let d = (goal.at.returns-then-write_part-clause-fits c).After-write_part in
    have_bytes _ _ _ _ _ (image_is d) (some d) (full d) (can_be_written_to _ _ _ (sample_count c.shape-shape.result) _ c.write_part.new.bytes (some d) refl
    (written d (rw (c.all-all.ensures.first, c.all-all.ensures.samples) at (c.if-write_part.ensures.written refl))))
