use Rattle.std.proofs.Common.{SFits, w32, to_z-of_z, slice_index, arith, refl}
use borrow.Author.Count.{below_more}
use Rattle.cube_core.proofs.Words.{IsKind, IsSample, HasBytes, sample_of}
use Rattle.cube_core.proofs.Offsets.{offset_is_sample}
use Rattle.cube_core.proofs.Spelled.{wide_enough}
use Rattle.cube_core.proofs.raw_write.can_be_written.Goals as goal

pub returns-then-bits-layout : goal.returns-then-bits-layout
returns-then-bits-layout c =
    let kind : IsKind c.args.kind = rw c.bits.ensures.value at c.bits.ensures.range in (
      λ t i lt. wide_enough c.args.kind c.args.layout _ kind (omega (arith, c.bits.ensures.value, c.if-bits-layout.true))
          (offset_is_sample c.args.kind _ kind (c.requires.range i lt)),
      λ all. refl,
    )

pub loop-i-init : goal.loop-i-init
loop-i-init c = λ i lt. absurd (omega (arith, lt))

pub loop-i-preserved : goal.loop-i-preserved
loop-i-preserved c =
    let g : SFits w32 c.sample_of.result = record { sfits = c.sample_of.type_inv } in
    let sample : IsSample c.in_bytes-spelled.result c.sample_of.result = simp (to_z-of_z g) at (c.if-not-has.ensures.0 refl) in
    below_more (λ i. HasBytes c.args.kind c.args.layout (sample_of c.args.kind (slice_index c.args.offsets.now i))) c.loop-i.i c.loop-i.invariant
    (rw (c.in_bytes-spelled.ensures, c.sample_of.ensures.value) at sample)

pub returns : goal.returns
returns c = (λ t i lt. c.loop-i.invariant i (omega (arith, c.loop-i-test.false, lt)), λ all. refl)
