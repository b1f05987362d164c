use Rattle.std.proofs.Common.{◌≡◌, ◌+◌, ◌*◌, ◌<◌, ℕ, List, ◌++◌, take, sym, ◌∙◌, arith}
use Rattle.cube_core.specs.declared.layout.Layout.{Layout}
use Rattle.cube_core.specs.declared.part.Part.{Part}
use Rattle.cube_core.specs.declared.fault.Fault.TheVariants.{SampleRange}
use Rattle.cube_core.specs.Image.{Image, IsCube}
use Rattle.cube_core.specs.Kind.{SampleKind}
use Rattle.cube_core.specs.Layout.{IsLayout, IsFirstBad, HaveBytes, raw_bytes}
use Rattle.cube_core.specs.Parts.{first_sample, part_samples}
use Rattle.cube_core.specs.Raw.{AreSamples}
use Rattle.cube_core.specs.Shape.{Sizes, sample_count}
use Rattle.cube_core.proofs.PartBytes.{whole_read}
use Rattle.raw_rows.specs.OneRow.{AreBandRows, samples_of_row}
use Rattle.raw_rows.proofs.one_row.take_row.Goals as goal

-- a row is all of a cube of one row
module _ (shape : Sizes) (l : Layout) (part : Part) (d : Image) (given : shape ≡ d.shape) (one : d.shape.rows ≡ 1)
    (first : first_sample l shape part ≡ 0) (all : part_samples l shape part ≡ sample_count shape) where
  none_before : first_sample l d.shape part ≡ 0
  none_before = rw given at first

  all_samples : part_samples l d.shape part ≡ sample_count d.shape
  all_samples = rw given at all

  in_row : sample_count d.shape ≡ samples_of_row d.shape
  in_row = rw one (grind arith)

  row_taken : (c : Image) (bytes samples : List ℕ) → IsLayout l → 0 < sample_count shape → IsCube c → (c.shape ≡ d.shape) × (c.kind ≡ d.kind)
      → take ((first_sample l d.shape part + part_samples l d.shape part) * l.bytes) (raw_bytes c l)
      ≡ take (first_sample l d.shape part * l.bytes) (raw_bytes d l) ++ bytes
      → (HaveBytes d l (first_sample l d.shape part) → HaveBytes c l (first_sample l d.shape part + part_samples l d.shape part))
      → AreSamples d.kind l bytes (part_samples l d.shape part) → AreBandRows c samples
      → IsCube c × (c.shape ≡ d.shape) × (c.kind ≡ d.kind) × (raw_bytes c l ≡ bytes) × HaveBytes c l (samples_of_row d.shape)
      × AreSamples d.kind l bytes (samples_of_row d.shape) × AreBandRows c samples
  row_taken c bytes samples layout some cube same read fits are copied =
      let size : part_samples l d.shape part ≡ samples_of_row d.shape = all_samples ∙ in_row in
      let end : first_sample l d.shape part + part_samples l d.shape part ≡ samples_of_row d.shape = omega (arith, none_before, size) in
      let many : 0 < sample_count c.shape = rw (same.0, ← given) some in (
        cube,
        same.0,
        same.1,
        whole_read c d l (first_sample l d.shape part) (part_samples l d.shape part) bytes layout many none_before (rw same.0 all_samples) read,
        rw end at (fits (λ j lt. absurd (omega (arith, lt, none_before)))),
        rw size at are,
        copied,
      )

pub returns-in-Ok-clause-row : goal.returns-in-Ok-clause-row
returns-in-Ok-clause-row c = row_taken c.shape-shape.result c.args.layout c.all.result c.args.row c.shape-shape.ensures c.requires.row c.all.ensures.first
    c.all.ensures.samples c.in-Ok.row c.args.bytes.now c.copy_bands.new.samples c.requires.layout (omega (arith, c.all.ensures.range)) c.in-Ok.ensures.whole
    c.in-Ok.ensures.same c.in-Ok.ensures.read c.in-Ok.ensures.fits c.in-Ok.ensures.samples c.copy_bands.ensures.copied

-- the fault of a sample at an index tells this index
told : (a i j : ℕ) (k : SampleKind) (l : Layout) (bytes : List ℕ) → a ≡ 0 → SampleRange i ≡ SampleRange (a + j) → IsFirstBad k l bytes j → IsFirstBad k l bytes i
told a i j k l bytes none e first =
    let sum : i ≡ a + j = cc in
    let same : i ≡ j = omega (arith, none, sum) in
    rw same first

pub returns-in-Err-SampleRange-clause-bad : goal.returns-in-Err-SampleRange-clause-bad
returns-in-Err-SampleRange-clause-bad c =
    let (j, e, first) = c.in-Err-SampleRange.ensures.refused in
    told (first_sample c.args.layout c.args.row.shape c.all.result) c.in-Err-SampleRange.index j c.args.row.kind c.args.layout c.args.bytes.now
    (none_before c.shape-shape.result c.args.layout c.all.result c.args.row c.shape-shape.ensures c.requires.row c.all.ensures.first c.all.ensures.samples)
    (sym c.in-Err-SampleRange.field-0-is ∙ e) first
