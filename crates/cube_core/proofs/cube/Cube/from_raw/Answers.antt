use Rattle.std.proofs.Common.{◌≡◌, ◌+◌, ◌∙◌, ℕ, arith, ap}
use Rattle.cube_core.proofs.Words.{Image, Layout, HaveBytes}
use Rattle.cube_core.proofs.PartBytes.{ok_by_both, whole_read}
use Rattle.cube_core.proofs.cube.Cube.from_raw.Goals as goal
use Rattle.cube_core.proofs.cube.Cube.from_raw.Goals.{After-read_part}

-- what fits after a part that is all of a cube
all_fit : (c d : Image) (l : Layout) (from n all : ℕ) → from ≡ 0 → n ≡ all → (HaveBytes c l from → HaveBytes d l (from + n)) → HaveBytes d l all
all_fit c d l from n all none is h j lt = h (λ i low. absurd (omega (arith, none, low))) j (omega (arith, none, is, lt))

shape_is : (c : After-read_part) → c.in_ok-cube.cube.shape ≡ c.args.shape
shape_is c = ap (λ (i : Image). i.shape) c.in_ok-cube.ensures.zeros

pub returns-clause-fits : goal.returns-clause-fits
returns-clause-fits c =
    ok_by_both c.read_part.result _ _ _ c.read_part.ensures.fits c.read_part.ensures.fits
    (λ d h _. all_fit c.in_ok-cube.cube d c.args.layout _ _ _ (rw (shape_is c) c.all.ensures.first) (rw (shape_is c) c.all.ensures.samples) h)

pub returns-clause-cube : goal.returns-clause-cube
returns-clause-cube c =
    let kind_is : c.in_ok-cube.cube.kind ≡ c.args.kind = ap (λ (i : Image). i.kind) c.in_ok-cube.ensures.zeros in
    ok_by_both c.read_part.result _ _ _ c.read_part.ensures.same c.read_part.ensures.read (λ d same read.
    let shape : d.shape ≡ c.args.shape = same.0 ∙ shape_is c in (
      shape,
      same.1 ∙ kind_is,
      whole_read d c.in_ok-cube.cube c.args.layout _ _ c.args.bytes.now c.requires (rw shape (omega (arith, c.all.ensures.range)))
          (rw (shape_is c) c.all.ensures.first) (rw (shape_is c, shape) c.all.ensures.samples) read,
    ))
