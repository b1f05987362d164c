use Rattle.std.proofs.Common.{◌≡◌, ◌∙◌, ◌*◌, ◌<◌, sym, ap, refl, length, arith, inr}
use Rattle.cube_core.specs.Layout.{raw_bytes}
use Rattle.cube_core.specs.Shape.{Sizes, sample_count}
use Rattle.cube_core.proofs.RawBytes.{length-raw_bytes}
use Rattle.ccsds123.proofs.decode.put_raw.Goals as goal

pub returns-then-had-wanted-clause-refused : goal.returns-then-had-wanted-clause-refused
returns-then-had-wanted-clause-refused c =
    let cube = c.args.cube.now in
    let count : 0 < sample_count c.shape-shape.result = omega (arith, c.sample_count-count.ensures.value, c.sample_count-count.ensures.range) in
    let some : 0 < sample_count cube.shape = rw c.shape-shape.ensures at count in
    let long : length (raw_bytes cube c.args.layout) ≡ c.length-wanted.result =
    length-raw_bytes cube c.args.layout c.requires some ∙ sym (c.length-wanted.ensures ∙ ap (λ (s : Sizes). sample_count s * c.args.layout.bytes) c.shape-shape.ensures) in
    inr (c.in_default.ensures.fits refl, omega (arith, long, c.if-had-wanted.true), rw long refl)
