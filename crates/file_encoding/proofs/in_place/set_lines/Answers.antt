use Rattle.std.proofs.Common.{◌≡◌, ◌+◌, ◌-◌, ◌*◌, ◌^◌, ◌<◌, ◌≤◌, ℕ, suc, List, length, take, drop, get_or, sym, ap, ap₂, subst, arith, length-take, length-drop}
use Rattle.std.specs.List.{AllByRecursion}
use Rattle.std.proofs.lemmas.Nat.{mul-le}
use Rattle.cube_core.specs.Shape.{Sizes}
use Rattle.cube_core.specs.Kind.{SampleKind}
use Rattle.file_encoding.specs.Pieces.{row_start}
use Rattle.file_encoding.proofs.InPlace.{line_set, lines_none}
use Rattle.file_encoding.proofs.KeptPlanes.{each_of}
use Rattle.file_encoding.proofs.in_place.set_lines.Goals as goal
use Rattle.file_encoding.proofs.in_place.set_lines.Goals.{In-loop-k}

module _ (c : In-loop-k) where
  abbrev columns : ℕ
  columns = c.args.cube.now.shape.columns

  width : c.columns-columns.result ≡ columns
  width = omega (arith, ap (λ (s : Sizes). s.columns) c.shape.ensures)

  fits : c.loop-k.k * columns + columns ≤ length c.args.lines.now
  fits =
      let up : suc c.loop-k.k * columns ≤ c.args.count * columns = mul-le (suc c.loop-k.k) columns c.args.count columns c.loop-k-test.true (omega arith) in
      let next : suc c.loop-k.k * columns ≡ c.loop-k.k * columns + columns = grind arith in
      omega (arith, up, next, c.requires.size)

  abbrev start : ℕ
  start = c.loop-k.k * c.columns-columns.result

  abbrev line : List ℕ
  line = take (start + c.columns-columns.result - start) (drop start c.args.lines.now)

  begins : start ≡ c.loop-k.k * columns
  begins = ap (λ n. c.loop-k.k * n) width

  line_is : line ≡ row_start columns c.loop-k.k columns c.args.lines.now
  line_is = ap₂ (λ m n. take m (drop n c.args.lines.now)) (omega (arith, width)) begins

  line_long : length line ≡ columns
  line_long =
      omega (arith, width, begins, fits, length-take (start + c.columns-columns.result - start) (drop start c.args.lines.now), length-drop start c.args.lines.now)

pub loop-k-init : goal.loop-k-init
loop-k-init c = record { set = lines_none c.args.cube.now c.args.first c.args.y _ }

pub set_run-requires-clause-place : goal.set_run-requires-clause-place
set_run-requires-clause-place c =
    let same = c.loop-k.invariant.set.shape in
    rw same (record {
      band = omega (arith, c.requires.bands, c.loop-k-test.true);
      row = c.requires.place;
      column = omega (arith, c.prove_is_cube.ensures.sizes.columns);
    })

pub set_run-requires-clause-inside : goal.set_run-requires-clause-inside
set_run-requires-clause-inside c =
    let d = (goal.at.set_run-requires-clause-inside c).In-loop-k in
    rw c.loop-k.invariant.set.shape (omega (arith, width d, length-take (c.loop-k.k * c.columns-columns.result + c.columns-columns.result - c.loop-k.k * c.columns-columns.result) (drop (c.loop-k.k * c.columns-columns.result) c.args.lines.now)))

pub set_run-requires-clause-range : goal.set_run-requires-clause-range
set_run-requires-clause-range c = λ i lt.
    let d = (goal.at.set_run-requires-clause-range c).In-loop-k in
    let bits = c.args.cube.now.kind.bits in
    let each : AllByRecursion (λ v. v < 2 ^ bits) (line d) = rw (line_is d) (c.requires.range c.loop-k.k c.loop-k-test.true) in
    subst (λ (k : SampleKind). get_or (line d) i 0 < 2 ^ k.bits) (sym c.loop-k.invariant.set.kind) (each_of (λ v. v < 2 ^ bits) (line d) each i lt)

pub loop-k-preserved : goal.loop-k-preserved
loop-k-preserved c =
    let d = (goal.at.loop-k-preserved c).In-loop-k in
    record { set = line_set _ c.loop-k.invariant.set c.set_run.ensures (line_is d) (line_long d) (omega (arith, c.requires.bands, c.loop-k-test.true)) c.requires.place }
