use Rattle.std.proofs.Common.{◌≡◌, ◌+◌, ◌*◌, arith, refl}
use Rattle.cube_core.proofs.Parts.{read_on, offsets_on, piece_there}
use Rattle.cube_core.proofs.PartPieces.{few_bytes, next_row_fits, scaled_good}
use Rattle.cube_core.proofs.raw_read.read_lines.Goals as goal
use Rattle.cube_core.proofs.raw_read.read_lines.Goals.{then-z-bands, else-z-bands}

pub loop-line-preserved : goal.loop-line-preserved
loop-line-preserved c =
    let s = c.args.shape in
    let p = c.line-piece.result in
    let next : (c.loop-line.line + 1) * c.args.shape.columns ≡ c.loop-line.line * c.args.shape.columns + p.count =
    omega (arith, c.line-piece.ensures.all.1) in
    record {
      spot = elim c.if-z-bands.branch [
        | then-z-bands w ↦ rw (w.y-is, w.z-is) (omega (arith, w.if-z-bands, c.loop-line.invariant.spot, c.bands-bands.ensures.value))
        | else-z-bands w ↦ rw (w.y-is, w.z-is) (omega (arith, c.loop-line.invariant.spot))
      ];
      band = elim c.if-z-bands.branch [
        | then-z-bands w ↦ rw w.z-is (omega (arith, c.loop-line.invariant.band))
        | else-z-bands w ↦ rw w.z-is (omega (arith, w.if-z-bands, c.loop-line.invariant.band, c.bands-bands.ensures.value))
      ];
      offsets = offsets_on s c.args.kind _ c.loop-line.offsets c.read_piece.new.offsets p.at p.count c.new-scale.ensures.0 c.loop-line.invariant.offsets
          c.read_piece.auto.offsets (c.if-not-read_piece.ensures.good.0 refl) c.read_piece.ensures.others;
      read = rw next (read_on s c.args.kind _ c.args.layout (c.args.part.first * s.columns) (c.args.part.count * s.columns) c.args.bytes.now c.args.offsets.now
          c.loop-line.offsets c.read_piece.new.offsets p.at p.count p.first p.step (c.loop-line.line * s.columns) c.new-scale.ensures.0
          c.line-piece.ensures.all.2 c.line-piece.ensures.all.0 (omega (arith, c.sample_count-count.ensures.value, c.sample_count-count.ensures.range))
          (rw c.requires.order c.line-piece.ensures.piece) c.read_piece.ensures.taken (c.if-not-read_piece.ensures.good.0 refl) c.read_piece.ensures.others
          c.loop-line.invariant.read);
    }

pub returns-clause-filled : goal.returns-clause-filled
returns-clause-filled c = λ t.
    let all : c.loop-line.line ≡ c.args.part.count = omega arith in
    rw c.requires.order (rw (all, c.requires.order) at c.loop-line.invariant.read)

pub read_piece-requires-clause-small : goal.read_piece-requires-clause-small
read_piece-requires-clause-small c =
    few_bytes c.args.shape c.args.layout c.args.part _ c.requires.layout c.requires.part (omega (arith, c.sample_count-count.ensures.value, c.sample_count-count.ensures.range))
    c.requires.whole

pub read_piece-requires-clause-there : goal.read_piece-requires-clause-there
read_piece-requires-clause-there c =
    let p = c.line-piece.result in
    piece_there c.args.shape _ c.args.layout _ _ p.at p.count p.first p.step _ c.line-piece.ensures.piece (rw c.requires.order at c.requires.whole)

pub returns-then-not-read_piece-clause-good : goal.returns-then-not-read_piece-clause-good
returns-then-not-read_piece-clause-good c = λ all.
    let p = c.line-piece.result in
    c.if-not-read_piece.ensures.good.1 (scaled_good c.args.shape _ c.args.kind _ c.args.layout c.args.bytes.now c.read_piece.new.offsets _ _ p.at p.count p.first p.step
    c.new-scale.ensures.0 c.line-piece.ensures.piece c.read_piece.ensures.taken (rw c.requires.order at all))

pub overflow_add-y : goal.overflow_add-y
overflow_add-y c =
    next_row_fits c.args.shape c.args.part.first c.args.part.count c.loop-line.line c.loop-line.z c.loop-line.y c.sample_count-count.ensures.sizes.rows.1
    (rw c.requires.order at c.requires.part) c.loop-line-test.true c.loop-line.invariant.spot
