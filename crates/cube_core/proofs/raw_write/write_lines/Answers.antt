use Rattle.std.proofs.Common.{◌≡◌, ◌+◌, ◌*◌, ◌∙◌, arith, refl}
use Rattle.cube_core.proofs.Parts.{piece_there}
use Rattle.cube_core.proofs.PartPieces.{few_bytes, next_row_fits, scaled_range}
use Rattle.cube_core.proofs.WrittenParts.{write_on, piece_fits}
use Rattle.cube_core.proofs.raw_write.write_lines.Goals as goal
use Rattle.cube_core.proofs.raw_write.write_lines.Goals.{then-z-bands, else-z-bands}

pub loop-line-preserved : goal.loop-line-preserved
loop-line-preserved c =
    let s = c.args.shape in
    let p = c.line-piece.result in
    let next : (c.loop-line.line + 1) * c.args.shape.columns ≡ c.loop-line.line * c.args.shape.columns + p.count =
    omega (arith, c.line-piece.ensures.all.1) in
    record {
      spot = elim c.if-z-bands.branch [
        | then-z-bands w ↦ rw (w.y-is, w.z-is) (omega (arith, w.if-z-bands, c.loop-line.invariant.spot, c.bands-bands.ensures.value))
        | else-z-bands w ↦ rw (w.y-is, w.z-is) (omega (arith, c.loop-line.invariant.spot))
      ];
      band = elim c.if-z-bands.branch [
        | then-z-bands w ↦ rw w.z-is (omega (arith, c.loop-line.invariant.band))
        | else-z-bands w ↦ rw w.z-is (omega (arith, w.if-z-bands, c.loop-line.invariant.band, c.bands-bands.ensures.value))
      ];
      written = rw next (write_on s c.args.kind _ c.args.layout (c.args.part.first * s.columns) (c.args.part.count * s.columns) c.args.offsets.now
          c.loop-line.bytes c.write_piece.new.bytes p.at p.count p.first p.step (c.loop-line.line * s.columns) c.new-scale.ensures.0
          c.line-piece.ensures.all.2 c.line-piece.ensures.all.0 (omega (arith, c.sample_count-count.ensures.value, c.sample_count-count.ensures.range))
          (rw c.requires.order c.line-piece.ensures.piece) c.write_piece.ensures.given c.write_piece.ensures.others
          (c.if-not-write_piece.ensures.good.0 refl) c.loop-line.invariant.written);
    }

pub returns-clause-written : goal.returns-clause-written
returns-clause-written c = λ t.
    let all : c.loop-line.line ≡ c.args.part.count = omega arith in
    rw c.requires.order (rw (all, c.requires.order) at c.loop-line.invariant.written)

pub returns-then-not-write_piece-clause-good : goal.returns-then-not-write_piece-clause-good
returns-then-not-write_piece-clause-good c = λ all.
    let p = c.line-piece.result in
    c.if-not-write_piece.ensures.good.1 (rw c.new-scale.ensures.0 (piece_fits c.args.shape c.args.kind c.args.layout c.args.offsets.now p.at p.count
    c.line-piece.ensures.piece.room all))

pub write_piece-requires-clause-small : goal.write_piece-requires-clause-small
write_piece-requires-clause-small c =
    few_bytes c.args.shape c.args.layout c.args.part _ c.requires.layout c.requires.part (omega (arith, c.sample_count-count.ensures.value, c.sample_count-count.ensures.range))
    (c.loop-line.auto.bytes ∙ c.requires.whole)

pub write_piece-requires-clause-there : goal.write_piece-requires-clause-there
write_piece-requires-clause-there c =
    let p = c.line-piece.result in
    piece_there c.args.shape _ c.args.layout _ _ p.at p.count p.first p.step _ c.line-piece.ensures.piece (c.loop-line.auto.bytes ∙ (rw c.requires.order at c.requires.whole))

pub overflow_add-y : goal.overflow_add-y
overflow_add-y c =
    next_row_fits c.args.shape c.args.part.first c.args.part.count c.loop-line.line c.loop-line.z c.loop-line.y c.sample_count-count.ensures.sizes.rows.1
    (rw c.requires.order at c.requires.part) c.loop-line-test.true c.loop-line.invariant.spot

pub write_piece-requires-clause-range : goal.write_piece-requires-clause-range
write_piece-requires-clause-range c =
    let p = c.line-piece.result in
    scaled_range c.args.shape c.args.kind _ c.args.offsets.now p.at p.count c.new-scale.ensures.0 c.requires.offsets c.line-piece.ensures.piece.room
