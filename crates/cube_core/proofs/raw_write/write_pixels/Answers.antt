use Rattle.std.proofs.Common.{◌≡◌, ◌+◌, ◌*◌, ◌∙◌, arith, refl}
use Rattle.cube_core.proofs.Words.{Place, IsWrittenAt}
use Rattle.cube_core.proofs.Parts.{band_more, block_ends, block_begins, piece_there}
use Rattle.cube_core.proofs.PartPieces.{few_bytes, scaled_range}
use Rattle.cube_core.proofs.WrittenParts.{written_there, piece_fits}
use Rattle.cube_core.proofs.Raws.{lawful_order}
use Rattle.cube_core.proofs.raw_write.write_pixels.Goals as goal

pub loop-z-init : goal.loop-z-init
loop-z-init c =
    let s = c.args.shape in
    block_begins s (IsWrittenAt s c.args.kind c.args.layout (c.args.part.first * s.bands) c.args.offsets.now c.loop-pixel.bytes)
    (c.args.part.first + c.loop-pixel.pixel) c.min-block.result (λ (q : Place) place lt. c.loop-pixel.invariant.written q place (rw c.requires.order (omega (arith, lt))))

pub loop-z-preserved : goal.loop-z-preserved
loop-z-preserved c =
    let s = c.args.shape in
    let p = c.pixels-piece.result in
    let all = c.pixels-piece.ensures.all in
    let lawful = lawful_order c.args.layout.order s (omega (arith, c.sample_count-count.ensures.value, c.sample_count-count.ensures.range)) in
    band_more s (IsWrittenAt s c.args.kind c.args.layout (c.args.part.first * s.bands) c.args.offsets.now c.loop-z.bytes)
    (IsWrittenAt s c.args.kind c.args.layout (c.args.part.first * s.bands) c.args.offsets.now c.write_piece.new.bytes)
    (c.args.part.first + c.loop-pixel.pixel) c.min-block.result c.loop-z.z
    (λ (q : Place) place known. written_there s c.args.kind c.args.layout (c.args.part.first * s.bands) (c.args.part.count * s.bands) c.args.offsets.now
    c.loop-z.bytes c.write_piece.new.bytes p.at p.count p.first p.step lawful (rw c.requires.order c.pixels-piece.ensures.piece)
    (rw c.new-scale.ensures.0 at c.write_piece.ensures.given) c.write_piece.ensures.others
    (rw c.new-scale.ensures.0 at (c.if-not-write_piece.ensures.good.0 refl)) q place (rw (all.0, all.1) known)) c.loop-z.invariant

pub loop-pixel-preserved : goal.loop-pixel-preserved
loop-pixel-preserved c =
    let s = c.args.shape in
    let all : c.loop-z.z ≡ s.bands = omega (arith, c.bands-z-end.ensures.value) in
    let more : (c.args.part.first + c.loop-pixel.pixel + c.min-block.result) * s.bands
    ≡ c.args.part.first * s.bands + (c.loop-pixel.pixel + c.min-block.result) * s.bands = omega arith in
    record {
      within = omega arith;
      written = rw (c.requires.order, ← more) (rw c.requires.order at (block_ends s
          (IsWrittenAt s c.args.kind c.args.layout (c.args.part.first * s.bands) c.args.offsets.now c.loop-z.bytes)
          (c.args.part.first + c.loop-pixel.pixel) c.min-block.result (rw all at c.loop-z.invariant)));
    }

pub returns-then-not-write_piece-clause-good : goal.returns-then-not-write_piece-clause-good
returns-then-not-write_piece-clause-good c = λ all.
    let p = c.pixels-piece.result in
    c.if-not-write_piece.ensures.good.1 (rw c.new-scale.ensures.0 (piece_fits c.args.shape c.args.kind c.args.layout c.args.offsets.now p.at p.count
    c.pixels-piece.ensures.piece.room all))

pub write_piece-requires-clause-small : goal.write_piece-requires-clause-small
write_piece-requires-clause-small c =
    few_bytes c.args.shape c.args.layout c.args.part _ c.requires.layout c.requires.part (omega (arith, c.sample_count-count.ensures.value, c.sample_count-count.ensures.range))
    (c.loop-z.auto.bytes ∙ c.loop-pixel.auto.bytes ∙ c.requires.whole)

pub write_piece-requires-clause-there : goal.write_piece-requires-clause-there
write_piece-requires-clause-there c =
    let p = c.pixels-piece.result in
    piece_there c.args.shape _ c.args.layout _ _ p.at p.count p.first p.step _ c.pixels-piece.ensures.piece (c.loop-z.auto.bytes ∙ c.loop-pixel.auto.bytes ∙ (rw c.requires.order at c.requires.whole))

pub returns-clause-written : goal.returns-clause-written
returns-clause-written c = λ t.
    let all : c.loop-pixel.pixel ≡ c.args.part.count = omega (arith, c.loop-pixel.invariant.within, c.loop-pixel-test.false) in
    rw c.requires.order (rw (all, c.requires.order) at c.loop-pixel.invariant.written)

pub write_piece-requires-clause-range : goal.write_piece-requires-clause-range
write_piece-requires-clause-range c =
    let p = c.pixels-piece.result in
    scaled_range c.args.shape c.args.kind _ c.args.offsets.now p.at p.count c.new-scale.ensures.0 c.requires.offsets c.pixels-piece.ensures.piece.room
