use Rattle.std.proofs.Common.{◌≡◌, ◌+◌, ◌*◌, arith, refl}
use Rattle.cube_core.proofs.Words.{Place, IsReadAt}
use Rattle.cube_core.proofs.Parts.{read_there, band_more, block_ends, block_begins, offsets_on, piece_there}
use Rattle.cube_core.proofs.PartPieces.{few_bytes, scaled_good}
use Rattle.cube_core.proofs.raw_read.read_pixels.Goals as goal

pub loop-z-preserved : goal.loop-z-preserved
loop-z-preserved c =
    let s = c.args.shape in
    let p = c.pixels-piece.result in
    let all = c.pixels-piece.ensures.all in
    record {
      offsets = offsets_on s c.args.kind _ c.loop-z.offsets c.read_piece.new.offsets p.at p.count c.new-scale.ensures.0 c.loop-z.invariant.offsets
          c.read_piece.auto.offsets (c.if-not-read_piece.ensures.good.0 refl) c.read_piece.ensures.others;
      read = band_more s (IsReadAt s c.args.kind c.args.layout (c.args.part.first * s.bands) c.args.bytes.now c.args.offsets.now c.loop-z.offsets)
          (IsReadAt s c.args.kind c.args.layout (c.args.part.first * s.bands) c.args.bytes.now c.args.offsets.now c.read_piece.new.offsets)
          (c.args.part.first + c.loop-pixel.pixel) c.min-block.result c.loop-z.z
          (λ (q : Place) place known. read_there s c.args.kind c.args.layout (c.args.part.first * s.bands) (c.args.part.count * s.bands) c.args.bytes.now
          c.args.offsets.now c.loop-z.offsets c.read_piece.new.offsets p.at p.count p.first p.step (rw c.requires.order c.pixels-piece.ensures.piece)
          (rw c.new-scale.ensures.0 at c.read_piece.ensures.taken) (rw c.new-scale.ensures.0 at (c.if-not-read_piece.ensures.good.0 refl))
          c.read_piece.ensures.others q place (rw (all.0, all.1) known)) c.loop-z.invariant.read;
    }

pub loop-pixel-preserved : goal.loop-pixel-preserved
loop-pixel-preserved c =
    let s = c.args.shape in
    let all : c.loop-z.z ≡ s.bands = omega (arith, c.bands-z-end.ensures.value) in
    let more : (c.args.part.first + c.loop-pixel.pixel + c.min-block.result) * s.bands
    ≡ c.args.part.first * s.bands + (c.loop-pixel.pixel + c.min-block.result) * s.bands = omega arith in
    record {
      within = omega arith;
      offsets = c.loop-z.invariant.offsets;
      read = rw (c.requires.order, ← more) (rw c.requires.order at (block_ends s
          (IsReadAt s c.args.kind c.args.layout (c.args.part.first * s.bands) c.args.bytes.now c.args.offsets.now c.loop-z.offsets)
          (c.args.part.first + c.loop-pixel.pixel) c.min-block.result (rw all at c.loop-z.invariant.read)));
    }

pub loop-z-init : goal.loop-z-init
loop-z-init c =
    let s = c.args.shape in
    record {
      offsets = c.loop-pixel.invariant.offsets;
      read = block_begins s (IsReadAt s c.args.kind c.args.layout (c.args.part.first * s.bands) c.args.bytes.now c.args.offsets.now c.loop-pixel.offsets)
          (c.args.part.first + c.loop-pixel.pixel) c.min-block.result (λ (q : Place) place lt. c.loop-pixel.invariant.read q place (rw c.requires.order (omega (arith, lt))));
    }

pub read_piece-requires-clause-small : goal.read_piece-requires-clause-small
read_piece-requires-clause-small c =
    few_bytes c.args.shape c.args.layout c.args.part _ c.requires.layout c.requires.part (omega (arith, c.sample_count-count.ensures.value, c.sample_count-count.ensures.range))
    c.requires.whole

pub read_piece-requires-clause-there : goal.read_piece-requires-clause-there
read_piece-requires-clause-there c =
    let p = c.pixels-piece.result in
    piece_there c.args.shape _ c.args.layout _ _ p.at p.count p.first p.step _ c.pixels-piece.ensures.piece (rw c.requires.order at c.requires.whole)

pub returns-then-not-read_piece-clause-good : goal.returns-then-not-read_piece-clause-good
returns-then-not-read_piece-clause-good c = λ all.
    let p = c.pixels-piece.result in
    c.if-not-read_piece.ensures.good.1 (scaled_good c.args.shape _ c.args.kind _ c.args.layout c.args.bytes.now c.read_piece.new.offsets _ _ p.at p.count p.first p.step
    c.new-scale.ensures.0 c.pixels-piece.ensures.piece c.read_piece.ensures.taken (rw c.requires.order at all))

pub returns-clause-filled : goal.returns-clause-filled
returns-clause-filled c = λ t.
    let all : c.loop-pixel.pixel ≡ c.args.part.count = omega (arith, c.loop-pixel.invariant.within, c.loop-pixel-test.false) in
    rw c.requires.order (rw (all, c.requires.order) at c.loop-pixel.invariant.read)
