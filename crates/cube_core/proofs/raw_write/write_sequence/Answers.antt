use Rattle.std.proofs.Common.{◌≡◌, ◌+◌, ◌*◌, arith}
use Rattle.cube_core.proofs.WrittenParts.{write_on, write_none, piece_fits}
use Rattle.cube_core.proofs.raw_write.write_sequence.Goals as goal

pub returns-clause-written : goal.returns-clause-written
returns-clause-written c = λ t.
    let p = c.sequential-piece.result in
    let first : c.args.part.first * 1 ≡ c.args.part.first = omega arith in
    let all : c.args.part.count * 1 ≡ 0 + p.count = omega (arith, c.sequential-piece.ensures.all.1) in
    let written = write_on c.args.shape c.args.kind _ c.args.layout c.args.part.first c.args.part.count c.args.offsets.now c.args.bytes.now
    c.write_piece.new.bytes p.at p.count p.first p.step 0 c.new.ensures.0 c.sequential-piece.ensures.all.2 c.sequential-piece.ensures.all.0
    (omega (arith, c.sample_count-count.ensures.value, c.sample_count-count.ensures.range)) (rw c.requires.order c.sequential-piece.ensures.piece)
    c.write_piece.ensures.given c.write_piece.ensures.others (c.write_piece.ensures.good.0 t)
    (write_none c.args.shape c.args.kind c.args.layout c.args.part.first c.args.offsets.now c.args.bytes.now) in
    rw (c.requires.order, first, all) (rw c.requires.order at written)

pub returns-clause-good : goal.returns-clause-good
returns-clause-good c = λ all.
    let p = c.sequential-piece.result in
    c.write_piece.ensures.good.1 (rw c.new.ensures.0 (piece_fits c.args.shape c.args.kind c.args.layout c.args.offsets.now p.at p.count
    c.sequential-piece.ensures.piece.room all))
