use Rattle.std.proofs.Common.{◌≡◌, ◌+◌, ◌*◌, arith}
use Rattle.cube_core.proofs.Parts.{read_on, read_none, offsets_on}
use Rattle.cube_core.proofs.PartPieces.{few_bytes, scaled_good}
use Rattle.cube_core.proofs.raw_read.read_sequence.Goals as goal

pub returns-clause-filled : goal.returns-clause-filled
returns-clause-filled c = λ t.
    let p = c.sequential-piece.result in
    let first : c.args.part.first * 1 ≡ c.args.part.first = omega arith in
    let all : c.args.part.count * 1 ≡ 0 + p.count = omega (arith, c.sequential-piece.ensures.all.1) in
    let read = read_on c.args.shape c.args.kind _ c.args.layout c.args.part.first c.args.part.count c.args.bytes.now c.args.offsets.now c.args.offsets.now
    c.read_piece.new.offsets p.at p.count p.first p.step 0 c.new.ensures.0 c.sequential-piece.ensures.all.2 c.sequential-piece.ensures.all.0
    (omega (arith, c.sample_count-count.ensures.value, c.sample_count-count.ensures.range)) (rw c.requires.order c.sequential-piece.ensures.piece)
    c.read_piece.ensures.taken (c.read_piece.ensures.good.0 t) c.read_piece.ensures.others
    (read_none c.args.shape c.args.kind c.args.layout c.args.part.first c.args.bytes.now c.args.offsets.now) in
    rw (c.requires.order, first, all) (rw c.requires.order at read)

pub returns-clause-offsets : goal.returns-clause-offsets
returns-clause-offsets c = λ t.
    let p = c.sequential-piece.result in
    offsets_on c.args.shape c.args.kind _ c.args.offsets.now c.read_piece.new.offsets p.at p.count c.new.ensures.0 c.requires.offsets
    c.read_piece.auto.offsets (c.read_piece.ensures.good.0 t) c.read_piece.ensures.others

pub read_piece-requires-clause-small : goal.read_piece-requires-clause-small
read_piece-requires-clause-small c =
    few_bytes c.args.shape c.args.layout c.args.part _ c.requires.layout c.requires.part (omega (arith, c.sample_count-count.ensures.value, c.sample_count-count.ensures.range))
    c.requires.whole

pub returns-clause-good : goal.returns-clause-good
returns-clause-good c = λ all.
    let p = c.sequential-piece.result in
    let one : c.args.part.count * 1 ≡ c.args.part.count = omega arith in
    c.read_piece.ensures.good.1 (scaled_good c.args.shape _ c.args.kind _ c.args.layout c.args.bytes.now c.read_piece.new.offsets _ _ p.at p.count p.first p.step
    c.new.ensures.0 c.sequential-piece.ensures.piece c.read_piece.ensures.taken (rw (c.requires.order, one) at all))
