use Rattle.std.proofs.Common.{length, arith}
use Rattle.file_encoding.proofs.GatheredSquares.{columns_more}
use Rattle.file_encoding.proofs.RowPieces.{places_more}
use Rattle.file_encoding.proofs.gather.gather_places.Goals as goal

pub loop-k-preserved : goal.loop-k-preserved
loop-k-preserved c = record {
  within = omega (arith, c.loop-k-test.true);
  done = columns_more c.args.bands.now c.args.first c.loop-k.k 8 (length c.args.bands.now) _ c.args.count c.loop-k.residuals c.gather_squares.new.residuals
      (omega arith) (omega arith) (omega (arith, c.loop-k-test.true)) c.gather_squares.ensures c.loop-k.invariant.done;
}

pub loop-i-preserved : goal.loop-i-preserved
loop-i-preserved c =
    places_more c.args.bands.now c.args.first c.loop-i.i _ (length c.args.bands.now) c.args.count c.loop-i.residuals c.gather.new.residuals
    (omega arith) (omega arith) c.loop-i-test.true c.gather.ensures c.loop-i.invariant
