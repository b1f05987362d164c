use Rattle.std.proofs.Common.{◌+◌, ◌≤◌, ◌++◌, length, take, drop, arith}
use Rattle.file_encoding.specs.Pieces.{held_at}
use Rattle.file_encoding.proofs.Sending.{Steps, none_yet, run_piece, stepped}
use Rattle.file_encoding.proofs.RowPieces.{gathered}
use Rattle.file_encoding.proofs.pieces.send_column.Goals as goal
use Rattle.file_encoding.proofs.pieces.send_column.Goals.{After-gather}
use Rattle.file_encoding.proofs.pieces.send_column.Given.{Over}

module _ (g : Over) (c : After-gather g) where
  within : c.loop-first.first + c.min-count.result ≤ length c.args.bands.now
  within = omega (arith, c.min-count.ensures, c.loop-first.invariant.within, c.loop-first-test.true)

  step : Steps g.T.Taker.may g.T.Taker.takes c.args.taker.now c.loop-first.taker (held_at c.args.bands.now c.args.i)
      (take c.min-count.result (c.gather.new.residuals ++ drop c.min-count.result c.loop-first.room))
      (take (c.loop-first.first + c.min-count.result) (held_at c.args.bands.now c.args.i))
  step =
      stepped g.met.T.Taker.laws c.loop-first.invariant.sent c.requires.may (run_piece _ _ c.min-count.result)
      (gathered _ _ _ _ _ _ _ within (omega arith) c.gather.ensures)

pub loop-first-init : goal.loop-first-init
loop-first-init g c = record { within = omega arith; sent = none_yet g.met.T.Taker.laws c.requires.may }

pub take-requires : goal.take-requires
take-requires g c = (step g (goal.at.take-requires g c).After-gather).fits

pub returns-then-not-take : goal.returns-then-not-take
returns-then-not-take g c = record { sent = (step g (goal.at.returns-then-not-take g c).After-gather).cut _ _ c.if-not-take.true c.take.ensures }

pub loop-first-preserved : goal.loop-first-preserved
loop-first-preserved g c =
    let d = (goal.at.loop-first-preserved g c).After-gather in
    record { within = within g d; sent = (step g d).more _ _ c.if-not-take.false c.take.ensures }
