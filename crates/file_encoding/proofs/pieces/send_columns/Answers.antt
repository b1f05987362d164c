use Rattle.std.proofs.Common.{◌+◌, refl}
use Rattle.file_encoding.specs.Pieces.{held_at, held_of}
use Rattle.file_encoding.proofs.Sending.{Steps, none_yet, stepped, upto_rest}
use Rattle.file_encoding.proofs.pieces.send_columns.Goals as goal
use Rattle.file_encoding.proofs.pieces.send_columns.Goals.{In-loop-i}
use Rattle.file_encoding.proofs.pieces.send_columns.Given.{Over}

step : (g : Over) (c : In-loop-i g) → Steps g.T.Taker.may g.T.Taker.takes c.args.taker.now c.loop-i.taker (held_of c.args.bands.now c.args.count)
    (held_at c.args.bands.now c.loop-i.i) (held_of c.args.bands.now (c.loop-i.i + 1))
step g c = stepped g.met.T.Taker.laws c.loop-i.invariant c.requires.may (upto_rest (λ i. held_at c.args.bands.now i) _ _ c.loop-i-test.true) refl

pub send_column-requires-clause-may : goal.send_column-requires-clause-may
send_column-requires-clause-may g c = (step g (goal.at.send_column-requires-clause-may g c).In-loop-i).fits

pub returns-then-not-send_column : goal.returns-then-not-send_column
returns-then-not-send_column g c =
    record { sent = (step g (goal.at.returns-then-not-send_column g c).In-loop-i).cut _ _ c.if-not-send_column.true c.send_column.ensures.sent }

pub loop-i-preserved : goal.loop-i-preserved
loop-i-preserved g c = (step g (goal.at.loop-i-preserved g c).In-loop-i).more _ _ c.if-not-send_column.false c.send_column.ensures.sent

pub loop-i-init : goal.loop-i-init
loop-i-init g c = none_yet g.met.T.Taker.laws c.requires.may
