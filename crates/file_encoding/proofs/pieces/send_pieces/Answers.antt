use Rattle.std.proofs.Common.{◌≡◌, ◌+◌, ◌≤◌, sym, subst, arith}
use Rattle.file_encoding.specs.Pieces.{held_at, held_of}
use Rattle.file_encoding.proofs.Sending.{Steps, none_yet, stepped, piece_rest}
use Rattle.file_encoding.proofs.RowPieces.{held_alone}
use Rattle.file_encoding.proofs.pieces.send_pieces.Goals as goal
use Rattle.file_encoding.proofs.pieces.send_pieces.Goals.{After-piece_residuals, After-gather_places}
use Rattle.file_encoding.proofs.pieces.send_pieces.Given.{Over}

alone : (g : Over) (c : After-piece_residuals g) → c.piece_residuals.result.now ≡ held_of c.args.bands.now c.args.count
alone g c = held_alone c.args.bands.now c.index-bands-0.result c.args.count c.piece_residuals.result.now
    (omega arith) c.index-bands-0.is c.piece_residuals.ensures.value c.piece_residuals.ensures.long

pub take-requires : goal.take-requires
take-requires g c = subst (g.T.Taker.may c.args.taker.now) (sym (alone g (goal.at.take-requires g c).After-piece_residuals)) c.requires.may

pub returns-then-bands-eq1 : goal.returns-then-bands-eq1
returns-then-bands-eq1 g c = record { sent = rw (alone g (goal.at.returns-then-bands-eq1 g c).After-piece_residuals) at c.take.ensures }

pub loop-i-init : goal.loop-i-init
loop-i-init g c = record { within = omega arith; sent = none_yet g.met.T.Taker.laws c.requires.may }

module _ (g : Over) (c : After-gather_places g) where
  within : c.loop-i.i + c.min-places.result ≤ c.args.count
  within = omega (arith, c.min-places.ensures, c.loop-i.invariant.within)

  step : Steps g.T.Taker.may g.T.Taker.takes c.args.taker.now c.loop-i.taker (held_of c.args.bands.now c.args.count) c.gather_places.new.residuals
      (held_of c.args.bands.now (c.loop-i.i + c.min-places.result))
  step =
      stepped g.met.T.Taker.laws c.loop-i.invariant.sent c.requires.may (piece_rest (λ i. held_at c.args.bands.now i) _ _ _ within) c.gather_places.ensures

pub take-requires-in-loop-i : goal.take-requires-in-loop-i
take-requires-in-loop-i g c = (step g (goal.at.take-requires-in-loop-i g c).After-gather_places).fits

pub returns-then-not-take : goal.returns-then-not-take
returns-then-not-take g c =
    record { sent = (step g (goal.at.returns-then-not-take g c).After-gather_places).cut _ _ c.if-not-take.true c.take-in-loop-i.ensures }

pub loop-i-preserved : goal.loop-i-preserved
loop-i-preserved g c =
    let d = (goal.at.loop-i-preserved g c).After-gather_places in
    record { within = within g d; sent = (step g d).more _ _ c.if-not-take.false c.take-in-loop-i.ensures }
