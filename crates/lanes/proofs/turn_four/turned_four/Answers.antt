use Rattle.std.proofs.Common.{◌∙◌, ap, refl}
use Rattle.lanes.proofs.TurningFour.{turned_square_place}
use Rattle.lanes.specs.Lanes.{place}
use Rattle.lanes.specs.TurningFour.{four_rows, woven_four}
use Rattle.lanes.proofs.turn_four.turned_four.Goals as goal

pub returns : goal.returns
returns c i b i-in b-in =
    ap (λ rows. place rows i b) (c.woven_once-2.ensures ∙ ap woven_four c.woven_once.ensures) ∙ turned_square_place (four_rows c.args.square) i b refl i-in b-in
