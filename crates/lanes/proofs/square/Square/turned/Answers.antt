use Rattle.std.proofs.Common.{◌∙◌, ap, refl}
use Rattle.lanes.proofs.Turning.{turned_place}
use Rattle.lanes.specs.Squares.{at, rows_of, mixed}
use Rattle.lanes.proofs.square.Square.turned.Goals as goal

pub returns : goal.returns
returns c i b i-in b-in =
    ap (λ rows. at rows i b) (c.mixed-3.ensures ∙ ap mixed (c.mixed-2.ensures ∙ ap mixed c.mixed.ensures)) ∙ turned_place 0 (rows_of c.args.self) i b refl i-in b-in
