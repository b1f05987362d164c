use Rattle.std.proofs.Common.{pos, ◌∙◌, ap, refl}
use Rattle.lanes.proofs.Turning.{turned_place}
use Rattle.lanes.specs.Lanes.{place}
use Rattle.lanes.specs.Turning.{rows_of, woven}
use Rattle.lanes.proofs.turn.turned.Goals as goal

pub returns : goal.returns
returns c i b i-in b-in =
    ap (λ rows. place rows i b) (c.woven-3.ensures ∙ ap woven (c.woven-2.ensures ∙ ap woven c.woven.ensures)) ∙ turned_place (pos 0) (rows_of c.args.square) i b refl i-in b-in
