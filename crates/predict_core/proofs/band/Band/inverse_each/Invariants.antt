use Rattle.std.proofs.Common.{◌≡◌, ◌+◌, ◌*◌, take, length}
use Rattle.cube_core.specs.Shape.{sample_count}
use Rattle.header_bits.specs.declared.params.Params.{Params}
use Rattle.sample_prediction.specs.Residual.{run_residuals}
use Rattle.predict_core.specs.RunPlaces.{AreAlikeBeside}
use Rattle.predict_core.specs.Following.{Follows, MovesBy}
use Rattle.predict_core.proofs.band.Band.inverse_each.Given as goal

abbrev pub invariant-loop-i : goal.invariant-loop-i
invariant-loop-i l = record {
  moved : MovesBy l.i l.initial.self l.self;
  held : l.self.piece ≡ l.initial.self.piece;
  beside : AreAlikeBeside l.initial.cube l.cube l.initial.self.band l.y l.x l.i;
  residuals : (p : Params) → Follows p l.initial.self l.initial.cube
      → run_residuals p l.cube l.initial.self.band (l.y * l.cube.shape.columns + l.x) l.i ≡ take l.i l.deltas;
  follows : (p : Params) → Follows p l.initial.self l.initial.cube → Follows p l.self l.cube;
  whole : length l.cube.samples ≡ sample_count l.cube.shape;
}
