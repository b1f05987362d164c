use Rattle.std.proofs.Common.{◌≡◌, ◌*◌, ◌-◌, ◌≤◌, length}
use Rattle.cube_core.specs.Image.{Image}
use Rattle.header_bits.specs.declared.params.Params.{Params}
use Rattle.wave_inversion.specs.Inversion.{IsInverting, StandAt, AreAhead}
use Rattle.predict_core.specs.Precedence.{AreAlike}
use Rattle.wave_inversion.proofs.inversion.invert.Given as goal

abbrev pub invariant-loop-first : goal.invariant-loop-first
invariant-loop-first l = record {
  inverted : (p : Params) (d : Image) → IsInverting p l.initial.cube d l.initial.bands → IsInverting p l.cube d l.bands;
  alike : AreAlike l.initial.cube l.cube;
  many : length l.bands ≡ length l.initial.bands;
  inside : l.first ≤ l.count;
  done : AreAhead l.bands l.first (l.initial.cube.shape.rows * l.initial.cube.shape.columns);
  rest : StandAt l.bands l.first l.count 0;
}

abbrev pub decreases-loop-first : goal.decreases-loop-first
decreases-loop-first l = l.count - l.first
