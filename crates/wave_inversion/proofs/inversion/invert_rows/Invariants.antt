use Rattle.std.proofs.Common.{◌≡◌, ◌+◌, ◌*◌, length}
use Rattle.cube_core.specs.Image.{Image}
use Rattle.header_bits.specs.declared.params.Params.{Params}
use Rattle.wave_inversion.specs.Inversion.{IsInverting, StandAt, AreKeptBeside}
use Rattle.predict_core.specs.Precedence.{AreAlike}
use Rattle.wave_inversion.proofs.inversion.invert_rows.Given as goal

abbrev pub invariant-loop-z : goal.invariant-loop-z
invariant-loop-z l = record {
  inverted : (p : Params) (d : Image) → IsInverting p l.initial.cube d l.initial.bands → IsInverting p l.cube d l.bands;
  alike : AreAlike l.initial.cube l.cube;
  many : length l.bands ≡ length l.initial.bands;
  moved : StandAt l.bands l.first l.z ((l.y + 1) * l.initial.cube.shape.columns);
  others : AreKeptBeside l.initial.bands l.bands l.first l.z;
}
