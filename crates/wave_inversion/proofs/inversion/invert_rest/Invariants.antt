use Rattle.std.proofs.Common.{◌≡◌, ◌+◌, ◌*◌, ◌-◌, ◌≤◌, length}
use Rattle.cube_core.specs.Image.{Image}
use Rattle.header_bits.specs.declared.params.Params.{Params}
use Rattle.wave_inversion.specs.Inversion.{IsInverting, AreKeptBeside, band_at}
use Rattle.predict_core.specs.Precedence.{AreAlike}
use Rattle.wave_inversion.proofs.inversion.invert_rest.Given as goal

abbrev pub invariant-loop-x : goal.invariant-loop-x
invariant-loop-x l = record {
  inverted : (p : Params) (d : Image) → IsInverting p l.initial.cube d l.initial.bands → IsInverting p l.cube d l.bands;
  alike : AreAlike l.initial.cube l.cube;
  many : length l.bands ≡ length l.initial.bands;
  inside : l.x ≤ l.columns;
  moved : (band_at l.bands l.z).t ≡ l.y * l.columns + l.x;
  others : AreKeptBeside l.initial.bands l.bands l.z (l.z + 1);
}

abbrev pub decreases-loop-x : goal.decreases-loop-x
decreases-loop-x l = l.columns - l.x
