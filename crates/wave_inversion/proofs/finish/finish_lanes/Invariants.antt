use Rattle.std.proofs.Common.{◌≡◌, ◌+◌, ◌-◌, ◌<◌, ℕ, length}
use Rattle.cube_core.specs.Image.{Image}
use Rattle.header_bits.specs.declared.params.Params.{Params}
use Rattle.predict_core.specs.Following.{MovesBy}
use Rattle.wave_inversion.specs.Inversion.{IsInverting, AreKeptBeside, band_at}
use Rattle.predict_core.specs.Precedence.{AreAlike}
use Rattle.wave_inversion.specs.WaveLanes.{first_column}
use Rattle.wave_inversion.specs.WaveTiles.{end_column}
use Rattle.wave_inversion.proofs.finish.finish_lanes.Given as goal

abbrev pub invariant-loop-b : goal.invariant-loop-b
invariant-loop-b g l = record {
  inverted : (p : Params) (d : Image) → IsInverting p l.initial.cube d l.initial.bands → IsInverting p l.cube d l.bands;
  alike : AreAlike l.initial.cube l.cube;
  many : length l.bands ≡ length l.initial.bands;
  moved : (b : ℕ) → b < l.b → MovesBy (end_column l.initial.cube.shape.columns l.origin l.last b - first_column l.origin b) (band_at l.initial.bands (l.first + b)) (band_at l.bands (l.first + b));
  others : AreKeptBeside l.initial.bands l.bands l.first (l.first + l.b);
}
