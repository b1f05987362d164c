use Rattle.std.proofs.Common.{◌≡◌, ◌+◌, ◌*◌, ◌<◌, ℕ, length}
use Rattle.cube_core.specs.Image.{Image}
use Rattle.header_bits.specs.declared.params.Params.{Params}
use Rattle.wave_inversion.specs.Inversion.{IsInverting, AreKeptBeside, band_at}
use Rattle.predict_core.specs.Precedence.{AreAlike}
use Rattle.wave_inversion.proofs.inversion.start_wave.Given as goal

abbrev pub invariant-loop-b : goal.invariant-loop-b
invariant-loop-b l = record {
  inverted : (p : Params) (d : Image) → IsInverting p l.initial.cube d l.initial.bands → IsInverting p l.cube d l.bands;
  alike : AreAlike l.initial.cube l.cube;
  many : length l.bands ≡ length l.initial.bands;
  moved : (b : ℕ) → b < l.b → (band_at l.bands (l.first + b)).t ≡ l.y * l.initial.cube.shape.columns + 1;
  others : AreKeptBeside l.initial.bands l.bands l.first (l.first + l.b);
}
