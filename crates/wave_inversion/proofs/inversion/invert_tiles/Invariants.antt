use Rattle.std.proofs.Common.{◌≡◌, ◌+◌, ◌-◌, ◌<◌, ◌≤◌, length}
use Rattle.cube_core.specs.Image.{Image}
use Rattle.header_bits.specs.declared.params.Params.{Params}
use Rattle.wave_inversion.specs.Inversion.{IsInverting, AreKeptBeside}
use Rattle.predict_core.specs.Precedence.{AreAlike}
use Rattle.wave_inversion.specs.WaveTiles.{StandAsWave}
use Rattle.wave_inversion.proofs.inversion.invert_tiles.Given as goal

abbrev pub invariant-loop-origin : goal.invariant-loop-origin
invariant-loop-origin l = record {
  inverted : (p : Params) (d : Image) → IsInverting p l.initial.cube d l.initial.bands → IsInverting p l.cube d l.bands;
  alike : AreAlike l.initial.cube l.cube;
  many : length l.bands ≡ length l.initial.bands;
  inside : l.origin + 2 ≤ l.columns;
  begun : 0 < l.origin → 7 ≤ l.origin;
  stand : StandAsWave l.bands l.first l.columns l.y l.origin;
  others : AreKeptBeside l.initial.bands l.bands l.first (l.first + 8);
}

abbrev pub decreases-loop-origin : goal.decreases-loop-origin
decreases-loop-origin l = l.columns - l.origin
