use Rattle.std.proofs.Common.{◌≡◌, ◌+◌, ◌-◌, ◌*◌, ◌<◌, ◌≤◌, ◌^◌, ℕ, length}
use Rattle.std.specs.Prelude.{slice_index}
use Rattle.cube_core.specs.Image.{sample_at}
use Rattle.cube_core.specs.Kind.{sample_of}
use Rattle.raw_rows.specs.OneRow.{samples_of_row}
use Rattle.raw_rows.proofs.one_row.copy_bands.Given as goal

abbrev pub invariant-loop-z : goal.invariant-loop-z
invariant-loop-z l = record {
  within : l.z ≤ l.bands;
  long : length l.samples ≡ samples_of_row l.row.shape;
  copied : (z x : ℕ) → z < l.z → x < l.row.shape.columns
      → (slice_index l.samples (z * l.row.shape.columns + x) < 2 ^ l.row.kind.bits)
      × (sample_at l.row z 0 x ≡ sample_of l.row.kind (slice_index l.samples (z * l.row.shape.columns + x)));
}

abbrev pub decreases-loop-z : goal.decreases-loop-z
decreases-loop-z l = l.bands - l.z
