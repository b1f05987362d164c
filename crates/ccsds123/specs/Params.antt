-- What the calls that look at parameters alone promise.
use Rattle.std.specs.Prelude.{ℕ, ◌≡◌, ◌⊎◌, ◌*◌, ℤ, pos, negsuc, List, Ok, Err}
use Rattle.cube_core.specs.declared.fault.Fault.TheVariants.{WantOfMemory}
use Rattle.cube_core.specs.Shape.{sample_count}
use Rattle.ccsds123.specs.declared.records.ParamsRecord.{ParamsRecord}
use Rattle.ccsds123.specs.declared.records.LayoutRecord.{LayoutRecord}
use Rattle.ccsds123.specs.declared.refusal.Refusal.TheVariants as refusal
use Rattle.ccsds123.specs.Asked.{Ask, ◌and◌, shape_of, shape_test, raw_shape_test, params_test, layout_test}
use Rattle.ccsds123.specs.Bound.{most_bytes}
use Rattle.ccsds123.specs.Header.{zeros}

-- what the command `compress` does without options
abbrev pub usual_record : ParamsRecord
usual_record = record zeros {
  depth = 1;
  word = 1;
  previous = 3;
  register_bits = 64;
  omega = 13;
  interval_log = 6;
  vmin = negsuc 0;
  vmax = pos 3;
  umax = 16;
  gamma_star = 6;
  gamma_zero = 1;
  k = 3;
  block = 8;
  reference = 64;
}

-- parameters pass all tests, or the first refusal is told; or there is no memory for a table
unfoldable pub ChecksParams : ParamsRecord → List ℤ → List ℕ → Ask → Type 0
ChecksParams r weights accumulators (Ok done) = params_test r weights accumulators ≡ Ok tt
ChecksParams r weights accumulators (Err e) = (params_test r weights accumulators ≡ Err e) ⊎ (e ≡ refusal.Coder WantOfMemory)

-- the most bytes of a file, where sizes and bits pass their tests
unfoldable pub TellsBound : ParamsRecord → ℕ → Ask → Type 0
TellsBound r told (Ok done) = (shape_test r ≡ Ok tt) × (told ≡ most_bytes r)
TellsBound r told (Err e) = (shape_test r ≡ Err e) × (told ≡ 0)

-- the number of raw bytes, where sizes and layout pass their tests
unfoldable pub TellsRawLength : ParamsRecord → LayoutRecord → ℕ → Ask → Type 0
TellsRawLength r l told (Ok done) = ((raw_shape_test r and layout_test l) ≡ Ok tt) × (told ≡ sample_count (shape_of r) * l.bytes)
TellsRawLength r l told (Err e) = ((raw_shape_test r and layout_test l) ≡ Err e) × (told ≡ 0)
