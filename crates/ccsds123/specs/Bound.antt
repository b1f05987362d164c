-- How many bytes a file may have, by the numbers of its parameters alone.
use Rattle.std.specs.Prelude.{ℕ, ◌+◌, ◌*◌, ◌/◌, ◌≤◌, ◌==◌, min, if◌then◌else◌, ℤ, List, length}
use Rattle.cube_core.specs.Image.{Image}
use Rattle.cube_core.specs.Shape.{sample_count}
use Rattle.header_bits.specs.Lawful.{IsLawful}
use Rattle.predict_core.specs.Cubes.{IsCubeOf}
use Rattle.file_coding.specs.File.{file_of}
use Rattle.ccsds123.specs.declared.records.ParamsRecord.{ParamsRecord}
use Rattle.ccsds123.specs.Asked.{is_set, shape_of, has_accumulators, params_of}

-- a header has 152 bits, up to 18 weights of 22 bits for each band, four bits of a constant for each, and two fills of less than a byte
unfoldable pub most_header : ParamsRecord → ℕ
most_header r =
    152 + (if is_set r.weight_table then r.bands * 396 + 7 else 0) + (if has_accumulators r then r.bands * 4 + 7 else 0)

-- a code word has at most a unary length limit of zeros, and the bits of a sample
unfoldable pub most_sample_body : ParamsRecord → ℕ
most_sample_body r = sample_count (shape_of r) * (min r.umax 32 + r.bits)

-- no data set is longer than its blocks uncoded: the bits of their samples, up to 63 of which fill the last block, and an identifier of up to 6 bits
-- for each block, which has at least 8 samples
unfoldable pub most_block_body : ParamsRecord → ℕ
most_block_body r = sample_count (shape_of r) * r.bits + 63 * 16 + (sample_count (shape_of r) / 8 + 1) * 6

-- header, body, and fill up to an output word of at most 8 bytes
unfoldable pub most_bytes : ParamsRecord → ℕ
most_bytes r = (most_header r + (if r.coder == 0 then most_sample_body r else most_block_body r)) / 8 + 8

-- no file is longer, whatever its samples and its tables
abbrev pub NoLongerFile : Type 0
NoLongerFile =
    (r : ParamsRecord) (weights : List ℤ) (accumulators : List ℕ) (c : Image) → IsLawful (params_of r weights accumulators)
    → IsCubeOf (params_of r weights accumulators) c → length (file_of c (params_of r weights accumulators)) ≤ most_bytes r
