-- Sets of code options, and residuals, of the worked examples.
use Rattle.std.specs.Prelude.{ℕ, Bool, true, false, List, length, take, Result, Ok, Err, Option, Some, None}
use Rattle.cube_core.specs.declared.fault.Fault.{Fault}
use Rattle.block_adaptive.specs.declared.options.CodeSet.{CodeSet}
use Rattle.block_adaptive.specs.DataSets.{CodedDataSet, cut_of, blocks_told, values_of}
use Rattle.block_adaptive.specs.Reading.{block_body_at}

abbrev pub plain : ℕ → CodeSet
plain bits = record { bits = bits; restricted = false }

abbrev pub restricted : ℕ → CodeSet
restricted bits = record { bits = bits; restricted = true }

-- the first n values of the data sets that were read
abbrev pub numbers_of : CodeSet → ℕ → ℕ → ℕ → Result (List CodedDataSet × List Bool) Fault → Option (List ℕ)
numbers_of s size reference n (Ok read) = Some (take n (values_of (blocks_told (cut_of s size reference n) 0 read.0)))
numbers_of s size reference n (Err fault) = None

-- the n residuals of a body of blocks of 8
abbrev pub numbers_read : CodeSet → ℕ → ℕ → List Bool → Option (List ℕ)
numbers_read s reference n bits = numbers_of s 8 reference n (block_body_at (length bits) s 8 reference n bits)
