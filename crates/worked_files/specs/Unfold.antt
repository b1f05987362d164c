-- Unfolds each definition, for the worked examples.
use Rattle.header_bits.specs.Unfold.{everything as of_headers}
use Rattle.sample_prediction.specs.Unfold.{everything as of_residuals}
use Rattle.sample_adaptive.specs.Unfold.{everything as of_samples}
use Rattle.block_adaptive.specs.Unfold.{everything as of_blocks}
use Rattle.file_format.specs.File.{body_of, packed_from, packed, file_bits, file_of_residuals, file_of}
use Rattle.file_format.specs.Files.{after_body, body_test, head_at, file_test}
use Rattle.file_encoding.specs.Own.{owners_of, part}
use Rattle.coder_pipe.specs.Weave.{weave}

unfoldable pub everything : Unit {0}
unfolding of_headers of_residuals of_samples of_blocks body_of packed_from packed file_bits file_of_residuals file_of after_body body_test head_at file_test
    owners_of part weave
everything = tt
