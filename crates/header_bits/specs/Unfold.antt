-- Unfolds each definition, for the worked examples.
use Rattle.header_bits.specs.Bits.{bits_of, number_of, bits_of_bytes, fundamental}
use Rattle.header_bits.specs.Reading.{number_at, zeros_at}
use Rattle.header_bits.specs.Layout.{total, spelled, values}
use Rattle.header_bits.specs.Parts.{reserved_test, part_at, then_at, as_at}
use Rattle.header_bits.specs.ImagePart.{image}
use Rattle.header_bits.specs.PredictorPart.{predictor}
use Rattle.header_bits.specs.CoderPart.{coder}
use Rattle.header_bits.specs.TableParts.{weight_count, weights, some_above, constants}
use Rattle.header_bits.specs.Header.{parts_at, header_at, header_of}
use Rattle.header_bits.specs.Lawful.{entries_fault, params_fault}

unfoldable pub everything : Unit {0}
unfolding bits_of number_of bits_of_bytes fundamental number_at zeros_at total spelled values reserved_test part_at then_at as_at image predictor coder
    weight_count weights some_above constants parts_at header_at header_of entries_fault params_fault
everything = tt
