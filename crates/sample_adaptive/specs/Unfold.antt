-- Unfolds each definition, for the worked examples.
use Rattle.header_bits.specs.Bits.{bits_of, number_of, bits_of_bytes}
use Rattle.cube_core.specs.Greatest.{greatest}
use Rattle.cube_core.specs.Order.{places}
use Rattle.sample_adaptive.specs.Statistics.{constant_of, start_statistics, next_statistics, statistics_from, statistics, code_parameter}
use Rattle.sample_adaptive.specs.Words.{form_text, form_of, code_at}
use Rattle.header_bits.specs.Reading.{number_at, zeros_at}
use Rattle.sample_adaptive.specs.Reading.{plain_at, escape_at, word_at, words_at, sample_body_at}
use Rattle.sample_adaptive.specs.Body.{band_residuals, words_after, sample_body}

unfoldable pub everything : Unit {0}
unfolding bits_of number_of bits_of_bytes places constant_of start_statistics next_statistics statistics_from statistics greatest code_parameter form_text
    form_of code_at band_residuals words_after sample_body number_at zeros_at plain_at escape_at word_at words_at sample_body_at
everything = tt
