-- Unfolds each definition, for the worked examples.
use Rattle.cube_core.specs.Greatest.{greatest}
use Rattle.header_bits.specs.Bits.{bits_of, number_of, bits_of_bytes, fundamental}
use Rattle.header_bits.specs.Reading.{number_at, zeros_at}
use Rattle.block_adaptive.specs.Options.{zero_identifier, identifier, pair_codes, quotient_codes, low_groups, coded, option_text}
use Rattle.block_adaptive.specs.Segments.{first_blocks, blocks, segment_rest}
use Rattle.block_adaptive.specs.DataSets.{run_code, rest_code, spelled, AreCodedDataSets, blocks_told}
use Rattle.block_adaptive.specs.Chosen.{shortest, chosen_option, chosen_from, chosen_data_sets, chosen_block_body}
use Rattle.block_adaptive.specs.Reading.{fundamental_at, quotients_at, low_at, lows_at, split_at, words_at, pair_sum, pair_of, pairs_at, run_at}
use Rattle.block_adaptive.specs.Reading.{data_set_at, data_sets_at, block_body_at}

unfoldable pub everything : Unit {0}
unfolding bits_of number_of bits_of_bytes fundamental number_at zeros_at zero_identifier identifier pair_codes quotient_codes low_groups coded option_text
    first_blocks blocks segment_rest run_code rest_code spelled AreCodedDataSets blocks_told shortest chosen_option chosen_from chosen_data_sets
    chosen_block_body fundamental_at quotients_at low_at lows_at split_at words_at greatest pair_sum pair_of pairs_at run_at data_set_at data_sets_at
    block_body_at
everything = tt
