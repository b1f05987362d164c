-- Unfolds each definition, for the worked examples.
use Rattle.cube_core.specs.Offsets.{samples_of}
use Rattle.cube_core.specs.Image.{sample_at}
use Rattle.cube_core.specs.Layout.{sample_bytes, raw_bytes, samples_in}
use Rattle.cube_core.specs.Order.{places, place_index}

unfoldable pub everything : Unit {0}
unfolding samples_of sample_at sample_bytes raw_bytes samples_in places place_index
everything = tt
