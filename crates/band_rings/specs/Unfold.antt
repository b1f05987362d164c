-- Unfolds each definition, for the worked examples.
use Rattle.band_rings.specs.Lane.{stepped, after}

unfoldable pub everything : Unit {0}
unfolding stepped after
everything = tt
