use Rattle.std.proofs.Common.{◌≡◌, ◌*◌, ◌≤◌, false}
use Rattle.header_bits.specs.TableParts.{weight_count}
use Rattle.speed.proofs.predictor.weight_count.Given as goal

abbrev pub invariant-loop-band : goal.invariant-loop-band
invariant-loop-band l = record { so_far : l.count ≡ weight_count l.previous false l.band; most : l.count ≤ 18 * l.band }
