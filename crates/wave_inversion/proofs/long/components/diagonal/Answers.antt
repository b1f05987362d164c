use Rattle.std.proofs.Common.{◌∙◌, inl, inr}
use Rattle.std.proofs.lemmas.Bool.{cases_lt}
use Rattle.wave_inversion.proofs.WaveParts.{diagonal_low, diagonal_high}
use Rattle.wave_inversion.proofs.long.components.diagonal.Goals as goal

pub returns : goal.returns
returns c b l = elim (cases_lt b c.args.lag) [
  | inl low ↦ c.moved.ensures.first b low ∙ diagonal_low c.args.lower.now c.args.own.now c.args.k c.args.lag b low
  | inr high ↦ c.moved.ensures.second b high l ∙ diagonal_high c.args.lower.now c.args.own.now c.args.k c.args.lag b high
]
