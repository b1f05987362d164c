use Rattle.std.proofs.Common.{SFits, w32, to_z-of_z, rules}
use Rattle.predict_core.proofs.Inverting.{first_put}
use Rattle.predict_core.proofs.band.first_sample.Goals as goal

pub returns-clause-inverse : goal.returns-clause-inverse
returns-clause-inverse c =
    let s = c.args.settings.now in let fits : SFits w32 c.sample_of.result = search rules in
    let scaled_fits : SFits w32 c.first_scaled-scaled.result = search rules in
    let e = rw (← c.requires.kind) at (simp (to_z-of_z scaled_fits) at c.sample_of.ensures.inverse) in
    let same = first_put c.args.rows.now.image s.band c.args.y c.args.x c.sample_of.result c.requires.place c.prove_is_row.ensures.cube.whole s.predictor
    (rw c.requires.columns s.wide) in
    rw (to_z-of_z fits, ← same, ← c.first_scaled-scaled.ensures.value) e
