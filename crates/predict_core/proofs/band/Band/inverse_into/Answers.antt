use Rattle.std.proofs.Common.{◌≡◌, SFits, w32, to_z-of_z, rules, ap, ◌∙◌}
use Rattle.cube_core.specs.Image.{put}
use Rattle.predict_core.specs.Following.{PredictorState}
use Rattle.predict_core.proofs.band.Band.inverse_into.Goals as goal
use Rattle.predict_core.proofs.band.Band.inverse_into.Goals.{After-set}

-- the cube with the sample
is : (c : After-set) → c.set.new.self ≡ put c.args.cube.now c.args.self.now.band c.args.y c.args.x c.inverse-sample.result
is c =
    let fits : SFits w32 c.inverse-sample.result = search rules in
    let band : c.self.inside.settings.band ≡ c.args.self.now.band = ap (λ (b : PredictorState). b.band) c.self.view_is in
    simp (to_z-of_z fits) at c.set.ensures ∙ ap (λ b. put c.args.cube.now b c.args.y c.args.x c.inverse-sample.result) band

pub returns-clause-written : goal.returns-clause-written
returns-clause-written c =
    let s = (goal.at.returns-clause-written c).After-set in let fits : SFits w32 c.inverse-sample.result = search rules in rw (to_z-of_z fits) (is s)

pub returns-clause-residual : goal.returns-clause-residual
returns-clause-residual c p f = let s = (goal.at.returns-clause-residual c).After-set in rw (is s) (c.inverse-sample.ensures.residual p f)

pub returns-clause-follows : goal.returns-clause-follows
returns-clause-follows c p f = let s = (goal.at.returns-clause-follows c).After-set in rw (is s) (c.inverse-sample.ensures.follows p f)
