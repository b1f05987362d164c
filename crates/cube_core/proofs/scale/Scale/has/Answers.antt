use Rattle.std.proofs.Common.{arith}
use Rattle.std.proofs.lemmas.Bool.{leb-true, le-leb}
use Rattle.cube_core.proofs.scale.Scale.has.Goals as goal

pub returns : goal.returns
returns c = (λ e. omega (arith, leb-true _ _ e, c.args.self.now.most_is), λ h. le-leb _ _ (omega (arith, h, c.args.self.now.most_is)))
