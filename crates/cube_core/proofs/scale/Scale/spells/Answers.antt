use Rattle.std.proofs.lemmas.Bool.{ltb-true, lt-ltb}
use Rattle.std.proofs.Common.{◌≡◌, arith}
use Rattle.cube_core.proofs.scale.Scale.spells.Goals as goal

pub returns-else-this-eq2 : goal.returns-else-this-eq2
returns-else-this-eq2 g c = let one : g.row.BYTES ≡ 1 = omega (arith, c.requires.width) in rw one (λ e. ltb-true _ _ e, λ h. lt-ltb _ _ h)
