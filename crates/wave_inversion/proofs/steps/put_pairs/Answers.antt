use Rattle.std.proofs.Common.{◌≡◌, take, subst, rules}
use Rattle.wave_inversion.proofs.steps.put_pairs.Goals as goal

pub returns : goal.returns
returns g c =
    let done : c.loop-k.k ≡ g.row.Q = search rules in
    subst (λ k. take k c.loop-k.own ≡ take k c.args.pairs.now) done c.loop-k.invariant.first
