use Rattle.std.proofs.Common.{◌≡◌, ◌*◌, length, arith, rules}
use Rattle.predict_core.proofs.LaneVectors.{same_first}
use Rattle.wave_inversion.proofs.finish.copy_first.Goals as goal

pub returns-clause-first : goal.returns-clause-first
returns-clause-first g c =
    let kept = c.loop-k.invariant in let few = c.requires in
    let done : c.loop-k.k ≡ 2 * g.row.Q = search rules in let long : length c.args.weights.now ≡ 18 = search rules in
    same_first (2 * g.row.Q) c.loop-k.own c.args.weights.now (omega (arith, few, kept.long)) (omega (arith, few, long)) (λ i l. kept.first i (omega (arith, l, done)))
