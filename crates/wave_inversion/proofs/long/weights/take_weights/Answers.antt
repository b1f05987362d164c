use Rattle.std.proofs.Common.{◌≡◌, length, arith, rules, sym}
use Rattle.predict_core.proofs.LaneVectors.{weights_are}
use Rattle.wave_inversion.proofs.long.weights.take_weights.Goals as goal

pub returns-clause-first : goal.returns-clause-first
returns-clause-first g c =
    let done : c.loop-j.j ≡ g.row.Q = search rules in let kept = c.loop-j.invariant in let few = c.requires.few in let long = kept.long in
    let rows : length c.args.rows.now ≡ 9 = search rules in
    sym (weights_are g.row.Q c.args.b c.args.rows.now c.loop-j.weights (omega (arith, few, rows)) (omega (arith, few, long))
    (λ j l. kept.even j (omega (arith, l, done))) (λ j l. kept.odd j (omega (arith, l, done))))
