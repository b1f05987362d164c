use Rattle.std.proofs.Common.{◌≡◌, ◌*◌, length, arith, rules, sym}
use Rattle.group_prediction.proofs.LongLanes.{column_is}
use Rattle.group_prediction.proofs.long.weights.take_weights.Goals as goal

pub returns-clause-first : goal.returns-clause-first
returns-clause-first g c =
    let done : c.loop-j.j ≡ 2 * g.row.Q = search rules in let kept = c.loop-j.invariant in let few = c.requires.few in let long = kept.long in
    let rows : length c.args.rows.now ≡ 18 = search rules in
    sym (column_is (2 * g.row.Q) c.args.b c.args.rows.now c.loop-j.weights (omega (arith, few, rows)) (omega (arith, few, long))
    (λ j l. sym (kept.done j (omega (arith, l, done)))))
