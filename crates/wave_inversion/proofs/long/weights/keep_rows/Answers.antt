use Rattle.std.proofs.Common.{◌≡◌, length, arith, rules}
use Rattle.wave_inversion.proofs.WaveRows.{same_rows}
use Rattle.wave_inversion.proofs.long.weights.keep_rows.Goals as goal

pub returns : goal.returns
returns g c b =
    let kept = c.loop-j.invariant in let few = c.requires in let done : c.loop-j.j ≡ g.row.Q = search rules in
    let rows : length c.args.rows.now ≡ 9 = search rules in
    same_rows g.row.Q b c.loop-j.kept c.args.rows.now (omega (arith, few, kept.long)) (omega (arith, few, rows)) (λ n l. kept.same n (omega (arith, l, done)))
