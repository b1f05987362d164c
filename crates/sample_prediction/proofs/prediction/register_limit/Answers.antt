use Rattle.std.proofs.Common.{◌≡◌, ◌+◌, ◌-◌, ◌*◌, ◌%◌, ◌^◌, ◌≤◌, arith}
use Rattle.std.proofs.Math.Pow.{pow-add, pow_mono}
use Rattle.sample_prediction.proofs.prediction.register_limit.Goals as goal

pub returns : goal.returns
returns c =
    let p = c.args.predictor.now in let few : c.min.result ≤ 30 = omega (arith, c.min.ensures) in
    let within : c.min.result + p.omega ≤ p.register - 1 = omega (arith, c.min.ensures, c.requires.register, c.requires.omega) in
    let small : 2 ^ c.min.result ≤ 2 ^ 30 = pow_mono few in let whole : (1 * 2 ^ c.min.result) % 4294967296 ≡ 2 ^ c.min.result = omega (arith, small) in
    rw (whole, ← pow-add 2 c.min.result p.omega) (pow_mono within)
