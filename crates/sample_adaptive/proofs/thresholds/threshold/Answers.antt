use Rattle.std.proofs.Common.{◌≡◌, ◌-◌, ◌*◌, ◌%◌, ◌^◌, ◌≤◌, refl, arith}
use Rattle.std.proofs.lemmas.Bool.{lt-ltb, le-ltb, ne_eqb}
use Rattle.std.proofs.Common.{eq-eqb}
use Rattle.std.proofs.lemmas.Nat.{mul-le}
use Rattle.std.proofs.Math.Nat.{mod-eq_of_lt}
use Rattle.std.proofs.Math.Pow.{pow_mono}
use Rattle.sample_adaptive.specs.Thresholds.{threshold}
use Rattle.sample_adaptive.proofs.thresholds.threshold.Goals as goal

pub returns-then-j-eq0 : goal.returns-then-j-eq0
unfolding threshold
returns-then-j-eq0 c = rw (eq-eqb c.args.j 0 c.if-j-eq0.true) refl

pub returns-then-j-bits : goal.returns-then-j-bits
unfolding threshold
returns-then-j-bits c =
    rw (ne_eqb c.args.j 0 (λ e. omega (arith, c.if-j-eq0.false, e)), lt-ltb (c.args.bits - 2) c.args.j c.if-j-bits.true) refl

pub returns : goal.returns
unfolding threshold
returns c =
    let power : 2 ^ c.args.j ≤ 2 ^ 14 = pow_mono {i = c.args.j} {j = 14} (omega (arith, c.requires, c.if-j-bits.false)) in
    let product = mul-le c.args.counter (2 ^ c.args.j) 1024 16384 (omega (arith, c.requires)) (omega (arith, power)) in
    let whole : c.args.counter * 2 ^ c.args.j % 4294967296 ≡ c.args.counter * 2 ^ c.args.j = mod-eq_of_lt (omega (arith, product)) in
    rw (ne_eqb c.args.j 0 (λ e. omega (arith, c.if-j-eq0.false, e)), le-ltb (c.args.bits - 2) c.args.j c.if-j-bits.false, whole) refl
