use Rattle.std.proofs.Common.{◌^◌, ◌≤◌, ℤ, pos, ◌-ℤ◌, ◌≤ℤ◌, arith, pow_mono}
use Rattle.std.proofs.lemmas.Int.{ints}
use Rattle.lanes.specs.Lanes.{place}
use Rattle.wave_inversion.specs.WaveRows.{without_sign}
use Rattle.wave_inversion.proofs.rows.fill_narrow_lines.Goals as goal

pub prove_signed-requires : goal.prove_signed-requires
prove_signed-requires c i h =
    let top : 2 ^ c.args.cube.now.kind.bits ≤ 2 ^ 12 = pow_mono c.requires.bits in
    let within = c.fill_lines.ensures.within c.loop-b.b i (omega (arith, c.loop-b.auto.b)) (omega (arith, c.loop-b-test.true)) h in
    omega (arith, ints, within, top)

pub returns-clause-numbers : goal.returns-clause-numbers
returns-clause-numbers c = record {
  numbers = λ b i l h used some inside left right. (let e = c.loop-b.invariant.signed b i used (omega (arith, l, c.loop-b-test.false)) h in
      rw e at (c.fill_lines.ensures.numbers.numbers b i l h used some inside left right));
  none = λ b i l h used out. (let e = c.loop-b.invariant.signed b i used (omega (arith, l, c.loop-b-test.false)) h in
      rw e at (c.fill_lines.ensures.numbers.none b i l h used out));
}

pub returns-clause-within : goal.returns-clause-within
returns-clause-within c b used l i h =
    let e = c.loop-b.invariant.signed b i used (omega (arith, l, c.loop-b-test.false)) h in
    let within = c.fill_lines.ensures.within b i used l h in
    let z : ℤ = place c.fill_lines.new.lines b i in let limit : ℤ = pos (2 ^ c.args.cube.now.kind.bits) -ℤ pos 1 in
    let both : (pos 0 ≤ℤ without_sign z) × (without_sign z ≤ℤ limit) = (omega (arith, ints), within) in rw e at both
