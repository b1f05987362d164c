use Rattle.std.proofs.Common.{◌≡◌, ◌∙◌, ◌-◌, ◌<◌, ◌≤◌, ℕ, arith, inl, inr}
use Rattle.std.proofs.lemmas.Bool.{cases_lt}
use Rattle.wave_inversion.specs.Wave.{long_lower_of}
use Rattle.wave_inversion.proofs.WaveParts.{diagonal_high, lagged_near, lagged_far}
use Rattle.wave_inversion.proofs.long.components.lagged.Goals as goal

-- at most seven previous bands are near
near : (q lag : ℕ) → (7 < lag → 5 < q) → q ≤ 5 → lag < 8
near q lag deep few = elim (cases_lt lag 8) [
  | inl low ↦ low
  | inr high ↦ absurd (let more = deep (omega (arith, high)) in omega (arith, more, few))
]

pub returns-then-lag-lt8 : goal.returns-then-lag-lt8
returns-then-lag-lt8 g c b l =
    c.diagonal.ensures b l ∙ lagged_near (long_lower_of c.args.lower.now) c.args.own.now c.args.k c.args.lag b (elim c.if-lag-lt8.either [
      | inl few ↦ near g.row.Q c.args.lag c.requires.lag.2 few
      | inr low ↦ low.1
    ])

pub returns-then-lag-eq8 : goal.returns-then-lag-eq8
returns-then-lag-eq8 g c b l =
    let at : c.args.lag ≡ 8 = c.if-lag-eq8.true in let none : 8 - 8 ≡ 0 = omega arith in let here : c.args.k - 0 ≡ c.args.k = omega arith in
    let lane_is : b - 0 ≡ b = omega arith in
    rw at (rw (none, here, lane_is) at (diagonal_high c.args.lower.now.far c.args.lower.now.beside c.args.k (8 - 8) b (omega arith))
    ∙ lagged_far (long_lower_of c.args.lower.now) c.args.own.now c.args.k 8 b (omega arith))

pub returns-else-lag-eq8 : goal.returns-else-lag-eq8
returns-else-lag-eq8 g c b l =
    c.diagonal-else-lag-eq8.ensures b l ∙ lagged_far (long_lower_of c.args.lower.now) c.args.own.now c.args.k c.args.lag b (omega (arith, c.if-lag-lt8.false))
