use Rattle.std.proofs.Common.{◌≡◌, ◌∙◌, ◌≤◌, ℕ, ℤ, pos, ◌+ℤ◌, ◌-ℤ◌, ◌*ℤ◌, ◌≤ℤ◌, unsigned_abs, inl, inr, arith, rules, w32, to_z, of_z, to_z-of_z, SFits, int_lt, true, false}
use Rattle.std.specs.Int.{int_min, int_max}
use Rattle.std.proofs.lemmas.Bool.Decides.{nat_tests}
use Rattle.std.proofs.lemmas.Int.{ints, clamps}
use Rattle.sample_prediction.specs.Arithmetic.{floor_div}
use Rattle.sample_prediction.specs.Mapping.{unmapped_between}
use Rattle.sample_prediction.proofs.OneSample.{sample_in}
use Rattle.wave_inversion.proofs.Remainders.{clipped_at, downwards, halves, parity, upwards}
use Rattle.wave_inversion.proofs.long.unmapping.offset_at.Goals as goal
use Rattle.wave_inversion.proofs.long.unmapping.offset_at.Goals.{After-limit_of}

is_less : (a b : ℤ) → int_lt a b ≡ true → (a +ℤ pos 1) ≤ℤ b
is_less a b e = grind (arith, ints, nat_tests, e)

is_least : (a b : ℤ) → int_lt a b ≡ false → b ≤ℤ a
is_least a b e = grind (arith, ints, nat_tests, e)

module _ (c : After-limit_of) where
  abbrev g : ℤ
  g = c.args.greatest

  abbrev n : ℕ
  n = unsigned_abs c.args.residual

  abbrev q : ℤ
  q = floor_div (c.args.part +ℤ c.args.sum) 2

  abbrev rest : ℤ
  rest = q -ℤ pos n

  abbrev room : ℤ
  room = g -ℤ pos n

  residual_is : c.args.residual ≡ pos n
  residual_is = let r = c.requires.residual_in in omega (arith, ints, r.0)

  sum_kept : to_z w32 (of_z w32 (to_z w32 (of_z w32 c.args.part) +ℤ to_z w32 (of_z w32 c.args.sum))) ≡ c.args.part +ℤ c.args.sum
  sum_kept = let p = c.requires.part_in in let s = c.requires.sum_in in omega (arith, ints, p, s)

  half_is : c.prediction_of.result ≡ q
  half_is = rw sum_kept at c.prediction_of.ensures.value

  small : unsigned_abs q ≤ 10000000
  small = let p = c.requires.part_in in let s = c.requires.sum_in in let h = halves (c.args.part +ℤ c.args.sum) in omega (arith, ints, p, s, h.0, h.1)

  rest_kept : to_z w32 (of_z w32 (to_z w32 (of_z w32 c.prediction_of.result) -ℤ to_z w32 (of_z w32 c.args.residual))) ≡ rest
  rest_kept = let r = c.requires.residual_in in let m = c.requires.greatest_in in omega (arith, ints, half_is, small, residual_is, r.1, m.1)

  room_kept : to_z w32 (of_z w32 (to_z w32 (of_z w32 g) -ℤ to_z w32 (of_z w32 c.args.residual))) ≡ room
  room_kept = let r = c.requires.residual_in in let m = c.requires.greatest_in in omega (arith, ints, residual_is, r.1, m.0, m.1)

  fits : pos n ≤ℤ g
  fits = let r = c.requires.residual_in in omega (arith, ints, residual_is, r.1)

  up_is : to_z w32 (of_z w32 c.offset_above-up.result) ≡ pos n +ℤ int_max (floor_div (rest +ℤ pos 1) 2) (pos 0)
  up_is =
      let up : SFits w32 c.offset_above-up.result = search rules in
      to_z-of_z up ∙ rw (rest_kept, to_z-of_z c.ranges.residual, residual_is) at c.offset_above-up.ensures

  down_is : to_z w32 (of_z w32 c.offset_below-down.result) ≡ int_min (floor_div rest 2) room
  down_is =
      let down : SFits w32 c.offset_below-down.result = search rules in
      to_z-of_z down ∙ rw (rest_kept, room_kept) at c.offset_below-down.ensures

  limit : ℤ
  limit = to_z w32 (of_z w32 c.limit_of.result)

  limit_is : limit ≡ c.limit_of.result
  unfolding limit
  limit_is = let fit : SFits w32 c.limit_of.result = search rules in to_z-of_z fit

  even_limit : rest ≡ pos 2 *ℤ floor_div rest 2 → limit ≡ pos 0
  even_limit e = limit_is ∙ (rw rest_kept at c.limit_of.ensures.even) e

  odd_limit : rest ≡ pos 2 *ℤ floor_div rest 2 +ℤ pos 1 → limit ≡ pos 2 *ℤ room
  odd_limit e = limit_is ∙ (rw (rest_kept, room_kept) at c.limit_of.ensures.odd) e

  above : int_lt rest limit ≡ true → (rest +ℤ pos 1) ≤ℤ limit
  above e = is_less rest limit e

  below : int_lt rest limit ≡ false → limit ≤ℤ rest
  below e = is_least rest limit e

  up : (rest +ℤ pos 1) ≤ℤ limit → to_z w32 (of_z w32 c.offset_above-up.result) ≡ unmapped_between (pos 0) g (clipped_at g q) n
  up less =
      let h = halves (rest +ℤ pos 1) in
      upwards g q (floor_div (rest +ℤ pos 1) 2) _ n c.requires.greatest_in.0 fits h.0 (omega (arith, ints, h.1)) (elim (parity rest) [
        | inl even ↦ (let l = even_limit even in inl (omega (arith, ints, less, l)))
        | inr odd ↦ (let l = odd_limit odd in inr (omega (arith, ints, odd, h.0, h.1), omega (arith, ints, less, l)))
      ]) up_is

  down : limit ≤ℤ rest → to_z w32 (of_z w32 c.offset_below-down.result) ≡ unmapped_between (pos 0) g (clipped_at g q) n
  down least =
      let h = halves rest in
      elim (parity rest) [
        | inl even ↦ (let l = even_limit even in downwards g q (floor_div rest 2) _ n c.requires.greatest_in.0 fits h.0 h.1 (omega (arith, ints, least, l)) (inl even) down_is)
        | inr odd ↦ (let l = odd_limit odd in
            downwards g q (floor_div rest 2) _ n c.requires.greatest_in.0 fits h.0 h.1 (omega (arith, ints, least, l, fits)) (inr (omega (arith, ints, least, l))) down_is)
      ]

  inside : (out : ℤ) → out ≡ unmapped_between (pos 0) g (clipped_at g q) n → (pos 0 ≤ℤ out) × (out ≤ℤ g)
  inside out e =
      let m = c.requires.greatest_in.0 in
      let b = sample_in (pos 0) g (clipped_at g q) (omega (arith, ints, clamps, m)) (omega (arith, ints, clamps, m)) n (omega (arith, ints, fits)) in rw e b

pub returns-then-rest-limit_of-clause-value : goal.returns-then-rest-limit_of-clause-value
unfolding limit
returns-then-rest-limit_of-clause-value c =
    let d = (goal.at.returns-then-rest-limit_of-clause-value c).After-limit_of in up d (above d (rw (rest_kept d) at c.if-rest-limit_of.true))

pub returns-then-rest-limit_of-clause-range : goal.returns-then-rest-limit_of-clause-range
unfolding limit
returns-then-rest-limit_of-clause-range c =
    let d = (goal.at.returns-then-rest-limit_of-clause-range c).After-limit_of in
    inside d _ (up d (above d (rw (rest_kept d) at c.if-rest-limit_of.true)))

pub returns-else-rest-limit_of-clause-value : goal.returns-else-rest-limit_of-clause-value
unfolding limit
returns-else-rest-limit_of-clause-value c =
    let d = (goal.at.returns-else-rest-limit_of-clause-value c).After-limit_of in down d (below d (rw (rest_kept d) at c.if-rest-limit_of.false))

pub returns-else-rest-limit_of-clause-range : goal.returns-else-rest-limit_of-clause-range
unfolding limit
returns-else-rest-limit_of-clause-range c =
    let d = (goal.at.returns-else-rest-limit_of-clause-range c).After-limit_of in
    inside d _ (down d (below d (rw (rest_kept d) at c.if-rest-limit_of.false)))
