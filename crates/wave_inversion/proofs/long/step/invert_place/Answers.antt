use Rattle.std.proofs.Common.{◌≡◌, not, nat_eq, ◌∙◌, ◌+◌, ◌-◌, ◌*◌, ◌^◌, ◌<◌, ◌≤◌, ℕ, ℤ, pos, ◌-ℤ◌, ◌*ℤ◌, ◌≤ℤ◌, unsigned_abs, List, [], ◌∷◌, length, ap, inl, inr, arith, refl, rules, SFits, w32, to_z-of_z, le_trans, pow_mono}
use Rattle.std.proofs.Common.{get_or-set_same, get_or-set_other}
use Rattle.std.proofs.lemmas.Bool.{cases_eq}
use Rattle.std.proofs.lemmas.Int.{ints}
use Rattle.std.proofs.lemmas.Nat.{pow_pos}
use Rattle.lanes.specs.Lanes.{lane, place}
use Rattle.band_lanes.specs.Rows.{AreRowsWithin}
use Rattle.wave_inversion.specs.Wave.{sum_at, component_in, long_lower_of}
use Rattle.predict_core.proofs.LaneVectors.{by_pairs}
use Rattle.predict_core.proofs.Components.{three}
use Rattle.wave_inversion.proofs.WaveParts.{component_below, difference_below}
use Rattle.wave_inversion.proofs.long.step.invert_place.Given as given
use Rattle.wave_inversion.proofs.long.step.invert_place.Goals as goal
use Rattle.wave_inversion.proofs.long.step.invert_place.Goals.{After-put_components}

module _ (g : given.Over) (c : After-put_components g) where
  abbrev sum : ℕ → ℤ
  sum b = sum_at c.args.form.column c.args.numbers.now c.args.above.now c.args.k b

  sum_is : (b : ℕ) → b < 8 → lane c.local_sums-sums.result b ≡ sum b
  sum_is b l = let a = c.around_at-around.ensures in c.local_sums-sums.ensures.value b l ∙ rw (a.west, a.north_west, a.north, a.north_east) refl

  abbrev numbers_at : ℕ → ℕ → ℤ
  numbers_at i b = place c.args.numbers.now i b

  abbrev above_at : ℕ → ℕ → ℤ
  above_at i b = place c.args.above.now i b

  abbrev limit : ℕ
  limit = 2 ^ (c.args.form.step.bits + 2)

  -- four times an offset, less the local sum
  difference_small : (b : ℕ) → b < 8 → (a : ℤ) → (pos 0 ≤ℤ a) × (a ≤ℤ c.args.form.greatest) → unsigned_abs (pos 4 *ℤ a -ℤ sum b) < limit
  difference_small b l a h =
      let k = c.requires.step in
      difference_below c.args.form.greatest a (numbers_at (c.args.k - 1) b) (above_at (c.args.k - 1) b) (above_at c.args.k b) (above_at (c.args.k + 1) b)
      c.args.form.column c.args.form.step.bits c.args.form.greatest_is h (c.requires.numbers_in (c.args.k - 1) b (omega (arith, k.1)) l)
      (c.requires.above_in (c.args.k - 1) b (omega (arith, k.1)) l) (c.requires.above_in c.args.k b (omega (arith, k.1)) l)
      (c.requires.above_in (c.args.k + 1) b (omega (arith, k.1)) l)

  north : (b : ℕ) → b < 8 → lane c.differences.result b ≡ pos 4 *ℤ above_at c.args.k b -ℤ sum b
  north b l = c.differences.ensures b l ∙ rw (c.around_at-around.ensures.north, sum_is b l) refl

  west : (b : ℕ) → b < 8 → lane c.differences-2.result b ≡ pos 4 *ℤ numbers_at (c.args.k - 1) b -ℤ sum b
  west b l = c.differences-2.ensures b l ∙ rw (c.around_at-around.ensures.west, sum_is b l) refl

  north_west : (b : ℕ) → b < 8 → lane c.differences-3.result b ≡ pos 4 *ℤ above_at (c.args.k - 1) b -ℤ sum b
  north_west b l = c.differences-3.ensures b l ∙ rw (c.around_at-around.ensures.north_west, sum_is b l) refl

  some : 0 < limit
  some = pow_pos (c.args.form.step.bits + 2)

  below : AreRowsWithin limit g.row.Q c.put_components.new.components
  below j k m = by_pairs (λ n. unsigned_abs (place c.put_components.new.components j n) ≤ limit)
      (λ b l. one (2 * j) b l (c.put_components.ensures.even j b m l)) (λ b l. one (2 * j + 1) b l (c.put_components.ensures.odd j b m l)) k
    where
      one : (index b : ℕ) → b < 8 → {v : ℤ}
          → v ≡ component_in (not (nat_eq g.row.REDUCED 0)) c.args.form.previous (c.differences.result ∷ c.differences-2.result ∷ c.differences-3.result ∷ [])
          (long_lower_of c.args.lower.now) c.args.own.now c.args.k index b
          → unsigned_abs v ≤ limit
      one index b l e =
          let k = c.requires.step in
          let small = component_below (not (nat_eq g.row.REDUCED 0)) c.args.form.previous (c.differences.result ∷ c.differences-2.result ∷ c.differences-3.result ∷ []) (long_lower_of c.args.lower.now)
          c.args.own.now c.args.k index b limit some (omega (arith, k.0), omega (arith, k.1)) c.args.form.previous_in l
          (three (λ i. unsigned_abs (place (c.differences.result ∷ c.differences-2.result ∷ c.differences-3.result ∷ []) i b) < limit)
          (rw (north b l) (difference_small b l _ (c.requires.above_in c.args.k b (omega (arith, k.1)) l)))
          (rw (west b l) (difference_small b l _ (c.requires.numbers_in (c.args.k - 1) b (omega (arith, k.1)) l)))
          (rw (north_west b l) (difference_small b l _ (c.requires.above_in (c.args.k - 1) b (omega (arith, k.1)) l))))
          c.requires.lower_in c.requires.own_in in rw e (omega (arith, small))

pub predict_place-parts-requires-clause-components_in : goal.predict_place-parts-requires-clause-components_in
predict_place-parts-requires-clause-components_in g c j k m l =
    let bits : c.args.form.step.bits + 2 ≤ 18 = (let h = c.args.form.step.bits_in in omega (arith, h)) in
    le_trans (below g (goal.at.predict_place-parts-requires-clause-components_in g c).After-put_components j k m l) (pow_mono bits)

pub update_all-requires-clause-components_in : goal.update_all-requires-clause-components_in
update_all-requires-clause-components_in g c = below g (goal.at.update_all-requires-clause-components_in g c).After-put_components

pub differences-central-requires-clause-offsets_in : goal.differences-central-requires-clause-offsets_in
differences-central-requires-clause-offsets_in g c b l =
    let r = c.unmapped-offsets.ensures.range b l in let most = c.args.form.greatest_in in (omega (arith, ints, r.0), omega (arith, ints, r.1, most.1))

pub returns-clause-stepped : goal.returns-clause-stepped
returns-clause-stepped g c =
    let d = (goal.at.returns-clause-stepped g c).After-put_components in
    let k : ℕ = c.args.k in let gf : SFits w32 c.args.form.greatest = search rules in
    let found = simp (to_z-of_z gf) at c.unmapped-offsets.ensures in
    let fits : k < length c.args.numbers.now = omega (arith, c.requires.step.1, c.told-numbers) in
    let fits_own : k < length c.args.own.now = omega (arith, c.requires.step.1, c.told-own) in
    let offsets = get_or-set_same c.args.numbers.now k c.unmapped-offsets.result [] fits in
    let central = get_or-set_same c.args.own.now k c.differences-central.result [] fits_own in
    record {
      directions = c.differences.result ∷ c.differences-2.result ∷ c.differences-3.result ∷ [];
      north = north g d;
      west = west g d;
      north_west = north_west g d;
      components = c.put_components.new.components;
      part = λ b. lane c.predict_place-parts.result b;
      long = c.put_components.ensures.long;
      even = rw c.requires.mode c.put_components.ensures.even;
      odd = rw c.requires.mode c.put_components.ensures.odd;
      predicted = λ b l. inl (c.predict_place-parts.ensures.value b l);
      number = λ b l. rw offsets (found.value b l ∙ rw (sum_is g d b l) refl);
      central = λ b l. rw (offsets, central) (c.differences-central.ensures b l ∙ rw (sum_is g d b l) refl);
      updated = λ b l. rw central (c.update_all.ensures b l);
      numbers_kept = λ i b apart. ap (λ (row : List ℤ). lane row b) (get_or-set_other c.args.numbers.now k i c.unmapped-offsets.result [] apart);
      own_kept = λ i b apart. ap (λ (row : List ℤ). lane row b) (get_or-set_other c.args.own.now k i c.differences-central.result [] apart);
    }

pub returns-clause-numbers_in : goal.returns-clause-numbers_in
returns-clause-numbers_in g c i b h l =
    let gf : SFits w32 c.args.form.greatest = search rules in let found = simp (to_z-of_z gf) at c.unmapped-offsets.ensures in
    elim (cases_eq i c.args.k) [
      | inl here ↦ rw (here, get_or-set_same c.args.numbers.now c.args.k c.unmapped-offsets.result [] (omega (arith, c.requires.step.1, c.told-numbers)))
          (found.range b l)
      | inr apart ↦ rw (get_or-set_other c.args.numbers.now c.args.k i c.unmapped-offsets.result [] apart) (c.requires.numbers_in i b h l)
    ]

pub returns-clause-own_in : goal.returns-clause-own_in
returns-clause-own_in g c i b h l =
    let d = (goal.at.returns-clause-own_in g c).After-put_components in
    let gf : SFits w32 c.args.form.greatest = search rules in let found = simp (to_z-of_z gf) at c.unmapped-offsets.ensures in elim (cases_eq i c.args.k) [
      | inl here ↦ rw (here, get_or-set_same c.args.own.now c.args.k c.differences-central.result [] (omega (arith, c.requires.step.1, c.told-own)))
          (rw (c.differences-central.ensures b l, sum_is g d b l) (difference_small g d b l _ (found.range b l)))
      | inr apart ↦ rw (get_or-set_other c.args.own.now c.args.k i c.differences-central.result [] apart) (c.requires.own_in i b h l)
    ]
