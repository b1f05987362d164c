use Rattle.std.proofs.Common.{◌≡◌, ◌∙◌, ◌+◌, ◌<◌, ℕ, length, get_or-set_same, get_or-set_other, subst, inl, inr, arith, rules}
use Rattle.std.proofs.lemmas.Bool.{cases_eq}
use Rattle.wave_inversion.specs.Wave.{no_rows}
use Rattle.wave_inversion.specs.WaveLanes.{AreInStep}
use Rattle.wave_inversion.proofs.begin.end_lanes.Goals as goal

pub loop-b-preserved : goal.loop-b-preserved
loop-b-preserved g c =
    let before = c.loop-b.invariant in let did = c.invert_by.ensures in let b : ℕ = c.loop-b.b in
    let few : b < 8 = omega (arith, c.loop-b-test.true, c.requires.steps) in
    let long : length c.loop-b.room.ends ≡ 8 = search rules in
    let here = get_or-set_same c.loop-b.room.ends b (record { rows = c.loop-b.room.weights }) no_rows (omega (arith, few, long)) in
    record {
      above = did.above ∙ before.above;
      lower = did.lower ∙ before.lower;
      numbers_in = did.numbers_in;
      own_in = did.own_in;
      weights_in = did.weights_in;
      ends_in = λ k l. elim (cases_eq k b) [
        | inl same ↦ rw (did.ends, same, here) (before.weights_in b few)
        | inr apart ↦ rw (did.ends, get_or-set_other c.loop-b.room.ends b k (record { rows = c.loop-b.room.weights }) no_rows apart) (before.ends_in k (omega (arith, l, apart)))
      ];
      inverted = λ p s d first y origin lanes far start.
          let now = before.inverted p s d first y origin lanes far start in
          let next : c.args.from + b + 1 ≡ c.args.from + (b + 1) = omega arith in
          subst (λ (k : ℕ). AreInStep g.row.Q p s d first y origin c.args.last 8 k c.invert_by.new.room.numbers c.invert_by.new.room.own c.invert_by.new.room.weights) next
          (did.inverted p s d first y origin c.args.last 8 (rw (before.above, before.lower) lanes) (omega (arith, c.loop-b-test.true))
          (omega arith, omega (arith, far)) now);
      kept = λ p s d first y origin lanes far start k l exists column. elim (cases_eq k b) [
        | inl same ↦ rw (did.ends, same, here) ((before.inverted p s d first y origin lanes far start).weights_at b few (rw same at exists) (rw same at column))
        | inr apart ↦ rw (did.ends, get_or-set_other c.loop-b.room.ends b k (record { rows = c.loop-b.room.weights }) no_rows apart)
            (before.kept p s d first y origin lanes far start k (omega (arith, l, apart)) exists column)
      ];
    }

pub returns-clause-inverted : goal.returns-clause-inverted
returns-clause-inverted g c p s d first y origin lanes far start =
    let done : c.args.from + c.loop-b.b ≡ c.args.last = omega (arith, c.loop-b-test.false, c.loop-b.auto, c.requires.steps) in
    subst (λ (k : ℕ). AreInStep g.row.Q p s d first y origin c.args.last 8 k c.loop-b.room.numbers c.loop-b.room.own c.loop-b.room.weights) done
    (c.loop-b.invariant.inverted p s d first y origin lanes far start)
