use Rattle.std.proofs.Common.{◌≡◌, ◌+◌, ◌*◌, ◌^◌, ◌<◌, ◌≤◌, ℕ, ℤ, [], unsigned_abs, length, get_or, sym, ap, subst, arith, ◌∙◌, length-set}
use Rattle.std.proofs.lemmas.Int.{ints, clamps}
use Rattle.std.proofs.lemmas.List.{length-map}
use Rattle.lanes.specs.Lanes.{lane, held}
use Rattle.band_lanes.specs.Rows.{numbers_of, weights_of, components_of}
use Rattle.band_lanes.proofs.Rows.{weights_long}
use Rattle.sample_prediction.specs.Arithmetic.{floor_div}
use Rattle.sample_prediction.specs.Bounds.{AllWithin}
use Rattle.sample_prediction.specs.Prediction.{inner_product}
use Rattle.predict_core.specs.RunChains.{IsFollowed}
use Rattle.group_prediction.proofs.GroupLanes.{lane_followed, numbers_written}
use Rattle.predict_core.proofs.LanePlaces.{updated_within}
use Rattle.group_prediction.proofs.chain.follow_places.Goals as goal

pub loop-i-init : goal.loop-i-init
loop-i-init g c = record {
  weights_in = c.requires.weights_in;
  weights_long = c.told-weights;
  long = c.told-parts;
  followed = λ b s d y x start begun l there later steps h. h;
}

small_part : (a : ℤ) → unsigned_abs (held a) ≤ 18 * 2 ^ 20
small_part a = omega (arith, ints, clamps)

pub loop-i-preserved : goal.loop-i-preserved
loop-i-preserved g c =
    let i : ℕ = c.loop-i.i in let inside : i < c.args.last = c.loop-i-test.true in let kept = c.loop-i.invariant in record {
      weights_in = λ b l. subst (AllWithin (2 ^ (c.args.step.omega + 2))) (sym (c.follow_place-row.ensures.weights b l))
          (updated_within c.args.step.omega c.args.step.exponent _ (weights_of g.row.Q b c.loop-i.working) (components_of g.row.Q b c.args.pairs.now i));
      weights_long = c.follow_place-row.array_long;
      long = length-set c.loop-i.parts i c.follow_place-row.result ∙ kept.long;
      followed = λ b s d y x start begun l there later steps h.
          let at = steps i (let e = c.loop-i.auto.i in omega (arith, e)) inside in
          let part = c.follow_place-row.ensures.predicted b l in
          let long : length (weights_of g.row.Q b c.loop-i.working) ≡ 2 * g.row.Q =
          weights_long g.row.Q b c.loop-i.working (let e = kept.weights_long in let f = there.few in omega (arith, e, f)) in
          let within = subst (λ n. AllWithin (2 ^ (n + 2)) (weights_of g.row.Q b c.loop-i.working)) at.omega_is (kept.weights_in b l) in
          let later_place : 0 < y + (x + i) = (let e = c.loop-i.auto.i in omega (arith, later, e)) in
          let fits : i < length (numbers_of b c.loop-i.parts) =
          (let e = length-map c.loop-i.parts (λ row. lane row b) in let f = kept.long in let t = c.requires.last in omega (arith, e, f, t, inside)) in
          subst (IsFollowed s d y x start begun (i + 1) (weights_of g.row.Q b c.follow_place-row.new.weights))
          (sym (numbers_written b c.loop-i.parts i c.follow_place-row.result))
          (lane_followed g.row.Q b s d y x c.args.last i c.args.own.now c.args.pairs.now there inside later_place (weights_of g.row.Q b c.loop-i.working) long within
          (lane c.follow_place-row.result b)
          (part ∙ ap (λ n. held (floor_div (inner_product (weights_of g.row.Q b c.loop-i.working) (components_of g.row.Q b c.args.pairs.now i)) (2 ^ n))) at.omega_is)
          (weights_of g.row.Q b c.follow_place-row.new.weights) (numbers_of b c.loop-i.parts) c.args.step.omega c.args.step.bits start begun c.args.step.exponent
          (lane (get_or c.args.own.now i []) b) fits at (there.central i inside later_place)
          (subst (λ v. unsigned_abs v ≤ 18 * 2 ^ 20) (sym part) (small_part (floor_div (inner_product (weights_of g.row.Q b c.loop-i.working)
          (components_of g.row.Q b c.args.pairs.now i)) (2 ^ c.args.step.omega))))
          (c.follow_place-row.ensures.weights b l) (kept.followed b s d y x start begun l there later steps h));
    }

pub returns-clause-weights_in : goal.returns-clause-weights_in
returns-clause-weights_in g c = c.loop-i.invariant.weights_in

pub returns-clause-followed : goal.returns-clause-followed
returns-clause-followed g c b s d y x start begun l there later steps h =
    let done : c.loop-i.i ≡ c.args.last = (let e = c.loop-i.auto.i-end c.requires.order in let f = c.loop-i-test.false in omega arith) in
    subst (λ n. IsFollowed s d y x start begun n (weights_of g.row.Q b c.loop-i.working) (numbers_of b c.loop-i.parts)) done
    (c.loop-i.invariant.followed b s d y x start begun l there later steps h)
