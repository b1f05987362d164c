use Rattle.std.proofs.Common.{◌≡◌, ◌+◌, ◌*◌, ◌^◌, ◌<◌, ◌≤◌, ℕ, [], unsigned_abs, length, get_or, set, sym, ap, subst, arith, ◌∙◌, inl, inr, length-set, get_or-set_same, get_or-set_other}
use Rattle.std.proofs.lemmas.Bool.{cases_eq}
use Rattle.std.proofs.lemmas.List.{length-map}
use Rattle.lanes.specs.Lanes.{lane}
use Rattle.band_lanes.specs.Rows.{numbers_of}
use Rattle.band_lanes.specs.Fours.{column_of}
use Rattle.band_lanes.proofs.Fours.{column_long}
use Rattle.sample_prediction.specs.Arithmetic.{floor_div}
use Rattle.sample_prediction.specs.Bounds.{AllWithin}
use Rattle.sample_prediction.specs.Prediction.{inner_product}
use Rattle.band_lanes.specs.Fours.{row_components}
use Rattle.predict_core.specs.RunChains.{IsFollowed}
use Rattle.group_prediction.proofs.GroupLanes.{numbers_written}
use Rattle.predict_core.proofs.LanePlaces.{updated_within}
use Rattle.group_prediction.proofs.LongLanes.{long_followed}
use Rattle.group_prediction.proofs.long.chain.follow_places.Goals as goal

pub follow_four-row-requires-clause-weights_in : goal.follow_four-row-requires-clause-weights_in
follow_four-row-requires-clause-weights_in g c = c.loop-i.invariant.weights_in

pub loop-i-init : goal.loop-i-init
loop-i-init g c = record {
  weights_in = c.requires.weights_in;
  weights_long = c.told-weights;
  long = c.told-parts;
  small = λ start h. h;
  followed = λ b s d y x start begun l there later steps h. h;
}

pub loop-i-preserved : goal.loop-i-preserved
loop-i-preserved g c =
    let i : ℕ = c.loop-i.i in let inside : i < c.args.last = c.loop-i-test.true in let kept = c.loop-i.invariant in
    let room : i < length c.loop-i.parts = (let f = kept.long in let t = c.requires.last in omega (arith, f, t, inside)) in record {
      weights_in = λ b l. subst (AllWithin (2 ^ (c.args.step.omega + 2))) (sym (c.follow_four-row.ensures.weights b l))
          (updated_within c.args.step.omega c.args.step.exponent _ (column_of (2 * g.row.Q) b c.loop-i.working) (row_components (2 * g.row.Q) b c.args.rows.now i));
      weights_long = c.follow_four-row.array_long;
      long = length-set c.loop-i.parts i c.follow_four-row.result ∙ kept.long;
      small = λ start h j b m n l. elim (cases_eq j i) [
        | inl e ↦ subst (λ row. unsigned_abs (lane row b) ≤ 18 * 2 ^ 20)
            (sym (ap (λ k. get_or (set c.loop-i.parts i c.follow_four-row.result) k []) e ∙ get_or-set_same c.loop-i.parts i c.follow_four-row.result [] room))
            (c.follow_four-row.ensures.bound b l)
        | inr d ↦ subst (λ row. unsigned_abs (lane row b) ≤ 18 * 2 ^ 20) (sym (get_or-set_other c.loop-i.parts i j c.follow_four-row.result [] d))
            (kept.small start h j b m (omega (arith, n, d)) l)
      ];
      followed = λ b s d y x start begun l there later steps h.
          let at = steps i (let e = c.loop-i.auto.i in omega (arith, e)) inside in
          let part = c.follow_four-row.ensures.predicted b l in
          let long : length (column_of (2 * g.row.Q) b c.loop-i.working) ≡ 2 * g.row.Q =
          column_long (2 * g.row.Q) b c.loop-i.working (let e = kept.weights_long in let f = there.few in omega (arith, e, f)) in
          let within = subst (λ n. AllWithin (2 ^ (n + 2)) (column_of (2 * g.row.Q) b c.loop-i.working)) at.omega_is (kept.weights_in b l) in
          let later_place : 0 < y + (x + i) = (let e = c.loop-i.auto.i in omega (arith, later, e)) in
          let fits : i < length (numbers_of b c.loop-i.parts) = (let e = length-map c.loop-i.parts (λ row. lane row b) in omega (arith, e, room)) in
          subst (IsFollowed s d y x start begun (i + 1) (column_of (2 * g.row.Q) b c.follow_four-row.new.weights))
          (sym (numbers_written b c.loop-i.parts i c.follow_four-row.result))
          (long_followed g.row.Q b s d y x c.args.last i c.args.own.now c.args.rows.now there inside later_place (column_of (2 * g.row.Q) b c.loop-i.working) long within
          (lane c.follow_four-row.result b)
          (part ∙ ap (λ n. floor_div (inner_product (column_of (2 * g.row.Q) b c.loop-i.working) (row_components (2 * g.row.Q) b c.args.rows.now i)) (2 ^ n)) at.omega_is)
          (column_of (2 * g.row.Q) b c.follow_four-row.new.weights) (numbers_of b c.loop-i.parts) c.args.step.omega c.args.step.bits start begun c.args.step.exponent
          (lane (get_or c.args.own.now i []) b) fits at (there.central i inside later_place) (c.follow_four-row.ensures.bound b l)
          (c.follow_four-row.ensures.weights b l) (kept.followed b s d y x start begun l there later steps h));
    }

pub returns-clause-weights_in : goal.returns-clause-weights_in
returns-clause-weights_in g c = c.loop-i.invariant.weights_in

pub returns-clause-small : goal.returns-clause-small
returns-clause-small g c start h i b m n l =
    let done : c.loop-i.i ≡ c.args.last = (let e = c.loop-i.auto.i-end c.requires.order in let f = c.loop-i-test.false in omega arith) in
    c.loop-i.invariant.small start h i b m (omega (arith, n, done)) l

pub returns-clause-followed : goal.returns-clause-followed
returns-clause-followed g c b s d y x start begun l there later steps h =
    let done : c.loop-i.i ≡ c.args.last = (let e = c.loop-i.auto.i-end c.requires.order in let f = c.loop-i-test.false in omega arith) in
    subst (λ n. IsFollowed s d y x start begun n (column_of (2 * g.row.Q) b c.loop-i.working) (numbers_of b c.loop-i.parts)) done
    (c.loop-i.invariant.followed b s d y x start begun l there later steps h)
