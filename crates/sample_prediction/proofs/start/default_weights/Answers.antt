use Rattle.std.proofs.Common.{◌≡◌, ℕ, ◌+◌, ◌-◌, ◌^◌, ◌<◌, ◌≤◌, ℤ, pos, length, drop, replicate, unsigned_abs, to_z-of_z, arith, refl, ◌∙◌, length-set, le_trans}
use Rattle.std.proofs.lemmas.List.{drop-replicate}
use Rattle.sample_prediction.specs.Arithmetic.{floor_div}
use Rattle.sample_prediction.proofs.Directions.{zeros_within}
use Rattle.sample_prediction.proofs.Products.{step_kept, step_bound}
use Rattle.sample_prediction.proofs.Starting.{begun_first, begun_within, small_first, eighths_next, eighths_last, shrinks_small}
use Rattle.sample_prediction.proofs.Scaled.{halved_shrinks}
use Rattle.sample_prediction.proofs.start.default_weights.Goals as goal

pub loop-i-init : goal.loop-i-init
loop-i-init c = record {
  begun = begun_first c.args.omega c.args.first c.args.count c.requires.omega_in.0 c.requires.omega_in.1 c.requires.room;
  rest = refl;
  long = refl;
  small = small_first c.args.omega c.args.first c.args.count c.requires.omega_in.0 c.requires.omega_in.1 c.requires.room;
  least = begun_within c.args.omega c.requires.omega_in.0 c.requires.omega_in.1;
  bounded = zeros_within (2 ^ (c.args.omega + 2)) 18;
}

pub loop-i-preserved : goal.loop-i-preserved
loop-i-preserved c =
    let w : ℤ = c.loop-i.weight in let at : ℕ = c.args.first + c.loop-i.i in let long = c.loop-i.invariant.long in
    let inside : at < length c.loop-i.weights = omega arith in let small : unsigned_abs w ≤ 2 ^ 20 = rw c.loop-i.weight-is at c.loop-i.invariant.small in
    let least : unsigned_abs w ≤ 2 ^ (c.args.omega + 2) = rw c.loop-i.weight-is at c.loop-i.invariant.least in
    let s = shrinks_small w small in let begun = rw c.loop-i.weight-is at c.loop-i.invariant.begun in
    let next : c.args.first + (c.loop-i.i + 1) ≡ at + 1 = omega arith in
    let left : c.args.count - (c.loop-i.i + 1) ≡ c.args.count - c.loop-i.i - 1 = omega arith in rw (c.loop-i.weight-is, to_z-of_z s.0, next, left)
    (record {
      begun = eighths_next w (floor_div w 8) at (c.args.count - c.loop-i.i) c.loop-i.weights _ inside (omega arith) refl begun;
      rest = step_kept (replicate 18 (pos 0)) c.loop-i.weights at w inside (omega arith) c.loop-i.invariant.rest;
      long = rw length-set long;
      small = s.1;
      least = le_trans (halved_shrinks w 8) least;
      bounded = step_bound (2 ^ (c.args.omega + 2)) c.loop-i.weights at w c.loop-i.invariant.bounded least;
    })

pub returns-clause-value : goal.returns-clause-value
returns-clause-value c =
    let room : 18 - (c.args.first + c.loop-i.i) ≡ 18 - c.args.first - c.args.count = omega arith in
    let rest : drop (c.args.first + c.loop-i.i) c.loop-i.weights ≡ replicate (18 - c.args.first - c.args.count) (pos 0) =
    c.loop-i.invariant.rest ∙ rw (drop-replicate (c.args.first + c.loop-i.i) 18 (pos 0), room) refl in
    eighths_last (c.loop-i.weight) (c.args.first + c.loop-i.i) (c.args.count - c.loop-i.i) 0 _ _ _ (omega arith)
    (rw c.loop-i.weight-is at c.loop-i.invariant.begun) rest
