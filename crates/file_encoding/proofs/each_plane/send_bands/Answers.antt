use Rattle.std.proofs.Common.{◌≡◌, ◌+◌, ◌-◌, ◌*◌, ◌/◌, ◌≤◌, ◌∷◌, [], ℕ, List, length, refl, ap, ap₂, take, drop, length-take, subst, arith}
use Rattle.std.specs.List.{flat_map}
use Rattle.std.proofs.lemmas.List.Elements.{recursion_from_All}
use Rattle.std.proofs.lemmas.Nat.{mul-le}
use Rattle.std.proofs.Math.Nat.{div-mul-le_self}
use Rattle.file_encoding.specs.Own.{rows_of}
use Rattle.file_encoding.specs.Walks.{bands_of}
use Rattle.file_encoding.proofs.Sending.{Steps, none_yet, stepped, some_rest, next_bands, parted_put}
use Rattle.file_encoding.proofs.each_plane.send_bands.Goals as goal
use Rattle.file_encoding.proofs.each_plane.send_bands.Goals.{After-min-count}
use Rattle.file_encoding.proofs.each_plane.send_bands.Given.{Over}

module _ (g : Over) (c : After-min-count g) where
  abbrev planes : List ℕ → List ℕ
  planes zs = flat_map (λ z. rows_of c.args.params.now c.args.cube.now (z ∷ [])) zs

  step : Steps g.T.Taker.may g.T.Taker.takes c.args.taker.now c.loop-first.taker (planes (bands_of c.args.bands.now))
      (planes (bands_of (take (c.loop-first.first + c.min-count.result - c.loop-first.first) (drop c.loop-first.first c.loop-first.bands))))
      (planes (take (c.loop-first.first + c.min-count.result) (bands_of c.args.bands.now)))
  step =
      stepped g.met.T.Taker.laws c.loop-first.invariant.sent c.requires.may (some_rest _ (bands_of c.args.bands.now) _ c.min-count.result)
      (ap planes (next_bands _ _ c.loop-first.first _ _ (omega arith) c.loop-first.invariant.parted.same))

pub send_next_planes-requires-clause-may : goal.send_next_planes-requires-clause-may
send_next_planes-requires-clause-may g c = (step g (goal.at.send_next_planes-requires-clause-may g c).After-min-count).fits

pub returns-then-not-send_next_planes : goal.returns-then-not-send_next_planes
returns-then-not-send_next_planes g c = record {
  sent = (step g (goal.at.returns-then-not-send_next_planes g c).After-min-count).cut _ _ c.if-not-send_next_planes.true c.send_next_planes.ensures.sent;
}

pub loop-first-preserved : goal.loop-first-preserved
loop-first-preserved g c =
    let told = c.send_next_planes.ensures in
    let next = c.loop-first.first + c.min-count.result in
    record {
      parted = parted_put (next - c.loop-first.first) next _ c.loop-first.invariant.parted (omega arith) (omega arith)
          (recursion_from_All (λ b. Unit) _ (λ k d h. tt)) told.same;
      sent = (step g (goal.at.loop-first-preserved g c).After-min-count).more _ _ c.if-not-send_next_planes.false told.sent;
    }

pub loop-first-init : goal.loop-first-init
loop-first-init g c = record { parted = record { done = tt; left = c.requires.at; same = refl }; sent = none_yet g.met.T.Taker.laws c.requires.may }

pub send_next_planes-requires-clause-room : goal.send_next_planes-requires-clause-room
send_next_planes-requires-clause-room g c =
    let plane = c.rows.result * c.columns.result in
    let room = length c.args.room.now in
    let many = c.loop-first.first + c.min-count.result - c.loop-first.first in
    let next = drop c.loop-first.first c.loop-first.bands in
    let kept = length (take many next) - 1 in
    let few : kept ≤ room / plane = omega (arith, length-take many next) in
    let within : kept * plane ≤ room / plane * plane = mul-le kept plane (room / plane) plane few (omega arith) in
    let fits : kept * plane ≤ length c.loop-first.room = omega (arith, within, div-mul-le_self room plane) in
    let same : plane ≡ c.args.cube.now.shape.rows * c.args.cube.now.shape.columns =
    ap₂ (λ m n. m * n) (omega (arith, ap (λ s. s.rows) c.shape-shape.ensures)) (omega (arith, ap (λ s. s.columns) c.shape-shape.ensures)) in
    subst (λ n. kept * n ≤ length c.loop-first.room) same fits
