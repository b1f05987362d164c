use Rattle.std.proofs.lemmas.Nat.{mul-le}
use Rattle.std.proofs.Math.Nat.{div-mul-le_self}
use Rattle.std.proofs.Common.{◌≡◌, ◌*◌, ◌/◌, length, ◌+◌, ◌-◌, ◌∷◌, [], ◌≤◌, ℕ, List, refl, ap, take, drop, length-take, subst, arith}
use Rattle.std.specs.List.{flat_map}
use Rattle.file_encoding.specs.Own.{row_of}
use Rattle.file_encoding.specs.Walks.{bands_of}
use Rattle.file_encoding.proofs.Sending.{Steps, none_yet, stepped, some_rest, next_bands, parted_put}
use Rattle.file_encoding.proofs.each_row.send_each_row.Goals as goal
use Rattle.file_encoding.proofs.each_row.send_each_row.Goals.{After-min-count}
use Rattle.file_encoding.proofs.each_row.send_each_row.Given.{Over}

module _ (g : Over) (c : After-min-count g) where
  abbrev rows : List ℕ → List ℕ
  rows zs = flat_map (λ z. row_of c.args.params.now c.args.rows.now.image (z ∷ []) c.args.rows.now.y) zs

  step : Steps g.T.Taker.may g.T.Taker.takes c.args.taker.now c.loop-first.taker (rows (bands_of c.args.bands.now))
      (rows (bands_of (take (c.loop-first.first + c.min-count.result - c.loop-first.first) (drop c.loop-first.first c.loop-first.bands))))
      (rows (take (c.loop-first.first + c.min-count.result) (bands_of c.args.bands.now)))
  step =
      stepped g.met.T.Taker.laws c.loop-first.invariant.sent c.requires.may (some_rest _ (bands_of c.args.bands.now) _ c.min-count.result)
      (ap rows (next_bands _ _ c.loop-first.first _ _ (omega arith) c.loop-first.invariant.parted.same))

pub send_next_rows-requires-clause-may : goal.send_next_rows-requires-clause-may
send_next_rows-requires-clause-may g c = (step g (goal.at.send_next_rows-requires-clause-may g c).After-min-count).fits

pub returns-then-not-send_next_rows-clause-sent : goal.returns-then-not-send_next_rows-clause-sent
returns-then-not-send_next_rows-clause-sent g c =
    (step g (goal.at.returns-then-not-send_next_rows-clause-sent g c).After-min-count).cut _ _ c.if-not-send_next_rows.true c.send_next_rows.ensures.sent

pub loop-first-preserved : goal.loop-first-preserved
loop-first-preserved g c =
    let told = c.send_next_rows.ensures in
    let next = c.loop-first.first + c.min-count.result in
    let parted = parted_put (next - c.loop-first.first) next _ c.loop-first.invariant.parted (omega arith) (omega arith)
    (told.at c.if-not-send_next_rows.false) told.same in
    record { parted = parted; sent = (step g (goal.at.loop-first-preserved g c).After-min-count).more _ _ c.if-not-send_next_rows.false told.sent }

pub loop-first-init : goal.loop-first-init
loop-first-init g c = record { parted = record { done = tt; left = c.requires.at; same = refl }; sent = none_yet g.met.T.Taker.laws c.requires.may }

pub send_next_rows-requires-clause-room : goal.send_next_rows-requires-clause-room
send_next_rows-requires-clause-room g c =
    let columns = c.columns-columns.result in
    let many = c.loop-first.first + c.min-count.result - c.loop-first.first in
    let next = drop c.loop-first.first c.loop-first.bands in
    let kept = length (take many next) - 1 in
    let few : kept ≤ 14336 / columns = omega (arith, length-take many next) in
    let within : kept * columns ≤ 14336 / columns * columns = mul-le kept columns (14336 / columns) columns few (omega arith) in
    let fits : kept * columns ≤ 14336 = omega (arith, within, div-mul-le_self 14336 columns) in
    let same : columns ≡ c.args.rows.now.image.shape.columns = omega (arith, ap (λ s. s.columns) c.shape.ensures) in
    subst (λ n. kept * n ≤ 14336) same fits
