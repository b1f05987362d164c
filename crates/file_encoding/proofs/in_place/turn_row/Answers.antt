use Rattle.std.proofs.Common.{◌≡◌, ◌+◌, ◌-◌, ◌*◌, ◌≤◌, ◌∷◌, [], ℕ, List, length, refl, sym, ap, ◌∙◌, take, drop, length-take, length-drop, subst, arith}
use Rattle.std.proofs.lemmas.List.{length-map}
use Rattle.std.proofs.lemmas.Nat.{mul-le}
use Rattle.cube_core.proofs.Lists.{length-from}
use Rattle.cube_core.specs.Order.{from}
use Rattle.cube_core.specs.Shape.{Sizes}
use Rattle.file_encoding.specs.InPlace.{AreLinesSet}
use Rattle.file_encoding.specs.Own.{row_of}
use Rattle.file_encoding.specs.Walks.{bands_of}
use Rattle.file_encoding.proofs.InPlace.{bands_from, lines_none, lines_set}
use Rattle.file_encoding.proofs.Sending.{next_bands, parted_put}
use Rattle.file_encoding.proofs.in_place.turn_row.Goals as goal
use Rattle.file_encoding.proofs.in_place.turn_row.Goals.{After-min-count}

module _ (c : After-min-count) where
  all : length c.args.bands.now ≡ c.args.params.now.shape.bands
  all =
      sym (length-map c.args.bands.now (λ b. b.band)) ∙ ap (λ (zs : List ℕ). length zs) c.requires.own ∙ length-from 0 c.args.params.now.shape.bands

  abbrev many : ℕ
  many = c.loop-first.first + c.min-count.result - c.loop-first.first

  inside : c.loop-first.first + many ≤ c.args.params.now.shape.bands
  inside = omega (arith, all)

  size : length (take many (drop c.loop-first.first c.loop-first.bands)) ≡ many
  size = omega (arith, all, length-take many (drop c.loop-first.first c.loop-first.bands), length-drop c.loop-first.first c.loop-first.bands)

  own : bands_of (take many (drop c.loop-first.first c.loop-first.bands)) ≡ from c.loop-first.first many
  own =
      next_bands c.loop-first.bands c.args.bands.now c.loop-first.first many many refl c.loop-first.invariant.parted.same
      ∙ ap (λ zs. take many (drop c.loop-first.first zs)) c.requires.own
      ∙ bands_from c.args.params.now.shape.bands c.loop-first.first many inside

pub loop-first-init : goal.loop-first-init
loop-first-init c = record {
  parted = record { done = tt; left = c.requires.at; same = refl };
  within = omega arith;
  set = lines_none c.args.cube.now 0 c.args.rows.now.y _;
}

pub turn_bands-requires-clause-own : goal.turn_bands-requires-clause-own
turn_bands-requires-clause-own c =
    let d = (goal.at.turn_bands-requires-clause-own c).After-min-count in
    own d ∙ ap (from c.loop-first.first) (sym (size d))

pub loop-first-preserved : goal.loop-first-preserved
loop-first-preserved c =
    let d = (goal.at.loop-first-preserved c).After-min-count in
    let told = c.turn_bands.ensures in
    let next = c.loop-first.first + c.min-count.result in
    record {
      parted = parted_put (next - c.loop-first.first) next _ c.loop-first.invariant.parted (omega arith) (omega arith) told.at told.same;
      within = omega arith;
      set = subst (λ n. AreLinesSet c.args.cube.now c.turn_bands.new.cube 0 c.args.rows.now.y n (λ z. row_of c.args.params.now c.args.rows.now.image (z ∷ []) c.args.rows.now.y))
          (omega (arith, size d))
          (lines_set c.loop-first.invariant.set told.turned (omega (arith, size d, inside d, ap (λ (s : Sizes). s.bands) c.requires.cube.shape))
          (omega (arith, c.requires.row, ap (λ (s : Sizes). s.rows) c.requires.cube.shape, ap (λ (s : Sizes). s.rows) c.requires.image.shape)));
    }

pub overflow_cast-first : goal.overflow_cast-first
overflow_cast-first c =
    let d = (goal.at.overflow_cast-first c).After-min-count in
    omega (arith, all d, c.requires.lawful.sizes.bands)

pub turn_bands-requires-clause-inside : goal.turn_bands-requires-clause-inside
turn_bands-requires-clause-inside c =
    let d = (goal.at.turn_bands-requires-clause-inside c).After-min-count in
    omega (arith, size d, inside d)

pub turn_bands-requires-clause-room : goal.turn_bands-requires-clause-room
turn_bands-requires-clause-room c =
    let d = (goal.at.turn_bands-requires-clause-room c).After-min-count in
    let columns = c.args.params.now.shape.columns in
    let some = length (take (many d) (drop c.loop-first.first c.loop-first.bands)) in
    let few : some * columns ≤ 8 * columns = mul-le some columns 8 columns (omega (arith, size d)) (omega arith) in
    omega (arith, few, c.requires.room, c.loop-first.auto.room)

pub returns-clause-turned : goal.returns-clause-turned
returns-clause-turned c =
    let many : length c.args.bands.now ≡ c.args.params.now.shape.bands =
    sym (length-map c.args.bands.now (λ b. b.band)) ∙ ap (λ (zs : List ℕ). length zs) c.requires.own ∙ length-from 0 c.args.params.now.shape.bands in
    let last : c.loop-first.first ≡ c.args.params.now.shape.bands = omega (arith, many, c.loop-first.invariant.within) in
    subst (λ n. AreLinesSet c.args.cube.now c.loop-first.cube 0 c.args.rows.now.y n (λ z. row_of c.args.params.now c.args.rows.now.image (z ∷ []) c.args.rows.now.y)) last
    c.loop-first.invariant.set
