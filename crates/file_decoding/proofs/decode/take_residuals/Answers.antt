use Rattle.std.proofs.Common.{◌≡◌, ◌∙◌, ◌*◌, ◌^◌, ◌-◌, [], ℕ, length, take, drop, Some, Err, inr, refl, sym, ap, arith, length-take, length-drop}
use Rattle.std.specs.List.{slice_get}
use Rattle.std.proofs.lemmas.Nat.{mul-le}
use Rattle.std.proofs.Math.Arith.{digits_lt}
use Rattle.std.proofs.lemmas.Grind.{common_steps}
use Rattle.std.proofs.lemmas.Result.{err_from_is_err_and}
use Rattle.cube_core.specs.declared.order.Place.{Place}
use Rattle.cube_core.specs.Image.{Image}
use Rattle.cube_core.specs.Order.{places}
use Rattle.cube_core.proofs.Come.{time_of}
use Rattle.cube_core.proofs.Lists.{none_first, each_below}
use Rattle.cube_core.proofs.Orders.{length-places}
use Rattle.predict_core.proofs.Walking.{all_places, next_place}
use Rattle.file_decoding.specs.Decoding.{MayAskEach}
use Rattle.file_format.specs.Files.{after_body}
use Rattle.file_decoding.specs.Tiles.{band_in, time_in}
use Rattle.file_decoding.proofs.TileWalk.{walked_first, walked_more, walked_whole, fits, may_read}
use Rattle.file_decoding.proofs.decode.take_residuals.Goals as goal
use Rattle.file_decoding.proofs.decode.take_residuals.Goals.{After-time_of}

pub loop-place-init : goal.loop-place-init
loop-place-init c =
    rw c.new-places.ensures (record {
      count = refl;
      walked = walked_first c.args.reader.now.left c.requires.lawful c.requires.alike.0 c.requires.alike.1 c.in_ok-decoder.ensures.given;
    })

pub at-tile-requires-clause-place : goal.at-tile-requires-clause-place
at-tile-requires-clause-place c =
    (next_place c.args.params.now c.requires.lawful.order c.loop-place.invariant.walked.rest _ (sym c.peek.ensures ∙ c.in-Some.is)).place

pub overflow_sub-index : goal.overflow_sub-index
overflow_sub-index c =
    let all = all_places c.args.params.now c.requires.lawful.order c.loop-place.invariant.walked.rest in
    omega (arith, all, c.left.ensures, c.sample_count-count.ensures.value)

-- ---- the next tile

module _ (c : After-time_of) where
  next : slice_get c.loop-place.places 0 ≡ Some c.at-tile.result.place
  next = sym c.peek.ensures ∙ c.in-Some.is ∙ ap (λ (q : Place). Some q) (sym c.at-tile.ensures.place)

  time : c.time_of.result ≡ time_of c.args.params.now.shape c.at-tile.result.place
  time = rw c.at-tile.ensures.place c.time_of.ensures

  -- the room has a number for each of its places
  long : length (take c.count.result c.loop-place.room) ≡ c.at-tile.result.columns * c.at-tile.result.bands
  long =
      let few = c.at-tile.ensures.tile.few in
      let most = mul-le c.at-tile.result.columns c.at-tile.result.bands 64 _ few.0 few.1 in
      let room = ap length c.deref_mut.ensures.value in
      omega (
        arith,
        length-take {A = ℕ},
        c.count.ensures,
        most,
        c.loop-place.auto.room,
        room,
        c.in_ok-residuals.ensures.len,
        c.in_ok-residuals.residuals.ok.0,
        c.most_bands.ensures,
      )

  abbrev may : (count : ℕ) → count ≡ c.at-tile.result.columns * c.at-tile.result.bands
      → MayAskEach c.loop-place.decoder (band_in c.at-tile.result) (time_in c.at-tile.result c.time_of.result)
      (c.sample_count-count.result - c.left.result) count
  may count whole =
      may_read c.requires.lawful c.loop-place.invariant.walked c.at-tile.ensures.tile.in-order next _ _ _ time
      (omega (arith, c.left.ensures, c.sample_count-count.ensures.value)) whole

pub count-requires : goal.count-requires
count-requires c = omega arith

pub slice_bounds-deltas-end-in-Some : goal.slice_bounds-deltas-end-in-Some
slice_bounds-deltas-end-in-Some c = grind (arith, common_steps)

pub read-requires-clause-some : goal.read-requires-clause-some
read-requires-clause-some c = c.at-tile.ensures.tile.in-order.some

pub read-requires-clause-few : goal.read-requires-clause-few
read-requires-clause-few c = omega arith

pub read-requires-clause-small : goal.read-requires-clause-small
read-requires-clause-small c =
    let d = (goal.at.read-requires-clause-small c).After-time_of in
    let walked = c.loop-place.invariant.walked in
    let is = c.at-tile.ensures.tile.in-order in
    let row = digits_lt is.place.row is.place.column in
    let most = mul-le c.args.params.now.shape.rows c.args.params.now.shape.columns 65536 65536 c.requires.lawful.sizes.rows.1 c.requires.lawful.sizes.columns.1 in
    let all = all_places c.args.params.now c.requires.lawful.order walked.rest in
    (omega (arith, time d, row, most), omega (arith, c.left.ensures, c.sample_count-count.ensures, long d, (fits c.requires.lawful walked is (next d)).1, all))

pub read-requires-clause-whole : goal.read-requires-clause-whole
read-requires-clause-whole c = long ((goal.at.read-requires-clause-whole c).After-time_of)

pub read-requires-clause-may : goal.read-requires-clause-may
read-requires-clause-may c = let d = (goal.at.read-requires-clause-may c).After-time_of in may d _ (long d)

pub returns-in_err-read-clause-refused : goal.returns-in_err-read-clause-refused
returns-in_err-read-clause-refused c =
    let d = (goal.at.returns-in_err-read-clause-refused c).After-time_of in
    let known = c.loop-place.invariant in
    let got = c.in_err-read.ensures in
    let bad = got.given (may d _ (got.long ∙ long d)) in
    let body : after_body c.args.reader.now.count c.args.params.now c.args.reader.now.left ≡ Err c.in_err-read.field-0.0 =
    rw (known.count, ← known.walked.text) at bad in
    let told = err_from_is_err_and c.from_residual-in_err-read.result c.from_residual-in_err-read.ensures.1 in
    rw (told.1, told.2) (inr body)

-- ---- its residuals and samples

pub store-requires-clause-whole : goal.store-requires-clause-whole
store-requires-clause-whole c = grind (arith, common_steps)

pub store-requires-clause-numbers_in : goal.store-requires-clause-numbers_in
store-requires-clause-numbers_in c k lt =
    let d = (goal.at.store-requires-clause-numbers_in c).After-time_of in
    let got = c.in_ok-read.ensures in
    let given = got.given (may d _ (got.long ∙ long d)) in
    rw c.loop-place.invariant.walked.kind (each_below (2 ^ c.args.params.now.kind.bits) c.read.new.deltas given.0 k lt)

-- ---- after it

pub loop-place-smaller : goal.loop-place-smaller
loop-place-smaller c =
    let d = (goal.at.loop-place-smaller c).After-time_of in
    let room = fits c.requires.lawful c.loop-place.invariant.walked c.at-tile.ensures.tile.in-order (next d) in
    omega (arith, ap length c.go_by.ensures, length-drop c.count-in-Some.result c.loop-place.places, c.count-in-Some.ensures, room)

pub loop-place-preserved : goal.loop-place-preserved
loop-place-preserved c =
    let d = (goal.at.loop-place-preserved c).After-time_of in
    let known = c.loop-place.invariant in
    let is = c.at-tile.ensures.tile.in-order in
    let count : length c.read.new.deltas ≡ c.at-tile.result.columns * c.at-tile.result.bands = c.in_ok-read.ensures.long ∙ long d in
    let later = c.go_by.ensures ∙ ap (λ (n : ℕ). drop n c.loop-place.places) (c.count-in-Some.ensures ∙ sym count) in
    rw later (record {
      count = c.in_ok-read.ensures.count ∙ known.count;
      walked = walked_more c.requires.lawful known.walked is (next d) _ _ c.store.ensures (c.in_ok-read.ensures.given (may d _ count)) count;
    })

pub returns-clause-taken : goal.returns-clause-taken
returns-clause-taken c = walked_whole c.requires.lawful c.loop-place.invariant.walked (none_first _ (sym c.peek.ensures ∙ c.in_default.is))
