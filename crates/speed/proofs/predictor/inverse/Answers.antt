use Rattle.std.proofs.Common.{rules, SFits, w32, to_z-of_z, ◌≡◌, ◌<◌, [], Some, arith, sym, ap, ◌∙◌, length}
use Rattle.std.specs.List.{slice_get}
use Rattle.std.proofs.lemmas.Option.{slice_get-get_or}
use Rattle.cube_core.specs.Image.{put}
use Rattle.predict_core.specs.Following.{PredictorState}
use Rattle.predict_core.specs.Walked.{IsAlong}
use Rattle.cube_core.proofs.Come.{time_of}
use Rattle.predict_core.proofs.Walking.{NextGoes, next_goes, band_here, gone_count, on_walk_first, on_walk_more}
use Rattle.predict_core.proofs.Kept.{others_follow}
use Rattle.speed.proofs.Walk.{AreResiduals, none_yet, all_residuals, read_more}
use Rattle.speed.proofs.predictor.inverse.Goals as goal
use Rattle.speed.proofs.predictor.inverse.Goals.{In-Some, After-index_mut}

pub loop-place-init : goal.loop-place-init
loop-place-init c =
    rw c.new-places.ensures (record {
      shape = c.requires.shape;
      kind = c.requires.kind;
      walk = on_walk_first c.args.params.now c.args.cube.now c.in_ok-bands.bands.items c.requires.lawful.order
          (omega (arith, c.in_ok-bands.ensures.len, c.in_ok-bands.bands.ok.0)) (c.in_ok-bands.ensures.along c.args.cube.now);
      read = none_yet c.args.params.now c.args.cube.now c.args.residuals.now c.requires.lawful.order;
    })

goes : (c : In-Some) → NextGoes c.args.params.now c.in-Some.place c.loop-place.places c.next.new.self
goes c = next_goes c.args.params.now c.in-Some.place c.loop-place.places c.next.new.self c.requires.lawful.order c.loop-place.invariant.walk.rest
    c.in-Some.ensures.steps

inside : (c : In-Some) → c.loop-place.i < length c.args.residuals.now
inside c = let g = goes c in omega (arith, g.below, c.loop-place.invariant.read.count, c.requires.all)

pub index_mut-requires : goal.index_mut-requires
index_mut-requires c = let g = goes (goal.at.index_mut-requires c).In-Some in omega (arith, g.stands.place.band, c.loop-place.invariant.walk.many)

band_is : (c : After-index_mut) → slice_get c.loop-place.bands.items c.in-Some.place.z ≡ Some c.index_mut.result.now
band_is c =
    let g = next_goes c.args.params.now c.in-Some.place c.loop-place.places c.next.new.self c.requires.lawful.order c.loop-place.invariant.walk.rest
    c.in-Some.ensures.steps in
    slice_get-get_or c.loop-place.bands.items c.in-Some.place.z c.index_mut.result.now
    (omega (arith, g.stands.place.band, c.loop-place.invariant.walk.many)) ∙ ap (λ (b : PredictorState). Some b) (sym c.index_mut.ensures.value)

here : (c : After-index_mut) → IsAlong c.args.params.now c.loop-place.cube (gone_count c.args.params.now c.loop-place.places) c.in-Some.place.z
    c.index_mut.result.now × (c.index_mut.result.now.t ≡ time_of c.args.params.now.shape c.in-Some.place)
here c = band_here c.args.params.now c.loop-place.cube (gone_count c.args.params.now c.loop-place.places) c.loop-place.bands.items c.in-Some.place
    c.index_mut.result.now c.requires.lawful.order c.loop-place.invariant.walk.along (next_goes c.args.params.now c.in-Some.place c.loop-place.places
    c.next.new.self c.requires.lawful.order c.loop-place.invariant.walk.rest c.in-Some.ensures.steps).stands (band_is c)

pub offset_bounds-residuals-i : goal.offset_bounds-residuals-i
offset_bounds-residuals-i c = let lt = inside (goal.at.offset_bounds-residuals-i c).In-Some in omega (arith, lt, c.requires.all, c.requires.lawful.sizes)

pub bounds-residuals-i : goal.bounds-residuals-i
bounds-residuals-i c = inside (goal.at.bounds-residuals-i c).In-Some

pub inverse-sample-requires-clause-shape : goal.inverse-sample-requires-clause-shape
inverse-sample-requires-clause-shape c =
    c.loop-place.invariant.shape ∙ sym (here (goal.at.inverse-sample-requires-clause-shape c).After-index_mut).0.follows.made.shape

pub inverse-sample-requires-clause-kind : goal.inverse-sample-requires-clause-kind
inverse-sample-requires-clause-kind c =
    c.loop-place.invariant.kind ∙ sym (here (goal.at.inverse-sample-requires-clause-kind c).After-index_mut).0.follows.made.kind

pub inverse-sample-requires-clause-place : goal.inverse-sample-requires-clause-place
inverse-sample-requires-clause-place c =
    let h = here (goal.at.inverse-sample-requires-clause-place c).After-index_mut in
    let g = goes (goal.at.inverse-sample-requires-clause-place c).In-Some in
    rw (c.loop-place.invariant.shape, h.0.band) g.stands.place

pub inverse-sample-requires-clause-next : goal.inverse-sample-requires-clause-next
inverse-sample-requires-clause-next c = rw c.loop-place.invariant.shape (here (goal.at.inverse-sample-requires-clause-next c).After-index_mut).1

pub inverse-sample-requires-clause-residual : goal.inverse-sample-requires-clause-residual
inverse-sample-requires-clause-residual c =
    let lt = inside (goal.at.inverse-sample-requires-clause-residual c).In-Some in
    rw c.loop-place.invariant.kind (c.requires.below c.loop-place.i lt)

pub set-requires-clause-place : goal.set-requires-clause-place
set-requires-clause-place c = let g = goes (goal.at.set-requires-clause-place c).In-Some in rw c.loop-place.invariant.shape g.stands.place

pub overflow_add-i : goal.overflow_add-i
overflow_add-i c = let lt = inside (goal.at.overflow_add-i c).In-Some in omega (arith, lt, c.requires.all, c.requires.lawful.sizes)

pub loop-place-preserved : goal.loop-place-preserved
loop-place-preserved c =
    let d = (goal.at.loop-place-preserved c).After-index_mut in
    let g = goes (goal.at.loop-place-preserved c).In-Some in
    let lt = inside (goal.at.loop-place-preserved c).In-Some in
    let h = here d in
    let known = c.loop-place.invariant in
    let follows = rw h.0.band at (c.inverse-sample.ensures.follows c.args.params.now h.0.follows) in
    let residual = rw h.0.band at (c.inverse-sample.ensures.residual c.args.params.now h.0.follows) in
    let fits : SFits w32 c.inverse-sample.result = search rules in
    let image : c.set.new.self ≡ put c.loop-place.cube c.in-Some.place.z c.in-Some.place.y c.in-Some.place.x c.inverse-sample.result =
    simp (to_z-of_z fits) at c.set.ensures in
    rw image (record {
      shape = known.shape;
      kind = known.kind;
      walk = on_walk_more c.args.params.now c.loop-place.cube _ c.loop-place.places c.next.new.self c.loop-place.bands.items c.in-Some.place
          c.index_mut.result.now c.inverse-sample.new.self
          c.requires.lawful.order known.walk c.in-Some.ensures.steps (band_is d) c.inverse-sample.ensures.moved follows (λ z f within apart along. others_follow
          c.args.params.now c.loop-place.cube c.in-Some.place c.inverse-sample.result _ z f c.requires.lawful known.shape g.stands within along);
      read = read_more c.args.params.now c.loop-place.cube c.loop-place.places c.next.new.self c.loop-place.bands.items c.in-Some.place c.index_mut.result.now
          c.args.residuals.now c.loop-place.i c.inverse-sample.result
          c.requires.lawful known.shape known.walk c.in-Some.ensures.steps (band_is d) known.read lt residual;
    })

pub returns-clause-samples : goal.returns-clause-samples
returns-clause-samples c =
    let known = c.loop-place.invariant in
    let read : AreResiduals c.args.params.now c.loop-place.cube [] c.loop-place.i c.args.residuals.now =
    rw c.in_default.ensures.steps.0 at c.loop-place.invariant.read in
    all_residuals c.args.params.now c.loop-place.cube c.loop-place.i c.args.residuals.now c.requires.lawful.order known.shape c.requires.all read
