-- What the pipeline makes of a cube.
use Rattle.std.proofs.Common.{◌≡◌, ◌^◌, ◌<◌, ℕ, Bool, List, [], ◌∷◌, length, map, get_or, sym, ap, ◌∙◌, subst, arith}
use Rattle.std.specs.Prelude.{◌==◌}
use Rattle.std.specs.List.{AllByRecursion}
use Rattle.std.proofs.lemmas.Bool.{cond_both}
use Rattle.std.proofs.lemmas.List.{length-map, get_or-map}
use Rattle.std.proofs.lemmas.Simd.{map-map}
use Rattle.band_rings.specs.Lane.{Lane}
use Rattle.cube_core.specs.Image.{Image}
use Rattle.cube_core.specs.Order.{upto}
use Rattle.cube_core.specs.Shape.{sample_count}
use Rattle.cube_core.proofs.Lists.{length-from, get_or-from}
use Rattle.cube_core.proofs.Orders.{length-places}
use Rattle.sample_prediction.specs.Residual.{residuals}
use Rattle.file_format.specs.File.{file_of}
use Rattle.predict_core.specs.Cubes.{IsCubeOf}
use Rattle.file_format.specs.Files.{IsFile}
use Rattle.file_format.proofs.FileLaws.{inside}
use Rattle.coder_pipe.specs.Plans.{PlanState, IsPlan}
use Rattle.coder_pipe.specs.Sends.{CubeFeedState, part_of}
use Rattle.file_encoding.specs.Own.{owners, part}
use Rattle.coder_pipe.specs.Weave.{parts}
use Rattle.file_encoding.proofs.Owning.{length-residuals}
use Rattle.std.proofs.lemmas.List.Elements.{All-from_recursion}
use Rattle.coder_pipe.proofs.Weaves.{part_share, length-owners, weave_of_parts}
use Rattle.coder_pipe.specs.Piping.{carried, AreFeeds, IsPiped, MayStop, IsFileOf, MayStopPart}
use Rattle.file_format.proofs.WrittenFiles.{chosen_is_file}

-- the feeds of a cube
abbrev pub feed_of : Image → PlanState → ℕ → CubeFeedState
feed_of c plan q = record { cube = c; plan = plan; predictor = q }

abbrev pub feeds_from : Image → PlanState → List CubeFeedState
feeds_from c plan = map (feed_of c plan) (upto plan.predictors)

feed_at : (c : Image) (plan : PlanState) (q : ℕ) (f : CubeFeedState) → q < plan.predictors → get_or (feeds_from c plan) q f ≡ feed_of c plan q
feed_at c plan q f lt =
    get_or-map (feed_of c plan) (upto plan.predictors) q 0 f (rw (length-from 0 plan.predictors) lt)
    ∙ ap (feed_of c plan) (get_or-from 0 plan.predictors q 0 lt ∙ omega arith)

part_inside : (limit q : ℕ) (os ns : List ℕ) → AllByRecursion (λ v. v < limit) ns → AllByRecursion (λ v. v < limit) (part q os ns)
unfolding part
part_inside limit q [] ns h = tt
part_inside limit q (o ∷ os) [] h = tt
part_inside limit q (o ∷ os) (n ∷ ns) h =
    let rest = part_inside limit q os ns h.1 in
    cond_both (o == q) (n ∷ part q os ns) (part q os ns) (AllByRecursion (λ v. v < limit)) (λ _. (h.0, rest)) (λ _. rest)

module _ (plan : PlanState) (c : Image) (lawful : IsPlan plan) (cube : IsCubeOf plan.params c) where
  abbrev of : ℕ → List ℕ
  of q = part q (owners plan.deal plan.params) (residuals plan.params c)

  whole : length (residuals plan.params c) ≡ length (owners plan.deal plan.params)
  whole =
      length-residuals plan.params c (rw cube.shape lawful.lawful.order) ∙ ap sample_count cube.shape
      ∙ sym (length-owners plan.deal plan.params ∙ length-places plan.params.shape plan.params.order lawful.lawful.order)

  pub are_feeds : AreFeeds (λ f. f.predictor) part_of plan (feeds_from c plan)
  are_feeds = record {
    many = length-map (upto plan.predictors) (feed_of c plan) ∙ length-from 0 plan.predictors;
    named = λ q f lt. ap (λ (d : CubeFeedState). d.predictor) (feed_at c plan q f lt);
    whole = λ q f lt. ap (λ (d : CubeFeedState). length (part_of d)) (feed_at c plan q f lt)
        ∙ part_share q (owners plan.deal plan.params) (residuals plan.params c) whole;
    range = λ q f lt.
        let all =
        part_inside (2 ^ plan.params.kind.bits) q (owners plan.deal plan.params) (residuals plan.params c) (inside plan.params lawful.lawful c cube) in
        rw (feed_at c plan q f lt) (All-from_recursion (λ n. n < 2 ^ plan.params.kind.bits) (of q) all);
  }

  lists : map part_of (feeds_from c plan) ≡ parts plan.predictors plan.deal plan.params c
  lists = map-map part_of (feed_of c plan) (upto plan.predictors)

  pub is_file_of : (file : List ℕ) (lanes : List Lane) → IsPiped part_of plan (feeds_from c plan) file lanes → IsFileOf plan c file lanes
  unfolding file_of
  is_file_of file lanes h =
      let woven = weave_of_parts plan.params c plan.predictors plan.deal cube.shape lawful.lawful.order lawful.may.dealt in
      let made : file ≡ file_of c plan.params = rw (lists, woven) at h.woven in
      record {
        carries = h.carries ∙ sym (map-map carried part_of (feeds_from c plan)) ∙ ap (map carried) lists;
        made = made;
        back = subst (λ bytes. IsFile bytes plan.params c) (sym made) (chosen_is_file plan.params c lawful.lawful cube);
      }

  pub may_stop_part : {G : Type 0} (may_stop : G → ℕ → ℕ → Bool) (gate : G) (q n : ℕ) → MayStop may_stop gate part_of (feeds_from c plan) q n
      → MayStopPart may_stop gate plan c q n
  may_stop_part may_stop gate q n h =
      let lt : q < plan.predictors = omega (arith, h.0, length-map (upto plan.predictors) (feed_of c plan), length-from 0 plan.predictors) in
      (lt, h.1, subst (λ (d : CubeFeedState). n < length (part_of d)) (feed_at c plan q (feed_of c plan q) lt) (h.2 (feed_of c plan q)))
