use Rattle.std.proofs.Common.{◌≡◌, ℕ, sym, subst}
use Rattle.std.proofs.lemmas.Result.{IfOk-weaker, IfErr-weaker}
use Rattle.predict_core.specs.Cubes.{IsCubeOf}
use Rattle.coder_pipe.specs.Sends.{CubeFeedState, part_of}
use Rattle.coder_pipe.specs.Piping.{AreFeeds, MayStop, MayStopPart}
use Rattle.coder_pipe.proofs.Pipelines.{early}
use Rattle.coder_pipe.proofs.Predicted.{feeds_from, are_feeds, is_file_of, may_stop_part}
use Rattle.coder_pipe.proofs.encode_predicted.encode_predicted.Goals as goal
use Rattle.coder_pipe.proofs.encode_predicted.encode_predicted.Goals.{After-params}
use Rattle.coder_pipe.proofs.encode_predicted.encode_predicted.Given.{Over}

module _ (g : Over) (c : After-params g) where
  cube_of : IsCubeOf c.args.plan.now.params c.args.cube.now
  cube_of = record { cube = c.prove_is_cube.ensures; shape = c.requires.shape; kind = c.requires.kind }

  feeds_are : c.in_ok-feeds.feeds.items ≡ feeds_from c.args.cube.now c.args.plan.now
  feeds_are = c.in_ok-feeds.ensures.feeds

  lists : AreFeeds (λ (f : CubeFeedState). f.predictor) part_of c.args.plan.now c.in_ok-feeds.feeds.items
  lists =
      subst (AreFeeds (λ (f : CubeFeedState). f.predictor) part_of c.args.plan.now) (sym feeds_are)
      (are_feeds c.args.plan.now c.args.cube.now c.prove_is_plan.ensures cube_of)

pub encode_piped-requires-clause-feeds : goal.encode_piped-requires-clause-feeds
encode_piped-requires-clause-feeds g c = λ κs h. lists g c

pub returns-clause-file : goal.returns-clause-file
returns-clause-file g c =
    let d = (goal.at.returns-clause-file g c).After-params in
    IfOk-weaker c.encode_piped.result _ _ (λ p h. is_file_of _ _ c.prove_is_plan.ensures (cube_of g d) p.file.items p.lanes.items (rw (feeds_are g d) at h))
    c.encode_piped.ensures.piped

pub returns-clause-early : goal.returns-clause-early
returns-clause-early g c =
    let d = (goal.at.returns-clause-early g c).After-params in
    let part = λ (q n : ℕ) (k : MayStop g.G.Gate.may_stop c.args.gate.now part_of c.in_ok-feeds.feeds.items q n).
    may_stop_part c.args.plan.now c.args.cube.now c.prove_is_plan.ensures (cube_of g d) g.G.Gate.may_stop c.args.gate.now q n (rw (feeds_are g d) at k) in
    IfErr-weaker c.encode_piped.result _ _ (λ e h. early e _ (λ q n. MayStopPart g.G.Gate.may_stop c.args.gate.now c.args.plan.now c.args.cube.now q n) part h)
    c.encode_piped.ensures.early
