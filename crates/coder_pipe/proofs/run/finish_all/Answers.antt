use Rattle.std.proofs.Common.{◌≡◌, ◌<◌, ◌+◌, map, length, get_or, arith, ap, sym, ◌∙◌, vec_len}
use Rattle.std.proofs.lemmas.List.{length-map, get_or-map, take_more_same}
use Rattle.coder_pipe.specs.Piping.{carried}
use Rattle.coder_pipe.specs.Standings.{feeds_of, handed_of}
use Rattle.coder_pipe.proofs.Heads.{drop_head, head_map, copy_step}
use Rattle.coder_pipe.proofs.run.finish_all.Goals as goal

pub loop-stage-preserved : goal.loop-stage-preserved
loop-stage-preserved g c =
    let was = c.loop-stage.invariant in let n = vec_len c.loop-stage.lanes in let xs = c.args.stages.items in
    let h = drop_head xs _ n c.in-Some.stage (sym was.left ∙ c.in-Some.ensures.steps.0) in
    let more : vec_len c.push_reserved.new.self ≡ n + 1 = c.push_reserved.ensures.len in
    let below : n < length (feeds_of xs) = rw length-map h.below in
    let s = c.in-Some.stage in
    let items = g.F.Feed.items in
    let feed : get_or (feeds_of xs) n s.feed ≡ s.feed = head_map h (λ s. s.feed) s.feed in
    let handed = head_map h (λ s. s.handed) (items s.feed) ∙ c.finish.ensures.handed in
    let list = get_or-map items (feeds_of xs) n s.feed (items s.feed) below ∙ ap items feed in
    let one = get_or-map (λ f. carried (items f)) (feeds_of xs) n s.feed c.finish.result below ∙ ap (λ f. carried (items f)) feed ∙ sym c.finish.ensures.lane in
    record {
      left = rw more h.left;
      room = c.push_reserved.ensures.capacity ∙ was.room;
      count = rw more (omega (arith, h.below));
      handed = rw more (take_more_same (handed_of xs) (map items (feeds_of xs)) n (items s.feed) (rw length-map h.below)
          (rw (length-map, length-map) h.below) was.handed (handed ∙ sym list));
      lanes = rw (more, c.push_reserved.ensures.items) (copy_step (map (λ f. carried (items f)) (feeds_of xs)) _ n c.finish.result was.lanes
          (rw (length-map, length-map) h.below) one);
    }

pub finish-requires : goal.finish-requires
finish-requires g c =
    let was = c.loop-stage.invariant in let n = vec_len c.loop-stage.lanes in
    let h = drop_head c.args.stages.items _ n c.in-Some.stage (sym was.left ∙ c.in-Some.ensures.steps.0) in
    rw (h.here c.in-Some.stage) at (c.requires.whole n c.in-Some.stage h.below)

pub push_reserved-requires : goal.push_reserved-requires
push_reserved-requires g c =
    let was = c.loop-stage.invariant in let n = vec_len c.loop-stage.lanes in
    let h = drop_head c.args.stages.items _ n c.in-Some.stage (sym was.left ∙ c.in-Some.ensures.steps.0) in
    omega (arith, h.below, was.room, c.requires.room, c.args.stages.ok.0)
