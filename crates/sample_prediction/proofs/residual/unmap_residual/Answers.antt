use Rattle.std.proofs.Common.{◌≡◌, SFits, w32, to_z, of_z, to_z-of_z, rules, ◌∙◌}
use Rattle.cube_core.specs.Kind.{smin, smax}
use Rattle.sample_prediction.proofs.Spans.{below_span}
use Rattle.sample_prediction.proofs.residual.unmap_residual.Goals as goal
use Rattle.sample_prediction.proofs.residual.unmap_residual.Goals.{After-smax}

least : (c : After-smax) → to_z w32 (of_z w32 c.smin.result) ≡ smin c.args.kind
least c = let fits : SFits w32 c.smin.result = search rules in to_z-of_z fits ∙ c.smin.ensures.value

most : (c : After-smax) → to_z w32 (of_z w32 c.smax.result) ≡ smax c.args.kind
most c = let fits : SFits w32 c.smax.result = search rules in to_z-of_z fits ∙ c.smax.ensures.value

pub unmap_between-requires-clause-delta_in : goal.unmap_between-requires-clause-delta_in
unmap_between-requires-clause-delta_in c = rw (least c, most c) (below_span c.args.kind c.args.delta c.requires.residual)

pub unmap_between-requires-clause-high_in : goal.unmap_between-requires-clause-high_in
unmap_between-requires-clause-high_in c = rw (least c, most c) c.smax.ensures.span

pub unmap_between-requires-clause-scaled_high : goal.unmap_between-requires-clause-scaled_high
unmap_between-requires-clause-scaled_high c = rw (most c, to_z-of_z c.ranges.stilde) c.requires.scaled.1

pub unmap_between-requires-clause-scaled_low : goal.unmap_between-requires-clause-scaled_low
unmap_between-requires-clause-scaled_low c = rw (least c, to_z-of_z c.ranges.stilde) c.requires.scaled.0

pub returns-clause-range : goal.returns-clause-range
returns-clause-range c =
    let d = (goal.at.returns-clause-range c).After-smax in let fits : SFits w32 c.unmap_between.result = search rules in
    rw (to_z-of_z fits) (rw (least d, most d) at c.unmap_between.ensures.range)

pub returns-clause-inverse : goal.returns-clause-inverse
returns-clause-inverse c =
    let d = (goal.at.returns-clause-inverse c).After-smax in let fits : SFits w32 c.unmap_between.result = search rules in
    rw (to_z-of_z fits) (rw (least d, most d, to_z-of_z c.ranges.stilde) at c.unmap_between.ensures.inverse)
