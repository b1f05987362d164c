use Rattle.std.proofs.Common.{◌∙◌, ◌+◌, ◌++◌, [], ◌∷◌, ap, arith, length-append}
use Rattle.std.proofs.Math.ListN.{drop_of_length-le}
use Rattle.cube_core.specs.Order.{places}
use Rattle.cube_core.specs.Shape.{sample_count}
use Rattle.cube_core.proofs.Orders.{length-places}
use Rattle.pipeline_tests.proofs.tests.whole_weave.weave_all.Goals as goal

pub loop-index-preserved : goal.loop-index-preserved
loop-index-preserved g c =
    let was = c.loop-index.invariant in
    let number = c.next_of-residual.result in (
      was.0 ++ number ∷ [],
      c.in_ok-take.ensures.woven c.args.plan.now.params c.args.plan.now.deal was.0 was.1,
      length-append was.0 (number ∷ []) ∙ ap (λ n. n + 1) was.2,
    )

pub finish-requires : goal.finish-requires
finish-requires g c =
    let was = c.loop-index.invariant in
    let p = c.args.plan.now.params in
    was.1.coded.left ∙ drop_of_length-le (places p.shape p.order) (omega (
      arith,
      was.2,
      length-places p.shape p.order c.prove_is_plan.ensures.lawful.order,
      c.loop-index-test.false,
      c.sample_count-index-end.ensures.value,
      ap (λ q. sample_count q.shape) c.params-2.ensures,
    ))
