use Rattle.std.proofs.Common.{◌≡◌, ◌<◌, false, length, sum, refl, arith}
use Rattle.block_adaptive.specs.declared.options.Choice.TheVariants.{Split}
use Rattle.block_adaptive.specs.Options.{splits, cost}
use Rattle.block_adaptive.proofs.Costs.{split_cost}
use Rattle.block_adaptive.proofs.Sums.{plain_length}
use Rattle.block_adaptive.proofs.Tried.{LeadsTried, shorter_leads, next_leads, old_leads}
use Rattle.block_adaptive.proofs.Bounded.{ended_at_plain, some_splits, no_splits}
use Rattle.block_adaptive.proofs.choice.choose_of_small.Goals as goal
use Rattle.block_adaptive.proofs.choice.choose_of_small.Goals.{After-split_cost-plain}
use Rattle.block_adaptive.proofs.choice.choose_of_small.Goals.{else-width-gt1-via-then-width-gt1+else-plain-least, else-width-gt1-via-else-width-gt1}

module _ (c : After-split_cost-plain) where
  lead : LeadsTried c.args.set.now c.args.block.now false 0 0 c.without_split-best.result.0
  lead = rw c.without_split-best.ensures.shorter (shorter_leads c.args.set.now c.args.block.now)

  plain : c.split_cost-plain.result ≡ cost c.args.set.now (Split 0) c.args.block.now
  plain =
      let s = c.args.set.now in
      let vs = c.args.block.now in
      omega (arith, c.split_cost-plain.ensures, c.identifier_width-width.ensures.value, split_cost s 0 vs, plain_length vs, c.requires.total)

pub returns-then-plain-least-clause-chosen : goal.returns-then-plain-least-clause-chosen
returns-then-plain-least-clause-chosen c =
    let d = (goal.at.returns-then-plain-least-clause-chosen c).After-split_cost-plain in
    let s = c.args.set.now in
    ended_at_plain s c.args.block.now _ _ (λ some. omega (arith, c.requires.small some, c.requires.total))
    (next_leads (omega arith) (lead d) (omega (arith, plain d, c.without_split-best.ensures.cost, c.if-plain-least.true)))
    (some_splits s (omega (arith, c.if-width-gt1.true, c.identifier_width-width.ensures.value))) (λ lt. refl)

pub returns-then-plain-least-clause-cost : goal.returns-then-plain-least-clause-cost
returns-then-plain-least-clause-cost c = grind (arith, plain_length, split_cost)

pub returns-else-width-gt1-clause-chosen : goal.returns-else-width-gt1-clause-chosen
returns-else-width-gt1-clause-chosen c =
    let d = (goal.at.returns-else-width-gt1-clause-chosen c).After-split_cost-plain in
    let s = c.args.set.now in
    let vs = c.args.block.now in
    let best = c.without_split-best.result.0 in
    let small : 0 < splits s → sum vs < length vs = λ some. omega (arith, c.requires.small some, c.requires.total) in
    elim c.else-width-gt1.branch [
      | else-width-gt1-via-then-width-gt1+else-plain-least w ↦
          ended_at_plain s vs _ best small (old_leads (lead d) (omega (arith, plain d, c.without_split-best.ensures.cost, w.if-plain-least.false)))
          (some_splits s (omega (arith, w.if-width-gt1.true, c.identifier_width-width.ensures.value))) (λ lt. refl)
      | else-width-gt1-via-else-width-gt1 w ↦
          (let none = no_splits s (omega (arith, w.if-width-gt1.false, c.identifier_width-width.ensures.value, c.identifier_width-width.ensures.least)) in
          ended_at_plain s vs _ best small (lead d) (omega arith) (λ lt. absurd (omega (arith, none))))
    ]
