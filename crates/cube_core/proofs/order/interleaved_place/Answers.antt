use Rattle.std.proofs.Common.{◌*◌, ◌+◌, ◌/◌, ◌%◌, ◌<◌, ℕ, arith, ◌∙◌, refl}
use Rattle.cube_core.specs.declared.order.Order.TheVariants.{Bi}
use Rattle.cube_core.proofs.Orders.{StandsAt, interleaved_found}
use Rattle.cube_core.proofs.order.interleaved_place.Goals as goal
use Rattle.cube_core.proofs.order.interleaved_place.Goals.{After-from-depth, After-min-size}

first_below : (c : After-from-depth)
    → c.args.i % (c.from-bands.result * c.from-columns.result) / (c.from-depth.result * c.from-columns.result) * c.from-depth.result < c.from-bands.result
first_below c = (interleaved_found _ _ _ _ _ _ _ (omega arith) (omega arith) c.requires.depth.0 c.requires.within
    (c.from-bands.ensures ∙ c.bands.ensures.value) (c.from-columns.ensures ∙ c.columns.ensures.value) c.from-depth.ensures refl).1

pub overflow_mul-first : goal.overflow_mul-first
overflow_mul-first c = omega (arith, first_below c)

pub overflow_sub-bands : goal.overflow_sub-bands
overflow_sub-bands c = omega (arith, first_below c)

abbrev first_of : (c : After-min-size) → ℕ
first_of c = c.args.i % (c.from-bands.result * c.from-columns.result) / (c.from-depth.result * c.from-columns.result) * c.from-depth.result

abbrev in_group_of : (c : After-min-size) → ℕ
in_group_of c = c.args.i % (c.from-bands.result * c.from-columns.result) % (c.from-depth.result * c.from-columns.result)

found_of : (c : After-min-size) → StandsAt c.args.shape (Bi c.args.depth)
    (record {
      z = first_of c + in_group_of c % c.min-size.result;
      y = c.args.i / (c.from-bands.result * c.from-columns.result);
      x = in_group_of c / c.min-size.result;
    }) c.args.i × (first_of c < c.from-bands.result) × (0 < c.min-size.result)
found_of c = interleaved_found _ _ _ _ _ _ _ (omega arith) (omega arith) c.requires.depth.0 c.requires.within
    (c.from-bands.ensures ∙ c.bands.ensures.value) (c.from-columns.ensures ∙ c.columns.ensures.value) c.from-depth.ensures c.min-size.ensures

pub nonzero_rem-result : goal.nonzero_rem-result
nonzero_rem-result c = (found_of (goal.at.nonzero_rem-result c).After-min-size).2

pub overflow_cast-result : goal.overflow_cast-result
overflow_cast-result c = let found = found_of (goal.at.overflow_cast-result c).After-min-size in omega (arith, found.0.place.band)

pub overflow_cast-result-2 : goal.overflow_cast-result-2
overflow_cast-result-2 c = let found = found_of (goal.at.overflow_cast-result-2 c).After-min-size in omega (arith, found.0.place.row)

pub overflow_add-result : goal.overflow_add-result
overflow_add-result c = let found = found_of (goal.at.overflow_add-result c).After-min-size in omega (arith, found.0.place.band)

pub overflow_cast-result-3 : goal.overflow_cast-result-3
overflow_cast-result-3 c = let found = found_of (goal.at.overflow_cast-result-3 c).After-min-size in omega (arith, found.0.place.column)

pub nonzero_div-result-2 : goal.nonzero_div-result-2
nonzero_div-result-2 c = (found_of (goal.at.nonzero_div-result-2 c).After-min-size).2

pub returns-clause-place : goal.returns-clause-place
returns-clause-place c = (found_of (goal.at.returns-clause-place c).After-min-size).0.place

pub returns-clause-index : goal.returns-clause-index
returns-clause-index c = (found_of (goal.at.returns-clause-index c).After-min-size).0.index
