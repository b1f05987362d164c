use Rattle.std.proofs.Common.{◌≡◌, ◌+◌, ◌<◌, length, sym, ap, ◌∙◌, arith}
use Rattle.sample_adaptive.specs.Taken.{of_band}
use Rattle.sample_adaptive.specs.declared.band_state.BandState.{BandState}
use Rattle.sample_adaptive.specs.BandStates.{statistics_of}
use Rattle.sample_adaptive.proofs.PlacesRead.{steps}
use Rattle.sample_adaptive.proofs.Tracking.{settings_stay, statistics_at, statistics_count, column_set}
use Rattle.sample_adaptive.proofs.short_column.take_some.Goals as goal

pub returns-then-taken-gt0-clause-taken : goal.returns-then-taken-gt0-clause-taken
returns-then-taken-gt0-clause-taken c = λ v t begun first some settings at was. c.take_few-taken.ensures.taken v t begun first some settings was

pub returns-in_default-clause-taken : goal.returns-in_default-clause-taken
returns-in_default-clause-taken c = λ v t begun first some settings at was.
    let none : c.take_few-taken.result ≡ 0 = omega (arith, c.if-taken-gt0.false) in
    rw none at (c.take_few-taken.ensures.taken v t begun first some settings was)

pub returns-in_default-take_known-clause-taken : goal.returns-in_default-take_known-clause-taken
returns-in_default-take_known-clause-taken c = λ v t begun first some settings at was.
    let none : c.take_few-taken.result ≡ 0 = omega (arith, c.if-taken-gt0.false) in
    rw c.in_default-take_known.ensures.same.0 (rw none at (c.take_few-taken.ensures.taken v t begun first some settings was))

pub returns-clause-taken : goal.returns-clause-taken
returns-clause-taken c = λ v t begun first some settings at was.
    let none : c.args.i + c.take_few-taken.result ≡ c.args.i = omega (arith, c.if-taken-gt0.false) in
    let few = c.take_few-taken.ensures in
    let one = c.in-Ok.ensures in
    let bands = c.take_few-taken.new.bands in
    let lt : c.args.i < length c.take_few-taken.new.residuals = omega (arith, c.requires.within, few.long) in
    let inside : c.args.z + c.args.i < length bands = omega (arith, few.bands, c.requires.within, c.requires.inside) in
    let here : c.args.z + c.args.i ≡ c.args.z + (0 + c.args.i) = omega arith in
    let own = ap (of_band (statistics_of bands)) (sym here) ∙ statistics_at bands _ inside ∙ ap (λ (k : BandState). k.statistics) (sym c.get-band.ensures) in
    rw c.set.ensures (steps (rw none at (few.taken v t begun first some settings was)) (omega (arith, inside, statistics_count bands)) lt
    (rw at at (one.reads (record v { bands = statistics_of bands }) _ t some (settings_stay settings) own)) one.count
    (one.counts (record v { bands = statistics_of bands }) _ t some (settings_stay settings) own ∙ column_set v bands _ here))
