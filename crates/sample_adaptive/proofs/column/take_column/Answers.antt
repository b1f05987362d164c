use Rattle.std.proofs.Common.{◌≡◌, ◌+◌, refl, sym, eq-eqb, arith}
use Rattle.std.proofs.lemmas.Bool.{ne_eqb}
use Rattle.sample_adaptive.specs.BandStates.{statistics_of}
use Rattle.sample_adaptive.proofs.PlacesRead.{ends}
use Rattle.sample_adaptive.proofs.Running.{after_first}
use Rattle.sample_adaptive.proofs.Tracking.{settings_stay}
use Rattle.sample_adaptive.proofs.column.take_column.Goals as goal

pub returns-then-t-eq0-clause-taken : goal.returns-then-t-eq0-clause-taken
returns-then-t-eq0-clause-taken c = λ v same settings.
    c.take_each.ensures.taken v c.args.z c.args.t 0 (omega arith) (sym (eq-eqb c.args.t 0 c.if-t-eq0.true)) same settings

pub returns-then-done-residuals-clause-taken : goal.returns-then-done-residuals-clause-taken
returns-then-done-residuals-clause-taken c = λ v same settings.
    ends (c.take_ready-done.ensures.taken v c.args.t (omega (arith, c.if-t-eq0.false)) same settings) (omega (arith, c.if-done-residuals.true))

-- the rest is taken after them
pub returns-clause-taken : goal.returns-clause-taken
returns-clause-taken c = λ v same settings.
    let e = c.take_ready-done.ensures in
    let first : 0 + c.take_ready-done.result ≡ c.take_ready-done.result = omega arith in
    let later = sym (ne_eqb c.args.t 0 c.if-t-eq0.false) in
    let rest = c.take_each-2.ensures.taken (record v { bands = statistics_of c.take_ready-done.new.bands }) c.args.z c.args.t c.take_ready-done.result refl
    later refl (settings_stay settings) in
    rw (after_first c.take_ready-done.new.residuals c.take_each-2.new.residuals c.take_ready-done.result e.within c.take_each-2.ensures.long)
    ((e.taken v c.args.t (omega (arith, c.if-t-eq0.false)) same settings).append _ _ _ _ (rw first rest))
