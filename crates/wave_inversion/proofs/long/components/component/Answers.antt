use Rattle.std.proofs.Common.{◌≡◌, ◌∙◌, ◌<◌, ◌-◌, ◌+◌, ℕ, ap, pos, replicate}
use Rattle.std.proofs.lemmas.List.{get_or-replicate}
use Rattle.lanes.specs.Lanes.{lane}
use Rattle.wave_inversion.specs.Wave.{lagged_in, long_lower_of}
use Rattle.wave_inversion.proofs.WaveParts.{component_direction, component_lagged, component_none}
use Rattle.wave_inversion.proofs.long.components.component.Goals as goal

pub returns-then-index-first : goal.returns-then-index-first
returns-then-index-first g c b l =
    component_direction c.args.reduced c.args.previous c.args.directions.now (long_lower_of c.args.lower.now) c.args.own.now c.args.k c.args.index b
    (rw c.first_spectral-first.ensures.value at c.if-index-first.true)

pub returns-then-index-first-2 : goal.returns-then-index-first-2
returns-then-index-first-2 g c b l =
    let from = rw c.first_spectral-first.ensures.value at c.if-index-first.false in
    c.lagged.ensures b l
    ∙ ap (λ n. lagged_in (long_lower_of c.args.lower.now) c.args.own.now c.args.k (c.args.index - n + 1) b) c.first_spectral-first.ensures.value
    ∙ component_lagged c.args.reduced c.args.previous c.args.directions.now (long_lower_of c.args.lower.now) c.args.own.now c.args.k c.args.index b from
    (rw c.first_spectral-first.ensures.value at c.if-index-first-2.true)

none : (b : ℕ) → b < 8 → lane (replicate 8 (pos 0)) b ≡ pos 0
none b l = get_or-replicate 8 b (pos 0) (pos 0) l

pub returns-else-index-first-2 : goal.returns-else-index-first-2
returns-else-index-first-2 g c b l =
    none b l
    ∙ component_none c.args.reduced c.args.previous c.args.directions.now (long_lower_of c.args.lower.now) c.args.own.now c.args.k c.args.index b
    (rw c.first_spectral-first.ensures.value at c.if-index-first.false) (rw c.first_spectral-first.ensures.value at c.if-index-first-2.false)
