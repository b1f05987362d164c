use Rattle.std.proofs.Common.{◌∙◌, ap, map, to_z, of_z, w16, w32, rules}
use Rattle.lanes.proofs.Numbers.{held_fits}
use Rattle.lanes.proofs.Ranges.{vector, fits_by}
use Rattle.lanes.proofs.Steps.{kept}
use Rattle.lanes.specs.Lanes.{lane, held}
use Rattle.lanes.proofs.widths.hold.Goals as goal

pub narrowed-requires : goal.narrowed-requires
narrowed-requires g c = (
  search rules,
  (
    search rules,
    λ k within.
        let r = vector w32 g.row.N c.limited.result _ c.limited.type_inv in
        fits_by w16 _ _ (kept w32 c.limited.result k r.1 ∙ c.limited.ensures k within) (held_fits (lane (map (to_z w32) (map (of_z w32) c.args.a)) k)),
  ),
)

pub returns : goal.returns
returns g c k within =
    let a = vector w32 g.row.N c.args.a _ c.well_formed.0 in
    let r = vector w32 g.row.N c.limited.result _ c.limited.type_inv in
    let s = vector w16 g.row.N c.narrowed.result _ c.narrowed.type_inv in
    kept w16 c.narrowed.result k s.1 ∙ c.narrowed.ensures k within ∙ kept w32 c.limited.result k r.1 ∙ c.limited.ensures k within
    ∙ ap held (kept w32 c.args.a k a.1)
