use Rattle.std.proofs.Common.{◌∙◌, ◌*◌, ◌/◌, ℕ, inl, inr, ap, arith}
use Rattle.file_decoding.proofs.Tiling.{is_tiled}
use Rattle.file_decoding.proofs.tile.Tile.at.Goals as goal
use Rattle.file_decoding.proofs.tile.Tile.at.Goals.{then-place-first, else-place-first}

pub returns-clause-tile : goal.returns-clause-tile
returns-clause-tile c =
    let bands = rw (c.most_bands-depth.ensures, c.bands.ensures.value) at c.min-end.ensures in
    let many = c.columns.ensures.value in
    let place = c.requires.place in
    elim c.if-place-first.branch [
      | then-place-first w ↦
          (let start = w.if-place-first.true ∙ ap (λ (d : ℕ). c.args.place.z / d * d) c.most_bands-depth.ensures in
          let min = w.min.ensures in
          let is = w.result-is in
          let tiled = is_tiled _ _ _ _ _ c.requires.lawful.order place (omega arith) (omega arith) (omega (arith, bands)) (inr start) in
          record { few = (omega arith, tiled.1); in-order = tiled.0 })
      | else-place-first w ↦
          (let one = w.result-is in
          let tiled = is_tiled _ _ _ _ _ c.requires.lawful.order place (omega arith) (omega arith) (omega (arith, bands)) (inl one) in
          record { few = (omega arith, tiled.1); in-order = tiled.0 })
    ]
