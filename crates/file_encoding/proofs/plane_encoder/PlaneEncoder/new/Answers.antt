use Rattle.std.proofs.Common.{◌≡◌, ◌*◌, length, min, refl, ap₂, arith, rules, replicate}
use Rattle.sample_prediction.specs.HandedRows.{row_size}
use Rattle.file_encoding.specs.ByPlanes.{IsRow, most_at_once, most_previous, plane_size}
use Rattle.file_encoding.proofs.KeptPlanes.{zero_row}
use Rattle.file_encoding.proofs.PlaneRows.{start_planes}
use Rattle.file_encoding.proofs.plane_encoder.PlaneEncoder.new.Goals as goal

pub returns-clause-under_way : goal.returns-clause-under_way
returns-clause-under_way c =
    let p = c.args.params.now in
    let made = c.in_ok-bands.ensures in
    let row = ap₂ (λ a b. a * b) c.bands-all.ensures.value c.columns.ensures.value in
    let plane : c.rows.result * c.columns-2.result ≡ plane_size p.shape = ap₂ (λ a b. a * b) c.rows.ensures.value c.columns-2.ensures.value in
    let before : c.min-before.result ≡ most_previous p = omega (arith, c.min-before.ensures, c.bands-all.ensures.value) in
    let bands : c.min.result ≡ min most_at_once p.shape.bands = omega (arith, c.min.ensures, c.bands-all.ensures.value) in
    let most : c.min-before.result * (c.rows.result * c.columns-2.result) ≡ most_previous p * plane_size p.shape = ap₂ (λ a b. a * b) before plane in
    let group : c.min.result * (c.rows.result * c.columns-2.result) ≡ min most_at_once p.shape.bands * plane_size p.shape = ap₂ (λ a b. a * b) bands plane in
    let previous : length c.in_ok-previous.previous.items ≡ most_previous p * plane_size p.shape =
    omega (arith, most, c.in_ok-previous.ensures.len, c.in_ok-previous.previous.ok.0) in
    let room : length c.in_ok-planes.planes.items ≡ min most_at_once p.shape.bands * plane_size p.shape =
    omega (arith, group, c.in_ok-planes.ensures.len, c.in_ok-planes.planes.ok.0) in
    let row_long : c.bands-all.result * c.columns.result ≡ row_size p.shape = row in
    let present_zeros : c.in_ok-present.present.items ≡ replicate (c.bands-all.result * c.columns.result) 0 = search (rules, c.in_ok-present.ensures.items_if_clones_equal) in
    let above_zeros : c.in_ok-above.above.items ≡ replicate (c.bands-all.result * c.columns.result) 0 = search (rules, c.in_ok-above.ensures.items_if_clones_equal) in
    let present_long : length c.in_ok-present.present.items ≡ row_size p.shape = omega (arith, row_long, c.in_ok-present.ensures.len, c.in_ok-present.present.ok.0) in
    let above_long : length c.in_ok-above.above.items ≡ row_size p.shape = omega (arith, row_long, c.in_ok-above.ensures.len, c.in_ok-above.above.ok.0) in
    let present : IsRow p c.in_ok-present.present.items = zero_row p c.in_ok-present.present.items (c.bands-all.result * c.columns.result) present_zeros present_long in
    let above : IsRow p c.in_ok-above.above.items = zero_row p c.in_ok-above.above.items (c.bands-all.result * c.columns.result) above_zeros above_long in
    start_planes _ _ c.requires.lawful c.requires.order refl c.none.ensures refl room (omega (arith, previous)) present above (omega (arith, made.len, c.in_ok-bands.bands.ok.0))
    made.along made.first c.in_ok-end.ensures.coded
