use Rattle.std.proofs.Common.{◌≡◌, ◌*◌, ap₂, arith, rules, replicate, ◌∙◌}
use Rattle.sample_prediction.specs.HandedRows.{row_size}
use Rattle.file_encoding.proofs.Encoding.{own_all}
use Rattle.file_encoding.proofs.KeptPlanes.{zero_row}
use Rattle.file_encoding.proofs.encode.send_copied.Goals as goal

pub send_copied_lines-requires-clause-present : goal.send_copied_lines-requires-clause-present
send_copied_lines-requires-clause-present c =
    let size = c.bands.result * c.columns.result in
    let long : size ≡ row_size c.args.params.now.shape = ap₂ (λ a b. a * b) c.bands.ensures.value c.columns.ensures.value in
    let zeros : c.in_ok-present.present.items ≡ replicate size 0 = search (rules, c.in_ok-present.ensures.items_if_clones_equal) in
    zero_row c.args.params.now c.in_ok-present.present.items size zeros (omega (arith, long, c.in_ok-present.ensures.len, c.in_ok-present.present.ok.0))

pub send_copied_lines-requires-clause-above : goal.send_copied_lines-requires-clause-above
send_copied_lines-requires-clause-above c =
    let size = c.bands.result * c.columns.result in
    let long : size ≡ row_size c.args.params.now.shape = ap₂ (λ a b. a * b) c.bands.ensures.value c.columns.ensures.value in
    let zeros : c.in_ok-above.above.items ≡ replicate size 0 = search (rules, c.in_ok-above.ensures.items_if_clones_equal) in
    zero_row c.args.params.now c.in_ok-above.above.items size zeros (omega (arith, long, c.in_ok-above.ensures.len, c.in_ok-above.above.ok.0))

pub send_copied_lines-requires-clause-own : goal.send_copied_lines-requires-clause-own
send_copied_lines-requires-clause-own c = c.requires.bands.own ∙ own_all _
