use Rattle.std.proofs.Common.{◌≡◌, ◌++◌, List, ℕ, ap, ap₂, ◌∙◌, arith}
use Rattle.std.proofs.lemmas.List.{with_items_is}
use Rattle.std.specs.Vec.{with_items}
use Rattle.header_bits.specs.declared.params.Params.{Params}
use Rattle.sample_prediction.specs.HandedRows.{image_of_rows}
use Rattle.file_encoding.specs.Walks.{bands_of}
use Rattle.file_encoding.specs.ByLines.{LineEncoderState, image_by_lines}
use Rattle.file_encoding.proofs.LineSteps.{at_given, image_given, may_given, next_under, own_given, row_given}
use Rattle.file_encoding.proofs.line_encoder.LineEncoder.row.Goals as goal
use Rattle.file_encoding.proofs.line_encoder.LineEncoder.row.Goals.{After-send_all_bands-arg-1, then-self-eq0, else-self-eq0}

module _ (c : After-send_all_bands-arg-1) where
  abbrev p : Params
  p = c.args.params.now

  abbrev e : LineEncoderState
  e = c.args.self.now

  abbrev all : List ℕ
  all = e.offsets ++ c.args.samples.now

  y_is : c.if-self-eq0.self-inside.y ≡ e.y
  y_is =
      elim c.if-self-eq0.branch [
        | then-self-eq0 w ↦ ap (λ i. i.y) w.self-inside-is
        | else-self-eq0 w ↦ ap (λ i. i.y) w.self-inside-is
      ] ∙ ap (λ (s : LineEncoderState). s.y) c.self.view_is

  offsets_are : c.if-self-eq0.self-inside.handed.offsets ≡ all
  offsets_are =
      elim c.if-self-eq0.branch [
        | then-self-eq0 w ↦ ap (λ i. i.handed.offsets) w.self-inside-is
        | else-self-eq0 w ↦ ap (λ i. i.handed.offsets) w.self-inside-is
      ] ∙ c.and-self-inside.ensures ∙ ap (λ (s : LineEncoderState). s.offsets ++ c.args.samples.now) c.self.view_is

  end_is : c.if-self-eq0.self-inside.end ≡ e.end
  end_is =
      elim c.if-self-eq0.branch [
        | then-self-eq0 w ↦ ap (λ i. i.end) w.self-inside-is
        | else-self-eq0 w ↦ ap (λ i. i.end) w.self-inside-is
      ] ∙ ap (λ (s : LineEncoderState). s.end) c.self.view_is

  bands_are : c.if-self-eq0.self-inside.bands.items ≡ e.bands
  bands_are =
      elim c.if-self-eq0.branch [
        | then-self-eq0 w ↦ ap (λ i. i.bands.items) w.self-inside-is
        | else-self-eq0 w ↦ ap (λ i. i.bands.items) w.self-inside-is
      ] ∙ ap (λ (s : LineEncoderState). s.bands) c.self.view_is

  lent_are : c.deref_mut.result.now ≡ e.bands
  lent_are = c.deref_mut.ensures.value ∙ bands_are

  rows_are : c.of_last-rows.result ≡ record { image = image_by_lines p all; y = e.y }
  rows_are = c.of_last-rows.ensures ∙ ap₂ (λ offsets y. record { image = image_of_rows p.shape p.kind offsets; y = y }) offsets_are y_is

pub send_all_bands-requires-clause-image : goal.send_all_bands-requires-clause-image
send_all_bands-requires-clause-image c = image_given _ _ _ c.requires.under_way c.requires.more c.requires.size c.requires.range _ (rows_are c)

pub send_all_bands-requires-clause-row : goal.send_all_bands-requires-clause-row
send_all_bands-requires-clause-row c = row_given _ _ _ c.requires.under_way c.requires.more c.requires.size c.requires.range _ (rows_are c)

pub send_all_bands-requires-clause-own : goal.send_all_bands-requires-clause-own
send_all_bands-requires-clause-own c =
    own_given _ _ _ c.requires.under_way c.requires.more c.requires.size c.requires.range _ (rows_are c) _ (lent_are c)

pub send_all_bands-requires-clause-at : goal.send_all_bands-requires-clause-at
send_all_bands-requires-clause-at c =
    at_given _ _ _ c.requires.under_way c.requires.more c.requires.size c.requires.range _ (rows_are c) _ (lent_are c)

pub send_all_bands-requires-clause-may : goal.send_all_bands-requires-clause-may
send_all_bands-requires-clause-may c =
    may_given _ _ _ c.requires.under_way c.requires.more c.requires.size c.requires.range _ (rows_are c) _ _ (end_is c) c.in-Bi.is

pub returns-clause-under_way : goal.returns-clause-under_way
returns-clause-under_way c =
    let d = (goal.at.returns-clause-under_way c).After-send_all_bands-arg-1 in
    let kept : (with_items c.if-self-eq0.self-inside.bands c.send_all_bands.new.bands).items ≡ c.send_all_bands.new.bands =
    with_items_is c.if-self-eq0.self-inside.bands c.send_all_bands.new.bands (omega (arith, c.send_all_bands.auto.bands, c.deref_mut.ensures.len)) in
    next_under _ _ _ c.requires.under_way c.requires.more c.requires.size c.requires.range _ (rows_are d) _ _ _ (end_is d) c.in-Bi.is
    (omega (arith, y_is d)) (offsets_are d) c.copy_from_slice-2.ensures.items (ap bands_of kept ∙ c.send_all_bands.ensures.same ∙ ap bands_of (lent_are d))
    (rw kept (c.send_all_bands.ensures.at c.if-not-send_all_bands.false)) (c.send_all_bands.ensures.sent c.if-not-send_all_bands.false)
