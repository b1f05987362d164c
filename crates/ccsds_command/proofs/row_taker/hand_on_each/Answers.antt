use Rattle.std.proofs.Common.{◌≡◌, ◌*◌, ◌++◌, ℕ, List, length, take, refl, ◌∙◌, subst, arith, inr}
use Rattle.raw_rows.specs.OneRow.{rows_of_raw}
use Rattle.raw_streams.specs.Rows.{row_bytes, samples_in_row}
use Rattle.file_encoding.proofs.FoundRows.{all_in_range}
use Rattle.ccsds_command.specs.ByRows.{AreOfRows}
use Rattle.ccsds_command.proofs.HandingOn.{all_lines, line_end, line_of, line_small, lines_next, no_lines, no_samples, samples_next, single_bad, single_row, single_small, taken_row}
use Rattle.ccsds_command.proofs.Rows.{row_handed}
use Rattle.ccsds_command.proofs.row_taker.hand_on_each.Goals as goal

pub loop-i-init : goal.loop-i-init
loop-i-init c = record {
  row = c.requires.row;
  under = c.requires.under_way;
  at = omega arith;
  samples = c.requires.samples;
  known = no_samples c.args.settings.now.params.kind c.args.settings.now.layout
      (take (0 * row_bytes c.args.settings.now.params.shape c.args.settings.now.layout) c.args.bytes.now)
      (samples_in_row c.args.settings.now.params.shape c.args.settings.now.layout);
  handed = no_lines c.args.settings.now c.args.encoder.now (row_bytes c.args.settings.now.params.shape c.args.settings.now.layout) c.args.bytes.now;
}

pub row-requires-clause-range : goal.row-requires-clause-range
row-requires-clause-range c = all_in_range (rows_of_raw c.args.settings.now.layout.order c.args.settings.now.params.shape)
    c.args.settings.now.params.kind c.args.settings.now.layout c.in-Ok.taken _ c.take_row.new.samples
    (taken_row (rows_of_raw c.args.settings.now.layout.order c.args.settings.now.params.shape) c.args.settings.now.params.kind c.args.settings.now.layout
    c.loop-i.row c.in-Ok.taken _ c.take_row.new.samples c.loop-i.invariant.row.0 c.loop-i.invariant.row.1
    (c.in-Ok.ensures.long ∙ c.loop-i.invariant.samples) c.in-Ok.ensures.row)

pub overflow_mul-line-in-loop-i : goal.overflow_mul-line-in-loop-i
overflow_mul-line-in-loop-i c = omega (
  arith,
  line_small c.args.settings.now.params.shape c.args.settings.now.layout c.args.encoder.now.y c.loop-i.i
      c.args.count (length c.args.samples.now) c.requires.under_way.lawful.sizes c.requires.layout c.requires.inside c.loop-i-test.true c.requires.samples,
)

pub slice_bounds-line-end : goal.slice_bounds-line-end
slice_bounds-line-end c = line_end c.args.settings.now.params.shape c.args.settings.now.layout c.loop-i.i c.args.count (length c.args.samples.now)
    c.args.bytes.now c.loop-i-test.true c.requires.samples c.requires.bytes

pub overflow_mul-index : goal.overflow_mul-index
overflow_mul-index c = omega (
  arith,
  single_small c.args.settings.now c.loop-i.row c.loop-i.i c.args.count (length c.args.samples.now) c.args.bytes.now
      c.loop-i.invariant.row.0 c.loop-i.invariant.row.1 c.requires.samples c.loop-i-test.true c.requires.bytes c.loop-i.invariant.known
      c.args.encoder.now.y c.in-Err.index c.requires.under_way.lawful.sizes c.requires.layout c.requires.inside c.in-Err.ensures.bad,
)

pub overflow_add-index : goal.overflow_add-index
overflow_add-index c = omega (
  arith,
  single_small c.args.settings.now c.loop-i.row c.loop-i.i c.args.count (length c.args.samples.now) c.args.bytes.now
      c.loop-i.invariant.row.0 c.loop-i.invariant.row.1 c.requires.samples c.loop-i-test.true c.requires.bytes c.loop-i.invariant.known
      c.args.encoder.now.y c.in-Err.index c.requires.under_way.lawful.sizes c.requires.layout c.requires.inside c.in-Err.ensures.bad,
)

pub returns-in-Err-clause-refused : goal.returns-in-Err-clause-refused
returns-in-Err-clause-refused c = inr (single_bad c.args.settings.now c.loop-i.row c.loop-i.i c.args.count (length c.args.samples.now)
    c.args.bytes.now c.loop-i.invariant.row.0 c.loop-i.invariant.row.1 c.requires.samples c.loop-i-test.true c.requires.bytes c.loop-i.invariant.known
    c.in-Err.index c.in-Err.ensures.bad)

pub loop-i-preserved : goal.loop-i-preserved
loop-i-preserved c =
    let whole = c.in-Ok.ensures.long ∙ c.loop-i.invariant.samples in
    let row = single_row c.args.settings.now c.loop-i.row c.loop-i.i c.args.count (length c.args.samples.now) c.args.bytes.now c.loop-i.invariant.row.0
    c.loop-i.invariant.row.1 c.requires.samples c.loop-i-test.true c.requires.bytes c.loop-i.invariant.known c.in-Ok.taken c.take_row.new.samples whole
    c.in-Ok.ensures.row in
    record {
      row = (c.in-Ok.ensures.row.1 ∙ c.loop-i.invariant.row.0, c.in-Ok.ensures.row.2 ∙ c.loop-i.invariant.row.1);
      under = c.in_ok-row-in-Ok.ensures.under_way;
      at = omega (arith, c.in_ok-row-in-Ok.ensures.handed.1, c.loop-i.invariant.at);
      samples = whole;
      known = samples_next c.args.settings.now.params.kind c.args.settings.now.layout c.loop-i.i c.args.count
          (samples_in_row c.args.settings.now.params.shape c.args.settings.now.layout)
          (row_bytes c.args.settings.now.params.shape c.args.settings.now.layout) c.args.bytes.now c.loop-i-test.true refl c.requires.bytes
          c.loop-i.invariant.known row.known;
      handed = lines_next c.args.settings.now c.args.encoder.now c.loop-i.encoder c.row.new.self c.loop-i.i
          (row_bytes c.args.settings.now.params.shape c.args.settings.now.layout) c.args.bytes.now c.loop-i.invariant.handed
          (λ before found. row_handed c.args.settings.now c.loop-i.encoder c.row.new.self c.in-Ok.taken
          (line_of c.loop-i.i (row_bytes c.args.settings.now.params.shape c.args.settings.now.layout) c.args.bytes.now) c.take_row.new.samples before
          c.requires.layout c.requires.together c.loop-i.invariant.under
          (omega (arith, c.loop-i-test.true, c.loop-i.invariant.at, c.requires.inside)) row c.in_ok-row-in-Ok.ensures.handed.1
          c.in_ok-row-in-Ok.ensures.handed.0 found);
    }

pub returns-clause-handed : goal.returns-clause-handed
returns-clause-handed c =
    let last : c.loop-i.i ≡ c.args.count = omega (arith, c.loop-i-test.false, c.loop-i.auto.i-end) in
    record {
      under_way = c.loop-i.invariant.under;
      y = omega (arith, c.loop-i.invariant.at, last);
      rows = λ before found. subst (λ (xs : List ℕ). AreOfRows c.args.settings.now c.loop-i.encoder (before ++ xs))
          (all_lines c.args.count c.loop-i.i (row_bytes c.args.settings.now.params.shape c.args.settings.now.layout) c.args.bytes.now last c.requires.bytes)
          (c.loop-i.invariant.handed before found);
    }
