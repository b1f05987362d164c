use Rattle.std.proofs.Common.{◌≡◌, ◌+◌, ◌*◌, ◌++◌, ℕ, List, subst, arith}
use Rattle.cube_core.proofs.RawBytes.{image}
use Rattle.raw_rows.specs.OneRow.{one_row, rows_of_raw}
use Rattle.raw_streams.specs.Rows.{row_bytes}
use Rattle.file_encoding.proofs.FoundRows.{all_in_range}
use Rattle.ccsds_command.specs.ByRows.{AreOfRows}
use Rattle.ccsds_command.proofs.HandingOn.{all_lines, joined_line, joined_small, line_of, lines_next, no_lines}
use Rattle.ccsds_command.proofs.Rows.{row_handed}
use Rattle.ccsds_command.proofs.row_taker.hand_on_joined.Goals as goal

pub loop-i-init : goal.loop-i-init
loop-i-init c = record {
  under = c.requires.under_way;
  at = omega arith;
  handed = no_lines c.args.settings.now c.args.encoder.now (row_bytes c.args.settings.now.params.shape c.args.settings.now.layout) c.args.bytes.now;
}

pub overflow_mul-line-in-loop-i : goal.overflow_mul-line-in-loop-i
overflow_mul-line-in-loop-i c = omega (
  arith,
  joined_small c.args.settings.now.params.shape c.args.settings.now.layout c.args.encoder.now.y c.loop-i.i
      c.args.count c.columns-columns.result c.requires.under_way.lawful.sizes c.requires.order c.requires.inside c.loop-i-test.true
      c.columns-columns.ensures.value,
)

pub overflow_mul-line : goal.overflow_mul-line
overflow_mul-line c =
    let next : (c.loop-i.i + 1) * c.columns-columns.result ≡ c.loop-i.i * c.columns-columns.result + c.columns-columns.result = grind arith in
    omega (
      arith,
      next,
      joined_small c.args.settings.now.params.shape c.args.settings.now.layout c.args.encoder.now.y c.loop-i.i c.args.count
          c.columns-columns.result c.requires.under_way.lawful.sizes c.requires.order c.requires.inside c.loop-i-test.true c.columns-columns.ensures.value,
    )

pub offset_bounds-samples-i : goal.offset_bounds-samples-i
offset_bounds-samples-i c =
    let next : (c.loop-i.i + 1) * c.columns-columns.result ≡ c.loop-i.i * c.columns-columns.result + c.columns-columns.result = grind arith in
    omega (
      arith,
      next,
      joined_small c.args.settings.now.params.shape c.args.settings.now.layout c.args.encoder.now.y c.loop-i.i c.args.count
          c.columns-columns.result c.requires.under_way.lawful.sizes c.requires.order c.requires.inside c.loop-i-test.true c.columns-columns.ensures.value,
    )

pub row-requires-clause-range : goal.row-requires-clause-range
row-requires-clause-range c =
    let (most, few, joined) = c.requires.row in
    all_in_range (rows_of_raw c.args.settings.now.layout.order c.args.settings.now.params.shape) c.args.settings.now.params.kind
    c.args.settings.now.layout _ _ _ (joined_line c.args.settings.now c.args.row c.in_ok-row.row most c.loop-i.i c.args.count c.columns-columns.result
    c.args.bytes.now c.row-samples.result.now c.requires.layout c.requires.order c.requires.under_way.lawful.sizes joined few
    c.columns-columns.ensures.value c.in_ok-row.ensures.row c.row-samples.ensures.samples c.row-samples.ensures.len c.loop-i-test.true)

pub loop-i-preserved : goal.loop-i-preserved
loop-i-preserved c =
    let (most, few, joined) = c.requires.row in
    let row = joined_line c.args.settings.now c.args.row c.in_ok-row.row most c.loop-i.i c.args.count c.columns-columns.result
    c.args.bytes.now c.row-samples.result.now c.requires.layout c.requires.order c.requires.under_way.lawful.sizes joined few
    c.columns-columns.ensures.value c.in_ok-row.ensures.row c.row-samples.ensures.samples c.row-samples.ensures.len c.loop-i-test.true in
    record {
      under = c.in_ok-row-2.ensures.under_way;
      at = omega (arith, c.in_ok-row-2.ensures.handed.1, c.loop-i.invariant.at);
      handed = lines_next c.args.settings.now c.args.encoder.now c.loop-i.encoder c.row-in-loop-i.new.self c.loop-i.i
          (row_bytes c.args.settings.now.params.shape c.args.settings.now.layout) c.args.bytes.now c.loop-i.invariant.handed
          (λ before found. row_handed c.args.settings.now c.loop-i.encoder c.row-in-loop-i.new.self
          (image (one_row (rows_of_raw c.args.settings.now.layout.order c.args.settings.now.params.shape)) c.args.settings.now.params.kind
          (line_of c.loop-i.i c.columns-columns.result c.row-samples.result.now))
          (line_of c.loop-i.i (row_bytes c.args.settings.now.params.shape c.args.settings.now.layout) c.args.bytes.now)
          (line_of c.loop-i.i c.columns-columns.result c.row-samples.result.now) before c.requires.layout c.requires.together c.loop-i.invariant.under
          (omega (arith, c.loop-i-test.true, c.loop-i.invariant.at, c.requires.inside)) row c.in_ok-row-2.ensures.handed.1
          c.in_ok-row-2.ensures.handed.0 found);
    }

pub returns-clause-handed : goal.returns-clause-handed
returns-clause-handed c =
    let last : c.loop-i.i ≡ c.args.count = omega (arith, c.loop-i-test.false, c.loop-i.auto.i-end) in
    record {
      under_way = c.loop-i.invariant.under;
      y = omega (arith, c.loop-i.invariant.at, last);
      rows = λ before found. subst (λ (xs : List ℕ). AreOfRows c.args.settings.now c.loop-i.encoder (before ++ xs))
          (all_lines c.args.count c.loop-i.i (row_bytes c.args.settings.now.params.shape c.args.settings.now.layout) c.args.bytes.now last c.requires.bytes)
          (c.loop-i.invariant.handed before found);
    }
