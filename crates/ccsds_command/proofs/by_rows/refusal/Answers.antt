use Rattle.std.proofs.Common.{◌+◌, ◌*◌, ◌<◌, ◌≤◌, ◌^◌, length, length-take, refl, arith, inl, inr}
use Rattle.std.proofs.lemmas.Nat.{mul-le}
use Rattle.cube_core.specs.Layout.{IsFirstBad}
use Rattle.raw_streams.specs.Rows.{row_bytes, samples_in_row}
use Rattle.raw_streams.proofs.Streams.{gave_within}
use Rattle.raw_streams.proofs.RowStreams.{index_small, rest_ends, room_with_rest, rows_fit, sample_is_bad}
use Rattle.ccsds_command.proofs.HandingOn.{first_bad, memory_failed}
use Rattle.ccsds_command.proofs.by_rows.refusal.Goals as goal
use Rattle.ccsds_command.proofs.by_rows.refusal.Goals.{After-row_length, After-row_samples}
use Rattle.ccsds_command.proofs.by_rows.refusal.Given.{Over}

-- one row is among those that came
module _ (g : Over) (c : After-row_length g) where
  row_there : c.row_length.result ≤ length c.args.bytes.now
  row_there =
      let one : 1 * row_bytes c.args.settings.now.params.shape c.args.settings.now.layout ≤ c.args.count * row_bytes c.args.settings.now.params.shape c.args.settings.now.layout =
      mul-le 1 (row_bytes c.args.settings.now.params.shape c.args.settings.now.layout) c.args.count
      (row_bytes c.args.settings.now.params.shape c.args.settings.now.layout) c.requires.some (omega arith) in
      omega (arith, one, c.row_length.ensures.value, c.requires.bytes)

pub slice_bounds-one-end : goal.slice_bounds-one-end
slice_bounds-one-end g c = row_there g c

pub slice_bounds-one-end-in-SampleRange : goal.slice_bounds-one-end-in-SampleRange
slice_bounds-one-end-in-SampleRange g c =
    let there = row_there g (goal.at.slice_bounds-one-end-in-SampleRange g c).After-row_length in
    omega (arith, there, length-take c.row_length.result c.args.bytes.now)

pub read_rest-requires-clause-room : goal.read_rest-requires-clause-room
read_rest-requires-clause-room g c =
    let there = row_there g (goal.at.read_rest-requires-clause-room g c).After-row_length in
    omega (arith, there, length-take c.row_length.result c.args.bytes.now, c.row_length.ensures.value)

-- the index of the first bad sample
module _ (g : Over) (c : After-row_samples g) where
  first : IsFirstBad c.args.settings.now.params.kind c.args.settings.now.layout c.args.bytes.now c.in-SampleRange.index
  first = first_bad c.args.settings.now.params.kind c.args.settings.now.layout c.args.bytes.now c.args.fault c.in-SampleRange.index c.requires.fault
      c.in-SampleRange.is

  small : c.args.y * samples_in_row c.args.settings.now.params.shape c.args.settings.now.layout + c.in-SampleRange.index < 2 ^ 64
  small = index_small c.args.settings.now.params.shape c.args.settings.now.layout c.args.y c.args.count c.in-SampleRange.index
      (length c.args.bytes.now) c.row_samples.ensures.sizes c.requires.layout c.requires.inside c.requires.bytes first.there

pub overflow_mul-result : goal.overflow_mul-result
overflow_mul-result g c = rw c.row_samples.ensures.value (omega (arith, small g c))

pub overflow_add-result : goal.overflow_add-result
overflow_add-result g c = rw c.row_samples.ensures.value (omega (arith, small g c))

pub returns-in-Ok-clause-refused : goal.returns-in-Ok-clause-refused
returns-in-Ok-clause-refused g c = λ left gave. inr (sample_is_bad c.args.settings.now.params.shape c.args.settings.now.layout c.args.y c.args.count
    left (g.S.Source.left c.args.source.now) (g.S.Source.left c.read_rest.new.source) c.args.bytes.now (g.S.Source.failures c.args.source.now)
    (g.S.Source.failures c.args.source.now) (g.S.Source.failures c.read_rest.new.source) gave c.requires.bytes refl c.args.settings.now.params.kind
    c.in-SampleRange.index _ c.requires.inside (rw c.row_samples.ensures.value refl) (first g c) c.in-Ok.ensures.given c.in-Ok.ensures.worked)

pub returns-in-Ok-clause-bounded : goal.returns-in-Ok-clause-bounded
returns-in-Ok-clause-bounded g c = λ left gave. room_with_rest c.args.settings.now.params.shape c.args.settings.now.layout c.args.y c.args.count
    left (g.S.Source.left c.args.source.now) (g.S.Source.left c.read_rest.new.source) c.args.bytes.now (g.S.Source.failures c.args.source.now)
    (g.S.Source.failures c.args.source.now) (g.S.Source.failures c.read_rest.new.source) gave c.requires.bytes refl c.requires.inside
    c.in-Ok.ensures.bounded

pub returns-in-Err-clause-refused : goal.returns-in-Err-clause-refused
returns-in-Err-clause-refused g c = λ left gave. inr (inl (rest_ends c.args.settings.now.params.shape c.args.settings.now.layout c.args.y c.args.count
    left (g.S.Source.left c.args.source.now) (g.S.Source.left c.read_rest.new.source) c.args.bytes.now (g.S.Source.failures c.args.source.now)
    (g.S.Source.failures c.args.source.now) (g.S.Source.failures c.read_rest.new.source) gave c.requires.bytes refl _ c.in-Err.ensures.refused))

pub returns-in-Err-clause-bounded : goal.returns-in-Err-clause-bounded
returns-in-Err-clause-bounded g c = λ left gave. room_with_rest c.args.settings.now.params.shape c.args.settings.now.layout c.args.y c.args.count
    left (g.S.Source.left c.args.source.now) (g.S.Source.left c.read_rest.new.source) c.args.bytes.now (g.S.Source.failures c.args.source.now)
    (g.S.Source.failures c.args.source.now) (g.S.Source.failures c.read_rest.new.source) gave c.requires.bytes refl c.requires.inside
    c.in-Err.ensures.bounded

pub returns-in_default : goal.returns-in_default
returns-in_default g c = record {
  refused = λ left gave. inl (memory_failed c.args.settings.now.params.kind c.args.settings.now.layout c.args.bytes.now c.args.fault c.requires.fault
      c.in_default.not-SampleRange);
  told = inr refl;
  bounded = λ left gave. gave_within left (g.S.Source.left c.args.source.now) c.args.bytes.now _ gave
      (rw c.requires.bytes (rows_fit c.args.settings.now.params.shape c.args.settings.now.layout c.args.y c.args.count c.requires.inside));
  long = refl;
}
