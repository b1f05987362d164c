use Rattle.std.proofs.Common.{refl, ◌∙◌, arith}
use Rattle.file_encoding.proofs.FoundRows.{IsRow, all_in_range, row_is}
use Rattle.raw_rows.specs.OneRow.{rows_of_raw}
use Rattle.ccsds123.proofs.NextRow.{open_next, scene_next}
use Rattle.ccsds123.proofs.SceneRows.{bad_in_scene, index_small}
use Rattle.ccsds123.proofs.scene.SceneEncoder.take_row.Goals as goal

pub put_row-requires-clause-range : goal.put_row-requires-clause-range
put_row-requires-clause-range c =
    all_in_range (rows_of_raw c.args.self.now.layout.order c.args.self.now.params.shape) c.args.self.now.params.kind c.args.self.now.layout c.in-Ok.row
    c.args.bytes.now c.take_row.new.samples (row_is _ c.args.self.now.params.kind _ _ c.in-Ok.row c.args.bytes.now c.take_row.new.samples c.requires.row.1
    (c.in-Ok.ensures.long ∙ c.requires.samples) (rw c.requires.row.0 at c.in-Ok.ensures.row))

pub returns-in_ok-put_row-in-Ok-clause-open : goal.returns-in_ok-put_row-in-Ok-clause-open
returns-in_ok-put_row-in-Ok-clause-open c =
    let done = c.in_ok-put_row-in-Ok.ensures in
    open_next c.args.self.now c.put_row.new.self c.args.bytes.now c.take_row.new.samples c.requires.open c.requires.more
    (record { params = done.same.0; layout = done.same.1; rows = done.put.0; offsets = done.put.1; stage = done.stage }) c.in-Ok.row
    (row_is _ c.args.self.now.params.kind _ _ c.in-Ok.row c.args.bytes.now c.take_row.new.samples c.requires.row.1
    (c.in-Ok.ensures.long ∙ c.requires.samples) (rw c.requires.row.0 at c.in-Ok.ensures.row))

pub returns-in_ok-put_row-in-Ok-clause-taken : goal.returns-in_ok-put_row-in-Ok-clause-taken
returns-in_ok-put_row-in-Ok-clause-taken c =
    let done = c.in_ok-put_row-in-Ok.ensures in (
      scene_next c.args.self.now c.put_row.new.self c.args.bytes.now c.take_row.new.samples c.requires.open c.requires.more
          (record { params = done.same.0; layout = done.same.1; rows = done.put.0; offsets = done.put.1; stage = done.stage }) c.in-Ok.row
          (row_is _ c.args.self.now.params.kind _ _ c.in-Ok.row c.args.bytes.now c.take_row.new.samples c.requires.row.1
          (c.in-Ok.ensures.long ∙ c.requires.samples) (rw c.requires.row.0 at c.in-Ok.ensures.row)),
      done.put.0,
    )

pub returns-in-Err-clause-refused : goal.returns-in-Err-clause-refused
returns-in-Err-clause-refused c = bad_in_scene c.args.self.now c.args.bytes.now c.in-Err.index _ c.requires.open
    (rw (c.row_samples.ensures.value) refl) (rw c.requires.row.1 at c.in-Err.ensures.bad)

pub overflow_add-result : goal.overflow_add-result
overflow_add-result c = omega (
  arith,
  index_small c.args.self.now c.args.bytes.now c.in-Err.index c.row_samples.result c.requires.open c.requires.more c.row_samples.ensures.value c.requires.bytes
      c.in-Err.ensures.bad.there,
)

pub overflow_mul-result : goal.overflow_mul-result
overflow_mul-result c = omega (
  arith,
  index_small c.args.self.now c.args.bytes.now c.in-Err.index c.row_samples.result c.requires.open c.requires.more c.row_samples.ensures.value c.requires.bytes
      c.in-Err.ensures.bad.there,
)
