use Rattle.std.proofs.Common.{◌≡◌, ◌+◌, ◌*◌, length, take}
use Rattle.raw_rows.specs.OneRow.{one_row, rows_of_raw}
use Rattle.ccsds123.specs.Rows.{with_more}
use Rattle.ccsds123.specs.Scenes.{IsOpen, samples_in_row, scene_of}
use Rattle.ccsds123.proofs.scene.SceneEncoder.take_each.Given as goal

abbrev pub invariant-loop-i : goal.invariant-loop-i
invariant-loop-i l = record {
  open' : IsOpen l.self;
  taken : scene_of l.self ≡ with_more (scene_of l.fn.self) (take (l.i * l.size) l.raw);
  rows : l.self.rows ≡ l.fn.self.rows + l.i;
  row : (l.row.shape ≡ one_row (rows_of_raw l.fn.self.layout.order l.fn.self.params.shape)) × (l.row.kind ≡ l.fn.self.params.kind);
  long : length l.samples ≡ samples_in_row l.fn.self.params l.fn.self.layout;
}
