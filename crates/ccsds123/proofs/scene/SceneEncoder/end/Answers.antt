use Rattle.std.proofs.Common.{◌≡◌, ◌*◌, ap₂, sym, ◌∙◌, refl, subst, arith}
use Rattle.ccsds123.specs.Scenes.{IsAtStage, row_bytes}
use Rattle.ccsds123.proofs.NextRow.{file_stage, rows_together, written_for, written_stage}
use Rattle.ccsds123.proofs.SceneRows.{few_come, is_short}
use Rattle.ccsds123.proofs.scene.SceneEncoder.end.Goals as goal

pub returns-then-self-row_count-clause-refused : goal.returns-then-self-row_count-clause-refused
returns-then-self-row_count-clause-refused c =
    let row : c.row_samples.result * c.from.result ≡ row_bytes c.args.self.now.params c.args.self.now.layout = ap₂ (λ a b. a * b) c.row_samples.ensures.value c.from.ensures in
    is_short c.args.self.now c.length.result _ (c.row_samples.result * c.from.result) c.requires (λ all. c.if-self-row_count.true (all ∙ sym c.row_count.ensures.value))
    c.length.ensures row refl

pub returns-clause-open : goal.returns-clause-open
returns-clause-open c =
    let s = c.args.self.now in
    let all = c.if-self-row_count.false ∙ c.row_count.ensures.value ∙ rows_together s c.requires in
    let written = written_stage s.params s.handed.offsets s.rows c.replace-stage.result c.in_ok-self.field-0 all
    (subst (IsAtStage s.params s.handed.offsets s.rows) (sym c.replace-stage.ensures.value) c.requires.stage)
    (c.in_ok-self.ensures.written s.params s.handed.offsets) in
    let open' = c.requires in
    record {
      lawful = open'.lawful;
      layout = open'.layout;
      together = open'.together;
      few = open'.few;
      size = open'.size;
      range = open'.range;
      found = open'.found;
      stage = file_stage s.params s.handed.offsets s.rows c.in_ok-self.field-0 all written;
    }

pub returns-clause-written : goal.returns-clause-written
returns-clause-written c =
    let s = c.args.self.now in
    let all = c.if-self-row_count.false ∙ c.row_count.ensures.value in
    let written = written_stage s.params s.handed.offsets s.rows c.replace-stage.result c.in_ok-self.field-0 (all ∙ rows_together s c.requires)
    (subst (IsAtStage s.params s.handed.offsets s.rows) (sym c.replace-stage.ensures.value) c.requires.stage)
    (c.in_ok-self.ensures.written s.params s.handed.offsets) in
    written_for s c.in_ok-self.field-0 c.requires all written

pub overflow_mul-result : goal.overflow_mul-result
overflow_mul-result c =
    let row : c.row_samples.result * c.from.result ≡ row_bytes c.args.self.now.params c.args.self.now.layout = ap₂ (λ a b. a * b) c.row_samples.ensures.value c.from.ensures in
    omega (arith, few_come c.args.self.now (c.row_samples.result * c.from.result) c.requires row)
