use Rattle.std.proofs.Common.{◌≡◌, ◌*◌, ◌+◌, length, ap₂, refl, inl, inr, arith}
use Rattle.ccsds123.specs.Scenes.{row_bytes}
use Rattle.ccsds123.proofs.SceneRows.{are_more, few_come, no_more}
use Rattle.ccsds123.proofs.scene.SceneEncoder.test_rows.Goals as goal
use Rattle.ccsds123.proofs.scene.SceneEncoder.test_rows.Goals.{else-raw-row-eq0-via-then-raw-row-eq0+else-had-wanted, else-raw-row-eq0-via-else-raw-row-eq0}

pub returns-then-had-wanted-clause-passed : goal.returns-then-had-wanted-clause-passed
returns-then-had-wanted-clause-passed c =
    let row : c.row_samples.result * c.from.result ≡ row_bytes c.args.self.now.params c.args.self.now.layout = ap₂ (λ a b. a * b) c.row_samples.ensures.value c.from.ensures in
    are_more c.args.self.now c.args.raw.now (c.row_samples.result * c.from.result) c.length-wanted.result
    (c.args.self.now.rows * (c.row_samples.result * c.from.result) + length c.args.raw.now) c.requires row c.length-wanted.ensures refl
    c.if-raw-row-eq0.true c.if-had-wanted.true

pub returns-else-raw-row-eq0-clause-refused : goal.returns-else-raw-row-eq0-clause-refused
returns-else-raw-row-eq0-clause-refused c =
    let row : c.row_samples.result * c.from.result ≡ row_bytes c.args.self.now.params c.args.self.now.layout = ap₂ (λ a b. a * b) c.row_samples.ensures.value c.from.ensures in
    no_more c.args.self.now c.args.raw.now (c.row_samples.result * c.from.result) c.length-wanted.result _ c.requires row c.length-wanted.ensures
    refl (elim c.else-raw-row-eq0.branch [
      | else-raw-row-eq0-via-then-raw-row-eq0+else-had-wanted w ↦ inr (omega (arith, w.if-had-wanted.false))
      | else-raw-row-eq0-via-else-raw-row-eq0 w ↦ inl w.if-raw-row-eq0.false
    ])

pub overflow_mul-had : goal.overflow_mul-had
overflow_mul-had c =
    let row : c.row_samples.result * c.from.result ≡ row_bytes c.args.self.now.params c.args.self.now.layout = ap₂ (λ a b. a * b) c.row_samples.ensures.value c.from.ensures in
    omega (arith, few_come c.args.self.now (c.row_samples.result * c.from.result) c.requires row)

pub overflow_add-had : goal.overflow_add-had
overflow_add-had c =
    let row : c.row_samples.result * c.from.result ≡ row_bytes c.args.self.now.params c.args.self.now.layout = ap₂ (λ a b. a * b) c.row_samples.ensures.value c.from.ensures in
    omega (arith, few_come c.args.self.now (c.row_samples.result * c.from.result) c.requires row)
