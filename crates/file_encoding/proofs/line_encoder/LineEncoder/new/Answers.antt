use Rattle.std.proofs.Common.{◌≡◌, ◌*◌, length, refl, ap₂, arith}
use Rattle.file_encoding.proofs.LineSteps.{start_under}
use Rattle.file_encoding.proofs.line_encoder.LineEncoder.new.Goals as goal

pub returns-clause-under_way : goal.returns-clause-under_way
returns-clause-under_way c =
    let made = c.in_ok-bands.ensures in
    let product = ap₂ (λ a b. a * b) c.bands.ensures.value c.columns.ensures.value in
    let size : length c.in_ok-above.above.items ≡ c.args.params.now.shape.bands * c.args.params.now.shape.columns =
    omega (arith, product, c.in_ok-above.ensures.len, c.in_ok-above.above.ok.0) in
    start_under _ _ c.requires.lawful c.requires.order refl c.none.ensures size (omega (arith, made.len, c.in_ok-bands.bands.ok.0)) made.along made.first
    c.in_ok-end.ensures.coded
