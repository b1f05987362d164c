use Rattle.std.proofs.Common.{◌≡◌, ◌*◌, ℕ, length, ap, ◌∙◌, arith}
use Rattle.std.proofs.lemmas.Result.{err_from_is_err_and}
use Rattle.ccsds123.specs.Scenes.{Scene, row_bytes, scene_of}
use Rattle.ccsds123.proofs.SceneRows.{all_taken, refused_among, scene_taken, still_more}
use Rattle.ccsds123.proofs.scene.SceneEncoder.take_each.Goals as goal

pub take_row-requires-clause-more : goal.take_row-requires-clause-more
take_row-requires-clause-more c =
    let size : length c.args.samples.now * c.args.self.now.layout.bytes ≡ row_bytes c.args.self.now.params c.args.self.now.layout =
    ap (λ (n : ℕ). n * c.args.self.now.layout.bytes) c.requires.samples in
    rw (c.loop-i.invariant.rows, ap (λ (x : Scene). x.params) c.loop-i.invariant.taken, ap (λ (x : Scene). x.layout) c.loop-i.invariant.taken)
    (still_more c.args.self.now c.args.raw.now c.loop-i.i _ c.requires.open c.requires.more size c.loop-i-test.true)

pub returns-in_err-row-clause-refused : goal.returns-in_err-row-clause-refused
returns-in_err-row-clause-refused c =
    let p = err_from_is_err_and c.from_residual.result c.from_residual.ensures.1 in
    rw (p.1, p.2) (refused_among (scene_of c.args.self.now) (scene_of c.loop-i.self) c.args.raw.now c.loop-i.i _ _ c.loop-i.invariant.taken
    c.in_err-row.ensures.refused)

pub loop-i-preserved : goal.loop-i-preserved
loop-i-preserved c =
    let done = c.in_ok-row.ensures in
    let same = ap (λ (x : Scene). x.params) c.loop-i.invariant.taken in
    let laid = ap (λ (x : Scene). x.layout) c.loop-i.invariant.taken in
    record {
      open' = done.open;
      taken = scene_taken (scene_of c.args.self.now) (scene_of c.loop-i.self) _ c.loop-i.i _ c.args.raw.now c.loop-i.invariant.taken done.taken.0;
      rows = omega (arith, done.taken.1, c.loop-i.invariant.rows);
      row = (rw (same, laid) at done.row.0, rw same at done.row.1);
      long = done.long ∙ c.loop-i.invariant.long;
    }

pub returns-clause-taken : goal.returns-clause-taken
returns-clause-taken c =
    let size : length c.args.samples.now * c.args.self.now.layout.bytes ≡ row_bytes c.args.self.now.params c.args.self.now.layout =
    ap (λ (n : ℕ). n * c.args.self.now.layout.bytes) c.requires.samples in
    all_taken c.args.self.now (scene_of c.loop-i.self) c.args.raw.now c.loop-i.i _ c.requires.open c.requires.more size (omega (arith, c.loop-i-test.false))
    c.loop-i.invariant.taken
