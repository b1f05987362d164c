use Rattle.std.proofs.Common.{◌≡◌, ◌∙◌, ℕ, length, take, length-take, arith}
use Rattle.std.proofs.lemmas.List.{get_or-take}
use Rattle.file_decoding.proofs.Storing.{stored_more}
use Rattle.file_decoding.proofs.tile.Tile.store.Goals as goal

pub loop-b-preserved-then-b-self : goal.loop-b-preserved-then-b-self
loop-b-preserved-then-b-self c = record {
  stored = c.store_eight.ensures.stored c.args.cube.now c.args.numbers.now c.loop-b.invariant.stored c.turn_eight.ensures;
  within = c.if-b-self.true;
}

pub loop-b-preserved : goal.loop-b-preserved
loop-b-preserved c =
    let long : length (take c.args.self.now.columns c.run_of-run.result) ≡ c.args.self.now.columns =
    omega (arith, length-take {A = ℕ}, c.run_of-run.ensures.long, c.requires.few.0) in record {
      stored = stored_more c.loop-b.invariant.stored c.set_run-else-b-self.ensures long c.loop-b-test.true
          (λ i lt. get_or-take c.args.self.now.columns c.run_of-run.result i 0 lt ∙ c.run_of-run.ensures.copied i lt)
          (λ i b column band. record { band = omega (arith, band, c.requires.inside); row = c.requires.place.row; column = omega (arith, column, c.requires.columns) });
      within = omega (arith, c.loop-b-test.true);
    }
