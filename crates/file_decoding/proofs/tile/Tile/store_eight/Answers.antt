use Rattle.std.proofs.Common.{◌≡◌, ◌∙◌, ◌+◌, ℕ, List, length, take, length-take, sym, subst, arith}
use Rattle.std.proofs.lemmas.List.{get_or-take}
use Rattle.file_decoding.specs.Tiles.{HasStored}
use Rattle.file_decoding.proofs.Storing.{stored_more}
use Rattle.file_decoding.proofs.tile.Tile.store_eight.Goals as goal

pub loop-b-preserved : goal.loop-b-preserved
loop-b-preserved c =
    let was = c.loop-b.invariant.alike in let set = c.set_run.ensures in record {
      alike = record { shape = was.shape ∙ sym set.shape; kind = was.kind ∙ sym set.kind };
      stored = λ image numbers stored values.
          subst (λ n. HasStored image c.set_run.new.self c.args.self.now numbers n) (omega arith)
          (stored_more (c.loop-b.invariant.stored image numbers stored values) set (omega (arith, length-take {A = ℕ}, c.requires.few.0)) (omega (arith, c.requires.bands, c.loop-b-test.true))
          (λ i lt. get_or-take c.args.self.now.columns _ i 0 lt ∙ values i c.loop-b.b lt c.loop-b-test.true)
          (λ i b column band. rw (stored.alike.shape) (record { band = omega (arith, band, c.requires.inside); row = c.requires.place.row; column = omega (arith, column, c.requires.columns) })));
    }

pub returns-clause-stored : goal.returns-clause-stored
returns-clause-stored c image numbers stored values =
    let all : c.loop-b.b ≡ 8 = omega (arith, c.loop-b-test.false, c.loop-b.auto.b-end) in
    rw all at (c.loop-b.invariant.stored image numbers stored values)
