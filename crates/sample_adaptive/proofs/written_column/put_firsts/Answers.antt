use Rattle.std.proofs.Common.{◌+◌, ◌++◌, List, Bool, get_or, refl, ap, ◌∙◌, arith}
use Rattle.sample_adaptive.proofs.Writing.{writes_more}
use Rattle.sample_adaptive.proofs.written_column.put_firsts.Goals as goal

pub loop-i-preserved : goal.loop-i-preserved
loop-i-preserved c =
    let was = c.loop-i.invariant in
    record {
      puts = λ v z is.
          let text = c.push_reserved.ensures.appended ∙ ap (λ (bits : List Bool). c.loop-i.writer.bits ++ bits) c.word_of-word.ensures.word in
          writes_more (λ j. z + j) (λ j. 0) 0 c.loop-i.i c.loop-i.i (get_or c.args.residuals.now c.loop-i.i 0) c.args.residuals.now v v v c.args.writer.bits c.loop-i.writer.bits _
          c.loop-i-test.true (omega arith) refl (rw is text) refl (was.puts v z is);
      room = omega (arith, was.room, c.word_of-word.ensures.few, c.push_reserved.ensures.room);
      still = omega (arith, was.still, c.push_reserved.ensures.room);
    }
