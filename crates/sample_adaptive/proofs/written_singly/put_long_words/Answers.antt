use Rattle.std.proofs.Common.{◌++◌, ℕ, List, Bool, get_or, sym, ap, ap₂, append_assoc, ◌∙◌, arith}
use Rattle.lanes.specs.Lanes.{number}
use Rattle.word_lanes.specs.EightWords.{texts}
use Rattle.sample_adaptive.specs.Words.{code_word}
use Rattle.sample_adaptive.proofs.Columns.{texts_after}
use Rattle.sample_adaptive.proofs.written_singly.put_long_words.Goals as goal

pub loop-j-preserved : goal.loop-j-preserved
loop-j-preserved c =
    let was = c.loop-j.invariant in
    let settings = c.args.settings in
    let text : ℕ → List Bool = λ j. code_word (record { limit = settings.limit; k = number c.args.parameters j; bits = settings.bits }) (get_or c.args.residuals.now j 0) in
    record {
      text = c.push_reserved.ensures.appended ∙ ap₂ (λ (x y : List Bool). x ++ y) was.text c.word_of-word.ensures.word
          ∙ append_assoc c.args.writer.bits (texts text 0 c.loop-j.j) (text c.loop-j.j)
          ∙ ap (λ (x : List Bool). c.args.writer.bits ++ x) (sym (texts_after text c.loop-j.j));
      room = omega (arith, was.room, c.push_reserved.ensures.room, c.word_of-word.ensures.few);
      still = omega (arith, was.still, c.push_reserved.ensures.room);
    }
