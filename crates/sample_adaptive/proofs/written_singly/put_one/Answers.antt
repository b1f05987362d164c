use Rattle.std.proofs.Common.{◌++◌, List, Bool, ap, ◌∙◌}
use Rattle.sample_adaptive.specs.Words.{code_word}
use Rattle.sample_adaptive.proofs.Columns.{code_seen}
use Rattle.sample_adaptive.proofs.written_singly.put_one.Goals as goal

pub returns-clause-text : goal.returns-clause-text
returns-clause-text c = λ v z t some has own.
    let settings = c.args.settings in
    c.push_reserved.ensures.appended ∙ ap (λ (bits : List Bool). c.args.writer.bits ++ bits) (c.word_of-word.ensures.word
    ∙ ap (λ code. code_word code c.args.residual)
    (code_seen v z t settings.bits settings.limit settings.rescaling.size c.settle.new.self.k c.args.state.now.statistics some has own c.settle.ensures.value))
