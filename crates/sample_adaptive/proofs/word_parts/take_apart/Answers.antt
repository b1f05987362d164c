use Rattle.std.proofs.Common.{refl}
use Rattle.sample_adaptive.proofs.WordParts.{no_steps}
use Rattle.sample_adaptive.proofs.word_parts.take_apart.Goals as goal

pub returns-then-bits-le12-clause-words : goal.returns-then-bits-le12-clause-words
returns-then-bits-le12-clause-words c seen =
    c.take_few_apart-then-bits-le12.ensures.words seen c.args.reader.now.left (c.if-not-take_few_apart.ensures.words refl c.args.reader.now.left (no_steps _ _))

pub returns-clause-words : goal.returns-clause-words
returns-clause-words c seen =
    c.take_few_apart-4.ensures.words seen c.args.reader.now.left
    (c.if-not-take_few_apart-3.ensures.words refl c.args.reader.now.left (c.if-not-take_few_apart-2.ensures.words refl c.args.reader.now.left (no_steps _ _)))
