use Rattle.clap.proofs.OnLiterals.{clap_on_literals}
use Rattle.command_words.specs.Options.{compress_app, expand_app, image_rules, sizes, options, flags, layout_rules}
use Rattle.command_words.proofs.worked.lines_that_are_not_taken.Goals as goal

pub returns : goal.returns
unfolding clap_on_literals compress_app expand_app image_rules sizes options flags layout_rules
returns c = record { rows = λ e. absurd (cc); unknown = λ e. absurd (cc); twice = λ e. absurd (cc); many = λ e. absurd (cc); help = λ e. absurd (cc) }
