use Rattle.std.proofs.Common.{◌∙◌, ap}
use Rattle.std.proofs.lemmas.Result.{IfOk-weaker}
use Rattle.clap.specs.Simple.{App}
use Rattle.command_words.specs.Options.{expand_app, layout_rules, with_rules}
use Rattle.command_words.proofs.options.expand_command.Goals as goal

pub returns : goal.returns
unfolding expand_app
returns c = IfOk-weaker c.layout_options.result _ _ (λ m h. h ∙ ap (λ (a : App). with_rules a layout_rules) c.new.ensures.app) c.layout_options.ensures
