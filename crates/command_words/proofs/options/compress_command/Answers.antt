use Rattle.std.proofs.Common.{◌≡◌, ◌∙◌, ap, codes, sym}
use Rattle.std.proofs.lemmas.List.Sums.{fold-append}
use Rattle.std.proofs.lemmas.Result.{IfOk-weaker}
use Rattle.clap.specs.Simple.{App, app_of, new_app, with_rule}
use Rattle.command_words.specs.Options.{compress_app, image_rules, layout_rules, with_rules}
use Rattle.command_words.proofs.options.compress_command.Goals as goal

pub returns : goal.returns
unfolding compress_app
returns c =
    let image : app_of c.in_ok-command.command ≡ with_rules (new_app (codes "compress")) image_rules =
    c.in_ok-command.ensures ∙ ap (λ (a : App). with_rules a image_rules) c.new.ensures.app in
    IfOk-weaker c.layout_options.result _ _
    (λ m h. h ∙ ap (λ (a : App). with_rules a layout_rules) image ∙ sym (fold-append with_rule (new_app (codes "compress")) image_rules layout_rules))
    c.layout_options.ensures
