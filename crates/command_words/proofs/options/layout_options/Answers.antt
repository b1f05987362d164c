use Rattle.std.proofs.Common.{refl}
use Rattle.std.proofs.lemmas.Result.{IfOk-weaker}
use Rattle.command_words.specs.Options.{layout_rules}
use Rattle.command_words.proofs.Commands.{one_more}
use Rattle.command_words.proofs.options.layout_options.Goals as goal

pub returns : goal.returns
unfolding layout_rules
returns c =
    let layout = one_more c.in_ok-arg.ensures c.option.ensures refl refl in
    let bytes = one_more c.in_ok-arg-2.ensures c.option-2.ensures refl layout in
    let little = one_more c.in_ok-arg-3.ensures c.flag.ensures refl bytes in
    let input = one_more c.in_ok-arg-4.ensures c.file.ensures refl little in
    IfOk-weaker c.arg-5.result _ _ (λ m adds. one_more adds c.file-2.ensures refl input) c.arg-5.ensures
