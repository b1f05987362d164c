use Rattle.std.proofs.Common.{◌∙◌}
use Rattle.clap.specs.Matches.{found_of}
use Rattle.clap.proofs.WalkLemmas.{one_text-rows}
use Rattle.command_words.proofs.option_values.flag.Goals as goal

pub returns : goal.returns
returns c =
    let same = one_text-rows (found_of c.args.matches.now) c.args.name.now in
    (λ h. c.get_flag.ensures.value (same ∙ h), λ h. c.get_flag.ensures.other (same ∙ h), λ h. c.get_flag.ensures.none (same ∙ h))
