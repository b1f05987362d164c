use Rattle.std.proofs.Common.{refl}
use Rattle.clap.proofs.OnLiterals.{clap_on_literals}
use Rattle.command_words.specs.Options.{compress_app, image_rules, sizes, options, flags, layout_rules}
use Rattle.command_words.proofs.worked.options_of_a_column.Goals as goal

pub returns : goal.returns
unfolding clap_on_literals compress_app image_rules sizes options flags layout_rules
returns c = record { taken = refl; sizes = refl; files = refl; flag = refl; no_flag = refl; left_out = refl }
