use Rattle.std.proofs.Common.{◌++◌, [], map}
use Rattle.clap.specs.Simple.{app_of}
use Rattle.command_words.specs.Options.{flag, flags, image_rules, option, options, required, with_rules}
use Rattle.command_words.proofs.Commands.{Leads}
use Rattle.command_words.proofs.options.image_options.Given as goal

abbrev pub invariant-loop-name : goal.invariant-loop-name
invariant-loop-name l =
    Leads (λ s. required s.now) l.name-items l.name-index (map option options ++ map flag flags) l.command (with_rules (app_of l.fn.command) image_rules)

abbrev pub invariant-loop-name-2 : goal.invariant-loop-name-2
invariant-loop-name-2 l =
    Leads (λ o. option (o.0.now, o.1.now)) l.name-items l.name-index (map flag flags) l.command (with_rules (app_of l.fn.command) image_rules)

abbrev pub invariant-loop-name-3 : goal.invariant-loop-name-3
invariant-loop-name-3 l = Leads (λ s. flag s.now) l.name-items l.name-index [] l.command (with_rules (app_of l.fn.command) image_rules)
