use Rattle.std.proofs.Common.{refl}
use Rattle.command_words.specs.Options.{flags, image_rules, options, sizes}
use Rattle.command_words.proofs.Commands.{next, over}
use Rattle.command_words.proofs.options.image_options.Goals as goal

pub loop-name-init : goal.loop-name-init
unfolding image_rules sizes
loop-name-init c = record { leads = refl }

pub loop-name-preserved : goal.loop-name-preserved
loop-name-preserved c = next _ c.loop-name.invariant c.loop-name-test.true c.in_ok-command.ensures c.required.ensures (λ x. refl)

pub loop-name-2-init : goal.loop-name-2-init
unfolding options
loop-name-2-init c = record { leads = over c.loop-name.invariant c.loop-name-test.false }

pub loop-name-2-preserved : goal.loop-name-2-preserved
loop-name-2-preserved c = next _ c.loop-name-2.invariant c.loop-name-2-test.true c.in_ok-command-2.ensures c.option.ensures (λ x. refl)

pub loop-name-3-init : goal.loop-name-3-init
unfolding flags
loop-name-3-init c = record { leads = over c.loop-name-2.invariant c.loop-name-2-test.false }

pub loop-name-3-preserved : goal.loop-name-3-preserved
loop-name-3-preserved c = next _ c.loop-name-3.invariant c.loop-name-3-test.true c.in_ok-command-3.ensures c.flag.ensures (λ x. refl)

pub returns : goal.returns
returns c = over c.loop-name-3.invariant c.loop-name-3-test.false
