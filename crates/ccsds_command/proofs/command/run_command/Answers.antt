use Rattle.std.proofs.Common.{◌≡◌, ◌⊎◌, inl, inr, Result, Err, sym, subst, rules}
use Rattle.cube_core.specs.declared.fault.Fault.{Fault}
use Rattle.ccsds_command.specs.Command.{name_in, name_out}
use Rattle.ccsds_command.proofs.command.run_command.Goals as goal

pub returns-in_err-output-clause-refused : goal.returns-in_err-output-clause-refused
returns-in_err-output-clause-refused g c = search rules

pub returns-clause-ran : goal.returns-clause-ran
returns-clause-ran g c = search rules

-- ends that are as they were are as they were opened
as_opened : {T Input Output : Type 0} (r : Result T Fault) (fault : Fault) (opens : Input → Type 0) (makes : Input → Output → Type 0) (old new : Input)
    (from to : Output) → opens old → makes old from → (r ≡ Err fault) × (new ≡ old) × (to ≡ from) → (r ≡ Err fault) × opens new × makes new to
as_opened r fault opens makes old new from to opened made h =
    (h.0, subst opens (sym h.1) opened, subst (makes new) (sym h.2) (subst (λ input. makes input from) (sym h.1) made))

-- what holds of either cause
by_either : {A B C : Type 0} → A ⊎ B → (A → C) → (B → C) → C
by_either (inl a) f g = f a
by_either (inr b) f g = g b

pub returns-clause-refused_first : goal.returns-clause-refused_first
returns-clause-refused_first g c = λ fault first.
    as_opened c.run_between-answer.result fault (g.O.Opener.opens c.args.opener.now (name_in c.args.settings.now))
    (λ input. g.O.Opener.makes c.args.opener.now input (name_out c.args.settings.now)) _ _ _ _ c.in_ok-input.ensures.opened c.in_ok-output.ensures.made
    (by_either first (λ unlawful. c.run_between-answer.ensures.checked unlawful.0 fault unlawful.1 unlawful.2)
    (λ none. c.run_between-answer.ensures.planned_first fault none))
