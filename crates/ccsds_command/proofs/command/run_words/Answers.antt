use Rattle.std.proofs.Common.{◌⊎◌, Result, Ok, Err, IfOk, IfErr, inr, rules}
use Rattle.ccsds_command.proofs.command.run_words.Goals as goal

-- what is refused by these settings is refused by some that were asked for
refused_by : {T E S : Type 0} (r : Result T E) (Before Between : E → Type 0) (Asked : S → Type 0) (Refused : S → E → Type 0) (s : S) → Asked s
    → IfErr r (Refused s) → IfErr r (λ e. Before e ⊎ (Between e ⊎ ((x : S) × Asked x × Refused x e)))
refused_by (Ok v) Before Between Asked Refused s asked h = tt
refused_by (Err e) Before Between Asked Refused s asked h = inr (inr (s, asked, h))

pub returns-clause-refused : goal.returns-clause-refused
returns-clause-refused g c = refused_by c.run_command.result _ _ _ _ c.in_ok-settings.settings c.in_ok-settings.ensures.asked c.run_command.ensures.refused

-- what these settings promise is promised by some that were asked for
promised_by : {T E S : Type 0} (r : Result T E) (Asked : S → Type 0) (Promised : S → T → Type 0) (s : S) → Asked s → IfOk r (Promised s)
    → IfOk r (λ t. (x : S) × Asked x × Promised x t)
promised_by (Ok v) Asked Promised s asked h = (s, asked, h)
promised_by (Err e) Asked Promised s asked h = tt

pub returns-clause-refused_first : goal.returns-clause-refused_first
returns-clause-refused_first g c =
    promised_by c.run_command.result _ _ c.in_ok-settings.settings c.in_ok-settings.ensures.asked c.run_command.ensures.refused_first

pub returns-clause-ran : goal.returns-clause-ran
returns-clause-ran g c = search rules

pub returns-in_err-settings-clause-refused : goal.returns-in_err-settings-clause-refused
returns-in_err-settings-clause-refused g c = search rules
