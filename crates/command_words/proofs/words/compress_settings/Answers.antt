use Rattle.std.proofs.Common.{◌≡◌, ◌∙◌, inl, sym, ap, subst}
use Rattle.clap.specs.Walk.{rows_of}
use Rattle.clap.specs.Matches.{found_of}
use Rattle.clap.specs.Simple.{App, is_simple, matches_of}
use Rattle.clap.specs.Faults.{is_simple_and_free}
use Rattle.command_words.specs.Options.{compress_app}
use Rattle.command_words.specs.Words.{texts, AreTaken}
use Rattle.command_words.proofs.Asked.{compress_none, passed_for}
use Rattle.command_words.proofs.Commands.{compress_is_free, compress_is_simple}
use Rattle.command_words.proofs.Refused.{passed}
use Rattle.command_words.proofs.words.compress_settings.Goals as goal
use Rattle.command_words.proofs.words.compress_settings.Goals.{In_ok-matches}

pub returns-in_err-matches-clause-refused : goal.returns-in_err-matches-clause-refused
returns-in_err-matches-clause-refused c =
    let app = c.in_ok-compress_command.ensures in
    passed_for _ _ _ _ c.from_residual-in_err-matches.ensures.1
    (λ untaken. compress_none (texts c.args.words.now) c.requires (λ s from to taken asked range.
    untaken (ap is_simple_and_free app ∙ compress_is_free) (subst (λ a. AreTaken a (texts c.args.words.now)) (sym app) taken)))
    c.in_err-matches.ensures.refused

rows : (c : In_ok-matches) → rows_of (found_of c.in_ok-matches.matches) ≡ matches_of compress_app (texts c.args.words.now)
rows c =
    let app = c.in_ok-compress_command.ensures in
    c.in_ok-matches.ensures.found (ap is_simple app ∙ compress_is_simple) ∙ ap (λ (a : App). matches_of a (texts c.args.words.now)) app

pub returns-in_err-params-clause-refused : goal.returns-in_err-params-clause-refused
returns-in_err-params-clause-refused c =
    let found = rows (goal.at.returns-in_err-params-clause-refused c).In_ok-matches in
    passed _ _ _ c.from_residual-in_err-params.ensures.1
    (inl (
      c.in_err-params.ensures.refused.0,
      compress_none (texts c.args.words.now) c.requires (λ s from to taken asked range. c.in_err-params.ensures.refused.1 s.params (rw found asked.0) range.0),
    ))

pub returns-in_err-layout-clause-refused : goal.returns-in_err-layout-clause-refused
returns-in_err-layout-clause-refused c =
    let found = rows (goal.at.returns-in_err-layout-clause-refused c).In_ok-matches in
    passed _ _ _ c.from_residual-in_err-layout.ensures.1
    (inl (
      c.in_err-layout.ensures.refused.0,
      compress_none (texts c.args.words.now) c.requires (λ s from to taken asked range. c.in_err-layout.ensures.refused.1 s.layout (rw found asked.1) range.1),
    ))

pub returns-in_err-predictors-clause-refused : goal.returns-in_err-predictors-clause-refused
returns-in_err-predictors-clause-refused c =
    let found = rows (goal.at.returns-in_err-predictors-clause-refused c).In_ok-matches in
    passed _ _ _ c.from_residual-in_err-predictors.ensures.1
    (inl (
      c.in_err-predictors.ensures.refused.0,
      compress_none (texts c.args.words.now) c.requires
          (λ s from to taken asked range. c.in_err-predictors.ensures.refused.1 s.predictors (rw found asked.2) range.2),
    ))

pub returns-in_err-slots-clause-refused : goal.returns-in_err-slots-clause-refused
returns-in_err-slots-clause-refused c =
    let found = rows (goal.at.returns-in_err-slots-clause-refused c).In_ok-matches in
    passed _ _ _ c.from_residual-in_err-slots.ensures.1
    (inl (
      c.in_err-slots.ensures.refused.0,
      compress_none (texts c.args.words.now) c.requires (λ s from to taken asked range. c.in_err-slots.ensures.refused.1 s.slots (rw found asked.3) range.3),
    ))

pub returns-in_err-from-clause-refused : goal.returns-in_err-from-clause-refused
returns-in_err-from-clause-refused c =
    let found = rows (goal.at.returns-in_err-from-clause-refused c).In_ok-matches in
    passed_for _ _ _ _ c.from_residual-in_err-from.ensures.1
    (λ same. compress_none (texts c.args.words.now) c.requires (λ s from to taken asked range. range.4 (same from to (rw found asked.4))))
    c.in_err-from.ensures.refused

pub returns-clause-asked : goal.returns-clause-asked
returns-clause-asked c =
    let found = rows (goal.at.returns-clause-asked c).In_ok-matches in
    let app = c.in_ok-compress_command.ensures in
    let taken = subst (λ a. AreTaken a (texts c.args.words.now)) app (c.in_ok-matches.ensures.taken (ap is_simple_and_free app ∙ compress_is_free)) in (
      c.requires,
      taken,
      (
        rw (← found) c.in_ok-params.ensures.read,
        rw (← found) c.in_ok-layout.ensures.read,
        rw (← found) c.in_ok-predictors.ensures.read,
        rw (← found) c.in_ok-slots.ensures.read,
        rw (← found) c.in_ok-from.ensures.read,
      ),
    )
