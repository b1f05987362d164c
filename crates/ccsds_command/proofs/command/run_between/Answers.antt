use Rattle.std.proofs.Common.{◌≡◌, ◌≢◌, ◌⊎◌, ℕ, Result, Ok, Err, IfErr, OnOk, inl, inr, sym, ap, ◌∙◌, refl}
use Rattle.cube_core.specs.declared.fault.Fault.{Fault}
use Rattle.command_words.specs.declared.settings.Settings.{Settings}
use Rattle.command_words.specs.declared.settings.Settings.TheVariants.{Show, Compress, Expand, Inspect}
use Rattle.header_bits.specs.Lawful.{params_fault}
use Rattle.ccsds_command.specs.Compress.{Compresses}
use Rattle.ccsds_command.specs.Expand.{Expands, IsExpandFault}
use Rattle.ccsds_command.specs.Piped.{IsPipedFault}
use Rattle.ccsds_command.proofs.Runs.{given}
use Rattle.ccsds_command.proofs.command.run_between.Goals as goal

-- a refusal with no predictors, and one with some
with_none : {U : Type 0} (A B : Fault → Type 0) (n : ℕ) (r : Result U Fault) → n ≡ 0 → IfErr r A → IfErr r (λ e. ((n ≡ 0) × A e) ⊎ ((n ≢ 0) × B e))
with_none A B n (Ok u) none h = h
with_none A B n (Err e) none h = inl (none, h)

with_some : {U : Type 0} (A B : Fault → Type 0) (m n : ℕ) (r : Result U Fault) → m ≡ n → m ≢ 0 → IfErr r B → IfErr r (λ e. ((n ≡ 0) × A e) ⊎ ((n ≢ 0) × B e))
with_some A B m n (Ok u) same some h = h
with_some A B m n (Err e) same some h = inr ((λ none. some (same ∙ none)), h)

-- what two arms call predictors is one number
abbrev predictors : Settings → ℕ
predictors Show = 0
predictors (Compress settings from to) = settings.predictors
predictors (Expand layout from to) = 0
predictors Inspect = 0

pub returns-in-Compress-clause-done : goal.returns-in-Compress-clause-done
returns-in-Compress-clause-done g c =
    rw c.in-Compress.is (given (λ s. OnOk c.run_compress.result (Compresses s (g.S.Source.left c.args.source.now) (g.K.Sink.taken c.args.sink.now)
    (g.K.Sink.taken c.run_compress.new.sink))) c.in-Compress.settings _ c.run_compress.ensures.compressed refl)

pub returns-in-Compress-clause-refused : goal.returns-in-Compress-clause-refused
returns-in-Compress-clause-refused g c = rw c.in-Compress.is (with_none _ _ _ c.run_compress.result c.if-settings-eq0.true c.run_compress.ensures.refused)

pub returns-in-Compress-2-clause-done : goal.returns-in-Compress-2-clause-done
returns-in-Compress-2-clause-done g c = rw c.in-Compress-2.is c.run_piped.ensures.compressed

pub returns-in-Compress-2-clause-refused : goal.returns-in-Compress-2-clause-refused
unfolding IsPipedFault
returns-in-Compress-2-clause-refused g c = rw c.in-Compress-2.is
    (with_some _ _ _ _ c.run_piped.result (ap predictors (sym c.in-Compress.is ∙ c.in-Compress-2.is)) c.if-settings-eq0.false c.run_piped.ensures.refused)

pub returns-in-Expand-clause-done : goal.returns-in-Expand-clause-done
returns-in-Expand-clause-done g c =
    rw c.in-Expand.is (given (λ l. OnOk c.run_expand.result (Expands l (g.S.Source.left c.args.source.now) (g.K.Sink.taken c.args.sink.now)
    (g.K.Sink.taken c.run_expand.new.sink))) c.in-Expand.layout _ c.run_expand.ensures.expanded refl)

-- what holds whatever the answer
in_any : {U : Type 0} {P : Type 0} (r : Result U Fault) → P → OnOk r P
in_any (Ok u) p = p
in_any (Err e) p = tt

pub returns-in-Show-clause-planned : goal.returns-in-Show-clause-planned
returns-in-Show-clause-planned g c = rw c.in-Show.is (in_any c.run_show.result tt)

pub returns-in-Compress-clause-planned : goal.returns-in-Compress-clause-planned
returns-in-Compress-clause-planned g c = rw c.in-Compress.is (in_any c.run_compress.result (λ some. absurd (some c.if-settings-eq0.true)))

pub returns-in-Expand-clause-planned : goal.returns-in-Expand-clause-planned
returns-in-Expand-clause-planned g c = rw c.in-Expand.is (in_any c.run_expand.result tt)

pub returns-in-Inspect-clause-planned : goal.returns-in-Inspect-clause-planned
returns-in-Inspect-clause-planned g c = rw c.in-Inspect.is (in_any c.run_inspect.result tt)

pub returns-in-Show-clause-planned_first : goal.returns-in-Show-clause-planned_first
returns-in-Show-clause-planned_first g c = rw c.in-Show.is (λ fault none. absurd none)

pub returns-in-Compress-clause-planned_first : goal.returns-in-Compress-clause-planned_first
returns-in-Compress-clause-planned_first g c = rw c.in-Compress.is (λ fault none. absurd (none.1 c.if-settings-eq0.true))

pub returns-in-Compress-2-clause-planned_first : goal.returns-in-Compress-2-clause-planned_first
returns-in-Compress-2-clause-planned_first g c = rw c.in-Compress-2.is (λ fault none. c.run_piped.ensures.planned_first fault none.0 none.2)

pub returns-in-Expand-clause-planned_first : goal.returns-in-Expand-clause-planned_first
returns-in-Expand-clause-planned_first g c = rw c.in-Expand.is (λ fault none. absurd none)

pub returns-in-Inspect-clause-planned_first : goal.returns-in-Inspect-clause-planned_first
returns-in-Inspect-clause-planned_first g c = rw c.in-Inspect.is (λ fault none. absurd none)

pub returns-in-Compress-clause-checked : goal.returns-in-Compress-clause-checked
returns-in-Compress-clause-checked g c =
    rw c.in-Compress.is (λ p fault same refuses. c.run_compress.ensures.checked fault (given (λ q. params_fault q ≡ Err fault) _ _ refuses cc))

pub returns-in-Expand-clause-refused : goal.returns-in-Expand-clause-refused
returns-in-Expand-clause-refused g c =
    rw c.in-Expand.is (given (λ l. IfErr c.run_expand.result (IsExpandFault l (g.S.Source.left c.args.source.now) (g.S.Source.failures c.args.source.now)
    (g.S.Source.failures c.run_expand.new.source) (g.K.Sink.taken c.args.sink.now) (g.K.Sink.taken c.run_expand.new.sink)
    (g.K.Sink.failures c.args.sink.now) (g.K.Sink.failures c.run_expand.new.sink) (g.K.Sink.stalls c.args.sink.now)
    (g.K.Sink.stalls c.run_expand.new.sink))) c.in-Expand.layout _ c.run_expand.ensures.refused refl)
