use Rattle.std.proofs.Common.{◌⊎◌, ℕ, List, Result, Ok, Err, IfErr, inr, rules}
use Rattle.std.proofs.lemmas.Result.{on_ok_weaker}
use Rattle.cube_core.specs.declared.fault.Fault.{Fault}
use Rattle.header_bits.specs.Lawful.{IsLawful}
use Rattle.command_devices.specs.Writing.{IsCutShort}
use Rattle.ccsds_command.specs.Compress.{Compresses, HasFile, IsCompressFault}
use Rattle.ccsds_command.proofs.compress.run_compress.Goals as goal

pub returns-clause-worked : goal.returns-clause-worked
returns-clause-worked g c = search rules

pub returns-clause-compressed : goal.returns-clause-compressed
unfolding Compresses
returns-clause-compressed g c =
    let lawful : IsLawful c.args.settings.now.params = search rules in
    on_ok_weaker c.write_all.result (λ took. (lawful, c.in_ok-file.file.items, c.in_ok-file.ensures.file, took))
    (rw c.deref.ensures.value at c.write_all.ensures.whole)

-- the last of three reasons: a lawful file was cut short
third : {U : Type 0} (r : Result U Fault) (First Second : Fault → Type 0) (Lawful : Type 0) (P : List ℕ → Type 0) (Q : List ℕ → Fault → Type 0)
    (file : List ℕ) → Lawful → P file → IfErr r (Q file) → IfErr r (λ e. First e ⊎ (Second e ⊎ ((made : List ℕ) × Lawful × P made × Q made e)))
third (Ok u) First Second Lawful P Q file lawful known cut = tt
third (Err e) First Second Lawful P Q file lawful known cut = inr (inr (file, lawful, known, cut))

pub returns-clause-refused : goal.returns-clause-refused
unfolding IsCompressFault
returns-clause-refused g c =
    let lawful : IsLawful c.args.settings.now.params = search rules in
    third c.write_all.result _ _ (IsLawful c.args.settings.now.params) (HasFile c.args.settings.now (g.S.Source.left c.args.source.now))
    (IsCutShort (g.K.Sink.taken c.args.sink.now) (g.K.Sink.taken c.write_all.new.sink) (g.K.Sink.failures c.args.sink.now)
    (g.K.Sink.failures c.write_all.new.sink) (g.K.Sink.stalls c.args.sink.now) (g.K.Sink.stalls c.write_all.new.sink))
    c.in_ok-file.file.items lawful c.in_ok-file.ensures.file (rw c.deref.ensures.value at c.write_all.ensures.cut)
