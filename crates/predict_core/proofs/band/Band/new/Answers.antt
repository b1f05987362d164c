use Rattle.std.proofs.Common.{◌∙◌, ap, sym, refl, rules}
use Rattle.sample_prediction.specs.Predictor.{predictor_of, component_count}
use Rattle.sample_prediction.specs.declared.predictor.Predictor.{Predictor}
use Rattle.sample_prediction.proofs.Starting.{count_is, start_told}
use Rattle.predict_core.proofs.band.Band.new.Goals as goal

pub invariant_of-settings-clause-count_is : goal.invariant_of-settings-clause-count_is
invariant_of-settings-clause-count_is c =
    rw c.min-previous.ensures
    (count_is (predictor_of c.args.params.now) c.args.z _ c.first_spectral-first.ensures.value
    ∙ ap (λ (q : Predictor). component_count q c.args.z) (sym c.of-predictor.ensures.value))

pub returns-clause-follows : goal.returns-clause-follows
returns-clause-follows c d = record {
  made = record { predictor = c.of-predictor.ensures.value; shape = refl; kind = c.of.ensures };
  weights = rw c.min-previous.ensures (start_told c.args.params.now d c.args.z c.start_of.result _ (rw c.min-previous.ensures at c.start_of.ensures.value));
}

pub returns-clause-made : goal.returns-clause-made
returns-clause-made c = search rules
