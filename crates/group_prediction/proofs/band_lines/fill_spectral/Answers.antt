use Rattle.std.proofs.Common.{◌+◌, ◌-◌, arith, inl, inr, ◌∙◌, ap, refl}
use Rattle.std.proofs.lemmas.Bool.{cases_eq}
use Rattle.lanes.specs.Lanes.{place}
use Rattle.predict_core.specs.Rooms.{lower_difference}
use Rattle.group_prediction.specs.GroupLines.{spectral_from}
use Rattle.group_prediction.proofs.band_lines.fill_spectral.Goals as goal

pub loop-k-init : goal.loop-k-init
loop-k-init c = record {
  done = λ i j l h m q. absurd (let e = c.first_spectral-k.ensures.value in omega (arith, m, q, e));
  others = λ j i m. refl;
  long = c.told-components;
}

pub loop-k-preserved : goal.loop-k-preserved
loop-k-preserved c =
    let kept = c.loop-k.invariant in let s = c.args.settings.now in record {
      done = λ i j l h m q. elim (cases_eq j c.loop-k.k) [
        | inl e ↦ ap (λ n. place c.fill_spectral_line.new.components n i) e ∙ c.fill_spectral_line.ensures.spectral i l h
            ∙ ap (λ n. lower_difference s.predictor c.args.run.now.image s.band c.args.run.now.y (c.args.run.now.x + i) (n - spectral_from s.predictor + 1)) (omega (arith, e))
        | inr n ↦ c.fill_spectral_line.ensures.others j i n ∙ kept.done i j l h m (omega (arith, q, n))
      ];
      others = λ j i m. c.fill_spectral_line.ensures.others j i (let a = c.loop-k.auto.k in let e = c.first_spectral-k.ensures.value in omega (arith, m, a, e))
          ∙ kept.others j i m;
      long = c.fill_spectral_line.array_long;
    }

pub returns-clause-spectral : goal.returns-clause-spectral
returns-clause-spectral c i k l h m q =
    c.loop-k.invariant.done i k l h m (let t = c.loop-k-test.false in omega (arith, q, t))

pub returns-clause-others : goal.returns-clause-others
returns-clause-others c k i m = c.loop-k.invariant.others k i m
