use Rattle.std.proofs.Common.{◌<◌, length, refl, sym, ◌∙◌, arith}
use Rattle.std.proofs.lemmas.List.{length-set}
use Rattle.sample_adaptive.proofs.Running.{same_band}
use Rattle.sample_adaptive.proofs.PlacesRead.{starts, run_steps, run_stops, ends}
use Rattle.sample_adaptive.proofs.read_run.take_rest.Goals as goal

pub loop-i-init : goal.loop-i-init
loop-i-init c =
    record { taken = λ v z t k within settings own some. starts (same_band v z _ (sym own)); state = c.requires.state; count = refl; long = refl }

pub returns-in-Err-clause-taken : goal.returns-in-Err-clause-taken
returns-in-Err-clause-taken c = λ v z t k within settings own some.
    let was = c.loop-i.invariant in
    run_stops t c.loop-i.state.statistics (was.taken v z t k within settings own some) within some (omega (arith, c.loop-i-test.true, was.long)) _ v
    c.take_word.new.reader.left
    (rw (settings.umax_is, settings.bits_are, ← c.update_k.ensures.value) c.in-Err.ensures.reads)

pub loop-i-preserved : goal.loop-i-preserved
loop-i-preserved c =
    let was = c.loop-i.invariant in
    let lt : c.loop-i.i < length c.loop-i.residuals = omega (arith, c.loop-i-test.true, was.long) in
    record {
      taken = λ v z t k within settings own some.
          run_steps t c.loop-i.state.statistics (was.taken v z t k within settings own some) within some lt
          (rw (settings.umax_is, settings.bits_are, ← c.update_k.ensures.value) c.in-Ok.ensures.reads) c.in-Ok.ensures.count
          (rw (settings.size_is, ← c.update_k.ensures.statistics) c.count.ensures.value);
      state = c.count.ensures.state;
      count = c.in-Ok.ensures.count ∙ was.count;
      long = length-set c.loop-i.residuals c.loop-i.i c.in-Ok.residual ∙ was.long;
    }

pub returns-clause-taken : goal.returns-clause-taken
returns-clause-taken c = λ v z t k within settings own some. ends (c.loop-i.invariant.taken v z t k within settings own some) (omega arith)
