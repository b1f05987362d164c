use Rattle.std.proofs.Common.{◌≡◌, ◌+◌, ◌∷◌, ◌++◌, [], get_or, take, length, ap, ◌∙◌, arith}
use Rattle.std.proofs.lemmas.List.{length-take, take_more, take_all}
use Rattle.sample_adaptive.proofs.ForSamples.{settings_bits}
use Rattle.speed.specs.Bodies.{AreOfBits, one_band_body}
use Rattle.speed.proofs.Coded.{coded_none, coded_more, whole_text, none_greater}
use Rattle.speed.proofs.sample_coder.encoded.Goals as goal
use Rattle.speed.proofs.sample_coder.encoded.Goals.{else-loop-t-test, then-loop-t-test+then-number-gt-MOST}

pub loop-t-init : goal.loop-t-init
loop-t-init c = record {
  bands = omega (arith, c.in_ok-stats.ensures.bands, c.requires.bands);
  bits = c.in_ok-stats.ensures.taken.bits ∙ settings_bits c.args.params.now ∙ c.requires.bits;
  coded = coded_none c.args.params.now c.in_ok-stats.stats c.new-writer.result.bits c.in_ok-stats.ensures.taken c.new-writer.ensures.bits;
}

pub loop-t-preserved : goal.loop-t-preserved
loop-t-preserved c =
    let more : take (c.loop-t.t + 1) c.args.numbers.now ≡ take c.loop-t.t c.args.numbers.now ++ get_or c.args.numbers.now c.loop-t.t 0 ∷ [] =
    take_more c.args.numbers.now c.loop-t.t 0 c.loop-t-test.true in
    let long : c.loop-t.t ≡ length (take c.loop-t.t c.args.numbers.now) = omega (arith, length-take c.loop-t.t c.args.numbers.now, c.loop-t-test.true) in
    record {
      bands = omega (arith, c.in_ok-put.ensures.bands.0, c.loop-t.invariant.bands);
      bits = c.in_ok-put.ensures.bands.1 ∙ c.loop-t.invariant.bits;
      coded = rw more (coded_more c.args.params.now c.loop-t.stats c.put.new.self c.loop-t.t (get_or c.args.numbers.now c.loop-t.t 0)
          (take c.loop-t.t c.args.numbers.now) c.loop-t.writer.bits c.put.new.writer.bits c.loop-t.invariant.coded c.in_ok-put.ensures.taken long);
    }

pub returns-clause-body : goal.returns-clause-body
returns-clause-body c =
    -- where no number is greater all were taken
    let all : AreOfBits 12 c.args.numbers.now → take c.loop-t.t c.args.numbers.now ≡ c.args.numbers.now =
    λ small. elim c.loop-t-test.branch [
      | else-loop-t-test w ↦ take_all c.loop-t.t c.args.numbers.now w.loop-t-test.false
      | then-loop-t-test+then-number-gt-MOST w ↦
          absurd (none_greater 12 c.args.numbers.now c.loop-t.t small w.loop-t-test.true (omega (arith, w.if-number-gt-MOST.true)))
    ] in
    whole_text c.whole_bytes.result (AreOfBits 12 c.args.numbers.now) c.loop-t.writer.bits
    (one_band_body c.args.params.now c.args.numbers.now) c.whole_bytes.ensures.filled
    (λ small. c.loop-t.invariant.coded.text ∙ ap (one_band_body c.args.params.now) (all small))
