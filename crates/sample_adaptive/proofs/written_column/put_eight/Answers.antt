use Rattle.std.proofs.Common.{ℕ, List, Bool, ◌≡◌, ◌+◌, length, get_or, sym, ap, subst, ◌∙◌, arith}
use Rattle.std.proofs.lemmas.List.{take_all}
use Rattle.lanes.specs.Lanes.{number}
use Rattle.sample_adaptive.specs.BandStates.{state_of}
use Rattle.word_lanes.specs.EightWords.{word_text}
use Rattle.word_lanes.proofs.Merging.{short_length}
use Rattle.sample_adaptive.specs.Runs.{code_with}
use Rattle.sample_adaptive.specs.Statistics.{AreStatistics, next_statistics}
use Rattle.sample_adaptive.specs.Words.{code_word}
use Rattle.sample_adaptive.proofs.Columns.{lanes_put}
use Rattle.sample_adaptive.proofs.Counting.{next_in_range}
use Rattle.sample_adaptive.proofs.LaneStates.{lane_states, lanes_count}
use Rattle.sample_adaptive.proofs.written_column.put_eight.Goals as goal

first : (j : ℕ) → 0 + j ≡ j
first j = omega arith

pub push_eight-requires-clause-room : goal.push_eight-requires-clause-room
push_eight-requires-clause-room c = omega (arith, c.requires.room, c.requires.eight, short_length c.coded-coded.result.words (c.coded-coded.ensures.short c.if-coded-2.true))

pub returns-then-coded-2-clause-written : goal.returns-then-coded-2-clause-written
returns-then-coded-2-clause-written c = λ v t some same has.
    let residuals = c.args.residuals.now in
    let settings = c.args.settings in
    let bands = c.args.bands.now in
    let at = c.args.at in
    let r = c.coded-coded.result in
    let put = lanes_put settings at r.counter r.accumulators residuals bands (word_text r.words) c.args.writer.bits 8 (omega (arith, c.requires.eight))
    (omega (arith, c.requires.inside, c.requires.eight))
    (λ j lt. c.coded-coded.ensures.text c.if-coded.true c.if-coded-2.true j lt
    ∙ ap (λ k. code_word (code_with settings (state_of bands (at + j)).statistics) (get_or residuals k 0)) (first j))
    (λ j lt. c.coded-coded.ensures.statistics c.if-coded.true j lt
    ∙ ap (λ k. next_statistics settings.rescaling.size (state_of bands (at + j)).statistics (get_or residuals k 0)) (first j)) in
    rw (c.store.ensures, c.push_eight.ensures.text)
    (rw (take_all 8 residuals (omega (arith, c.requires.eight))) at (put v t some same has))

pub returns-then-coded-2-clause-state : goal.returns-then-coded-2-clause-state
returns-then-coded-2-clause-state c =
    let settings = c.args.settings in
    let r = c.coded-coded.result in
    rw c.store.ensures (lane_states c.args.bands.now c.args.at r.counter r.accumulators settings 8 (omega (arith, c.requires.inside, c.requires.eight)) c.requires.state
    (λ j lt. subst (AreStatistics settings.rescaling.size) (sym (c.coded-coded.ensures.statistics c.if-coded.true j lt))
    (next_in_range settings.rescaling.size _ _ settings.rescaling.size_in.0 (c.requires.state (c.args.at + j) (omega (arith, c.requires.inside, c.requires.eight, lt))).statistics
    (omega (arith, (c.type_inv.residuals (0 + j)).fits)))))

pub returns-then-coded-clause-written : goal.returns-then-coded-clause-written
returns-then-coded-clause-written c = λ v t some same has.
    let residuals = c.args.residuals.now in
    let settings = c.args.settings in
    let bands = c.args.bands.now in
    let at = c.args.at in
    let r = c.coded-coded.result in
    let text : ℕ → List Bool = λ j. code_word (record { limit = settings.limit; k = number r.parameters j; bits = settings.bits }) (get_or residuals j 0) in
    let put = lanes_put settings at r.counter r.accumulators residuals bands text c.args.writer.bits 8 (omega (arith, c.requires.eight))
    (omega (arith, c.requires.inside, c.requires.eight))
    (λ j lt. ap (λ (k : ℕ). code_word (record { limit = settings.limit; k = k; bits = settings.bits }) (get_or residuals j 0))
    (c.coded-coded.ensures.parameters c.if-coded.true j lt))
    (λ j lt. c.coded-coded.ensures.statistics c.if-coded.true j lt
    ∙ ap (λ k. next_statistics settings.rescaling.size (state_of bands (at + j)).statistics (get_or residuals k 0)) (first j)) in
    rw (c.store.ensures, c.put_long_words.ensures.text)
    (rw (take_all 8 residuals (omega (arith, c.requires.eight))) at (put v t some same has))

pub returns-then-coded-clause-state : goal.returns-then-coded-clause-state
returns-then-coded-clause-state c =
    let settings = c.args.settings in
    let r = c.coded-coded.result in
    rw c.store.ensures (lane_states c.args.bands.now c.args.at r.counter r.accumulators settings 8 (omega (arith, c.requires.inside, c.requires.eight)) c.requires.state
    (λ j lt. subst (AreStatistics settings.rescaling.size) (sym (c.coded-coded.ensures.statistics c.if-coded.true j lt))
    (next_in_range settings.rescaling.size _ _ settings.rescaling.size_in.0 (c.requires.state (c.args.at + j) (omega (arith, c.requires.inside, c.requires.eight, lt))).statistics
    (omega (arith, (c.type_inv.residuals (0 + j)).fits)))))

pub returns-then-coded-2-clause-bands : goal.returns-then-coded-2-clause-bands
returns-then-coded-2-clause-bands c =
    let r = c.coded-coded.result in ap length c.store.ensures ∙ lanes_count c.args.bands.now c.args.at r.counter r.accumulators 8

pub returns-then-coded-clause-bands : goal.returns-then-coded-clause-bands
returns-then-coded-clause-bands c =
    let r = c.coded-coded.result in ap length c.store.ensures ∙ lanes_count c.args.bands.now c.args.at r.counter r.accumulators 8
