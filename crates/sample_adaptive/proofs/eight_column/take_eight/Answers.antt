use Rattle.std.proofs.Common.{ℕ, ◌≡◌, ◌+◌, length, sym, ap, subst, ◌∙◌, arith}
use Rattle.header_bits.specs.Bits.{Unread}
use Rattle.sample_adaptive.specs.BandStates.{statistics_of}
use Rattle.sample_adaptive.specs.Statistics.{AreStatistics}
use Rattle.sample_adaptive.proofs.Counting.{next_in_range}
use Rattle.sample_adaptive.proofs.EightColumn.{lanes_reached, unread_same}
use Rattle.sample_adaptive.proofs.LaneStates.{lane_states, lanes_count}
use Rattle.sample_adaptive.proofs.PlacesRead.{same_start}
use Rattle.sample_adaptive.proofs.eight_column.take_eight.Goals as goal

pub returns-clause-taken : goal.returns-clause-taken
returns-clause-taken c = λ v t index first some has was.
    let read = c.in-Some.read in
    let residuals = c.put_numbers.new.residuals in
    let reader = c.read_bands.new.reader in
    let put = c.put_numbers.ensures in
    let start = same_start (λ i. c.args.z + i) (λ i. t) 0 index c.args.i v (record v { bands = statistics_of c.args.bands.now }) first c.args.reader.now c.args.residuals.now residuals
    put.before was in
    let reached = lanes_reached c.args.settings c.args.z t index c.args.i read.counter read.accumulators read.numbers residuals c.args.bands.now v first c.args.reader.now 8 reader.left
    some has (omega (arith, put.long, c.requires.within)) (omega (arith, c.requires.inside, c.requires.within)) put.numbers c.in-Some.ensures.statistics start
    (rw c.fork-ahead.ensures at c.in-Some.ensures.words) in
    let count : reader.count ≡ c.args.reader.now.count = c.in-Some.ensures.count ∙ ap (λ (u : Unread). u.count) c.fork-ahead.ensures in
    rw c.store.ensures (rw (unread_same reader c.args.reader.now.count count) at reached)

pub returns-clause-state : goal.returns-clause-state
returns-clause-state c =
    let settings = c.args.settings in
    let read = c.in-Some.read in
    let at : ℕ = c.args.z + c.args.i in
    rw c.store.ensures (lane_states c.args.bands.now at read.counter read.accumulators settings 8 (omega (arith, c.requires.inside, c.requires.within)) c.requires.state
    (λ j lt. subst (AreStatistics settings.rescaling.size) (sym (c.in-Some.ensures.statistics j lt))
    (next_in_range settings.rescaling.size _ _ settings.rescaling.size_in.0 (c.requires.state (at + j) (omega (arith, c.requires.inside, c.requires.within, lt))).statistics
    (omega (arith, c.put_numbers.ensures.numbers j lt, (c.type_inv.residuals (c.args.i + j)).fits)))))

pub returns-clause-bands : goal.returns-clause-bands
returns-clause-bands c =
    let read = c.in-Some.read in ap length c.store.ensures ∙ lanes_count c.args.bands.now (c.args.z + c.args.i) read.counter read.accumulators 8
