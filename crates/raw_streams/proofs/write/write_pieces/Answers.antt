use Rattle.std.proofs.Common.{◌≡◌, ◌*◌, ◌<◌, ◌∙◌, ℕ, List, length, arith, ap, sym, refl}
use Rattle.std.proofs.lemmas.List.{take_all}
use Rattle.std.proofs.lemmas.Result.{err_from_is_err_and}
use Rattle.cube_core.specs.Layout.{raw_bytes}
use Rattle.cube_core.specs.Parts.{first_sample, part_samples, unit_of}
use Rattle.cube_core.specs.Shape.{sample_count}
use Rattle.cube_core.proofs.RawBytes.{length-raw_bytes}
use Rattle.raw_streams.proofs.Streams.{sent_more, part_long, part_inside, cut_more}
use Rattle.raw_streams.proofs.write.write_pieces.Goals as goal
use Rattle.raw_streams.proofs.write.write_pieces.Goals.{After-write_part}

some : (g : _) (c : After-write_part g) → 0 < sample_count c.args.cube.now.shape
some g c = rw (← c.shape-shape.ensures) (omega (arith, c.sample_count-count.ensures.value, c.sample_count-count.ensures.range))

-- what was sent is what is before the part
at_is : (g : _) (c : After-write_part g) → first_sample c.args.layout c.args.cube.now.shape c.next_part-part.result * c.args.layout.bytes ≡ c.loop-done.sent
at_is g c = rw (← c.shape-shape.ensures, c.next_part-part.ensures.first) (sym c.loop-done.invariant.sent)

long : (g : _) (c : After-write_part g) → length c.write_part.new.bytes ≡ part_samples c.args.layout c.args.cube.now.shape c.next_part-part.result * c.args.layout.bytes
long g c =
    let inside = part_inside c.args.layout c.args.cube.now.shape c.next_part-part.result (rw c.shape-shape.ensures at c.next_part-part.ensures.part) in
    ap (λ (xs : List ℕ). length xs) c.write_part.ensures ∙ part_long (raw_bytes c.args.cube.now c.args.layout) _ _
    (rw (length-raw_bytes c.args.cube.now c.args.layout c.requires.layout (some g c)) inside)

pub returns-in_err-write_more-clause-cut : goal.returns-in_err-write_more-clause-cut
returns-in_err-write_more-clause-cut g c =
    let d = (goal.at.returns-in_err-write_more-clause-cut g c).After-write_part in
    let p = err_from_is_err_and c.from_residual.result c.from_residual.ensures.1 in
    rw (p.1, p.2) (cut_more (raw_bytes c.args.cube.now c.args.layout) c.write_part.new.bytes c.loop-done.sent _ _ _ _ _ _ _ _ _ _ _ _ (at_is g d)
    c.write_part.ensures c.loop-done.invariant.took c.loop-done.invariant.failures c.loop-done.invariant.stalls c.in_err-write_more.ensures.cut)

pub loop-done-preserved : goal.loop-done-preserved
loop-done-preserved g c =
    let d = (goal.at.loop-done-preserved g c).After-write_part in
    let size = long g d in
    let shape : c.shape-shape.result ≡ c.args.cube.now.shape = c.shape-shape.ensures in
    record {
      within = omega (arith, c.next_part-part.ensures.part, c.next_part-part.ensures.first, c.units-units.ensures.value);
      sent = rw shape (rw (size, rw shape at c.loop-done.invariant.sent) (omega arith));
      took = sent_more (raw_bytes c.args.cube.now c.args.layout) c.write_part.new.bytes c.loop-done.sent _ _ _ _ _ (at_is g d) size c.write_part.ensures
          c.loop-done.invariant.took c.in_ok-write_more.ensures.whole;
      failures = c.in_ok-write_more.ensures.worked.0 ∙ c.loop-done.invariant.failures;
      stalls = c.in_ok-write_more.ensures.worked.1 ∙ c.loop-done.invariant.stalls;
    }

pub returns-clause-whole : goal.returns-clause-whole
returns-clause-whole g c =
    let shape : c.shape-shape.result ≡ c.args.cube.now.shape = c.shape-shape.ensures in
    let some : 0 < sample_count c.args.cube.now.shape =
    rw (← shape) (omega (arith, c.sample_count-count.ensures.value, c.sample_count-count.ensures.range)) in
    let all : c.loop-done.done ≡ c.units-units.result = omega (arith, c.loop-done.invariant.within) in
    let samples : c.loop-done.done * unit_of c.args.layout.order c.shape-shape.result ≡ sample_count c.shape-shape.result = rw all c.units-units.ensures.samples in
    let sent : c.loop-done.sent ≡ sample_count c.args.cube.now.shape * c.args.layout.bytes = c.loop-done.invariant.sent ∙ rw (samples, shape) refl in
    rw (take_all c.loop-done.sent (raw_bytes c.args.cube.now c.args.layout)
    (omega (arith, sent, length-raw_bytes c.args.cube.now c.args.layout c.requires.layout some))) at c.loop-done.invariant.took
