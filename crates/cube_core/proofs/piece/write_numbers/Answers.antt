use Rattle.std.proofs.Common.{ℕ, ◌≡◌, ◌↔◌, ◌*◌, ◌+◌, ◌<◌, ◌^◌, arith, get_or}
use Rattle.cube_core.proofs.Words.{Layout, SampleKind, IsSample, sample_of, HasBytes, bytes_at, raw_code, SpellOffset, number_of_rebased}
use Rattle.cube_core.proofs.Pieces.{fewer_numbers}
use Rattle.cube_core.proofs.Putting.{given_more, others_more, each_more}
use Rattle.cube_core.proofs.piece.write_numbers.Goals as goal

-- what was found of one offset
record Found (k : SampleKind) (l : Layout) (width offset rebased number : ℕ) : Type 0 where
  fits : (rebased < 2 ^ (8 * width)) ↔ HasBytes k l (sample_of k offset)
  code : rebased < 2 ^ (8 * width) → raw_code l.bytes (sample_of k offset) ≡ number

found : (k : SampleKind) (l : Layout) (bytes width offset rebased number : ℕ) → bytes ≡ width → l.bytes ≡ width
    → (rebased < 2 ^ (8 * bytes)) ↔ IsSample (record { signed = k.signed; bits = 8 * bytes }) (sample_of k offset)
    → (rebased < 2 ^ (8 * bytes) → raw_code bytes (sample_of k offset) ≡ number_of_rebased k.signed bytes rebased)
    → number ≡ number_of_rebased k.signed width rebased → Found k l width offset rebased number
found k l bytes width offset rebased number e f fits code n = record { fits = rw f (rw e at fits); code = λ lt. rw (f, n) (rw e at code lt) }

pub overflow_mul-x : goal.overflow_mul-x
overflow_mul-x g c = omega (arith, c.requires.small, fewer_numbers _ _ _ c.requires.width (c.requires.there c.loop-x.x c.loop-x-test.true))

pub overflow_add-piece-in-loop-x : goal.overflow_add-piece-in-loop-x
overflow_add-piece-in-loop-x g c = omega (arith, c.requires.small, fewer_numbers _ _ _ c.requires.width (c.requires.there c.loop-x.x c.loop-x-test.true))

pub loop-x-preserved : goal.loop-x-preserved
loop-x-preserved g c =
    let k = c.args.scale.now.kind in
    let l = c.args.layout in
    let hs = c.args.offsets.now in
    let p = c.args.piece in
    let x = c.loop-x.x in
    let f = found k l _ g.row.BYTES (get_or hs (p.at + x) 0) _ _ c.requires.scale c.requires.form c.rebased-rebased.ensures.fits c.rebased-rebased.ensures.code
    c.number-number.ensures.value in
    let here : SpellOffset c.args.scale.now.kind c.args.layout (get_or c.args.offsets.now (c.args.piece.at + c.loop-x.x) 0)
    (bytes_at c.args.layout c.put_number.new.bytes (c.args.piece.first + c.loop-x.x * c.args.piece.step)) =
    λ h. c.put_number.ensures.there _ (f.code (f.fits.1 h)) in
    record {
      given = given_more k l hs _ _ p.at p.first p.step x c.requires.apart here c.put_number.ensures.others c.loop-x.invariant.given;
      others = others_more l c.args.bytes.now c.loop-x.bytes c.put_number.new.bytes p.first p.step x c.put_number.ensures.others c.loop-x.invariant.others;
      greatest =
          λ small. each_more (λ j. HasBytes k l (sample_of k (get_or hs (p.at + j) 0))) x (f.fits.0 (omega arith)) (c.loop-x.invariant.greatest (omega arith));
      reached = λ all. omega (arith, f.fits.1 (all x (omega arith)), c.loop-x.invariant.reached (λ j lt. all j (omega arith)));
    }

pub rebased-rebased-requires : goal.rebased-rebased-requires
rebased-rebased-requires g c = record { width = rw c.requires.scale c.requires.width; offset = c.requires.range c.loop-x.x c.loop-x-test.true }

pub put_number-requires : goal.put_number-requires
put_number-requires g c =
    let r = c.requires in let there = r.there c.loop-x.x c.loop-x-test.true in
    record { width = r.width; form = r.form; end = r.end; small = omega (arith, r.small); there = omega (arith, there); number = c.number-number.ensures.below }

pub returns : goal.returns
returns g c =
    let kept = c.loop-x.invariant in let fit = c.spells.ensures in
    record {
      given = λ x lt. kept.given x (omega (arith, lt, c.loop-x-test.false));
      others = λ i apart. kept.others i (λ x lt. apart x (omega (arith, lt)));
      good = (λ t x lt. kept.greatest (fit.0 t) x (omega (arith, lt)), λ all. fit.1 (kept.reached (λ x lt. all x (omega (arith, lt)))));
    }
