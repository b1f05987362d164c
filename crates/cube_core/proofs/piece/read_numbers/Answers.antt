use Rattle.std.proofs.Common.{ℕ, ◌≡◌, ◌*◌, ◌+◌, ◌<◌, ◌≤◌, ◌^◌, length, arith, List}
use Rattle.cube_core.proofs.Words.{Layout, SampleKind, IsSample, sample_of, raw_number, bytes_at, twos_complement, StandsFor}
use Rattle.cube_core.proofs.Pieces.{item_more, others_stay, all_but_last, fewer_numbers}
use Rattle.cube_core.proofs.piece.read_numbers.Goals as goal

standing : (k : SampleKind) (l : Layout) (bytes : List ℕ) (i number width offset : ℕ) → l.bytes ≡ width → number ≡ raw_number l (bytes_at l bytes i)
    → (offset < 2 ^ k.bits → sample_of k offset ≡ twos_complement k.signed width number)
    → (IsSample k (twos_complement k.signed width number) → offset < 2 ^ k.bits) → StandsFor k l bytes i offset
standing k l bytes i number width offset e n value range = record { value = rw (← e, n) at value; range = rw (← e, n) at range }

pub overflow_mul-x : goal.overflow_mul-x
overflow_mul-x g c = omega (arith, c.requires.small, fewer_numbers _ _ _ c.requires.width (c.requires.there c.loop-x.x c.loop-x-test.true))

pub overflow_add-piece : goal.overflow_add-piece
overflow_add-piece g c = omega (arith, c.requires.small, fewer_numbers _ _ _ c.requires.width (c.requires.there c.loop-x.x c.loop-x-test.true))

pub loop-x-preserved : goal.loop-x-preserved
loop-x-preserved g c =
    let hs = c.loop-x.offsets in
    let at = c.args.piece.at in
    let k = c.args.scale.now.kind in
    let within : at + c.loop-x.x < length hs = omega arith in
    let value = c.number_at-number.ensures.value in
    let stands : StandsFor k c.args.layout c.args.bytes.now (c.args.piece.first + c.loop-x.x * c.args.piece.step) c.offset-offset.result =
    standing k _ _ _ _ g.row.BYTES _ c.requires.form value c.offset-offset.ensures.value c.offset-offset.ensures.range in
    record {
      taken = item_more (λ x h. StandsFor k c.args.layout c.args.bytes.now (c.args.piece.first + x * c.args.piece.step) h) hs at c.loop-x.x
          c.offset-offset.result within stands c.loop-x.invariant.taken;
      others = others_stay hs c.args.offsets.now at c.loop-x.x c.offset-offset.result c.loop-x.invariant.others;
      greatest = item_more (λ x h. h ≤ c.max-greatest.result) hs at c.loop-x.x c.offset-offset.result within (omega arith)
          (λ j lt. omega (arith, c.loop-x.invariant.greatest j lt));
      reached = λ all. let parts = all_but_last hs at c.loop-x.x c.offset-offset.result (2 ^ k.bits) within all in
          omega (arith, parts.0, c.loop-x.invariant.reached parts.1);
    }
