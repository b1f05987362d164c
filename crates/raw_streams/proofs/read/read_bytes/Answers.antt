use Rattle.std.proofs.Common.{◌≡◌, length, take, length-take, arith, inl, inr, refl}
use Rattle.raw_streams.proofs.Streams.{part_end}
use Rattle.raw_streams.proofs.read.read_bytes.Goals as goal

pub overflow_mul-before-2 : goal.overflow_mul-before-2
overflow_mul-before-2 g c =
    let end = part_end c.args.layout c.args.shape c.args.part c.requires.layout c.requires.part
    (omega (arith, c.sample_count-count.ensures.value, c.sample_count-count.ensures.range)) in
    rw (c.unit.ensures.value, c.from.ensures) (omega (arith, end))

pub overflow_add-result : goal.overflow_add-result
overflow_add-result g c =
    let end = part_end c.args.layout c.args.shape c.args.part c.requires.layout c.requires.part
    (omega (arith, c.sample_count-count.ensures.value, c.sample_count-count.ensures.range)) in
    rw (c.unit.ensures.value, c.from.ensures) (omega (arith, end, c.in_ok-n.ensures.within, c.requires.room))

pub returns-clause-refused : goal.returns-clause-refused
returns-clause-refused g c =
    let buffer = c.fill.new.buffer in
    let long : length (take c.in_ok-n.n c.fill.new.buffer) ≡ c.in_ok-n.n =
    omega (arith, length-take c.in_ok-n.n c.fill.new.buffer, c.in_ok-n.ensures.within, c.fill.auto.buffer) in
    elim c.in_ok-n.ensures.whole [
      | inl all ↦ absurd (c.if-n-bytes.false (omega (arith, all, c.fill.auto.buffer)))
      | inr end ↦ inr (
        take c.in_ok-n.n c.fill.new.buffer,
        c.in_ok-n.ensures.given,
        end,
        rw long (omega (arith, c.in_ok-n.ensures.within, c.if-n-bytes.false, c.fill.auto.buffer, c.requires.room)),
        c.in_ok-n.ensures.worked,
        rw (c.length.ensures, c.unit.ensures.value, c.from.ensures, long) refl,
      )
    ]
