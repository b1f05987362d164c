use Rattle.std.proofs.Common.{arith, ◌≡◌, ◌+◌, ◌++◌, false, replicate, drop, ap, sym, ◌∙◌, ℕ}
use Rattle.header_bits.specs.Bits.{bits_of_bytes}
use Rattle.header_bits.proofs.Windows.{zeros_next, one_after, zeros_joined}
use Rattle.header_bits.proofs.bit_reader.zeros_ahead.Goals as goal

pub returns-then-run-some-clause-zeros : goal.returns-then-run-some-clause-zeros
returns-then-run-some-clause-zeros c =
    let next : ℕ = c.args.at + c.loop-zeros.zeros in
    let run : ℕ = c.from-run.result in
    let is : c.args.at + (c.loop-zeros.zeros + run) ≡ next + run = omega arith in
    let first : drop next (bits_of_bytes c.args.bytes.now) ≡ replicate run false ++ drop (next + run) (bits_of_bytes c.args.bytes.now) =
    zeros_next c.args.bytes.now next c.window_at.result run c.window_at.type_inv c.window_at.ensures (omega arith) (omega arith) (omega arith) in
    zeros_joined _ _ run (bits_of_bytes c.args.bytes.now) _ c.loop-zeros.invariant.zeros first
    ∙ ap (λ k. replicate (c.loop-zeros.zeros + run) false ++ drop k (bits_of_bytes c.args.bytes.now)) (sym is)

pub returns-then-run-some-clause-one : goal.returns-then-run-some-clause-one
returns-then-run-some-clause-one c = λ _.
    one_after _ _ _ _ _ c.window_at.type_inv c.window_at.ensures (omega arith) (omega arith) c.from-run.ensures

pub loop-zeros-preserved : goal.loop-zeros-preserved
loop-zeros-preserved c =
    let next : ℕ = c.args.at + c.loop-zeros.zeros in
    let some : ℕ = c.min-some.result in
    let is : c.args.at + (c.loop-zeros.zeros + some) ≡ next + some = omega arith in
    let first : drop next (bits_of_bytes c.args.bytes.now) ≡ replicate some false ++ drop (next + some) (bits_of_bytes c.args.bytes.now) =
    zeros_next c.args.bytes.now next c.window_at.result some c.window_at.type_inv c.window_at.ensures (omega arith) (omega arith) (omega arith) in
    record {
      within = omega (arith, c.min-some.ensures);
      zeros = zeros_joined _ _ some (bits_of_bytes c.args.bytes.now) _ c.loop-zeros.invariant.zeros first
          ∙ ap (λ k. replicate (c.loop-zeros.zeros + some) false ++ drop k (bits_of_bytes c.args.bytes.now)) (sym is);
    }
