use Rattle.std.proofs.Common.{ℤ, List, codes, SFits, w32, to_z, of_z, to_z-of_z, arith, subst, sym}
use Rattle.std.proofs.lemmas.Int.{ints}
use Rattle.header_bits.specs.Lawful.{IsExponent}
use Rattle.command_words.specs.Reading.{HasExponent}
use Rattle.clap.specs.Matches.{found_of}
use Rattle.clap.specs.Walk.{Row, Text, rows_of}
use Rattle.command_words.proofs.Refused.{passed}
use Rattle.command_words.proofs.words.params.Goals as goal

pub returns-in_err-shape-clause-refused : goal.returns-in_err-shape-clause-refused
returns-in_err-shape-clause-refused c =
    passed _ _ _ c.from_residual.ensures.1 (c.in_err-shape.ensures.refused.0, λ p of ranges. c.in_err-shape.ensures.refused.1 p.shape of.shape ranges.sizes)

pub returns-in_err-kind-clause-refused : goal.returns-in_err-kind-clause-refused
returns-in_err-kind-clause-refused c = passed _ _ _ c.from_residual-in_err-kind.ensures.1
    (c.in_err-kind.ensures.refused.0, λ p of ranges. c.in_err-kind.ensures.refused.1 p.kind of.kind ranges.kind)

pub returns-in_err-order-clause-refused : goal.returns-in_err-order-clause-refused
returns-in_err-order-clause-refused c = passed _ _ _ c.from_residual-in_err-order.ensures.1
    (c.in_err-order.ensures.refused.0, λ p of ranges. c.in_err-order.ensures.refused.1 p.order of.order ranges.depth)

pub returns-in_err-number-clause-refused : goal.returns-in_err-number-clause-refused
returns-in_err-number-clause-refused c = passed _ _ _ c.from_residual-in_err-number.ensures.1
    (c.in_err-number.ensures.refused.0, λ p of ranges. c.in_err-number.ensures.refused.1 p.user of.user (omega arith, ranges.user))

pub returns-in_err-number-2-clause-refused : goal.returns-in_err-number-2-clause-refused
returns-in_err-number-2-clause-refused c = passed _ _ _ c.from_residual-in_err-number-2.ensures.1
    (c.in_err-number-2.ensures.refused.0, λ p of ranges. c.in_err-number-2.ensures.refused.1 p.word of.word ranges.word)

pub returns-in_err-number-3-clause-refused : goal.returns-in_err-number-3-clause-refused
returns-in_err-number-3-clause-refused c = passed _ _ _ c.from_residual-in_err-number-3.ensures.1
    (c.in_err-number-3.ensures.refused.0, λ p of ranges. c.in_err-number-3.ensures.refused.1 p.previous of.previous (omega arith, ranges.previous))

pub returns-in_err-number-4-clause-refused : goal.returns-in_err-number-4-clause-refused
returns-in_err-number-4-clause-refused c = passed _ _ _ c.from_residual-in_err-number-4.ensures.1
    (c.in_err-number-4.ensures.refused.0, λ p of ranges. c.in_err-number-4.ensures.refused.1 p.register of.register ranges.register)

pub returns-in_err-number-5-clause-refused : goal.returns-in_err-number-5-clause-refused
returns-in_err-number-5-clause-refused c = passed _ _ _ c.from_residual-in_err-number-5.ensures.1
    (c.in_err-number-5.ensures.refused.0, λ p of ranges. c.in_err-number-5.ensures.refused.1 p.omega of.omega ranges.omega)

pub returns-in_err-number_in-clause-refused : goal.returns-in_err-number_in-clause-refused
returns-in_err-number_in-clause-refused c = passed _ _ _ c.from_residual-in_err-number_in.ensures.1
    (c.in_err-number_in.ensures.refused.0, λ p of ranges. c.in_err-number_in.ensures.refused.1 p.interval_log of.interval ranges.interval)

pub returns-in_err-exponent-clause-refused : goal.returns-in_err-exponent-clause-refused
returns-in_err-exponent-clause-refused c = passed _ _ _ c.from_residual-in_err-exponent.ensures.1
    (c.in_err-exponent.ensures.refused.0, λ p of ranges. c.in_err-exponent.ensures.refused.1 p.vmin of.vmin ranges.vmin)

pub returns-in_err-exponent-2-clause-refused : goal.returns-in_err-exponent-2-clause-refused
returns-in_err-exponent-2-clause-refused c = passed _ _ _ c.from_residual-in_err-exponent-2.ensures.1
    (c.in_err-exponent-2.ensures.refused.0, λ p of ranges. c.in_err-exponent-2.ensures.refused.1 p.vmax of.vmax ranges.vmax)

pub returns-in_err-coder-clause-refused : goal.returns-in_err-coder-clause-refused
returns-in_err-coder-clause-refused c =
    passed _ _ _ c.from_residual-in_err-coder.ensures.1 (c.in_err-coder.ensures.refused.0, λ p of ranges. c.in_err-coder.ensures.refused.1 p.coder of.coder)

-- an exponent is kept as a word of 32 bits
as_word : (rows : List Row) (name : Text) (v : ℤ) → IsExponent v → HasExponent rows name v → HasExponent rows name (to_z w32 (of_z w32 v))
as_word rows name v range read =
    let fits : SFits w32 v = omega (arith, ints, range) in
    subst (λ n. HasExponent rows name n) (sym (to_z-of_z fits)) read

pub returns-clause-read : goal.returns-clause-read
returns-clause-read c = record {
  shape = c.in_ok-shape.ensures.read;
  kind = c.in_ok-kind.ensures.read;
  order = c.in_ok-order.ensures.read;
  user = c.in_ok-number.ensures.read;
  word = c.in_ok-number-2.ensures.read;
  previous = c.in_ok-number-3.ensures.read;
  reduced = c.flag.ensures;
  column = c.flag-2.ensures;
  register = c.in_ok-number-4.ensures.read;
  omega = c.in_ok-number-5.ensures.read;
  interval = c.in_ok-number_in.ensures.read;
  vmin =
      as_word (rows_of (found_of c.args.matches.now)) (codes "vmin-code") c.in_ok-exponent.field-0 c.in_ok-exponent.ensures.range c.in_ok-exponent.ensures.read;
  vmax = as_word (rows_of (found_of c.args.matches.now))
      (codes "vmax-code") c.in_ok-exponent-2.field-0 c.in_ok-exponent-2.ensures.range c.in_ok-exponent-2.ensures.read;
  coder = c.in_ok-coder.ensures.read;
}
