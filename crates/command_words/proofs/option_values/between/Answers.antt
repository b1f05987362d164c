use Rattle.std.proofs.Common.{refl, arith}
use Rattle.clap.specs.Matches.{found_of}
use Rattle.command_words.proofs.Numbers.{some_number, same_number, no_number}
use Rattle.command_words.proofs.option_values.between.Goals as goal

pub returns-in-Some-clause-read : goal.returns-in-Some-clause-read
returns-in-Some-clause-read c =
    some_number (found_of c.args.matches.now) c.args.name.now c.in-Some.number c.in-Some.ensures.none c.in-Some.ensures.value

pub returns-in_default-clause-refused : goal.returns-in_default-clause-refused
returns-in_default-clause-refused c = (
  refl,
  λ n has range.
      let same = same_number (found_of c.args.matches.now) c.args.name.now c.in-Some.number n c.in-Some.ensures.value has in
      absurd (omega (arith, same, range, c.if-number-most.false)),
)

pub returns-in_default-2-clause-refused : goal.returns-in_default-2-clause-refused
returns-in_default-2-clause-refused c = (
  refl,
  λ n has range.
      let same = same_number (found_of c.args.matches.now) c.args.name.now c.in-Some.number n c.in-Some.ensures.value has in
      absurd (omega (arith, same, range, c.if-least-number.false)),
)

pub returns-in_default-3-clause-refused : goal.returns-in_default-3-clause-refused
returns-in_default-3-clause-refused c = (
  refl,
  λ n has range.
      no_number (found_of c.args.matches.now) c.args.name.now n c.in_default.ensures.value has (omega (arith, range, c.ranges.most.fits)),
)
