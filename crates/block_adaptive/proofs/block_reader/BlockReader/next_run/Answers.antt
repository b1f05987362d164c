use Rattle.std.proofs.Common.{◌≤◌, ◌++◌, ◌∙◌, ℕ, List, length, take, sym, subst, arith, rules}
use Rattle.std.proofs.lemmas.List.{take_all}
use Rattle.std.proofs.lemmas.Result.{err_from_is_err_and}
use Rattle.block_adaptive.specs.Given.{GivesAll}
use Rattle.block_adaptive.proofs.Runs.{runs_joined, run_refused}
use Rattle.block_adaptive.proofs.block_reader.BlockReader.next_run.Goals as goal
use Rattle.block_adaptive.proofs.Places.{written_more}

pub returns-in_err-done-clause-given : goal.returns-in_err-done-clause-given
returns-in_err-done-clause-given c =
    let p = err_from_is_err_and c.from_residual.result c.from_residual.ensures.1 in
    let was = c.loop-done.invariant in
    rw (p.1, p.2) (λ given bits h. run_refused c.args.self.now c.loop-done.self c.args.reader.now.count c.loop-done.reader.count
    (take c.loop-done.done c.loop-done.numbers) given bits c.args.reader.now.left c.loop-done.reader.left c.in_err-done.field-0.0 was.cut was.count
    (was.given given bits h) c.in_err-done.ensures.body)

pub loop-done-preserved : goal.loop-done-preserved
loop-done-preserved c =
    let was = c.loop-done.invariant in
    let first : List ℕ = take c.loop-done.done c.loop-done.numbers in
    let more : List ℕ = take c.in_ok-done.field-0 c.next_some.new.numbers in
    let few : c.in_ok-done.field-0 ≤ length c.next_some.new.numbers = omega (arith, c.in_ok-done.ensures.some, c.next_some.auto.numbers) in
    let list = written_more _ _ _ _ _ was.within few in
    record {
      given = λ given bits h.
          let here = was.given given bits h in
          subst (λ (ns : List ℕ). GivesAll c.args.self.now given bits c.args.reader.now.left c.next_some.new.self c.next_some.new.reader.left ns) (sym list)
          (runs_joined c.args.self.now _ _ given _ _ bits _ _ _ was.cut here (c.in_ok-done.ensures.given (given ++ first) (bits ++ here.1) here.3));
      counted = omega (arith, was.counted, c.in_ok-done.ensures.counted);
      working = c.in_ok-done.ensures.working ∙ was.working;
      cut = c.in_ok-done.ensures.cut ∙ was.cut;
      inside = c.in_ok-done.ensures.inside;
      count = c.in_ok-done.ensures.count ∙ was.count;
      within = search rules;
      long = search rules;
    }

pub returns-clause-given : goal.returns-clause-given
returns-clause-given c = λ given bits h.
    let was = c.loop-done.invariant in
    subst (λ (ns : List ℕ). GivesAll c.args.self.now given bits c.args.reader.now.left c.loop-done.self c.loop-done.reader.left ns)
    (take_all _ _ (omega (arith, c.loop-done-test.false))) (was.given given bits h)
