use Rattle.std.proofs.Common.{arith}
use Rattle.coder_pipe.proofs.run.drain.Goals as goal

pub loop-q-preserved : goal.loop-q-preserved
loop-q-preserved g c = (cc, cc, cc)

pub rounds-preserved : goal.rounds-preserved
rounds-preserved g c = search

pub bounds-done_flags-q : goal.bounds-done_flags-q
bounds-done_flags-q g c = omega arith

pub skip_one-requires : goal.skip_one-requires
skip_one-requires g c = omega arith
