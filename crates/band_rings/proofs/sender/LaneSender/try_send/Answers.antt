use Rattle.std.proofs.Common.{arith, refl}
use Rattle.band_rings.proofs.sender.LaneSender.try_send.Goals as goal

pub returns-then-self-clause-below : goal.returns-then-self-clause-below
returns-then-self-clause-below c = rw (← c.self.view_is) (λ below few. absurd (omega (arith, below)))

pub returns-then-self-clause-free : goal.returns-then-self-clause-free
returns-then-self-clause-free c = rw (← c.self.view_is) (λ below some. absurd (omega (arith, below)))

pub returns-in-Err-Full-clause-sent : goal.returns-in-Err-Full-clause-sent
returns-in-Err-Full-clause-sent c = tt

pub returns-in-Err-Full-clause-most : goal.returns-in-Err-Full-clause-most
returns-in-Err-Full-clause-most c most = refl
