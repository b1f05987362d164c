use Rattle.std.proofs.Common.{ℕ, List, length, length-append, ap, arith}
use Rattle.rtrb.specs.Ring.{received, known_items}
use Rattle.band_rings.proofs.settled.SettledLane.received_count.Goals as goal

pub returns : goal.returns
returns c =
    let both = ap (λ (x : List ℕ). length x) c.self.invariant.0 in
    let lengths = length-append (received c.self.inside.consumer) (known_items c.self.inside.consumer) in
    rw (← c.self.view_is) (omega (arith, c.sent_count.ensures, both, c.self.invariant.1, lengths))
