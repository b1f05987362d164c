use Rattle.std.proofs.Common.{ap₂, ◌≡◌, ◌+◌, ◌*◌, ◌∷◌, rules, refl, sym, ap, List, drop}
use Rattle.cube_core.specs.declared.order.Place.{Place}
use Rattle.file_encoding.proofs.Runs.{rows_after}
use Rattle.file_encoding.proofs.Endings.{may_take, coded_more}
use Rattle.file_encoding.proofs.file_encoder.FileEncoder.put.Goals as goal

pub put-requires : goal.put-requires
put-requires c = rw (← c.self.view_is) at (may_take _ _ _ c.requires.next c.requires.may)

pub returns-clause-coded : goal.returns-clause-coded
returns-clause-coded c =
    let moved : c.args.self.now.left ≡ c.args.place ∷ c.next.new.self = search rules in
    let time = ap₂ (λ y x. y * c.self.inside.columns + x) c.from.ensures c.from-2.ensures in
    rw (← c.self.view_is) (coded_more _ _ _ _ _ (rw (← c.self.view_is) at moved) time refl refl c.in_ok-put.ensures.taken)

pub invariant_of-self-2 : goal.invariant_of-self-2
invariant_of-self-2 c =
    let moved : c.self.inside.places ≡ c.args.place ∷ c.next.new.self = search rules in
    (c.self.invariant.0, λ by. rows_after _ 1 _ _ (sym (ap (λ (qs : List Place). drop 1 qs) moved)) (c.self.invariant.1 by))
