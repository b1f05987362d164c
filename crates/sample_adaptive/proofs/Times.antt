-- Which number of its band stands at a place.
use Rattle.std.proofs.Common.{◌≡◌, ◌<◌, ◌≤◌, ℕ, suc, zero, List, length, take, get_or, Some, refl, sym, inl, inr, length-append, length-take}
use Rattle.std.proofs.Common.{eq-eqb, add-one, arith}
use Rattle.std.proofs.lemmas.Bool.{cases_eq, ne_eqb}
use Rattle.std.proofs.lemmas.List.{take_more, take_all}
use Rattle.std.specs.List.{slice_get}
use Rattle.std.proofs.lemmas.Option.{slice_get_within}
use Rattle.cube_core.specs.declared.order.Order.{Order}
use Rattle.cube_core.specs.declared.order.Place.{Place}
use Rattle.cube_core.specs.Along.{HasCome}
use Rattle.cube_core.specs.Shape.{Sizes, sample_count}
use Rattle.cube_core.specs.Order.{IsOrder, places}
use Rattle.cube_core.proofs.Come.{time_of, come_start, come_here, come_step, come_other}
use Rattle.cube_core.proofs.Keys.{index_of_item, order_is_by_key}
use Rattle.cube_core.proofs.Lists.{take_next}
use Rattle.cube_core.proofs.Orders.{StandsAt, item_from_index, length-places}
use Rattle.cube_core.proofs.Raws.{place_of}
use Rattle.sample_adaptive.specs.Body.{band_residuals}
use Rattle.sample_adaptive.proofs.Bodies.{band_push}

-- how many numbers band z has, of so many along the order
abbrev count_at : Sizes → Order → ℕ → ℕ → List ℕ → ℕ
count_at s o z i ns = length (band_residuals z (take i (places s o)) (take i ns))

-- a band has come as far along the walk as it has numbers
count_come : (s : Sizes) (o : Order) (z i : ℕ) (ns : List ℕ) → IsOrder s o → i ≤ sample_count s → i ≤ length ns → HasCome s o z i (count_at s o z i ns)
unfolding band_residuals
count_come s o z zero ns lawful le few = come_start s o z
count_come s o z (suc i) ns lawful le few =
    let next = place_of s o i lawful (omega (arith, le)) in
    let q : Place = next.0 in
    let more = take_next (places s o) i q (item_from_index s o q i lawful next.1.place next.1.index (omega (arith, le))) in
    let long : length (take i ns) ≡ length (take i (places s o)) = rw (length-take, length-take) (omega (arith, more.0, few)) in
    let before = count_come s o z i ns lawful (omega (arith, le)) (omega (arith, few)) in
    rw (← add-one, take_more ns i 0 (omega (arith, few)), more.1, band_push z (take i (places s o)) (take i ns) q (get_or ns i 0) long) (
    elim (cases_eq q.z z) [
      | inl same ↦ rw (eq-eqb q.z z same, length-append) (come_step s o z i (count_at s o z i ns) q lawful before next.1 same)
      | inr other ↦ rw (ne_eqb q.z z other) (come_other s o z i (count_at s o z i ns) q lawful before next.1 other)
    ]
    )

-- the number of a place is the one of its band that tells how many places the band has before it
pub number_of_place : (s : Sizes) (o : Order) (ns : List ℕ) (q : Place) → IsOrder s o → slice_get (places s o) (length ns) ≡ Some q
    → length (band_residuals q.z (take (length ns) (places s o)) ns) ≡ time_of s q
number_of_place s o ns q lawful at =
    let place = (order_is_by_key s o lawful).only (length ns) q at in
    let stands : StandsAt s o q (length ns) = record { place = place; index = index_of_item s o q (length ns) lawful at } in
    let few : length ns < sample_count s = omega (arith, slice_get_within (places s o) (length ns) q at, length-places s o lawful) in
    let come = rw (take_all (length ns) ns (omega arith)) at (count_come s o q.z (length ns) ns lawful (omega (arith, few)) (omega arith)) in
    sym (come_here s o q.z (length ns) (length (band_residuals q.z (take (length ns) (places s o)) ns)) q lawful come stands refl)
