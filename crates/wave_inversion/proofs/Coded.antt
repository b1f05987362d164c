-- For each image of numbers below 2^D there is a cube of which they are the mapped residuals.
use Rattle.std.proofs.Common.{◌≡◌, ◌+◌, ◌*◌, ◌<◌, ◌^◌, ℕ, ℤ, pos, ◌+ℤ◌, ◌-ℤ◌, sym, ap, ◌∙◌, arith, unsigned_abs, List, length, map, Some}
use Rattle.std.proofs.lemmas.List.{length-map, take_all}
use Rattle.std.specs.List.{slice_get}
use Rattle.std.proofs.lemmas.Int.{ints}
use Rattle.cube_core.specs.declared.order.Place.{Place}
use Rattle.cube_core.specs.Shape.{Sizes, sample_count}
use Rattle.cube_core.specs.Kind.{SampleKind, smin, sample_of}
use Rattle.cube_core.specs.Image.{Image, IsCube, IsPlace, sample_at}
use Rattle.cube_core.specs.Order.{IsOrder, IsPlaceOf, places, place_index}
use Rattle.cube_core.proofs.Keys.{order_is_by_key, item_of_index}
use Rattle.cube_core.proofs.Lists.{all_mapped, map_same, map_taken_same}
use Rattle.cube_core.proofs.Orders.{length-places}
use Rattle.header_bits.specs.declared.params.Params.{Params}
use Rattle.header_bits.specs.Lawful.{IsLawful}
use Rattle.sample_prediction.specs.Residual.{mapped_residual, residuals}
use Rattle.sample_prediction.proofs.Spans.{span}
use Rattle.predict_core.specs.Cubes.{IsCubeOf}
use Rattle.wave_inversion.specs.Inversion.{IsCoded}
use Rattle.predict_core.specs.Offsets.{number_at}
use Rattle.predict_core.proofs.Built.{built}
use Rattle.predict_core.proofs.Ranges.{sample_within}

-- what a cube holds at a place, as an offset
pub number_below : (c : Image) (z y x : ℕ) → IsCube c → IsPlace c.shape z y x → number_at c z y x < 2 ^ c.kind.bits
number_below c z y x cube place =
    let within = sample_within c cube z y x place in let width = span c.kind cube.bits in omega (arith, ints, within.0, within.1, width)

pub number_is : (c : Image) (z y x : ℕ) → IsCube c → IsPlace c.shape z y x → sample_at c z y x ≡ sample_of c.kind (number_at c z y x)
number_is c z y x cube place = let within = sample_within c cube z y x place in omega (arith, ints, within.0)

-- the cube of the numbers
module _ (p : Params) (c : Image) (lawful : IsLawful p) (shape : c.shape ≡ p.shape) (kind : c.kind ≡ p.kind) (cube : IsCube c) where
  order : IsOrder c.shape p.order
  order = rw shape lawful.order

  abbrev numbers : List ℕ
  numbers = map (λ q. number_at c q.z q.y q.x) (places p.shape p.order)

  coded_by : (d : Image) → IsCubeOf p d → residuals p d ≡ numbers → IsCoded p c d
  unfolding residuals
  coded_by d cubes same =
      let alike : c.shape ≡ d.shape = shape ∙ sym cubes.shape in
      let lists = same ∙ ap (λ (s : Sizes). map (λ r. number_at c r.z r.y r.x) (places s p.order)) (sym cubes.shape) in
      let lawful_order : IsOrder d.shape p.order = rw cubes.shape lawful.order in
      record {
        cube = cubes;
        alike = record { shape = alike; kind = kind ∙ sym cubes.kind };
        residual = λ z y x place.
            let q : Place = record { z = z; y = y; x = x } in
            let there : IsPlaceOf d.shape q = rw alike at place in
            let at = map_same (λ r. mapped_residual p d r.z (r.y * d.shape.columns + r.x)) (λ r. number_at c r.z r.y r.x) (places d.shape p.order)
            (place_index d.shape p.order q) q lists (item_of_index d.shape p.order q lawful_order there) in
            number_is c z y x cube place
            ∙ ap (sample_of c.kind) (sym at ∙ ap (λ (s : Sizes). mapped_residual p d z (y * s.columns + x)) (sym alike));
      }

  pub coded_cube : (d : Image) × IsCoded p c d
  coded_cube =
      let long : length numbers ≡ sample_count p.shape =
      length-map (places p.shape p.order) (λ q. number_at c q.z q.y q.x) ∙ length-places p.shape p.order lawful.order in
      let bits = ap (λ (k : SampleKind). 2 ^ k.bits) kind in
      let below = all_mapped (λ n. n < 2 ^ p.kind.bits) (λ q. number_at c q.z q.y q.x) (places p.shape p.order)
      (λ i q e. let small = number_below c q.z q.y q.x cube (rw shape ((order_is_by_key p.shape p.order lawful.order).only i q e)) in
      omega (arith, bits, small)) in
      let found = built p numbers lawful long below in
      (found.image, coded_by found.image found.cube found.same)

-- the residuals of a cube, in encoding order, are the numbers that stand in the place of its samples
pub coded_residuals : (p : Params) (c d : Image) → IsLawful p → c.shape ≡ p.shape → IsCoded p c d
    → residuals p d ≡ map (λ q. number_at c q.z q.y q.x) (places p.shape p.order)
unfolding residuals
coded_residuals p c d lawful shape coded =
    let same : (i : ℕ) (q : Place) → i < length (places p.shape p.order) → slice_get (places p.shape p.order) i ≡ Some q
    → mapped_residual p d q.z (q.y * d.shape.columns + q.x) ≡ number_at c q.z q.y q.x =
    (λ i q lt item.
    let place : IsPlaceOf c.shape q = rw shape ((order_is_by_key p.shape p.order lawful.order).only i q item) in
    let time = ap (λ (s : Sizes). mapped_residual p d q.z (q.y * s.columns + q.x)) coded.alike.shape in
    sym (ap (λ (v : ℤ). unsigned_abs (v -ℤ smin c.kind)) (coded.residual q.z q.y q.x place)
    ∙ offset_back (smin c.kind) _ ∙ time)) in
    let all = map_taken_same (λ q. mapped_residual p d q.z (q.y * d.shape.columns + q.x)) (λ q. number_at c q.z q.y q.x)
    (length (places p.shape p.order)) (places p.shape p.order) same in
    let whole = take_all (length (places p.shape p.order)) (places p.shape p.order) (omega arith) in
    ap (λ (s : Sizes). map (λ q. mapped_residual p d q.z (q.y * d.shape.columns + q.x)) (places s p.order)) coded.cube.shape
    ∙ (rw whole at all)
  where
    offset_back : (least : ℤ) (n : ℕ) → unsigned_abs ((least +ℤ pos n) -ℤ least) ≡ n
    offset_back least n = omega (arith, ints)
