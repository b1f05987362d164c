-- Images that are one at all places up to one in the order: the residuals there, and the bands that follow, are those of both.
use Rattle.std.proofs.Common.{◌≡◌, ◌+◌, ◌*◌, ◌<◌, ◌≤◌, ℕ, suc, ℤ, false, List, refl, ap, ◌∙◌, arith}
use Rattle.std.proofs.Math.Arith.{digits_lt}
use Rattle.cube_core.specs.declared.order.Place.{Place}
use Rattle.cube_core.specs.Shape.{Sizes}
use Rattle.cube_core.specs.Image.{Image, put}
use Rattle.cube_core.specs.Order.{IsOrder, IsPlaceOf, place_index}
use Rattle.cube_core.specs.Along.{HasCome}
use Rattle.cube_core.proofs.Keys.{order_is_by_key, index_of_item}
use Rattle.cube_core.proofs.Come.{time_of}
use Rattle.cube_core.proofs.Orders.{StandsAt}
use Rattle.cube_core.proofs.Images.{put_other}
use Rattle.cube_core.proofs.Lists.{map_taken_same}
use Rattle.header_bits.specs.declared.params.Params.{Params}
use Rattle.header_bits.specs.Lawful.{IsLawful}
use Rattle.predict_core.specs.Precedence.{AreAlike, Agree, SameBefore}
use Rattle.sample_prediction.specs.Residual.{mapped_residual}
use Rattle.predict_core.specs.Following.{PredictorState, Follows}
use Rattle.predict_core.specs.RunPlaces.{AreAlikeBeside}
use Rattle.predict_core.specs.Walked.{IsAlong, residuals_at}
use Rattle.predict_core.proofs.Earlier.{low_index}
use Rattle.predict_core.proofs.Frame.{weights_same, residual_same}
use Rattle.predict_core.proofs.Walking.{gone_by, gone_count}

pub wide_of : (p : Params) (c : Image) → IsLawful p → c.shape ≡ p.shape → p.column ≡ false → 2 ≤ c.shape.columns
wide_of p c lawful shape h = rw shape (lawful.sums h)

some_of : (p : Params) (c : Image) → IsLawful p → c.shape ≡ p.shape → 0 < c.shape.columns
some_of p c lawful shape = rw shape lawful.sizes.columns.0

-- a band follows each image that is one with its own as far as the band has come
pub along_same : {p : Params} {c d : Image} {i z : ℕ} {f : PredictorState} → IsLawful p → c.shape ≡ p.shape → z < p.shape.bands → IsAlong p c i z f
    → Agree c d z f.t f.t → IsAlong p d i z f
along_same {p} {c} lawful shape band along agree = record {
  band = along.band;
  inside = along.inside;
  follows = record {
    made = along.follows.made;
    weights = along.follows.weights
        ∙ rw along.band (weights_same _ _ _ _ (rw shape band) (some_of p c lawful shape) (wide_of p c lawful shape) _ (rw shape along.inside) agree);
  };
  come = along.come;
}

-- images that are one beside a run of a band from its next place on are so at all places before it
pub same_beside : {p : Params} {c d : Image} {i z y x n : ℕ} {f : PredictorState} → c.shape ≡ p.shape → IsAlong p c i z f → f.t ≡ y * p.shape.columns + x
    → AreAlikeBeside c d f.band y x n → SameBefore p.order c d i
same_beside {p} {c} shape along next beside r there before = beside.samples r.z r.y r.x there (λ own row column.
    let early = (along.come r (rw shape at there) (own ∙ along.band)).0 (rw shape at before) in let line = ap (λ (n : ℕ). n * p.shape.columns) row in
    absurd (omega (arith, early, next, line, column)))

module _ {p : Params} {c d : Image} (lawful : IsLawful p) (shape : c.shape ≡ p.shape) (alike : AreAlike c d) where
  order_kept : IsOrder c.shape p.order
  order_kept = rw shape lawful.order

  -- where the first t places of a band, and of those below it, stand before i
  agree_first : (i z t : ℕ) → ((r : Place) → IsPlaceOf c.shape r → r.z ≤ z → time_of c.shape r < t → place_index c.shape p.order r < i)
      → SameBefore p.order c d i → Agree c d z t t
  agree_first i z t first same = record {
    alike = alike;
    own = λ y x there lt. same _ there (first _ there (omega arith) lt);
    under = λ z' y x there below lt. same _ there (first _ there (omega arith) lt);
  }

  pub along_kept : {i z : ℕ} {f : PredictorState} → SameBefore p.order c d i → z < p.shape.bands → IsAlong p c i z f → IsAlong p d i z f
  along_kept {i} {z} {f} same band along =
      along_same lawful shape band along
      (agree_first _ _ _ (λ r there low lt.
      let over : IsPlaceOf c.shape (record { z = z; y = r.y; x = r.x }) = record { band = rw shape band; row = there.row; column = there.column } in
      let come : HasCome c.shape p.order z i f.t = rw shape along.come in
      omega (arith, (come _ over refl).1 lt, low_index c.shape p.order r _ order_kept there over low (omega arith))) same)

  pub residuals_same : (left : List Place) → SameBefore p.order c d (gone_count p left) → residuals_at p c (gone_by p left) ≡ residuals_at p d (gone_by p left)
  residuals_same left same =
      map_taken_same (λ r. mapped_residual p c r.z (r.y * c.shape.columns + r.x)) (λ r. mapped_residual p d r.z (r.y * d.shape.columns + r.x)) _ _
      (λ j q lt e.
      let place : IsPlaceOf c.shape q = rw shape ((order_is_by_key p.shape p.order lawful.order).only j q e) in
      let index = ap (λ (s : Sizes). place_index s p.order q) shape ∙ index_of_item p.shape p.order q j lawful.order e in
      let agree = agree_first _ q.z (suc (time_of c.shape q)) (λ r there low le.
      omega (arith, lt, index, low_index c.shape p.order r q order_kept there place low (omega arith))) same in
      residual_same p c d q.z place.band (some_of p c lawful shape) (wide_of p c lawful shape) _ (digits_lt place.row place.column) agree
      ∙ ap (λ (s : Sizes). mapped_residual p d q.z (q.y * s.columns + q.x)) alike.shape)

-- ---- an image with another sample at one place

module _ (p : Params) (c : Image) (q : Place) (v : ℤ) where
  -- the places before it stay
  put_same : (i : ℕ) → c.shape ≡ p.shape → StandsAt p.shape p.order q i → SameBefore p.order c (put c q.z q.y q.x v) i
  put_same i shape stands r there lt =
      let at : StandsAt c.shape p.order q i = rw shape stands in
      put_other _ _ _ _ at.place there (λ h. omega (arith, lt, at.index, ap (place_index c.shape p.order) h))

  pub residuals_kept : (left : List Place) → IsLawful p → c.shape ≡ p.shape → StandsAt p.shape p.order q (gone_count p left)
      → residuals_at p c (gone_by p left) ≡ residuals_at p (put c q.z q.y q.x v) (gone_by p left)
  residuals_kept left lawful shape stands = residuals_same lawful shape (record { shape = refl; kind = refl }) _ (put_same (gone_count p left) shape stands)

  -- a band that isn't at its turn follows it, too
  pub others_follow : (i z : ℕ) (f : PredictorState) → IsLawful p → c.shape ≡ p.shape → StandsAt p.shape p.order q i
      → z < p.shape.bands → IsAlong p c i z f → Follows p f (put c q.z q.y q.x v)
  others_follow i z f lawful shape stands band along =
      (along_kept lawful shape (record { shape = refl; kind = refl }) (put_same i shape stands) band along).follows
