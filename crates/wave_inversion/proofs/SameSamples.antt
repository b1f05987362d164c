-- Cubes with the same residual at a place, and the same samples before it, have the same sample there.
use Rattle.std.proofs.Common.{◌≡◌, ◌+◌, ◌*◌, ℕ, suc, ℤ, sym, ap, ◌∙◌, refl, arith}
use Rattle.std.proofs.Math.Arith.{digits_lt}
use Rattle.cube_core.specs.declared.order.Place.{Place}
use Rattle.cube_core.specs.Shape.{Sizes}
use Rattle.cube_core.specs.Kind.{IsSample, smin, smax}
use Rattle.cube_core.specs.Image.{Image, IsCube, IsPlace, sample_at}
use Rattle.header_bits.specs.declared.params.Params.{Params}
use Rattle.header_bits.specs.Lawful.{IsLawful}
use Rattle.sample_prediction.specs.Prediction.{scaled_prediction}
use Rattle.sample_prediction.specs.Mapping.{unmapped_between}
use Rattle.sample_prediction.specs.Residual.{mapped, mapped_residual}
use Rattle.sample_prediction.proofs.OneSample.{sample_back}
use Rattle.predict_core.specs.Precedence.{Agree}
use Rattle.predict_core.proofs.Following.{mapped_at}
use Rattle.predict_core.proofs.Frame.{scaled_same}
use Rattle.predict_core.proofs.Kept.{wide_of}
use Rattle.predict_core.proofs.OneCube.{scaled_inside}
use Rattle.predict_core.proofs.Ranges.{sample_within}

module _ (p : Params) (c d : Image) (lawful : IsLawful p) (shape : c.shape ≡ p.shape) (one : IsCube c) (other : IsCube d) (z y x : ℕ)
    (place : IsPlace c.shape z y x) where
  abbrev t : ℕ
  t = y * c.shape.columns + x

  module _ (agree : Agree c d z t (suc t)) where
    pub same_scaled : scaled_prediction p c z t ≡ scaled_prediction p d z t
    same_scaled =
        scaled_same p c d z place.band (let q = place.column in omega arith) (wide_of p c lawful shape) t (digits_lt place.row place.column) agree

    -- a number that is the residual of both is one of the same sample
    pub same_sample : mapped_residual p c z t ≡ mapped_residual p d z t → sample_at c z y x ≡ sample_at d z y x
    same_sample same =
        let q : Place = record { z = z; y = y; x = x } in let value : ℤ = scaled_prediction p c z t in
        let columns : c.shape.columns ≡ d.shape.columns = ap (λ (s : Sizes). s.columns) agree.alike.shape in
        let here = mapped_at p c q t refl place.column in
        let there = mapped_at p d q t (ap (λ (n : ℕ). y * n + x) columns) (omega (arith, columns, place.column)) in
        let number : mapped c.kind value (sample_at c z y x) ≡ mapped c.kind value (sample_at d z y x) =
        sym here ∙ same ∙ there ∙ rw (same_scaled, agree.alike.kind) refl in
        let yours : IsSample c.kind (sample_at d z y x) = rw agree.alike.kind (sample_within d other _ _ _ (rw agree.alike.shape at place)) in
        let back = sample_back (smin c.kind) (smax c.kind) value (scaled_inside p c z t one place.band).0 (scaled_inside p c z t one place.band).1 in
        sym (back _ (sample_within c one _ _ _ place)) ∙ ap (unmapped_between (smin c.kind) (smax c.kind) value) number ∙ back _ yours
