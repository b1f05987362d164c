-- Samples of images, place by place.
use Rattle.std.proofs.Common.{◌≡◌, ℤ, pos, List, refl, sym, ap, ◌∙◌, arith}
use Rattle.std.proofs.lemmas.List.{ext_get_or, get_or-set_other}
use Rattle.cube_core.proofs.Words.{Bsq, Place, Image, IsCube, sample_at, index_in, put, SampleKind, IsPlaceOf, Sizes, sample_count}
use Rattle.cube_core.proofs.Raws.{place_of, same_place}
use Rattle.cube_core.proofs.Walks.{sequential_index}

-- places with one index in the list of samples are one, so another sample at one place changes none at others
pub put_other : (c : Image) (q r : Place) (v : ℤ) → IsPlaceOf c.shape q → IsPlaceOf c.shape r → (q ≡ r → ⊥)
    → sample_at c r.z r.y r.x ≡ sample_at (put c q.z q.y q.x v) r.z r.y r.x
unfolding sample_at
put_other c q r v a b apart =
    sym (get_or-set_other c.samples (index_in c.shape.columns c.shape.rows q.z q.y q.x) (index_in c.shape.columns c.shape.rows r.z r.y r.x) v (pos 0)
    (λ e. apart (same_place _ _ _ _ tt a b (sequential_index _ _ ∙ sym e ∙ sym (sequential_index _ _)))))

same_fields : (c : Image) (s : Sizes) (k : SampleKind) (samples : List ℤ) → c.shape ≡ s → c.kind ≡ k → c.samples ≡ samples
    → c ≡ record { shape = s; kind = k; samples = samples }
same_fields c s k samples a b e = rw (← a, ← b, ← e) refl

-- cubes with the same sample at each place are one
pub same_cube : (c d : Image) → c.shape ≡ d.shape → c.kind ≡ d.kind → IsCube c → IsCube d
    → ((q : Place) → IsPlaceOf c.shape q → sample_at c q.z q.y q.x ≡ sample_at d q.z q.y q.x) → c ≡ d
unfolding sample_at
same_cube c d shape kind one other same = same_fields c _ _ _ shape kind samples
  where
    samples : c.samples ≡ d.samples
    samples =
        ext_get_or (pos 0) c.samples d.samples (one.whole ∙ ap sample_count shape ∙ sym other.whole)
        (λ i lt.
        let place = place_of c.shape Bsq i tt (omega (arith, lt, one.whole)) in
        let at : index_in c.shape.columns c.shape.rows place.0.z place.0.y place.0.x ≡ i = sym (sequential_index c.shape place.0) ∙ place.1.index in
        let there = ap (λ (s : Sizes). index_in s.columns s.rows place.0.z place.0.y place.0.x) (sym shape) ∙ at in
        rw (at, there) at (same place.0 place.1.place))
