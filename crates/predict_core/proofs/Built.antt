-- A cube is built of any residuals.
use Rattle.std.proofs.Common.{◌≡◌, ◌+◌, ◌*◌, ◌<◌, ◌≤◌, ◌^◌, ℕ, ℤ, pos, false, List, [], ◌∷◌, ◌++◌, length, drop, set, replicate, get_or, refl, sym, ap}
use Rattle.std.proofs.Common.{◌∙◌, subst, inl, inr, append-nil, append_assoc, arith}
use Rattle.std.specs.List.{AllByRecursion}
use Rattle.std.proofs.lemmas.List.{get_or-set_same, get_or-set_other, get_or-replicate, length-set, length-replicate}
use Rattle.std.proofs.lemmas.Bool.{cases_eq}
use Rattle.cube_core.specs.declared.order.Place.{Place}
use Rattle.cube_core.specs.Shape.{sample_count}
use Rattle.cube_core.specs.Kind.{SampleKind, IsSample, smid}
use Rattle.cube_core.specs.Image.{Image, IsCube, index_in, put}
use Rattle.cube_core.specs.Order.{IsPlaceOf, places}
use Rattle.cube_core.proofs.Bounds.{least_inside, middle_inside}
use Rattle.cube_core.proofs.Orders.{length-places}
use Rattle.header_bits.specs.declared.params.Params.{Params}
use Rattle.header_bits.specs.Lawful.{IsLawful}
use Rattle.sample_prediction.specs.Prediction.{scaled_prediction}
use Rattle.sample_prediction.specs.Residual.{mapped_residual, residuals}
use Rattle.sample_prediction.proofs.OneSample.{one_sample_lem}
use Rattle.predict_core.specs.Walked.{residuals_at}
use Rattle.predict_core.proofs.Walking.{next_goes, gone_by, gone_count, residuals_push, residuals_whole}
use Rattle.predict_core.specs.Cubes.{IsCubeOf}
use Rattle.predict_core.proofs.Inverting.{put_residual}
use Rattle.predict_core.proofs.Kept.{wide_of, residuals_kept}
use Rattle.predict_core.proofs.OneCube.{scaled_inside}

-- ---- another sample

set_range : (k : SampleKind) (xs : List ℤ) (i : ℕ) (v : ℤ) → IsSample k v → ((j : ℕ) → j < length xs → IsSample k (get_or xs j (pos 0))) → (j : ℕ)
    → j < length (set xs i v) → IsSample k (get_or (set xs i v) j (pos 0))
set_range k xs i v s h j lt =
    let inside : j < length xs = rw length-set at lt in
    elim (cases_eq j i) [
      | inl e ↦ rw (e, get_or-set_same xs i v (pos 0) (rw e at inside)) s
      | inr e ↦ rw (get_or-set_other xs i j v (pos 0) e) (h j inside)
    ]

put_cube : (c : Image) (q : Place) (v : ℤ) → IsCube c → IsSample c.kind v → IsCube (put c q.z q.y q.x v)
put_cube c q v cube s = record {
  sizes = cube.sizes;
  bits = cube.bits;
  whole = length-set c.samples (index_in c.shape.columns c.shape.rows q.z q.y q.x) v ∙ cube.whole;
  range = set_range c.kind c.samples (index_in c.shape.columns c.shape.rows q.z q.y q.x) v s cube.range;
}

-- a sample that has this residual at the place that comes next
record HasResidual (p : Params) (c : Image) (q : Place) (n : ℕ) : Type 0 where
  sample : ℤ
  inside : IsSample c.kind sample
  residual : mapped_residual p (put c q.z q.y q.x sample) q.z (q.y * c.shape.columns + q.x) ≡ n

has_residual : (p : Params) (c : Image) (q : Place) (n : ℕ) → (p.column ≡ false → 2 ≤ c.shape.columns) → IsCube c → IsPlaceOf c.shape q → n < 2 ^ c.kind.bits
    → HasResidual p c q n
has_residual p c q n wide cube place lt =
    let scaled : ℤ = scaled_prediction p c q.z (q.y * c.shape.columns + q.x) in
    let found = (one_sample_lem c.kind scaled cube.bits (scaled_inside p c q.z _ cube place.band)).1 n lt in
    record { sample = found.0; inside = found.1; residual = put_residual c q.z q.y q.x found.0 place cube.whole p wide ∙ found.2 }

-- ---- sample after sample

-- a cube of the parameters with these residuals
pub record Built (p : Params) (numbers : List ℕ) : Type 0 where
  pub image : Image
  pub cube : IsCubeOf p image
  pub same : residuals p image ≡ numbers

pushed : (p : Params) (c : Image) (q : Place) (left : List Place) (n : ℕ) → IsLawful p → c.shape ≡ p.shape
    → q ∷ left ≡ drop (gone_count p (q ∷ left)) (places p.shape p.order) → (h : HasResidual p c q n)
    → residuals_at p (put c q.z q.y q.x h.sample) (gone_by p left) ≡ residuals_at p c (gone_by p (q ∷ left)) ++ n ∷ []
pushed p c q left n lawful shape is h =
    let goes = next_goes p q (q ∷ left) left lawful.order is refl in
    let d : Image = put c q.z q.y q.x h.sample in
    ap (residuals_at p d) goes.gone ∙ residuals_push p d (gone_by p (q ∷ left)) q
    ∙ ap (λ (k : ℕ). residuals_at p d (gone_by p (q ∷ left)) ++ k ∷ []) h.residual
    ∙ ap (λ (ns : List ℕ). ns ++ n ∷ []) (sym (residuals_kept p c q h.sample (q ∷ left) lawful shape goes.stands))

build : (p : Params) → IsLawful p → (left : List Place) (c : Image) (rest : List ℕ) → left ≡ drop (gone_count p left) (places p.shape p.order) → IsCubeOf p c
    → length rest ≡ length left → AllByRecursion (λ n. n < 2 ^ p.kind.bits) rest → Built p (residuals_at p c (gone_by p left) ++ rest)
build p lawful [] c [] is cube long range =
    record { image = c; cube = cube; same = sym (residuals_whole p c lawful.order cube.shape) ∙ sym (append-nil (residuals_at p c (gone_by p []))) }
build p lawful [] c (n ∷ ns) is cube long range = absurd (omega arith)
build p lawful (q ∷ left) c [] is cube long range = absurd (omega arith)
build p lawful (q ∷ left) c (n ∷ ns) is cube long range =
    let goes = next_goes p q (q ∷ left) left lawful.order is refl in
    let place : IsPlaceOf c.shape q = rw cube.shape goes.stands.place in
    let below : n < 2 ^ c.kind.bits = rw cube.kind range.0 in
    let h = has_residual p c q n (wide_of p c lawful cube.shape) cube.cube place below in
    let after : IsCubeOf p (put c q.z q.y q.x h.sample) = record { cube = put_cube c q h.sample cube.cube h.inside; shape = cube.shape; kind = cube.kind } in
    let others = build p lawful left (put c q.z q.y q.x h.sample) ns goes.others after (omega arith) range.1 in
    subst (Built p) (ap (λ (x : List ℕ). x ++ ns) (pushed p c q left n lawful cube.shape is h)
    ∙ append_assoc (residuals_at p c (gone_by p (q ∷ left))) (n ∷ []) ns) others

-- ---- from the first place on

middles : Params → Image
middles p = record { shape = p.shape; kind = p.kind; samples = replicate (sample_count p.shape) (smid p.kind) }

middle_range : (k : SampleKind) (n : ℕ) → IsSample k (smid k) → (i : ℕ) → i < length (replicate n (smid k))
    → IsSample k (get_or (replicate n (smid k)) i (pos 0))
middle_range k n s i lt = rw (get_or-replicate n i (smid k) (pos 0) (omega (arith, lt, length-replicate n (smid k)))) s

middles_cube : (p : Params) → IsLawful p → IsCubeOf p (middles p)
unfolding middles
middles_cube p lawful = record {
  cube = record {
    sizes = lawful.sizes;
    bits = lawful.kind;
    whole = length-replicate (sample_count p.shape) (smid p.kind);
    range = middle_range p.kind (sample_count p.shape) (least_inside p.kind, middle_inside p.kind lawful.kind);
  };
  shape = refl;
  kind = refl;
}

-- numbers in range, as many as there are samples, are the residuals of a cube
pub built : (p : Params) (numbers : List ℕ) → IsLawful p → length numbers ≡ sample_count p.shape → AllByRecursion (λ n. n < 2 ^ p.kind.bits) numbers
    → Built p numbers
built p numbers lawful long range =
    let whole = length-places p.shape p.order lawful.order in
    let none : gone_count p (places p.shape p.order) ≡ 0 = omega (arith, whole) in
    let start : places p.shape p.order ≡ drop (gone_count p (places p.shape p.order)) (places p.shape p.order) = rw none refl in
    let all = build p lawful (places p.shape p.order) (middles p) numbers start (middles_cube p lawful) (omega (arith, long, whole)) range in
    let nothing : residuals_at p (middles p) (gone_by p (places p.shape p.order)) ≡ [] = rw none refl in
    subst (λ (ns : List ℕ). Built p (ns ++ numbers)) nothing all
