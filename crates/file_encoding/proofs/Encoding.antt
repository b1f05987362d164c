-- Encoding on one thread: all bands are the first predictor's, and their residuals are those of the image.
use Rattle.std.proofs.Common.{◌≡◌, ◌+◌, ◌^◌, ◌<◌, ℕ, suc, List, [], ◌∷◌, length, Some, refl, sym, ap, ap₂, ◌∙◌, subst, arith}
use Rattle.std.specs.List.{AllByRecursion, slice_get}
use Rattle.std.proofs.lemmas.List.{drop_all}
use Rattle.std.proofs.lemmas.Option.{slice_get_within}
use Rattle.cube_core.specs.declared.order.Place.{Place}
use Rattle.cube_core.specs.Shape.{sample_count}
use Rattle.cube_core.specs.Kind.{SampleKind}
use Rattle.cube_core.specs.Image.{Image, IsCube}
use Rattle.cube_core.specs.Order.{IsOrder, from, upto, places}
use Rattle.cube_core.proofs.Orders.{length-places}
use Rattle.header_bits.specs.declared.params.Params.{Params}
use Rattle.header_bits.specs.Lawful.{IsLawful}
use Rattle.predict_core.specs.Following.{PredictorState}
use Rattle.sample_prediction.specs.Residual.{residuals}
use Rattle.file_encoding.specs.Ends.{FileEncoderState, HasCoded, MayCodeAll}
use Rattle.predict_core.specs.Walked.{IsAlong, AreAlong}
use Rattle.predict_core.proofs.OneCube.{residuals_inside}
use Rattle.file_encoding.specs.Own.{own, own_residuals, owners_of, part}
use Rattle.file_encoding.specs.Walks.{IsSeen, IsAt, AreAt, AreFresh, bands_of}
use Rattle.file_encoding.proofs.Owning.{own_is_part, length-residuals}

-- ---- the bands

pub own_all : (zs : List ℕ) → own 0 [] zs ≡ zs
own_all [] = refl
own_all (z ∷ zs) = ap (λ (ys : List ℕ). z ∷ ys) (own_all zs)

numbered : (a : ℕ) (bands : List PredictorState) → ((z : ℕ) (b : PredictorState) → slice_get bands z ≡ Some b → b.band ≡ a + z) → bands_of bands ≡ from a (length bands)
numbered a [] h = refl
numbered a (b ∷ bands) h = ap₂ (λ z zs. z ∷ zs) (h 0 b refl ∙ omega arith) (numbered (suc a) bands (λ z d e. h (suc z) d e ∙ omega arith))

all_at : (p : Params) (c : Image) (t : ℕ) (bands : List PredictorState) → ((z : ℕ) (b : PredictorState) → slice_get bands z ≡ Some b → IsAt p c t b) → AreAt p c t bands
all_at p c t [] h = tt
all_at p c t (b ∷ bands) h = (h 0 b refl, all_at p c t bands (λ z d e. h (suc z) d e))

pub all_fresh : (p : Params) (c : Image) (bands : List PredictorState) → length bands ≡ p.shape.bands → AreAlong p c 0 bands
    → ((z : ℕ) (b : PredictorState) → slice_get bands z ≡ Some b → b.t ≡ 0) → AreFresh p 0 [] c bands
all_fresh p c bands many along first = record {
  own = numbered 0 bands (λ z b e. (known z b e).band ∙ omega arith) ∙ ap upto many ∙ sym (own_all (upto p.shape.bands));
  at = all_at p c 0 bands (λ z b e. record { follows = (known z b e).follows; next = first z b e; inside = omega (arith, (known z b e).band, within z b e) });
}
  where
    within : (z : ℕ) (b : PredictorState) → slice_get bands z ≡ Some b → z < p.shape.bands
    within z b e = omega (arith, slice_get_within bands z b e, many)

    known : (z : ℕ) (b : PredictorState) → slice_get bands z ≡ Some b → IsAlong p c 0 z b
    known z b e = along z (within z b e) b e

-- ---- their residuals

part_all : (ps : List Place) (ns : List ℕ) → length ns ≡ length ps → part 0 (owners_of [] ps) ns ≡ ns
unfolding part owners_of
part_all [] [] e = refl
part_all [] (n ∷ ns) e = absurd (omega (arith, e))
part_all (q ∷ ps) [] e = refl
part_all (q ∷ ps) (n ∷ ns) e = ap (λ (xs : List ℕ). n ∷ xs) (part_all ps ns (omega (arith, e)))

pub length-all : (p : Params) (c : Image) → IsOrder p.shape p.order → c.shape ≡ p.shape → length (residuals p c) ≡ sample_count p.shape
length-all p c lawful shape = length-residuals p c (subst (λ s. IsOrder s p.order) (sym shape) lawful) ∙ ap sample_count shape

pub all_residuals : (p : Params) (c : Image) → IsOrder p.shape p.order → c.shape ≡ p.shape → own_residuals p c 0 [] p.order ≡ residuals p c
all_residuals p c lawful shape =
    sym (own_is_part p c 0 [] shape)
    ∙ part_all (places p.shape p.order) (residuals p c) (length-all p c lawful shape ∙ sym (length-places p.shape p.order lawful))

-- they may be taken by a file encoder that has taken nothing
pub may_take : (p : Params) (c : Image) (e : FileEncoderState) → IsLawful p → IsSeen p c → IsCube c → HasCoded p e [] → MayCodeAll e (own_residuals p c 0 [] p.order)
may_take p c e lawful seen cube coded = subst (MayCodeAll e) (sym (all_residuals p c lawful.order seen.shape)) (record {
  params = p;
  numbers = [];
  lawful = lawful;
  coded = coded;
  more = omega (arith, length-all p c lawful.order seen.shape);
  range = subst (λ (k : SampleKind). AllByRecursion (λ n. n < 2 ^ k.bits) (residuals p c)) seen.kind
      (residuals_inside p c (subst (λ s. IsOrder s p.order) (sym seen.shape) lawful.order) cube);
})

-- and then no place is left
pub none_left : (p : Params) (c : Image) (e : FileEncoderState) → IsOrder p.shape p.order → c.shape ≡ p.shape → HasCoded p e (residuals p c) → e.left ≡ []
none_left p c e lawful shape coded =
    coded.left ∙ drop_all (length (residuals p c)) (places p.shape p.order) (omega (arith, length-all p c lawful shape, length-places p.shape p.order lawful))
