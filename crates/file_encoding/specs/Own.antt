-- A predictor's own bands, and the residuals of their places.
use Rattle.std.specs.Prelude.{◌≡◌, ℕ, ◌+◌, ◌*◌, ◌==◌, if◌then◌else◌, List, [], ◌∷◌, map, filter, slice_index_or}
use Rattle.std.specs.List.{flat_map}
use Rattle.cube_core.specs.declared.order.Order.{Order}
use Rattle.cube_core.specs.declared.order.Order.TheVariants.{Bsq, Bi}
use Rattle.cube_core.specs.declared.order.Place.{Place}
use Rattle.cube_core.specs.Image.{Image}
use Rattle.cube_core.specs.Order.{upto, group, group_count, places}
use Rattle.header_bits.specs.declared.params.Params.{Params}
use Rattle.sample_prediction.specs.Residual.{mapped_residual, residuals}

-- ---- a predictor's part, by the places that it owns

-- the owner of each place: band z belongs to predictor `deal z`
unfoldable pub owners_of : List ℕ → List Place → List ℕ
owners_of deal places = map (λ p. slice_index_or deal p.z 0) places

-- the owners of an image's places, in encoding order
abbrev pub owners : List ℕ → Params → List ℕ
owners deal p = owners_of deal (places p.shape p.order)

-- predictor q's part of a list: the items at the places that it owns
unfoldable pub part : ℕ → List ℕ → List ℕ → List ℕ
part q [] numbers = []
part q (o ∷ owners) [] = []
part q (o ∷ owners) (n ∷ numbers) = if o == q then n ∷ part q owners numbers else part q owners numbers

-- ---- the same residuals, band by band or row by row

-- the bands among these that are dealt to predictor q
abbrev pub own : ℕ → List ℕ → List ℕ → List ℕ
own q deal zs = filter (λ z. slice_index_or deal z 0 == q) zs

-- the residuals of bands at row y and column x
abbrev pub column_of : Params → Image → List ℕ → ℕ → ℕ → List ℕ
column_of p c zs y x = map (λ z. mapped_residual p c z (y * c.shape.columns + x)) zs

-- the residuals of bands in row y, column after column
unfoldable pub row_of : Params → Image → List ℕ → ℕ → List ℕ
row_of p c zs y = flat_map (λ x. column_of p c zs y x) (upto c.shape.columns)

-- the residuals of bands, row after row
unfoldable pub rows_of : Params → Image → List ℕ → List ℕ
rows_of p c zs = flat_map (λ y. row_of p c zs y) (upto c.shape.rows)

-- the residuals of a predictor's bands in row y, group after group of interleaved bands
unfoldable pub line_of : Params → Image → ℕ → List ℕ → ℕ → ℕ → List ℕ
line_of p c q deal depth y = flat_map (λ i. row_of p c (own q deal (group c.shape depth i)) y) (upto (group_count c.shape depth))

-- a predictor's residuals in encoding order: band after band, or row after row
abbrev pub own_residuals : Params → Image → ℕ → List ℕ → Order → List ℕ
own_residuals p c q deal Bsq = flat_map (λ z. rows_of p c (z ∷ [])) (own q deal (upto c.shape.bands))
own_residuals p c q deal (Bi depth) = flat_map (λ y. line_of p c q deal depth y) (upto c.shape.rows)

-- they are the predictor's part of all residuals
abbrev pub OwnIsPart : Type 0
OwnIsPart = (p : Params) (c : Image) (q : ℕ) (deal : List ℕ) → c.shape ≡ p.shape → part q (owners deal p) (residuals p c) ≡ own_residuals p c q deal p.order
