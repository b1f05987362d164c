-- The residuals of all predictors, interleaved along the encoding order, and split by predictor again.
pub use Rattle.file_encoding.specs.Own.{owners_of, owners, part}
use Rattle.std.specs.Prelude.{◌≡◌, ℕ, ◌<◌, ◌≤◌, ◌==◌, List, [], ◌∷◌, map, length, count_by, slice_index_or, slice_set}
use Rattle.std.specs.List.{All}
use Rattle.cube_core.specs.Image.{Image}
use Rattle.cube_core.specs.Order.{IsOrder, upto}
use Rattle.header_bits.specs.declared.params.Params.{Params}
use Rattle.sample_prediction.specs.Residual.{residuals}

-- a deal names one of the predictors for each band
pub record IsDeal (predictors bands : ℕ) (deal : List ℕ) : Type 0 where
  pub whole : length deal ≡ bands
  pub owned : All (λ q. q < predictors) deal

-- interleaving: each place takes the next item of its owner's list, up to the first place whose owner has none left
unfoldable pub weave : List ℕ → List (List ℕ) → List ℕ
weave [] lists = []
weave (o ∷ owners) lists = elim (slice_index_or lists o []) [ [] ↦ [] | n ∷ rest ↦ n ∷ weave owners (slice_set lists o rest) ]

-- how many places predictor q owns
abbrev pub share : ℕ → List ℕ → ℕ
share q owners = count_by (λ o. o == q) owners

-- the parts of all predictors
abbrev pub parts_of : ℕ → List ℕ → List ℕ → List (List ℕ)
parts_of predictors owners numbers = map (λ q. part q owners numbers) (upto predictors)

-- the parts of an image's residuals
abbrev pub parts : ℕ → List ℕ → Params → Image → List (List ℕ)
parts predictors deal p c = parts_of predictors (owners deal p) (residuals p c)

-- ---- laws

-- the parts of the residuals, interleaved, are the residuals
abbrev pub WeaveOfParts : Type 0
WeaveOfParts =
    (p : Params) (c : Image) (predictors : ℕ) (deal : List ℕ) → c.shape ≡ p.shape → IsOrder p.shape p.order → IsDeal predictors p.shape.bands deal
    → weave (owners deal p) (parts predictors deal p c) ≡ residuals p c

-- the parts of any list along the first places, interleaved, are the list
abbrev pub WeaveOfTaken : Type 0
WeaveOfTaken =
    (predictors : ℕ) (owners numbers : List ℕ) → All (λ o. o < predictors) owners → length numbers ≤ length owners
    → weave owners (parts_of predictors owners numbers) ≡ numbers

-- each predictor's list has one item for each place that it owns
abbrev pub AreWhole : List ℕ → List (List ℕ) → Type 0
AreWhole owners lists = (q : ℕ) → q < length lists → length (slice_index_or lists q []) ≡ share q owners

-- interleaving such lists gives one item for each place, and splitting that by owner gives the lists back
abbrev pub PartsOfWeave : Type 0
PartsOfWeave =
    (owners : List ℕ) (lists : List (List ℕ)) → All (λ o. o < length lists) owners → AreWhole owners lists
    → (length (weave owners lists) ≡ length owners) × (parts_of (length lists) owners (weave owners lists) ≡ lists)
