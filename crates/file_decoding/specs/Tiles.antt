-- Tiles: the places that are read together, consecutive columns of one row in the same bands.
use Rattle.std.specs.Prelude.{ℕ, ◌≡◌, ◌+◌, ◌*◌, ◌/◌, ◌%◌, ◌<◌, ◌≤◌, List, [], slice_index, slice_index_or}
use Rattle.cube_core.specs.Image.{Image, IsPlace, sample_at}
use Rattle.cube_core.specs.Order.{place_index}
use Rattle.cube_core.specs.Tiles.{IsTiled, most_bands}
use Rattle.header_bits.specs.declared.params.Params.{Params}
use Rattle.predict_core.specs.Offsets.{number_at}
use Rattle.predict_core.specs.Precedence.{AreAlike}
use Rattle.file_decoding.specs.declared.tile.Tile.{Tile}

-- the places of a tile follow one another in encoding order, column after column, and in each from its lowest band on
abbrev pub IsInOrder : Params → Tile → Type 0
IsInOrder p tile = IsTiled p.shape p.order tile.place tile.columns tile.bands

-- a tile that may be read: at most 64 columns, of bands of one group of interleaved bands
pub record IsTile (p : Params) (tile : Tile) : Type 0 where
  pub few : (tile.columns ≤ 64) × (tile.bands ≤ most_bands p.order)
  pub in-order : IsInOrder p tile

-- the band of a tile's k-th place, and that place's raster index, if the tile's first place has raster index t
abbrev pub band_in : Tile → ℕ → ℕ
band_in tile k = tile.place.z + k % tile.bands

abbrev pub time_in : Tile → ℕ → ℕ → ℕ
time_in tile t k = t + k / tile.bands

-- the index of a tile's first place in encoding order
abbrev pub start_of : Params → Tile → ℕ
start_of p tile = place_index p.shape p.order tile.place

-- column x of row y of band z isn't among the places of a tile's first n bands
abbrev pub IsOutside : Tile → ℕ → ℕ → ℕ → ℕ → Type 0
IsOutside tile n z y x = tile.place.z ≤ z → z < tile.place.z + n → y ≡ tile.place.y → tile.place.x ≤ x → tile.place.x + tile.columns ≤ x

-- d is c with numbers at the places of a tile's first n bands, each as an offset from the least sample
pub record HasStored (c d : Image) (tile : Tile) (numbers : List ℕ) (n : ℕ) : Type 0 where
  pub alike : AreAlike c d
  pub stored : (i b : ℕ) → i < tile.columns → b < n
      → number_at d (tile.place.z + b) tile.place.y (tile.place.x + i) ≡ slice_index numbers (i * tile.bands + b)
  pub others : (z y x : ℕ) → IsPlace c.shape z y x → IsOutside tile n z y x → sample_at c z y x ≡ sample_at d z y x

-- the number at a place of a line
abbrev pub number_in : List (List ℕ) → ℕ → ℕ → ℕ
number_in lines b i = slice_index (slice_index_or lines b []) i
