-- A tile's numbers are stored band after band.
use Rattle.std.proofs.Common.{◌≡◌, ◌+◌, ◌*◌, ◌<◌, ◌≤◌, ℕ, ℤ, pos, ◌+ℤ◌, ◌-ℤ◌, unsigned_abs, List, length, sym, ap, ap₂, ◌∙◌, arith, inl, inr}
use Rattle.std.specs.List.{slice_index}
use Rattle.std.proofs.lemmas.Bool.{cases_lt}
use Rattle.std.proofs.lemmas.Int.{ints}
use Rattle.cube_core.specs.Kind.{SampleKind, smin, sample_of}
use Rattle.cube_core.specs.Image.{Image, IsPlace, sample_at}
use Rattle.cube_core.specs.Runs.{IsRunSet}
use Rattle.predict_core.specs.Offsets.{number_at}
use Rattle.file_decoding.specs.declared.tile.Tile.{Tile}
use Rattle.file_decoding.specs.Tiles.{HasStored}

-- the number of a sample with an offset
number_of_offset : (least : ℤ) (v : ℤ) (n : ℕ) → v ≡ least +ℤ pos n → unsigned_abs (v -ℤ least) ≡ n
number_of_offset least v n e = omega (arith, ints, e)

same_number : (c d : Image) (z y x : ℕ) → c.kind ≡ d.kind → sample_at c z y x ≡ sample_at d z y x → number_at c z y x ≡ number_at d z y x
same_number c d z y x kind same = ap₂ (λ (v : ℤ) (k : SampleKind). unsigned_abs (v -ℤ smin k)) same kind

module _ {c d e : Image} {tile : Tile} {numbers run : List ℕ} {n : ℕ} (stored : HasStored c d tile numbers n)
    (set : IsRunSet d e (tile.place.z + n) tile.place.y tile.place.x run) (long : length run ≡ tile.columns) (more : n < tile.bands)
    (values : (i : ℕ) → i < tile.columns → slice_index run i ≡ slice_index numbers (i * tile.bands + n))
    (placed : (i b : ℕ) → i < tile.columns → b < tile.bands → IsPlace c.shape (tile.place.z + b) tile.place.y (tile.place.x + i)) where
  pub stored_more : HasStored c e tile numbers (n + 1)
  stored_more = record {
    alike = record { shape = stored.alike.shape ∙ sym set.shape; kind = stored.alike.kind ∙ sym set.kind };
    stored = λ i b column band. elim (cases_lt b n) [
      | inl below ↦
          (let place : IsPlace d.shape (tile.place.z + b) tile.place.y (tile.place.x + i) =
          rw (← stored.alike.shape) (placed i b column (omega (arith, below, more))) in
          let same = set.others _ _ _ place (λ h k l. absurd (omega (arith, h, below))) in
          sym (same_number d e _ _ _ (sym set.kind) same) ∙ stored.stored i b column below)
      | inr last ↦
          (let is : b ≡ n = omega (arith, last, band) in
          let written = set.written i (omega (arith, column, long)) in
          let least = ap (λ (k : SampleKind). unsigned_abs (sample_at e (tile.place.z + n) tile.place.y (tile.place.x + i) -ℤ smin k)) set.kind in
          rw is (least ∙ number_of_offset (smin d.kind) _ (slice_index run i) written ∙ values i column))
    ];
    others = λ z y x place out.
        stored.others z y x place (λ low high row first. out low (omega (arith, high)) row first)
        ∙ set.others z y x (rw (← stored.alike.shape) place) (λ band row first. let o = out (omega (arith, band)) (omega (arith, band)) row first in
        omega (arith, o, long));
  }
