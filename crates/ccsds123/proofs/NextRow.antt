-- Rows that come are coded: an encoder before the first row, after one more, and after the last.
use Rattle.std.proofs.Common.{◌≡◌, ◌+◌, ◌*◌, ◌^◌, ◌<◌, ◌≤◌, ℕ, List, [], ◌++◌, length, take, Ok}
use Rattle.std.proofs.Common.{refl, sym, ap, ◌∙◌, subst, arith}
use Rattle.std.proofs.lemmas.List.{take_all}
use Rattle.std.specs.List.{AllByRecursion}
use Rattle.cube_core.specs.declared.layout.Layout.{Layout}
use Rattle.cube_core.specs.Image.{Image}
use Rattle.cube_core.specs.Layout.{HaveBytes, IsLayout, raw_bytes}
use Rattle.cube_core.specs.Raw.{IsFound}
use Rattle.cube_core.specs.Shape.{Sizes, sample_count}
use Rattle.cube_core.proofs.RawBytes.{length-raw_bytes}
use Rattle.header_bits.specs.declared.params.Params.{Params}
use Rattle.header_bits.specs.Lawful.{IsLawful}
use Rattle.sample_prediction.specs.HandedRows.{row_size}
use Rattle.sample_prediction.specs.declared.handed.HandedRows.{HandedRows}
use Rattle.file_encoding.specs.ByRows.{IsFileOfRows, IsUnderWay, RowEncoderState, image_so_far, rows_of_order}
use Rattle.file_encoding.proofs.ByRows.{cube_so_far, has_rows, kind_in, shape_in}
use Rattle.file_encoding.proofs.FoundRows.{IsRow, found_next, range_next, same_rows, size_next, some_samples}
use Rattle.raw_rows.specs.OneRow.{rows_of_raw}
use Rattle.raw_rows.specs.Together.{GoTogether}
use Rattle.ccsds123.specs.declared.scene.SceneEncoder.{SceneEncoder}
use Rattle.ccsds123.specs.declared.scene.Stage.{Stage}
use Rattle.ccsds123.specs.declared.scene.Stage.TheVariants as stage
use Rattle.ccsds123.specs.Rows.{with_more}
use Rattle.ccsds123.specs.Scenes.{IsAtStage, IsOpen, IsWrittenAs, IsWrittenFor, all_rows, image_in, samples_in_row, scene_of}
use Rattle.ccsds123.proofs.SceneRows.{all_samples}

-- ---- the rows of the raw bytes are those of the order

pub rows_together : (s : SceneEncoder) → IsOpen s → all_rows s.params s.layout ≡ (rows_of_order s.params.order s.params.shape).rows
rows_together s h = ap (λ (t : Sizes). t.rows) (same_rows s.layout.order s.params.order s.params.shape h.together)

pub samples_together : (s : SceneEncoder) → IsOpen s → samples_in_row s.params s.layout ≡ row_size (rows_of_order s.params.order s.params.shape)
samples_together s h = ap (λ (t : Sizes). row_size t) (same_rows s.layout.order s.params.order s.params.shape h.together)

-- ---- no row has come

none_taken : (n : ℕ) (xs : List ℕ) → n ≡ 0 → length (take n xs) ≡ n
none_taken n xs e = rw e refl

pub open_first : (p : Params) (l : Layout) (e : RowEncoderState) (handed : HandedRows) → IsLawful p → IsLayout l → GoTogether l.order p.order
    → IsUnderWay p e → (e.y ≡ 0) × (e.offsets ≡ []) → handed.offsets ≡ []
    → IsOpen (record { params = p; layout = l; stage = stage.Rows e; rows = 0; handed = handed })
open_first p l e handed lawful layout together under none empty =
    let range : AllByRecursion (λ v. v < 2 ^ p.kind.bits) handed.offsets = rw empty tt in
    record {
      lawful = lawful;
      layout = layout;
      together = together;
      few = omega arith;
      size = omega (arith, ap length empty);
      range = range;
      found = record {
        long = none_taken (0 * samples_in_row p l * l.bytes) (raw_bytes (image_so_far p handed.offsets) l) (omega arith);
        cube = (
          cube_so_far p handed.offsets lawful range,
          shape_in p.order p.shape p.kind handed.offsets,
          kind_in p.order p.shape p.kind handed.offsets,
          refl,
          λ j lt. absurd (omega (arith, lt)),
          λ j lt. absurd (omega (arith, lt)),
        );
        bad = tt;
      };
      stage = (under, none.1 ∙ sym empty, none.0);
    }

-- ---- one row more

-- a row that was read is the next one
module _ (p : Params) (l : Layout) (offsets : List ℕ) (y : ℕ) (raw : List ℕ) (lawful : IsLawful p) (layout : IsLayout l) (together : GoTogether l.order p.order)
    (size : length offsets ≡ y * samples_in_row p l) (range : AllByRecursion (λ v. v < 2 ^ p.kind.bits) offsets)
    (found : IsFound p.shape p.kind l raw (y * samples_in_row p l) (Ok (image_so_far p offsets))) (more : y < all_rows p l)
    (r : Image) (bytes samples : List ℕ) (row : IsRow (rows_of_raw l.order p.shape) p.kind l r bytes samples) where
  next_row : y * samples_in_row p l + samples_in_row p l ≡ (y + 1) * samples_in_row p l
  next_row = grind arith

  found_more : IsFound p.shape p.kind l (raw ++ bytes) (y * samples_in_row p l + samples_in_row p l) (Ok (image_so_far p (offsets ++ samples)))
  found_more = found_next p l offsets y raw lawful layout together size range found more r bytes samples row

  pub raw_next : take ((y + 1) * samples_in_row p l * l.bytes) (raw_bytes (image_so_far p (offsets ++ samples)) l) ≡ raw ++ bytes
  raw_next = rw (← next_row) found_more.cube.3

  pub found_there : IsFound p.shape p.kind l (take ((y + 1) * samples_in_row p l * l.bytes) (raw_bytes (image_so_far p (offsets ++ samples)) l))
      ((y + 1) * samples_in_row p l) (Ok (image_so_far p (offsets ++ samples)))
  found_there = rw (raw_next, ← next_row) found_more

-- what an encoder is after it took a row
pub record HasTaken (s t : SceneEncoder) (samples : List ℕ) : Type 0 where
  pub params : t.params ≡ s.params
  pub layout : t.layout ≡ s.layout
  pub rows : t.rows ≡ s.rows + 1
  pub offsets : t.handed.offsets ≡ s.handed.offsets ++ samples
  pub stage : IsAtStage t.params t.handed.offsets t.rows t.stage

module _ (s t : SceneEncoder) (bytes samples : List ℕ) (h : IsOpen s) (more : s.rows < all_rows s.params s.layout) (taken : HasTaken s t samples) (r : Image)
    (row : IsRow (rows_of_raw s.layout.order s.params.shape) s.params.kind s.layout r bytes samples) where
  pub open_next : IsOpen t
  open_next = record {
    lawful = rw taken.params h.lawful;
    layout = rw taken.layout h.layout;
    together = rw (taken.params, taken.layout) h.together;
    few = rw (taken.params, taken.layout, taken.rows) (omega (arith, more));
    size = rw (taken.params, taken.layout, taken.rows, taken.offsets) (size_next s.params s.layout s.handed.offsets s.rows (scene_of s).raw h.lawful h.layout
        h.together h.size h.range h.found more r bytes samples row);
    range = rw (taken.params, taken.offsets) (range_next s.params s.layout s.handed.offsets s.rows (scene_of s).raw h.lawful h.layout h.together h.size h.range
        h.found more r bytes samples row);
    found = rw (taken.params, taken.layout, taken.rows, taken.offsets) (found_there s.params s.layout s.handed.offsets s.rows (scene_of s).raw h.lawful h.layout
        h.together h.size h.range h.found more r bytes samples row);
    stage = taken.stage;
  }

  pub scene_next : scene_of t ≡ with_more (scene_of s) bytes
  scene_next =
      let raw : (scene_of t).raw ≡ (scene_of s).raw ++ bytes =
      rw (taken.params, taken.layout, taken.rows, taken.offsets) (raw_next s.params s.layout s.handed.offsets s.rows (scene_of s).raw h.lawful h.layout
      h.together h.size h.range h.found more r bytes samples row) in
      λ i. record { params = taken.params i; layout = taken.layout i; raw = raw i }

-- ---- after the last row

-- the stage of an encoder whose file was made
pub file_stage : (p : Params) (offsets : List ℕ) (y : ℕ) (now : Stage) → y ≡ (rows_of_order p.order p.shape).rows → IsWrittenAs p offsets now → IsAtStage p offsets y now
file_stage p offsets y (stage.Rows e) all written = absurd written
file_stage p offsets y (stage.File file) all written = (all, written)

pub written_stage : (p : Params) (offsets : List ℕ) (y : ℕ) (was now : Stage) → y ≡ (rows_of_order p.order p.shape).rows → IsAtStage p offsets y was
    → (IsAtStage p offsets (rows_of_order p.order p.shape).rows was → IsWrittenAs p offsets now) → IsWrittenAs p offsets now
written_stage p offsets y was now all at written = written (subst (λ (n : ℕ). IsAtStage p offsets n was) all at)

-- the file of the rows that were encoded
pub file_written : (was : Stage) (e : RowEncoderState) (bytes : List ℕ) → was ≡ stage.Rows e
    → ((p : Params) → IsUnderWay p e → e.y ≡ (rows_of_order p.order p.shape).rows → IsFileOfRows p e.offsets bytes) → (p : Params) (offsets : List ℕ)
    → IsAtStage p offsets (rows_of_order p.order p.shape).rows was → IsFileOfRows p offsets bytes
file_written was e bytes is file p offsets at =
    let (under, same, last) = subst (IsAtStage p offsets (rows_of_order p.order p.shape).rows) is at in
    subst (λ (xs : List ℕ). IsFileOfRows p xs bytes) same (file p under last)

pub written_for : (s : SceneEncoder) (now : Stage) → IsOpen s → s.rows ≡ all_rows s.params s.layout → IsWrittenAs s.params s.handed.offsets now
    → IsWrittenFor (scene_of s) now
written_for s (stage.Rows e) h all written = absurd written
written_for s (stage.File file) h all written =
    let c : Image = image_in s in
    let count : s.rows * samples_in_row s.params s.layout ≡ sample_count s.params.shape =
    ap (λ (n : ℕ). n * samples_in_row s.params s.layout) all ∙ all_samples s.params s.layout in
    let shape = h.found.cube.1 in
    let kind = h.found.cube.2 in
    let long : length (raw_bytes c s.layout) ≡ sample_count s.params.shape * s.layout.bytes =
    length-raw_bytes c s.layout h.layout (rw shape (some_samples s.params.shape h.lawful.sizes)) ∙ ap (λ (t : Sizes). sample_count t * s.layout.bytes) shape in
    record {
      cube = c;
      whole = record { cube = h.found.cube.0; shape = shape; kind = kind };
      fits = subst (λ (t : Sizes). HaveBytes c s.layout (sample_count t)) (sym shape) (rw count at h.found.cube.4);
      raw_is = sym (take_all (s.rows * samples_in_row s.params s.layout * s.layout.bytes) (raw_bytes c s.layout)
          (omega (arith, long, ap (λ (n : ℕ). n * s.layout.bytes) count)));
      file_is = written c h.found.cube.0 shape kind (has_rows s.params s.handed.offsets);
    }
