-- Rows of one band that are pieces of a longer one.
use Rattle.std.proofs.Common.{◌≡◌, ◌+◌, ◌*◌, ◌^◌, ◌<◌, ◌≤◌, ℕ, suc, pos, List, length, take, drop, get_or, refl, sym, ap, ◌∙◌, arith, length-take, length-drop}
use Rattle.std.proofs.lemmas.List.{drop-drop, get_or-drop, get_or-take}
use Rattle.std.proofs.lemmas.Nat.{mul-le}
use Rattle.cube_core.specs.declared.layout.Layout.{Layout}
use Rattle.cube_core.specs.declared.layout.RawOrder.TheVariants as raw
use Rattle.cube_core.specs.declared.order.Place.{Place}
use Rattle.cube_core.specs.Image.{Image, sample_at}
use Rattle.cube_core.specs.Kind.{SampleKind, sample_of}
use Rattle.cube_core.specs.Layout.{IsLayout, HaveBytes, bytes_at, order_of, raw_bytes, sample_bytes, samples_in}
use Rattle.cube_core.specs.Offsets.{AreRowOffsets}
use Rattle.cube_core.specs.Order.{IsOrder, place_index}
use Rattle.cube_core.specs.Raw.{AreSamples}
use Rattle.cube_core.specs.Shape.{Sizes, sample_count}
use Rattle.cube_core.proofs.Orders.{StandsAt}
use Rattle.cube_core.proofs.PartBytes.{bytes_of_place, front_piece, same_pieces}
use Rattle.cube_core.proofs.RawBytes.{image, length-raw_bytes}
use Rattle.cube_core.proofs.Written.{sample_of_place, sample_there}
use Rattle.raw_rows.specs.OneRow.{AreBandRows, one_row}

-- the place of a sample in a row of one band
abbrev in_row : ℕ → Place
in_row x = record { z = 0; y = 0; x = x }

stands : (l : Layout) (t : Sizes) (x : ℕ) → l.order ≡ raw.Bsq → t.bands ≡ 1 → t.rows ≡ 1 → x < t.columns → StandsAt t (order_of l.order t) (in_row x) x
unfolding place_index
stands l t x order single one lt = rw order (record {
  place = record { band = omega (arith, single); row = omega (arith, one); column = lt };
  index = omega arith;
})

module _ (s : Sizes) (k : SampleKind) (l : Layout) (c : Image) (i count : ℕ) (bytes offsets : List ℕ) (layout : IsLayout l) (order : l.order ≡ raw.Bsq)
    (wide : c.shape.bands ≡ 1) (one : c.shape.rows ≡ 1) (kind : c.kind ≡ k) (single : s.bands ≡ 1) (some : 0 < s.columns)
    (inside : count * s.columns ≤ c.shape.columns) (lt : i < count) (read : take (count * s.columns * l.bytes) (raw_bytes c l) ≡ bytes)
    (fits : HaveBytes c l (count * s.columns)) (known : AreSamples k l bytes (count * s.columns)) (row : AreRowOffsets c 0 0 offsets)
    (long : length offsets ≡ c.shape.columns) where
  -- the raw bytes and the offsets of the i-th row, and its image
  abbrev line : List ℕ
  line = take (s.columns * l.bytes) (drop (i * (s.columns * l.bytes)) bytes)

  abbrev piece : List ℕ
  piece = take s.columns (drop (i * s.columns) offsets)

  abbrev line_image : Image
  line_image = image (one_row s) k piece

  -- a sample of it is one of the longer row
  there : (x : ℕ) → x < s.columns → i * s.columns + x < count * s.columns
  there x h =
      let last : suc i * s.columns ≤ count * s.columns = mul-le (suc i) s.columns count s.columns lt (omega arith) in
      let next : suc i * s.columns ≡ i * s.columns + s.columns = grind arith in
      omega (arith, last, next, h)

  piece_long : length piece ≡ s.columns
  piece_long =
      let last : suc i * s.columns ≤ count * s.columns = mul-le (suc i) s.columns count s.columns lt (omega arith) in
      let next : suc i * s.columns ≡ i * s.columns + s.columns = grind arith in
      omega (arith, length-take s.columns (drop (i * s.columns) offsets), length-drop (i * s.columns) offsets, long, inside, last, next)

  piece_full : length piece ≡ sample_count (one_row s)
  piece_full = piece_long ∙ rw single (omega arith)

  offset_there : (x : ℕ) → x < s.columns → get_or piece x 0 ≡ get_or offsets (i * s.columns + x) 0
  offset_there x h = get_or-take s.columns (drop (i * s.columns) offsets) x 0 h ∙ get_or-drop (i * s.columns) offsets x 0

  sample_is : (x : ℕ) → x < s.columns → sample_at line_image 0 0 x ≡ sample_of k (get_or piece x 0)
  sample_is x h =
      let first : 0 * s.columns + x ≡ x = omega arith in
      sample_of_place (one_row s) k piece (in_row x) piece_full (record { band = omega (arith, single); row = omega arith; column = h })
      ∙ ap (λ (n : ℕ). sample_of k (get_or piece n 0)) first

  same : (x : ℕ) → x < s.columns → sample_at line_image 0 0 x ≡ sample_at c 0 0 (i * s.columns + x)
  same x h =
      let far : i * s.columns + x < c.shape.columns = omega (arith, there x h, inside) in
      sample_is x h ∙ ap (sample_of k) (offset_there x h)
      ∙ ap (λ (j : SampleKind). sample_of j (get_or offsets (i * s.columns + x) 0)) (sym kind) ∙ sym (row (i * s.columns + x) far).1

  -- ---- its bytes

  bytes_there : (x : ℕ) → x < s.columns → bytes_at l line x ≡ bytes_at l bytes (i * s.columns + x)
  bytes_there x h =
      let last : suc x * l.bytes ≤ s.columns * l.bytes = mul-le (suc x) l.bytes s.columns l.bytes h (omega arith) in
      let next : suc x * l.bytes ≡ x * l.bytes + l.bytes = grind arith in
      let sum : i * (s.columns * l.bytes) + x * l.bytes ≡ (i * s.columns + x) * l.bytes = grind arith in
      front_piece x l.bytes (s.columns * l.bytes) (drop (i * (s.columns * l.bytes)) bytes) (omega (arith, last, next))
      ∙ ap (take l.bytes) (drop-drop (x * l.bytes) (i * (s.columns * l.bytes)) bytes)
      ∙ ap (λ (n : ℕ). take l.bytes (drop n bytes)) sum

  bytes_in_wide : (x : ℕ) → x < s.columns → bytes_at l bytes (i * s.columns + x) ≡ sample_bytes l (sample_at c 0 0 (i * s.columns + x))
  bytes_in_wide x h =
      let far : i * s.columns + x < count * s.columns = there x h in
      let last : suc (i * s.columns + x) * l.bytes ≤ count * s.columns * l.bytes =
      mul-le (suc (i * s.columns + x)) l.bytes (count * s.columns) l.bytes far (omega arith) in
      let next : suc (i * s.columns + x) * l.bytes ≡ (i * s.columns + x) * l.bytes + l.bytes = grind arith in
      let many : 0 < sample_count c.shape = rw (wide, one) (omega (arith, far, inside)) in
      ap (λ (xs : List ℕ). take l.bytes (drop ((i * s.columns + x) * l.bytes) xs)) (sym read)
      ∙ front_piece (i * s.columns + x) l.bytes (count * s.columns * l.bytes) (raw_bytes c l) (omega (arith, last, next))
      ∙ bytes_of_place c l (in_row (i * s.columns + x)) (i * s.columns + x) layout many
      (stands l c.shape (i * s.columns + x) order wide one (omega (arith, far, inside)))

  raw_is : raw_bytes line_image l ≡ line
  raw_is = same_pieces s.columns l.bytes (raw_bytes line_image l) line whole line_long each
    where
      many : 0 < sample_count (one_row s)
      many = rw single (omega (arith, some))

      whole : length (raw_bytes line_image l) ≡ s.columns * l.bytes
      whole = length-raw_bytes line_image l layout many ∙ ap (λ (n : ℕ). n * l.bytes) (sym piece_full ∙ piece_long)

      bytes_long : count * s.columns * l.bytes ≤ length bytes
      bytes_long =
          let most : count * s.columns * l.bytes ≤ sample_count c.shape * l.bytes =
          mul-le (count * s.columns) l.bytes (sample_count c.shape) l.bytes (rw (wide, one) (omega (arith, inside))) (omega arith) in
          rw (← read) (omega (
            arith,
            most,
            length-take (count * s.columns * l.bytes) (raw_bytes c l),
            length-raw_bytes c l layout (rw (wide, one) (omega (arith, there 0 some, inside))),
          ))

      line_long : length line ≡ s.columns * l.bytes
      line_long =
          let last : suc i * (s.columns * l.bytes) ≤ count * (s.columns * l.bytes) =
          mul-le (suc i) (s.columns * l.bytes) count (s.columns * l.bytes) lt (omega arith) in
          let next : suc i * (s.columns * l.bytes) ≡ i * (s.columns * l.bytes) + s.columns * l.bytes = grind arith in
          let turned : count * (s.columns * l.bytes) ≡ count * s.columns * l.bytes = grind arith in
          omega (
            arith,
            length-take (s.columns * l.bytes) (drop (i * (s.columns * l.bytes)) bytes),
            length-drop (i * (s.columns * l.bytes)) bytes,
            bytes_long,
            last,
            next,
            turned,
          )

      each : (x : ℕ) → x < s.columns → take l.bytes (drop (x * l.bytes) (raw_bytes line_image l)) ≡ take l.bytes (drop (x * l.bytes) line)
      each x h =
          bytes_of_place line_image l (in_row x) x layout many (stands l (one_row s) x order single refl h)
          ∙ ap (sample_bytes l) (same x h) ∙ sym (bytes_there x h ∙ bytes_in_wide x h)

  samples_are : AreSamples k l line s.columns
  samples_are x h = rw (bytes_there x h) (known (i * s.columns + x) (there x h))

  rows_are : AreBandRows line_image piece
  rows_are z x band h =
      let first : z ≡ 0 = omega (arith, band, single) in
      let index : z * s.columns + x ≡ x = rw first (omega arith) in
      let far : i * s.columns + x < c.shape.columns = omega (arith, there x h, inside) in
      let below : get_or offsets (i * s.columns + x) 0 < 2 ^ k.bits = rw kind at (row (i * s.columns + x) far).0 in (
        rw (index, offset_there x h) below,
        rw (index, first) (sample_is x h),
      )

  fits_there : HaveBytes line_image l s.columns
  fits_there x h =
      let far : i * s.columns + x < c.shape.columns = omega (arith, there x h, inside) in
      let mine : get_or (samples_in line_image l) x (pos 0) ≡ sample_at line_image 0 0 x =
      sample_there line_image l (in_row x) x (lawful (one_row s)) (rw single (omega (arith, h))) (stands l (one_row s) x order single refl h) in
      let wider : get_or (samples_in c l) (i * s.columns + x) (pos 0) ≡ sample_at c 0 0 (i * s.columns + x) =
      sample_there c l (in_row (i * s.columns + x)) (i * s.columns + x) (lawful c.shape) (rw (wide, one) (omega (arith, far)))
      (stands l c.shape (i * s.columns + x) order wide one far) in
      rw mine (rw (same x h, ← wider, ← kind) (fits (i * s.columns + x) (there x h)))
    where
      lawful : (t : Sizes) → IsOrder t (order_of l.order t)
      lawful t = rw order tt

  pub piece_is_row : (raw_bytes line_image l ≡ line) × HaveBytes line_image l s.columns × AreSamples k l line s.columns × AreBandRows line_image piece
      × (length piece ≡ s.columns)
  piece_is_row = (raw_is, fits_there, samples_are, rows_are, piece_long)
