-- Places that follow one another, column after column of some bands: each of them, and how far the bands come along by them.
use Rattle.std.proofs.Common.{◌≡◌, ◌≢◌, ◌+◌, ◌-◌, ◌*◌, ◌/◌, ◌%◌, ◌<◌, ◌≤◌, ℕ, Some, sym, ap, ◌∙◌, inl, inr, arith}
use Rattle.std.proofs.lemmas.Bool.{cases_lt}
use Rattle.std.proofs.lemmas.Nat.{mul-le, mul-add-lt, div_below, mod_below, div-add-mod'}
use Rattle.cube_core.proofs.Words.{Order, Place, IsOrder, IsPlaceOf, places, place_index, Sizes, sample_count, slice_get, HasCome}
use Rattle.cube_core.specs.Tiles.{IsTiled, place_in}
use Rattle.cube_core.proofs.Come.{time_of, time_increases, come_here}
use Rattle.cube_core.proofs.Orders.{StandsAt, item_from_index, place_index_below}
use Rattle.cube_core.proofs.Raws.{same_place}

pub record Within (width depth k : ℕ) : Type 0 where
  pub column : k / depth < width
  pub band : k % depth < depth
  pub split : k / depth * depth + k % depth ≡ k

pub within : (width depth k : ℕ) → 1 ≤ depth → k < width * depth → Within width depth k
within width depth k some lt = record { column = div_below k depth width some lt; band = mod_below k depth some; split = div-add-mod' k depth }

abbrev pub nth : Place → ℕ → ℕ → Place
nth q depth k = place_in q (k / depth) (k % depth)

module _ {s : Sizes} {o : Order} {q : Place} {width depth : ℕ} (lawful : IsOrder s o) (is : IsTiled s o q width depth) where
  pub placed : (i b : ℕ) → i < width → b < depth → IsPlaceOf s (place_in q i b)
  placed i b column band = record { band = omega (arith, band, is.bands); row = is.place.row; column = omega (arith, column, is.columns) }

  stands : (k : ℕ) → k < width * depth → Within width depth k × IsPlaceOf s (nth q depth k) × (place_index s o (nth q depth k) ≡ place_index s o q + k)
  stands k lt =
      let w = within width depth k is.some.1 lt in
      let index = is.index _ _ w.column w.band in
      (w, placed _ _ w.column w.band, omega (arith, index, w.split))

  -- a place that stands among them is one of them
  found_in : (r : Place) → IsPlaceOf s r → place_index s o q ≤ place_index s o r → place_index s o r < place_index s o q + width * depth
      → (k : ℕ) × Within width depth k × (r ≡ nth q depth k) × (place_index s o r ≡ place_index s o q + k)
  found_in r there low high =
      let k : ℕ = place_index s o r - place_index s o q in
      let at = stands k (omega (arith, low, high)) in
      (k, at.0, same_place _ _ _ _ lawful there at.1 (omega (arith, at.2, low)), omega (arith, low))

  -- they follow one another in the list of all places
  pub item_in : (k : ℕ) → k < width * depth → slice_get (places s o) (place_index s o q + k) ≡ Some (nth q depth k)
  item_in k lt =
      let at = stands k lt in
      item_from_index _ _ _ _ lawful at.1 at.2 (omega (arith, at.2, place_index_below _ _ _ lawful at.1))

  -- so many places are left where they begin
  pub room_for : place_index s o q + width * depth ≤ sample_count s
  room_for =
      let some = mul-le 1 1 width depth is.some.0 is.some.1 in
      let last = stands (width * depth - 1) (omega (arith, some)) in
      omega (arith, last.2, place_index_below _ _ _ lawful last.1, some)

-- ---- how far the bands come along

module _ {s : Sizes} {o : Order} {q : Place} {width depth : ℕ} (lawful : IsOrder s o) (is : IsTiled s o q width depth) (z t : ℕ)
    (come : HasCome s o z (place_index s o q) t) where
  -- a band that has no place among the first m of them comes no further by these
  come_past : (m : ℕ) → m ≤ width * depth → ((k : ℕ) → k < m → Within width depth k → z ≢ q.z + k % depth) → HasCome s o z (place_index s o q + m) t
  come_past m le apart r there e = (forth, λ h. let g = (come r there e).1 h in omega (arith, g))
    where
      forth : place_index s o r < place_index s o q + m → time_of s r < t
      forth h = elim (cases_lt (place_index s o r) (place_index s o q)) [
        | inl before ↦ (come r there e).0 before
        | inr rest ↦
            (let f = found_in lawful is r there rest (omega (arith, h, le)) in
            absurd (apart f.0 (omega (arith, f.3, h)) f.1 (sym e ∙ ap (λ (r : Place). r.z) f.2)))
      ]

  pub come_beside : (q.z ≤ z → q.z + depth ≤ z) → HasCome s o z (place_index s o q + width * depth) t
  come_beside apart = come_past (width * depth) (omega arith) (λ k lt w e. omega (arith, e, w.band, apart))

  -- one of their bands is at the first column
  pub time_at : q.z ≤ z → z < q.z + depth → time_of s q ≡ t
  time_at low high =
      let b : ℕ = z - q.z in
      let some : 0 < width = omega (arith, is.some.0) in
      let row = mul-le 1 depth width depth is.some.0 (omega arith) in
      let first : StandsAt s o (place_in q 0 b) (place_index s o q + b) =
      record { place = placed lawful is 0 b some (omega (arith, low, high)); index = omega (arith, is.index 0 b some (omega (arith, low, high))) } in
      let up = come_past b (omega (arith, row, low, high)) (λ k lt w e. omega (arith, e, lt, w.split)) in
      omega (arith, come_here _ _ _ _ _ _ lawful up first (omega (arith, low)))

  -- it comes as many places further as there are columns
  pub come_within : q.z ≤ z → z < q.z + depth → HasCome s o z (place_index s o q + width * depth) (time_of s q + width)
  come_within low high r there e = (forth, back)
    where
      forth : place_index s o r < place_index s o q + width * depth → time_of s r < time_of s q + width
      forth h = elim (cases_lt (place_index s o r) (place_index s o q)) [
        | inl before ↦ (let g = (come r there e).0 before in omega (arith, g, time_at low high))
        | inr rest ↦ (let f = found_in lawful is r there rest h in omega (arith, ap (time_of s) f.2, f.1.column))
      ]

      back : time_of s r < time_of s q + width → place_index s o r < place_index s o q + width * depth
      back h = elim (cases_lt (place_index s o r) (place_index s o q + width * depth)) [
        | inl lt ↦ lt
        | inr ge ↦
            (let i : ℕ = width - 1 in
            let b : ℕ = z - q.z in
            let column : width - 1 < width = omega (arith, is.some.0) in
            let band : z - q.z < depth = omega (arith, low, high) in
            let before : place_index s o (place_in q i b) < place_index s o r =
            omega (arith, is.index i b column band, mul-add-lt i depth b width column band, ge) in
            let later = time_increases s o (place_in q i b) r lawful (placed lawful is i b column band) there (omega (arith, e, low)) before in
            absurd (omega (arith, later, h)))
      ]
