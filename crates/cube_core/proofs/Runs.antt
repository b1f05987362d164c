-- Offsets of a run are replaced by others.
use Rattle.std.proofs.Common.{◌≡◌, ◌+◌, ◌-◌, ◌<◌, ◌≤◌, ◌^◌, ℕ, List, length, get_or, refl, sym, ap, ◌∙◌, subst, arith, inl, inr}
use Rattle.std.proofs.lemmas.Bool.{cases_lt}
use Rattle.cube_core.specs.Runs.{IsRunSet}
use Rattle.cube_core.proofs.Bounds.{index_below}
use Rattle.cube_core.proofs.Offsets.{sample_at_offset}
use Rattle.cube_core.proofs.Raws.{same_place}
use Rattle.cube_core.proofs.Walks.{sequential_index}
use Rattle.cube_core.proofs.Words.{Bsq, SampleKind, sample_of, Image, sample_at, index_in, IsPlaceOf, Place, Sizes, samples_of, AreOffsets}

module _ {s : Sizes} {k : SampleKind} (old new run : List ℕ) {at z y x : ℕ} (is : AreOffsets s k old) (index : at ≡ index_in s.columns s.rows z y x)
    (place : IsPlaceOf s (record { z = z; y = y; x = x })) (inside : x + length run ≤ s.columns) (long : length new ≡ length old)
    (put : (i : ℕ) → i < length run → get_or new (at + i) 0 ≡ get_or run i 0)
    (others : (j : ℕ) → (at ≤ j → at + length run ≤ j) → get_or new j 0 ≡ get_or old j 0)
    (range : (i : ℕ) → i < length run → get_or run i 0 < 2 ^ k.bits) where
  pub run_offsets : AreOffsets s k new
  run_offsets = record {
    whole = long ∙ is.whole;
    range = λ j lt. elim (cases_lt j at) [
      | inl below ↦ rw (others j (λ h. absurd (omega (arith, h, below)))) (is.range j (omega (arith, lt, long)))
      | inr above ↦ elim (cases_lt j (at + length run)) [
        | inl within ↦
            (let i : j ≡ at + (j - at) = omega (arith, above) in
            subst (λ (m : ℕ). get_or new m 0 < 2 ^ k.bits) (sym i) (rw (put (j - at) (omega (arith, within, above))) (range (j - at) (omega (arith, within, above)))))
        | inr beyond ↦ rw (others j (λ h. omega (arith, beyond))) (is.range j (omega (arith, lt, long)))
      ]
    ];
  }

  -- at each place, by its index
  sample_by : (l : List ℕ) → length l ≡ length old → (z' y' x' : ℕ) → IsPlaceOf s (record { z = z'; y = y'; x = x' })
      → sample_at (record { shape = s; kind = k; samples = samples_of k l }) z' y' x' ≡ sample_of k (get_or l (index_in s.columns s.rows z' y' x') 0)
  sample_by l same z' y' x' q =
      sample_at_offset _ s k l z' y' x' (index_in s.columns s.rows z' y' x') refl refl
      (omega (arith, same, is.whole, index_below s.columns s.rows s.bands z' y' x' q.band q.row q.column))

  pub run_set : {c d : Image} → record { shape = s; kind = k; samples = samples_of k old } ≡ c → record { shape = s; kind = k; samples = samples_of k new } ≡ d
      → IsRunSet c d z y x run
  run_set e f = rw (← e, ← f) (record {
    shape = refl;
    kind = refl;
    written = λ i lt.
        let there : IsPlaceOf s (record { z = z; y = y; x = x + i }) = record { band = place.band; row = place.row; column = omega (arith, lt, inside) } in
        let here : index_in s.columns s.rows z y (x + i) ≡ at + i = omega (arith, index) in
        sample_by new long z y (x + i) there ∙ ap (sample_of k) (ap (λ (m : ℕ). get_or new m 0) here ∙ put i lt);
    others = λ z' y' x' q out.
        sample_by old refl z' y' x' q
        ∙ ap (sample_of k) (sym (others (index_in s.columns s.rows z' y' x') (λ above. elim (cases_lt (index_in s.columns s.rows z' y' x') (at + length run)) [
          | inr beyond ↦ beyond
          | inl within ↦
              (let i : ℕ = index_in s.columns s.rows z' y' x' - at in
              let there : IsPlaceOf s (record { z = z; y = y; x = x + i }) = record { band = place.band; row = place.row; column = omega (arith, within, inside) } in
              let same = same_place s Bsq (record { z = z'; y = y'; x = x' }) (record { z = z; y = y; x = x + i }) tt q there
              (sequential_index s _ ∙ (omega (arith, index, above)) ∙ sym (sequential_index s _)) in
              absurd (let col = ap (λ (r : Place). r.x) same in
              let o = out (ap (λ (r : Place). r.z) same) (ap (λ (r : Place). r.y) same) (omega (arith, col)) in omega (arith, o, col, within)))
        ])))
        ∙ sym (sample_by new long z' y' x' q);
  })
