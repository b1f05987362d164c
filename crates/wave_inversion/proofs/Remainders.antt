-- Samples from what a mapped residual leaves of the scaled prediction.
use Rattle.std.proofs.Common.{◌≡◌, ◌⊎◌, ◌∙◌, ◌+◌, ◌*◌, ◌/◌, ◌%◌, ◌<◌, ℕ, ℤ, pos, negsuc, ◌+ℤ◌, ◌-ℤ◌, ◌*ℤ◌, ◌≤ℤ◌, unsigned_abs, inl, inr, arith, refl}
use Rattle.std.specs.Int.{int_max, int_min}
use Rattle.std.proofs.lemmas.Bool.{cases_lt}
use Rattle.std.proofs.lemmas.Int.{ints, clamps}
use Rattle.sample_prediction.specs.Arithmetic.{floor_div, clip}
use Rattle.sample_prediction.specs.Mapping.{unmapped_between}
use Rattle.sample_prediction.specs.Residual.{theta_between}
use Rattle.sample_prediction.proofs.OneSample.{unmapped_is}
use Rattle.wave_inversion.proofs.ErrorNumbers.{far_error, near_error}

pub halves : (a : ℤ) → ((pos 2 *ℤ floor_div a 2) ≤ℤ a) × (a ≤ℤ (pos 2 *ℤ floor_div a 2 +ℤ pos 1))
halves (pos a) = (omega (arith, ints), omega (arith, ints))
halves (negsuc a) = (omega (arith, ints), omega (arith, ints))

pub parity : (a : ℤ) → (a ≡ pos 2 *ℤ floor_div a 2) ⊎ (a ≡ pos 2 *ℤ floor_div a 2 +ℤ pos 1)
parity (pos a) = elim (cases_lt 0 (a % 2)) [
  | inl odd ↦ inr (omega (arith, ints, odd))
  | inr even ↦ inl (omega (arith, ints, even))
]
parity (negsuc a) = elim (cases_lt 0 (a % 2)) [
  | inl odd ↦ inl (omega (arith, ints, odd))
  | inr even ↦ inr (omega (arith, ints, even))
]

back : (a b : ℤ) → a ≡ b +ℤ (a -ℤ b)
back a b = omega (arith, ints)

-- the sample, from its cases
found : (g twice value out : ℤ) (n theta : ℕ) → pos 0 ≤ℤ value → value ≤ℤ g → value ≡ floor_div twice 2 → theta ≡ theta_between (pos 0) g value
    → (2 * theta < n → (g -ℤ value +ℤ pos 1) ≤ℤ value → out ≡ g -ℤ pos n)
    → (2 * theta < n → value ≤ℤ (g -ℤ value) → out ≡ pos n)
    → (n < 2 * theta + 1 → (n + unsigned_abs twice) % 2 ≡ 0 → out ≡ value +ℤ pos ((n + 1) / 2))
    → (n < 2 * theta + 1 → (n + unsigned_abs twice) % 2 ≡ 1 → out ≡ value -ℤ pos ((n + 1) / 2))
    → out ≡ unmapped_between (pos 0) g twice n
found g twice value out n theta low high half is above below even odd = back out value ∙ unmapped_is (pos 0) g twice value (out -ℤ value) theta
    (unsigned_abs (value -ℤ pos 0)) (unsigned_abs twice) n half is refl refl (elim (cases_lt (2 * theta) n) [
      | inl beyond ↦ far_error g value theta n low high is beyond (unsigned_abs twice) out (above beyond) (below beyond)
      | inr least ↦ (let within : n < 2 * theta + 1 = omega (arith, least) in
          near_error value theta (unsigned_abs (value -ℤ pos 0)) n (unsigned_abs twice) out within (even within) (odd within))
    ])

above : (q k : ℤ) → (k ≤ℤ q) ⊎ ((q +ℤ pos 1) ≤ℤ k)
above q k = sign (q -ℤ k) refl
  where
    sign : (d : ℤ) → d ≡ q -ℤ k → (k ≤ℤ q) ⊎ ((q +ℤ pos 1) ≤ℤ k)
    sign (pos d) e = inl (omega (arith, ints, e))
    sign (negsuc d) e = inr (omega (arith, ints, e))

-- the facts of a scaled prediction, of the predicted sample, and of a mapped residual
record Facts (g q twice value : ℤ) (n theta : ℕ) : Type 0 where
  some : pos 1 ≤ℤ g
  fits : pos n ≤ℤ g
  clipped : twice ≡ clip (q +ℤ pos 1) (pos 0) (pos 2 *ℤ g +ℤ pos 1)
  low : (pos 2 *ℤ value) ≤ℤ twice
  high : twice ≤ℤ (pos 2 *ℤ value +ℤ pos 1)
  nearer : theta ≡ theta_between (pos 0) g value

upwards_by : (g q u twice value out : ℤ) (n theta : ℕ) → Facts g q twice value n theta → value ≡ floor_div twice 2
    → (pos 2 *ℤ u) ≤ℤ (q -ℤ pos n +ℤ pos 1) → (q -ℤ pos n) ≤ℤ (pos 2 *ℤ u)
    → ((q -ℤ pos n) ≤ℤ negsuc 0) ⊎ ((q -ℤ pos n +ℤ pos 1 ≡ pos 2 *ℤ u) × ((q -ℤ pos n +ℤ pos 1) ≤ℤ (pos 2 *ℤ (g -ℤ pos n))))
    → out ≡ pos n +ℤ int_max u (pos 0) → out ≡ unmapped_between (pos 0) g twice n
upwards_by g q u twice value out n theta f half low high where_it_is is =
    let some = f.some in let fits = f.fits in let clipped = f.clipped in let vl = f.low in let vh = f.high in let nearer = f.nearer in
    elim where_it_is [
      | inl before ↦ found g twice value out n theta (omega (arith, ints, clamps, clipped, vh)) (omega (arith, ints, clamps, clipped, vl)) half nearer
          (λ beyond above. omega (arith, ints, clamps, some, fits, clipped, vl, vh, nearer, low, high, before, is, beyond, above))
          (λ beyond below. omega (arith, ints, clamps, some, fits, clipped, vl, vh, nearer, low, high, before, is, beyond, below))
          (λ within even. omega (arith, ints, clamps, some, fits, clipped, vl, vh, nearer, low, high, before, is, within, even))
          (λ within odd. omega (arith, ints, clamps, some, fits, clipped, vl, vh, nearer, low, high, before, is, within, odd))
      | inr between ↦ (let exact = between.0 in let inside = between.1 in
          found g twice value out n theta (omega (arith, ints, clamps, clipped, vh)) (omega (arith, ints, clamps, clipped, vl)) half nearer
          (λ beyond above. omega (arith, ints, clamps, some, fits, clipped, vl, vh, nearer, exact, inside, is, beyond, above))
          (λ beyond below. omega (arith, ints, clamps, some, fits, clipped, vl, vh, nearer, exact, inside, is, beyond, below))
          (λ within even. omega (arith, ints, clamps, some, fits, clipped, vl, vh, nearer, exact, inside, is, within, even))
          (λ within odd. omega (arith, ints, clamps, some, fits, clipped, vl, vh, nearer, exact, inside, is, within, odd)))
    ]

twice_over : (g value : ℤ) (n theta : ℕ) → value ≤ℤ g → theta ≡ theta_between (pos 0) g value → n < 2 * theta + 1 → pos n ≤ℤ (pos 2 *ℤ (g -ℤ value))
twice_over g value n theta inside nearer within = omega (arith, ints, inside, nearer, within)

room_over : (g value h : ℤ) (n : ℕ) → value ≡ h +ℤ pos ((n + 1) / 2) → pos n ≤ℤ (pos 2 *ℤ (g -ℤ value)) → h ≤ℤ (g -ℤ pos n)
room_over g value h n v twice = omega (arith, ints, v, twice)

-- where the rest is even, and no end of the range is near
even_rest : (g q h twice value out : ℤ) (n theta : ℕ) → Facts g q twice value n theta → q -ℤ pos n ≡ pos 2 *ℤ h → pos 0 ≤ℤ (q -ℤ pos n)
    → out ≡ int_min h (g -ℤ pos n) → n < 2 * theta + 1 → (n + unsigned_abs twice) % 2 ≡ 1 → out ≡ value -ℤ pos ((n + 1) / 2)
even_rest g q h twice value out n theta f exact after is within odd =
    let some = f.some in let fits = f.fits in let clipped = f.clipped in let vl = f.low in let vh = f.high in let nearer = f.nearer in
    elim (above q (pos 2 *ℤ g)) [
      | inl top ↦
          (let t : twice ≡ pos 2 *ℤ g +ℤ pos 1 = omega (arith, ints, clamps, clipped, top, some) in
          let v : value ≡ g = omega (arith, ints, t, vl, vh) in
          let none : n ≡ 0 = omega (arith, ints, v, nearer, within) in
          let o : out ≡ g = omega (arith, ints, clamps, is, exact, none, top) in
          let half : (n + 1) / 2 ≡ 0 = omega (arith, none) in
          omega (arith, ints, o, v, half))
      | inr less ↦
          (let t : twice ≡ q +ℤ pos 1 = omega (arith, ints, clamps, clipped, after, less) in
          let v : value ≡ h +ℤ pos ((n + 1) / 2) = omega (arith, ints, t, vl, vh, exact) in
          let inside : value ≤ℤ g = omega (arith, ints, clamps, clipped, vl) in
          let room : h ≤ℤ (g -ℤ pos n) = room_over g value h n v (twice_over g value n theta inside nearer within) in
          let o : out ≡ h = omega (arith, ints, clamps, is, room) in
          omega (arith, ints, o, v))
    ]

-- where the rest leaves no room, up to twice the distance of the nearer end
at_end : (g q twice value : ℤ) (n theta : ℕ) → Facts g q twice value n theta → (pos 2 *ℤ (g -ℤ pos n)) ≤ℤ (q -ℤ pos n) → n < 2 * theta + 1
    → (pos n ≡ pos 2 *ℤ (g -ℤ value)) × (twice ≡ pos 2 *ℤ value +ℤ pos 1)
at_end g q twice value n theta f outside within =
    let clipped = f.clipped in let vl = f.low in let vh = f.high in let some = f.some in let fits = f.fits in
    let inside : value ≤ℤ g = omega (arith, ints, clamps, clipped, vl) in
    let over = twice_over g value n theta inside f.nearer within in
    let least : (pos 2 *ℤ g -ℤ pos n +ℤ pos 1) ≤ℤ twice = omega (arith, ints, clamps, clipped, outside, some, fits) in
    (omega (arith, ints, over, least, vh), omega (arith, ints, over, least, vh))

odd_sum : (g value twice : ℤ) (n : ℕ) → pos n ≡ pos 2 *ℤ (g -ℤ value) → twice ≡ pos 2 *ℤ value +ℤ pos 1 → (n + unsigned_abs twice) % 2 ≡ 0 → ⊥
odd_sum g value twice n e t even = omega (arith, ints, e, t, even)

end_is : (g value out : ℤ) (n : ℕ) → pos n ≡ pos 2 *ℤ (g -ℤ value) → out ≡ g -ℤ pos n → out ≡ value -ℤ pos ((n + 1) / 2)
end_is g value out n e o = omega (arith, ints, e, o)

downwards_by : (g q h twice value out : ℤ) (n theta : ℕ) → Facts g q twice value n theta → value ≡ floor_div twice 2
    → (pos 2 *ℤ h) ≤ℤ (q -ℤ pos n) → (q -ℤ pos n) ≤ℤ (pos 2 *ℤ h +ℤ pos 1) → pos 0 ≤ℤ (q -ℤ pos n)
    → (q -ℤ pos n ≡ pos 2 *ℤ h) ⊎ ((pos 2 *ℤ (g -ℤ pos n)) ≤ℤ (q -ℤ pos n))
    → out ≡ int_min h (g -ℤ pos n) → out ≡ unmapped_between (pos 0) g twice n
downwards_by g q h twice value out n theta f half low high after where_it_is is =
    let some = f.some in let fits = f.fits in let clipped = f.clipped in let vl = f.low in let vh = f.high in let nearer = f.nearer in
    elim where_it_is [
      | inl exact ↦ found g twice value out n theta (omega (arith, ints, clamps, clipped, vh)) (omega (arith, ints, clamps, clipped, vl)) half nearer
          (λ beyond above. omega (arith, ints, clamps, some, fits, clipped, vl, vh, nearer, exact, after, is, beyond, above))
          (λ beyond below. omega (arith, ints, clamps, some, fits, clipped, vl, vh, nearer, exact, after, is, beyond, below))
          (λ within even. omega (arith, ints, clamps, some, fits, clipped, vl, vh, nearer, exact, after, is, within, even))
          (λ within odd. even_rest g q h twice value out n theta f exact after is within odd)
      | inr outside ↦ found g twice value out n theta (omega (arith, ints, clamps, clipped, vh)) (omega (arith, ints, clamps, clipped, vl)) half nearer
          (λ beyond above. omega (arith, ints, clamps, some, fits, clipped, vl, vh, nearer, low, high, outside, is, beyond, above))
          (λ beyond below. omega (arith, ints, clamps, some, fits, clipped, vl, vh, nearer, low, high, outside, is, beyond, below))
          (λ within even. (let e = at_end g q twice value n theta f outside within in
          absurd (odd_sum g value twice n e.0 e.1 even)))
          (λ within odd. (let e = at_end g q twice value n theta f outside within in
          let o : out ≡ g -ℤ pos n = omega (arith, ints, clamps, is, low, high, outside) in
          end_is g value out n e.0 o))
    ]

-- the scaled prediction of offsets, from its half less 1
abbrev pub clipped_at : ℤ → ℤ → ℤ
clipped_at g q = clip (q +ℤ pos 1) (pos 0) (pos 2 *ℤ g +ℤ pos 1)

facts : (g q : ℤ) (n : ℕ) → pos 1 ≤ℤ g → pos n ≤ℤ g
    → Facts g q (clipped_at g q) (floor_div (clipped_at g q) 2) n (theta_between (pos 0) g (floor_div (clipped_at g q) 2))
facts g q n some fits = let v = halves (clipped_at g q) in record {
  some = some;
  fits = fits;
  clipped = refl;
  low = v.0;
  high = v.1;
  nearer = refl;
}

-- the error isn't negative
pub upwards : (g q u out : ℤ) (n : ℕ) → pos 1 ≤ℤ g → pos n ≤ℤ g → (pos 2 *ℤ u) ≤ℤ (q -ℤ pos n +ℤ pos 1) → (q -ℤ pos n) ≤ℤ (pos 2 *ℤ u)
    → ((q -ℤ pos n) ≤ℤ negsuc 0) ⊎ ((q -ℤ pos n +ℤ pos 1 ≡ pos 2 *ℤ u) × ((q -ℤ pos n +ℤ pos 1) ≤ℤ (pos 2 *ℤ (g -ℤ pos n))))
    → out ≡ pos n +ℤ int_max u (pos 0) → out ≡ unmapped_between (pos 0) g (clipped_at g q) n
upwards g q u out n some fits = upwards_by g q u (clipped_at g q) (floor_div (clipped_at g q) 2) out n _ (facts g q n some fits) refl

-- it is, or it is 0
pub downwards : (g q h out : ℤ) (n : ℕ) → pos 1 ≤ℤ g → pos n ≤ℤ g → (pos 2 *ℤ h) ≤ℤ (q -ℤ pos n) → (q -ℤ pos n) ≤ℤ (pos 2 *ℤ h +ℤ pos 1)
    → pos 0 ≤ℤ (q -ℤ pos n) → (q -ℤ pos n ≡ pos 2 *ℤ h) ⊎ ((pos 2 *ℤ (g -ℤ pos n)) ≤ℤ (q -ℤ pos n))
    → out ≡ int_min h (g -ℤ pos n) → out ≡ unmapped_between (pos 0) g (clipped_at g q) n
downwards g q h out n some fits = downwards_by g q h (clipped_at g q) (floor_div (clipped_at g q) 2) out n _ (facts g q n some fits) refl
