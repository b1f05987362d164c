-- How many parts of 64 the intervals of a length make.
use Rattle.std.proofs.Common.{◌≡◌, ℕ, ◌+◌, ◌-◌, ◌*◌, ◌/◌, ◌%◌, ◌<◌, ◌≤◌, refl, sym, ap, ◌∙◌, inl, inr, arith}
use Rattle.std.proofs.lemmas.Bool.{cases_lt}
use Rattle.std.proofs.lemmas.Nat.{div-mul-add, mod-mul-add, mul-le, div-add-mod', mod_below}
use Rattle.std.proofs.Math.Nat.{lt-div-mul-add}

-- how many segments begin before block i
abbrev pub begun : ℕ → ℕ → ℕ
begun r i = i / r * ((r + 63) / 64) + (i % r + 63) / 64

-- before block m of interval q
pub begun_at : (r q m : ℕ) → m < r → begun r (q * r + m) ≡ q * ((r + 63) / 64) + (m + 63) / 64
begun_at r q m lt = rw (div-mul-add q r m lt, mod-mul-add q r m lt) refl

pub begun_end : (r q : ℕ) → 1 ≤ r → begun r (q * r + r) ≡ q * ((r + 63) / 64) + (r + 63) / 64
begun_end r q pos =
    let next : q * r + r ≡ (q + 1) * r + 0 = omega arith in
    rw next (begun_at r (q + 1) 0 pos ∙ omega arith)

-- before the block k blocks after block m of interval q, which is at most the next interval's first one
pub begun_on : (r q m k : ℕ) → m + k ≤ r → 1 ≤ r → begun r (q * r + m + k) ≡ q * ((r + 63) / 64) + (m + k + 63) / 64
begun_on r q m k le pos =
    elim (cases_lt (m + k) r) [
      | inl lt ↦ (let e : q * r + m + k ≡ q * r + (m + k) = omega arith in rw e (begun_at r q (m + k) lt))
      | inr ge ↦ (let e : q * r + m + k ≡ q * r + r = omega arith in let f : m + k ≡ r = omega arith in rw (e, f) (begun_end r q pos))
    ]

-- before the block k blocks after block i, which is at most the next interval's first one
pub begun_within : (r i k : ℕ) → 1 ≤ r → k ≤ r - i % r → begun r (i + k) ≡ i / r * ((r + 63) / 64) + (i % r + k + 63) / 64
begun_within r i k pos le =
    let whole = div-add-mod' i r in
    let below = mod_below i r pos in
    let at : i / r * r + i % r + k ≡ i + k = omega arith in
    ap (begun r) (sym at) ∙ begun_on r (i / r) (i % r) k (omega arith) pos

pub few_at : (m k : ℕ) → k ≤ 64 - m % 64 → (m + k + 63) / 64 ≤ (m + 63) / 64 + 1
few_at m k le = omega arith

pub one_at : (m k : ℕ) → m % 64 ≡ 0 → 1 ≤ k → k ≤ 64 → (m + k + 63) / 64 ≡ (m + 63) / 64 + 1
one_at m k border some most = omega arith

pub begun_none : (r : ℕ) → 1 ≤ r → begun r 0 ≡ 0
begun_none r pos =
    let zero_times : 0 * r + 0 ≡ 0 = omega arith in
    let none : 0 * ((r + 63) / 64) + (0 + 63) / 64 ≡ 0 = omega arith in
    ap (begun r) (sym zero_times) ∙ begun_at r 0 0 pos ∙ none

pub count_even : (size n : ℕ) → 1 ≤ size → (n * size + size - 1) / size ≡ n
count_even size n pos =
    let below : size - 1 < size = omega arith in
    let e : n * size + size - 1 ≡ n * size + (size - 1) = omega arith in
    rw e (div-mul-add _ _ _ below)

pub count_odd : (size n k : ℕ) → 1 ≤ k → k ≤ size → (n * size + k + size - 1) / size ≡ n + 1
count_odd size n k least most =
    let below : k - 1 < size = omega arith in
    let e : n * size + k + size - 1 ≡ (n + 1) * size + (k - 1) = omega arith in
    rw e (div-mul-add _ _ _ below)

pub count_least : (size many rest : ℕ) → 1 ≤ size → many ≤ (many * size + rest + size - 1) / size
count_least size many rest pos =
    let over = lt-div-mul-add {a = many * size + rest + size - 1} {b = size} (omega arith) in
    block_least size many ((many * size + rest + size - 1) / size) (omega arith)
  where
    block_least : (size many q : ℕ) → many * size < (q + 1) * size → many ≤ q
    block_least size many q lt =
        elim (cases_lt q many) [
          | inl below ↦ (let p = mul-le (q + 1) size many size (omega arith) (omega arith) in absurd (omega arith))
          | inr above ↦ above
        ]
