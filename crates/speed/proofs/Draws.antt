-- Numbers that are drawn one after another.
use Rattle.std.proofs.Common.{◌≡◌, ◌≢◌, ◌+◌, ◌*◌, ◌/◌, ◌%◌, ◌^◌, ◌<◌, ◌≤◌, ℕ, zero, suc, List, [], ◌∷◌, ◌++◌, length, map, bit_and, bit_or, refl, sym, ap, ◌∙◌}
use Rattle.std.proofs.Common.{add-one, append-nil, Bool, true, false, cond, eqb, get_or, subst, lit<, arith}
use Rattle.std.specs.Int.{w16, leading_zeros}
use Rattle.std.proofs.lemmas.List.{map-append, length-map, get_or-map}
use Rattle.std.specs.List.{flat_map}
use Rattle.std.proofs.lemmas.Grind.{flat_map-append}
use Rattle.std.proofs.lemmas.Nat.{and_block, and_le_l, and_le_r, or_disjoint, leading_le, div_below, mod_below, pow_pos}
use Rattle.std.proofs.lemmas.Bool.{ne_eqb, eq-eqb}
use Rattle.std.proofs.Math.Pow.{pow_mono}
use Rattle.cube_core.specs.Order.{from, upto}
use Rattle.cube_core.proofs.Lists.{length-from}
use Rattle.speed.specs.Bodies.{AreOfBits}
use Rattle.speed.specs.Numbers.{first_state, next_state, state_after, highest, residual_of, synthetic_residual, synthetic_residuals}

from_more : (a n : ℕ) → from a (suc n) ≡ from a n ++ (a + n) ∷ []
from_more a zero = let e : a ≡ a + 0 = omega arith in ap (λ (k : ℕ). k ∷ []) e
from_more a (suc n) =
    let e : suc a + n ≡ a + suc n = omega arith in
    ap (λ (ks : List ℕ). a ∷ ks) (from_more (suc a) n ∙ ap (λ (k : ℕ). from (suc a) n ++ k ∷ []) e)

pub upto_more : (n : ℕ) → upto (n + 1) ≡ upto n ++ n ∷ []
upto_more n = rw add-one (from_more 0 n ∙ ap (λ (k : ℕ). upto n ++ k ∷ []) (let e : 0 + n ≡ n = omega arith in e))

-- one more of the values of a function
pub mapped_more : {B : Type 0} (f : ℕ → B) (n : ℕ) → map f (upto (n + 1)) ≡ map f (upto n) ++ f n ∷ []
mapped_more f n = ap (map f) (upto_more n) ∙ map-append f (upto n) (n ∷ [])

pub pieces_more : (f : ℕ → List ℕ) (n : ℕ) → flat_map f (upto (n + 1)) ≡ flat_map f (upto n) ++ f n
pieces_more f n = ap (flat_map f) (upto_more n) ∙ flat_map-append f (upto n) (n ∷ []) ∙ ap (λ (ks : List ℕ). flat_map f (upto n) ++ ks) (append-nil (f n))

pub length-mapped : (f : ℕ → ℕ) (n : ℕ) → length (map f (upto n)) ≡ n
length-mapped f n = length-map (upto n) f ∙ length-from 0 n

pub state_after_none : state_after 0 ≡ first_state
unfolding state_after
state_after_none = refl

pub state_after_one : (n : ℕ) → state_after (n + 1) ≡ next_state (state_after n)
unfolding state_after
state_after_one n = rw add-one refl

-- ---- a residual of two numbers

pub silent_residual : (i word few : ℕ) → i / 4096 % 8 ≡ 7 → 0 ≡ residual_of i word few
silent_residual i word few e = rw (eq-eqb (i / 4096 % 8) 7 e) refl

-- five bits, at least the last of which is dropped
halved : (few k : ℕ) → few < 32 → few / 2 ^ (k + 1) < 16
halved few k lt =
    let two : 2 ^ 1 ≤ 2 ^ (k + 1) = pow_mono {i = 1} {j = k + 1} (omega arith) in
    div_below few (2 ^ (k + 1)) 16 (pow_pos (k + 1)) (omega (arith, lt, two))

-- bits below a multiple of 16 are added to it
low_bits_added : (high low : ℕ) → low < 16 → bit_or (16 * high) low ≡ 16 * high + low
low_bits_added high low lt =
    let block : bit_and (high * 2 ^ 4 + 0) (0 * 2 ^ 4 + low) ≡ bit_and high 0 * 2 ^ 4 + bit_and 0 low =
    and_block 4 high 0 0 low (omega arith) (omega (arith, lt)) in
    let left : high * 2 ^ 4 + 0 ≡ 16 * high = omega arith in
    let right : 0 * 2 ^ 4 + low ≡ low = omega arith in
    let apart : bit_and (16 * high) low ≡ 0 = rw (← left, ← right) (omega (arith, block, and_le_r high 0, and_le_l 0 low)) in
    or_disjoint (16 * high) low apart

pub spoken_residual : (i word few : ℕ) → few < 32 → i / 4096 % 8 ≢ 7
    → bit_or (leading_zeros w16 word * 16 % 4294967296) (few / 2 ^ (i / 4096 % 4 + 1)) ≡ residual_of i word few
spoken_residual i word few lt apart =
    let most : leading_zeros w16 word ≤ 16 = leading_le 16 word in
    let high : leading_zeros w16 word * 16 % 4294967296 ≡ 16 * leading_zeros w16 word = omega (arith, most) in
    let low : few / 2 ^ (i / 4096 % 4 + 1) < 16 = halved few (i / 4096 % 4) lt in
    rw (high, ne_eqb (i / 4096 % 8) 7 apart) (low_bits_added (leading_zeros w16 word) (few / 2 ^ (i / 4096 % 4 + 1)) low)

pub residual_is : (i word few : ℕ) → word ≡ highest 16 (state_after (2 * i + 1)) → few ≡ highest 5 (state_after (2 * i + 2))
    → residual_of i word few ≡ synthetic_residual i
unfolding synthetic_residual
residual_is i word few e f = ap (λ (n : ℕ). residual_of i n few) e ∙ ap (residual_of i (highest 16 (state_after (2 * i + 1)))) f

-- ---- residuals are of twelve bits

state_in_word : (n : ℕ) → state_after (n + 1) < 2 ^ 64
state_in_word n =
    subst (λ (state : ℕ). state < 2 ^ 64) (sym (state_after_one n)) (mod_below (6364136223846793005 * state_after n + 1442695040888963407) (2 ^ 64) (lit< tt))

below_twelve_bits : (b : Bool) (number : ℕ) → number < 2 ^ 12 → cond b 0 number < 2 ^ 12
below_twelve_bits true number lt = lit< tt
below_twelve_bits false number lt = lt

synthetic_below : (i : ℕ) → synthetic_residual i < 2 ^ 12
unfolding synthetic_residual
synthetic_below i =
    let word : ℕ = highest 16 (state_after (2 * i + 1)) in
    let few : ℕ = highest 5 (state_after (2 * i + 2)) in
    let last : 2 * i + 1 + 1 ≡ 2 * i + 2 = omega arith in
    let state : state_after (2 * i + 2) < 2 ^ 64 = subst (λ (n : ℕ). state_after n < 2 ^ 64) last (state_in_word (2 * i + 1)) in
    let drawn : highest 5 (state_after (2 * i + 2)) < 32 = div_below (state_after (2 * i + 2)) (2 ^ 59) 32 (pow_pos 59) state in
    let high : leading_zeros w16 (highest 16 (state_after (2 * i + 1))) ≤ 16 = leading_le 16 word in
    let low : highest 5 (state_after (2 * i + 2)) / 2 ^ (i / 4096 % 4 + 1) < 16 = halved few (i / 4096 % 4) drawn in
    below_twelve_bits (eqb (i / 4096 % 8) 7) (16 * leading_zeros w16 word + few / 2 ^ (i / 4096 % 4 + 1)) (omega (arith, high, low))

pub residuals_below : (n : ℕ) → AreOfBits 12 (synthetic_residuals n)
residuals_below n i lt =
    let among : i < length (upto n) = omega (arith, lt, length-map (upto n) synthetic_residual) in
    subst (λ (number : ℕ). number < 2 ^ 12) (sym (get_or-map synthetic_residual (upto n) i 0 0 among)) (synthetic_below (get_or (upto n) i 0))
