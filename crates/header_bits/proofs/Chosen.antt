-- The header that a coder writes is a spelling of its parameters.
use Rattle.std.proofs.Common.{◌≡◌, inl, inr, ℕ, zero, suc, ◌+◌, ◌-◌, ◌*◌, ◌/◌, ◌^◌, ◌<◌, ◌≤◌, ◌≤ℤ◌, Bool, true, false, cond, ◌&&◌, ltb, eqb, List, [], ◌∷◌}
use Rattle.std.proofs.Common.{◌++◌, length, map, take, get_or, ℤ, pos, negsuc, refl, sym, ap, subst, ◌∙◌, arith}
use Rattle.std.proofs.lemmas.Int.{ints}
use Rattle.std.specs.List.{AllByRecursion}
use Rattle.std.proofs.lemmas.List.{length-map}
use Rattle.std.proofs.lemmas.Nat.{pow_pos}
use Rattle.std.proofs.Math.Nat.{div-eq_of_lt}
use Rattle.std.proofs.lemmas.Bool.{le-ltb, ne_eqb, eq-eqb}
use Rattle.cube_core.specs.declared.order.Order.{Order}
use Rattle.cube_core.specs.declared.order.Order.TheVariants.{Bsq, Bi}
use Rattle.cube_core.specs.Shape.{Sizes}
use Rattle.cube_core.specs.Order.{IsOrder}
use Rattle.header_bits.specs.declared.params.Params.{Params}
use Rattle.header_bits.specs.declared.params.WeightStart.{WeightStart}
use Rattle.header_bits.specs.declared.params.WeightStart.TheVariants.{Usual, Table}
use Rattle.header_bits.specs.declared.params.Coder.{Coder}
use Rattle.header_bits.specs.declared.params.Coder.TheVariants.{Sample, Block}
use Rattle.header_bits.specs.declared.params.CountStart.{CountStart}
use Rattle.header_bits.specs.declared.params.CountStart.TheVariants.{Constant, Each}
use Rattle.header_bits.specs.declared.image_part.ImagePart.{ImagePart}
use Rattle.header_bits.specs.declared.predictor_part.PredictorPart.{PredictorPart}
use Rattle.header_bits.specs.Layout.{AreValues, spelled}
use Rattle.header_bits.specs.Parts.{fine, reserved_test, SpellsPart}
use Rattle.header_bits.specs.ImagePart.{image, image_numbers, flag, order_flag, depth_number}
use Rattle.header_bits.specs.PredictorPart.{predictor, start_tests, predictor_numbers, exponent_of, exponent_code}
use Rattle.header_bits.specs.CoderPart.{coder, coder_by, coder_fields, coder_numbers, size_code}
use Rattle.header_bits.specs.TableParts.{weights, weights_by, weight_count, constants, constants_by, table_fields, signed_code}
use Rattle.header_bits.specs.Header.{HeaderContents, params_of, start_by, coder_by_part, coder_start, header_of, SpellsHeader, SpellsParts, image_part_of}
use Rattle.header_bits.specs.Header.{predictor_part_of, coder_part_of, is_block, is_custom, resolution_of, is_each, weight_bits, each_bits, constant_bits}
use Rattle.header_bits.specs.Lawful.{IsLawful, IsExponent, IsBlockSize, IsWeightStart, IsCountStart, IsCoder}
use Rattle.header_bits.proofs.Tests.{◌then_fine◌, refuse_fine, not_under}
use Rattle.header_bits.proofs.Held.{image_held, predictor_held, coder_held, image_bits, predictor_bits, coder_bits}
use Rattle.header_bits.proofs.Lawfulness.{above_none}
use Rattle.header_bits.proofs.TableTexts.{codes_small, codes_back, table_held, table_front, table_fill}

-- no reserved bit is set
reserved_zero : (at n : ℕ) → reserved_test at n 0 ≡ fine
unfolding reserved_test
reserved_zero at zero = refl
reserved_zero at (suc n) = rw (eq-eqb (0 / 2 ^ n) 0 (div-eq_of_lt (pow_pos n))) (reserved_zero (at + 1) n)

flag_back : (b : Bool) → eqb (flag b) 1 ≡ b
flag_back true = refl
flag_back false = refl

flag_none : (b : Bool) → eqb (flag b) 0 ≡ true → b ≡ false
flag_none true e = absurd cc
flag_none false e = refl

-- ---- the image part

order_back : (o : Order) → cond (eqb (order_flag o) 0) (Bi (depth_number o)) Bsq ≡ o
order_back Bsq = refl
order_back (Bi depth) = refl

order_passes : (s : Sizes) (o : Order) → IsOrder s o → (eqb (order_flag o) 0 && ltb s.bands (depth_number o)) ≡ false
order_passes s Bsq h = refl
order_passes s (Bi depth) h = le-ltb s.bands depth h.1

image_chosen : (p : Params) → IsLawful p → SpellsPart image (image_part_of p) (image_bits p)
unfolding image
image_chosen p h =
    let i : ImagePart = image_part_of p in
    record {
      numbers = image_numbers i;
      held = image_held p h;
      passed = reserved_zero 57 2 then_fine refuse_fine _ _ (ne_eqb p.kind.bits 1 (λ e. omega (arith, e, h.kind)))
          then_fine refuse_fine _ _ (order_passes p.shape p.order h.order) then_fine reserved_zero 80 2 then_fine reserved_zero 86 10;
      contents = rw (flag_back p.kind.signed, order_back p.order, flag_back i.block) refl;
      text = refl;
    }

-- ---- the predictor part

exponent_back : (v : ℤ) → IsExponent v → exponent_of (exponent_code v) ≡ v
exponent_back (pos n) h = omega (arith, ints)
exponent_back (negsuc n) h = omega (arith, ints, h.0)

exponent_codes : (v w : ℤ) → IsExponent v → IsExponent w → v ≤ℤ w → exponent_code v ≤ exponent_code w
exponent_codes (pos m) (pos n) a b h = omega (arith, ints, h)
exponent_codes (pos m) (negsuc n) a b h = absurd (omega (arith, ints, h))
exponent_codes (negsuc m) (pos n) a b h = omega arith
exponent_codes (negsuc m) (negsuc n) a b h = omega (arith, ints, h, a.0, b.0)

mode_passes : (b : Bool) (columns : ℕ) → (b ≡ false → 2 ≤ columns) → (eqb (flag b) 0 && eqb columns 1) ≡ false
mode_passes b columns h = not_under (eqb (flag b) 0) (eqb columns 1) (λ e. let more = h (flag_none b e) in ne_eqb columns 1 (λ one. omega (arith, more, one)))

start_passes : (p : Params) (s : WeightStart) (a b c d f g h j k l m : ℕ) → IsWeightStart p s
    → start_tests (a ∷ b ∷ c ∷ d ∷ f ∷ g ∷ h ∷ p.omega ∷ j ∷ k ∷ l ∷ m ∷ flag (is_custom s) ∷ flag (is_custom s) ∷ resolution_of s ∷ []) ≡ fine
start_passes p Usual a b c d f g h j k l m w = refuse_fine _ _ (le-ltb (p.omega + 3) 0 (omega arith))
start_passes p (Table q values) a b c d f g h j k l m w =
    refl then_fine refl then_fine refl then_fine refuse_fine _ _ (le-ltb q 3 w.0.0) then_fine refuse_fine _ _ (le-ltb (p.omega + 3) q w.0.1)

predictor_chosen : (p : Params) → IsLawful p → SpellsPart (predictor (image_part_of p)) (predictor_part_of p) (predictor_bits p)
unfolding predictor
predictor_chosen p h =
    let d : PredictorPart = predictor_part_of p in
    record {
      numbers = predictor_numbers d;
      held = predictor_held p h;
      passed = reserved_zero 96 2 then_fine refuse_fine _ _ (mode_passes p.reduced p.shape.columns h.mode) then_fine reserved_zero 103 1
          then_fine refuse_fine _ _ (mode_passes p.column p.shape.columns h.sums) then_fine reserved_zero 105 1
          then_fine refuse_fine _ _ (le-ltb p.register 32 h.register.0) then_fine refuse_fine _ _ (le-ltb p.register (p.kind.bits + p.omega + 2) h.wide)
          then_fine refuse_fine _ _ (le-ltb 11 p.interval_log h.interval.1)
          then_fine refuse_fine _ _ (le-ltb (exponent_code p.vmax) (exponent_code p.vmin) (exponent_codes p.vmin p.vmax h.vmin h.vmax h.exponents))
          then_fine reserved_zero 128 1 then_fine start_passes p p.start 0 p.previous (flag p.reduced) 0 (flag p.column) 0 p.register p.interval_log
          (exponent_code p.vmin) (exponent_code p.vmax) 0 h.start;
      contents = rw (flag_back p.reduced, flag_back p.column, exponent_back p.vmin h.vmin, exponent_back p.vmax h.vmax, flag_back d.custom) refl;
      text = refl;
    }

-- ---- the coder part

size_back : (size : ℕ) → IsBlockSize size → 8 * 2 ^ size_code size ≡ size
size_back size (inl e) = rw e refl
size_back size (inr (inl e)) = rw e refl
size_back size (inr (inr (inl e))) = rw e refl
size_back size (inr (inr (inr e))) = rw e refl

coder_by_chosen : (at : ℕ) (p : Params) (i : ImagePart) (c : Coder) → i.kind ≡ p.kind → IsCoder p c
    → AreValues (coder_fields (coder_part_of c)) (coder_numbers (coder_part_of c))
    → SpellsPart (coder_by (is_block c) at i) (coder_part_of c) (spelled (coder_fields (coder_part_of c)) (coder_numbers (coder_part_of c)))
coder_by_chosen at p i (Sample umax gamma_star gamma_zero (Constant k)) e h held = record {
  numbers = umax ∷ gamma_star ∷ gamma_zero ∷ k ∷ 0 ∷ [];
  held = held;
  passed = refuse_fine _ _ (le-ltb umax 8 h.0.0) then_fine refuse_fine _ _ (le-ltb 9 gamma_star h.1.1)
      then_fine refuse_fine _ _ (le-ltb gamma_star (gamma_zero + 1) h.3) then_fine refuse_fine _ _ (le-ltb (i.kind.bits - 2) k (rw e h.4)) then_fine refl;
  contents = refl;
  text = refl;
}
coder_by_chosen at p i (Sample umax gamma_star gamma_zero (Each values)) e h held = record {
  numbers = umax ∷ gamma_star ∷ gamma_zero ∷ 15 ∷ 1 ∷ [];
  held = held;
  passed = refuse_fine _ _ (le-ltb umax 8 h.0.0) then_fine refuse_fine _ _ (le-ltb 9 gamma_star h.1.1)
      then_fine refuse_fine _ _ (le-ltb gamma_star (gamma_zero + 1) h.3) then_fine refl then_fine refl;
  contents = refl;
  text = refl;
}
coder_by_chosen at p i (Block size true reference) e h held = record {
  numbers = 0 ∷ size_code size ∷ 1 ∷ reference ∷ [];
  held = held;
  passed = reserved_zero at 1 then_fine refuse_fine _ _ (le-ltb 4 i.kind.bits (rw e (h.1 refl)));
  contents = rw (size_back size h.0) refl;
  text = refl;
}
coder_by_chosen at p i (Block size false reference) e h held = record {
  numbers = 0 ∷ size_code size ∷ 0 ∷ reference ∷ [];
  held = held;
  passed = reserved_zero at 1 then_fine refl;
  contents = rw (size_back size h.0) refl;
  text = refl;
}

coder_chosen : (at : ℕ) (p : Params) → IsLawful p → SpellsPart (coder at (image_part_of p)) (coder_part_of p.coder) (coder_bits p)
unfolding coder
coder_chosen at p h = coder_by_chosen at p (image_part_of p) p.coder refl h.coder (coder_held p h)

-- ---- the weight table

-- the weights that a start tells
weights_of : WeightStart → List ℤ
weights_of Usual = []
weights_of (Table q values) = values

weights_chosen : (p : Params) (s : WeightStart) → IsWeightStart p s
    → SpellsPart (weights_by (is_custom s) (weight_count p.previous p.reduced p.shape.bands) (resolution_of s)) (weights_of s) (weight_bits s)
unfolding weights_of spelled
weights_chosen p Usual h = record { numbers = []; held = tt; passed = refl; contents = refl; text = refl }
weights_chosen p (Table q values) h =
    subst (λ (n : ℕ). SpellsPart (weights_by true n q) values (spelled (table_fields (length values) q) (map (signed_code q) values ++ 0 ∷ []))) h.1 spelt
  where
    codes : List ℕ
    codes = map (signed_code q) values

    many : length (map (signed_code q) values) ≡ length values
    many = length-map values (signed_code q)

    small : AllByRecursion (λ v. v < 2 ^ q) (map (signed_code q) values)
    small = codes_small q values (omega (arith, h.0.0)) h.2

    spelt : SpellsPart (weights_by true (length values) q) values (spelled (table_fields (length values) q) (map (signed_code q) values ++ 0 ∷ []))
    spelt = record {
      numbers = map (signed_code q) values ++ 0 ∷ [];
      held = subst (λ (n : ℕ). AreValues (table_fields n q) (map (signed_code q) values ++ 0 ∷ [])) many (table_held q (map (signed_code q) values) small);
      passed = (let fill : get_or (map (signed_code q) values ++ 0 ∷ []) (length values) 0 ≡ 0 = rw (← many) (table_fill (map (signed_code q) values)) in
          rw fill (reserved_zero _ _));
      contents = (let front : take (length values) (map (signed_code q) values ++ 0 ∷ []) ≡ map (signed_code q) values =
          rw (← many) (table_front (map (signed_code q) values)) in rw front (codes_back q values (omega (arith, h.0.0)) h.2));
      text = refl;
    }

-- ---- the accumulator table

-- the constants that a start tells
each_of : CountStart → List ℕ
each_of (Constant k) = []
each_of (Each values) = values

entries_of : Coder → List ℕ
entries_of (Sample umax gamma_star gamma_zero start) = each_of start
entries_of (Block size restricted reference) = []

entries_small : (most limit : ℕ) (vs : List ℕ) → most < limit → AllByRecursion (λ v. v ≤ most) vs → AllByRecursion (λ v. v < limit) vs
entries_small most limit [] lt h = tt
entries_small most limit (v ∷ vs) lt h = (omega (arith, h.0), entries_small most limit vs lt h.1)

each_chosen : (at : ℕ) (p : Params) (i : ImagePart) (s : CountStart) → i.kind ≡ p.kind → i.shape ≡ p.shape → p.kind.bits ≤ 16 → IsCountStart p s
    → SpellsPart (constants_by (is_each s) at i) (each_of s) (each_bits s)
unfolding each_of spelled
each_chosen at p i (Constant k) e f deep h = record { numbers = []; held = tt; passed = refl; contents = refl; text = refl }
each_chosen at p i (Each values) e f deep h =
    let bands : length values ≡ i.shape.bands = h.0 ∙ ap (λ (s : Sizes). s.bands) (sym f) in
    let most : AllByRecursion (λ v. v ≤ i.kind.bits - 2) values = rw e h.1 in
    let front : take i.shape.bands (values ++ 0 ∷ []) ≡ values = rw (← bands) (table_front values) in
    let fill : get_or (values ++ 0 ∷ []) i.shape.bands 0 ≡ 0 = rw (← bands) (table_fill values) in
    let small : AllByRecursion (λ v. v < 2 ^ 4) values = entries_small (p.kind.bits - 2) (2 ^ 4) values (omega (arith, deep)) h.1 in
    record {
      numbers = values ++ 0 ∷ [];
      held = subst (λ (n : ℕ). AreValues (table_fields n 4) (values ++ 0 ∷ [])) bands (table_held 4 values small);
      passed = rw (front, fill) (refuse_fine _ _ (above_none (i.kind.bits - 2) values most) then_fine reserved_zero _ _);
      contents = front;
      text = ap (λ (n : ℕ). spelled (table_fields n 4) (values ++ 0 ∷ [])) bands;
    }

constants_chosen : (at : ℕ) (p : Params) (i : ImagePart) (c : Coder) → i.kind ≡ p.kind → i.shape ≡ p.shape → p.kind.bits ≤ 16 → IsCoder p c
    → SpellsPart (constants at i (coder_part_of c)) (entries_of c) (constant_bits c)
unfolding constants entries_of spelled
constants_chosen at p i (Sample umax gamma_star gamma_zero start) e f deep h = each_chosen at p i start e f deep h.4
constants_chosen at p i (Block size restricted reference) e f deep h = record { numbers = []; held = tt; passed = refl; contents = refl; text = refl }

-- ---- the header

start_back : (s : WeightStart) → start_by (is_custom s) (resolution_of s) (weights_of s) ≡ s
unfolding weights_of
start_back Usual = refl
start_back (Table q values) = refl

coder_back : (c : Coder) → coder_by_part (coder_part_of c) (entries_of c) ≡ c
unfolding entries_of each_of
coder_back (Sample umax gamma_star gamma_zero (Constant k)) = refl
coder_back (Sample umax gamma_star gamma_zero (Each values)) = refl
coder_back (Block size restricted reference) = refl

-- the contents of the parts of a header
all_contents : Params → HeaderContents
all_contents p = ((((image_part_of p, predictor_part_of p), weights_of p.start), coder_part_of p.coder), entries_of p.coder)

params_back : (p : Params) → params_of (all_contents p) ≡ p
unfolding all_contents
params_back p = rw (start_back p.start, coder_back p.coder) refl

parts_chosen : (p : Params) → IsLawful p
    → SpellsParts (all_contents p) (image_bits p ++ predictor_bits p ++ weight_bits p.start ++ coder_bits p ++ constant_bits p.coder)
unfolding all_contents weights
parts_chosen p h =
    let i : ImagePart = image_part_of p in
    let d : PredictorPart = predictor_part_of p in
    record {
      front = image_bits p ++ predictor_bits p ++ weight_bits p.start ++ coder_bits p;
      back = constant_bits p.coder;
      first = record {
        front = image_bits p ++ predictor_bits p ++ weight_bits p.start;
        back = coder_bits p;
        first = record {
          front = image_bits p ++ predictor_bits p;
          back = weight_bits p.start;
          first = record { front = image_bits p; back = predictor_bits p; first = image_chosen p h; second = predictor_chosen p h; text = refl };
          second = weights_chosen p p.start h.start;
          text = refl;
        };
        second = coder_chosen (coder_start i d) p h;
        text = refl;
      };
      second = constants_chosen (coder_start i d + 16) p i p.coder refl refl h.kind.1 h.coder;
      text = refl;
    }

pub chosen_is_spelt : (p : Params) → IsLawful p → SpellsHeader p (header_of p)
unfolding header_of
chosen_is_spelt p h = record { from = all_contents p; same = params_back p; spells = parts_chosen p h }
