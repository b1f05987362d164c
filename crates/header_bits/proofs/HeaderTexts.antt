-- The length of a header, and what it is written from.
use Rattle.std.proofs.Common.{◌≡◌, ℕ, ◌+◌, ◌-◌, ◌*◌, ◌/◌, ◌%◌, ◌≤◌, ◌||◌, Bool, true, false, List, [], ◌∷◌, ◌++◌, length, map, take, drop, Ok, ℤ, refl, sym, ap}
use Rattle.std.proofs.Common.{subst, ◌∙◌, append_assoc, length-append, arith}
use Rattle.std.proofs.lemmas.List.{take_at, drop_at, length-map}
use Rattle.header_bits.specs.declared.params.Params.{Params}
use Rattle.header_bits.specs.declared.params.WeightStart.TheVariants.{Table}
use Rattle.header_bits.specs.declared.params.Coder.TheVariants.{Sample}
use Rattle.header_bits.specs.declared.params.CountStart.TheVariants.{Each}
use Rattle.header_bits.specs.declared.image_part.ImagePart.{ImagePart}
use Rattle.header_bits.specs.declared.predictor_part.PredictorPart.{PredictorPart}
use Rattle.header_bits.specs.declared.coder_part.CoderPart.{CoderPart}
use Rattle.header_bits.specs.declared.coder_part.CoderPart.TheVariants as parts
use Rattle.header_bits.specs.Bits.{bits_of}
use Rattle.header_bits.specs.Layout.{total, spelled}
use Rattle.header_bits.specs.Parts.{Part, part_at, SpellsPart}
use Rattle.header_bits.specs.ImagePart.{image, image_fields, image_numbers}
use Rattle.header_bits.specs.PredictorPart.{predictor, predictor_fields, predictor_numbers}
use Rattle.header_bits.specs.CoderPart.{coder_fields, coder_numbers, coder}
use Rattle.header_bits.specs.TableParts.{fill_of, table_fields, numbers_text, signed_code, weight_count, weights, weights_by, constants, constants_by}
use Rattle.header_bits.specs.TableParts.{has_constants}
use Rattle.header_bits.specs.Header.{image_part_of, predictor_part_of, coder_part_of, coder_start, header_contents, AreThere, params_of, start_by}
use Rattle.header_bits.specs.Header.{coder_by_part, is_custom, has_each, has_table, weight_bits, constant_bits, header_of, header_at, SpellsHeader}
use Rattle.header_bits.specs.Lawful.{IsLawful}
use Rattle.header_bits.proofs.Numbers.{length-bits_of}
use Rattle.header_bits.proofs.Slots.{length-spelled}
use Rattle.header_bits.proofs.PartReading.{image_size, predictor_size, coder_size}
use Rattle.header_bits.proofs.Held.{image_held, predictor_held, coder_held, image_total, predictor_total, coder_total, image_bits, predictor_bits, coder_bits}
use Rattle.header_bits.proofs.TableNumbers.{total_table, spelled_table, length-numbers_text}
use Rattle.header_bits.proofs.SpeltLawful.{spelt_is_lawful}
use Rattle.header_bits.proofs.TablePassing.{weights_total, constants_total}
use Rattle.header_bits.proofs.Headers.{header_exact, part_leaves}

-- ---- the tables

pub weights_text : (q : ℕ) (values : List ℤ)
    → weight_bits (Table q values) ≡ numbers_text q (map (signed_code q) values) ++ bits_of (fill_of (length values * q)) 0
weights_text q values =
    subst (λ (n : ℕ). spelled (table_fields n q) (map (signed_code q) values ++ 0 ∷ [])
    ≡ numbers_text q (map (signed_code q) values) ++ bits_of (fill_of (n * q)) 0) (length-map values (signed_code q))
    (spelled_table q (fill_of (length (map (signed_code q) values) * q)) (map (signed_code q) values))

pub constants_text : (umax gamma_star gamma_zero : ℕ) (values : List ℕ)
    → constant_bits (Sample umax gamma_star gamma_zero (Each values)) ≡ numbers_text 4 values ++ bits_of (fill_of (length values * 4)) 0
constants_text umax gamma_star gamma_zero values = spelled_table 4 (fill_of (length values * 4)) values

pub weights_length : (q : ℕ) (values : List ℤ) → length (weight_bits (Table q values)) ≡ total (table_fields (length values) q)
weights_length q values =
    ap length (weights_text q values) ∙ length-append (numbers_text q (map (signed_code q) values)) (bits_of (fill_of (length values * q)) 0)
    ∙ omega (
      arith,
      total_table (length values) q,
      length-numbers_text q (map (signed_code q) values),
      ap (λ n. n * q) (length-map values (signed_code q)),
      length-bits_of (fill_of (length values * q)) 0,
    )

pub constants_length : (umax gamma_star gamma_zero : ℕ) (values : List ℕ)
    → length (constant_bits (Sample umax gamma_star gamma_zero (Each values))) ≡ total (table_fields (length values) 4)
constants_length umax gamma_star gamma_zero values =
    ap length (constants_text umax gamma_star gamma_zero values) ∙ length-append (numbers_text 4 values) (bits_of (fill_of (length values * 4)) 0)
    ∙ omega (arith, total_table (length values) 4, length-numbers_text 4 values, length-bits_of (fill_of (length values * 4)) 0)

-- ---- what is written

later : (old a b one two : List Bool) → one ≡ old ++ a → two ≡ one ++ b → two ≡ old ++ (a ++ b)
later old a b one two first second = second ∙ ap (λ (x : List Bool). x ++ b) first ∙ append_assoc old a b

pub header_written : (p : Params) (old one two three four new : List Bool) → one ≡ old ++ image_bits p → two ≡ one ++ predictor_bits p
    → three ≡ two ++ weight_bits p.start → four ≡ three ++ coder_bits p → new ≡ four ++ constant_bits p.coder → new ≡ old ++ header_of p
unfolding header_of
header_written p old one two three four new a b c d e =
    later old _ (constant_bits p.coder) four new
    (later old _ (coder_bits p) three four (later old _ (weight_bits p.start) two three (later old _ (predictor_bits p) one two a b) c) d) e

pub header_length : (p : Params) → IsLawful p → length (header_of p) ≡ 152 + length (weight_bits p.start) + length (constant_bits p.coder)
unfolding header_of
header_length p h =
    let front : List Bool = image_bits p ++ predictor_bits p in
    length-append (image_bits p ++ predictor_bits p ++ weight_bits p.start ++ coder_bits p) (constant_bits p.coder)
    ∙ omega (
      arith,
      length-append (image_bits p ++ predictor_bits p ++ weight_bits p.start) (coder_bits p),
      length-append (image_bits p ++ predictor_bits p) (weight_bits p.start),
      length-append (image_bits p) (predictor_bits p),
      length-spelled image_fields (image_numbers (image_part_of p)) (image_held p h),
      length-spelled predictor_fields (predictor_numbers (predictor_part_of p)) (predictor_held p h),
      length-spelled (coder_fields (coder_part_of p.coder)) (coder_numbers (coder_part_of p.coder)) (coder_held p h),
      image_total,
      predictor_total,
      coder_total (coder_part_of p.coder),
    )

-- ---- what is spelt is whole bytes

whole_table : (count bits : ℕ) → total (table_fields count bits) % 8 ≡ 0
whole_table count bits = ap (λ n. n % 8) (total_table count bits) ∙ whole (count * bits)
  where
    whole : (n : ℕ) → (n + (8 - n % 8) % 8) % 8 ≡ 0
    whole n = omega arith

weights_whole : (i : ImagePart) (p : PredictorPart) → total (weights i p).fields % 8 ≡ 0
unfolding weights total
weights_whole i p = by_flag p.custom
  where
    by_flag : (b : Bool) → total (weights_by b (weight_count p.previous p.reduced i.shape.bands) p.resolution).fields % 8 ≡ 0
    by_flag true = whole_table (weight_count p.previous p.reduced i.shape.bands) p.resolution
    by_flag false = refl

constants_whole : (at : ℕ) (i : ImagePart) (c : CoderPart) → total (constants at i c).fields % 8 ≡ 0
unfolding constants total
constants_whole at i c = by_flag (has_constants c)
  where
    by_flag : (b : Bool) → total (constants_by b at i).fields % 8 ≡ 0
    by_flag true = whole_table i.shape.bands 4
    by_flag false = refl

part_length : {X : Type 0} (part : Part X) (x : X) (bits : List Bool) → SpellsPart part x bits → length bits ≡ total part.fields
part_length part x bits s = ap length s.text ∙ length-spelled part.fields s.numbers s.held

pub spelt_whole : (p : Params) (h : List Bool) → SpellsHeader p h → length h % 8 ≡ 0
spelt_whole p h s =
    let five = s.spells in
    let four = five.first in
    let three = four.first in
    let two = three.first in
    let i : ImagePart = s.from.0.0.0.0 in
    let d : PredictorPart = s.from.0.0.0.1 in
    let a = ap length five.text ∙ length-append five.front five.back in
    let b = ap length four.text ∙ length-append four.front four.back in
    let c = ap length three.text ∙ length-append three.front three.back in
    let e = ap length two.text ∙ length-append two.front two.back in
    let one = part_length image i two.front two.first ∙ image_size in
    let second = part_length (predictor i) d two.back two.second ∙ predictor_size i in
    let third = part_length (weights i d) s.from.0.0.1 three.back three.second in
    let fourth = part_length (coder (coder_start i d) i) s.from.0.1 four.back four.second ∙ coder_size (coder_start i d) i in
    let fifth = part_length (constants (coder_start i d + 16) i s.from.0.1) s.from.1 five.back five.second in
    omega (arith, a, b, c, e, one, second, third, fourth, fifth, weights_whole i d, constants_whole (coder_start i d + 16) i s.from.0.1)

-- ---- where a header was read

-- the tables that passed are there
pub are_there : (position : ℕ) (i : ImagePart) (p : PredictorPart) (c : CoderPart) (two three four five : List Bool) (ws : List ℤ) (ks : List ℕ)
    → (p.previous ≤ 15) × (p.resolution ≤ 22) × (p.custom ≡ true → 1 ≤ p.resolution)
    → part_at (weights i p) two ≡ Ok (ws, three) → part_at (constants (position + 16) i c) four ≡ Ok (ks, five) → AreThere i p two c four
are_there position i p c two three four five ws ks facts passed ended =
    let a = part_leaves (weights i p) ws two three passed in
    let b = part_leaves (constants (position + 16) i c) ks four five ended in
    record {
      previous = facts.0;
      most = facts.1;
      least = facts.2;
      weights = λ there. omega (arith, a.1, weights_total i p there, total_table (weight_count p.previous p.reduced i.shape.bands) p.resolution);
      constants = λ there. omega (arith, b.1, constants_total (position + 16) i c there, total_table i.shape.bands 4);
    }

-- a table that was announced is among the parameters
pub table_kept : (i : ImagePart) (p : PredictorPart) (at_weights : List Bool) (c : CoderPart) (at_constants : List Bool)
    → has_table (params_of (header_contents i p at_weights c at_constants)) ≡ (p.custom || has_constants c)
table_kept i p at_weights c at_constants = rw (custom p.custom p.resolution _, each c _) refl
  where
    custom : (b : Bool) (q : ℕ) (values : List ℤ) → is_custom (start_by b q values) ≡ b
    custom true q values = refl
    custom false q values = refl

    each : (c : CoderPart) (values : List ℕ) → has_each (coder_by_part c values) ≡ has_constants c
    each (parts.Sample umax gamma_star gamma_zero constant true) values = refl
    each (parts.Sample umax gamma_star gamma_zero constant false) values = refl
    each (parts.Block size restricted reference) values = refl

-- what is left is no more than there was
pub left_within : (p : Params) (bits left : List Bool) → header_at bits ≡ Ok (p, left) → length left ≤ length bits
left_within p bits left e = let found = header_exact.found p bits left e in omega (arith, ap length found.2, length-append found.0 left)

-- it is what comes after as many bits as were read
pub left_after : (p : Params) (bits left : List Bool) (n : ℕ) → header_at bits ≡ Ok (p, left) → n ≡ length bits - length left
    → header_at bits ≡ Ok (p, drop n bits)
left_after p bits left n e size =
    let found = header_exact.found p bits left e in
    let at : length found.0 ≡ n = omega (arith, ap length found.2, length-append found.0 left, size) in
    subst (λ (x : List Bool). header_at bits ≡ Ok (p, x)) (sym (ap (drop n) found.2 ∙ drop_at found.0 left n at)) e

-- the parameters are lawful
pub read_lawful : (p : Params) (bits left : List Bool) → header_at bits ≡ Ok (p, left) → IsLawful p
read_lawful p bits left e = let found = header_exact.found p bits left e in spelt_is_lawful p found.0 found.1

-- a header of so many bytes stands at the front
pub record Stands (p : Params) (bits : List Bool) (bytes : ℕ) : Type 0 where
  pub within : 8 * bytes ≤ length bits
  pub reads : header_at bits ≡ Ok (p, drop (8 * bytes) bits)
  pub spelt : SpellsHeader p (take (8 * bytes) bits)

pub header_stands : (p : Params) (bits left : List Bool) (all bytes : ℕ) → header_at bits ≡ Ok (p, left) → length bits ≡ 8 * all → bytes ≡ all - length left / 8
    → Stands p bits bytes
header_stands p bits left all bytes e size n =
    let found = header_exact.found p bits left e in
    let whole = spelt_whole p found.0 found.1 in
    let long : length bits ≡ length found.0 + length left = ap length found.2 ∙ length-append found.0 left in
    let at : length found.0 ≡ 8 * bytes = omega (arith, whole, long, size, n) in
    let front : found.0 ≡ take (8 * bytes) bits = sym (ap (take (8 * bytes)) found.2 ∙ take_at found.0 left (8 * bytes) at) in
    record {
      within = omega (arith, long, at);
      reads = left_after p bits left (8 * bytes) e (omega (arith, at, long));
      spelt = subst (λ (h : List Bool). SpellsHeader p h) front found.1;
    }
