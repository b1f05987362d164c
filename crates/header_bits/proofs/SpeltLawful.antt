-- What a header spells is lawful.
use Rattle.std.proofs.Common.{◌≡◌, inl, inr, ℕ, zero, suc, ◌+◌, ◌-◌, ◌*◌, ◌^◌, ◌<◌, ◌≤◌, ◌≤ℤ◌, Bool, true, false, cond, not, ◌&&◌, ltb, eqb, List, [], ◌∷◌}
use Rattle.std.proofs.Common.{length, take, get_or, ℤ, pos, Ok, refl, subst, ◌∙◌, arith, lit<}
use Rattle.std.specs.List.{AllByRecursion}
use Rattle.std.proofs.lemmas.Int.{ints}
use Rattle.std.proofs.lemmas.List.{length-map}
use Rattle.std.proofs.lemmas.Bool.{ltb-false, eqb-false, eq-eqb}
use Rattle.cube_core.specs.declared.fault.Field.TheVariants as field
use Rattle.cube_core.specs.declared.fault.Rule.TheVariants as rule
use Rattle.cube_core.specs.declared.fault.Fault.TheVariants.{FieldRange, Disagree, TableElsewhere}
use Rattle.cube_core.specs.declared.order.Order.TheVariants.{Bsq, Bi}
use Rattle.cube_core.specs.Steps.{refuse_if}
use Rattle.cube_core.specs.Shape.{Sizes, AreSizes, InRange}
use Rattle.cube_core.specs.Kind.{IsKind}
use Rattle.cube_core.specs.Order.{IsOrder}
use Rattle.header_bits.specs.declared.layout.Slot.{Slot}
use Rattle.header_bits.specs.declared.layout.Slot.TheVariants.{Reserved}
use Rattle.header_bits.specs.declared.params.Params.{Params}
use Rattle.header_bits.specs.declared.image_part.ImagePart.{ImagePart}
use Rattle.header_bits.specs.declared.predictor_part.PredictorPart.{PredictorPart}
use Rattle.header_bits.specs.declared.coder_part.CoderPart.{CoderPart}
use Rattle.header_bits.specs.declared.coder_part.CoderPart.TheVariants.{Sample, Block}
use Rattle.header_bits.specs.Layout.{IsValue, AreValues}
use Rattle.header_bits.specs.Parts.{fine, reserved_test, part_at, SpellsPart}
use Rattle.header_bits.specs.ImagePart.{image, image_fields, image_tests, image_contents}
use Rattle.header_bits.specs.PredictorPart.{predictor, predictor_fields, predictor_tests, start_tests, predictor_contents, exponent_of}
use Rattle.header_bits.specs.CoderPart.{coder_by, coder, sample_fields, sample_tests, sample_contents, block_fields, block_tests, block_contents}
use Rattle.header_bits.specs.TableParts.{weight_count, weights, weights_by, constants, constants_by, has_constants, signed_of, some_above}
use Rattle.header_bits.specs.Header.{SpellsHeader, params_of, start_by, count_by, coder_by_part}
use Rattle.header_bits.specs.Lawful.{IsLawful, IsExponent, IsSigned, IsBlockSize, IsWeightStart, IsCountStart, IsCoder}
use Rattle.header_bits.proofs.Exact.{part_exact}
use Rattle.header_bits.proofs.Lawfulness.{none_above}
use Rattle.header_bits.proofs.TableTexts.{table_count, table_small, all_signed}
use Rattle.header_bits.proofs.Tests.{then_ok, refuse_ok, under}

-- each number is one that its slot holds
pub held_at : (ss : List Slot) (vs : List ℕ) (i : ℕ) → AreValues ss vs → i < length ss → IsValue (get_or ss i (Reserved 0)) (get_or vs i 0)
held_at [] vs i h lt = absurd (omega arith)
held_at (s ∷ ss) [] i h lt = elim h [ ]
held_at (s ∷ ss) (v ∷ vs) zero h lt = h.0
held_at (s ∷ ss) (v ∷ vs) (suc i) h lt = held_at ss vs i h.1 (omega arith)

-- ---- the image part

pub record IsImage (i : ImagePart) : Type 0 where
  user : i.user ≤ 255
  pub sizes : AreSizes i.shape
  pub kind : IsKind i.kind
  order : IsOrder i.shape i.order
  word : InRange 1 8 i.word

order_is_lawful : (b : Bool) (s : Sizes) (depth : ℕ) → 1 ≤ depth → (b && ltb s.bands depth) ≡ false → IsOrder s (cond b (Bi depth) Bsq)
order_is_lawful true s depth le e = (le, ltb-false s.bands depth e)
order_is_lawful false s depth le e = tt

pub image_is_lawful : (v : List ℕ) → AreValues image_fields v → image_tests v ≡ fine → IsImage (image_contents v)
image_is_lawful v h e =
    let a = then_ok (reserved_test 57 2 (get_or v 5 0)) _ e in
    let b = then_ok (refuse_if (eqb (get_or v 6 0) 1) (FieldRange field.DynamicRange (pos 1))) _ a.1 in
    let c = then_ok (refuse_if (eqb (get_or v 7 0) 0 && ltb (get_or v 3 0) (get_or v 8 0)) (Disagree rule.DepthOverBands)) _ b.1 in
    let some : get_or v 6 0 ≡ 1 → ⊥ = eqb-false (get_or v 6 0) 1 (refuse_ok _ _ b.0) in
    let user : get_or v 0 0 < 256 = (held_at image_fields v 0 h (lit< tt)).1 in
    let bits : InRange 1 16 (get_or v 6 0) = held_at image_fields v 6 h (lit< tt) in
    record {
      user = omega (arith, user);
      sizes =
          record { columns = held_at image_fields v 1 h (lit< tt); rows = held_at image_fields v 2 h (lit< tt); bands = held_at image_fields v 3 h (lit< tt) };
      kind = (omega (arith, some, bits), bits.1);
      order = order_is_lawful (eqb (get_or v 7 0) 0) (image_contents v).shape (get_or v 8 0) (held_at image_fields v 8 h (lit< tt)).0 (refuse_ok _ _ c.0);
      word = held_at image_fields v 10 h (lit< tt);
    }

image_spelt : (i : ImagePart) (bits : List Bool) → SpellsPart image i bits → IsImage i
unfolding image
image_spelt i bits s = subst (λ (x : ImagePart). IsImage x) s.contents (image_is_lawful s.numbers s.held s.passed)

-- ---- the predictor part

record IsPredictorPart (i : ImagePart) (p : PredictorPart) : Type 0 where
  previous : p.previous ≤ 15
  mode : p.reduced ≡ false → 2 ≤ i.shape.columns
  sums : p.column ≡ false → 2 ≤ i.shape.columns
  register : InRange 32 64 p.register
  omega : InRange 4 19 p.omega
  wide : i.kind.bits + p.omega + 2 ≤ p.register
  interval : InRange 4 11 p.interval_log
  vmin : IsExponent p.vmin
  vmax : IsExponent p.vmax
  exponents : p.vmin ≤ℤ p.vmax
  start : p.custom ≡ true → InRange 3 (p.omega + 3) p.resolution
  few : p.resolution ≤ p.omega + 3

flag_is_lawful : (n columns : ℕ) → n < 2 → 1 ≤ columns → (eqb n 0 && eqb columns 1) ≡ false → eqb n 1 ≡ false → 2 ≤ columns
flag_is_lawful n columns small some e other =
    let none : n ≡ 0 = zero_flag n small (eqb-false n 1 other) in
    let more : columns ≡ 1 → ⊥ = eqb-false columns 1 (under (eqb n 0) (eqb columns 1) e (eq-eqb n 0 none)) in
    omega (arith, some, more)
  where
    zero_flag : (n : ℕ) → n < 2 → (n ≡ 1 → ⊥) → n ≡ 0
    zero_flag n lt ne = omega (arith, ne)

exponent_is_lawful : (n : ℕ) → n < 16 → IsExponent (exponent_of n)
exponent_is_lawful n lt = (omega (arith, ints), omega (arith, ints))

exponents_in_order : (m n : ℕ) → m ≤ n → exponent_of m ≤ℤ exponent_of n
exponents_in_order m n le = omega (arith, ints)

predictor_is_lawful : (i : ImagePart) (v : List ℕ) → 1 ≤ i.shape.columns → AreValues predictor_fields v → predictor_tests i v ≡ fine
    → IsPredictorPart i (predictor_contents v)
predictor_is_lawful i v some h e =
    let a = then_ok (reserved_test 96 2 (get_or v 0 0)) _ e in
    let b = then_ok (refuse_if (eqb (get_or v 2 0) 0 && eqb i.shape.columns 1) (Disagree rule.FullOneColumn)) _ a.1 in
    let c = then_ok (reserved_test 103 1 (get_or v 3 0)) _ b.1 in
    let d = then_ok (refuse_if (eqb (get_or v 4 0) 0 && eqb i.shape.columns 1) (Disagree rule.NeighbourOneColumn)) _ c.1 in
    let f = then_ok (reserved_test 105 1 (get_or v 5 0)) _ d.1 in
    let g = then_ok (refuse_if (ltb (get_or v 6 0) 32) (FieldRange field.Register (pos (get_or v 6 0)))) _ f.1 in
    let j = then_ok (refuse_if (ltb (get_or v 6 0) (i.kind.bits + get_or v 7 0 + 2)) (Disagree rule.RegisterTooSmall)) _ g.1 in
    let k = then_ok (refuse_if (ltb 11 (get_or v 8 0)) (FieldRange field.Interval (pos (get_or v 8 0)))) _ j.1 in
    let l = then_ok (refuse_if (ltb (get_or v 10 0) (get_or v 9 0)) (Disagree rule.ExponentOrder)) _ k.1 in
    let m = then_ok (reserved_test 128 1 (get_or v 11 0)) (start_tests v) l.1 in
    let o = then_ok (refuse_if (not (eqb (get_or v 12 0) 1) && eqb (get_or v 13 0) 1) (Disagree rule.DefaultWithTable)) _ m.1 in
    let q = then_ok (refuse_if (eqb (get_or v 12 0) 1 && not (eqb (get_or v 13 0) 1)) TableElsewhere) _ o.1 in
    let r = then_ok (refuse_if (not (eqb (get_or v 12 0) 1) && ltb 0 (get_or v 14 0)) (Disagree rule.DefaultWithResolution)) _ q.1 in
    let s = then_ok (refuse_if (eqb (get_or v 12 0) 1 && ltb (get_or v 14 0) 3) (FieldRange field.Resolution (pos (get_or v 14 0))))
    (refuse_if (ltb (get_or v 7 0 + 3) (get_or v 14 0)) (Disagree rule.ResolutionOverOmega)) r.1 in
    let previous : get_or v 1 0 < 16 = (held_at predictor_fields v 1 h (lit< tt)).1 in
    let fraction : (4 ≤ get_or v 7 0) × (get_or v 7 0 < 20) = held_at predictor_fields v 7 h (lit< tt) in
    let interval : (4 ≤ get_or v 8 0) × (get_or v 8 0 < 20) = held_at predictor_fields v 8 h (lit< tt) in
    record {
      previous = omega (arith, previous);
      mode = flag_is_lawful (get_or v 2 0) i.shape.columns (held_at predictor_fields v 2 h (lit< tt)).1 some (refuse_ok _ _ b.0);
      sums = flag_is_lawful (get_or v 4 0) i.shape.columns (held_at predictor_fields v 4 h (lit< tt)).1 some (refuse_ok _ _ d.0);
      register = (ltb-false (get_or v 6 0) 32 (refuse_ok _ _ g.0), (held_at predictor_fields v 6 h (lit< tt)).1);
      omega = (fraction.0, omega (arith, fraction));
      wide = ltb-false (get_or v 6 0) (i.kind.bits + get_or v 7 0 + 2) (refuse_ok _ _ j.0);
      interval = (interval.0, ltb-false 11 (get_or v 8 0) (refuse_ok _ _ k.0));
      vmin = exponent_is_lawful (get_or v 9 0) (held_at predictor_fields v 9 h (lit< tt)).1;
      vmax = exponent_is_lawful (get_or v 10 0) (held_at predictor_fields v 10 h (lit< tt)).1;
      exponents = exponents_in_order (get_or v 9 0) (get_or v 10 0) (ltb-false (get_or v 10 0) (get_or v 9 0) (refuse_ok _ _ l.0));
      start = λ custom. (
        ltb-false (get_or v 14 0) 3 (under (eqb (get_or v 12 0) 1) (ltb (get_or v 14 0) 3) (refuse_ok _ _ s.0) custom),
        ltb-false (get_or v 7 0 + 3) (get_or v 14 0) (refuse_ok _ _ s.1),
      );
      few = ltb-false (get_or v 7 0 + 3) (get_or v 14 0) (refuse_ok _ _ s.1);
    }

predictor_spelt : (i : ImagePart) (p : PredictorPart) (bits : List Bool) → 1 ≤ i.shape.columns → SpellsPart (predictor i) p bits → IsPredictorPart i p
unfolding predictor
predictor_spelt i p bits some s = subst (λ (x : PredictorPart). IsPredictorPart i x) s.contents (predictor_is_lawful i s.numbers some s.held s.passed)

-- ---- the weight table

AreWeights : ImagePart → PredictorPart → List ℤ → Type 0
AreWeights i p ws = (length ws ≡ weight_count p.previous p.reduced i.shape.bands) × AllByRecursion (IsSigned p.resolution) ws

weights_spelt : (i : ImagePart) (p : PredictorPart) (ws : List ℤ) (bits : List Bool) → 1 ≤ p.resolution → SpellsPart (weights i p) ws bits → p.custom ≡ true
    → AreWeights i p ws
unfolding weights AreWeights
weights_spelt i p ws bits some s custom = by_flag p.custom custom s
  where
    count : ℕ
    count = weight_count p.previous p.reduced i.shape.bands

    by_flag : (b : Bool) → b ≡ true → SpellsPart (weights_by b (weight_count p.previous p.reduced i.shape.bands) p.resolution) ws bits
        → (length ws ≡ weight_count p.previous p.reduced i.shape.bands) × AllByRecursion (IsSigned p.resolution) ws
    by_flag true e t =
        let n : ℕ = weight_count p.previous p.reduced i.shape.bands in
        let many = length-map (take (weight_count p.previous p.reduced i.shape.bands) t.numbers) (signed_of p.resolution)
        ∙ table_count (weight_count p.previous p.reduced i.shape.bands) p.resolution t.numbers t.held in
        let range = all_signed p.resolution (take (weight_count p.previous p.reduced i.shape.bands) t.numbers) some
        (table_small (weight_count p.previous p.reduced i.shape.bands) p.resolution t.numbers t.held) in
        subst (λ (xs : List ℤ). (length xs ≡ weight_count p.previous p.reduced i.shape.bands) × AllByRecursion (IsSigned p.resolution) xs) t.contents
        (many, range)
    by_flag false e t = absurd (cc)

-- ---- the coder part

abbrev IsCoderPart : ImagePart → CoderPart → Type 0
IsCoderPart i (Sample umax gamma_star gamma_zero constant table) =
    InRange 8 32 umax × InRange 4 9 gamma_star × InRange 1 8 gamma_zero × (gamma_zero + 1 ≤ gamma_star) × (table ≡ false → constant ≤ i.kind.bits - 2)
IsCoderPart i (Block size restricted reference) = IsBlockSize size × (restricted ≡ true → i.kind.bits ≤ 4) × InRange 1 4096 reference

sample_is_lawful : (i : ImagePart) (v : List ℕ) → AreValues sample_fields v → sample_tests i v ≡ fine → IsCoderPart i (sample_contents v)
sample_is_lawful i v h e =
    let a = then_ok (refuse_if (ltb (get_or v 0 0) 8) (FieldRange field.Umax (pos (get_or v 0 0)))) _ e in
    let b = then_ok (refuse_if (ltb 9 (get_or v 1 0)) (FieldRange field.GammaStar (pos (get_or v 1 0)))) _ a.1 in
    let c = then_ok (refuse_if (ltb (get_or v 1 0) (get_or v 2 0 + 1)) (Disagree rule.CounterOrder)) _ b.1 in
    let f = then_ok (refuse_if (not (eqb (get_or v 4 0) 1) && ltb (i.kind.bits - 2) (get_or v 3 0)) (Disagree rule.StartConstant)) _ c.1 in (
      (ltb-false (get_or v 0 0) 8 (refuse_ok _ _ a.0), (held_at sample_fields v 0 h (lit< tt)).1),
      ((held_at sample_fields v 1 h (lit< tt)).0, ltb-false 9 (get_or v 1 0) (refuse_ok _ _ b.0)),
      held_at sample_fields v 2 h (lit< tt),
      ltb-false (get_or v 1 0) (get_or v 2 0 + 1) (refuse_ok _ _ c.0),
      (λ none. ltb-false (i.kind.bits - 2) (get_or v 3 0)
          (under (not (eqb (get_or v 4 0) 1)) (ltb (i.kind.bits - 2) (get_or v 3 0)) (refuse_ok _ _ f.0) (rw none refl))),
    )

size_is_lawful : (n : ℕ) → n < 4 → IsBlockSize (8 * 2 ^ n)
size_is_lawful zero lt = inl refl
size_is_lawful (suc zero) lt = inr (inl refl)
size_is_lawful (suc (suc zero)) lt = inr (inr (inl refl))
size_is_lawful (suc (suc (suc zero))) lt = inr (inr (inr refl))
size_is_lawful (suc (suc (suc (suc n)))) lt = absurd (omega arith)

block_is_lawful : (at : ℕ) (i : ImagePart) (v : List ℕ) → AreValues block_fields v → block_tests at i v ≡ fine → IsCoderPart i (block_contents v)
block_is_lawful at i v h e =
    let b = then_ok (reserved_test at 1 (get_or v 0 0)) (refuse_if (eqb (get_or v 2 0) 1 && ltb 4 i.kind.bits) (Disagree rule.RestrictedOverFour)) e in (
      size_is_lawful (get_or v 1 0) (held_at block_fields v 1 h (lit< tt)).1,
      (λ restricted. ltb-false 4 i.kind.bits (under (eqb (get_or v 2 0) 1) (ltb 4 i.kind.bits) (refuse_ok _ _ b.1) restricted)),
      held_at block_fields v 3 h (lit< tt),
    )

coder_by_spelt : (b : Bool) (at : ℕ) (i : ImagePart) (c : CoderPart) (bits : List Bool) → SpellsPart (coder_by b at i) c bits → IsCoderPart i c
coder_by_spelt true at i c bits s = subst (λ (x : CoderPart). IsCoderPart i x) s.contents (block_is_lawful at i s.numbers s.held s.passed)
coder_by_spelt false at i c bits s = subst (λ (x : CoderPart). IsCoderPart i x) s.contents (sample_is_lawful i s.numbers s.held s.passed)

coder_spelt : (at : ℕ) (i : ImagePart) (c : CoderPart) (bits : List Bool) → SpellsPart (coder at i) c bits → IsCoderPart i c
unfolding coder
coder_spelt at i c bits s = coder_by_spelt i.block at i c bits s

-- ---- the accumulator table

constants_spelt : (at : ℕ) (i : ImagePart) (c : CoderPart) (ks : List ℕ) (bits : List Bool) → SpellsPart (constants at i c) ks bits → has_constants c ≡ true
    → (length ks ≡ i.shape.bands) × AllByRecursion (λ v. v ≤ i.kind.bits - 2) ks
unfolding constants
constants_spelt at i c ks bits s table = by_flag (has_constants c) table s
  where
    by_flag : (b : Bool) → b ≡ true → SpellsPart (constants_by b at i) ks bits → (length ks ≡ i.shape.bands) × AllByRecursion (λ v. v ≤ i.kind.bits - 2) ks
    by_flag true e t =
        let small = then_ok (refuse_if (some_above (i.kind.bits - 2) (take i.shape.bands t.numbers)) (Disagree rule.AccumulatorEntry)) _ t.passed in
        subst (λ (xs : List ℕ). (length xs ≡ i.shape.bands) × AllByRecursion (λ v. v ≤ i.kind.bits - 2) xs) t.contents
        (table_count i.shape.bands 4 t.numbers t.held, none_above (i.kind.bits - 2) (take i.shape.bands t.numbers) (refuse_ok _ _ small.0))
    by_flag false e t = absurd (cc)

-- ---- the header

start_is_lawful : (p : Params) (b : Bool) (q : ℕ) (ws : List ℤ) → (b ≡ true → InRange 3 (p.omega + 3) q)
    → (b ≡ true → (length ws ≡ weight_count p.previous p.reduced p.shape.bands) × AllByRecursion (IsSigned q) ws)
    → IsWeightStart p (start_by b q ws)
start_is_lawful p true q ws h k = (let there = h refl in let table = k refl in (there, table.0, table.1))
start_is_lawful p false q ws h k = tt

count_is_lawful : (p : Params) (b : Bool) (constant : ℕ) (ks : List ℕ) → (b ≡ false → constant ≤ p.kind.bits - 2)
    → (b ≡ true → (length ks ≡ p.shape.bands) × AllByRecursion (λ v. v ≤ p.kind.bits - 2) ks)
    → IsCountStart p (count_by b constant ks)
count_is_lawful p true constant ks one k = k refl
count_is_lawful p false constant ks one k = one refl

coder_is_lawful : (p : Params) (i : ImagePart) (c : CoderPart) (ks : List ℕ) → p.kind ≡ i.kind → p.shape ≡ i.shape → IsCoderPart i c
    → (has_constants c ≡ true → (length ks ≡ i.shape.bands) × AllByRecursion (λ v. v ≤ i.kind.bits - 2) ks) → IsCoder p (coder_by_part c ks)
coder_is_lawful p i (Sample umax gamma_star gamma_zero constant table) ks e f h k =
    (h.0, h.1, h.2, h.3, count_is_lawful p table constant ks (λ none. rw e (h.4 none)) (λ there. rw (e, f) (k there)))
coder_is_lawful p i (Block size restricted reference) ks e f h k = (h.0, (λ there. rw e (h.1 there)), h.2)

pub spelt_is_lawful : (p : Params) (bits : List Bool) → SpellsHeader p bits → IsLawful p
unfolding AreWeights
spelt_is_lawful p bits s = subst (λ (x : Params). IsLawful x) s.same lawful
  where
    lawful : IsLawful (params_of s.from)
    lawful =
        let x = s.from in
        let i : ImagePart = x.0.0.0.0 in
        let d : PredictorPart = x.0.0.0.1 in
        let first = image_spelt i _ s.spells.first.first.first.first in
        let second = predictor_spelt i d _ first.sizes.columns.0 s.spells.first.first.first.second in
        let third = coder_spelt _ i x.0.1 _ s.spells.first.second in
        record {
          sizes = first.sizes;
          kind = first.kind;
          user = first.user;
          order = first.order;
          word = first.word;
          previous = second.previous;
          mode = second.mode;
          sums = second.sums;
          register = second.register;
          omega = second.omega;
          wide = second.wide;
          interval = second.interval;
          vmin = second.vmin;
          vmax = second.vmax;
          exponents = second.exponents;
          start = start_is_lawful (params_of x) d.custom d.resolution x.0.0.1 second.start
              (λ custom. weights_spelt i d x.0.0.1 _ (omega (arith, second.start custom)) s.spells.first.first.second custom);
          coder = coder_is_lawful (params_of x) i x.0.1 x.1 refl refl third (λ table. constants_spelt _ i x.0.1 x.1 _ s.spells.second table);
        }

-- ---- what reading the parts tells

-- the numbers of a weight table that is announced have a few bits each
pub start_read : (i : ImagePart) (p : PredictorPart) (bits one rest : List Bool) → part_at image bits ≡ Ok (i, one) → part_at (predictor i) one ≡ Ok (p, rest)
    → (p.previous ≤ 15) × (p.resolution ≤ 22) × (p.custom ≡ true → 1 ≤ p.resolution)
start_read i p bits one rest first second =
    let a = (part_exact image).found i bits one first in
    let b = (part_exact (predictor i)).found p one rest second in
    let facts = predictor_spelt i p b.0 (image_spelt i a.0 a.1).sizes.columns.0 b.1 in
    (facts.previous, omega (arith, facts.few, facts.omega), (λ custom. omega (arith, facts.start custom)))
