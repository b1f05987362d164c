-- Parameters are lawful exactly where no refusal is met.
use Rattle.std.proofs.Common.{◌≡◌, inl, inr, ℕ, ◌+◌, ◌-◌, ◌^◌, ◌≤◌, ◌≤ℤ◌, ◌-ℤ◌, neg_ℤ, Bool, true, false, cond, not, ◌&&◌, ltb, eqb, int_le, int_lt, List, []}
use Rattle.std.proofs.Common.{◌∷◌, length, ℤ, pos, IsOk, OnOk, ◌↔◌, Ok, Err, refl, sym, ◌∙◌, arith}
use Rattle.std.specs.List.{AllByRecursion}
use Rattle.std.proofs.lemmas.Bool.{ltb-false, le-ltb, eqb-true, eqb-false, eq-eqb, ne_eqb, not_from_true, and_from, and_parts}
use Rattle.cube_core.specs.declared.fault.Field.TheVariants as field
use Rattle.cube_core.specs.declared.fault.Rule.TheVariants as rule
use Rattle.cube_core.specs.declared.fault.Fault.TheVariants.{FieldRange, Disagree}
use Rattle.cube_core.specs.declared.order.Order.{Order}
use Rattle.cube_core.specs.declared.order.Order.TheVariants.{Bsq, Bi}
use Rattle.cube_core.specs.Steps.{Test, refuse_if}
use Rattle.cube_core.specs.Shape.{Sizes, AreSizes, InRange}
use Rattle.cube_core.specs.Kind.{IsKind}
use Rattle.cube_core.specs.Order.{IsOrder}
use Rattle.header_bits.specs.declared.params.Params.{Params}
use Rattle.header_bits.specs.declared.params.WeightStart.{WeightStart}
use Rattle.header_bits.specs.declared.params.WeightStart.TheVariants.{Usual, Table}
use Rattle.header_bits.specs.declared.params.Coder.{Coder}
use Rattle.header_bits.specs.declared.params.Coder.TheVariants.{Sample, Block}
use Rattle.header_bits.specs.declared.params.CountStart.{CountStart}
use Rattle.header_bits.specs.declared.params.CountStart.TheVariants.{Constant, Each}
use Rattle.header_bits.specs.Parts.{fine}
use Rattle.header_bits.specs.TableParts.{weight_count, some_above}
use Rattle.header_bits.specs.Lawful.{IsLawful, IsExponent, IsSigned, IsBlockSize, IsWeightStart, IsCountStart, IsCoder, in_range_or, exponent_or, order_fault}
use Rattle.header_bits.specs.Lawful.{predictor_fault, entries_fault, start_fault, count_fault, block_size_fault, coder_fault, params_fault}
use Rattle.header_bits.proofs.Tests.{then_ok, ◌then_fine◌, refuse_ok, refuse_fine, not_false, in_range_ok, in_range_fine, exponent_ok, exponent_fine, le_true}
use Rattle.header_bits.proofs.Tests.{true_le, lt_false, false_lt, under, not_under}

order_ok : (s : Sizes) (o : Order) → order_fault s o ≡ fine → IsOrder s o
order_ok s Bsq e = tt
order_ok s (Bi depth) e =
    let p = then_ok (refuse_if (eqb depth 0) (FieldRange field.Depth (pos 0))) (refuse_if (ltb s.bands depth) (Disagree rule.DepthOverBands)) e in
    let some : depth ≡ 0 → ⊥ = eqb-false depth 0 (refuse_ok _ _ p.0) in
    (omega (arith, some), ltb-false s.bands depth (refuse_ok _ _ p.1))

order_fine : (s : Sizes) (o : Order) → IsOrder s o → order_fault s o ≡ fine
order_fine s Bsq h = refl
order_fine s (Bi depth) h = refuse_fine _ _ (ne_eqb depth 0 (λ e. omega (arith, e, h.0))) then_fine refuse_fine _ _ (le-ltb s.bands depth h.1)

-- one column is for reduced mode and column-oriented sums
columns_ok : (b : Bool) (columns : ℕ) → 1 ≤ columns → (not b && eqb columns 1) ≡ false → b ≡ false → 2 ≤ columns
columns_ok true columns le e h = absurd cc
columns_ok false columns le e h = let other : columns ≡ 1 → ⊥ = eqb-false columns 1 e in omega (arith, other)

columns_fine : (b : Bool) (columns : ℕ) → (b ≡ false → 2 ≤ columns) → (not b && eqb columns 1) ≡ false
columns_fine true columns h = refl
columns_fine false columns h = ne_eqb columns 1 (λ e. omega (arith, e, h refl))

entries_ok : (q : ℕ) (vs : List ℤ) → entries_fault q vs ≡ fine → AllByRecursion (IsSigned q) vs
unfolding entries_fault
entries_ok q [] e = tt
entries_ok q (v ∷ vs) e =
    let low : ℤ = neg_ℤ (pos (2 ^ (q - 1))) in
    let high : ℤ = pos (2 ^ (q - 1)) -ℤ pos 1 in
    let p = then_ok (refuse_if (not (int_le low v && int_le v high)) (FieldRange field.WeightEntry v)) (entries_fault q vs) e in
    let both = and_parts (int_le low v) (int_le v high) (not_false _ (refuse_ok _ _ p.0)) in
    ((le_true low v both.0, le_true v high both.1), entries_ok q vs p.1)

entries_fine : (q : ℕ) (vs : List ℤ) → AllByRecursion (IsSigned q) vs → entries_fault q vs ≡ fine
unfolding entries_fault
entries_fine q [] h = refl
entries_fine q (v ∷ vs) h =
    let low : ℤ = neg_ℤ (pos (2 ^ (q - 1))) in
    let high : ℤ = pos (2 ^ (q - 1)) -ℤ pos 1 in
    refuse_fine _ _ (not_from_true _ (and_from (int_le low v) (int_le v high) (true_le low v h.0.0) (true_le v high h.0.1))) then_fine entries_fine q vs h.1

pub none_above : (most : ℕ) (vs : List ℕ) → some_above most vs ≡ false → AllByRecursion (λ v. v ≤ most) vs
unfolding some_above
none_above most [] e = tt
none_above most (v ∷ vs) e = by_test (ltb most v) refl e (none_above most vs)
  where
    by_test : (b : Bool) → ltb most v ≡ b → cond b true (some_above most vs) ≡ false → (some_above most vs ≡ false → AllByRecursion (λ v. v ≤ most) vs)
        → AllByRecursion (λ v. v ≤ most) (v ∷ vs)
    by_test true test h more = absurd cc
    by_test false test h more = (ltb-false most v test, more h)

pub above_none : (most : ℕ) (vs : List ℕ) → AllByRecursion (λ v. v ≤ most) vs → some_above most vs ≡ false
unfolding some_above
above_none most [] h = refl
above_none most (v ∷ vs) h = rw (le-ltb most v h.0) (above_none most vs h.1)

start_ok : (p : Params) (s : WeightStart) → start_fault p s ≡ fine → IsWeightStart p s
start_ok p Usual e = tt
start_ok p (Table q values) e =
    let b = then_ok (refuse_if (ltb q 3) (FieldRange field.Resolution (pos q))) _ e in
    let c = then_ok (refuse_if (ltb (p.omega + 3) q) (Disagree rule.ResolutionOverOmega)) _ b.1 in
    let d = then_ok (refuse_if (not (eqb (length values) (weight_count p.previous p.reduced p.shape.bands))) (Disagree rule.WeightTableLength))
    (entries_fault q values) c.1 in (
      (ltb-false q 3 (refuse_ok _ _ b.0), ltb-false (p.omega + 3) q (refuse_ok _ _ c.0)),
      eqb-true _ _ (not_false _ (refuse_ok _ _ d.0)),
      entries_ok q values d.1,
    )

start_fine : (p : Params) (s : WeightStart) → IsWeightStart p s → start_fault p s ≡ fine
start_fine p Usual h = refl
start_fine p (Table q values) h =
    refuse_fine _ _ (le-ltb q 3 h.0.0) then_fine refuse_fine _ _ (le-ltb (p.omega + 3) q h.0.1) then_fine refuse_fine _ _ (not_from_true _ (eq-eqb _ _ h.1))
    then_fine entries_fine q values h.2

count_ok : (p : Params) (s : CountStart) → count_fault p s ≡ fine → IsCountStart p s
count_ok p (Constant k) e = ltb-false (p.kind.bits - 2) k (refuse_ok _ _ e)
count_ok p (Each values) e =
    let b = then_ok (refuse_if (not (eqb (length values) p.shape.bands)) (Disagree rule.AccumulatorTableLength))
    (refuse_if (some_above (p.kind.bits - 2) values) (Disagree rule.AccumulatorEntry)) e in
    (eqb-true _ _ (not_false _ (refuse_ok _ _ b.0)), none_above _ values (refuse_ok _ _ b.1))

count_fine : (p : Params) (s : CountStart) → IsCountStart p s → count_fault p s ≡ fine
count_fine p (Constant k) h = refuse_fine _ _ (le-ltb (p.kind.bits - 2) k h)
count_fine p (Each values) h =
    refuse_fine _ _ (not_from_true _ (eq-eqb _ _ h.0)) then_fine refuse_fine _ _ (above_none _ values h.1)

size_ok : (size : ℕ) → block_size_fault size ≡ fine → IsBlockSize size
size_ok size e = by_tests (eqb size 8) (eqb size 16) (eqb size 32) (eqb size 64) refl refl refl refl (refuse_ok _ _ e)
  where
    by_tests : (a b c d : Bool) → eqb size 8 ≡ a → eqb size 16 ≡ b → eqb size 32 ≡ c → eqb size 64 ≡ d → (not a && not b && not c && not d) ≡ false
        → IsBlockSize size
    by_tests true b c d p q r s h = inl (eqb-true size 8 p)
    by_tests false true c d p q r s h = inr (inl (eqb-true size 16 q))
    by_tests false false true d p q r s h = inr (inr (inl (eqb-true size 32 r)))
    by_tests false false false true p q r s h = inr (inr (inr (eqb-true size 64 s)))
    by_tests false false false false p q r s h = absurd cc

size_fine : (size : ℕ) → IsBlockSize size → block_size_fault size ≡ fine
size_fine size (inl e) = rw e refl
size_fine size (inr (inl e)) = rw e refl
size_fine size (inr (inr (inl e))) = rw e refl
size_fine size (inr (inr (inr e))) = rw e refl

coder_ok : (p : Params) (c : Coder) → coder_fault p c ≡ fine → IsCoder p c
coder_ok p (Sample umax gamma_star gamma_zero start) e =
    let a = then_ok (in_range_or field.Umax 8 32 umax) _ e in
    let b = then_ok (in_range_or field.GammaStar 4 9 gamma_star) _ a.1 in
    let c = then_ok (in_range_or field.GammaZero 1 8 gamma_zero) _ b.1 in
    let d = then_ok (refuse_if (ltb gamma_star (gamma_zero + 1)) (Disagree rule.CounterOrder)) (count_fault p start) c.1 in (
      in_range_ok _ 8 32 umax a.0,
      in_range_ok _ 4 9 gamma_star b.0,
      in_range_ok _ 1 8 gamma_zero c.0,
      ltb-false gamma_star (gamma_zero + 1) (refuse_ok _ _ d.0),
      count_ok p start d.1,
    )
coder_ok p (Block size restricted reference) e =
    let a = then_ok (block_size_fault size) _ e in
    let c = then_ok (refuse_if (restricted && ltb 4 p.kind.bits) (Disagree rule.RestrictedOverFour)) (in_range_or field.Reference 1 4096 reference) a.1 in (
      size_ok size a.0,
      (λ h. ltb-false 4 p.kind.bits (under restricted (ltb 4 p.kind.bits) (refuse_ok _ _ c.0) h)),
      in_range_ok _ 1 4096 reference c.1,
    )

coder_fine : (p : Params) (c : Coder) → IsCoder p c → coder_fault p c ≡ fine
coder_fine p (Sample umax gamma_star gamma_zero start) h =
    in_range_fine field.Umax 8 32 umax h.0 then_fine in_range_fine field.GammaStar 4 9 gamma_star h.1 then_fine in_range_fine field.GammaZero 1 8 gamma_zero h.2
    then_fine refuse_fine _ _ (le-ltb gamma_star (gamma_zero + 1) h.3) then_fine count_fine p start h.4
coder_fine p (Block size restricted reference) h =
    size_fine size h.0 then_fine refuse_fine _ _ (not_under restricted (ltb 4 p.kind.bits) (λ r. le-ltb 4 p.kind.bits (h.1 r)))
    then_fine in_range_fine field.Reference 1 4096 reference h.2

-- what the tests of the predictor's parameters leave
record IsPredictor (p : Params) : Type 0 where
  previous : p.previous ≤ 15
  mode : p.reduced ≡ false → 2 ≤ p.shape.columns
  sums : p.column ≡ false → 2 ≤ p.shape.columns
  register : InRange 32 64 p.register
  omega : InRange 4 19 p.omega
  wide : p.kind.bits + p.omega + 2 ≤ p.register
  interval : InRange 4 11 p.interval_log
  vmin : IsExponent p.vmin
  vmax : IsExponent p.vmax
  exponents : p.vmin ≤ℤ p.vmax

predictor_ok : (p : Params) → 1 ≤ p.shape.columns → predictor_fault p ≡ fine → IsPredictor p
predictor_ok p some e =
    let a = then_ok (in_range_or field.Previous 0 15 p.previous) _ e in
    let b = then_ok (refuse_if (not p.reduced && eqb p.shape.columns 1) (Disagree rule.FullOneColumn)) _ a.1 in
    let c = then_ok (refuse_if (not p.column && eqb p.shape.columns 1) (Disagree rule.NeighbourOneColumn)) _ b.1 in
    let d = then_ok (in_range_or field.Register 32 64 p.register) _ c.1 in
    let f = then_ok (in_range_or field.Omega 4 19 p.omega) _ d.1 in
    let g = then_ok (refuse_if (ltb p.register (p.kind.bits + p.omega + 2)) (Disagree rule.RegisterTooSmall)) _ f.1 in
    let h = then_ok (in_range_or field.Interval 4 11 p.interval_log) _ g.1 in
    let i = then_ok (exponent_or field.VMin p.vmin) _ h.1 in
    let j = then_ok (exponent_or field.VMax p.vmax) (refuse_if (int_lt p.vmax p.vmin) (Disagree rule.ExponentOrder)) i.1 in
    record {
      previous = (in_range_ok _ 0 15 p.previous a.0).1;
      mode = columns_ok p.reduced p.shape.columns some (refuse_ok _ _ b.0);
      sums = columns_ok p.column p.shape.columns some (refuse_ok _ _ c.0);
      register = in_range_ok _ 32 64 p.register d.0;
      omega = in_range_ok _ 4 19 p.omega f.0;
      wide = ltb-false p.register (p.kind.bits + p.omega + 2) (refuse_ok _ _ g.0);
      interval = in_range_ok _ 4 11 p.interval_log h.0;
      vmin = exponent_ok _ p.vmin i.0;
      vmax = exponent_ok _ p.vmax j.0;
      exponents = lt_false p.vmax p.vmin (refuse_ok _ _ j.1);
    }

predictor_fine : (p : Params) → IsLawful p → predictor_fault p ≡ fine
predictor_fine p h =
    in_range_fine field.Previous 0 15 p.previous (omega arith, h.previous) then_fine refuse_fine _ _ (columns_fine p.reduced p.shape.columns h.mode)
    then_fine refuse_fine _ _ (columns_fine p.column p.shape.columns h.sums) then_fine in_range_fine field.Register 32 64 p.register h.register
    then_fine in_range_fine field.Omega 4 19 p.omega h.omega then_fine refuse_fine _ _ (le-ltb p.register (p.kind.bits + p.omega + 2) h.wide)
    then_fine in_range_fine field.Interval 4 11 p.interval_log h.interval then_fine exponent_fine field.VMin p.vmin h.vmin
    then_fine exponent_fine field.VMax p.vmax h.vmax then_fine refuse_fine _ _ (false_lt p.vmax p.vmin h.exponents)

pub lawful_is_fine : (p : Params) → IsLawful p → params_fault p ≡ fine
unfolding params_fault
lawful_is_fine p h =
    in_range_fine field.User 0 255 p.user (omega arith, h.user) then_fine order_fine p.shape p.order h.order
    then_fine in_range_fine field.WordSize 1 8 p.word h.word then_fine predictor_fine p h then_fine start_fine p p.start h.start
    then_fine coder_fine p p.coder h.coder

pub fine_is_lawful : (p : Params) → AreSizes p.shape → IsKind p.kind → params_fault p ≡ fine → IsLawful p
unfolding params_fault
fine_is_lawful p sizes kind e =
    let a = then_ok (in_range_or field.User 0 255 p.user) _ e in
    let b = then_ok (order_fault p.shape p.order) _ a.1 in
    let c = then_ok (in_range_or field.WordSize 1 8 p.word) _ b.1 in
    let d = then_ok (predictor_fault p) _ c.1 in
    let f = then_ok (start_fault p p.start) (coder_fault p p.coder) d.1 in
    let h = predictor_ok p sizes.columns.0 d.0 in
    record {
      sizes = sizes;
      kind = kind;
      user = (in_range_ok _ 0 255 p.user a.0).1;
      order = order_ok p.shape p.order b.0;
      word = in_range_ok _ 1 8 p.word c.0;
      previous = h.previous;
      mode = h.mode;
      sums = h.sums;
      register = h.register;
      omega = h.omega;
      wide = h.wide;
      interval = h.interval;
      vmin = h.vmin;
      vmax = h.vmax;
      exponents = h.exponents;
      start = start_ok p p.start f.0;
      coder = coder_ok p p.coder f.1;
    }

-- a check that gives the first refusal is Ok exactly for lawful parameters
pub lawful_where_ok : (p : Params) (r : Test) → OnOk r (AreSizes p.shape × IsKind p.kind) → r ≡ params_fault p → IsOk r ↔ IsLawful p
lawful_where_ok p (Ok t) h e = (λ _. fine_is_lawful p h.0 h.1 (sym e), λ _. refl)
lawful_where_ok p (Err f) h e = (λ ok. absurd cc, λ lawful. let both : fine ≡ Err f = sym (e ∙ lawful_is_fine p lawful) in absurd cc)
