-- Which parameters are lawful, and why others are refused.
use Rattle.std.specs.Prelude.{◌≡◌, ◌⊎◌, ℕ, ◌+◌, ◌-◌, ◌^◌, ◌≤◌, ◌==◌, nat_lt, nat_le, not, ◌&&◌, true, false, List, [], ◌∷◌, length, ℤ, pos, negsuc, neg_ℤ}
use Rattle.std.specs.Prelude.{◌≤ℤ◌, ◌-ℤ◌, int_lt, int_le}
use Rattle.std.specs.List.{AllByRecursion}
use Rattle.cube_core.specs.declared.fault.Fault.TheVariants.{FieldRange, Disagree}
use Rattle.cube_core.specs.declared.fault.Field.{Field}
use Rattle.cube_core.specs.declared.fault.Field.TheVariants as field
use Rattle.cube_core.specs.declared.fault.Rule.TheVariants as rule
use Rattle.cube_core.specs.declared.order.Order.{Order}
use Rattle.cube_core.specs.declared.order.Order.TheVariants.{Bsq, Bi}
use Rattle.cube_core.specs.Steps.{Test, ◌>>◌, refuse_if}
use Rattle.cube_core.specs.Shape.{Sizes, AreSizes, InRange}
use Rattle.cube_core.specs.Kind.{IsKind}
use Rattle.cube_core.specs.Order.{IsOrder}
use Rattle.header_bits.specs.declared.params.Params.{Params}
use Rattle.header_bits.specs.declared.params.WeightStart.{WeightStart}
use Rattle.header_bits.specs.declared.params.WeightStart.TheVariants.{Usual, Table}
use Rattle.header_bits.specs.declared.params.Coder.{Coder}
use Rattle.header_bits.specs.declared.params.Coder.TheVariants.{Sample, Block}
use Rattle.header_bits.specs.declared.params.CountStart.{CountStart}
use Rattle.header_bits.specs.declared.params.CountStart.TheVariants.{Constant, Each}
use Rattle.header_bits.specs.Parts.{fine}
use Rattle.header_bits.specs.TableParts.{weight_count, some_above}

-- a limit of the weight update scaling exponent, v_min or v_max: -6 to 9
abbrev pub IsExponent : ℤ → Type 0
IsExponent v = (negsuc 5 ≤ℤ v) × (v ≤ℤ pos 9)

-- a number that fits in `bits` bits of two's complement
abbrev pub IsSigned : ℕ → ℤ → Type 0
IsSigned bits v = (neg_ℤ (pos (2 ^ (bits - 1))) ≤ℤ v) × (v ≤ℤ (pos (2 ^ (bits - 1)) -ℤ pos 1))

abbrev pub IsBlockSize : ℕ → Type 0
IsBlockSize size = (size ≡ 8) ⊎ ((size ≡ 16) ⊎ ((size ≡ 32) ⊎ (size ≡ 64)))

-- the default initialization; or a table of one entry Λ of Q bits for each weight, with 3 ≤ Q ≤ Ω + 3
abbrev pub IsWeightStart : Params → WeightStart → Type 0
IsWeightStart p Usual = Unit {0}
IsWeightStart p (Table q values) = InRange 3 (p.omega + 3) q × (length values ≡ weight_count p.previous p.reduced p.shape.bands)
    × AllByRecursion (IsSigned q) values

-- one constant K for all bands, or a table of one for each band; none is above D - 2
abbrev pub IsCountStart : Params → CountStart → Type 0
IsCountStart p (Constant k) = k ≤ p.kind.bits - 2
IsCountStart p (Each values) = (length values ≡ p.shape.bands) × AllByRecursion (λ v. v ≤ p.kind.bits - 2) values

abbrev pub IsCoder : Params → Coder → Type 0
IsCoder p (Sample umax gamma_star gamma_zero start) = InRange 8 32 umax × InRange 4 9 gamma_star × InRange 1 8 gamma_zero × (gamma_zero + 1 ≤ gamma_star)
    × IsCountStart p start
IsCoder p (Block size restricted reference) = IsBlockSize size × (restricted ≡ true → p.kind.bits ≤ 4) × InRange 1 4096 reference

-- all ranges and rules hold
pub record IsLawful (p : Params) : Type 0 where
  pub sizes : AreSizes p.shape
  pub kind : IsKind p.kind
  pub user : p.user ≤ 255
  pub order : IsOrder p.shape p.order
  pub word : InRange 1 8 p.word
  pub previous : p.previous ≤ 15
  pub mode : p.reduced ≡ false → 2 ≤ p.shape.columns
  pub sums : p.column ≡ false → 2 ≤ p.shape.columns
  pub register : InRange 32 64 p.register
  pub omega : InRange 4 19 p.omega
  pub wide : p.kind.bits + p.omega + 2 ≤ p.register
  pub interval : InRange 4 11 p.interval_log
  pub vmin : IsExponent p.vmin
  pub vmax : IsExponent p.vmax
  pub exponents : p.vmin ≤ℤ p.vmax
  pub start : IsWeightStart p p.start
  pub coder : IsCoder p p.coder

-- ---- the first refusal, in the order of the header's fields

-- a number out of its range is refused under its name
abbrev pub in_range_or : Field → ℕ → ℕ → ℕ → Test
in_range_or field least most n = refuse_if (not (nat_le least n && nat_le n most)) (FieldRange field (pos n))

abbrev pub exponent_or : Field → ℤ → Test
exponent_or field v = refuse_if (not (int_le (negsuc 5) v && int_le v (pos 9))) (FieldRange field v)

abbrev pub order_fault : Sizes → Order → Test
order_fault s Bsq = fine
order_fault s (Bi depth) = refuse_if (depth == 0) (FieldRange field.Depth (pos 0)) >> refuse_if (nat_lt s.bands depth) (Disagree rule.DepthOverBands)

abbrev pub weight_fault : ℕ → ℤ → Test
weight_fault q v = refuse_if (not (int_le (neg_ℤ (pos (2 ^ (q - 1)))) v && int_le v (pos (2 ^ (q - 1)) -ℤ pos 1))) (FieldRange field.WeightEntry v)

-- the refusal of the first entry that doesn't fit in q bits of two's complement
unfoldable pub entries_fault : ℕ → List ℤ → Test
entries_fault q [] = fine
entries_fault q (v ∷ vs) = weight_fault q v >> entries_fault q vs

abbrev pub start_fault : Params → WeightStart → Test
start_fault p Usual = fine
start_fault p (Table q values) =
    refuse_if (nat_lt q 3) (FieldRange field.Resolution (pos q))
    >> refuse_if (nat_lt (p.omega + 3) q) (Disagree rule.ResolutionOverOmega)
    >> refuse_if (not (length values == weight_count p.previous p.reduced p.shape.bands)) (Disagree rule.WeightTableLength)
    >> entries_fault q values

abbrev pub count_fault : Params → CountStart → Test
count_fault p (Constant k) = refuse_if (nat_lt (p.kind.bits - 2) k) (Disagree rule.StartConstant)
count_fault p (Each values) =
    refuse_if (not (length values == p.shape.bands)) (Disagree rule.AccumulatorTableLength)
    >> refuse_if (some_above (p.kind.bits - 2) values) (Disagree rule.AccumulatorEntry)

abbrev pub block_size_fault : ℕ → Test
block_size_fault size = refuse_if (not (size == 8) && not (size == 16) && not (size == 32) && not (size == 64)) (FieldRange field.BlockSize (pos size))

abbrev pub coder_fault : Params → Coder → Test
coder_fault p (Sample umax gamma_star gamma_zero start) =
    in_range_or field.Umax 8 32 umax
    >> in_range_or field.GammaStar 4 9 gamma_star
    >> in_range_or field.GammaZero 1 8 gamma_zero
    >> refuse_if (nat_lt gamma_star (gamma_zero + 1)) (Disagree rule.CounterOrder)
    >> count_fault p start
coder_fault p (Block size restricted reference) =
    block_size_fault size
    >> refuse_if (restricted && nat_lt 4 p.kind.bits) (Disagree rule.RestrictedOverFour)
    >> in_range_or field.Reference 1 4096 reference

abbrev pub update_fault : Params → Test
update_fault p =
    in_range_or field.Interval 4 11 p.interval_log
    >> exponent_or field.VMin p.vmin
    >> exponent_or field.VMax p.vmax
    >> refuse_if (int_lt p.vmax p.vmin) (Disagree rule.ExponentOrder)

abbrev pub register_fault : Params → Test
register_fault p =
    in_range_or field.Register 32 64 p.register
    >> in_range_or field.Omega 4 19 p.omega
    >> refuse_if (nat_lt p.register (p.kind.bits + p.omega + 2)) (Disagree rule.RegisterTooSmall)
    >> update_fault p

abbrev pub predictor_fault : Params → Test
predictor_fault p =
    in_range_or field.Previous 0 15 p.previous
    >> refuse_if (not p.reduced && (p.shape.columns == 1)) (Disagree rule.FullOneColumn)
    >> refuse_if (not p.column && (p.shape.columns == 1)) (Disagree rule.NeighbourOneColumn)
    >> register_fault p

-- the first refusal of parameters, if they aren't lawful
unfoldable pub params_fault : Params → Test
params_fault p =
    in_range_or field.User 0 255 p.user
    >> order_fault p.shape p.order
    >> in_range_or field.WordSize 1 8 p.word
    >> predictor_fault p
    >> start_fault p p.start
    >> coder_fault p p.coder
