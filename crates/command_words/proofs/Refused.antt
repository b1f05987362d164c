-- Why there are no lawful settings, from the option that has no lawful value.
use Rattle.std.proofs.Common.{◌≡◌, ◌∙◌, ◌≤◌, ℕ, ℤ, List, Result, Ok, Err, IfErr, IsErrAnd, arith, codes, subst, sym}
use Rattle.std.proofs.lemmas.Int.{ints}
use Rattle.header_bits.specs.declared.params.CountStart.TheVariants.{Constant}
use Rattle.cube_core.specs.declared.fault.Fault.{Fault}
use Rattle.cube_core.specs.declared.order.Order.{Order}
use Rattle.cube_core.specs.declared.order.Order.TheVariants.{Bsq, Bi}
use Rattle.cube_core.specs.Shape.{InRange}
use Rattle.header_bits.specs.Lawful.{IsExponent}
use Rattle.header_bits.specs.declared.params.Coder.{Coder}
use Rattle.header_bits.specs.declared.params.Coder.TheVariants as coder
use Rattle.clap.specs.Walk.{Row, Text}
use Rattle.command_words.specs.Settings.{IsCoderInRange, IsDepth}
use Rattle.command_words.specs.Reading.{HasExponent, HasNumber, IsBlockOf, IsOrderOf, IsSampleOf}

-- a fault that is passed on
pub passed : {T : Type 0} (r : Result T Fault) (e : Fault) (P : Fault → Type 0) → IsErrAnd r (λ f. f ≡ e) → P e → IfErr r P
passed (Ok x) e P h p = tt
passed (Err f) e P h p = subst P (sym h) p

-- no number of the option is in its range
abbrev pub HasNone : List Row → Text → ℕ → ℕ → Type 0
HasNone rows name least most = (n : ℕ) → HasNumber rows name n → ¬ (InRange least most n)

pub no_exponent : (rows : List Row) (name : Text) → HasNone rows name 0 15 → (v : ℤ) → HasExponent rows name v → ¬ (IsExponent v)
no_exponent rows name none v of range =
    let least : 0 ≤ of.0 = omega arith in
    none of.0 of.1 (omega arith, omega (arith, ints, of.2, range))

pub no_order : (rows : List Row) → HasNone rows (codes "depth") 1 65536 → (o : Order) → IsOrderOf rows o → ¬ (IsDepth o)
no_order rows none Bsq of range = none of.1 of.2 of.3
no_order rows none (Bi depth) of range = none depth of.1 range

pub no_umax : (rows : List Row) → HasNone rows (codes "umax") 8 32 → (c : Coder) → IsSampleOf rows c → ¬ (IsCoderInRange c)
no_umax rows none (coder.Sample umax gamma_star gamma_zero start) of range = none umax of.0 range.0
no_umax rows none (coder.Block size restricted reference) of range = of

pub no_gamma_star : (rows : List Row) → HasNone rows (codes "gamma-star") 4 9 → (c : Coder) → IsSampleOf rows c → ¬ (IsCoderInRange c)
no_gamma_star rows none (coder.Sample umax gamma_star gamma_zero start) of range = none gamma_star of.1 range.1
no_gamma_star rows none (coder.Block size restricted reference) of range = of

pub no_gamma_zero : (rows : List Row) → HasNone rows (codes "gamma-zero") 1 8 → (c : Coder) → IsSampleOf rows c → ¬ (IsCoderInRange c)
no_gamma_zero rows none (coder.Sample umax gamma_star gamma_zero start) of range = none gamma_zero of.2 range.2
no_gamma_zero rows none (coder.Block size restricted reference) of range = of

pub no_k : (rows : List Row) → HasNone rows (codes "k") 0 14 → (c : Coder) → IsSampleOf rows c → ¬ (IsCoderInRange c)
no_k rows none (coder.Sample umax gamma_star gamma_zero start) of range =
    let both : Constant of.3 ≡ Constant range.3 = sym of.5 ∙ range.4 in
    let same : of.3 ≡ range.3 = cc in
    none of.3 of.4 (omega arith, omega (arith, same, range.5))
no_k rows none (coder.Block size restricted reference) of range = of

pub no_size : (rows : List Row) → HasNone rows (codes "block") 8 64 → (c : Coder) → IsBlockOf rows c → ¬ (IsCoderInRange c)
no_size rows none (coder.Sample umax gamma_star gamma_zero start) of range = of
no_size rows none (coder.Block size restricted reference) of range = none size of.0 (omega (arith, range.0), omega (arith, range.0))

pub no_reference : (rows : List Row) → HasNone rows (codes "reference") 1 4096 → (c : Coder) → IsBlockOf rows c → ¬ (IsCoderInRange c)
no_reference rows none (coder.Sample umax gamma_star gamma_zero start) of range = of
no_reference rows none (coder.Block size restricted reference) of range = none reference of.2 range.1
