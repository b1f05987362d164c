-- The numbers of lawful parameters fit their slots.
use Rattle.std.proofs.Common.{◌≡◌, ℕ, ◌<◌, ◌≤◌, Bool, true, false, cond, eqb, List, ℤ, pos, negsuc, refl, arith, lit<}
use Rattle.std.proofs.lemmas.Int.{ints}
use mir.Val.{bool_byte}
use Rattle.cube_core.specs.declared.order.Order.{Order}
use Rattle.cube_core.specs.declared.order.Order.TheVariants.{Bsq, Bi}
use Rattle.cube_core.specs.Shape.{Sizes, InRange}
use Rattle.cube_core.specs.Order.{IsOrder}
use Rattle.header_bits.specs.declared.params.Params.{Params}
use Rattle.header_bits.specs.declared.params.WeightStart.{WeightStart}
use Rattle.header_bits.specs.declared.params.WeightStart.TheVariants.{Usual, Table}
use Rattle.header_bits.specs.declared.params.Coder.{Coder}
use Rattle.header_bits.specs.declared.params.Coder.TheVariants.{Sample, Block}
use Rattle.header_bits.specs.declared.params.CountStart.{CountStart}
use Rattle.header_bits.specs.declared.params.CountStart.TheVariants.{Constant, Each}
use Rattle.header_bits.specs.declared.coder_part.CoderPart.{CoderPart}
use Rattle.header_bits.specs.declared.coder_part.CoderPart.TheVariants as part
use Rattle.header_bits.specs.Layout.{AreValues, total, spelled}
use Rattle.header_bits.specs.ImagePart.{image_fields, image_numbers, flag, order_flag, depth_number}
use Rattle.header_bits.specs.PredictorPart.{predictor_fields, predictor_numbers, exponent_code}
use Rattle.header_bits.specs.CoderPart.{sample_fields, block_fields, coder_fields, coder_numbers, size_code}
use Rattle.header_bits.specs.Header.{is_block, image_part_of, predictor_part_of, coder_part_of, is_custom, resolution_of, constant_field, is_each}
use Rattle.header_bits.specs.Lawful.{IsLawful, IsExponent, IsCountStart, IsWeightStart, IsCoder}

-- a flag converted to a number
pub flag_byte : (b : Bool) → bool_byte b ≡ flag b
flag_byte true = refl
flag_byte false = refl

pub flag_small : (b : Bool) → flag b < 2
flag_small true = lit< tt
flag_small false = lit< tt

pub order_flag_small : (o : Order) → order_flag o < 2
order_flag_small Bsq = lit< tt
order_flag_small (Bi depth) = lit< tt

pub depth_in : (s : Sizes) (o : Order) → IsOrder s o → s.bands ≤ 65536 → InRange 1 65536 (depth_number o)
depth_in s Bsq h le = (omega arith, omega arith)
depth_in s (Bi depth) h le = (h.0, omega (arith, h.1))

pub exponent_small : (v : ℤ) → IsExponent v → exponent_code v < 16
exponent_small (pos n) h = omega (arith, ints, h.1)
exponent_small (negsuc n) h = omega arith

resolution_small : (p : Params) (start : WeightStart) → p.omega ≤ 19 → IsWeightStart p start → resolution_of start < 32
resolution_small p Usual le h = lit< tt
resolution_small p (Table q values) le h = omega (arith, h.0)

constant_small : (p : Params) (start : CountStart) → p.kind.bits ≤ 16 → IsCountStart p start → constant_field start < 16
constant_small p (Constant k) le h = omega (arith, h)
constant_small p (Each values) le h = lit< tt

size_small : (size : ℕ) → size_code size < 4
size_small size = by_cases (eqb size 8) (eqb size 16) (eqb size 32)
  where
    by_cases : (a b c : Bool) → cond a 0 (cond b 1 (cond c 2 3)) < 4
    by_cases true b c = lit< tt
    by_cases false true c = lit< tt
    by_cases false false true = lit< tt
    by_cases false false false = lit< tt

pub image_held : (p : Params) → IsLawful p → AreValues image_fields (image_numbers (image_part_of p))
image_held p h =
    let depth = depth_in p.shape p.order h.order h.sizes.bands.1 in (
      (omega arith, omega (arith, h.user)),
      (
        h.sizes.columns,
        (
          h.sizes.rows,
          (
            h.sizes.bands,
            (
              (omega arith, flag_small p.kind.signed),
              (
                lit< tt,
                (
                  (omega (arith, h.kind), h.kind.1),
                  ((omega arith, order_flag_small p.order), (depth, (lit< tt, (h.word, ((omega arith, flag_small (is_block p.coder)), (lit< tt, tt)))))),
                ),
              ),
            ),
          ),
        ),
      ),
    )

pub predictor_held : (p : Params) → IsLawful p → AreValues predictor_fields (predictor_numbers (predictor_part_of p))
predictor_held p h = (
  lit< tt,
  (
    (omega arith, omega (arith, h.previous)),
    (
      (omega arith, flag_small p.reduced),
      (
        lit< tt,
        (
          (omega arith, flag_small p.column),
          (
            lit< tt,
            (
              (omega (arith, h.register), h.register.1),
              (
                (h.omega.0, omega (arith, h.omega.1)),
                (
                  (h.interval.0, omega (arith, h.interval.1)),
                  (
                    (omega arith, exponent_small p.vmin h.vmin),
                    (
                      (omega arith, exponent_small p.vmax h.vmax),
                      (
                        lit< tt,
                        (
                          (omega arith, flag_small (is_custom p.start)),
                          ((omega arith, flag_small (is_custom p.start)), ((omega arith, resolution_small p p.start h.omega.1 h.start), tt)),
                        ),
                      ),
                    ),
                  ),
                ),
              ),
            ),
          ),
        ),
      ),
    ),
  ),
)

held_by : (p : Params) (c : Coder) → p.kind.bits ≤ 16 → IsCoder p c → AreValues (coder_fields (coder_part_of c)) (coder_numbers (coder_part_of c))
held_by p (Sample umax gamma_star gamma_zero start) le h = (
  (omega (arith, h.0), h.0.1),
  ((h.1.0, omega (arith, h.1)), ((h.2.0, h.2.1), ((omega arith, constant_small p start le h.4), ((omega arith, flag_small (is_each start)), tt)))),
)
held_by p (Block size restricted reference) le h =
    (lit< tt, ((omega arith, size_small size), ((omega arith, flag_small restricted), ((h.2.0, h.2.1), tt))))

pub coder_held : (p : Params) → IsLawful p → AreValues (coder_fields (coder_part_of p.coder)) (coder_numbers (coder_part_of p.coder))
coder_held p h = held_by p p.coder (h.kind.1) h.coder

-- ---- the bits of each part

pub image_total : total image_fields ≡ 96
unfolding total
image_total = refl

pub predictor_total : total predictor_fields ≡ 40
unfolding total
predictor_total = refl

pub sample_total : total sample_fields ≡ 16
unfolding total
sample_total = refl

pub block_total : total block_fields ≡ 16
unfolding total
block_total = refl

pub coder_total : (c : CoderPart) → total (coder_fields c) ≡ 16
coder_total (part.Sample umax gamma_star gamma_zero constant table) = sample_total
coder_total (part.Block size restricted reference) = block_total

abbrev pub image_bits : Params → List Bool
image_bits p = spelled image_fields (image_numbers (image_part_of p))

abbrev pub predictor_bits : Params → List Bool
predictor_bits p = spelled predictor_fields (predictor_numbers (predictor_part_of p))

abbrev pub coder_bits : Params → List Bool
coder_bits p = spelled (coder_fields (coder_part_of p.coder)) (coder_numbers (coder_part_of p.coder))
