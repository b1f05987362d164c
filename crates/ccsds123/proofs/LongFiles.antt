-- No file is longer than the bound of its parameters' numbers.
use Rattle.std.proofs.Common.{◌≡◌, ◌+◌, ◌-◌, ◌*◌, ◌/◌, ◌%◌, ◌≤◌, ℕ, zero, suc, Bool, true, false, cond, eqb, ◌&&◌, min, List, ◌++◌, length, drop, replicate}
use Rattle.std.proofs.Common.{ℤ, refl, ap, ◌∙◌, length-append, arith}
use Rattle.std.proofs.lemmas.List.{length-replicate}
use Rattle.std.proofs.lemmas.Nat.{mod_below}
use Rattle.std.proofs.Math.Nat.{mul-le-mul}
use Rattle.cube_core.specs.Image.{Image}
use Rattle.cube_core.specs.Shape.{sample_count}
use Rattle.header_bits.specs.declared.params.Params.{Params}
use Rattle.header_bits.specs.declared.params.Coder.TheVariants.{Sample, Block}
use Rattle.header_bits.specs.Lawful.{IsLawful, IsWeightStart, IsCountStart}
use Rattle.header_bits.specs.Header.{header_of, weight_bits, constant_bits}
use Rattle.header_bits.specs.TableParts.{weight_count, fill_of}
use Rattle.header_bits.proofs.HeaderTexts.{header_length, weights_length, constants_length}
use Rattle.header_bits.proofs.TableNumbers.{total_table}
use Rattle.predict_core.specs.Cubes.{IsCubeOf}
use Rattle.sample_prediction.specs.Residual.{residuals}
use Rattle.cube_core.specs.Order.{places}
use Rattle.file_encoding.proofs.Owning.{length-residuals}
use Rattle.sample_adaptive.specs.Settings.{settings}
use Rattle.block_adaptive.specs.declared.options.CodeSet.{CodeSet}
use Rattle.file_format.specs.File.{body_by, body_of, fill_length, filled, packed_from, packed, file_bits, file_of_residuals, file_of}
use Rattle.ccsds123.specs.declared.records.ParamsRecord.{ParamsRecord}
use Rattle.ccsds123.specs.Asked.{is_set, shape_of, start_by, count_by, params_of}
use Rattle.ccsds123.specs.Bound.{most_header, most_sample_body, most_block_body, most_bytes, NoLongerFile}
use Rattle.ccsds123.proofs.LongSamples.{sample_body_short}
use Rattle.ccsds123.proofs.LongBlocks.{block_body_short}

-- ---- the header

weights_few : (previous : ℕ) (reduced : Bool) (bands : ℕ) → previous ≤ 15 → weight_count previous reduced bands ≤ bands * 18
unfolding weight_count
weights_few previous reduced zero few = omega arith
weights_few previous true (suc z) few = omega (arith, weights_few previous true z few)
weights_few previous false (suc z) few = omega (arith, weights_few previous false z few)

fill_few : (bits : ℕ) → fill_of bits ≤ 7
fill_few bits = omega arith

weights_short : (p : Params) (set : Bool) (q : ℕ) (values : List ℤ) → p.previous ≤ 15 → p.omega ≤ 19 → IsWeightStart p (start_by set q values)
    → length (weight_bits (start_by set q values)) ≤ cond set (p.shape.bands * 396 + 7) 0
weights_short p false q values previous few lawful = omega arith
weights_short p true q values previous few lawful =
    let n : ℕ = length values in
    let many : n ≤ p.shape.bands * 18 = omega (arith, lawful.1, weights_few p.previous p.reduced p.shape.bands previous) in
    let wide : n * q ≤ p.shape.bands * 18 * 22 = mul-le-mul many (omega (arith, lawful.0.1)) in
    omega (arith, wide, weights_length q values, total_table n q, fill_few (n * q))

each_short : (p : Params) (set : Bool) (k : ℕ) (values : List ℕ) (umax gamma_star gamma_zero : ℕ) → IsCountStart p (count_by set k values)
    → length (constant_bits (Sample umax gamma_star gamma_zero (count_by set k values))) ≤ cond set (p.shape.bands * 4 + 7) 0
each_short p false k values umax gamma_star gamma_zero lawful = omega arith
each_short p true k values umax gamma_star gamma_zero lawful =
    omega (arith, lawful.0, constants_length umax gamma_star gamma_zero values, total_table (length values) 4, fill_few (length values * 4))

-- ---- the file

packed_length : (n : ℕ) (bits : List Bool) → length (packed_from n bits) ≡ n
unfolding packed_from
packed_length zero bits = refl
packed_length (suc n) bits = omega (arith, packed_length n (drop 8 bits))

filled_short : (word : ℕ) (bits : List Bool) → 1 ≤ word → word ≤ 8 → length (filled word bits) ≤ length bits + 63
filled_short word bits some few =
    omega (
      arith,
      length-append bits (replicate (fill_length word (length bits)) false),
      length-replicate (fill_length word (length bits)) false,
      mod_below (8 * word - length bits % (8 * word)) (8 * word) (omega arith),
    )

file_short : (numbers : List ℕ) (p : Params) (most : ℕ) → 1 ≤ p.word → p.word ≤ 8 → length (header_of p) + length (body_of p numbers) ≤ most
    → length (file_of_residuals numbers p) ≤ most / 8 + 8
unfolding file_of_residuals file_bits packed
file_short numbers p most some few short =
    let bits : List Bool = header_of p ++ body_of p numbers in
    omega (
      arith,
      short,
      length-append (header_of p) (body_of p numbers),
      filled_short p.word bits some few,
      packed_length (length (filled p.word bits) / 8) (filled p.word bits),
    )

-- ---- parameters of a record

-- the parameters of a record whose coder is the sample-adaptive one, or the block-adaptive one
coded : ParamsRecord → List ℤ → List ℕ → Bool → Params
coded r weights accumulators first = record (params_of r weights accumulators) {
  coder =
      cond first (Sample r.umax r.gamma_star r.gamma_zero (count_by (is_set r.accumulator_table) r.k accumulators))
      (Block r.block (is_set r.restricted) r.reference);
}

-- the bits of the header and of the body
most_head : ParamsRecord → Bool → ℕ
most_head r table = 152 + cond (is_set r.weight_table) (r.bands * 396 + 7) 0 + cond table (r.bands * 4 + 7) 0

count_of : (r : ParamsRecord) (weights : List ℤ) (accumulators : List ℕ) (first : Bool) (c : Image) → IsLawful (coded r weights accumulators first)
    → IsCubeOf (coded r weights accumulators first) c → length (residuals (coded r weights accumulators first) c) ≡ sample_count (shape_of r)
unfolding coded
count_of r weights accumulators first c lawful cube =
    length-residuals (coded r weights accumulators first) c (rw cube.shape lawful.order) ∙ ap sample_count cube.shape

by_samples : (r : ParamsRecord) (weights : List ℤ) (accumulators : List ℕ) (c : Image) → IsLawful (coded r weights accumulators true)
    → IsCubeOf (coded r weights accumulators true) c → length (file_of c (coded r weights accumulators true))
    ≤ (most_head r (is_set r.accumulator_table) + sample_count (shape_of r) * (min r.umax 32 + r.bits)) / 8 + 8
unfolding coded file_of body_of most_head
by_samples r weights accumulators c lawful cube =
    let p : Params = coded r weights accumulators true in
    let numbers : List ℕ = residuals p c in
    let n : length numbers ≡ sample_count (shape_of r) = count_of r weights accumulators true c lawful cube in
    let head = header_length p lawful in
    let first = weights_short p (is_set r.weight_table) r.weight_bits weights lawful.previous lawful.omega.1 lawful.start in
    let second = each_short p (is_set r.accumulator_table) r.k accumulators r.umax r.gamma_star r.gamma_zero lawful.coder.4 in
    let wide : r.umax + r.bits ≡ min r.umax 32 + r.bits = omega (arith, lawful.coder.0.1) in
    let long : length (body_by p.coder p numbers) ≤ length numbers * (r.umax + r.bits) = sample_body_short (settings p) (places p.shape p.order) numbers in
    let whole : length numbers * (r.umax + r.bits) ≡ sample_count (shape_of r) * (min r.umax 32 + r.bits) =
    ap (λ (x : ℕ). x * (r.umax + r.bits)) n ∙ ap (λ (x : ℕ). sample_count (shape_of r) * x) wide in
    file_short numbers p _ lawful.word.0 lawful.word.1 (omega (arith, head, first, second, long, whole))

by_blocks : (r : ParamsRecord) (weights : List ℤ) (accumulators : List ℕ) (c : Image) → IsLawful (coded r weights accumulators false)
    → IsCubeOf (coded r weights accumulators false) c → length (file_of c (coded r weights accumulators false))
    ≤ (most_head r false + (sample_count (shape_of r) * r.bits + 63 * 16 + (sample_count (shape_of r) / 8 + 1) * 6)) / 8 + 8
unfolding coded file_of body_of most_head
by_blocks r weights accumulators c lawful cube =
    let p : Params = coded r weights accumulators false in
    let numbers : List ℕ = residuals p c in
    let n : length numbers ≡ sample_count (shape_of r) = count_of r weights accumulators false c lawful cube in
    let head = header_length p lawful in
    let first = weights_short p (is_set r.weight_table) r.weight_bits weights lawful.previous lawful.omega.1 lawful.start in
    let set : CodeSet = record { bits = r.bits; restricted = is_set r.restricted } in
    let long : length (body_by p.coder p numbers) ≤ length numbers * r.bits + 63 * 16 + (length numbers / 8 + 1) * 6 =
    block_body_short set r.block r.reference numbers lawful.coder.0 (omega (arith, lawful.kind.0)) lawful.kind.1 in
    let whole : length numbers * r.bits ≡ sample_count (shape_of r) * r.bits = ap (λ (x : ℕ). x * r.bits) n in
    let parts : length numbers / 8 ≡ sample_count (shape_of r) / 8 = ap (λ (x : ℕ). x / 8) n in
    file_short numbers p _ lawful.word.0 lawful.word.1 (omega (arith, head, first, long, whole, parts))

pub no_longer_file : NoLongerFile
unfolding most_bytes most_header most_sample_body most_block_body most_head coded
no_longer_file r weights accumulators c lawful cube = go (eqb r.coder 0) lawful cube
  where
    go : (first : Bool) → IsLawful (coded r weights accumulators first) → IsCubeOf (coded r weights accumulators first) c
        → length (file_of c (coded r weights accumulators first))
        ≤ (152 + cond (is_set r.weight_table) (r.bands * 396 + 7) 0 + cond (first && is_set r.accumulator_table) (r.bands * 4 + 7) 0
        + cond first (sample_count (shape_of r) * (min r.umax 32 + r.bits))
        (sample_count (shape_of r) * r.bits + 63 * 16 + (sample_count (shape_of r) / 8 + 1) * 6)) / 8 + 8
    go true some whole = by_samples r weights accumulators c some whole
    go false some whole = by_blocks r weights accumulators c some whole
