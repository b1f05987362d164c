use Rattle.std.proofs.Common.{◌≡◌, ◌+◌, ◌*◌, ◌<◌, ◌≤◌, ◌^◌, ℕ, length, arith, refl, Fits, w64}
use Rattle.std.proofs.lemmas.Bool.{false≢true}
use Rattle.std.proofs.lemmas.List.{with_items_is}
use Rattle.std.specs.Vec.{with_items}
use Rattle.cube_core.proofs.Words.{sample_count, unit_of}
use Rattle.cube_core.proofs.PartBytes.{part_read, part_fits, part_samples_are, part_within}
use Rattle.cube_core.proofs.RawBytes.{is_cube}
use Rattle.cube_core.proofs.cube.Cube.read_part.Goals as goal
use Rattle.cube_core.proofs.cube.Cube.read_part.Goals.{After-read_part}

within : (c : After-read_part) → c.args.part.first * unit_of c.args.layout.order c.self.inside.shape
    + c.args.part.count * unit_of c.args.layout.order c.self.inside.shape ≤ sample_count c.self.inside.shape
within c = part_within c.args.layout.order c.self.inside.shape c.args.part.first c.args.part.count (rw (← c.self.view_is) at c.requires.part)

some : (c : After-read_part) → 0 < sample_count c.self.inside.shape
some c = omega (arith, c.sample_count-count.ensures.value, c.sample_count-count.ensures.range)

full : (c : After-read_part) → length c.read_part.new.offsets ≡ sample_count c.self.inside.shape
full c = omega (arith, c.read_part.auto.offsets, c.deref_mut.ensures.len, c.self.invariant.whole)

items : (c : After-read_part) → (with_items c.self.inside.offsets c.read_part.new.offsets).items ≡ c.read_part.new.offsets
items c = with_items_is c.self.inside.offsets c.read_part.new.offsets (omega (arith, c.read_part.auto.offsets, c.deref_mut.ensures.len))

few : (c : After-read_part) → sample_count c.self.inside.shape ≤ 2 ^ 48
few c = rw c.sample_count-count.ensures.value at c.sample_count-count.ensures.range.1

before_fits : (a b n : ℕ) → a + b ≤ n → n ≤ 2 ^ 48 → Fits w64 a
before_fits a b n h few = omega arith

samples_few : (a b n : ℕ) → a + b ≤ n → n ≤ 2 ^ 48 → b ≤ 2 ^ 48
samples_few a b n h few = omega arith

index_fits : (a b n i : ℕ) → a + b ≤ n → i < b → n ≤ 2 ^ 48 → Fits w64 (a + i)
index_fits a b n i h lt few = omega arith

pub overflow_mul-result : goal.overflow_mul-result
overflow_mul-result c =
    let d = (goal.at.overflow_mul-result c).After-read_part in
    rw c.unit-unit.ensures.value (before_fits _ _ _ (within d) (few d))

pub overflow_mul-part : goal.overflow_mul-part
overflow_mul-part c =
    let d = (goal.at.overflow_mul-part c).After-read_part in
    rw c.unit-unit.ensures.value (fits (samples_few _ _ _ (within d) (few d)))
  where
    fits : {n : ℕ} → n ≤ 2 ^ 48 → Fits w64 n
    fits h = omega arith

pub first_bad-requires-clause-few : goal.first_bad-requires-clause-few
first_bad-requires-clause-few c =
    let d = (goal.at.first_bad-requires-clause-few c).After-read_part in
    rw c.unit-unit.ensures.value (samples_few _ _ _ (within d) (few d))

pub first_bad-requires-clause-some : goal.first_bad-requires-clause-some
first_bad-requires-clause-some c = λ all. false≢true (c.if-read_part.ensures.good (rw c.unit-unit.ensures.value at all))

pub overflow_add-result : goal.overflow_add-result
overflow_add-result c =
    let d = (goal.at.overflow_add-result c).After-read_part in
    rw c.unit-unit.ensures.value (index_fits _ _ _ _ (within d) (rw c.unit-unit.ensures.value at c.first_bad.ensures.within) (few d))

pub invariant_of-result : goal.invariant_of-result
invariant_of-result c =
    let d = (goal.at.invariant_of-result c).After-read_part in
    rw (items d) (c.if-read_part.ensures.offsets refl)

pub returns-then-read_part-clause-read : goal.returns-then-read_part-clause-read
returns-then-read_part-clause-read c =
    let d = (goal.at.returns-then-read_part-clause-read c).After-read_part in
    rw (items d, ← c.self.view_is) (part_read c.self.inside.shape c.self.inside.kind c.args.layout _ _ c.args.bytes.now c.self.inside.offsets.items
    c.read_part.new.offsets c.requires.layout (some d) (within d) (rw (← c.self.view_is) at c.requires.whole) (λ i. omega (arith, c.type_inv.bytes i))
    c.self.invariant.whole (full d) (rw c.deref_mut.ensures.value at (c.if-read_part.ensures.filled refl)))

pub returns-then-read_part-clause-fits : goal.returns-then-read_part-clause-fits
returns-then-read_part-clause-fits c =
    let d = (goal.at.returns-then-read_part-clause-fits c).After-read_part in
    rw (items d, ← c.self.view_is) (part_fits c.self.inside.shape c.self.inside.kind c.args.layout _ _ c.args.bytes.now c.self.inside.offsets.items
    c.read_part.new.offsets c.requires.layout (some d) (within d) (λ i. omega (arith, c.type_inv.bytes i))
    c.self.invariant.whole (full d) (rw c.deref_mut.ensures.value at (c.if-read_part.ensures.filled refl)))

pub returns-then-read_part-clause-whole : goal.returns-then-read_part-clause-whole
returns-then-read_part-clause-whole c =
    let d = (goal.at.returns-then-read_part-clause-whole c).After-read_part in
    rw (items d) (is_cube _ _ _ c.sample_count-count.ensures.sizes (rw c.bits-bits.ensures.value at c.bits-bits.ensures.range)
    (c.if-read_part.ensures.offsets refl))

pub returns-then-read_part-clause-samples : goal.returns-then-read_part-clause-samples
returns-then-read_part-clause-samples c =
    let d = (goal.at.returns-then-read_part-clause-samples c).After-read_part in
    rw (← c.self.view_is) (part_samples_are c.self.inside.shape c.self.inside.kind c.args.layout _ _ c.args.bytes.now _ c.read_part.new.offsets
    (rw c.bits-bits.ensures.value at c.bits-bits.ensures.range) (some d) (within d) (c.if-read_part.ensures.filled refl))
