use Rattle.std.proofs.Common.{◌≡◌, ◌+◌, ◌<◌, ◌≤◌, ◌∙◌, sym, arith, ap, drop, length, length-drop, SFits, w32, to_z-of_z, ℕ, pos, refl, slice_index_or}
use Rattle.std.proofs.lemmas.Bool.{false≢true}
use Rattle.cube_core.proofs.Words.{Sizes, sample_count, IsOrder, places, RawOrder, order_of, samples_in, HasBytesAt}
use Rattle.cube_core.proofs.Orders.{StandsAt, length-places}
use Rattle.cube_core.proofs.Raws.{next_stands, lawful_order}
use Rattle.cube_core.proofs.Written.{sample_there, length-samples_in, bytes_more}
use Rattle.cube_core.proofs.cube.Cube.first_unfit.Goals as goal
use Rattle.cube_core.proofs.cube.Cube.first_unfit.Goals.{In-Some, After-sample-sample}

count_is : (s t : Sizes) (n : ℕ) → s ≡ t → n ≡ sample_count s → n ≡ sample_count t
count_is s t n e h = rw e at h

lawful : (o : RawOrder) (s t : Sizes) (n : ℕ) → s ≡ t → n ≡ sample_count s → 1 ≤ n → IsOrder t (order_of o t)
lawful o s t n e h some = lawful_order o t (omega (arith, count_is s t n e h))

stands : (c : In-Some) → (c.loop-place.i < sample_count c.args.self.now.shape)
    × StandsAt c.args.self.now.shape (order_of c.args.layout.order c.args.self.now.shape) c.in-Some.place c.loop-place.i
    × (c.next.new.self ≡ drop (c.loop-place.i + 1) (places c.args.self.now.shape (order_of c.args.layout.order c.args.self.now.shape)))
stands c = next_stands _ (order_of c.args.layout.order c.args.self.now.shape) _ _ _ (lawful _ _ _ _ c.shape-shape.ensures c.sample_count-count.ensures.value
    c.sample_count-count.ensures.range.0) (sym c.loop-place.invariant.left ∙ c.in-Some.ensures.steps)

-- the sample is the i-th
sample_is : (c : After-sample-sample) → c.loop-place.i < sample_count c.args.self.now.shape
    → StandsAt c.args.self.now.shape (order_of c.args.layout.order c.args.self.now.shape) c.in-Some.place c.loop-place.i
    → slice_index_or (samples_in c.args.self.now c.args.layout) c.loop-place.i (pos 0) ≡ c.sample-sample.result
sample_is c lt there =
    sample_there _ _ _ _ (lawful _ _ _ _ c.shape-shape.ensures c.sample_count-count.ensures.value c.sample_count-count.ensures.range.0) lt there
    ∙ sym c.sample-sample.ensures.value

pub loop-place-init : goal.loop-place-init
loop-place-init c = record { left = simp (c.order.ensures, c.shape-shape.ensures) at c.new-places.ensures; fit = λ j lt. absurd (omega (arith, lt)) }

pub sample-sample-requires : goal.sample-sample-requires
sample-sample-requires c = (stands (goal.at.sample-sample-requires c).In-Some).1.place

pub returns-then-not-has : goal.returns-then-not-has
returns-then-not-has c =
    let d = (goal.at.returns-then-not-has c).After-sample-sample in
    let s = stands (goal.at.returns-then-not-has c).In-Some in
    let g : SFits w32 c.sample-sample.result = record { sfits = c.sample-sample.type_inv } in
    let spelled = simp (to_z-of_z g, c.in_bytes-spelled.ensures, c.kind-kind.ensures) at c.if-not-has.ensures.1 in
    record {
      there = rw (length-samples_in c.args.self.now c.args.layout
          (lawful c.args.layout.order _ _ _ c.shape-shape.ensures c.sample_count-count.ensures.value c.sample_count-count.ensures.range.0)) s.0;
      unfit = λ h. false≢true (spelled (rw (sample_is d s.0 s.1) at h));
      first = c.loop-place.invariant.fit;
    }

pub overflow_add-i : goal.overflow_add-i
overflow_add-i c =
    let s = stands (goal.at.overflow_add-i c).In-Some in
    omega (arith, s.0, count_is _ _ _ c.shape-shape.ensures c.sample_count-count.ensures.value, c.sample_count-count.ensures.range)

pub loop-place-preserved : goal.loop-place-preserved
loop-place-preserved c =
    let d = (goal.at.loop-place-preserved c).After-sample-sample in
    let s = stands (goal.at.loop-place-preserved c).In-Some in
    let g : SFits w32 c.sample-sample.result = record { sfits = c.sample-sample.type_inv } in
    let fits = simp (to_z-of_z g, c.in_bytes-spelled.ensures, c.kind-kind.ensures) at c.if-not-has.ensures.0 in
    let here : HasBytesAt c.args.self.now c.args.layout c.loop-place.i = rw (sample_is d s.0 s.1) (fits refl) in
    record { left = s.2; fit = bytes_more c.args.self.now c.args.layout c.loop-place.i here c.loop-place.invariant.fit }

pub unreachable-requires : goal.unreachable-requires
unreachable-requires c =
    let s = c.args.self.now.shape in
    let o = order_of c.args.layout.order s in
    let none : length (drop c.loop-place.i (places s o)) ≡ 0 = ap length (sym c.loop-place.invariant.left ∙ c.in_default.ensures.steps.0) in
    c.requires.some (λ j lt. c.loop-place.invariant.fit j (omega (
      arith,
      none,
      lt,
      length-drop c.loop-place.i (places s o),
      length-places s o (lawful c.args.layout.order _ _ _ c.shape-shape.ensures c.sample_count-count.ensures.value c.sample_count-count.ensures.range.0),
    )))
