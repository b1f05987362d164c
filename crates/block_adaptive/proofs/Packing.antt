-- What a writer has taken, block after block.
use Rattle.std.proofs.Common.{◌≡◌, ℕ, zero, suc, ◌+◌, ◌-◌, ◌*◌, ◌^◌, ◌<◌, ◌≤◌, Bool, true, false, List, [], ◌∷◌, ◌++◌, length, take, drop, replicate, refl}
use Rattle.std.proofs.Common.{sym, ap, ◌∙◌, inl, inr, arith, append_assoc}
use Rattle.std.specs.List.{AllByRecursion}
use Rattle.std.proofs.lemmas.Bool.{cases_lt}
use Rattle.std.proofs.lemmas.List.{append-nil, length-append, length-replicate, take_at, drop_at, take_all, replicate_more}
use Rattle.block_adaptive.specs.declared.options.CodeSet.{CodeSet}
use Rattle.block_adaptive.specs.Segments.{filled, first_blocks, blocks, block_count}
use Rattle.block_adaptive.specs.DataSets.{Cut, left_at, spelling, values_of}
use Rattle.block_adaptive.specs.Chosen.{chosen_from, chosen_data_sets, chosen_block_body, is_zero}
use Rattle.block_adaptive.specs.Laws.{AreBlocks}
use Rattle.block_adaptive.specs.Settings.{IsCut}
use Rattle.block_adaptive.specs.Taken.{WriterState, HasTaken, PutsAll, EndsBody, run_and_block, data_sets_after, zeros_after, packed, data_sets_packed}
use Rattle.block_adaptive.proofs.Lawful.{rest_least, zeros_of}
use Rattle.block_adaptive.proofs.Streaming.{enough, block_next, run_next, run_to_end, none_chosen}
use Rattle.block_adaptive.proofs.Handed.{rest_most, size_least}
use Rattle.header_bits.proofs.Items.{all_append, all_replicate}
use Rattle.std.proofs.lemmas.Grind.{flat_map-append}
use Rattle.header_bits.specs.Examples.{zeros}
use Rattle.std.proofs.lemmas.Bool.Decides.{nat_tests}
use Rattle.block_adaptive.proofs.Intervals.{count_even, count_odd}

-- ---- one block more, in the chosen data sets

one_more : (n : ℕ) (z : List ℕ) (bs : List (List ℕ)) → replicate n z ++ z ∷ bs ≡ replicate (n + 1) z ++ bs
one_more n z bs = sym (append_assoc (replicate n z) (z ∷ []) bs) ∙ (λ i. (replicate_more n z) i ++ bs)

held_length : (n size : ℕ) (b : List ℕ) (bs : List (List ℕ)) → length (replicate n (zeros size) ++ b ∷ bs) ≡ n + 1 + length bs
held_length n size b bs = omega (arith, length-append (replicate n (zeros size)) (b ∷ bs), length-replicate n (zeros size))

-- what the data sets from a block on are, once another block is there
abbrev Step : Cut → ℕ → ℕ → List ℕ → List (List ℕ) → ℕ → Type 0
Step c start held b future after =
    chosen_from c c.count start (replicate held (zeros c.size) ++ b ∷ future) ≡ data_sets_after c.set (left_at c start) held b ++ chosen_from c c.count
    (start + (held + 1 - after)) (replicate after (zeros c.size) ++ future)

zero_step : (c : Cut) (start held : ℕ) (b : List ℕ) (future : List (List ℕ)) → length b ≡ c.size → start + held + 1 + length future ≡ c.count → is_zero b ≡ true
    → Step c start held b future (zeros_after (left_at c start) held b)
zero_step c start held b future len all is = search (arith, enough, length-append, length-replicate, one_more, run_to_end, zeros_of)

block_step : (c : Cut) (start held : ℕ) (b : List ℕ) (future : List (List ℕ)) → 1 ≤ c.reference → start + held + 1 + length future ≡ c.count → is_zero b ≡ false
    → (1 ≤ held → held < left_at c start) → chosen_from c c.count start (replicate held (zeros c.size) ++ b ∷ future)
    ≡ run_and_block c.set held b ++ chosen_from c c.count (start + (held + 1 - 0)) future
block_step c start zero b future pos all is inside = grind (arith, block_next, enough, rest_least)
block_step c start (suc held) b future pos all is inside = grind (arith, block_next, enough, held_length, rest_least, run_next)

pub step : (c : Cut) (start held : ℕ) (b : List ℕ) (future : List (List ℕ)) → length b ≡ c.size → 1 ≤ c.reference → start + held + 1 + length future ≡ c.count
    → (1 ≤ held → held < left_at c start) → Step c start held b future (zeros_after (left_at c start) held b)
step c start held b future len pos all inside = grind (arith, block_step, zero_step)

-- how many blocks of zeros are held is in range again
pub after_in_range : (left held : ℕ) (b : List ℕ) → held < left → (zeros_after left held b ≤ held + 1) × (1 ≤ zeros_after left held b
    → zeros_after left held b < left)
after_in_range left held b lt = (grind (arith, nat_tests), λ p. grind (arith, nat_tests))

-- where some are held, no data set ended the run
pub after_start : (c : Cut) (start held : ℕ) (b : List ℕ) → 1 ≤ zeros_after (left_at c start) held b → start + (held + 1 - zeros_after (left_at c start) held b)
    ≡ start
after_start c start held b p = grind (arith, nat_tests)

-- ---- values that are held, and one block more

pub values_taken : (v : WriterState) (taken : List ℕ) (bits : List Bool) (xs : List ℕ) → HasTaken v taken bits
    → HasTaken (record v { held = v.held ++ xs }) (taken ++ xs) bits
values_taken v taken bits xs h = grind (arith, append_assoc)

-- the blocks are those before and this one
pub block_taken : (v : WriterState) (taken told : List ℕ) (bits : List Bool) (b : List ℕ) → IsCut v.cut → v.start + v.zeros < v.cut.count
    → length b ≡ v.cut.size → AllByRecursion (λ x. x < 2 ^ v.cut.set.bits) b → (h : HasTaken v taken bits) → told ≡ values_of (h.blocks ++ b ∷ [])
    → (after : HasTaken (packed v b) told (bits ++ data_sets_packed v b)) × (after.blocks ≡ h.blocks ++ b ∷ [])
block_taken v taken told bits b cut more len range h is = (
  record {
    blocks = h.blocks ++ b ∷ [];
    whole = all_append _ h.blocks (b ∷ []) h.whole ((len, range), tt);
    numbers = is ∙ sym (append-nil _);
    position = grind (arith, length-append, rest_least);
    inside = grind (arith, rest_least);
    goes_on = grind (arith, append_assoc, length-append, step);
  },
  refl,
)

-- ---- all blocks

pub all_taken : (v : WriterState) (taken : List ℕ) (bits : List Bool) → (h : HasTaken v taken bits) → length h.blocks ≡ v.cut.count
    → bits ≡ spelling v.cut.set (chosen_from v.cut v.cut.count 0 h.blocks)
all_taken v taken bits h all =
    let none : v.zeros ≡ 0 = elim (cases_lt 0 v.zeros) [
      | inl lt ↦ absurd (omega (arith, h.inside (omega arith), rest_most v.cut v.start, h.position))
      | inr le ↦ omega arith
    ] in
    let last = h.goes_on [] (omega arith) in
    let nothing : spelling v.cut.set (chosen_from v.cut v.cut.count v.start (replicate v.zeros (zeros v.cut.size) ++ [])) ≡ [] =
    rw (none, none_chosen v.cut v.cut.count v.start) refl in
    sym ((λ i. spelling v.cut.set (chosen_from v.cut v.cut.count 0 ((sym (append-nil h.blocks)) i))) ∙ last ∙ (λ i. bits ++ nothing i) ∙ append-nil bits)

pub filled_length : (size : ℕ) (v : List ℕ) → length v ≤ size → length (filled size v) ≡ size
filled_length size v le = omega (arith, length-append v (replicate (size - length v) 0), length-replicate {A = ℕ} (size - length v) 0)

pub filled_whole : (size : ℕ) (b : List ℕ) → length b ≡ size → filled size b ≡ b
filled_whole size b len = (let e : size - length b ≡ 0 = omega arith in rw e (append-nil b))

pub first_of_blocks : (s : CodeSet) (size m : ℕ) (bs : List (List ℕ)) (rest : List ℕ) → AreBlocks s size bs
    → first_blocks size (length bs + m) (values_of bs ++ rest) ≡ bs ++ first_blocks size m rest
unfolding first_blocks
first_of_blocks s size m [] rest h = (let e : 0 + m ≡ m = omega arith in rw e refl)
first_of_blocks s size m (b ∷ bs) rest h =
    let e : suc (length bs) + m ≡ suc (length bs + m) = omega arith in
    let front : take size (b ++ (values_of bs ++ rest)) ≡ b = take_at b _ _ h.0.0 in
    let back : drop size (b ++ (values_of bs ++ rest)) ≡ values_of bs ++ rest = drop_at b _ _ h.0.0 in
    rw (e, append_assoc b _ _, front, back, filled_whole _ b h.0.0, first_of_blocks s size m bs rest h.1) refl

pub values_length : (s : CodeSet) (size : ℕ) (bs : List (List ℕ)) → AreBlocks s size bs → length (values_of bs) ≡ length bs * size
values_length s size [] h = omega arith
values_length s size (b ∷ bs) h = omega (arith, length-append b (values_of bs), h.0.0, values_length s size bs h.1)

-- ---- the cutting, and the end

-- the blocks of numbers of which whole blocks and some values more were taken
blocks_even : (s : CodeSet) (size : ℕ) (bs : List (List ℕ)) → 1 ≤ size → AreBlocks s size bs → blocks size (values_of bs ++ []) ≡ bs
unfolding blocks first_blocks
blocks_even s size bs pos h =
    let len : length (values_of bs ++ []) ≡ length bs * size = ap length (append-nil (values_of bs)) ∙ values_length s size bs h in
    let e : length bs + 0 ≡ length bs = omega arith in
    let all = first_of_blocks s size 0 bs [] h in
    rw (len, count_even size (length bs) pos) ((rw e at all) ∙ append-nil bs)

blocks_odd : (s : CodeSet) (size : ℕ) (bs : List (List ℕ)) (held : List ℕ) → 1 ≤ length held → length held ≤ size → AreBlocks s size bs
    → blocks size (values_of bs ++ held) ≡ bs ++ filled size held ∷ []
unfolding blocks first_blocks
blocks_odd s size bs held least most h = grind (arith, count_odd, first_of_blocks, length-append, take_all, values_length)

-- the chosen body of numbers whose blocks are known
body_of_blocks : (v : WriterState) (taken : List ℕ) (bs : List (List ℕ)) → block_count v.cut.size (length taken) ≡ v.cut.count → blocks v.cut.size taken ≡ bs
    → length bs ≡ v.cut.count → chosen_block_body v.cut.set v.cut.size v.cut.reference taken ≡ spelling v.cut.set (chosen_from v.cut v.cut.count 0 bs)
unfolding chosen_block_body chosen_data_sets
body_of_blocks v taken bs count is len = rw (is, count, len) refl

pub nothing_left : (v : WriterState) (written : List Bool) → IsCut v.cut → v.held ≡ [] → EndsBody v written written
nothing_left v written cut none = λ taken bits h count.
    let pos : 1 ≤ v.cut.size = omega (arith, size_least _ cut.size) in
    let numbers : taken ≡ values_of h.blocks ++ [] = h.numbers ∙ (λ i. values_of h.blocks ++ none i) in
    let all : blocks v.cut.size taken ≡ h.blocks = ap (blocks v.cut.size) numbers ∙ blocks_even v.cut.set _ h.blocks pos h.whole in
    let size : length taken ≡ length h.blocks * v.cut.size = ap length numbers ∙ ap length (append-nil (values_of h.blocks))
    ∙ values_length v.cut.set _ h.blocks h.whole in
    let len : length h.blocks ≡ v.cut.count = sym (count_even _ (length h.blocks) pos) ∙ ap (block_count v.cut.size) (sym size) ∙ count in
    ([], sym (append-nil _), append-nil bits ∙ all_taken _ taken bits h len ∙ sym (body_of_blocks v taken h.blocks count all len))

pub last_block : (v : WriterState) (written now : List Bool) → IsCut v.cut → 1 ≤ length v.held → length v.held ≤ v.cut.size → v.start + v.zeros < v.cut.count
    → AllByRecursion (λ x. x < 2 ^ v.cut.set.bits) (filled v.cut.size v.held) → now ≡ written ++ data_sets_packed v (filled v.cut.size v.held)
    → EndsBody v written now
last_block v written now cut least most more range is = λ taken bits h count.
    let c : Cut = v.cut in
    let b : List ℕ = filled c.size v.held in
    let len : length b ≡ c.size = filled_length c.size v.held most in
    let after = block_taken _ taken (values_of (h.blocks ++ b ∷ [])) bits _ cut more len range h refl in
    let all : blocks c.size taken ≡ h.blocks ++ b ∷ [] = ap (blocks c.size) h.numbers ∙ blocks_odd c.set _ h.blocks _ least most h.whole in
    let size : length taken ≡ length h.blocks * c.size + length v.held = ap length h.numbers
    ∙ omega (arith, length-append (values_of h.blocks) v.held, values_length c.set _ h.blocks h.whole) in
    let count-is : length h.blocks + 1 ≡ c.count = sym (count_odd _ (length h.blocks) _ least most) ∙ ap (block_count c.size) (sym size) ∙ count in
    let blocks-are : length (h.blocks ++ b ∷ []) ≡ c.count = length-append h.blocks _ ∙ count-is in
    let body = all_taken _ (values_of (h.blocks ++ b ∷ [])) (bits ++ data_sets_packed v b) after.0 (ap length after.1 ∙ blocks-are)
    ∙ ap (λ bs. spelling c.set (chosen_from c c.count 0 bs)) after.1 ∙ sym (body_of_blocks v taken (h.blocks ++ b ∷ []) count all blocks-are) in
    (data_sets_packed v b, is, body)

-- ---- numbers more

pub values_held : (v new : WriterState) (written : List Bool) (xs : List ℕ) → new ≡ record v { held = v.held ++ xs } → PutsAll xs v written new written
values_held v new written xs is = λ taken bits h. ([], sym (append-nil _), rw (is, append-nil bits) (values_taken _ taken bits _ h))

pub values_packed : (v new : WriterState) (written now : List Bool) (xs : List ℕ) → IsCut v.cut → v.start + v.zeros < v.cut.count
    → length (v.held ++ xs) ≡ v.cut.size → AllByRecursion (λ y. y < 2 ^ v.cut.set.bits) (v.held ++ xs) → now ≡ written ++ data_sets_packed v (v.held ++ xs)
    → new ≡ packed v (v.held ++ xs) → PutsAll xs v written new now
values_packed v new written now xs cut more len range data_sets is = λ taken bits h.
    let told : taken ++ xs ≡ values_of (h.blocks ++ (v.held ++ xs) ∷ []) = ap (λ ns. ns ++ xs) h.numbers ∙ append_assoc (values_of h.blocks) _ _
    ∙ ap (λ ns. values_of h.blocks ++ ns) (sym (append-nil _)) ∙ sym (flat_map-append _ h.blocks _) in
    (data_sets_packed v (v.held ++ xs), data_sets, rw is (block_taken _ taken (taken ++ xs) bits _ cut more len range h told).0)

-- ---- the values held

pub range_filled : (limit size : ℕ) (held : List ℕ) → 0 < limit → AllByRecursion (λ v. v < limit) held → AllByRecursion (λ v. v < limit) (filled size held)
range_filled limit size held pos h = all_append _ held (zeros (size - length held)) h (all_replicate _ (size - length held) 0 pos)
