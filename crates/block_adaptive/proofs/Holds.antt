-- What a writer has taken, several numbers at a time.
use Rattle.std.proofs.Common.{◌≡◌, ℕ, ◌+◌, ◌-◌, ◌^◌, ◌<◌, ◌≤◌, Bool, List, ◌++◌, length, take, drop, get_or, sum, refl, ◌∙◌, arith, append_assoc}
use Rattle.std.proofs.Common.{[], ◌∷◌}
use Rattle.std.specs.List.{AllByRecursion}
use Rattle.std.specs.Prelude.{Result, Ok, Err, OnErr}
use Rattle.std.proofs.Math.Seq.{take-add}
use Rattle.std.proofs.lemmas.List.{length-append, length-take, length-drop, take_more, take-take}
use Rattle.cube_core.specs.declared.fault.Fault.{Fault}
use Rattle.block_adaptive.specs.DataSets.{Cut}
use Rattle.block_adaptive.specs.Holding.{AreStored}
use Rattle.block_adaptive.specs.Taken.{WriterState, HasTaken, PutsResidual, PutsAll, taken_count}
use Rattle.block_adaptive.proofs.Packing.{values_held}
use Rattle.header_bits.proofs.Items.{all_append}
use Rattle.block_adaptive.proofs.ListSums.{sum_append}

-- ---- the values held

pub stored_more : (c : Cut) (i counted total : ℕ) (held list : List ℕ) → AreStored c i counted total held → AllByRecursion (λ v. v < 2 ^ c.set.bits) list
    → length held + length list < c.size → (1 ≤ length list → i + counted < c.count) → AreStored c i counted (total + sum list) (held ++ list)
stored_more c i counted total held list h range few more = grind (arith, all_append, length-append, sum_append)

-- ---- what was taken

-- the numbers of a list were put
pub record Puts (list : List ℕ) (old : WriterState) (written : List Bool) (new : WriterState) (now : List Bool) : Type 0 where
  pub puts : PutsAll list old written new now

module _ {old v new : WriterState} {written now later : List Bool} where
  puts_after : {a : List ℕ} (b : List ℕ) → Puts a old written v now → PutsAll b v now new later → Puts (a ++ b) old written new later
  puts_after {a} b first second = record {
    puts = λ taken bits h.
        let one = first.puts taken bits h in
        let two = second (taken ++ a) (bits ++ one.0) one.2 in
        let has : HasTaken new (taken ++ (a ++ b)) (bits ++ (one.0 ++ two.0)) = rw (← append_assoc taken a b, ← append_assoc bits one.0 two.0) two.2 in
        (one.0 ++ two.0, two.1 ∙ (λ i. one.1 i ++ two.0) ∙ append_assoc written one.0 two.0, has);
  }

  -- a block's numbers, or the first of them
  pub block_more : (list : List ℕ) (first size count : ℕ) → count ≤ size → Puts (take first list) old written v now
      → PutsAll (take count (take (first + size - first) (drop first list))) v now new later → Puts (take (first + count) list) old written new later
  block_more list first size count le h more =
      let e : first + size - first ≡ size = omega arith in
      rw (take-add first count list) (puts_after _ h (rw (e, take-take count size (drop first list) le) at more))

  pub number_more : (list : List ℕ) (n : ℕ) → Puts (take n list) old written v now → n < length list → PutsResidual (get_or list n 0) v now new later
      → Puts (take (n + 1) list) old written new later
  number_more list n h lt number = rw (take_more list n 0 lt) (puts_after (get_or list n 0 ∷ []) h number)

module _ {old v new : WriterState} {written now : List Bool} where
  pub hold_more : (list : List ℕ) (first count : ℕ) → Puts (take first list) old written v now
      → new ≡ record v { held = v.held ++ take (first + count - first) (drop first list) } → Puts (take (first + count) list) old written new now
  hold_more list first count h is =
      let e : first + count - first ≡ count = omega arith in
      let here = values_held v new now (take count (drop first list)) (is ∙ (λ i. record v { held = v.held ++ take (e i) (drop first list) })) in
      rw (take-add first count list) (puts_after _ h here)

-- a refused call leaves what it left before
module _ {old v : WriterState} {list : List ℕ} {written now : List Bool} where
  pub after_refusal : (r : Result (Unit {0}) Fault) (new : WriterState) (later : List Bool) → ((x : Unit {0}) → r ≡ Ok x → ⊥) → OnErr r ((new ≡ v) × (later ≡ now))
      → Puts list old written v now → PutsAll list old written new later
  after_refusal (Ok x) new later never same h = absurd (never x refl)
  after_refusal (Err e) new later never same h = rw (same.0, same.1) h.puts

pub held_counted : (v new : WriterState) (list : List ℕ) (first count : ℕ) → first + count ≤ length list
    → new ≡ record v { held = v.held ++ take (first + count - first) (drop first list) } → taken_count new ≡ taken_count v + count
held_counted v new list first count le is = grind (arith, length-append, length-drop, length-take)
