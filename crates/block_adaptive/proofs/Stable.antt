-- Bits after those that were read change nothing, but for a data set that they end too early.
use Rattle.std.proofs.Common.{◌≡◌, ◌⊎◌, ◌+◌, ◌-◌, ◌*◌, ◌/◌, ◌^◌, ℕ, eqb, ltb, zero, suc, Bool, List, [], ◌∷◌, ◌++◌, Result, Ok, Err, refl, ap}
use Rattle.std.proofs.Common.{◌∙◌, inl, inr, arith}
use Rattle.cube_core.specs.declared.fault.Fault.{Fault}
use Rattle.cube_core.specs.declared.fault.Fault.TheVariants.{Truncated}
use Rattle.block_adaptive.proofs.Longer.{Goes, goes_then, goes_if, goes_guard, number_goes, zeros_goes}
use Rattle.block_adaptive.specs.declared.options.CodeSet.{CodeSet}
use Rattle.block_adaptive.specs.declared.options.Choice.{Choice}
use Rattle.block_adaptive.specs.Options.{width, greatest_value}
use Rattle.block_adaptive.specs.DataSets.{CodedDataSet}
use Rattle.block_adaptive.specs.Reading.{Site, fundamental_at, quotients_at, low_at, lows_at, split_at, words_at, pair_of, pairs_at, run_at}
use Rattle.block_adaptive.specs.Reading.{block_read, data_set_at}
use Rattle.block_adaptive.specs.Laws.{FaultIsNoDataSet}
use Rattle.block_adaptive.proofs.Again.{data_set_again}

-- ---- parts of a data set

module _ (s : Site) (more : List Bool) where
  fundamental_goes : (most : ℕ) (bits : List Bool) → Goes s.count more (fundamental_at s most bits) (fundamental_at s most (bits ++ more))
  unfolding fundamental_at
  fundamental_goes most bits = goes_then _ _ _ _ _ (zeros_goes _ _ more bits) (λ z rest. goes_guard s.count more (ltb most z) _ _ _ refl)

  quotients_goes : (most n : ℕ) (bits : List Bool) → Goes s.count more (quotients_at s most n bits) (quotients_at s most n (bits ++ more))
  unfolding quotients_at
  quotients_goes most zero bits = refl
  quotients_goes most (suc n) bits =
      goes_then _ _ _ _ _ (fundamental_goes most bits) (λ q rest. goes_then _ _ _ _ _ (quotients_goes most n rest) (λ qs last. refl))

  low_goes : (k most q : ℕ) (bits : List Bool) → Goes s.count more (low_at s k most q bits) (low_at s k most q (bits ++ more))
  unfolding low_at
  low_goes k most q bits = goes_then _ _ _ _ _ (number_goes _ _ more bits) (λ low rest. goes_guard s.count more (ltb most (q * 2 ^ k + low)) _ _ _ refl)

  lows_goes : (k most : ℕ) (qs : List ℕ) (bits : List Bool) → Goes s.count more (lows_at s k most qs bits) (lows_at s k most qs (bits ++ more))
  unfolding lows_at
  lows_goes k most [] bits = refl
  lows_goes k most (q ∷ qs) bits = goes_then _ _ _ _ _ (low_goes k most q bits) (λ v rest. goes_then _ _ _ _ _ (lows_goes k most qs rest) (λ vs last. refl))

  split_goes : (k most n : ℕ) (bits : List Bool) → Goes s.count more (split_at s k most n bits) (split_at s k most n (bits ++ more))
  unfolding split_at
  split_goes k most n bits = goes_then _ _ _ _ _ (quotients_goes (most / 2 ^ k) n bits) (λ qs rest. lows_goes k most qs rest)

  words_goes : (depth n : ℕ) (bits : List Bool) → Goes s.count more (words_at s.count depth n bits) (words_at s.count depth n (bits ++ more))
  unfolding words_at
  words_goes depth zero bits = refl
  words_goes depth (suc n) bits = goes_then _ _ _ _ _ (number_goes _ _ more bits) (λ v rest. goes_then _ _ _ _ _ (words_goes depth n rest) (λ vs last. refl))

  pair_goes : (most m : ℕ) (rest : List Bool) → Goes s.count more (pair_of s most m rest) (pair_of s most m (rest ++ more))
  unfolding pair_of
  pair_goes most m rest = grind arith

  pairs_goes : (most n : ℕ) (bits : List Bool) → Goes s.count more (pairs_at s most n bits) (pairs_at s most n (bits ++ more))
  unfolding pairs_at
  pairs_goes most zero bits = refl
  pairs_goes most (suc n) bits =
      goes_then _ _ _ _ _ (fundamental_goes _ bits) (λ m rest. goes_then _ _ _ _ _ (pair_goes most m rest)
      (λ p later. goes_then _ _ _ _ _ (pairs_goes most n later) (λ vs last. refl)))

  -- ---- a data set

  run_goes : (left : ℕ) (bits : List Bool) → Goes s.count more (run_at s left bits) (run_at s left (bits ++ more))
  unfolding run_at
  run_goes left bits = grind (arith, goes_then, zeros_goes)

  block_goes : (o : Choice) (r t : Result (List ℕ × List Bool) Fault) → Goes s.count more r t → Goes s.count more (block_read o r) (block_read o t)
  block_goes o r t h = goes_then _ _ _ _ _ h (λ vs rest. refl)

  data_set_goes : (set : CodeSet) (size left : ℕ) (bits : List Bool)
      → Goes s.count more (data_set_at s set size left bits) (data_set_at s set size left (bits ++ more))
  unfolding data_set_at
  data_set_goes set size left bits =
      goes_then _ _ _ _ _ (number_goes _ _ more bits) (λ n rest. goes_if s.count more (eqb n 0) _ _ _ _ (goes_then _ _ _ _ _ (number_goes _ 1 more rest)
      (λ k later. goes_if s.count more (eqb k 0) _ _ _ _ (run_goes left later) (block_goes _ _ _ (pairs_goes (greatest_value set) (size / 2) later))))
      (goes_if s.count more (eqb n (2 ^ width set - 1)) _ _ _ _ (block_goes _ _ _ (words_goes set.bits size rest))
      (block_goes _ _ _ (split_goes _ (greatest_value set) size rest))))

-- ---- what is refused is no data set

no_data_set : {X : Type 0} {e : Fault} {x : X} (r : Result X Fault) → r ≡ Err e → r ≡ Ok x → ⊥
no_data_set r a b = absurd cc

pub fault_is_no_data_set : FaultIsNoDataSet
fault_is_no_data_set site s half left e bits bad = (
  λ ended t rest lawful begins. no_data_set _ bad (ap (data_set_at site s (2 * half) left) begins ∙ data_set_again site s half left t rest lawful),
  λ other more t rest lawful begins. by_later more other (rw bad at (data_set_goes site more s (2 * half) left bits))
      (ap (data_set_at site s (2 * half) left) begins ∙ data_set_again site s half left t rest lawful),
)
  where
    by_later : {t : CodedDataSet} {rest : List Bool} (more : List Bool) → (e ≡ Truncated site.count → ⊥)
        → (e ≡ Truncated site.count) ⊎ (data_set_at site s (2 * half) left (bits ++ more) ≡ Err e) → data_set_at site s (2 * half) left (bits ++ more)
        ≡ Ok (t, rest) → ⊥
    by_later more other (inl h) again = other h
    by_later more other (inr h) again = no_data_set _ h again
