-- Exactly the bodies of numbers are read.
use Rattle.std.proofs.Common.{◌≡◌, ℕ, ◌*◌, ◌/◌, ◌^◌, ◌<◌, ◌≤◌, Bool, List, length, take, Result, Ok, Err, refl, sym, arith}
use Rattle.std.specs.List.{AllByRecursion}
use Rattle.std.proofs.lemmas.List.{length-take}
use Rattle.cube_core.specs.declared.fault.Fault.{Fault}
use Rattle.cube_core.specs.Steps.{◌>>=◌}
use Rattle.header_bits.specs.Reading.{Reading}
use Rattle.header_bits.specs.Parts.{as_at, SpellsAs, IsExact}
use Rattle.header_bits.proofs.Exact.{as_exact}
use Rattle.header_bits.proofs.Items.{all_take}
use Rattle.block_adaptive.specs.declared.options.CodeSet.{CodeSet}
use Rattle.block_adaptive.specs.Settings.{IsSize}
use Rattle.block_adaptive.specs.DataSets.{CodedDataSet, Cut, cut_of, AreCodedDataSets, blocks_told, values_of, spelling, IsBlockBody}
use Rattle.block_adaptive.specs.Reading.{block_body_at}
use Rattle.block_adaptive.proofs.Bodies.{data_sets_few, data_sets_again, data_sets_taken, blocks_enough}
use Rattle.block_adaptive.proofs.Calls.{told_length}
use Rattle.block_adaptive.proofs.Handed.{size_least, size_halved}
use Rattle.block_adaptive.proofs.Runs.{told_range}

-- so many numbers, each in range, and a body of them
abbrev pub IsBodyOf : CodeSet → ℕ → ℕ → ℕ → List ℕ → List Bool → Type 0
IsBodyOf s size reference n numbers bits =
    (length numbers ≡ n) × AllByRecursion (λ v. v < 2 ^ s.bits) numbers × IsBlockBody s size reference numbers bits

-- the numbers that the data sets of n numbers tell
abbrev pub numbers_of : CodeSet → ℕ → ℕ → ℕ → List CodedDataSet → List ℕ
numbers_of s size reference n data_sets = take n (values_of (blocks_told (cut_of s size reference n) 0 data_sets))

-- the numbers of a body
abbrev pub numbers_at : ℕ → CodeSet → ℕ → ℕ → ℕ → Reading (List ℕ)
numbers_at count s size reference n = as_at (numbers_of s size reference n) (block_body_at count s size reference n)

-- the same bits are left after them
pub same_left : (count : ℕ) (s : CodeSet) (size reference n : ℕ) (bits : List Bool) → (block_body_at count s size reference n bits >>= λ read. Ok read.1)
    ≡ (numbers_at count s size reference n bits >>= λ read. Ok read.1)
unfolding as_at
same_left count s size reference n bits = by_read (block_body_at count s size reference n bits)
  where
    by_read : (r : Result (List CodedDataSet × List Bool) Fault) → (r >>= λ read. Ok read.1)
        ≡ (◌>>=◌ {B = List ℕ × List Bool} r (λ read. Ok (numbers_of s size reference n read.0, read.1)) >>= λ read. Ok read.1)
    by_read (Ok x) = refl
    by_read (Err e) = refl

module _ (count : ℕ) (s : CodeSet) (size reference n : ℕ) (sized : IsSize size) (least : 1 ≤ reference) where
  abbrev cut : Cut
  cut = cut_of s size reference n

  abbrev AreSpelled : List CodedDataSet → List Bool → Type 0
  AreSpelled data_sets bits = AreCodedDataSets cut 0 data_sets cut.count × (bits ≡ spelling s data_sets)

  even : size ≡ 2 * (size / 2)
  even = sym (size_halved size sized)

  data_sets_exact : IsExact (block_body_at count s size reference n) AreSpelled
  unfolding block_body_at
  data_sets_exact = record {
    again = λ ts bits rest h. rw h.1 (data_sets_again count (size / 2) _ 0 cut ts rest even (omega (arith, data_sets_few _ _ _ ts h.0)) h.0);
    found = λ ts bits rest e.
        let read = data_sets_taken count (size / 2) _ 0 cut bits (ts, rest) even least (omega arith) (omega arith) e in
        (spelling s ts, (read.0, refl), read.1);
  }

  told_exact : IsExact (numbers_at count s size reference n) (SpellsAs (numbers_of s size reference n) AreSpelled)
  told_exact = as_exact (numbers_of s size reference n) (block_body_at count s size reference n) AreSpelled data_sets_exact

  pub body_exact : IsExact (numbers_at count s size reference n) (IsBodyOf s size reference n)
  body_exact = record {
    again = λ ns bits rest h.
        told_exact.again ns bits rest (record { from = h.2.data_sets; same = rw h.0 at h.2.told; spells = (rw h.0 at h.2.lawful, h.2.text) });
    found = λ ns bits rest e.
        let read = told_exact.found ns bits rest e in
        let k = read.1 in
        let told = told_length cut 0 cut.count k.from k.spells.0 in
        let values : List ℕ = values_of (blocks_told cut 0 k.from) in
        let long : length ns ≡ n =
        rw (← k.same) (omega (arith, told, blocks_enough size n (omega (arith, size_least size sized)), length-take n values)) in
        let range : AllByRecursion (λ v. v < 2 ^ s.bits) ns = rw (← k.same) (all_take _ n values (told_range cut 0 cut.count k.from k.spells.0)) in
        (read.0, (long, range, record { data_sets = k.from; lawful = rw long k.spells.0; text = k.spells.1; told = rw long k.same }), read.2);
  }
