-- Lines of eight lanes as rows, where those before number `least` are without meaning.
use Rattle.std.proofs.Common.{◌≡◌, ◌∙◌, ◌+◌, ◌-◌, ◌<◌, ◌≤◌, ℕ, ℤ, pos, ◌-ℤ◌, ◌*ℤ◌, Bool, true, false, if◌then◌else◌, nat_lt, List, [], map, get_or, refl, sym, ap, inl, inr}
use Rattle.std.proofs.Common.{arith}
use Rattle.std.specs.List.{range_with_len}
use Rattle.std.proofs.lemmas.Bool.{cases_lt}
use Rattle.std.proofs.lemmas.Bool.Decides.{nat_tests}
use Rattle.std.proofs.lemmas.List.FromFn.{get_or-map-range_with_len}
use Rattle.cube_core.specs.Image.{Image}
use Rattle.lanes.specs.Lanes.{place}
use Rattle.wave_inversion.specs.Wave.{sum_at, sum_by}
use Rattle.wave_inversion.specs.WaveRows.{AreLinesOf, AreRowsOf}

-- the number of lane b in row i, with zeros in the lanes before number `least`
number_in : (ℕ → ℕ → ℤ) → ℕ → ℕ → ℕ → ℤ
number_in number least i b = if nat_lt b least then pos 0 else number b i

row_in : (ℕ → ℕ → ℤ) → ℕ → ℕ → List ℤ
row_in number least i = map (number_in number least i) (range_with_len 0 8)

-- lines as rows
pub turned : (ℕ → ℕ → ℤ) → ℕ → List (List ℤ)
turned number least = map (row_in number least) (range_with_len 0 64)

turned_at : (number : ℕ → ℕ → ℤ) (least i b : ℕ) → i < 64 → b < 8 → place (turned number least) i b ≡ number_in number least i b
unfolding row_in number_in turned
turned_at number least i b h m =
    ap (λ (row : List ℤ). get_or row b (pos 0)) (get_or-map-range_with_len (row_in number least) 0 64 i i [] h (omega arith))
    ∙ get_or-map-range_with_len (number_in number least i) 0 8 b b (pos 0) m (omega arith)

turned_before : (number : ℕ → ℕ → ℤ) (least i b : ℕ) → i < 64 → b < 8 → b < least → place (turned number least) i b ≡ pos 0
unfolding number_in
turned_before number least i b h m l = turned_at number least i b h m ∙ test b least (pos 0) (number b i) l
  where
    test : (n k : ℕ) (a b : ℤ) → n < k → (if nat_lt n k then a else b) ≡ a
    test n k a b l = grind (arith, nat_tests, l)

turned_from : (number : ℕ → ℕ → ℤ) (least i b : ℕ) → i < 64 → b < 8 → least ≤ b → place (turned number least) i b ≡ number b i
unfolding number_in
turned_from number least i b h m l = turned_at number least i b h m ∙ test b least (pos 0) (number b i) l
  where
    test : (n k : ℕ) (a b : ℤ) → k ≤ n → (if nat_lt n k then a else b) ≡ b
    test n k a b l = grind (arith, nat_tests, l)

pub rows_of_lines : {c : Image} {first below least y origin : ℕ} (number : ℕ → ℕ → ℤ) → AreLinesOf c first below least y origin number
    → AreRowsOf c first below least y origin (turned number least)
rows_of_lines {least = least} number a = record {
  numbers = λ i b h m used some inside left right. turned_from number least i b h m used ∙ a.numbers b i m h used some inside left right;
  none = λ i b h m used out. turned_from number least i b h m used ∙ a.none b i m h used out;
}

nothing : (r : Bool) → pos 4 *ℤ pos 0 -ℤ sum_by r (pos 0) (pos 0) (pos 0) (pos 0) ≡ pos 0
nothing true = refl
nothing false = refl

-- central differences of lines are those of the rows
pub centrals_of_lines : (column : Bool) (numbers above : ℕ → ℕ → ℤ) (lower : List (List ℤ)) (least : ℕ)
    → ((b i : ℕ) → b < 8 → least ≤ b → 1 ≤ i → i < 63
    → place lower i b ≡ pos 4 *ℤ numbers b i -ℤ sum_by column (numbers b (i - 1)) (above b (i - 1)) (above b i) (above b (i + 1)))
    → ((b i : ℕ) → b < 8 → i < 64 → b < least → place lower i b ≡ pos 0)
    → (i b : ℕ) → 1 ≤ i → i < 63 → b < 8
    → place lower i b ≡ pos 4 *ℤ place (turned numbers least) i b -ℤ sum_at column (turned numbers least) (turned above least) i b
centrals_of_lines column numbers above lower least values none i b low high m =
    let here : i < 64 = omega (arith, high) in let before : i - 1 < 64 = omega (arith, high) in let after : i + 1 < 64 = omega (arith, high) in
    elim (cases_lt b least) [
      | inl l ↦ none b i m here l
          ∙ sym (rw (
            turned_before numbers least i b here m l,
            turned_before numbers least (i - 1) b before m l,
            turned_before above least (i - 1) b before m l,
            turned_before above least i b here m l,
            turned_before above least (i + 1) b after m l,
          ) (nothing column))
      | inr l ↦ values b i m l low high
          ∙ sym (rw (
            turned_from numbers least i b here m l,
            turned_from numbers least (i - 1) b before m l,
            turned_from above least (i - 1) b before m l,
            turned_from above least i b here m l,
            turned_from above least (i + 1) b after m l,
          ) refl)
    ]
