-- The invariants of a reader and of a writer of blocks.
use Rattle.std.specs.Prelude.{ℕ, ◌≡◌, ◌⊎◌, ◌+◌, ◌-◌, ◌*◌, ◌^◌, ◌<◌, ◌≤◌, List, length, sum}
use Rattle.std.specs.List.{AllByRecursion}
use Rattle.block_adaptive.specs.DataSets.{Cut, left_at}
use Rattle.block_adaptive.specs.Settings.{IsCut}

-- a reader: block i is the next to be read; `given` values of the block in the array were returned, and `counted` zeros are still to be returned.
-- The values to be returned are either in the array or counted as zeros, never both, and precede block i
pub record AreParts (c : Cut) (i given counted : ℕ) : Type 0 where
  pub cut : IsCut c
  pub block : i ≤ c.count
  pub inside : given ≤ c.size
  pub one : (given ≡ c.size) ⊎ (counted ≡ 0)
  pub few : counted ≤ 4096
  pub earlier : c.size - given + counted ≤ i * c.size

-- a writer: nothing was written from block i on; `zeros` zero blocks are held from there on, fewer than are left in the segment;
-- of the block after them the values `held` are there, fewer than J, whose sum is `total`
pub record AreStored (c : Cut) (i zeros total : ℕ) (held : List ℕ) : Type 0 where
  pub cut : IsCut c
  pub block : i + zeros ≤ c.count
  pub inside : 1 ≤ zeros → zeros < left_at c i
  pub more : 1 ≤ length held → i + zeros < c.count
  pub few : length held < c.size
  pub range : AllByRecursion (λ v. v < 2 ^ c.set.bits) held
  pub added : total ≡ sum held
