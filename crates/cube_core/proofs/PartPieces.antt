-- What the loops over the pieces of a part need of one piece.
use Rattle.std.proofs.Common.{◌≡◌, ◌+◌, ◌*◌, ◌<◌, ◌≤◌, ◌^◌, ℕ, List, get_or, sym, arith, inl, inr, Fits, w32}
use Rattle.cube_core.proofs.Words.{Order, Layout, Sizes, sample_count, SampleKind, IsLayout, IsPart, IsPieceOf, StandsFor, AreSamples, AreOffsets, part_samples}
use Rattle.cube_core.proofs.Parts.{line_row, piece_good}
use Rattle.cube_core.proofs.PartBytes.{part_within}
use Rattle.cube_core.specs.declared.part.Part.{Part}

-- the bytes of a part are few
pub few_bytes : (s : Sizes) (l : Layout) (part : Part) (long : ℕ) → IsLayout l → IsPart l s part → sample_count s ≤ 2 ^ 48
    → long ≡ part_samples l s part * l.bytes → long ≤ 2 ^ 49
few_bytes s l part long layout within few whole =
    let all : part_samples l s part ≤ 2 ^ 48 = omega (arith, part_within l.order s part.first part.count within) in
    elim layout [
      | inl one ↦ (let is : long ≡ part_samples l s part * 1 = rw one at whole in omega (arith, is, all))
      | inr two ↦ (let is : long ≡ part_samples l s part * 2 = rw two at whole in omega (arith, is, all))
    ]

-- the row after that of a line is a number of 32 bits
pub next_row_fits : (s : Sizes) (first count line z y : ℕ) → s.rows ≤ 65536 → first + count ≤ s.rows * s.bands → line < count
    → y * s.bands + z ≡ first + line → Fits w32 (y + 1)
next_row_fits s first count line z y few within lt at = omega (arith, line_row s first count line z y within lt at, few)

-- where all samples are of the kind, a piece read by a scale of this kind is so too
pub scaled_good : (s : Sizes) (o : Order) (k kind : SampleKind) (l : Layout) (bytes new : List ℕ) (from n at count first step : ℕ) → kind ≡ k
    → IsPieceOf s o from n at count first step → ((j : ℕ) → j < count → StandsFor kind l bytes (first + j * step) (get_or new (at + j) 0))
    → AreSamples k l bytes n → (j : ℕ) → j < count → get_or new (at + j) 0 < 2 ^ kind.bits
scaled_good s o k kind l bytes new from n at count first step same piece taken all =
    piece_good s o kind l bytes new from n at count first step piece taken (rw (sym same) at all)

-- the offsets of a piece are within the kind's bits
pub scaled_range : (s : Sizes) (k kind : SampleKind) (offsets : List ℕ) (at count : ℕ) → kind ≡ k → AreOffsets s k offsets → at + count ≤ sample_count s
    → (j : ℕ) → j < count → get_or offsets (at + j) 0 < 2 ^ kind.bits
scaled_range s k kind offsets at count same known room j lt = rw same (known.range (at + j) (rw known.whole (omega (arith, room, lt))))
