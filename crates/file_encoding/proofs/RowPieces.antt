-- Pieces of a row, one after another.
use Rattle.std.proofs.Common.{◌≡◌, ◌+◌, ◌-◌, ◌*◌, ◌<◌, ◌≤◌, ℕ, List, [], ◌∷◌, ◌++◌, length, map, take, drop, get_or, refl, sym, ap, ap₂, ◌∙◌}
use Rattle.std.proofs.Common.{get_or-take, append-nil, length-drop, arith}
use Rattle.std.specs.List.{flat_map, AllZip}
use Rattle.std.proofs.lemmas.Grind.{flat_map-append}
use Rattle.std.proofs.lemmas.List.Concat.{flat_map_single}
use Rattle.std.proofs.lemmas.Nat.{mul-le}
use Rattle.std.proofs.lemmas.Slice.{take-put_mid}
use borrow.Rule.Slice.PartMut.{put_mid}
use Rattle.std.proofs.lemmas.List.{take-map, drop-map, length-take, length-take-le}
use Rattle.std.proofs.lemmas.List.{length-map, get_or-map, take_at, take_all, map-append, length-append}
use Rattle.std.proofs.Math.Seq.{take-add}
use Rattle.cube_core.specs.Image.{Image}
use Rattle.cube_core.specs.Order.{from, upto}
use Rattle.cube_core.proofs.Lists.{get_or-from, length-from}
use Rattle.header_bits.proofs.Items.{all_weaker}
use Rattle.header_bits.proofs.TableWriting.{all_at}
use Rattle.header_bits.specs.declared.params.Params.{Params}
use Rattle.predict_core.specs.Following.{PredictorState, IsPieceNext, HoldsPiece}
use Rattle.group_prediction.specs.GroupPieces.{ArePiecesNext}
use Rattle.sample_prediction.specs.Predictor.{predictor_of}
use Rattle.sample_prediction.specs.Residual.{mapped_residual, run_residuals}
use Rattle.file_encoding.specs.Own.{column_of}
use Rattle.file_encoding.specs.Walks.{IsSeen, IsAt, AreAt, bands_of}
use Rattle.file_encoding.specs.Pieces.{IsPast, ArePast, held_at, held_of}
use Rattle.file_encoding.proofs.Sending.{at_same, from_split, same_lists, all_items, items_from}

-- ---- the bands

-- the next places of a band are those of the piece
piece_next : (p : Params) (c : Image) (y x n : ℕ) (b : PredictorState) → IsSeen p c → y < c.shape.rows → x < c.shape.columns → n ≤ 64 → x + n ≤ c.shape.columns
    → IsAt p c (y * c.shape.columns + x) b → (b.predictor ≡ predictor_of p) × IsPieceNext b c y x n
piece_next p c y x n b seen row column few within here =
    let made = here.follows.made in (
      made.predictor,
      record {
        shape = seen.shape ∙ sym made.shape;
        kind = seen.kind ∙ sym made.kind;
        place = record { band = rw seen.shape here.inside; row = row; column = column };
        few = few;
        inside = within;
        next = here.next;
      },
    )

pub pieces_next : (p : Params) (c : Image) (y x n : ℕ) (bands : List PredictorState) → IsSeen p c → y < c.shape.rows → x < c.shape.columns → n ≤ 64
    → x + n ≤ c.shape.columns → AreAt p c (y * c.shape.columns + x) bands → ArePiecesNext bands c y x n
pieces_next p c y x n bands seen row column few within at = record {
  predictor = predictor_of p;
  each = all_weaker (IsAt p c (y * c.shape.columns + x)) _ (λ b here. piece_next p c y x n b seen row column few within here) bands at;
}

-- a band has gone over its piece
piece_past : (p : Params) (c : Image) (t n : ℕ) (b d : PredictorState) → IsAt p c t b → HoldsPiece c n b d → IsPast p c t n d
piece_past p c t n b d here piece = record {
  at = record {
    follows = piece.follows p here.follows;
    next = piece.moved.t ∙ ap (λ k. k + n) here.next;
    inside = omega (arith, here.inside, piece.moved.band);
  };
  held = piece.residuals p here.follows ∙ ap₂ (λ z k. run_residuals p c z k n) (sym piece.moved.band) here.next;
}

-- all of them have, and are the same bands as before
pub pieces_past : (p : Params) (c : Image) (t n : ℕ) (bands new : List PredictorState) → AreAt p c t bands → AllZip (HoldsPiece c n) bands new
    → ArePast p c t n new
pieces_past p c t n [] [] at h = tt
pieces_past p c t n [] (d ∷ new) at h = absurd h
pieces_past p c t n (b ∷ bands) [] at h = absurd h
pieces_past p c t n (b ∷ bands) (d ∷ new) at h = (piece_past p c t n b d at.0 h.0, pieces_past p c t n bands new at.1 h.1)

pub same_bands : (c : Image) (n : ℕ) (bands new : List PredictorState) → AllZip (HoldsPiece c n) bands new → bands_of new ≡ bands_of bands
same_bands c n [] [] h = refl
same_bands c n [] (d ∷ new) h = absurd h
same_bands c n (b ∷ bands) [] h = absurd h
same_bands c n (b ∷ bands) (d ∷ new) h = ap₂ (λ z zs. z ∷ zs) h.0.moved.band (same_bands c n bands new h.1)

pub past_at : (p : Params) (c : Image) (t n u : ℕ) (bands : List PredictorState) → ArePast p c t n bands → t + n ≡ u → AreAt p c u bands
past_at p c t n u bands h e = at_same p c (t + n) u bands (all_weaker (IsPast p c t n) (IsAt p c (t + n)) (λ b h. h.at) bands h) e

-- ---- what they hold

held_column : (p : Params) (c : Image) (y x n i : ℕ) (bands : List PredictorState) → i < n → ArePast p c (y * c.shape.columns + x) n bands
    → held_at bands i ≡ column_of p c (bands_of bands) y (x + i)
held_column p c y x n i [] lt h = refl
held_column p c y x n i (b ∷ bands) lt h = ap₂ (λ r rs. r ∷ rs) there (held_column p c y x n i bands lt h.1)
  where
    there : get_or b.piece i 0 ≡ mapped_residual p c b.band (y * c.shape.columns + (x + i))
    there =
        rw (← get_or-take n b.piece i 0 lt, h.0.held, get_or-map {Y = ℕ} _ (from (y * c.shape.columns + x) n) i 0 0 (rw length-from lt), get_or-from _ n i 0 lt)
        (ap (mapped_residual p c b.band) (omega arith))

-- the residuals of the columns of a piece
pub held_is : (p : Params) (c : Image) (y x n : ℕ) (bands : List PredictorState) (zs : List ℕ) → ArePast p c (y * c.shape.columns + x) n bands → bands_of bands ≡ zs
    → held_of bands n ≡ flat_map (λ k. column_of p c zs y k) (from x n)
held_is p c y x n bands zs h same =
    rw (← same) (same_lists (λ i. held_at bands i) (λ k. column_of p c (bands_of bands) y k) 0 x n
    (λ i lt. ap (λ k. held_at bands k) (omega arith) ∙ held_column p c y x n i bands lt h))

-- what one of some bands holds is a part of its row
pub row_piece : (p : Params) (c : Image) (y x n k : ℕ) (bands : List PredictorState) (zs : List ℕ) (b : PredictorState) (numbers : List ℕ) → k < length bands
    → ArePast p c (y * c.shape.columns + x) n bands → bands_of bands ≡ zs → numbers ≡ take n (get_or bands k b).piece
    → numbers ≡ flat_map (λ i. column_of p c (get_or zs k 0 ∷ []) y i) (from x n)
row_piece p c y x n k bands zs b numbers lt past same is =
    let at = y * c.shape.columns + x in
    let here = all_at (λ r. IsPast p c at n r) bands k b lt past in
    let band : (get_or bands k b).band ≡ get_or zs k 0 = sym (get_or-map (λ r. r.band) bands k b 0 lt) ∙ ap (λ (v : List ℕ). get_or v k 0) same in
    let of_band : ℕ → ℕ = mapped_residual p c (get_or zs k 0) in
    is ∙ here.held ∙ ap (λ z. map (mapped_residual p c z) (from at n)) band ∙ sym (flat_map_single of_band (from at n))
    ∙ same_lists (λ t. of_band t ∷ []) (λ i. column_of p c (get_or zs k 0 ∷ []) y i) at x n
    (λ i lt. let place : at + i ≡ y * c.shape.columns + (x + i) = omega arith in ap (λ t. of_band t ∷ []) place)

-- ---- runs of a column, and of one band

-- what was gathered of a column stands in front of what the room held before
pub gathered : (bands : List PredictorState) (i first n many : ℕ) (numbers room : List ℕ) → first + n ≤ length bands → many ≡ n
    → numbers ≡ held_at (take many (drop first bands)) i → take n (numbers ++ room) ≡ take n (drop first (held_at bands i))
gathered bands i first n many numbers room le same is =
    let run : numbers ≡ take n (drop first (held_at bands i)) = is ∙ rw (same, ← take-map, ← drop-map) refl in
    let long : length numbers ≡ n =
    rw run (length-take-le n (drop first (held_at bands i))
    (omega (arith, le, length-drop first (held_at bands i), length-map bands (λ b. get_or b.piece i 0)))) in
    take_at numbers room n long ∙ run

-- one band's residuals, place after place, are those that it holds
pub held_alone : (bands : List PredictorState) (b : PredictorState) (n : ℕ) (numbers : List ℕ) → length bands ≡ 1 → b ≡ get_or bands 0 b → numbers ≡ take n b.piece
    → length numbers ≡ n → numbers ≡ held_of bands n
held_alone bands b n numbers one there is long =
    let enough : 0 + n ≤ length b.piece = omega (arith, long, ap (λ (ns : List ℕ). length ns) is, length-take n b.piece) in
    let alone : b ∷ [] ≡ bands = ap (λ (r : PredictorState). r ∷ []) there ∙ sym (all_items bands b 1 one) in
    is ∙ sym (flat_map_single (λ i. get_or b.piece i 0) (upto n) ∙ items_from b.piece 0 0 n enough) ∙ ap (λ bs. held_of bs n) alone

-- ---- several columns at once

-- the residuals of one more place, after those of the places before it
pub places_more : (bands : List PredictorState) (first k n many count : ℕ) (room numbers : List ℕ) → length numbers ≡ many → length room ≡ count * many → k < count
    → numbers ≡ held_at bands (first + k) → take (k * many) room ≡ flat_map (λ i. held_at bands i) (from first k)
    → take ((k + 1) * many) (put_mid (k * many) n room numbers) ≡ flat_map (λ i. held_at bands i) (from first (k + 1))
places_more bands first k n many count room numbers long all lt is done =
    let end : (k + 1) * many ≡ k * many + length numbers = grind (arith, long) in
    let within = mul-le k many count many (omega arith) (omega arith) in
    take-put_mid (k * many) n room numbers ((k + 1) * many) end (omega (arith, within, all))
    ∙ ap₂ (λ a b. a ++ b) done (is ∙ sym (append-nil (held_at bands (first + k))))
    ∙ sym (flat_map-append (λ i. held_at bands i) (from first k) ((first + k) ∷ [])) ∙ ap (flat_map (λ i. held_at bands i)) (sym (from_split first k 1))

-- the residuals of one place of some more bands, after those of the bands before them
pub bands_more : (bands : List PredictorState) (i a n many : ℕ) (room numbers : List ℕ) → a ≤ length room → a + many ≤ length bands
    → numbers ≡ held_at (take many (drop a bands)) i → take a room ≡ held_at (take a bands) i
    → take (a + many) (put_mid a n room numbers) ≡ held_at (take (a + many) bands) i
bands_more bands i a n many room numbers fits inside is done =
    let long : length numbers ≡ many = ap (λ (ns : List ℕ). length ns) is ∙ length-map (take many (drop a bands)) (λ b. get_or b.piece i 0)
    ∙ length-take-le many (drop a bands) (omega (arith, inside, length-drop a bands)) in
    take-put_mid a n room numbers (a + many) (omega (arith, long)) fits ∙ ap₂ (λ xs ys. xs ++ ys) done is
    ∙ sym (map-append (λ b. get_or b.piece i 0) (take a bands) (take many (drop a bands))) ∙ ap (λ bs. held_at bs i) (sym (take-add a many bands))

-- and of all bands, once those of the last ones stand at the end
pub bands_last : (bands : List PredictorState) (i a n : ℕ) (room numbers : List ℕ) → length room ≡ length bands → a ≤ length bands → a + n ≡ length room
    → numbers ≡ held_at (take (length bands - a) (drop a bands)) i → take a room ≡ held_at (take a bands) i → put_mid a n room numbers ≡ held_at bands i
bands_last bands i a n room numbers same inside end is done =
    let long : length numbers ≡ length bands - a = ap (λ (ns : List ℕ). length ns) is ∙ length-map (take (length bands - a) (drop a bands)) (λ b. get_or b.piece i 0)
    ∙ length-take-le (length bands - a) (drop a bands) (omega (arith, inside, length-drop a bands)) in
    let all : a + (length bands - a) ≡ length bands = omega (arith, inside) in
    let spelt : length (put_mid a n room numbers) ≡ length (take a room ++ (numbers ++ drop n (drop a room))) = refl in
    let most : length (put_mid a n room numbers) ≤ a + (length bands - a) =
    omega (
      arith,
      spelt,
      length-append (take a room) (numbers ++ drop n (drop a room)),
      length-append numbers (drop n (drop a room)),
      length-take a room,
      length-drop n (drop a room),
      length-drop a room,
      long,
      end,
      same,
      inside,
    ) in
    sym (take_all (a + (length bands - a)) (put_mid a n room numbers) most)
    ∙ bands_more bands i a n (length bands - a) room numbers (omega (arith, same, inside)) (omega (arith, inside)) is done
    ∙ ap (λ bs. held_at bs i) (take_all (a + (length bands - a)) bands (omega (arith, inside)))
