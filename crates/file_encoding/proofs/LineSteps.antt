-- Rows are handed over, one after another.
use Rattle.std.proofs.Common.{◌≡◌, ◌+◌, ◌-◌, ◌*◌, ◌^◌, ◌<◌, ◌≤◌, ℕ, suc, List, [], ◌∷◌, ◌++◌, length, take, drop, refl, sym, ap, ap₂, ◌∙◌, subst, arith, length-append, append_assoc}
use Rattle.std.specs.List.{AllByRecursion}
use Rattle.std.proofs.Math.Seq.{take-append_seam, drop-append_seam}
use Rattle.std.proofs.lemmas.List.{drop-append-le, length-drop}
use Rattle.std.proofs.lemmas.Nat.{pow_pos}
use Rattle.std.specs.Prelude.{Some}
use Rattle.std.specs.List.{slice_get}
use Rattle.cube_core.specs.declared.order.Order.{Order}
use Rattle.cube_core.specs.declared.order.Order.TheVariants.{Bsq, Bi}
use Rattle.cube_core.specs.Shape.{sample_count}
use Rattle.cube_core.specs.Image.{Image, IsCube}
use Rattle.cube_core.specs.Order.{upto}
use Rattle.header_bits.specs.declared.params.Params.{Params}
use Rattle.header_bits.specs.Lawful.{IsLawful}
use Rattle.header_bits.proofs.Items.{all_append, all_first, all_last}
use Rattle.sample_prediction.specs.HandedRows.{AreLastRows, image_of_rows, row_size}
use Rattle.sample_prediction.specs.Residual.{residuals}
use Rattle.sample_prediction.specs.Rows.{ImageRow}
use Rattle.sample_prediction.proofs.HandedRows.{image_is_cube}
use Rattle.predict_core.specs.Following.{PredictorState}
use Rattle.predict_core.specs.Walked.{AreAlong}
use Rattle.predict_core.proofs.OneCube.{residuals_inside}
use Rattle.file_format.specs.File.{file_of, file_of_residuals}
use Rattle.file_encoding.specs.Ends.{FileEncoderState, CodesAll, HasCoded, MayCodeAll}
use Rattle.file_encoding.specs.Own.{line_of, own_residuals}
use Rattle.file_encoding.specs.Walks.{AreAt, IsSeen, bands_of}
use Rattle.file_encoding.specs.ByLines.{IsFileOfLines, IsInterleaved, AreLinesUnderWay, LineEncoderState, image_by_lines, lines_of}
use Rattle.file_encoding.proofs.Sending.{Pieces, at_same, upto_rest}
use Rattle.file_encoding.proofs.Encoding.{all_fresh, all_residuals, length-all, none_left, own_all}
use Rattle.file_encoding.proofs.ByLines.{HaveSameRows, are_at_same, image_more, lines_there, whole_image}

-- ---- before the first row

depth_of : (order : Order) → IsInterleaved order → (depth : ℕ) × (order ≡ Bi depth)
depth_of Bsq none = absurd none
depth_of (Bi depth) some = (depth, refl)

pub start_under : (p : Params) (e : LineEncoderState) → IsLawful p → IsInterleaved p.order → e.y ≡ 0 → e.offsets ≡ [] → length e.above ≡ row_size p.shape
    → length e.bands ≡ p.shape.bands → ((c : Image) → AreAlong p c 0 e.bands) → ((z : ℕ) (b : PredictorState) → slice_get e.bands z ≡ Some b → b.t ≡ 0)
    → HasCoded p e.end [] → AreLinesUnderWay p e
start_under p e lawful interleaved y_is none room many along first coded =
    let fresh = all_fresh p (image_by_lines p e.offsets) e.bands many (along (image_by_lines p e.offsets)) first in
    let order = depth_of p.order interleaved in
    record {
      depth = order.0;
      lawful = lawful;
      order = order.1;
      row = omega (arith, y_is);
      size = let zero : 0 * row_size p.shape ≡ 0 = grind arith in rw (none, y_is) (sym zero);
      range = rw none tt;
      room = room;
      above = λ some. absurd (omega (arith, y_is, some));
      own = fresh.own ∙ own_all (upto p.shape.bands);
      at = at_same p (image_by_lines p e.offsets) 0 (e.y * p.shape.columns) e.bands fresh.at (let zero : 0 * p.shape.columns ≡ 0 = grind arith in rw y_is (sym zero));
      coded = rw y_is coded;
    }

-- ---- one row more

module _ (p : Params) (e : LineEncoderState) (samples : List ℕ) (under : AreLinesUnderWay p e) (more : e.y < p.shape.rows) (size : length samples ≡ row_size p.shape)
    (range : AllByRecursion (λ v. v < 2 ^ p.kind.bits) samples) where
  abbrev all : List ℕ
  all = e.offsets ++ samples

  abbrev image : Image
  image = image_by_lines p all

  -- ---- the image of the rows

  pub all_range : AllByRecursion (λ v. v < 2 ^ p.kind.bits) all
  all_range = all_append (λ v. v < 2 ^ p.kind.bits) e.offsets samples under.range range

  pub all_size : length all ≡ (e.y + 1) * row_size p.shape
  all_size =
      let next : (e.y + 1) * row_size p.shape ≡ e.y * row_size p.shape + row_size p.shape = grind arith in
      omega (arith, next, under.size, size, length-append e.offsets samples)

  pub seen : IsSeen p image
  unfolding image_of_rows
  seen = record { shape = refl; kind = refl }

  cube : IsCube image
  cube = image_is_cube p.shape p.kind all all_range (pow_pos p.kind.bits) under.lawful.sizes under.lawful.kind

  pub present_is : samples ≡ drop (e.y * row_size p.shape) all
  present_is = sym (drop-append_seam e.offsets samples) ∙ ap (λ n. drop n all) under.size

  first_row : e.y ≡ 0 → samples ≡ take (row_size p.shape) (drop ((e.y - 1) * row_size p.shape) all)
  first_row none =
      let start : (e.y - 1) * row_size p.shape ≡ e.y * row_size p.shape = ap (λ n. n * row_size p.shape) (omega (arith, none)) in
      rw start (rw (← present_is) (sym (ap (λ n. take n samples) (sym size) ∙ take_whole samples)))
    where
      take_whole : (xs : List ℕ) → take (length xs) xs ≡ xs
      take_whole [] = refl
      take_whole (x ∷ xs) = ap (λ ys. x ∷ ys) (take_whole xs)

  row_above : 1 ≤ e.y → e.above ≡ take (row_size p.shape) (drop ((e.y - 1) * row_size p.shape) all)
  row_above some =
      let size : ℕ = row_size p.shape in
      let start : ℕ = (e.y - 1) * size in
      let more : suc (e.y - 1) * size ≡ start + size = grind arith in
      let next : e.y * size ≡ start + size = ap (λ n. n * size) (omega (arith, some)) ∙ more in
      let long : length (drop start e.offsets) ≡ size = omega (arith, next, under.size, length-drop start e.offsets) in
      let cut : drop start all ≡ drop start e.offsets ++ samples = drop-append-le start e.offsets samples (omega (arith, next, under.size)) in
      let whole : take size (drop start all) ≡ drop start e.offsets =
      ap (take size) cut ∙ ap (λ n. take n (drop start e.offsets ++ samples)) (sym long) ∙ take-append_seam (drop start e.offsets) samples in
      under.above some ∙ sym whole

  pub first_last : e.y ≡ 0 → AreLastRows p.shape p.kind all e.y samples samples
  first_last none = record { row = more; size = all_size; range = all_range; present = present_is; above = first_row none }

  pub later_last : 1 ≤ e.y → AreLastRows p.shape p.kind all e.y samples e.above
  later_last some = record { row = more; size = all_size; range = all_range; present = present_is; above = row_above some }

  -- ---- the predictors

  same : HaveSameRows (image_by_lines p e.offsets) image e.y
  same = image_more p.shape p.kind e.offsets samples e.y under.size

  pub at_now : AreAt p image (e.y * p.shape.columns) e.bands
  unfolding image_of_rows
  at_now = are_at_same (image_by_lines p e.offsets) image e.y same p under.lawful refl (omega (arith, more)) e.bands under.at

  -- ---- the residuals

  coded_now : HasCoded p e.end (lines_of p image under.depth e.y)
  unfolding image_of_rows
  coded_now =
      subst (HasCoded p e.end) (lines_there (image_by_lines p e.offsets) image e.y same p under.lawful refl (omega (arith, more)) under.depth) under.coded

  whole : residuals p image ≡ lines_of p image under.depth p.shape.rows
  unfolding image_of_rows
  whole = sym (all_residuals p image under.lawful.order refl) ∙ rw under.order refl

  next_line : Pieces (lines_of p image under.depth p.shape.rows) (lines_of p image under.depth e.y) (line_of p image 0 [] under.depth e.y)
      (lines_of p image under.depth (e.y + 1))
  next_line = upto_rest (λ y. line_of p image 0 [] under.depth y) e.y p.shape.rows more

  split : residuals p image ≡ lines_of p image under.depth e.y ++ (line_of p image 0 [] under.depth e.y ++ next_line.tail)
  split = whole ∙ next_line.whole ∙ ap (λ v. v ++ next_line.tail) next_line.more
      ∙ append_assoc (lines_of p image under.depth e.y) (line_of p image 0 [] under.depth e.y) next_line.tail

  pub may_code : MayCodeAll e.end (line_of p image 0 [] under.depth e.y)
  unfolding image_of_rows
  may_code =
      let done : List ℕ = lines_of p image under.depth e.y in
      let next : List ℕ = line_of p image 0 [] under.depth e.y in
      let long : length (residuals p image) ≡ sample_count p.shape = length-all p image under.lawful.order refl in
      let parts : length (residuals p image) ≡ length done + (length next + length next_line.tail) =
      ap length split ∙ length-append done (next ++ next_line.tail) ∙ ap (λ n. length done + n) (length-append next next_line.tail) in
      record {
        params = p;
        numbers = done;
        lawful = under.lawful;
        coded = coded_now;
        more = omega (arith, long, parts);
        range = all_first _ next next_line.tail (all_last _ done (next ++ next_line.tail) (subst (AllByRecursion (λ v. v < 2 ^ p.kind.bits)) split (residuals_inside p image under.lawful.order cube)));
      }

  pub coded_after : {end : FileEncoderState} → CodesAll e.end end (line_of p image 0 [] under.depth e.y) → HasCoded p end (lines_of p image under.depth (e.y + 1))
  coded_after {end = end} codes = subst (HasCoded p end) (sym next_line.more) (codes p (lines_of p image under.depth e.y) coded_now)

  -- ---- a call that sends the row

  module _ (rows : ImageRow) (is : rows ≡ record { image = image; y = e.y }) where
    pub image_given : IsSeen p rows.image
    image_given = rw is seen

    pub row_given : rows.y < rows.image.shape.rows
    unfolding image_of_rows
    row_given = rw is more

    pub own_given : (bands : List PredictorState) → bands ≡ e.bands → bands_of bands ≡ upto rows.image.shape.bands
    unfolding image_of_rows
    own_given bands same = rw (is, same) under.own

    pub at_given : (bands : List PredictorState) → bands ≡ e.bands → AreAt p rows.image (rows.y * rows.image.shape.columns) bands
    unfolding image_of_rows
    at_given bands same = rw (is, same) at_now

    pub may_given : (end : FileEncoderState) (depth : ℕ) → end ≡ e.end → p.order ≡ Bi depth → MayCodeAll end (line_of p rows.image 0 [] depth rows.y)
    may_given end depth same order =
        let depths : Bi under.depth ≡ Bi depth = sym under.order ∙ order in
        let depth_is : depth ≡ under.depth = cc in
        rw (is, same, depth_is) may_code

    -- the state after it
    pub next_under : (was : FileEncoderState) (depth : ℕ) (new : LineEncoderState) → was ≡ e.end → p.order ≡ Bi depth → new.y ≡ e.y + 1 → new.offsets ≡ all
        → new.above ≡ samples → bands_of new.bands ≡ bands_of e.bands → AreAt p rows.image ((rows.y + 1) * rows.image.shape.columns) new.bands
        → CodesAll was new.end (line_of p rows.image 0 [] depth rows.y) → AreLinesUnderWay p new
    unfolding image_of_rows
    next_under was depth new same order y_is offsets_are above_is bands_are at codes =
        let depths : Bi under.depth ≡ Bi depth = sym under.order ∙ order in
        let depth_is : depth ≡ under.depth = cc in
        let sent : CodesAll e.end new.end (line_of p image 0 [] under.depth e.y) = rw (is, same, depth_is) at codes in
        let there : AreAt p image ((e.y + 1) * p.shape.columns) new.bands = rw is at at in
        record {
          depth = under.depth;
          lawful = under.lawful;
          order = under.order;
          row = omega (arith, y_is, more);
          size = rw (offsets_are, y_is) all_size;
          range = rw offsets_are all_range;
          room = rw above_is size;
          above = λ some.
              above_is ∙ present_is ∙ ap₂ (λ n xs. drop (n * row_size p.shape) xs) (omega (arith, y_is)) (sym offsets_are);
          own = bands_are ∙ under.own;
          at = rw (offsets_are, y_is) there;
          coded = rw (offsets_are, y_is) (coded_after sent);
        }

-- ---- after the last row

module _ (p : Params) (e : LineEncoderState) (under : AreLinesUnderWay p e) (last : e.y ≡ p.shape.rows) where
  coded_whole : HasCoded p e.end (residuals p (image_by_lines p e.offsets))
  unfolding image_of_rows
  coded_whole =
      let c : Image = image_by_lines p e.offsets in
      let all : lines_of p c under.depth p.shape.rows ≡ residuals p c =
      subst (λ order. own_residuals p c 0 [] order ≡ residuals p c) under.order (all_residuals p c under.lawful.order refl) in
      subst (HasCoded p e.end) (ap (λ n. lines_of p c under.depth n) last ∙ all) under.coded

  pub none_left_now : e.end.left ≡ []
  unfolding image_of_rows
  none_left_now = none_left p (image_by_lines p e.offsets) e.end under.lawful.order refl coded_whole

  pub file_is : (bytes : List ℕ) → ((q : Params) (numbers : List ℕ) → HasCoded q e.end numbers → bytes ≡ file_of_residuals numbers q) → IsFileOfLines p e.offsets bytes
  unfolding file_of
  file_is bytes h c cube shape kind rows =
      h p (residuals p (image_by_lines p e.offsets)) coded_whole
      ∙ ap (λ (d : Image). file_of_residuals (residuals p d) p) (whole_image p c e.offsets under.lawful cube shape kind rows under.range)
