use Rattle.std.proofs.Common.{◌≡◌, ◌+◌, ◌-◌, ◌*◌, ◌≤◌, ◌++◌, ℕ, List, length, ap, ap₂, ◌∙◌, arith, rules}
use Rattle.std.proofs.lemmas.List.{with_items_is}
use Rattle.std.proofs.lemmas.Nat.{mul-le}
use Rattle.std.specs.Vec.{with_items}
use borrow.Rule.Slice.PartMut.{put_mid}
use Rattle.header_bits.specs.declared.params.Params.{Params}
use Rattle.file_encoding.specs.ByPlanes.{PlaneEncoderState}
use Rattle.file_encoding.proofs.KeptPlanes.{length_put}
use Rattle.file_encoding.proofs.PlaneRows.{row_fits, row_kept}
use Rattle.file_encoding.proofs.plane_encoder.PlaneEncoder.keep.Goals as goal
use Rattle.file_encoding.proofs.plane_encoder.PlaneEncoder.keep.Goals.{After-deref_mut, After-from-2}

module _ (c : After-from-2) where
  abbrev p : Params
  p = c.args.params.now

  abbrev e : PlaneEncoderState
  e = c.args.self.now

  abbrev columns : ℕ
  columns = c.columns-columns.result

  abbrev start : ℕ
  start = (c.self.inside.y - c.from.result * c.from-2.result) * columns

  start_is : start ≡ (e.y - e.first * p.shape.rows) * p.shape.columns
  start_is =
      let y = ap (λ (s : PlaneEncoderState). s.y) c.self.view_is in
      let first = ap (λ (s : PlaneEncoderState). s.first) c.self.view_is in
      let band : c.from.result ≡ e.first = omega (arith, c.from.ensures, first) in
      let rows : c.from-2.result ≡ p.shape.rows = omega (arith, c.from-2.ensures, c.rows.ensures.value) in
      ap₂ (λ m n. m * n) (ap₂ (λ m n. m - n) y (ap₂ (λ m n. m * n) band rows)) c.columns-columns.ensures.value

  small : start ≤ 65536 * 65536 * 65536
  small =
      let sizes = c.requires.under_way.lawful.sizes in
      let rows : p.shape.bands * p.shape.rows ≤ 65536 * 65536 = mul-le p.shape.bands p.shape.rows 65536 65536 sizes.bands.1 sizes.rows.1 in
      let before : c.self.inside.y - c.from.result * c.from-2.result ≤ 65536 * 65536 =
      omega (arith, rows, c.requires.more, ap (λ (s : PlaneEncoderState). s.y) c.self.view_is) in
      mul-le (c.self.inside.y - c.from.result * c.from-2.result) columns (65536 * 65536) 65536 before c.columns-columns.ensures.range.1

pub overflow_mul-start : goal.overflow_mul-start
overflow_mul-start c = let h = small (goal.at.overflow_mul-start c).After-from-2 in omega (arith, h)

pub overflow_add-start : goal.overflow_add-start
overflow_add-start c = let h = small (goal.at.overflow_add-start c).After-from-2 in omega (arith, h, c.columns-columns.ensures.range)

pub offset_bounds-deref_mut-start : goal.offset_bounds-deref_mut-start
offset_bounds-deref_mut-start c = let h = small (goal.at.offset_bounds-deref_mut-start c).After-from-2 in omega (arith, h)

module _ (c : After-deref_mut) where
  abbrev b : After-from-2
  b = (goal.at.After-deref_mut c).After-from-2

  planes_are : c.deref_mut.result.now ≡ (e b).planes
  planes_are = c.deref_mut.ensures.value ∙ ap (λ (s : PlaneEncoderState). s.planes) c.self.view_is

  fits : start b + columns b ≤ length c.deref_mut.result.now
  fits =
      let inside = row_fits (p b) (e b) c.args.samples.now c.requires.under_way c.requires.more c.requires.size c.requires.range in
      omega (arith, inside, start_is b, c.columns-columns.ensures.value, ap (λ (ns : List ℕ). length ns) planes_are)

pub slice_bounds-copy_from_slice-end : goal.slice_bounds-copy_from_slice-end
slice_bounds-copy_from_slice-end c = let h = fits (goal.at.slice_bounds-copy_from_slice-end c).After-deref_mut in search rules

pub returns-clause-kept : goal.returns-clause-kept
returns-clause-kept c =
    let a = (goal.at.returns-clause-kept c).After-deref_mut in
    let d = (goal.at.returns-clause-kept c).After-from-2 in
    let samples = c.copy_from_slice.new.self in
    let many = start d + columns d - start d in
    let list = put_mid (start d) many c.deref_mut.result.now samples in
    let copied : samples ≡ c.args.samples.now = c.copy_from_slice.ensures.after in
    let size : length samples ≡ many = omega (arith, ap (λ (ns : List ℕ). length ns) copied, c.requires.size, c.columns-columns.ensures.value) in
    let long : length list ≡ length c.deref_mut.result.now = length_put (start d) many c.deref_mut.result.now samples (omega (arith, fits a)) size in
    let items : (with_items c.self.inside.planes list).items ≡ list = with_items_is c.self.inside.planes list (omega (arith, long, c.deref_mut.ensures.len)) in
    row_kept (p d) (e d) c.args.samples.now c.requires.under_way c.requires.more c.requires.size c.requires.range _ (start d) many (start_is d)
    (ap (λ (ns : List ℕ). length ns) items ∙ long ∙ ap (λ (ns : List ℕ). length ns) (planes_are a))
    (items ∙ ap₂ (λ xs ys. put_mid (start d) many xs ys) (planes_are a) copied)
    (ap (λ (s : PlaneEncoderState). s.y + 1) c.self.view_is)
    (c.and-self-inside.ensures ∙ ap (λ (s : PlaneEncoderState). s.offsets ++ c.args.samples.now) c.self.view_is)
    (ap (λ (s : PlaneEncoderState). s.first) c.self.view_is) (ap (λ (s : PlaneEncoderState). s.previous) c.self.view_is)
    (ap (λ (s : PlaneEncoderState). s.present) c.self.view_is) (ap (λ (s : PlaneEncoderState). s.above) c.self.view_is)
    (ap (λ (s : PlaneEncoderState). s.bands) c.self.view_is) (ap (λ (s : PlaneEncoderState). s.end) c.self.view_is)
