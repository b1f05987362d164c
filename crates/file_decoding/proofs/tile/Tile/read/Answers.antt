use borrow.Rule.Slice.PartMut.{same_len_mid}
use Rattle.std.proofs.Common.{◌≡◌, ◌∙◌, ◌+◌, ◌-◌, ◌*◌, ◌≤◌, ℕ, [], Ok, Err, refl, append-nil, length, take, drop, ap, arith, length-take, length-drop}
use Rattle.std.proofs.lemmas.List.{take_all}
use Rattle.std.proofs.lemmas.Nat.{row_fits}
use Rattle.std.proofs.lemmas.Result.{err_from_is_err_and}
use Rattle.std.proofs.lemmas.Slice.{take-put_mid}
use Rattle.file_decoding.specs.Decoding.{MayAskEach, MayAskColumn}
use Rattle.file_decoding.specs.Tiles.{band_in, time_in}
use Rattle.file_decoding.proofs.Givers.{gives_after}
use Rattle.file_decoding.proofs.TileWalk.{run_bands, run_times, as_column}
use Rattle.file_decoding.proofs.tile.Tile.read.Goals as goal
use Rattle.file_decoding.proofs.tile.Tile.read.Goals.{In-loop-i}

pub next_run-requires-clause-may : goal.next_run-requires-clause-may
next_run-requires-clause-may c =
    rw (run_bands c.args.self.now c.if-self-eq1.true, run_times c.args.self.now c.args.t c.if-self-eq1.true) at c.requires.may

pub returns-then-self-eq1-clause-given : goal.returns-then-self-eq1-clause-given
returns-then-self-eq1-clause-given c =
    rw (run_bands c.args.self.now c.if-self-eq1.true, run_times c.args.self.now c.args.t c.if-self-eq1.true) c.next_run.ensures.given

-- ---- a column of several

-- a column within those of the tile
inside : (c : In-loop-i) → c.loop-i.i * c.args.self.now.bands + c.args.self.now.bands ≤ length c.loop-i.deltas
inside c =
    let row = row_fits _ c.args.self.now.bands c.args.self.now.columns c.args.self.now.bands c.loop-i-test.true (omega arith) in
    omega (arith, row, c.loop-i.invariant.long, c.requires.whole)

-- its numbers
column : (c : In-loop-i) → (let first : ℕ = c.loop-i.i * c.args.self.now.bands in
    length (take (first + c.args.self.now.bands - first) (drop first c.loop-i.deltas)) ≡ c.args.self.now.bands)
column c = omega (arith, inside c, length-take {A = ℕ}, length-drop {A = ℕ})

-- it may be asked for after those before it
abbrev next : (c : In-loop-i) (size : ℕ) → size ≡ c.args.self.now.bands
    → MayAskEach c.args.decoder.now (band_in c.args.self.now) (time_in c.args.self.now c.args.t) c.args.index (length c.args.deltas.now)
    → MayAskColumn c.loop-i.decoder c.args.self.now.place.z (c.args.t + c.loop-i.i) (c.args.index + c.loop-i.i * c.args.self.now.bands) size
next c size whole m =
    as_column c.args.self.now _ m c.loop-i.i size c.loop-i.decoder _ _ (take (c.loop-i.i * c.args.self.now.bands) c.loop-i.deltas) c.loop-i-test.true
    (omega (arith, inside c, length-take {A = ℕ})) whole c.requires.whole (c.loop-i.invariant.given m)

pub loop-i-init : goal.loop-i-init
loop-i-init c =
    let none : 0 * c.args.self.now.bands ≡ 0 = omega arith in
    record { given = λ m. rw none (tt, [], refl, rw (append-nil m.numbers, append-nil m.bits) m.given); count = refl; long = refl }

pub next_column-requires-clause-may : goal.next_column-requires-clause-may
next_column-requires-clause-may c =
    let d = (goal.at.next_column-requires-clause-may c).In-loop-i in
    next d _ (column d) c.requires.may

pub returns-in_err-next_column-clause-given : goal.returns-in_err-next_column-clause-given
returns-in_err-next_column-clause-given c =
    let d = (goal.at.returns-in_err-next_column-clause-given c).In-loop-i in
    let first : ℕ = c.loop-i.i * c.args.self.now.bands in
    let got = c.in_err-next_column.ensures in
    let told = err_from_is_err_and c.from_residual.result c.from_residual.ensures.1 in
    let all = same_len_mid first (first + c.args.self.now.bands - first) c.loop-i.deltas c.next_column.new.deltas got.long ∙ c.loop-i.invariant.long in
    rw (told.1, told.2, all) (λ m. rw (← c.loop-i.invariant.count) (gives_after _ _ c.next_column.new.self _ _ _ _ c.next_column.new.reader.left _ _
    c.next_column.new.deltas (Err _) (c.loop-i.invariant.given m) (got.given (next d _ (got.long ∙ column d) m))))

pub loop-i-preserved : goal.loop-i-preserved
loop-i-preserved c =
    let d = (goal.at.loop-i-preserved c).In-loop-i in
    let first : ℕ = c.loop-i.i * c.args.self.now.bands in
    let got = c.in_ok-next_column.ensures in
    let cut = take-put_mid first (first + c.args.self.now.bands - first) c.loop-i.deltas c.next_column.new.deltas
    ((c.loop-i.i + 1) * c.args.self.now.bands) (omega (arith, got.long, column d)) (omega (arith, inside d)) in
    record {
      given = λ m. rw cut (gives_after _ _ _ _ _ _ _ _ c.loop-i.reader.count _ _ (Ok _) (c.loop-i.invariant.given m)
          (got.given (next d _ (got.long ∙ column d) m)));
      count = got.count ∙ c.loop-i.invariant.count;
      long = same_len_mid first (first + c.args.self.now.bands - first) c.loop-i.deltas c.next_column.new.deltas got.long ∙ c.loop-i.invariant.long;
    }

pub returns-clause-given : goal.returns-clause-given
returns-clause-given c =
    let done : c.loop-i.i ≡ c.args.self.now.columns = omega (arith, c.loop-i-test.false, c.loop-i.auto.i-end) in
    let e = ap (λ (k : ℕ). k * c.args.self.now.bands) done in
    let all = take_all (c.loop-i.i * c.args.self.now.bands) c.loop-i.deltas (omega (arith, e, c.loop-i.invariant.long, c.requires.whole)) in
    rw c.loop-i.invariant.long (λ m. rw all at (c.loop-i.invariant.given m))
