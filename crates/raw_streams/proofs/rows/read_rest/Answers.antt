use Rattle.std.proofs.Common.{◌≡◌, ◌+◌, ◌-◌, ◌*◌, ◌≤◌, ℕ, suc, [], ◌++◌, length, refl, arith, ◌∙◌, inl, inr, length-append}
use Rattle.std.proofs.lemmas.Result.{err_from_is_err_and, IfErr-weaker}
use Rattle.cube_core.specs.declared.layout.Layout.{Layout}
use Rattle.cube_core.specs.Layout.{IsLayout}
use Rattle.command_devices.proofs.Devices.{gave_more}
use Rattle.raw_streams.specs.Rows.{GaveRows, IsRestRefusal, row_bytes, rows_in, samples_in_row}
use Rattle.raw_streams.proofs.Streams.{all_came, gave_none, within_more}
use Rattle.raw_streams.proofs.RowStreams.{on_ok_both, rows_none, rest_cut_off, rest_too_long, room_for_rows, room_for_byte}
use Rattle.raw_streams.proofs.rows.read_rest.Goals as goal

-- one row more has a row's bytes
rows_more : (y done size long more : ℕ) → y ≤ done → long ≡ (done - y) * size → more ≡ size → long + more ≡ (done + 1 - y) * size
rows_more y done size long more inside e f =
    let next : done + 1 - y ≡ suc (done - y) = omega (arith, inside) in
    rw (next, e, f) (grind arith)

-- a row has a byte
some_bytes : (n : ℕ) (l : Layout) → IsLayout l → 1 ≤ n → 1 ≤ n * l.bytes
some_bytes n l (inl e) some = rw e (omega (arith, some))
some_bytes n l (inr e) some = rw e (omega (arith, some))

pub loop-done-init : goal.loop-done-init
loop-done-init g c = record {
  within = (omega arith, omega (arith, c.requires.inside, c.row_count-rows.ensures.value));
  long = c.requires.room;
  some = some_bytes (samples_in_row c.args.shape c.args.layout) c.args.layout c.requires.layout
      (rw c.row_samples-size.ensures.value at c.row_samples-size.ensures.range.0);
  worked = refl;
  come = ([], gave_none (g.S.Source.left c.args.source.now), rows_none c.args.y (row_bytes c.args.shape c.args.layout));
}

pub returns-in_err-read_rows-clause-refused : goal.returns-in_err-read_rows-clause-refused
returns-in_err-read_rows-clause-refused g c =
    let p = err_from_is_err_and c.from_residual.result c.from_residual.ensures.1 in
    let come = c.loop-done.invariant.come in
    rw (p.1, p.2) (rest_cut_off c.args.shape c.args.layout c.args.y c.loop-done.done _ _ _ come.0 _ _ _ c.loop-done.invariant.within.0 come.1 come.2
    c.loop-done.invariant.worked 1 _ (omega (arith, c.loop-done-test.true, c.row_count-rows.ensures.value)) c.in_err-read_rows.ensures.refused)

pub returns-in_err-read_rows-clause-bounded : goal.returns-in_err-read_rows-clause-bounded
returns-in_err-read_rows-clause-bounded g c =
    let come = c.loop-done.invariant.come in
    within_more _ _ _ come.0 _ _ come.1 c.in_err-read_rows.ensures.bounded (room_for_rows c.args.shape c.args.layout c.args.y c.loop-done.done 1 _
    c.loop-done.invariant.within.0 (omega (arith, c.loop-done-test.true, c.row_count-rows.ensures.value)) come.2)

pub loop-done-preserved : goal.loop-done-preserved
loop-done-preserved g c =
    let come = c.loop-done.invariant.come in
    let long : length c.read_rows.new.bytes ≡ row_bytes c.args.shape c.args.layout =
    c.in_ok-read_rows.ensures.long ∙ c.loop-done.invariant.long in
    record {
      within = (omega (arith, c.loop-done.invariant.within.0), omega (arith, c.loop-done-test.true));
      long = long;
      some = c.loop-done.invariant.some;
      worked = c.in_ok-read_rows.ensures.worked ∙ c.loop-done.invariant.worked;
      come = (
        come.0 ++ c.read_rows.new.bytes,
        gave_more _ _ _ come.0 _ come.1 c.in_ok-read_rows.ensures.given,
        length-append come.0 c.read_rows.new.bytes
            ∙ rows_more c.args.y c.loop-done.done (row_bytes c.args.shape c.args.layout) _ _ c.loop-done.invariant.within.0 come.2 long,
      );
    }

pub returns-clause-given : goal.returns-clause-given
returns-clause-given g c =
    let come = c.loop-done.invariant.come in
    let all : c.loop-done.done ≡ rows_in c.args.shape c.args.layout =
    omega (arith, c.loop-done.invariant.within.1, c.loop-done-test.false, c.row_count-rows.ensures.value) in
    on_ok_both c.read_end.result _ _ (GaveRows c.args.shape c.args.layout c.args.y (g.S.Source.left c.args.source.now) (g.S.Source.left c.read_end.new.source))
    c.read_end.ensures.given c.read_end.ensures.ended (λ gave end. (come.0, all_came _ _ _ come.0 come.1 gave, rw all at come.2, end))

pub returns-clause-refused : goal.returns-clause-refused
returns-clause-refused g c =
    let come = c.loop-done.invariant.come in
    let all : c.loop-done.done ≡ rows_in c.args.shape c.args.layout =
    omega (arith, c.loop-done.invariant.within.1, c.loop-done-test.false, c.row_count-rows.ensures.value) in
    IfErr-weaker c.read_end.result _ (IsRestRefusal c.args.shape c.args.layout c.args.y (g.S.Source.left c.args.source.now)
    (g.S.Source.left c.read_end.new.source) (g.S.Source.failures c.args.source.now) (g.S.Source.failures c.read_end.new.source))
    (λ e h. rest_too_long c.args.shape c.args.layout c.args.y c.loop-done.done _ _ _ come.0 _ _ _ c.loop-done.invariant.within.0 come.1 come.2
    c.loop-done.invariant.worked e all h) c.read_end.ensures.refused

pub returns-clause-bounded : goal.returns-clause-bounded
returns-clause-bounded g c =
    let come = c.loop-done.invariant.come in
    let all : c.loop-done.done ≡ rows_in c.args.shape c.args.layout =
    omega (arith, c.loop-done.invariant.within.1, c.loop-done-test.false, c.row_count-rows.ensures.value) in
    within_more _ _ _ come.0 1 _ come.1 c.read_end.ensures.bounded (room_for_byte c.args.shape c.args.layout c.args.y c.loop-done.done _
    c.loop-done.invariant.within.0 all come.2)
