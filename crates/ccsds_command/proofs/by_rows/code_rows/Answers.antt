use Rattle.std.proofs.Common.{◌+◌, ◌*◌, ◌≤◌, ℕ, [], drop, length, length-append, length-drop, length-take, refl, ap, ◌∙◌, arith}
use Rattle.std.proofs.lemmas.Result.{err_from_is_err_and}
use Rattle.raw_streams.proofs.Streams.{gave_none}
use Rattle.raw_streams.specs.Rows.{rows_in}
use Rattle.ccsds_command.proofs.HandingOn.{bytes_small, in_room}
use Rattle.ccsds_command.proofs.Rows.{come_more, come_within, next_refused, none_found}
use Rattle.ccsds_command.proofs.by_rows.code_rows.Goals as goal

pub loop-y-init : goal.loop-y-init
loop-y-init g c = record {
  within = omega arith;
  taker = c.requires.taker;
  under = c.requires.under_way;
  at = c.requires.none.0;
  room = refl;
  worked = refl;
  come = (
    [],
    gave_none (g.S.Source.left c.args.source.now),
    none_found c.args.settings.now.params c.args.settings.now.layout c.args.encoder c.requires.under_way c.requires.none.0 c.requires.none.1,
  );
}

pub overflow_mul-bytes : goal.overflow_mul-bytes
overflow_mul-bytes g c =
    let inside : c.loop-y.y + c.min-count.result ≤ rows_in c.args.settings.now.params.shape c.args.settings.now.layout =
    omega (arith, c.min-count.ensures, c.loop-y-test.true, c.row_count-rows.ensures.value) in
    rw c.row_length-length.ensures.value (omega (
      arith,
      bytes_small c.args.settings.now.params.shape c.args.settings.now.layout c.loop-y.y
          c.min-count.result c.requires.under_way.lawful.sizes c.requires.layout inside,
    ))

pub slice_bounds-bytes-end : goal.slice_bounds-bytes-end
slice_bounds-bytes-end g c = in_room c.min-count.result c.args.most _ c.row_length-length.result _ (omega (arith, c.min-count.ensures))
    c.row_length-length.ensures.value (c.loop-y.invariant.room ∙ c.requires.room)

pub slice_bounds-bytes-end-in-loop-y : goal.slice_bounds-bytes-end-in-loop-y
slice_bounds-bytes-end-in-loop-y g c =
    let there : c.min-count.result * c.row_length-length.result ≤ length c.loop-y.room = in_room c.min-count.result c.args.most _
    c.row_length-length.result _ (omega (arith, c.min-count.ensures)) c.row_length-length.ensures.value (c.loop-y.invariant.room ∙ c.requires.room) in
    omega (arith, there, length-take (c.min-count.result * c.row_length-length.result) c.loop-y.room)

pub code_next-requires-clause-bytes : goal.code_next-requires-clause-bytes
code_next-requires-clause-bytes g c =
    let there : c.min-count.result * c.row_length-length.result ≤ length c.loop-y.room = in_room c.min-count.result c.args.most _
    c.row_length-length.result _ (omega (arith, c.min-count.ensures)) c.row_length-length.ensures.value (c.loop-y.invariant.room ∙ c.requires.room) in
    let same = ap (λ (n : ℕ). c.min-count.result * n) c.row_length-length.ensures.value in
    omega (arith, there, length-take (c.min-count.result * c.row_length-length.result) c.loop-y.room, same)

pub code_next-requires-clause-taker : goal.code_next-requires-clause-taker
code_next-requires-clause-taker g c = (c.args.most, omega (arith, c.min-count.ensures), c.loop-y.invariant.taker)

pub returns-in_err-taker-clause-refused : goal.returns-in_err-taker-clause-refused
returns-in_err-taker-clause-refused g c =
    let p = err_from_is_err_and c.from_residual.result c.from_residual.ensures.1 in
    rw (p.1, p.2) (next_refused c.args.settings.now c.loop-y.encoder _ _ _ c.loop-y.invariant.come c.loop-y.y _ _ _ _ c.loop-y.invariant.at
    (omega (arith, c.loop-y-test.true, c.row_count-rows.ensures.value)) c.loop-y.invariant.worked c.in_err-taker.ensures.refused)

pub returns-in_err-taker-clause-bounded : goal.returns-in_err-taker-clause-bounded
returns-in_err-taker-clause-bounded g c =
    let p = err_from_is_err_and c.from_residual.result c.from_residual.ensures.1 in
    rw p.1 (come_within c.args.settings.now c.loop-y.encoder (g.S.Source.left c.args.source.now) (g.S.Source.left c.loop-y.source)
    (g.S.Source.left c.code_next.new.source) c.loop-y.invariant.come c.loop-y.y c.loop-y.invariant.at
    (omega (arith, c.loop-y-test.true, c.row_count-rows.ensures.value)) c.in_err-taker.ensures.bounded)

pub loop-y-preserved : goal.loop-y-preserved
loop-y-preserved g c =
    let n = c.min-count.result * c.row_length-length.result in
    record {
      within = omega (arith, c.min-count.ensures, c.loop-y-test.true);
      taker = c.in_ok-taker.ensures.taker c.args.most c.loop-y.invariant.taker;
      under = c.in_ok-taker.ensures.handed.under_way;
      at = omega (arith, c.in_ok-taker.ensures.handed.y, c.loop-y.invariant.at);
      room = omega (
        arith,
        length-append c.code_next.new.bytes (drop n c.loop-y.room),
        length-drop n c.loop-y.room,
        length-take n c.loop-y.room,
        c.in_ok-taker.ensures.long,
        c.loop-y.invariant.room,
      );
      worked = c.in_ok-taker.ensures.worked ∙ c.loop-y.invariant.worked;
      come = come_more c.args.settings.now c.loop-y.encoder (g.S.Source.left c.args.source.now) (g.S.Source.left c.loop-y.source)
          (g.S.Source.left c.code_next.new.source) c.loop-y.invariant.come c.code_next.new.encoder c.min-count.result c.code_next.new.bytes
          c.in_ok-taker.ensures.given c.in_ok-taker.ensures.handed;
    }
