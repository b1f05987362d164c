use Rattle.std.proofs.Common.{sym, inl, inr}
use Rattle.ccsds123.proofs.Putting.{cube_outcome}
use Rattle.ccsds123.proofs.Refused.{file_refused}
use Rattle.ccsds123.proofs.decode.decode_into.Goals as goal

pub returns-in-Err : goal.returns-in-Err
returns-in-Err c = file_refused _ c.in_ok-laid.laid _ _ _ c.in_ok-laid.ensures.layout.0 c.in_ok-laid.ensures.layout.2
    (sym c.in_ok-test_length.ensures.refused) (elim c.in-Err.ensures.fault [ inl memory ↦ inl memory | inr none ↦ inr (inl none) ])

pub returns-in-Ok : goal.returns-in-Ok
returns-in-Ok c = cube_outcome _ c.in_ok-laid.laid c.args.file.now c.args.raw.now _ _ c.in-Ok.cube c.put_raw.result
    (record {
      passed = c.in_ok-laid.ensures.layout.0;
      laid_is = c.in_ok-laid.ensures.layout.2;
      short = sym c.in_ok-test_length.ensures.refused;
      params = c.in-Ok._params;
      decoded = c.in-Ok.ensures.file;
    })
    c.put_raw.ensures.put c.put_raw.ensures.refused c.put_raw.ensures.same
