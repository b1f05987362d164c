use Rattle.std.proofs.Common.{◌≡◌, arith, refl, length-append, Ok, Err}
use Rattle.cube_core.proofs.Words.{IsFound, first_sample, part_samples}
use Rattle.cube_core.proofs.PartBytes.{found_more, bad_stays}
use Rattle.cube_core.proofs.reading.read_next.Goals as goal

pub returns-in-Ok : goal.returns-in-Ok
returns-in-Ok c s k before long found =
    let f : IsFound s k c.args.layout before (first_sample c.args.layout s c.args.part) (Ok c.in-Ok.cube) = rw c.in-Ok.is at found in
    let shape : c.in-Ok.cube.shape ≡ s = f.cube.1 in
    let from : first_sample c.args.layout c.in-Ok.cube.shape c.args.part ≡ first_sample c.args.layout s c.args.part = rw shape refl in
    let many : part_samples c.args.layout c.in-Ok.cube.shape c.args.part ≡ part_samples c.args.layout s c.args.part = rw shape refl in
    found_more s k c.args.layout before c.args.bytes.now (first_sample c.args.layout s c.args.part) (part_samples c.args.layout s c.args.part)
    (first_sample c.args.layout c.in-Ok.cube.shape c.args.part) (part_samples c.args.layout c.in-Ok.cube.shape c.args.part) c.in-Ok.cube c.read_part.result f
    from many long c.read_part.ensures.whole c.read_part.ensures.same c.read_part.ensures.read c.read_part.ensures.fits c.read_part.ensures.samples
    c.read_part.ensures.refused

pub returns-in-Err : goal.returns-in-Err
returns-in-Err c s k before long found =
    let f : IsFound s k c.args.layout before (first_sample c.args.layout s c.args.part) (Err c.in-Err.fault) = rw c.in-Err.is at found in
    record {
      long = omega (arith, long, f.long, length-append before c.args.bytes.now);
      cube = tt;
      bad = bad_stays k c.args.layout before c.args.bytes.now c.in-Err.fault f.bad;
    }
