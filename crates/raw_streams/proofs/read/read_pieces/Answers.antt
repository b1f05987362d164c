use Rattle.std.proofs.Common.{◌≡◌, ◌+◌, ◌*◌, ◌∙◌, [], ◌++◌, length, arith, ap, refl, inl, inr}
use Rattle.std.proofs.lemmas.Result.{err_from_is_err_and}
use Rattle.cube_core.specs.Image.{Image}
use Rattle.cube_core.specs.Parts.{first_sample, part_samples, unit_of}
use Rattle.cube_core.specs.Raw.{IsFound}
use Rattle.cube_core.specs.Shape.{sample_count}
use Rattle.command_devices.proofs.Devices.{gave_more}
use Rattle.raw_streams.proofs.Streams.{part_inside, part_refused, end_refused, within_more, gave_within, gave_none, all_came, found_cube, found_bad, found_none}
use Rattle.raw_streams.proofs.Told.{part_told, end_told, from_start, ok_anyway, err_anyway}
use Rattle.raw_streams.proofs.read.read_pieces.Goals as goal

pub returns-in_err-read_bytes-clause-refused : goal.returns-in_err-read_bytes-clause-refused
returns-in_err-read_bytes-clause-refused g c =
    let p = err_from_is_err_and c.from_residual.result c.from_residual.ensures.1 in
    let none : 0 ≡ first_sample c.args.layout c.args.shape c.next_part-first.result * c.args.layout.bytes = rw c.next_part-first.ensures.first (omega arith) in
    rw (p.1, p.2) (part_refused c.args.shape c.args.kind c.args.layout c.next_part-first.result _ _ _ [] _ _ _ _ c.next_part-first.ensures.part
    (gave_none (g.S.Source.left c.args.source.now)) none refl c.in_err-read_bytes.ensures.refused)

pub loop-done-init : goal.loop-done-init
loop-done-init g c =
    let s = c.args.shape in
    let part = c.next_part-first.result in
    let from : first_sample c.args.layout c.args.shape c.next_part-first.result ≡ 0 = rw c.next_part-first.ensures.first (omega arith) in
    let count : first_sample c.args.layout c.args.shape c.next_part-first.result + part_samples c.args.layout c.args.shape c.next_part-first.result
    ≡ c.next_part-first.result.count * unit_of c.args.layout.order c.args.shape = omega (arith, from) in
    let found = c.read_next-found.ensures s c.args.kind [] c.in_ok-read_bytes.ensures.long (found_none s c.args.kind c.args.layout c.in_ok-cube.cube _ from
    c.prove_is_cube.ensures (ap (λ (i : Image). i.shape) c.in_ok-cube.ensures.zeros) (ap (λ (i : Image). i.kind) c.in_ok-cube.ensures.zeros)) in
    record {
      within = omega (arith, c.next_part-first.ensures.part, c.next_part-first.ensures.first, c.units-units.ensures.value);
      worked = c.in_ok-read_bytes.ensures.worked;
      come = (c.read_bytes.new.bytes, c.in_ok-read_bytes.ensures.given, rw count at found);
    }

pub returns-in_err-read_bytes-2-clause-refused : goal.returns-in_err-read_bytes-2-clause-refused
returns-in_err-read_bytes-2-clause-refused g c =
    let p = err_from_is_err_and c.from_residual-in_err-read_bytes-2.result c.from_residual-in_err-read_bytes-2.ensures.1 in
    let come = c.loop-done.invariant.come in
    let long : length come.0 ≡ first_sample c.args.layout c.args.shape c.next_part-part.result * c.args.layout.bytes =
    rw c.next_part-part.ensures.first come.2.long in
    rw (p.1, p.2) (part_refused c.args.shape c.args.kind c.args.layout c.next_part-part.result _ _ _ come.0 _ _ _ _ c.next_part-part.ensures.part come.1 long
    c.loop-done.invariant.worked c.in_err-read_bytes-2.ensures.refused)

pub returns-in_err-read_bytes-2-clause-bounded : goal.returns-in_err-read_bytes-2-clause-bounded
returns-in_err-read_bytes-2-clause-bounded g c =
    let come = c.loop-done.invariant.come in
    let long : length come.0 ≡ first_sample c.args.layout c.args.shape c.next_part-part.result * c.args.layout.bytes =
    rw c.next_part-part.ensures.first come.2.long in
    within_more _ _ _ come.0 _ _ come.1 c.in_err-read_bytes-2.ensures.bounded
    (omega (arith, long, part_inside c.args.layout c.args.shape c.next_part-part.result c.next_part-part.ensures.part))

pub loop-done-preserved : goal.loop-done-preserved
loop-done-preserved g c =
    let s = c.args.shape in
    let come = c.loop-done.invariant.come in
    let first : c.next_part-part.result.first ≡ c.loop-done.done = c.next_part-part.ensures.first in
    let known : IsFound c.args.shape c.args.kind c.args.layout come.0 (first_sample c.args.layout c.args.shape c.next_part-part.result) c.loop-done.found =
    rw first come.2 in
    let count : first_sample c.args.layout c.args.shape c.next_part-part.result + part_samples c.args.layout c.args.shape c.next_part-part.result
    ≡ (c.loop-done.done + c.next_part-part.result.count) * unit_of c.args.layout.order c.args.shape = rw first (omega arith) in
    let found = c.read_next-found-in-loop-done.ensures s c.args.kind come.0 c.in_ok-read_bytes-2.ensures.long known in
    record {
      within = omega (arith, c.next_part-part.ensures.part, first, c.units-units.ensures.value);
      worked = c.in_ok-read_bytes-2.ensures.worked ∙ c.loop-done.invariant.worked;
      come = (come.0 ++ c.read_bytes-in-loop-done.new.bytes, gave_more _ _ _ come.0 _ come.1 c.in_ok-read_bytes-2.ensures.given, rw count at found);
    }

pub returns-in_err-read_end-clause-refused : goal.returns-in_err-read_end-clause-refused
returns-in_err-read_end-clause-refused g c =
    let p = err_from_is_err_and c.from_residual-in_err-read_end.result c.from_residual-in_err-read_end.ensures.1 in
    let come = c.loop-done.invariant.come in
    let all : c.loop-done.done ≡ c.units-units.result = omega (arith, c.loop-done.invariant.within) in
    let samples : c.loop-done.done * unit_of c.args.layout.order c.args.shape ≡ sample_count c.args.shape = rw all c.units-units.ensures.samples in
    rw (p.1, p.2) (end_refused c.args.shape c.args.kind c.args.layout _ _ _ come.0 _ _ _ _ come.1 (rw (← samples) come.2.long) c.loop-done.invariant.worked
    c.in_err-read_end.ensures.refused)

pub returns-in_err-read_end-clause-bounded : goal.returns-in_err-read_end-clause-bounded
returns-in_err-read_end-clause-bounded g c =
    let come = c.loop-done.invariant.come in
    let all : c.loop-done.done ≡ c.units-units.result = omega (arith, c.loop-done.invariant.within) in
    let samples : c.loop-done.done * unit_of c.args.layout.order c.args.shape ≡ sample_count c.args.shape = rw all c.units-units.ensures.samples in
    let long : length come.0 ≡ sample_count c.args.shape * c.args.layout.bytes = rw (← samples) come.2.long in
    within_more _ _ _ come.0 1 _ come.1 c.in_err-read_end.ensures.bounded (omega (arith, long))

pub returns-clause-cube : goal.returns-clause-cube
returns-clause-cube g c =
    let come = c.loop-done.invariant.come in
    let all : c.loop-done.done ≡ c.units-units.result = omega (arith, c.loop-done.invariant.within) in
    let samples : c.loop-done.done * unit_of c.args.layout.order c.args.shape ≡ sample_count c.args.shape = rw all c.units-units.ensures.samples in
    found_cube c.args.shape c.args.kind c.args.layout _ _ come.0 _ c.loop-done.found c.requires.layout (omega (arith, c.sample_count-count.ensures.value, c.sample_count-count.ensures.range)) samples
    (all_came _ _ _ come.0 come.1 c.in_ok-read_end.ensures.given) c.in_ok-read_end.ensures.ended come.2

pub returns-clause-refused : goal.returns-clause-refused
returns-clause-refused g c =
    let come = c.loop-done.invariant.come in
    let all : c.loop-done.done ≡ c.units-units.result = omega (arith, c.loop-done.invariant.within) in
    let samples : c.loop-done.done * unit_of c.args.layout.order c.args.shape ≡ sample_count c.args.shape = rw all c.units-units.ensures.samples in
    found_bad c.args.shape c.args.kind c.args.layout _ _ come.0 _ _ _ c.loop-done.found samples
    (all_came _ _ _ come.0 come.1 c.in_ok-read_end.ensures.given) c.in_ok-read_end.ensures.ended come.2

pub returns-clause-bounded : goal.returns-clause-bounded
returns-clause-bounded g c =
    let come = c.loop-done.invariant.come in
    let all : c.loop-done.done ≡ c.units-units.result = omega (arith, c.loop-done.invariant.within) in
    let samples : c.loop-done.done * unit_of c.args.layout.order c.args.shape ≡ sample_count c.args.shape = rw all c.units-units.ensures.samples in
    let long : length come.0 ≡ sample_count c.args.shape * c.args.layout.bytes = rw (← samples) come.2.long in
    gave_within _ _ come.0 _ (all_came _ _ _ come.0 come.1 c.in_ok-read_end.ensures.given) (omega (arith, long))

pub returns-in_err-read_bytes-clause-told : goal.returns-in_err-read_bytes-clause-told
returns-in_err-read_bytes-clause-told g c =
    let p = err_from_is_err_and c.from_residual.result c.from_residual.ensures.1 in
    rw (p.1, p.2) (part_told c.args.shape c.args.layout c.next_part-first.result _ _ _ _ _ _ refl c.in_err-read_bytes.ensures.refused)

pub returns-in_err-read_bytes-clause-bounded : goal.returns-in_err-read_bytes-clause-bounded
returns-in_err-read_bytes-clause-bounded g c =
    from_start c.args.layout c.args.shape c.next_part-first.result _ _ c.next_part-first.ensures.part c.in_err-read_bytes.ensures.bounded

pub returns-in_err-read_bytes-2-clause-told : goal.returns-in_err-read_bytes-2-clause-told
returns-in_err-read_bytes-2-clause-told g c =
    let p = err_from_is_err_and c.from_residual-in_err-read_bytes-2.result c.from_residual-in_err-read_bytes-2.ensures.1 in
    rw (p.1, p.2) (part_told c.args.shape c.args.layout c.next_part-part.result _ _ _ _ _ _ c.loop-done.invariant.worked c.in_err-read_bytes-2.ensures.refused)

pub returns-in_err-read_end-clause-told : goal.returns-in_err-read_end-clause-told
returns-in_err-read_end-clause-told g c =
    let p = err_from_is_err_and c.from_residual-in_err-read_end.result c.from_residual-in_err-read_end.ensures.1 in
    rw (p.1, p.2) (end_told c.args.shape c.args.layout _ _ _ _ _ _ c.loop-done.invariant.worked c.in_err-read_end.ensures.refused)

pub returns-clause-worked : goal.returns-clause-worked
returns-clause-worked g c = ok_anyway c.loop-done.found (c.in_ok-read_end.ensures.worked ∙ c.loop-done.invariant.worked)

pub returns-clause-told : goal.returns-clause-told
returns-clause-told g c = err_anyway c.loop-done.found (c.in_ok-read_end.ensures.worked ∙ c.loop-done.invariant.worked)

pub returns-in_err-cube-clause-refused : goal.returns-in_err-cube-clause-refused
returns-in_err-cube-clause-refused g c =
    let p = err_from_is_err_and c.from_residual-in_err-cube.result c.from_residual-in_err-cube.ensures.1 in
    rw (p.1, p.2) (inr (inl c.in_err-cube.ensures.memory))

pub returns-in_err-cube-clause-told : goal.returns-in_err-cube-clause-told
returns-in_err-cube-clause-told g c =
    let p = err_from_is_err_and c.from_residual-in_err-cube.result c.from_residual-in_err-cube.ensures.1 in
    rw p.1 (inr c.in_ok-read_bytes.ensures.worked)

pub returns-in_err-cube-clause-bounded : goal.returns-in_err-cube-clause-bounded
returns-in_err-cube-clause-bounded g c =
    from_start c.args.layout c.args.shape c.next_part-first.result _ _ c.next_part-first.ensures.part c.in_ok-read_bytes.ensures.bounded
