use Rattle.std.proofs.Common.{◌+◌, ◌*◌, refl, arith}
use Rattle.lanes.specs.Squares.{rows_of}
use Rattle.file_encoding.proofs.GatheredSquares.{none_put, row_put}
use Rattle.file_encoding.proofs.gather.put_square.Goals as goal

pub returns-clause-before : goal.returns-clause-before
returns-clause-before c =
    let many = c.args.many in let b = c.args.b in let rows = rows_of c.args.square in let old = c.args.residuals.now in let inside = c.requires.inside.0 in
    let none = none_put many b rows old in
    let h1 = row_put many b 0 b rows old old _ inside (omega arith) c.put_row.ensures.here c.put_row.ensures.before c.put_row.ensures.after none in
    let h2 = row_put many b 1 (many + b) rows old _ _ inside (omega arith) c.put_row-2.ensures.here c.put_row-2.ensures.before c.put_row-2.ensures.after h1 in
    let h3 = row_put many b 2 (2 * many + b) rows old _ _ inside refl c.put_row-3.ensures.here c.put_row-3.ensures.before c.put_row-3.ensures.after h2 in
    let h4 = row_put many b 3 (3 * many + b) rows old _ _ inside refl c.put_row-4.ensures.here c.put_row-4.ensures.before c.put_row-4.ensures.after h3 in
    let h5 = row_put many b 4 (4 * many + b) rows old _ _ inside refl c.put_row-5.ensures.here c.put_row-5.ensures.before c.put_row-5.ensures.after h4 in
    let h6 = row_put many b 5 (5 * many + b) rows old _ _ inside refl c.put_row-6.ensures.here c.put_row-6.ensures.before c.put_row-6.ensures.after h5 in
    let h7 = row_put many b 6 (6 * many + b) rows old _ _ inside refl c.put_row-7.ensures.here c.put_row-7.ensures.before c.put_row-7.ensures.after h6 in
    (row_put many b 7 (7 * many + b) rows old _ _ inside refl c.put_row-8.ensures.here c.put_row-8.ensures.before c.put_row-8.ensures.after h7).before
