use Rattle.header_bits.proofs.Windows.{piece_of, piece_below}
use Rattle.header_bits.proofs.bit_reader.piece_at.Goals as goal

pub returns-clause-bits : goal.returns-clause-bits
returns-clause-bits c = piece_of c.args.bytes.now c.args.at c.args.n c.window_at.result c.requires.few c.requires.enough c.window_at.ensures

pub returns-clause-below : goal.returns-clause-below
returns-clause-below c = piece_below c.window_at.result c.args.n c.requires.few c.window_at.type_inv
