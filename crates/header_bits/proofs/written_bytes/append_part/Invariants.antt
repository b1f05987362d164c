use Rattle.std.proofs.Common.{◌≡◌, ◌+◌, ◌++◌, take, vec_len, vec_capacity}
use Rattle.header_bits.proofs.written_bytes.append_part.Given as goal

abbrev pub invariant-loop-i : goal.invariant-loop-i
invariant-loop-i l = record {
  items : l.bytes.items ≡ l.initial.bytes.items ++ take l.i l.word;
  len : vec_len l.bytes ≡ vec_len l.initial.bytes + l.i;
  capacity : vec_capacity l.bytes ≡ vec_capacity l.initial.bytes;
}
