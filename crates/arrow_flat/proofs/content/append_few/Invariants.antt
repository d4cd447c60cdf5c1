use Rattle.std.proofs.Common.{◌≡◌, ◌+◌, ◌++◌, take, vec_len, vec_capacity}
use Rattle.arrow_flat.proofs.content.append_few.Given as goal

abbrev pub invariant-loop-byte : goal.invariant-loop-byte
invariant-loop-byte l = record {
  items : l.values.items ≡ l.fn.values.items ++ take l.byte-index l.bytes;
  len : vec_len l.values ≡ vec_len l.fn.values + l.byte-index;
  capacity : vec_capacity l.values ≡ vec_capacity l.fn.values;
}
