-- What was appended, before what is left, is what the whole gives.
use Rattle.std.proofs.Common.{◌≡◌, ◌++◌, drop, flat_map}
use Rattle.avro_encode.specs.Nullable.{nullable_encoding}
use Rattle.avro_encode.proofs.column.append_run.Given as goal

abbrev pub invariant-loop-i : goal.invariant-loop-i
invariant-loop-i g l =
    l.out.items ++ flat_map (nullable_encoding l.nulls g.A.FlatArray.encoding) (drop l.i (g.A.FlatArray.slots l.array))
    ≡ l.fn.out.items ++ flat_map (nullable_encoding l.nulls g.A.FlatArray.encoding) (drop l.start (g.A.FlatArray.slots l.array))
