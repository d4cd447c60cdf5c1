-- The type of each field before this one can be serialized.
use Rattle.std.proofs.Common.{◌≡◌, true, take}
use Rattle.avro_types.specs.Listed.{can_serialize_all}
use Rattle.avro_types.proofs.serializable.+serializable.Given as goal

abbrev pub invariant-can_serialize_all-loop-field : goal.invariant-can_serialize_all-loop-field
invariant-can_serialize_all-loop-field l = can_serialize_all (take l.field-index l.fields) ≡ true
