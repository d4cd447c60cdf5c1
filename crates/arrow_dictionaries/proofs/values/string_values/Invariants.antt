-- The slots, and the bytes, so far are those of the strings so far, and offsets count the bytes.
use Rattle.std.proofs.Common.{◌≡◌, ◌≤◌, map, take}
use Rattle.std.specs.Prelude.{sum_by}
use Rattle.arrow_array.specs.Parts.{utf8_type}
use Rattle.arrow_core.specs.Numbers.{greatest_offset}
use Rattle.arrow_dictionaries.specs.Encoding.{string_size}
use Rattle.arrow_dictionaries.specs.Indices.{string_slot}
use Rattle.arrow_dictionaries.proofs.values.string_values.Given as goal

abbrev pub invariant-loop-string : goal.invariant-loop-string
invariant-loop-string g l = record {
  data_type : l.builder.data_type ≡ utf8_type g.O.Offset.IS_LARGE;
  slots : l.builder.slots ≡ map string_slot (take l.string-index l.strings);
  bytes : l.builder.bytes ≡ sum_by string_size (map string_slot (take l.string-index l.strings));
  within : l.builder.bytes ≤ greatest_offset g.O.Offset.IS_LARGE;
}
