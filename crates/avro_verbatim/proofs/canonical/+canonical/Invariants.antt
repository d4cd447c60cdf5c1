-- What begins with what is left begins with the whole.
use Rattle.std.proofs.Common.{ℕ, List, ◌-◌, drop}
use Rattle.avro_verbatim.specs.Begins.{BeginsWithFields, BeginsWithItems, BeginsWithRows}
use Rattle.avro_verbatim.proofs.canonical.+canonical.Given as goal

abbrev pub invariant-rows_len-loop : goal.invariant-rows_len-loop
invariant-rows_len-loop l = (after : List ℕ) → BeginsWithRows l.fields (l.number_of_rows - l.counter) l.rest after → BeginsWithRows l.fields l.number_of_rows l.fn.bytes after

abbrev pub invariant-skip_fields-loop-field : goal.invariant-skip_fields-loop-field
invariant-skip_fields-loop-field l = (after : List ℕ) → BeginsWithFields (drop l.field-index l.fields) l.rest after → BeginsWithFields l.fields l.fn.bytes after

abbrev pub invariant-skip_values-loop : goal.invariant-skip_values-loop
invariant-skip_values-loop l = (after : List ℕ) → BeginsWithItems l.item (l.count - l.counter) l.rest after → BeginsWithItems l.item l.count l.fn.bytes after
