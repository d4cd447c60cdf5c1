use Rattle.std.proofs.Common.{◌∙◌, ap, map}
use Rattle.arrow_array.specs.Arrays.{array_slots}
use Rattle.json_columns.proofs.FirstValues.{one_array_more}
use Rattle.json_line.proofs.Making.{taken-all}
use Rattle.ndjson.proofs.SlotLaws.{children_count, slots_more}
use Rattle.ndjson.proofs.encode.+encode.Goals as goal

pub encoded_structs-structs_over-requires-clause-count : goal.encoded_structs-structs_over-requires-clause-count
encoded_structs-structs_over-requires-clause-count t c =
    children_count _ _ c.values.result.now c.in_ok-values-in-Struct.values.items c.values.ensures.data_type c.in_ok-values-in-Struct.ensures.slots

pub encoded_all-loop-i-preserved : goal.encoded_all-loop-i-preserved
encoded_all-loop-i-preserved t c = (
  slots_more c.args.columns.now c.loop-i.made.items _ c.loop-i.i c.index-columns-i.result c.in_ok-column.column c.loop-i-test.true c.index-columns-i.is c.in_ok-column.ensures.slots c.in_ok-push.ensures.items c.loop-i.invariant.0,
  one_array_more c.loop-i.made.items _ c.in_ok-column.column c.loop-i.invariant.1 c.in_ok-column.ensures.dictionaries c.in_ok-push.ensures.items,
)

pub encoded_all-returns : goal.encoded_all-returns
encoded_all-returns t c = record { slots = c.loop-i.invariant.0 ∙ ap (map array_slots) (taken-all c.args.columns.now c.loop-i.i c.loop-i-test.false); dictionaries = c.loop-i.invariant.1 }
