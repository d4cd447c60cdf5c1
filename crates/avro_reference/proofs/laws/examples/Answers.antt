use Rattle.avro_reference.proofs.ExampleLemmas.{numbers_hold, flat_kinds_hold, decimals_hold, skipped_kinds_hold, rows_of_two_fields_hold, arrays_hold, sizes_below_zero_hold, false_counts_hold}
use Rattle.avro_reference.proofs.laws.examples.Goals as goal

pub returns-clause-numbers : goal.returns-clause-numbers
returns-clause-numbers c = numbers_hold

pub returns-clause-flat_kinds : goal.returns-clause-flat_kinds
returns-clause-flat_kinds c = flat_kinds_hold

pub returns-clause-decimals : goal.returns-clause-decimals
returns-clause-decimals c = decimals_hold

pub returns-clause-skipped : goal.returns-clause-skipped
returns-clause-skipped c = skipped_kinds_hold

pub returns-clause-rows : goal.returns-clause-rows
returns-clause-rows c = rows_of_two_fields_hold

pub returns-clause-arrays : goal.returns-clause-arrays
returns-clause-arrays c = arrays_hold

pub returns-clause-sizes_below_zero : goal.returns-clause-sizes_below_zero
returns-clause-sizes_below_zero c = sizes_below_zero_hold

pub returns-clause-false_counts : goal.returns-clause-false_counts
returns-clause-false_counts c = false_counts_hold
