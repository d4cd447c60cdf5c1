use Rattle.avro_reference.proofs.ByLists.{read_array, read_union, read_fields_are, skip_array_is, skip_union, skip_fields_are}
use Rattle.avro_reference.proofs.laws.composites_are_read.Goals as goal

pub returns-clause-read : goal.returns-clause-read
returns-clause-read c = record { array = read_array; union = read_union; fields = read_fields_are }

pub returns-clause-skipped : goal.returns-clause-skipped
returns-clause-skipped c = record { array = skip_array_is; union = skip_union; fields = skip_fields_are }
