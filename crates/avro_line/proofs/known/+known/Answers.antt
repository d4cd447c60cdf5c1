use Rattle.avro_line.proofs.KnownSchemas.{known_array, known_record, known_union}
use Rattle.avro_line.proofs.known.+known.Goals as goal

pub is_known-returns-in-Array : goal.is_known-returns-in-Array
is_known-returns-in-Array t c = known_array c.args.schema.now c.is_known.result c.in-Array.item c.get.result.now c.in-Array.is c.get.ensures c.is_known.ensures

pub is_known-returns-in-Record : goal.is_known-returns-in-Record
is_known-returns-in-Record t c = known_record c.args.schema.now c.fields_are_known.result c.in-Record.record c.as_slice.result.now c.in-Record.is c.as_slice.ensures c.fields_are_known.ensures

pub is_known-returns-in-Union : goal.is_known-returns-in-Union
is_known-returns-in-Union t c = known_union c.args.schema.now c.members_are_known.result c.in-Union.members c.as_slice-in-Union.result.now c.in-Union.is c.as_slice-in-Union.ensures c.members_are_known.ensures
