use Rattle.avro_types.proofs.CarriedSchemas.{is_array, is_nullable, is_record}
use Rattle.avro_types.proofs.carried.+carried.Goals as goal

pub is_carried-returns-in-Record : goal.is_carried-returns-in-Record
is_carried-returns-in-Record t c =
    is_record c.args.schema.now c.is_record_carried.result c.in-Record.record c.as_slice.result.now c.in-Record.is c.as_slice.ensures c.is_record_carried.ensures

pub is_carried-returns-in-Array : goal.is_carried-returns-in-Array
is_carried-returns-in-Array t c =
    is_array c.args.schema.now c.is_carried.result c.in-Array.item c.get.result.now c.in-Array.is c.get.ensures c.is_carried.ensures

pub is_carried-returns-in-Union : goal.is_carried-returns-in-Union
is_carried-returns-in-Union t c =
    is_nullable c.args.schema.now c.is_union_carried.result c.in-Union.members c.as_slice-in-Union.result.now c.in-Union.is c.as_slice-in-Union.ensures c.is_union_carried.ensures
