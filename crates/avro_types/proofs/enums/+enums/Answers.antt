use Rattle.avro_types.proofs.Parts.{enums_array, enums_map, enums_union, enums_record, enums_here}
use Rattle.avro_types.proofs.enums.+enums.Goals as goal

pub enums_fit-returns-in-Enum : goal.enums_fit-returns-in-Enum
enums_fit-returns-in-Enum t c =
    enums_here c.args.schema.now c.symbols_fit.result c.in-Enum.enumeration c.as_slice.result.now c.in-Enum.is c.as_slice.ensures c.symbols_fit.ensures

pub enums_fit-returns-in-Record : goal.enums_fit-returns-in-Record
enums_fit-returns-in-Record t c =
    enums_record c.args.schema.now c.enums_of_fields_fit.result c.in-Record.record c.as_slice-in-Record.result.now c.in-Record.is c.as_slice-in-Record.ensures c.enums_of_fields_fit.ensures

pub enums_fit-returns-in-Array : goal.enums_fit-returns-in-Array
enums_fit-returns-in-Array t c =
    enums_array c.args.schema.now c.enums_fit.result c.in-Array.item c.get.result.now c.in-Array.is c.get.ensures c.enums_fit.ensures

pub enums_fit-returns-in-Map : goal.enums_fit-returns-in-Map
enums_fit-returns-in-Map t c =
    enums_map c.args.schema.now c.enums_fit-in-Map.result c.in-Map.value c.get-in-Map.result.now c.in-Map.is c.get-in-Map.ensures c.enums_fit-in-Map.ensures

pub enums_fit-returns-in-Union : goal.enums_fit-returns-in-Union
enums_fit-returns-in-Union t c =
    enums_union c.args.schema.now c.enums_of_members_fit.result c.in-Union.members c.as_slice-in-Union.result.now c.in-Union.is c.as_slice-in-Union.ensures c.enums_of_members_fit.ensures
