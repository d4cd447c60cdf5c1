use Rattle.avro_schema.proofs.EqualSchemas.{schemas_equal, records_equal, fields_equal, enums_equal, fixed_equal, ints_equal, longs_equal, bytes_equal, strings_equal, fixed_logical_equal}
use Rattle.avro_schema.proofs.equality.equality_law.Goals as goal

pub returns-clause-schemas : goal.returns-clause-schemas
returns-clause-schemas c = schemas_equal

pub returns-clause-records : goal.returns-clause-records
returns-clause-records c = records_equal

pub returns-clause-fields : goal.returns-clause-fields
returns-clause-fields c = fields_equal

pub returns-clause-enums : goal.returns-clause-enums
returns-clause-enums c = enums_equal

pub returns-clause-fixed : goal.returns-clause-fixed
returns-clause-fixed c = fixed_equal

pub returns-clause-ints : goal.returns-clause-ints
returns-clause-ints c = ints_equal

pub returns-clause-longs : goal.returns-clause-longs
returns-clause-longs c = longs_equal

pub returns-clause-bytes : goal.returns-clause-bytes
returns-clause-bytes c = bytes_equal

pub returns-clause-strings : goal.returns-clause-strings
returns-clause-strings c = strings_equal

pub returns-clause-fixed_logical : goal.returns-clause-fixed_logical
returns-clause-fixed_logical c = fixed_logical_equal
