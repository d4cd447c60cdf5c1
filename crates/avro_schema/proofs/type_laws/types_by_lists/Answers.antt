use Rattle.avro_schema.proofs.TypeLemmas.{type_composites, float_composites, enum_composites, small_composites}
use Rattle.avro_schema.proofs.InferredLemmas.{inferred_composites}
use Rattle.avro_schema.proofs.type_laws.types_by_lists.Goals as goal

pub returns-clause-types : goal.returns-clause-types
returns-clause-types c = type_composites

pub returns-clause-floats : goal.returns-clause-floats
returns-clause-floats c = float_composites

pub returns-clause-enums : goal.returns-clause-enums
returns-clause-enums c = enum_composites

pub returns-clause-small : goal.returns-clause-small
returns-clause-small c = small_composites

pub returns-clause-inferred : goal.returns-clause-inferred
returns-clause-inferred c = inferred_composites
