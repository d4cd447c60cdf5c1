use Rattle.avro_schema.proofs.TypeLemmas.{carried_has_column, small_forms_fit}
use Rattle.avro_schema.proofs.InferredLemmas.{inferred_is_typed, not_inferred}
use Rattle.avro_schema.proofs.type_laws.types_of_schemas.Goals as goal

pub returns-clause-carried : goal.returns-clause-carried
returns-clause-carried c = carried_has_column

pub returns-clause-small : goal.returns-clause-small
returns-clause-small c = small_forms_fit

pub returns-clause-inferred : goal.returns-clause-inferred
returns-clause-inferred c = inferred_is_typed

pub returns-clause-not_inferred : goal.returns-clause-not_inferred
returns-clause-not_inferred c = not_inferred
