use Rattle.arrow_core.proofs.EqualTypes.{types_equal, fields_equal, schemas_equal}
use Rattle.arrow_core.proofs.equality.equality_law.Goals as goal

pub returns-clause-types : goal.returns-clause-types
returns-clause-types c = types_equal

pub returns-clause-fields : goal.returns-clause-fields
returns-clause-fields c = fields_equal

pub returns-clause-schemas : goal.returns-clause-schemas
returns-clause-schemas c = schemas_equal
