use Rattle.ndjson_read.proofs.TwoReadings.{one_error_comes, one_type_comes, type_or_error_comes}
use Rattle.ndjson_read.proofs.laws.one_answer.Goals as goal

pub returns-clause-error : goal.returns-clause-error
returns-clause-error c = one_error_comes

pub returns-clause-either : goal.returns-clause-either
returns-clause-either c = type_or_error_comes

pub returns-clause-data_type : goal.returns-clause-data_type
returns-clause-data_type c = one_type_comes
