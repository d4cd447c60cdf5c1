use Rattle.avro_ndjson.proofs.Complete.{files_end, fields_are_refused, refused_is_not_converted}
use Rattle.avro_ndjson.proofs.OneError.{one_error_comes, converted_does_not_fail}
use Rattle.avro_ndjson.proofs.laws.conversion_answers.Goals as goal

pub returns-clause-converted : goal.returns-clause-converted
returns-clause-converted c = files_end

pub returns-clause-refused : goal.returns-clause-refused
returns-clause-refused c = fields_are_refused

pub returns-clause-not_converted : goal.returns-clause-not_converted
returns-clause-not_converted c = refused_is_not_converted

pub returns-clause-one_error : goal.returns-clause-one_error
returns-clause-one_error c = one_error_comes

pub returns-clause-none_if_converted : goal.returns-clause-none_if_converted
returns-clause-none_if_converted c = converted_does_not_fail
