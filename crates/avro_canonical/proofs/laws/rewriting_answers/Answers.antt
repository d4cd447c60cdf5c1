use Rattle.avro_canonical.proofs.Complete.{files_are_rewritten, fields_are_refused, refused_is_not_rewritten, rewritten_does_not_fail}
use Rattle.avro_canonical.proofs.laws.rewriting_answers.Goals as goal

pub returns-clause-rewritten : goal.returns-clause-rewritten
returns-clause-rewritten c = files_are_rewritten

pub returns-clause-refused : goal.returns-clause-refused
returns-clause-refused c = fields_are_refused

pub returns-clause-not_rewritten : goal.returns-clause-not_rewritten
returns-clause-not_rewritten c = refused_is_not_rewritten

pub returns-clause-none_if_rewritten : goal.returns-clause-none_if_rewritten
returns-clause-none_if_rewritten c = rewritten_does_not_fail
