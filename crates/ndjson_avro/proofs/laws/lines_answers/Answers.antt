use Rattle.ndjson_avro.proofs.Complete.{lines_are_written}
use Rattle.ndjson_avro.proofs.Refused.{refused_as_due, refused_is_not_converted}
use Rattle.ndjson_avro.proofs.laws.lines_answers.Goals as goal

pub returns-clause-written : goal.returns-clause-written
returns-clause-written c = lines_are_written

pub returns-clause-refused : goal.returns-clause-refused
returns-clause-refused c = λ fields name marker n limit source sink e due wrong h fails. refused_as_due fields name marker n limit source sink due wrong h e fails

pub returns-clause-not_converted : goal.returns-clause-not_converted
returns-clause-not_converted c = λ fields name marker n limit count source sink due wrong h converts. refused_is_not_converted fields name marker n limit source sink due wrong h count converts
