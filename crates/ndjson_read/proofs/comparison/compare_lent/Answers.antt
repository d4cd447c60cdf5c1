use Rattle.std.proofs.Common.{ap, ◌∙◌}
use Rattle.json_lend.specs.Standing.{lent_value}
use Rattle.json_infer.specs.Inferred.{type_of}
use Rattle.ndjson_read.proofs.TypeLaws.{type_of_null}
use Rattle.ndjson_read.proofs.comparison.compare_lent.Goals as goal

pub returns-in-Null : goal.returns-in-Null
returns-in-Null c = ap type_of (ap lent_value c.in-Null.is) ∙ type_of_null
