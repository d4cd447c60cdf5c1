use Rattle.std.proofs.Common.{subst}
use Rattle.json_tree.specs.Meaning.{IsJson}
use Rattle.ndjson_read.proofs.Parsing.{with_value}
use Rattle.ndjson_read.proofs.rows.add_text.Goals as goal

pub returns-clause-added : goal.returns-clause-added
returns-clause-added c = with_value _ c.in_ok-value.value _ c.add.result (subst (IsJson c.in_ok-value.value) c.as_bytes.ensures.value c.in_ok-value.ensures.value) c.add.ensures.added
