use Rattle.std.proofs.Common.{length}
use Rattle.std.proofs.lemmas.Bool.{eqb-true}
use Rattle.avro_verbatim.proofs.Values.{whole_rows}
use Rattle.avro_verbatim.proofs.canonical.are_canonical_rows.Goals as goal

pub returns-in-Some-clause-rows : goal.returns-in-Some-clause-rows
returns-in-Some-clause-rows c told = whole_rows c.args.number_of_rows c.args.fields.now c.args.bytes.now c.in-Some.len (eqb-true c.in-Some.len (length c.args.bytes.now) told) c.in-Some.ensures.1
