use Rattle.std.proofs.Common.{subst, sym}
use Rattle.ndjson.specs.Rows.{AllStandFor}
use Rattle.ndjson.proofs.ValueLemmas.{no_column_of_all}
use Rattle.ndjson.proofs.columns.read_given.Goals as goal

pub returns-clause-err : goal.returns-clause-err
returns-clause-err g c =
    no_column_of_all g.I.Iterator.next_gives c.args.rows c.args.data_type.now c.as_slice.result.now c.read_values.result
    (subst (AllStandFor g.I.Iterator.next_gives c.args.rows) (sym c.as_slice.ensures.value) c.in_ok-push_given.ensures.values) c.read_values.ensures.err
