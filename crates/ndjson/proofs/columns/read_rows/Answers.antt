use Rattle.std.proofs.Common.{subst, sym}
use Rattle.ndjson_read.specs.Needed.{StandFor}
use Rattle.ndjson.proofs.ValueLemmas.{no_column}
use Rattle.ndjson.proofs.columns.read_rows.Goals as goal

pub returns-clause-err : goal.returns-clause-err
returns-clause-err c =
    no_column c.args.rows.now c.args.data_type.now c.as_slice.result.now c.read_values.result (subst (StandFor c.args.rows.now) (sym c.as_slice.ensures.value) c.in_ok-push_values.ensures.values) c.read_values.ensures.err
