use Rattle.std.proofs.Common.{sym, subst}
use Rattle.arrow_array.specs.Arrays.{array_slots}
use Rattle.arrow_core.specs.declared.types.DataType.{DataType}
use Rattle.ndjson_read.proofs.RowLemmas.{handed_on}
use Rattle.ndjson_avro.specs.Steps.{IsRootOf}
use Rattle.ndjson_avro.proofs.Reasons.{encoded_rows, lacks_a_value, not_written_rows, read_length}
use Rattle.ndjson_avro.proofs.encoder.BlockEncoder.fill_block.Goals as goal

pub returns-in_err-array-clause-err : goal.returns-in_err-array-clause-err
returns-in_err-array-clause-err c =
    handed_on _ _ c.from_residual.result c.from_residual.ensures.1 (not_written_rows c.args.self.now.row_type c.args.self.now.root c.args.rows.now _ c.requires.root c.in_err-array.ensures.err)

pub encode_rows-requires-clause-root : goal.encode_rows-requires-clause-root
encode_rows-requires-clause-root c = subst (λ (t : DataType). IsRootOf c.args.self.now.root t) (sym c.in_ok-array.ensures.data_type) c.requires.root

pub encode_rows-requires-clause-number : goal.encode_rows-requires-clause-number
encode_rows-requires-clause-number c = read_length c.args.self.now.row_type c.args.rows.now (array_slots c.in_ok-array.array) c.in_ok-array.ensures.ok

pub returns-in_err-encode_rows-clause-err : goal.returns-in_err-encode_rows-clause-err
returns-in_err-encode_rows-clause-err c =
    handed_on _ _ c.from_residual-in_err-encode_rows.result c.from_residual-in_err-encode_rows.ensures.1
    (lacks_a_value c.args.self.now.row_type c.args.self.now.root c.args.rows.now (array_slots c.in_ok-array.array) _ c.in_ok-array.ensures.ok c.in_err-encode_rows.ensures.err)

pub returns-clause-ok : goal.returns-clause-ok
returns-clause-ok c =
    encoded_rows c.args.self.now.row_type c.args.self.now.root c.args.rows.now (array_slots c.in_ok-array.array) _ c.in_ok-array.ensures.ok c.in_ok-encode_rows.ensures.complete c.in_ok-encode_rows.ensures.paired c.in_ok-encode_rows.ensures.ok
