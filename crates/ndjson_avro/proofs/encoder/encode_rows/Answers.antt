use Rattle.std.proofs.Common.{inl}
use Rattle.arrow_array.specs.Arrays.{array_slots}
use Rattle.ndjson_read.proofs.RowLemmas.{handed_on}
use Rattle.ndjson_avro.proofs.Batching.{block_filled}
use Rattle.ndjson_avro.proofs.Reasons.{not_encoded}
use Rattle.ndjson_avro.proofs.encoder.encode_rows.Goals as goal

pub returns-in_err-serializer-clause-err : goal.returns-in_err-serializer-clause-err
returns-in_err-serializer-clause-err c = handed_on _ _ c.from_residual.result c.from_residual.ensures.1 (not_encoded c.args.root.now c.args.rows.now _ c.requires.root c.in_err-serializer.ensures.err)

pub returns-in_err-serialize-clause-err : goal.returns-in_err-serialize-clause-err
returns-in_err-serialize-clause-err c = handed_on _ _ c.from_residual-in_err-serialize.result c.from_residual-in_err-serialize.ensures.1 (inl c.in_err-serialize.ensures.memory)

pub returns-clause-ok : goal.returns-clause-ok
returns-clause-ok c =
    block_filled c.args.root.now (array_slots c.args.rows.now) c.args.block.now.number_of_rows c.serialize.new.block.number_of_rows c.in_ok-serializer.serializer.left c.serialize.new.block.bytes c.requires.number c.in_ok-serialize.ensures.number c.in_ok-serializer.ensures.items c.in_ok-serialize.ensures.ok

pub returns-clause-complete : goal.returns-clause-complete
returns-clause-complete c = c.in_ok-serializer.ensures.accepted.nulls

pub returns-clause-paired : goal.returns-clause-paired
returns-clause-paired c = c.in_ok-serializer.ensures.pairs
