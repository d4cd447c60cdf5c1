use Rattle.std.proofs.Common.{inl, refl}
use Rattle.ndjson_read.proofs.RowLemmas.{handed_on}
use Rattle.ndjson_avro.proofs.ndjson.ndjson_to_avro.Goals as goal

pub returns-in_err-encoder-clause-err : goal.returns-in_err-encoder-clause-err
returns-in_err-encoder-clause-err g c = handed_on _ _ c.from_residual.result c.from_residual.ensures.1 (inl (record { source_as_it_was = (refl, refl); sink_as_it_was = (refl, refl); why = c.in_err-encoder.ensures.err }))

pub write_file-requires-clause-root : goal.write_file-requires-clause-root
write_file-requires-clause-root g c = c.in_ok-encoder.ensures.ok.is_root

pub write_file-requires-clause-lines : goal.write_file-requires-clause-lines
write_file-requires-clause-lines g c = c.in_ok-encoder.ensures.ok.are_lines

pub write_file-requires-clause-plan : goal.write_file-requires-clause-plan
write_file-requires-clause-plan g c = c.in_ok-encoder.ensures.ok.is_plan

pub returns-clause-ok : goal.returns-clause-ok
returns-clause-ok g c = c.write_file.ensures.ok c.args.schema.now.fields c.args.name.now c.in_ok-encoder.ensures.ok

pub returns-clause-err : goal.returns-clause-err
returns-clause-err g c = c.write_file.ensures.err c.args.schema.now.fields c.args.name.now c.in_ok-encoder.ensures.ok
