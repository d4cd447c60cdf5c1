-- Where there is no column, a schema is not carried.
use Rattle.std.proofs.Common.{◌∙◌, ap}
use Rattle.std.proofs.lemmas.Result.{err_from_is_err_and}
use Rattle.avro_schema.specs.declared.schema.Record.{out-roll-Record}
use Rattle.avrocat_commands.proofs.RefusalLemmas.{no_column, of_block}
use Rattle.avrocat_commands.proofs.block.block_lines.Goals as goal

pub returns-in_err-fields-clause-err : goal.returns-in_err-fields-clause-err
returns-in_err-fields-clause-err c =
    let r = c.from_residual-in_err-fields in
    let p = err_from_is_err_and r.result r.ensures.1 in
    let fields = ap (λ o. o.fields) (out-roll-Record _) in
    rw (p.1, p.2) (no_column c.args.words _ c.args.bytes.items _ fields c.in_err-fields.ensures.err)

pub returns-clause-err : goal.returns-clause-err
returns-clause-err c =
    let fields = c.as_slice-2.ensures ∙ ap (λ o. o.fields) (out-roll-Record _) in
    of_block c.args.words _ _ c.args.bytes.items _ c.chunk_lines.result fields c.as_slice-3.ensures c.from_vec.ensures c.chunk_lines.ensures.err
