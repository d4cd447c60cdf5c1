-- The lines are those of the columns that were read.
use Rattle.std.proofs.lemmas.Result.{err_from_is_err_and}
use Rattle.avrocat_commands.specs.Blocks.{IsValid}
use Rattle.cli_words.specs.declared.command.BlockWords.{BlockWords}
use Rattle.avrocat_commands.proofs.BlockLemmas.{a_name_each, block_shown}
use Rattle.avrocat_commands.proofs.RefusalLemmas.{is_wrong}
use Rattle.avrocat_commands.proofs.block.chunk_lines.Goals as goal

pub push_columns-requires : goal.push_columns-requires
push_columns-requires c =
    let read = c.in_ok-chunk.ensures in
    a_name_each c.args.fields.now c.args.avro_fields.now c.args.projection.now _ _ _ _ read.together.lengths.0 read.data_types c.arrays.ensures.arrays c.as_slice.ensures.value c.in_ok-names.ensures.ok

pub returns-in_err-chunk-clause-err : goal.returns-in_err-chunk-clause-err
returns-in_err-chunk-clause-err c =
    let p = err_from_is_err_and c.from_residual.result c.from_residual.ensures.1 in
    let block : BlockWords = record { rows = c.args.block.now.number_of_rows; avro_fields = c.args.avro_fields.now; projection = c.args.projection.now; large = c.args.large } in
    rw (p.1, p.2) (is_wrong block c.args.fields.now c.args.block.now.bytes c.requires.lengths c.requires.typed c.requires.within _ c.in_err-chunk.ensures.err)

pub returns-clause-ok : goal.returns-clause-ok
returns-clause-ok c =
    let read = c.in_ok-chunk.ensures in
    let block : BlockWords = record { rows = c.args.block.now.number_of_rows; avro_fields = c.args.avro_fields.now; projection = c.args.projection.now; large = c.args.large } in
    let valid : IsValid block c.args.block.now.bytes =
    record { fields = c.args.fields.now; typed = c.requires.typed; valid = read.valid } in
    block_shown block c.args.fields.now _ _ _ _ _ _ _ valid read.together.lengths.0 read.data_types read.columns c.arrays.ensures.arrays c.as_slice.ensures.value c.in_ok-names.ensures.ok c.new-lines.ensures c.in_ok-push_columns.ensures.ok
