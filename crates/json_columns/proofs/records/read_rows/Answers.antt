use Rattle.json_columns.proofs.RecordLaws.{read_fields}
use Rattle.json_columns.proofs.records.read_rows.Goals as goal

pub read_columns-requires : goal.read_columns-requires
read_columns-requires c = record { readable = read_fields c.args.fields.now c.requires.readable }
