use Rattle.std.proofs.lemmas.Bool.Decides.{when_false}
use Rattle.json_flat.specs.Columns.{Has}
use Rattle.json_flat.specs.Meaning.{text_timestamp}
use Rattle.json_columns.specs.Gathered.{field_meanings}
use Rattle.json_flat.specs.Reading.{struct_in}
use Rattle.json_columns.proofs.RecordLaws.{overflows}
use Rattle.json_columns.proofs.records.overflow.Goals as goal

pub returns-else-any_row_has_text : goal.returns-else-any_row_has_text
returns-else-any_row_has_text c =
    let text = Has text_timestamp (struct_in (field_meanings c.args.fields.now)) c.args.rows.now in
    overflows c.args.fields.now c.args.rows.now c.requires.rows c.requires.fault (when_false text (text → ⊥) c.if-any_row_has_text.false c.any_row_has_text.ensures)
