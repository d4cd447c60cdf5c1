use Rattle.std.proofs.lemmas.Bool.Decides.{when_false}
use Rattle.json_flat.specs.Columns.{Has}
use Rattle.json_flat.specs.Meaning.{text_timestamp}
use Rattle.json_flat.specs.Reading.{reading}
use Rattle.json_columns.proofs.Refusing.{overflows}
use Rattle.json_columns.proofs.values.overflow.Goals as goal

pub returns-else-any_has_text : goal.returns-else-any_has_text
returns-else-any_has_text c =
    let text = Has text_timestamp (reading c.args.data_type.now) c.args.values.now in
    overflows c.args.data_type.now c.args.values.now c.requires.distinct c.requires.readable c.requires.fault (when_false text (text → ⊥) c.if-any_has_text.false c.any_has_text.ensures)
