use Rattle.arrow_convert.proofs.Forms.{one_canonical_form, files_tell_rows}
use Rattle.arrow_convert.proofs.laws.canonical_forms.Goals as goal

pub returns-clause-one : goal.returns-clause-one
returns-clause-one c = one_canonical_form

pub returns-clause-rows : goal.returns-clause-rows
returns-clause-rows c = files_tell_rows
