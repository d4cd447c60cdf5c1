-- Each field before this one has what is asked for.
use Rattle.std.proofs.Common.{◌≡◌, true, take}
use Rattle.std.specs.List.{list_all}
use Rattle.arrow_core.specs.declared.types.Field.{Field as TheField}
use Rattle.json_text.specs.Refusals.{has_text}
use Rattle.json_text.proofs.types.+texts.Given as goal

abbrev pub invariant-have_texts-loop-field : goal.invariant-have_texts-loop-field
invariant-have_texts-loop-field l = list_all (λ (f : TheField). has_text f.data_type) (take l.field-index l.fields) ≡ true
