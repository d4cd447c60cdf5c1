-- Each field before this one has what is asked for.
use Rattle.std.proofs.Common.{◌≡◌, true, take}
use Rattle.std.specs.List.{list_all}
use Rattle.arrow_core.specs.declared.types.Field.{Field as TheField}
use Rattle.json_text.specs.Refusals.{has_offsets}
use Rattle.json_text.proofs.types.+offsets.Given as goal

abbrev pub invariant-have_offsets-loop-field : goal.invariant-have_offsets-loop-field
invariant-have_offsets-loop-field l = list_all (λ (f : TheField). has_offsets f.data_type) (take l.field-index l.fields) ≡ true
