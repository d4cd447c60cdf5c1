-- The large ones are those of the fields so far.
use Rattle.std.proofs.Common.{◌≡◌, map, take}
use Rattle.avro_types.specs.Enlarged.{enlarged}
use Rattle.avro_types.proofs.large_forms.+enlarge.Given as goal

abbrev pub invariant-enlarge_fields-loop-field : goal.invariant-enlarge_fields-loop-field
invariant-enlarge_fields-loop-field l = (l.large.items ≡ map enlarged (take l.field-index l.field-items)) × (l.field-items ≡ l.fields)
