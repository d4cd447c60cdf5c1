-- The fields so far and those that are left are all that are kept.
use Rattle.arrow_core.specs.declared.types.Field.{Field}
use Rattle.avro_ndjson.proofs.KeptLists.{KeptSoFar}
use Rattle.avro_ndjson.proofs.fields.kept_fields.Given as goal

abbrev pub invariant-loop-i : goal.invariant-loop-i
invariant-loop-i l = KeptSoFar (λ (f : Field). f) l.fields l.projection l.i l.kept.items
