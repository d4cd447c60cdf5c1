-- The names so far and those of the fields that are left are all of them.
use Rattle.avro_ndjson.proofs.KeptLists.{KeptSoFar}
use Rattle.avrocat_commands.proofs.block.kept_names.Given as goal

abbrev pub invariant-loop-i : goal.invariant-loop-i
invariant-loop-i l = KeptSoFar (λ f. f.name) l.avro_fields l.projection l.i l.names.items
