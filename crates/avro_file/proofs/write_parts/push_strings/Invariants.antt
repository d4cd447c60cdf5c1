-- What was written and what is left to write are the whole.
use Rattle.std.proofs.Common.{◌≡◌, ◌++◌, drop, map}
use Rattle.arrow_base.specs.WrittenString.{json_string}
use Rattle.arrow_base.specs.Joined.{joined}
use Rattle.arrow_base.proofs.Joins.{led}
use Rattle.avro_file.proofs.write_parts.push_strings.Given as goal

abbrev pub invariant-loop-value : goal.invariant-loop-value
invariant-loop-value l = l.text.items ++ led l.before (map json_string (drop l.value-index l.values)) ≡ l.initial.text.items ++ joined (map json_string l.values)
