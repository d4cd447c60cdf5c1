-- How deep types may still nest; whether all fields have words is whether those that are left have.
use Rattle.std.proofs.Common.{◌≡◌, ◌+◌, ◌*◌, drop}
use Rattle.std.specs.List.{list_all}
use Rattle.cli_words.specs.Printed.{has_field, has_type}
use Rattle.cli_words.proofs.worded.+worded.Given as goal

abbrev pub decreases-has_type : goal.decreases-has_type
decreases-has_type l = 6 * l.depth

abbrev pub decreases-has_marked : goal.decreases-has_marked
decreases-has_marked l = 6 * l.depth + 5

abbrev pub decreases-has_base : goal.decreases-has_base
decreases-has_base l = 6 * l.depth + 4

abbrev pub decreases-has_fields : goal.decreases-has_fields
decreases-has_fields l = 6 * l.depth + 2

abbrev pub decreases-has_field : goal.decreases-has_field
decreases-has_field l = 6 * l.depth + 1

abbrev pub invariant-has_fields-loop-field : goal.invariant-has_fields-loop-field
invariant-has_fields-loop-field l =
    list_all (has_field (has_type l.depth)) (drop l.field-index l.fields) ≡ list_all (has_field (has_type l.depth)) l.fields
