-- How deep types may still nest; what was written and what is left to write are the whole.
use Rattle.std.proofs.Common.{◌≡◌, ◌+◌, ◌*◌, ◌++◌, drop, map, codes}
use Rattle.cli_words.specs.Printed.{joined, field_word, type_word}
use Rattle.cli_words.proofs.Joins.{led}
use Rattle.cli_words.proofs.print.+print.Given as goal

abbrev pub decreases-push_word : goal.decreases-push_word
decreases-push_word l = 6 * l.depth

abbrev pub decreases-push_marked : goal.decreases-push_marked
decreases-push_marked l = 6 * l.depth + 5

abbrev pub decreases-push_base : goal.decreases-push_base
decreases-push_base l = 6 * l.depth + 4

abbrev pub decreases-push_list : goal.decreases-push_list
decreases-push_list l = 6 * l.depth + 3

abbrev pub decreases-push_record : goal.decreases-push_record
decreases-push_record l = 6 * l.depth + 3

abbrev pub decreases-push_fields : goal.decreases-push_fields
decreases-push_fields l = 6 * l.depth + 2

abbrev pub decreases-push_field : goal.decreases-push_field
decreases-push_field l = 6 * l.depth + 1

abbrev pub invariant-push_fields-loop-field : goal.invariant-push_fields-loop-field
invariant-push_fields-loop-field l =
    l.text.items ++ led (codes ";") l.before (map (field_word (type_word l.depth)) (drop l.field-index l.fields))
    ≡ l.initial.text.items ++ joined (codes ";") (map (field_word (type_word l.depth)) l.fields)
