-- The copies are the fields so far.
use Rattle.std.proofs.Common.{◌≡◌, take}
use Rattle.arrow_core.proofs.cloned.+cloned.Given as goal

abbrev pub invariant-clone_fields-loop-field : goal.invariant-clone_fields-loop-field
invariant-clone_fields-loop-field l = (l.copies.items ≡ take l.field-index l.field-items) × (l.field-items ≡ l.fields)
