-- The copies are the texts so far.
use Rattle.std.proofs.Common.{◌≡◌, take}
use Rattle.avro_schema.proofs.cloned.clone_texts.Given as goal

abbrev pub invariant-loop-text : goal.invariant-loop-text
invariant-loop-text l = (l.copies.items ≡ take l.text-index l.text-items) × (l.text-items ≡ l.texts)
