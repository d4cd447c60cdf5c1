-- Each field so far has a JSON text.
use Rattle.std.proofs.Common.{◌≡◌, ℕ, ◌<◌, length, get_or, true}
use Rattle.arrow_core.specs.declared.types.Field.{Field}
use Rattle.json_text.specs.Refusals.{has_text}
use Rattle.avro_ndjson.proofs.fields.check_texts.Given as goal

abbrev pub invariant-loop-i : goal.invariant-loop-i
invariant-loop-i l = (k : ℕ) (d : Field) → k < l.i → k < length l.fields → has_text (get_or l.fields k d).data_type ≡ true
