-- The record of a rewritten file can be read back.
use Rattle.std.proofs.Common.{◌≡◌, true, [], sym, subst, append-nil, refl}
use Rattle.json_tree.specs.Grammar.{IsText}
use Rattle.json_tree.specs.Meaning.{IsJson}
use Rattle.avro_schema.specs.declared.schema.Schema as schema
use Rattle.avro_schema.specs.declared.schema.Schema.{Schema}
use Rattle.avro_file.specs.Writable.{IsWritable, numbers_fit}
use Rattle.avro_file.specs.Writing.{schema_text_of}
use Rattle.avro_file.proofs.ReadBack.{schema_back}
use Rattle.arrow_convert.specs.ReadAgain.{RewrittenIsWritable}
use Rattle.arrow_convert.proofs.Fitting.{target_fits}
use Rattle.arrow_convert.proofs.ReadNumbers.{columns_fit}
use Rattle.arrow_convert.proofs.ReadTexts.{columns_written}
use Rattle.arrow_convert.proofs.SchemaTexts.{HasText}
use Rattle.arrow_convert.proofs.WrittenColumns.{target_written}

-- a text that nests at most 128 deep is read back
pub short_is_writable : (s : Schema) → numbers_fit s ≡ true → HasText 128 s → IsWritable s
short_is_writable s numbers h =
    let back = schema_back s numbers 128 h.nested in
    let text = schema_text_of s in
    let is : IsText 128 back.value text = (text, [], ([], text, tt, back.encodes, refl), tt, sym (append-nil text)) in
    record {
      utf8 = h.utf8;
      numbers = numbers;
      nested = λ many. many.4 many.1 back.value (subst (IsJson back.value) many.2 (h.utf8, is));
    }

pub rewritten_is_writable : RewrittenIsWritable
rewritten_is_writable name marker limit source sink count r u =
    let form = r.rewrites.form in
    let means = form.is_file.means.means in
    let fit = columns_fit form.is_file.text form.root form.columns means form.can.inferred in
    let numbers = target_fits form.columns name form.nameless r.rewrites.target form.can.recorded r.rewrites.named fit in
    let written = columns_written form.is_file.text form.root form.columns means form.can.inferred in
    short_is_writable (schema.Record r.rewrites.target) numbers (target_written 126 form.columns name form.nameless r.rewrites.target form.can.recorded r.rewrites.named u written)
