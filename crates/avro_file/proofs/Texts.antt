-- The text of each kind of schema.
use Rattle.std.proofs.Common.{◌≡◌, ℕ, List, ◌++◌, map, Option, codes, sym, ap, ◌∙◌}
use Rattle.avro_schema.specs.declared.schema.Schema.{Schema, fold-roll-Schema}
use Rattle.avro_schema.specs.declared.schema.Schema.TheOpen as layer
use Rattle.avro_schema.specs.declared.schema.Schema.TheVariants as variant
use Rattle.avro_schema.specs.declared.schema.Record.{Record, out-Record, fold_out-Record}
use Rattle.avro_schema.specs.declared.schema.AvroField.{AvroField, out-AvroField, fold_out-AvroField}
use Rattle.avro_schema.specs.declared.schema.Enum.{Enum}
use Rattle.avro_schema.specs.declared.schema.Fixed.{Fixed}
use Rattle.avro_schema.specs.declared.schema.IntLogical.{IntLogical}
use Rattle.avro_schema.specs.declared.schema.LongLogical.{LongLogical}
use Rattle.avro_schema.specs.declared.schema.BytesLogical.{BytesLogical}
use Rattle.avro_schema.specs.declared.schema.StringLogical.{StringLogical}
use Rattle.arrow_base.specs.Joined.{joined}
use Rattle.avro_file.specs.Writing.{schema_text_of, field_text_of, record_text_of, schema_step, field_step, record_step, given, int_text, long_text, bytes_text, string_text, enum_text, fixed_text}
use Rattle.arrow_base.specs.WrittenString.{json_string}

pub text-Null : schema_text_of variant.Null ≡ codes "\"null\""
unfolding schema_text_of
text-Null = ap schema_text_of (sym variant.rolls-Null) ∙ fold-roll-Schema (List ℕ) (List ℕ) (List ℕ) schema_step field_step record_step layer.Null

pub text-Boolean : schema_text_of variant.Boolean ≡ codes "\"boolean\""
unfolding schema_text_of
text-Boolean = ap schema_text_of (sym variant.rolls-Boolean) ∙ fold-roll-Schema (List ℕ) (List ℕ) (List ℕ) schema_step field_step record_step layer.Boolean

pub text-Float : schema_text_of variant.Float ≡ codes "\"float\""
unfolding schema_text_of
text-Float = ap schema_text_of (sym variant.rolls-Float) ∙ fold-roll-Schema (List ℕ) (List ℕ) (List ℕ) schema_step field_step record_step layer.Float

pub text-Double : schema_text_of variant.Double ≡ codes "\"double\""
unfolding schema_text_of
text-Double = ap schema_text_of (sym variant.rolls-Double) ∙ fold-roll-Schema (List ℕ) (List ℕ) (List ℕ) schema_step field_step record_step layer.Double

pub text-Int : (logical : Option IntLogical) → schema_text_of (variant.Int logical) ≡ int_text logical
unfolding schema_text_of
text-Int logical = ap schema_text_of (sym (variant.rolls-Int logical)) ∙ fold-roll-Schema (List ℕ) (List ℕ) (List ℕ) schema_step field_step record_step (layer.Int logical)

pub text-Long : (logical : Option LongLogical) → schema_text_of (variant.Long logical) ≡ long_text logical
unfolding schema_text_of
text-Long logical = ap schema_text_of (sym (variant.rolls-Long logical)) ∙ fold-roll-Schema (List ℕ) (List ℕ) (List ℕ) schema_step field_step record_step (layer.Long logical)

pub text-Bytes : (logical : Option BytesLogical) → schema_text_of (variant.Bytes logical) ≡ bytes_text logical
unfolding schema_text_of
text-Bytes logical = ap schema_text_of (sym (variant.rolls-Bytes logical)) ∙ fold-roll-Schema (List ℕ) (List ℕ) (List ℕ) schema_step field_step record_step (layer.Bytes logical)

pub text-String : (logical : Option StringLogical) → schema_text_of (variant.String logical) ≡ string_text logical
unfolding schema_text_of
text-String logical = ap schema_text_of (sym (variant.rolls-String logical)) ∙ fold-roll-Schema (List ℕ) (List ℕ) (List ℕ) schema_step field_step record_step (layer.String logical)

pub text-Enum : (e : Enum) → schema_text_of (variant.Enum e) ≡ enum_text e
unfolding schema_text_of
text-Enum e = ap schema_text_of (sym (variant.rolls-Enum e)) ∙ fold-roll-Schema (List ℕ) (List ℕ) (List ℕ) schema_step field_step record_step (layer.Enum e)

pub text-Fixed : (f : Fixed) → schema_text_of (variant.Fixed f) ≡ fixed_text f
unfolding schema_text_of
text-Fixed f = ap schema_text_of (sym (variant.rolls-Fixed f)) ∙ fold-roll-Schema (List ℕ) (List ℕ) (List ℕ) schema_step field_step record_step (layer.Fixed f)

pub text-Array : (item : Schema) → schema_text_of (variant.Array item) ≡ codes "{\"type\":\"array\",\"items\":" ++ schema_text_of item ++ codes "}"
unfolding schema_text_of
text-Array item = ap schema_text_of (sym (variant.rolls-Array item)) ∙ fold-roll-Schema (List ℕ) (List ℕ) (List ℕ) schema_step field_step record_step (layer.Array item)

pub text-Map : (value : Schema) → schema_text_of (variant.Map value) ≡ codes "{\"type\":\"map\",\"values\":" ++ schema_text_of value ++ codes "}"
unfolding schema_text_of
text-Map value = ap schema_text_of (sym (variant.rolls-Map value)) ∙ fold-roll-Schema (List ℕ) (List ℕ) (List ℕ) schema_step field_step record_step (layer.Map value)

pub text-Union : (members : List Schema) → schema_text_of (variant.Union members) ≡ codes "[" ++ joined (map schema_text_of members) ++ codes "]"
unfolding schema_text_of
text-Union members = ap schema_text_of (sym (variant.rolls-Union members)) ∙ fold-roll-Schema (List ℕ) (List ℕ) (List ℕ) schema_step field_step record_step (layer.Union members)

pub text-Record : (r : Record) → schema_text_of (variant.Record r) ≡ record_text_of r
unfolding schema_text_of record_text_of
text-Record r = ap schema_text_of (sym (variant.rolls-Record r)) ∙ fold-roll-Schema (List ℕ) (List ℕ) (List ℕ) schema_step field_step record_step (layer.Record r)

pub record-text : (r : Record) → record_text_of r ≡ codes "{\"type\":\"record\",\"name\":" ++ json_string (out-Record r).name ++ given (codes ",\"namespace\":") (out-Record r).namespace ++ given (codes ",\"doc\":") (out-Record r).doc ++ codes ",\"fields\":[" ++ joined (map field_text_of (out-Record r).fields) ++ codes "]}"
unfolding record_text_of field_text_of
record-text r = fold_out-Record (List ℕ) (List ℕ) (List ℕ) schema_step field_step record_step r

pub field-text : (f : AvroField) → field_text_of f ≡ codes "{\"name\":" ++ json_string (out-AvroField f).name ++ given (codes ",\"doc\":") (out-AvroField f).doc ++ codes ",\"type\":" ++ schema_text_of (out-AvroField f).schema ++ codes "}"
unfolding field_text_of schema_text_of
field-text f = fold_out-AvroField (List ℕ) (List ℕ) (List ℕ) schema_step field_step record_step f
