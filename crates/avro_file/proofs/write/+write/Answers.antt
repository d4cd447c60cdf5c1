-- The parts of each kind of schema are written one after another.
use Rattle.std.proofs.Common.{◌++◌, codes, map, sym, ap, ◌∙◌}
use Rattle.arrow_base.specs.WrittenString.{json_string}
use Rattle.avro_schema.specs.declared.schema.Record.{out-Record}
use Rattle.avro_schema.specs.declared.schema.AvroField.{out-AvroField}
use Rattle.arrow_base.specs.Joined.{joined}
use Rattle.avro_file.specs.Writing.{schema_text_of, record_text_of, field_text_of, given, int_text, long_text, bytes_text, string_text, enum_text, fixed_text}
use Rattle.avro_file.proofs.Appends.{Adds, after, last, alone}
use Rattle.avro_file.proofs.Texts.{text-Null, text-Boolean, text-Int, text-Long, text-Float, text-Double, text-Bytes, text-String, text-Record, text-Enum, text-Array, text-Map, text-Union, text-Fixed, record-text, field-text}
use Rattle.avro_file.proofs.write.+write.Goals as goal

pub push_record-returns-clause-appended : goal.push_record-returns-clause-appended
push_record-returns-clause-appended t c =
    let one : Adds c.push.new.text.items c.args.text.now.items (codes "{\"type\":\"record\",\"name\":") = record { is = c.in_ok-push.ensures.appended } in
    let two : Adds c.push_string.new.text.items c.push.new.text.items (json_string (out-Record c.args.record.now).name) = record { is = c.in_ok-push_string.ensures.appended ∙ ap (λ s. c.push.new.text.items ++ json_string s) c.as_str.ensures } in
    let three : Adds c.push_given.new.text.items c.push_string.new.text.items (given (codes ",\"namespace\":") (out-Record c.args.record.now).namespace) = record { is = c.in_ok-push_given.ensures.appended } in
    let four : Adds c.push_given-2.new.text.items c.push_given.new.text.items (given (codes ",\"doc\":") (out-Record c.args.record.now).doc) = record { is = c.in_ok-push_given-2.ensures.appended } in
    let five : Adds c.push-2.new.text.items c.push_given-2.new.text.items (codes ",\"fields\":[") = record { is = c.in_ok-push-2.ensures.appended } in
    let six : Adds c.push_fields.new.text.items c.push-2.new.text.items (joined (map field_text_of (out-Record c.args.record.now).fields)) = record { is = c.in_ok-push_fields.ensures.appended ∙ ap (λ s. c.push-2.new.text.items ++ joined (map field_text_of s)) c.as_slice.ensures } in
    last c.push-3.result c.push-3.new.text.items (codes "]}") (record_text_of c.args.record.now) (after (after (after (after (after one two) three) four) five) six) (record-text c.args.record.now) c.push-3.ensures.appended

pub push_field-returns-clause-appended : goal.push_field-returns-clause-appended
push_field-returns-clause-appended t c =
    let one : Adds c.push.new.text.items c.args.text.now.items (codes "{\"name\":") = record { is = c.in_ok-push.ensures.appended } in
    let two : Adds c.push_string.new.text.items c.push.new.text.items (json_string (out-AvroField c.args.field.now).name) = record { is = c.in_ok-push_string.ensures.appended ∙ ap (λ s. c.push.new.text.items ++ json_string s) c.as_str.ensures } in
    let three : Adds c.push_given.new.text.items c.push_string.new.text.items (given (codes ",\"doc\":") (out-AvroField c.args.field.now).doc) = record { is = c.in_ok-push_given.ensures.appended } in
    let four : Adds c.push-2.new.text.items c.push_given.new.text.items (codes ",\"type\":") = record { is = c.in_ok-push-2.ensures.appended } in
    let five : Adds c.push_schema.new.text.items c.push-2.new.text.items (schema_text_of (out-AvroField c.args.field.now).schema) = record { is = c.in_ok-push_schema.ensures.appended } in
    last c.push-3.result c.push-3.new.text.items (codes "}") (field_text_of c.args.field.now) (after (after (after (after one two) three) four) five) (field-text c.args.field.now) c.push-3.ensures.appended

pub push_schema-returns-in-Null-clause-appended : goal.push_schema-returns-in-Null-clause-appended
push_schema-returns-in-Null-clause-appended t c =
    alone c.push.result c.args.text.now.items c.push.new.text.items (codes "\"null\"") (schema_text_of c.args.schema.now) (ap schema_text_of c.in-Null.is ∙ text-Null) c.push.ensures.appended

pub push_schema-returns-in-Boolean-clause-appended : goal.push_schema-returns-in-Boolean-clause-appended
push_schema-returns-in-Boolean-clause-appended t c =
    alone c.push-in-Boolean.result c.args.text.now.items c.push-in-Boolean.new.text.items (codes "\"boolean\"") (schema_text_of c.args.schema.now) (ap schema_text_of c.in-Boolean.is ∙ text-Boolean) c.push-in-Boolean.ensures.appended

pub push_schema-returns-in-Float-clause-appended : goal.push_schema-returns-in-Float-clause-appended
push_schema-returns-in-Float-clause-appended t c =
    alone c.push-in-Float.result c.args.text.now.items c.push-in-Float.new.text.items (codes "\"float\"") (schema_text_of c.args.schema.now) (ap schema_text_of c.in-Float.is ∙ text-Float) c.push-in-Float.ensures.appended

pub push_schema-returns-in-Double-clause-appended : goal.push_schema-returns-in-Double-clause-appended
push_schema-returns-in-Double-clause-appended t c =
    alone c.push-in-Double.result c.args.text.now.items c.push-in-Double.new.text.items (codes "\"double\"") (schema_text_of c.args.schema.now) (ap schema_text_of c.in-Double.is ∙ text-Double) c.push-in-Double.ensures.appended

pub push_schema-returns-in-Int-clause-appended : goal.push_schema-returns-in-Int-clause-appended
push_schema-returns-in-Int-clause-appended t c =
    alone c.push_int.result c.args.text.now.items c.push_int.new.text.items (int_text c.in-Int.logical) (schema_text_of c.args.schema.now) (ap schema_text_of c.in-Int.is ∙ text-Int c.in-Int.logical) c.push_int.ensures.appended

pub push_schema-returns-in-Long-clause-appended : goal.push_schema-returns-in-Long-clause-appended
push_schema-returns-in-Long-clause-appended t c =
    alone c.push_long.result c.args.text.now.items c.push_long.new.text.items (long_text c.in-Long.logical) (schema_text_of c.args.schema.now) (ap schema_text_of c.in-Long.is ∙ text-Long c.in-Long.logical) c.push_long.ensures.appended

pub push_schema-returns-in-Bytes-clause-appended : goal.push_schema-returns-in-Bytes-clause-appended
push_schema-returns-in-Bytes-clause-appended t c =
    alone c.push_bytes.result c.args.text.now.items c.push_bytes.new.text.items (bytes_text c.in-Bytes.logical) (schema_text_of c.args.schema.now) (ap schema_text_of c.in-Bytes.is ∙ text-Bytes c.in-Bytes.logical) c.push_bytes.ensures.appended

pub push_schema-returns-in-String-clause-appended : goal.push_schema-returns-in-String-clause-appended
push_schema-returns-in-String-clause-appended t c =
    alone c.push_string_type.result c.args.text.now.items c.push_string_type.new.text.items (string_text c.in-String.logical) (schema_text_of c.args.schema.now) (ap schema_text_of c.in-String.is ∙ text-String c.in-String.logical) c.push_string_type.ensures.appended

pub push_schema-returns-in-Enum-clause-appended : goal.push_schema-returns-in-Enum-clause-appended
push_schema-returns-in-Enum-clause-appended t c =
    alone c.push_enum.result c.args.text.now.items c.push_enum.new.text.items (enum_text c.in-Enum.symbols) (schema_text_of c.args.schema.now) (ap schema_text_of c.in-Enum.is ∙ text-Enum c.in-Enum.symbols) c.push_enum.ensures.appended

pub push_schema-returns-in-Fixed-clause-appended : goal.push_schema-returns-in-Fixed-clause-appended
push_schema-returns-in-Fixed-clause-appended t c =
    alone c.push_fixed.result c.args.text.now.items c.push_fixed.new.text.items (fixed_text c.in-Fixed.fixed) (schema_text_of c.args.schema.now) (ap schema_text_of c.in-Fixed.is ∙ text-Fixed c.in-Fixed.fixed) c.push_fixed.ensures.appended

pub push_schema-returns-in-Record-clause-appended : goal.push_schema-returns-in-Record-clause-appended
push_schema-returns-in-Record-clause-appended t c =
    alone c.push_record.result c.args.text.now.items c.push_record.new.text.items (record_text_of c.in-Record.record) (schema_text_of c.args.schema.now) (ap schema_text_of c.in-Record.is ∙ text-Record c.in-Record.record) c.push_record.ensures.appended

pub push_schema-returns-in-Array-clause-appended : goal.push_schema-returns-in-Array-clause-appended
push_schema-returns-in-Array-clause-appended t c =
    alone c.push_inner.result c.args.text.now.items c.push_inner.new.text.items (codes "{\"type\":\"array\",\"items\":" ++ schema_text_of c.get.result.now ++ codes "}") (schema_text_of c.args.schema.now) (ap schema_text_of c.in-Array.is ∙ text-Array c.in-Array.item ∙ ap (λ s. codes "{\"type\":\"array\",\"items\":" ++ schema_text_of s ++ codes "}") (sym c.get.ensures)) c.push_inner.ensures.appended

pub push_schema-returns-in-Map-clause-appended : goal.push_schema-returns-in-Map-clause-appended
push_schema-returns-in-Map-clause-appended t c =
    alone c.push_inner-in-Map.result c.args.text.now.items c.push_inner-in-Map.new.text.items (codes "{\"type\":\"map\",\"values\":" ++ schema_text_of c.get-in-Map.result.now ++ codes "}") (schema_text_of c.args.schema.now) (ap schema_text_of c.in-Map.is ∙ text-Map c.in-Map.value ∙ ap (λ s. codes "{\"type\":\"map\",\"values\":" ++ schema_text_of s ++ codes "}") (sym c.get-in-Map.ensures)) c.push_inner-in-Map.ensures.appended

pub push_schema-returns-in-Union-clause-appended : goal.push_schema-returns-in-Union-clause-appended
push_schema-returns-in-Union-clause-appended t c =
    alone c.push_union.result c.args.text.now.items c.push_union.new.text.items (codes "[" ++ joined (map schema_text_of c.as_slice.result.now) ++ codes "]") (schema_text_of c.args.schema.now) (ap schema_text_of c.in-Union.is ∙ text-Union c.in-Union.members ∙ ap (λ s. codes "[" ++ joined (map schema_text_of s) ++ codes "]") (sym c.as_slice.ensures)) c.push_union.ensures.appended
