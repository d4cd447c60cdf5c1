use Rattle.std.proofs.Common.{◌∙◌, ap, codes, None, refl}
use Rattle.avro_schema.specs.declared.schema.AvroField.{AvroField}
use Rattle.avro_schema.specs.declared.schema.Schema.{Schema}
use Rattle.sample_rows.proofs.RowFields.{pushed}
use Rattle.sample_rows.proofs.fields.row_fields.Goals as goal

pub returns-clause-fields : goal.returns-clause-fields
returns-clause-fields c =
    c.from_vec.ensures
    ∙ pushed c.in_ok-fields.fields.items c.push.new.self.items c.push-2.new.self.items c.push-3.new.self.items c.push-4.new.self.items
    c.in_ok-field.field-0 c.in_ok-field-2.field-0 c.in_ok-field-3.field-0 c.in_ok-field-4.field-0
    c.in_ok-fields.ensures.items c.in_ok-push.ensures.items c.in_ok-push-2.ensures.items c.in_ok-push-3.ensures.items c.in_ok-push-4.ensures.items
    c.in_ok-field.ensures.field
    (c.in_ok-field-2.ensures.field ∙ ap (λ (s : Schema). record { name = codes "user"; doc = None; schema = s }) c.in_ok-optional_string.ensures.schema)
    (c.in_ok-field-3.ensures.field ∙ ap (λ (s : Schema). record { name = codes "tags"; doc = None; schema = s }) c.in_ok-strings.ensures.schema)
    c.in_ok-field-4.ensures.field
