-- The schemas whose texts are read back.
use Rattle.std.specs.Prelude.{ℕ, List, Bool, true, ◌==◌, ◌&&◌, nat_le, IsTrue, Option, Some, None}
use Rattle.std.specs.List.{list_all}
use Rattle.std.specs.Str.{IsUtf8}
use Rattle.json_tree.specs.Meaning.{HoldsTooMany}
use Rattle.avro_schema.specs.declared.schema.Schema.{Schema, Schema-F, fold-Schema}
use Rattle.avro_schema.specs.declared.schema.Schema.TheOpen as layer
use Rattle.avro_schema.specs.declared.schema.Record.{Record-F}
use Rattle.avro_schema.specs.declared.schema.AvroField.{AvroField-F}
use Rattle.avro_schema.specs.declared.schema.BytesLogical.TheVariants as bytes
use Rattle.avro_schema.specs.declared.schema.FixedLogical.{FixedLogical}
use Rattle.avro_schema.specs.declared.schema.FixedLogical.TheVariants as fixed
use Rattle.avro_file.specs.Writing.{schema_text_of}

-- Avro 1.11, "Decimal": at least one digit in all, and no more after the point
abbrev pub is_decimal : ℕ → ℕ → Bool
is_decimal precision scale = nat_le 1 precision && (nat_le precision 2147483647 && nat_le scale precision)

-- "Decimal" and "Duration"
abbrev pub logical_fits : ℕ → Option FixedLogical → Bool
logical_fits size None = true
logical_fits size (Some (fixed.Decimal precision scale)) = is_decimal precision scale
logical_fits size (Some fixed.Duration) = size == 12

-- In the following steps an answer stands in the place of each schema, field and record within.

abbrev pub all_fit : List Bool → Bool
all_fit = list_all (λ fits. fits)

-- "Fixed": the size, too, is at most 2147483647
abbrev pub fits_step : Schema-F Bool Bool Bool → Bool
fits_step (layer.Bytes (Some (bytes.Decimal precision scale))) = is_decimal precision scale
fits_step (layer.Fixed f) = nat_le f.size 2147483647 && logical_fits f.size f.logical
fits_step (layer.Record fits) = fits
fits_step (layer.Array fits) = fits
fits_step (layer.Map fits) = fits
fits_step (layer.Union each) = all_fit each
fits_step _ = true

abbrev pub field_fits_step : AvroField-F Bool Bool Bool → Bool
field_fits_step f = f.schema

abbrev pub record_fits_step : Record-F Bool Bool Bool → Bool
record_fits_step r = all_fit r.fields

-- each size, precision and scale in a schema is one that its text may give
unfoldable pub numbers_fit : Schema → Bool
numbers_fit = fold-Schema Bool Bool Bool fits_step field_fits_step record_fits_step

-- The text is UTF-8 (RFC 8259, section 8.1), as it is where names, namespaces, docs and symbols are; the numbers fit; and the text
-- nests at most 128 deep (section 9 lets a reader set such a limit).
pub record IsWritable (schema : Schema) : Type 0 where
  pub utf8 : IsUtf8 (schema_text_of schema)
  pub numbers : IsTrue (numbers_fit schema)
  pub nested : HoldsTooMany (schema_text_of schema) → ⊥
