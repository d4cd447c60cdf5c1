-- What is decoded is a valid block, and a valid block has no cause to be refused.
use Rattle.std.proofs.Common.{◌≡◌, inl, inr, ℕ, Bool, List, length, refl, ap, subst, arith}
use Rattle.arrow_core.specs.declared.error.Error.{Error}
use Rattle.arrow_core.specs.declared.error.Error.TheVariants.{InvalidArgumentError, NotYetImplemented, ExternalFormat, OutOfSpec, Overflow, OutOfMemory}
use Rattle.arrow_core.specs.declared.error.Reason.TheVariants as reason
use Rattle.arrow_core.specs.declared.types.Field.{Field}
use Rattle.arrow_core.specs.declared.slot.Slot.{Slot}
use Rattle.avro_schema.specs.declared.schema.AvroField.{AvroField}
use Rattle.avro_schema.specs.ValidBlock.{ValidBlock}
use Rattle.avro_schema.proofs.RowLaws.{rows_have, rows_exclude}
use Rattle.avro_schema.specs.Columns.{AreColumns}
use Rattle.avro_schema.specs.Refusals.{BelongTogether, FieldsRefused, AreCounted, BytesRefused, ValidBlocksAreRead}

-- ---- what is decoded is valid

pub decoded_is_valid : (fields : List Field) (n : ℕ) (avro_fields : List AvroField) (projection : List Bool) (bytes ahead : List ℕ) (cs : List (List Slot)) → ahead ≡ bytes → BelongTogether fields avro_fields projection → AreCounted n fields projection ahead → AreColumns n avro_fields projection ahead cs → ValidBlock n bytes fields avro_fields projection
decoded_is_valid fields n avro_fields projection bytes ahead cs e b c h =
    subst (λ (all : List ℕ). ValidBlock n all fields avro_fields projection) e
    (record {
      columns = record {
        lengths = b.lengths;
        some = b.some;
        carried = b.carried;
        fits = b.fits;
        no_float = b.no_float;
        offsets = c.0;
        symbols = b.symbols;
      };
      table = h.0;
      rows = h.1;
    })

-- ---- what is valid is not refused

module _ (fields : List Field) (n : ℕ) (avro_fields : List AvroField) (projection : List Bool) (bytes : List ℕ) (v : ValidBlock n bytes fields avro_fields projection) where
  fields_refused : (e : Error) → FieldsRefused fields avro_fields projection e → e ≡ OutOfMemory
  fields_refused (InvalidArgumentError reason.Lengths) h = absurd (h v.columns.lengths)
  fields_refused (NotYetImplemented reason.NoField) h = absurd (omega (arith, ap length h.1, v.columns.some))
  fields_refused (NotYetImplemented reason.NotCarried) h = absurd (h.2 v.columns.carried)
  fields_refused (InvalidArgumentError reason.FieldType) h = absurd (h.1 v.columns.fits)
  fields_refused (NotYetImplemented reason.Float) h = absurd (h.2 v.columns.no_float)
  fields_refused Overflow h = absurd (h.3 v.columns.symbols)
  fields_refused OutOfMemory h = refl
  fields_refused _ h = absurd h

  bytes_refused : (e : Error) → BytesRefused n fields avro_fields projection bytes e → e ≡ OutOfMemory
  bytes_refused Overflow h = absurd (h v.columns.offsets)
  bytes_refused (ExternalFormat reason.Rows) h =
      let enough = rows_have n avro_fields projection bytes v.table (omega (arith, v.columns.some, v.columns.lengths.0)) v.columns.carried v.rows in
      absurd (omega (arith, h.1, enough))
  bytes_refused (ExternalFormat reason.BlockBytes) h = absurd (h.1 v.table v.rows)
  bytes_refused (OutOfSpec reason.NegativeSize) h = absurd (rows_exclude n avro_fields projection bytes v.table v.rows h.1)
  bytes_refused OutOfMemory h = refl
  bytes_refused _ h = absurd h

pub valid_blocks : ValidBlocksAreRead
valid_blocks fields n avro_fields projection bytes e v (inl h) = fields_refused fields n avro_fields projection bytes v e h
valid_blocks fields n avro_fields projection bytes e v (inr h) = bytes_refused fields n avro_fields projection bytes v e h.1
