-- Of a block one error is right at most, out of memory aside.
use Rattle.std.proofs.Common.{◌≡◌, ◌∙◌, ◌⊎◌, inl, inr, List, length, refl, sym, ap, arith}
use Rattle.arrow_core.specs.declared.error.Error.{Error}
use Rattle.arrow_core.specs.declared.error.Error.TheVariants.{InvalidArgumentError, NotYetImplemented, ExternalFormat, OutOfSpec, Overflow, OutOfMemory}
use Rattle.arrow_core.specs.declared.error.Reason.TheVariants as reason
use Rattle.arrow_core.specs.declared.slot.Slot.{Slot}
use Rattle.avro_schema.specs.ValidBlock.{KeptEnumsFit, ValidBlock}
use Rattle.avro_container.specs.File.{FileBlock}
use Rattle.avro_container.proofs.OneBlock.{AreOne}
use Rattle.avro_schema.specs.Projected.{Projected, CanBeDecoded, HasTable}
use Rattle.avro_schema.specs.Refusals.{BelongTogether, FieldsRefused, BytesRefused, BlockRefused}
use Rattle.avro_decode.proofs.Valid.{valid_blocks}
use Rattle.avro_ndjson.specs.Taken.{BlockIsWrong}

module _ (p : Projected) (can : CanBeDecoded p) where
  -- of what a decoder is made for symbols alone may be refused
  only_symbols : (e : Error) → FieldsRefused p.fields p.avro_fields p.projection e → (e ≡ OutOfMemory) ⊎ ((e ≡ Overflow) × (KeptEnumsFit p.avro_fields p.projection → ⊥))
  only_symbols (InvalidArgumentError reason.Lengths) h = absurd (h can.lengths)
  only_symbols (NotYetImplemented reason.NoField) h = absurd (omega (arith, ap length h.1, can.some))
  only_symbols (NotYetImplemented reason.NotCarried) h = absurd (h.2 can.carried)
  only_symbols (InvalidArgumentError reason.FieldType) h = absurd (h.1 can.fits)
  only_symbols (NotYetImplemented reason.Float) h = absurd (h.2 can.no_float)
  only_symbols Overflow h = inr (refl, h.3)
  only_symbols OutOfMemory h = inl refl
  only_symbols _ h = absurd h

  module _ (b : FileBlock) where
    one_of_bytes : (e d : Error) → BytesRefused b.rows p.fields p.avro_fields p.projection b.bytes e → BytesRefused b.rows p.fields p.avro_fields p.projection b.bytes d → AreOne e d
    one_of_bytes OutOfMemory d h k = inr (inl refl)
    one_of_bytes Overflow OutOfMemory h k = inr (inr refl)
    one_of_bytes Overflow Overflow h k = inl refl
    one_of_bytes Overflow (ExternalFormat reason.Rows) h k = absurd (h k.0)
    one_of_bytes Overflow (ExternalFormat reason.BlockBytes) h k = absurd (h k.0.0)
    one_of_bytes Overflow (OutOfSpec reason.NegativeSize) h k = absurd (h k.0.0)
    one_of_bytes Overflow _ h k = absurd k
    one_of_bytes (ExternalFormat reason.Rows) OutOfMemory h k = inr (inr refl)
    one_of_bytes (ExternalFormat reason.Rows) Overflow h k = absurd (k h.0)
    one_of_bytes (ExternalFormat reason.Rows) (ExternalFormat reason.Rows) h k = inl refl
    one_of_bytes (ExternalFormat reason.Rows) (ExternalFormat reason.BlockBytes) h k = absurd (omega (arith, h.1, k.0.1))
    one_of_bytes (ExternalFormat reason.Rows) (OutOfSpec reason.NegativeSize) h k = absurd (omega (arith, h.1, k.0.1))
    one_of_bytes (ExternalFormat reason.Rows) _ h k = absurd k
    one_of_bytes (ExternalFormat reason.BlockBytes) OutOfMemory h k = inr (inr refl)
    one_of_bytes (ExternalFormat reason.BlockBytes) Overflow h k = absurd (k h.0.0)
    one_of_bytes (ExternalFormat reason.BlockBytes) (ExternalFormat reason.Rows) h k = absurd (omega (arith, k.1, h.0.1))
    one_of_bytes (ExternalFormat reason.BlockBytes) (ExternalFormat reason.BlockBytes) h k = inl refl
    one_of_bytes (ExternalFormat reason.BlockBytes) (OutOfSpec reason.NegativeSize) h k = absurd (h.2 k.1)
    one_of_bytes (ExternalFormat reason.BlockBytes) _ h k = absurd k
    one_of_bytes (OutOfSpec reason.NegativeSize) OutOfMemory h k = inr (inr refl)
    one_of_bytes (OutOfSpec reason.NegativeSize) Overflow h k = absurd (k h.0.0)
    one_of_bytes (OutOfSpec reason.NegativeSize) (ExternalFormat reason.Rows) h k = absurd (omega (arith, k.1, h.0.1))
    one_of_bytes (OutOfSpec reason.NegativeSize) (ExternalFormat reason.BlockBytes) h k = absurd (k.2 h.1)
    one_of_bytes (OutOfSpec reason.NegativeSize) (OutOfSpec reason.NegativeSize) h k = inl refl
    one_of_bytes (OutOfSpec reason.NegativeSize) _ h k = absurd k
    one_of_bytes _ d h k = absurd h

    abbrev Refused : Error → Type 0
    Refused e = BlockRefused p.fields b.rows p.avro_fields p.projection b.bytes e

    together_or_symbols : (e : Error) → (e ≡ OutOfMemory) ⊎ ((e ≡ Overflow) × (KeptEnumsFit p.avro_fields p.projection → ⊥)) → BelongTogether p.fields p.avro_fields p.projection → e ≡ OutOfMemory
    together_or_symbols e (inl memory) t = memory
    together_or_symbols e (inr symbols) t = absurd (symbols.1 t.symbols)

    both_symbols : (e d : Error) → (e ≡ OutOfMemory) ⊎ ((e ≡ Overflow) × (KeptEnumsFit p.avro_fields p.projection → ⊥)) → (d ≡ OutOfMemory) ⊎ ((d ≡ Overflow) × (KeptEnumsFit p.avro_fields p.projection → ⊥)) → AreOne e d
    both_symbols e d (inl memory) k = inr (inl memory)
    both_symbols e d (inr h) (inl memory) = inr (inr memory)
    both_symbols e d (inr h) (inr k) = inl (h.0 ∙ sym k.0)

    one_refusal : (e d : Error) → Refused e → Refused d → AreOne e d
    one_refusal e d (inl h) (inl k) = both_symbols e d (only_symbols e h) (only_symbols d k)
    one_refusal e d (inl h) (inr k) = inr (inl (together_or_symbols e (only_symbols e h) k.0))
    one_refusal e d (inr h) (inl k) = inr (inr (together_or_symbols d (only_symbols d k) h.0))
    one_refusal e d (inr h) (inr k) = one_of_bytes e d h.1 k.1

    table_is_valid : (table : List (List Slot)) → HasTable p b.rows b.bytes table → ValidBlock b.rows b.bytes p.fields p.avro_fields p.projection
    table_is_valid table has = record {
      columns = record { lengths = can.lengths; some = can.some; carried = can.carried; fits = can.fits; no_float = can.no_float; offsets = has.counted.0; symbols = has.symbols };
      table = table;
      rows = has.rows;
    }

    table_or_refused : (table : List (List Slot)) → HasTable p b.rows b.bytes table → (e : Error) → Refused e → e ≡ OutOfMemory
    table_or_refused table has e h = valid_blocks p.fields b.rows p.avro_fields p.projection b.bytes e (table_is_valid table has) h

    pub one_wrong : (e d : Error) → BlockIsWrong p b e → BlockIsWrong p b d → AreOne e d
    one_wrong e d (inl h) (inl k) = one_refusal e d h k
    one_wrong e d (inl h) (inr k) = inr (inl (table_or_refused k.1.0 k.1.1 e h))
    one_wrong e d (inr h) (inl k) = inr (inr (table_or_refused h.1.0 h.1.1 d k))
    one_wrong e d (inr h) (inr k) = inl (h.0 ∙ sym k.0)
