use Rattle.std.proofs.Common.{◌≡◌}
use Rattle.arrow_core.specs.declared.types.DataType.{DataType}
use Rattle.avro_schema.specs.Inferred.{inferred}
use Rattle.json_text.specs.Columns.{AreWithin, IsForm}
use Rattle.std.proofs.Common.{Some}
use Rattle.avro_line.proofs.Items.{ItemsUnderway}
use Rattle.avro_line.proofs.Lines.{FieldsUnderwayOf}
use Rattle.avro_line.proofs.values.+values.Given as goal

abbrev pub invariant-push_items-loop-k : goal.invariant-push_items-loop-k
invariant-push_items-loop-k g l = (t : DataType) → inferred l.item ≡ Some t → IsForm l.form t → AreWithin t l.columns
    → ItemsUnderway l.item t l.count l.k (g.A.ByteReader.rest l.fn.cursor) (g.A.ByteReader.rest l.cursor) l.fn.out.items l.out.items

abbrev pub invariant-push_record-loop-field : goal.invariant-push_record-loop-field
invariant-push_record-loop-field g l = FieldsUnderwayOf l.avro_fields l.columns l.field-index l.rest (g.A.ByteReader.rest l.fn.cursor) (g.A.ByteReader.rest l.cursor) l.fn.out.items l.out.items
