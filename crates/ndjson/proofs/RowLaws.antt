-- Rows of columns: the structs of what lines' members mean are what the lines' objects mean.
use Rattle.std.proofs.Common.{◌≡◌, ◌∙◌, ℕ, ◌<◌, true, List, length, map, ap, None}
use Rattle.arrow_array.specs.Arrays.{array_slots, array_type}
use Rattle.arrow_array.specs.Structs.{first_len, record_at}
use Rattle.arrow_array.specs.Slots.{slots_of}
use Rattle.arrow_array.specs.declared.array.Array.{Array}
use Rattle.arrow_core.specs.declared.types.DataType as types
use Rattle.arrow_core.specs.declared.types.DataType.{DataType}
use Rattle.arrow_core.specs.declared.types.Field.{Field}
use Rattle.json_flat.specs.Names.{names_twice}
use Rattle.json_flat.specs.Reading.{has_reading}
use Rattle.json_columns.proofs.ObjectRows.{structs_of_rows}
use Rattle.json_line.specs.Lines.{AreColumnsOf, IsColumnOf}
use Rattle.ndjson.specs.LineColumns.{AreRowsOf, is_readable}
use Rattle.ndjson.proofs.StoredTypes.{readable_parts}

-- the structs of columns that lines were read into
pub rows_made : (t : DataType) (fields : List Field) (texts : List (List ℕ)) (columns : List Array) (a : Array) → t ≡ types.Struct fields → is_readable (types.Struct fields) ≡ true → array_type a ≡ t
    → AreColumnsOf fields texts columns → 0 < length columns → array_slots a ≡ slots_of (record_at (map array_slots columns)) None 0 (first_len columns) → AreRowsOf texts t (array_type a) (array_slots a)
rows_made t fields texts columns a is readable same c some slots =
    let r = readable_parts (types.Struct fields) readable in
    record {
      rows = c.rows;
      objects = c.objects;
      column = record {
        distinct = ap names_twice is ∙ r.1;
        readable = ap has_reading is ∙ r.0;
        same_type = same;
        meant = structs_of_rows (IsColumnOf c.rows) t fields c.rows columns a (λ f b column. (column.data_type, column.slots)) is c.members some slots;
      };
    }
