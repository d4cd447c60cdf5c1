-- Fields that can be shown can be decoded.
use Rattle.std.proofs.Common.{◌≡◌, ◌∙◌, ℕ, true, List, [], ◌∷◌, length, Option, Some, sym, arith}
use Rattle.std.specs.List.{range_with_len}
use Rattle.std.proofs.lemmas.List.{length-map}
use Rattle.std.proofs.lemmas.List.FromFn.{length-range_with_len}
use Rattle.arrow_core.specs.declared.types.Field.{Field}
use Rattle.avro_schema.specs.declared.schema.AvroField.{AvroField}
use Rattle.avro_schema.specs.declared.schema.Record.{Record, out-Record}
use Rattle.avro_schema.specs.Inferred.{own_doc, inferred_columns}
use Rattle.avro_schema.specs.Types.{HasColumnType, Fits}
use Rattle.avro_schema.proofs.TypeLemmas.{small_forms_fit}
use Rattle.avro_types.specs.Columns.{AllTyped}
use Rattle.avro_types.proofs.ColumnTypes.{zip_length}
use Rattle.avro_types.proofs.RootColumns.{columns_fit}
use Rattle.avro_schema.specs.Projected.{CanBeDecoded}
use Rattle.avro_ndjson.specs.Keep.{is_kept}
use Rattle.avro_ndjson.specs.Shown.{kept_of, CanBeShown, projected_of}

-- columns in small forms are columns in small or large forms
pub all_fit : (fs : List Field) (xs : List AvroField) → AllTyped fs xs → Fits fs xs
all_fit [] [] h = tt
all_fit [] (a ∷ xs) h = absurd h
all_fit (f ∷ fs) [] h = absurd h
all_fit (f ∷ fs) (a ∷ xs) h = (small_forms_fit a.schema f h.0, all_fit fs xs h.1)

-- so are those that are made for a record
pub columns_are_fit : (xs : List AvroField) (fs : List Field) → inferred_columns xs ≡ Some fs → Fits fs xs
columns_are_fit xs fs e = all_fit fs xs (columns_fit own_doc xs fs e)

pub as_many : (fs : List Field) (xs : List AvroField) → Fits fs xs → length fs ≡ length xs
as_many fs xs h = zip_length (λ (f : Field) (a : AvroField). HasColumnType true a.schema f) fs xs h

pub projection_length : (keep : Option (List ℕ)) (xs : List AvroField) → length (kept_of keep xs) ≡ length xs
projection_length keep xs = length-map (range_with_len 0 (length xs)) (is_kept keep) ∙ length-range_with_len 0 (length xs)

pub can_be_decoded : (keep : Option (List ℕ)) (root : Record) (fs : List Field) → CanBeShown keep (out-Record root).fields fs → CanBeDecoded (projected_of keep root fs)
can_be_decoded keep root fs s =
    let xs = (out-Record root).fields in
    let fits : Fits fs xs = columns_are_fit xs fs s.columns in
    let same : length fs ≡ length xs = as_many fs xs fits in
    record {
      lengths = (same, same ∙ sym (projection_length keep xs));
      some = omega (arith, same, s.some);
      carried = s.carried;
      fits = fits;
      no_float = s.no_float;
    }
