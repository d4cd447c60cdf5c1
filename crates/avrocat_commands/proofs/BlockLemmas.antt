-- The lines of the kept fields of a block.
use Rattle.std.proofs.Common.{◌≡◌, ℕ, suc, Bool, true, false, List, [], ◌∷◌, ◌++◌, length, map, refl, sym, ap, ◌∙◌, arith}
use Rattle.std.proofs.lemmas.List.{length-map}
use Rattle.arrow_core.specs.declared.types.Field.{Field}
use Rattle.arrow_array.specs.declared.array.Array.{Array}
use Rattle.arrow_array.specs.Arrays.{array_type, array_slots}
use Rattle.avro_schema.specs.declared.schema.AvroField.{AvroField}
use Rattle.avro_schema.specs.ValidBlock.{kept}
use Rattle.avro_schema.specs.Columns.{AreColumns, kept_types}
use Rattle.avrocat_commands.specs.Shown.{shown}
use Rattle.cli_words.specs.declared.command.BlockWords.{BlockWords}
use Rattle.avrocat_commands.specs.Blocks.{IsValid, ShowsColumns}

kept_alike : {A B : Type 0} (xs : List A) (ys : List B) (keeps : List Bool) → length xs ≡ length ys → length (kept xs keeps) ≡ length (kept ys keeps)
kept_alike [] [] keeps h = refl
kept_alike [] (y ∷ ys) keeps h = absurd (omega (arith, h))
kept_alike (x ∷ xs) [] keeps h = absurd (omega (arith, h))
kept_alike (x ∷ xs) (y ∷ ys) [] h = refl
kept_alike (x ∷ xs) (y ∷ ys) (true ∷ keeps) h = ap suc (kept_alike xs ys keeps (omega (arith, h)))
kept_alike (x ∷ xs) (y ∷ ys) (false ∷ keeps) h = kept_alike xs ys keeps (omega (arith, h))

-- a column for each kept field
pub a_column_each : (fields : List Field) (avro_fields : List AvroField) (keeps : List Bool) (arrays : List Array) → length fields ≡ length avro_fields
    → map array_type arrays ≡ kept_types fields keeps → length arrays ≡ length (kept avro_fields keeps)
a_column_each fields avro_fields keeps arrays same types =
    sym (length-map arrays array_type) ∙ ap length types ∙ length-map (kept fields keeps) (λ f. f.data_type) ∙ kept_alike fields avro_fields keeps same

pub a_name_each : (fields : List Field) (avro_fields : List AvroField) (keeps : List Bool) (arrays chunk : List Array) (names now : List (List ℕ)) → length fields ≡ length avro_fields
    → map array_type chunk ≡ kept_types fields keeps → arrays ≡ chunk → now ≡ names → names ≡ map (λ f. f.name) (kept avro_fields keeps) → length now ≡ length arrays
a_name_each fields avro_fields keeps arrays chunk names now same types is lent told =
    ap length (lent ∙ told) ∙ length-map (kept avro_fields keeps) (λ f. f.name) ∙ sym (a_column_each fields avro_fields keeps chunk same types) ∙ ap length (sym is)

pub block_shown : (block : BlockWords) (fields : List Field) (bytes text before : List ℕ) (arrays chunk : List Array) (names now : List (List ℕ))
    → IsValid block bytes → length fields ≡ length block.avro_fields → map array_type chunk ≡ kept_types fields block.projection
    → AreColumns block.rows block.avro_fields block.projection bytes (map array_slots chunk)
    → arrays ≡ chunk → now ≡ names → names ≡ map (λ f. f.name) (kept block.avro_fields block.projection) → before ≡ [] → text ≡ before ++ shown now (map array_slots arrays)
    → ShowsColumns block bytes text
block_shown block fields bytes text before arrays chunk names now valid same types read is lent told none written = record {
  valid = valid;
  columns = map array_slots chunk;
  read = read;
  lines = written ∙ (λ i. none i ++ shown ((lent ∙ told) i) (map array_slots (is i)));
}
