-- The columns that are made from a record, in small forms or in large ones, fit its fields.
use Rattle.std.proofs.Common.{Bool, false, true, List, [], ◌∷◌, map, sym, subst}
use Rattle.arrow_core.specs.declared.types.Field.{Field}
use Rattle.avro_schema.specs.declared.schema.AvroField.{AvroField}
use Rattle.avro_schema.specs.Inferred.{own_doc}
use Rattle.avro_schema.specs.Types.{Fits}
use Rattle.avro_types.specs.Columns.{AllTyped}
use Rattle.avro_types.specs.Enlarged.{enlarged}
use Rattle.avro_types.proofs.Enlarging.{enlarged_fits}
use Rattle.avro_types.proofs.RootColumns.{columns_fit}
use Rattle.avrocat_commands.specs.Blocks.{AreColumnsOf}
use Rattle.avro_ndjson.proofs.Decoders.{columns_are_fit}

large_fit : (fs : List Field) (xs : List AvroField) → AllTyped fs xs → Fits (map enlarged fs) xs
large_fit [] [] h = tt
large_fit [] (a ∷ xs) h = absurd h
large_fit (f ∷ fs) [] h = absurd h
large_fit (f ∷ fs) (a ∷ xs) h = (enlarged_fits a.schema f h.0, large_fit fs xs h.1)

pub forms_fit : (xs : List AvroField) (large : Bool) (fs : List Field) → AreColumnsOf xs large fs → Fits fs xs
forms_fit xs false fs h = subst (λ (gs : List Field). Fits gs xs) (sym h.2) (columns_are_fit xs h.0 h.1)
forms_fit xs true fs h = subst (λ (gs : List Field). Fits gs xs) (sym h.2) (large_fit h.0 xs (columns_fit own_doc xs h.0 h.1))
