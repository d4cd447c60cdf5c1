-- The canonical encoding of a table encodes that table and no other.
use Rattle.std.proofs.Common.{◌≡◌, ℕ, List, [], ◌∷◌, length, map, refl, sym, ap, subst}
use Rattle.std.specs.List.{AllByRecursion}
use Rattle.arrow_core.specs.declared.slot.Slot.{Slot}
use Rattle.avro_schema.specs.declared.schema.AvroField.{AvroField}
use Rattle.avro_schema.specs.Parts.{Many}
use Rattle.avro_schema.specs.Rows.{Pieces, Row, Rows, no_pieces, with_kept}
use Rattle.avro_schema.proofs.RowLaws.{same_table}
use Rattle.avro_encode.specs.Listed.{PairsFieldsOf, plain_fields_of}
use Rattle.avro_encode.specs.Plain.{plain}
use Rattle.avro_encode.proofs.PlainLaw.{plain_encodes}
use Rattle.avro_write.specs.Laws.{TableEncodes, TableTells, all_kept, plain_table}

-- a row, with what its pieces are
record IsRow (fields : List AvroField) (xs : List Slot) : Type 0 where
  pub pieces : Pieces
  pub encoded : Row fields (all_kept fields) (plain_fields_of fields xs) pieces
  pub told : pieces.slots ≡ xs

row_is : (fields : List AvroField) (xs : List Slot) → PairsFieldsOf fields xs → IsRow fields xs
row_is [] [] h = record { pieces = no_pieces; encoded = (refl, refl); told = refl }
row_is [] (x ∷ xs) h = absurd h
row_is (f ∷ fields) [] h = absurd h
row_is (f ∷ fields) (x ∷ xs) h =
    let r = row_is fields xs h.1 in
    let kept : Slot × ℕ = (x, length (plain f.schema x)) in
    record {
      pieces = with_kept kept r.pieces;
      encoded = record { prefix = plain f.schema x; back = plain_fields_of fields xs; joined = refl; value = kept; first = (plain_encodes f.schema x h.0, refl); second = (r.pieces, refl, r.encoded) };
      told = ap (λ (z : List Slot). x ∷ z) r.told;
    }

record AreRows (fields : List AvroField) (table : List (List Slot)) : Type 0 where
  pub pieces : List Pieces
  pub encoded : Many (Row fields (all_kept fields)) (length table) (plain_table fields table) pieces
  pub told : table ≡ map (λ row. row.slots) pieces

rows_are : (fields : List AvroField) (table : List (List Slot)) → AllByRecursion (PairsFieldsOf fields) table → AreRows fields table
rows_are fields [] h = record { pieces = []; encoded = (refl, refl); told = refl }
rows_are fields (xs ∷ table) h =
    let r = row_is fields xs h.0 in
    let rest = rows_are fields table h.1 in
    record {
      pieces = r.pieces ∷ rest.pieces;
      encoded = record { prefix = plain_fields_of fields xs; back = plain_table fields table; joined = refl; value = r.pieces; first = r.encoded; second = (rest.pieces, refl, rest.encoded) };
      told = λ i. sym r.told i ∷ rest.told i;
    }

pub table_encodes : TableEncodes
table_encodes fields table h = let r = rows_are fields table h in record { pieces = r.pieces; encoded = r.encoded; told = r.told }

pub table_tells : TableTells
table_tells fields t u p q n e =
    let other : Rows (length t) fields (all_kept fields) (plain_table fields t) u = subst (λ k. Rows k fields (all_kept fields) (plain_table fields t) u) (sym n) (subst (λ (bytes : List ℕ). Rows (length u) fields (all_kept fields) bytes u) (sym e) (table_encodes fields u q)) in
    same_table (length t) fields (all_kept fields) (plain_table fields t) t u (table_encodes fields t p) other
