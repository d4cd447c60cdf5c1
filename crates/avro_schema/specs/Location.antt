-- Where bytes break off at an array block that states a size below 0 (Avro 1.11, "Arrays"). Only laws speak of
-- it (`OneBreak`, `OneNegativeSize`): it is no part of what a decoder promises.
use Rattle.std.specs.Prelude.{ℕ, zero, suc, List, [], ◌∷◌, length, Bool, true, false}
use Rattle.std.proofs.Common.{inl, inr}
use Rattle.avro_schema.specs.declared.schema.Schema.{Schema, Record, Array', Union', Row_of-Schema, end_of-Schema, more_of-Schema}
use Rattle.avro_schema.specs.declared.schema.Record.{Record as TheRecord, Record', Row_of-AvroField, end_of-AvroField, more_of-AvroField}
use Rattle.avro_schema.specs.declared.schema.AvroField.{AvroField}
use Rattle.avro_schema.specs.Skips.{Passed}
use Rattle.avro_schema.specs.Broken.{BrokenBlocks, false_size, broken_item, whole_block, Broken, BrokenRecord, BrokenItem, BrokenMember, BrokenFields}
use Rattle.avro_schema.specs.Rows.{Pieces, no_pieces, with_kept, with_skipped}
use Rattle.avro_schema.specs.NegativeSize.{BrokenRow}

-- the path to that block, from outside in: which field of a record, which member of a union, which block of an
-- array and which item of the block, each counted from 0; and the bytes from that block's count on
pub record Location : Type 0 where
  pub path : List ℕ
  pub bytes : List ℕ

abbrev pub within : ℕ → Location → Location
within k location = record { path = k ∷ location.path; bytes = location.bytes }

-- one field more stands before, or one block
abbrev pub one_later : List ℕ → List ℕ
one_later [] = []
one_later (k ∷ path) = suc k ∷ path

abbrev pub one_further : Location → Location
one_further location = record { path = one_later location.path; bytes = location.bytes }

abbrev pub location_in_blocks : {P : List ℕ → Passed → Type 0} {B : List ℕ → Type 0} → ((bytes : List ℕ) → B bytes → Location) → (bytes : List ℕ) → BrokenBlocks P B bytes → Location
location_in_blocks in_item bytes (false_size prefix more any n s count fits size) = record { path = 0 ∷ []; bytes = bytes }
location_in_blocks in_item bytes (broken_item prefix items rest n m p count fewer before b) = within 0 (within m (in_item rest b))
location_in_blocks in_item bytes (whole_block prefix items rest count p number block b) = one_further (location_in_blocks in_item rest b)

abbrev mutual
  pub location : (s : Schema) (bytes : List ℕ) → Broken s bytes → Location
  location (Record r) bytes b = location_in_record r bytes b
  location (Array' shape item) bytes b = location_in_blocks (location_in_item item) bytes b
  location (Union' shape members) bytes b = within b.3 (location_in_member members b.3 b.1 b.6)
  location _ bytes b = absurd b

  pub location_in_record : (r : TheRecord) (bytes : List ℕ) → BrokenRecord r bytes → Location
  location_in_record (Record' name namespace doc shape fields) bytes b = location_in_fields fields bytes b

  pub location_in_item : {m : _} (row : Row_of-Schema m) (bytes : List ℕ) → BrokenItem row bytes → Location
  location_in_item end_of-Schema bytes b = absurd b
  location_in_item (more_of-Schema s rest) bytes b = location s bytes b

  pub location_in_member : {m : _} (row : Row_of-Schema m) (k : ℕ) (bytes : List ℕ) → BrokenMember row k bytes → Location
  location_in_member end_of-Schema k bytes b = absurd b
  location_in_member (more_of-Schema s rest) zero bytes b = location s bytes b
  location_in_member (more_of-Schema s rest) (suc k) bytes b = location_in_member rest k bytes b

  pub location_in_fields : {m : _} (row : Row_of-AvroField m) (bytes : List ℕ) → BrokenFields row bytes → Location
  location_in_fields end_of-AvroField bytes b = absurd b
  location_in_fields (more_of-AvroField name doc s rest) bytes (inl b) = within 0 (location s bytes b)
  location_in_fields (more_of-AvroField name doc s rest) bytes (inr b) = one_further (location_in_fields rest b.1 b.5)

-- the same of a row, whose broken field is one that is skipped: the field, and the path from there
abbrev pub location_in_row : (fs : List AvroField) (keeps : List Bool) (bytes : List ℕ) → BrokenRow fs keeps bytes → Location
location_in_row (f ∷ fs) (true ∷ keeps) bytes b = one_further (location_in_row fs keeps b.1 b.5)
location_in_row (f ∷ fs) (false ∷ keeps) bytes (inl b) = within 0 (location f.schema bytes b)
location_in_row (f ∷ fs) (false ∷ keeps) bytes (inr b) = one_further (location_in_row fs keeps b.1 b.5)
location_in_row _ _ bytes b = absurd b

-- the whole pieces that stand before the broken field
abbrev pub pieces_before : (fs : List AvroField) (keeps : List Bool) (bytes : List ℕ) → BrokenRow fs keeps bytes → Pieces
pieces_before (f ∷ fs) (true ∷ keeps) bytes b = with_kept (b.3, length b.0) (pieces_before fs keeps b.1 b.5)
pieces_before (f ∷ fs) (false ∷ keeps) bytes (inl b) = no_pieces
pieces_before (f ∷ fs) (false ∷ keeps) bytes (inr b) = with_skipped b.3 (pieces_before fs keeps b.1 b.5)
pieces_before _ _ bytes b = absurd b
