-- The sum of the longs of one field of a file's rows.
use Rattle.std.specs.Prelude.{◌≡◌, ◌⊎◌, ℕ, ◌-◌, ◌≤◌, ◌^◌, ℤ, pos, ◌+ℤ◌, Bool, true, false, List, [], ◌∷◌, length, map, take, fold, set, replicate, Option, Some, None, Err, FitsSigned}
use Rattle.std.specs.Int.{w128}
use Rattle.std.specs.List.{AllZip}
use Rattle.std.specs.Io.KnownBytes.{IsAtEnd}
use Rattle.arrow_core.specs.declared.error.Error.{Error}
use Rattle.arrow_core.specs.declared.error.Error.TheVariants.{InvalidArgumentError, NotYetImplemented, Overflow}
use Rattle.arrow_core.specs.declared.error.Reason.TheVariants.{KeepNumber, NotCarried}
use Rattle.arrow_array.specs.declared.array.Array.{Array}
use Rattle.arrow_array.specs.declared.array.Array.TheVariants.{Int64}
use Rattle.arrow_array.specs.Arrays.{array_slots}
use Rattle.arrow_core.specs.declared.types.Field.{Field}
use Rattle.arrow_core.specs.declared.slot.Slot.{Slot}
use Rattle.arrow_core.specs.declared.slot.Slot.TheVariants as slot
use Rattle.avro_schema.specs.declared.schema.Schema as schema
use Rattle.avro_schema.specs.declared.schema.Record.{Record, out-Record}
use Rattle.avro_schema.specs.declared.schema.AvroField.{AvroField}
use Rattle.avro_container.specs.File.{FileBlock, IsFileBlock, Sequence}
use Rattle.avro_container.specs.ReadHeader.{Change}
use Rattle.avro_container.specs.Taking.{State, state, Takes}
use Rattle.avro_schema.specs.Columns.{AreColumns}
use Rattle.avro_schema.specs.Projected.{Projected, projected}
use Rattle.avro_file.specs.File.{AvroFile}
use Rattle.avro_file.specs.Metadata.{ReadsMetadata, MetadataFails}
use Rattle.avro_schema.specs.Inferred.{inferred_columns, HasMapOrUnion}
use Rattle.avro_types.specs.Inference.{SchemaRefused}
use Rattle.avro_read.specs.Projection.{ReaderRefused}
use Rattle.avro_read.specs.Reader.{ReadsChunk, Next}

-- the projection that keeps one of n fields
abbrev pub only : ℕ → ℕ → List Bool
only field n = set (replicate n false) field true

-- the integer of a slot, 0 where it is none
abbrev pub long_of : Slot → ℤ
long_of (slot.Integer n) = n
long_of _ = pos 0

-- n, and the integers of a column
abbrev pub added : ℤ → List Slot → ℤ
added n column = fold (λ m x. m +ℤ long_of x) n column

-- each block's bytes are rows, and the column is that of the kept field
abbrev pub AreColumnsOf : List AvroField → List Bool → List FileBlock → List (List Slot) → Type 0
AreColumnsOf fields projection = AllZip (λ block column. AreColumns block.rows fields projection block.bytes (column ∷ []))

-- The bytes are a file (Avro 1.11, "Object Container Files"), and n is the sum of the integers of the field's columns,
-- one for each block.
pub record IsSumOfFile (field : ℕ) (bytes : List ℕ) (n : ℤ) : Type 0 where
  pub root : Record
  pub marker : List ℕ
  pub blocks : List FileBlock
  pub is_file : AvroFile bytes root marker blocks
  pub columns : List (List Slot)
  pub are_columns : AreColumnsOf (out-Record root).fields (only field (length (out-Record root).fields)) blocks columns
  pub is_sum : n ≡ fold added (pos 0) columns

-- blocks were taken, and n is the sum of the integers of their columns
pub record SumsSoFar (p : Projected) (marker : List ℕ) (old new : State) (n : ℤ) : Type 0 where
  pub bytes : List ℕ
  pub taken : Takes old new bytes
  pub blocks : List FileBlock
  pub sequence : Sequence (IsFileBlock marker) bytes blocks
  pub columns : List (List Slot)
  pub are_columns : AreColumnsOf p.avro_fields p.projection blocks columns
  pub is_sum : n ≡ fold added (pos 0) columns

-- ---- why there is no sum

abbrev pub AreLongs : List Array → Type 0
AreLongs (Int64 longs ∷ []) = Unit {0}
AreLongs _ = ⊥

-- n, and some first integers of the column, are no integer of 128 bits
abbrev pub PassesBits : ℤ → List Slot → Type 0
PassesBits n column = (k : ℕ) × (FitsSigned w128 (added n (take k column)) → ⊥)

-- why a block's columns aren't added to n
abbrev pub ColumnFails : ℤ → List Array → Error → Type 0
ColumnFails n chunk (NotYetImplemented NotCarried) = AreLongs chunk → ⊥
ColumnFails n chunk Overflow = (column : List Slot) × (map array_slots chunk ≡ column ∷ []) × PassesBits n column
ColumnFails n chunk _ = ⊥

-- a block was taken, and its columns aren't added to n
pub record WrongColumn (p : Projected) (marker : List ℕ) (old new : State) (n : ℤ) (e : Error) : Type 0 where
  pub chunk : List Array
  pub reads : ReadsChunk p marker old new chunk
  pub why : ColumnFails n chunk e

-- blocks were summed, and the next one is refused by `Reader::next`, or has a wrong column
pub record StopsAtBlock (p : Projected) (marker : List ℕ) (old new : State) (e : Error) : Type 0 where
  pub between : State
  pub sum : ℤ
  pub before : SumsSoFar p marker old between sum
  pub why : Next p marker between new (Some (Err e)) ⊎ WrongColumn p marker between new sum e

-- the one field of a record that is kept
abbrev pub one_kept : List Field → Record → ℕ → Projected
one_kept fields root field = projected fields (out-Record root).fields (only field (length (out-Record root).fields))

-- why the record has no such field, or no reader of it is made
abbrev pub FieldFails : ℕ → Record → Error → Type 0
FieldFails field root e =
    SchemaRefused (HasMapOrUnion (schema.Record root)) e
    ⊎ ((e ≡ InvalidArgumentError KeepNumber) × (length (out-Record root).fields ≤ field))
    ⊎ ((fields : List Field) × (inferred_columns (out-Record root).fields ≡ Some fields) × ReaderRefused None (one_kept fields root field) e)

-- a header was read, and its record's field or a block after it is wrong
pub record RowsFail (field : ℕ) (c : Change) (e : Error) : Type 0 where
  pub root : Record
  pub marker : List ℕ
  pub count : ℕ
  pub reads : ReadsMetadata c root marker count
  pub why : FieldFails field root e
      ⊎ ((fields : List Field) × (new : State) × StopsAtBlock (one_kept fields root field) marker (state c.left_after c.faults_after (c.limit - count) None) new e)

-- why there is no sum of the field in a file of at most 2^40 bytes, of a source that tells these bytes and failed so
-- often before
pub record SumFails (field : ℕ) (left : Option (List ℕ)) (faults : ℕ) (e : Error) : Type 0 where
  pub header : Change
  pub from_left : header.left ≡ left
  pub from_faults : header.faults ≡ faults
  pub within : header.limit ≡ 2 ^ 40
  pub why : MetadataFails header e ⊎ RowsFail field header e

-- ---- cited by private contracts alone

-- there is one column, and its integers are added
pub record AddsColumn (n : ℤ) (columns : List (List Slot)) (total : ℤ) : Type 0 where
  pub column : List Slot
  pub one : columns ≡ column ∷ []
  pub adds : total ≡ added n column

-- and then the source ended
pub record SumsBlocks (p : Projected) (marker : List ℕ) (old new : State) (n : ℤ) : Type 0 where
  pub sums : SumsSoFar p marker old new n
  pub ended : IsAtEnd new.left
