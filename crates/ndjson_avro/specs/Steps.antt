-- What is encoded and written of a batch, and batch after batch. Contracts of private functions alone cite this file.
use Rattle.std.specs.Prelude.{◌≡◌, ◌⊎◌, ℕ, ◌+◌, ◌≤◌, true, false, Option, List, [], ◌∷◌, length, All, IfSome}
use Rattle.std.specs.List.{AllZip, Any}
use Rattle.std.specs.Io.KnownBytes.{Appends, IsAtEnd}
use Rattle.arrow_core.specs.declared.error.Error.{Error}
use Rattle.arrow_core.specs.declared.error.Error.TheVariants.{ExternalFormat, InvalidArgumentError, OutOfMemory}
use Rattle.arrow_core.specs.declared.error.Reason.TheVariants as reason
use Rattle.arrow_core.specs.declared.types.DataType as types
use Rattle.arrow_core.specs.declared.types.DataType.{DataType}
use Rattle.arrow_core.specs.declared.types.Field.{Field}
use Rattle.arrow_core.specs.declared.slot.Slot.{Slot}
use Rattle.avro_container.specs.Canonical.{canonical_blocks}
use Rattle.avro_container.specs.File.{FileBlock}
use Rattle.avro_encode.specs.PairTypes.{PairsType}
use Rattle.avro_schema.specs.declared.schema.Record.{Record as TheRecord}
use Rattle.avro_schema.specs.declared.schema.Schema.{Record, Schema}
use Rattle.avro_write.specs.declared.flaws.Flaw.TheVariants as flaw
use Rattle.avro_write.specs.Flaws.{shows}
use Rattle.json_flat.specs.Names.{names_twice}
use Rattle.json_flat.specs.Reading.{has_reading, reading}
use Rattle.json_flat.specs.Columns.{AreSlotsOf}
use Rattle.json_columns.specs.Refusals.{IsRefusal}
use Rattle.json_tree.specs.Meaning.{IsJson}
use Rattle.json_tree.specs.Tree.{Json}
use Rattle.line_encode.specs.declared.lines.LinePlan.{LinePlan}
use Rattle.line_encode.specs.Makes.{IsLinePlanOf}
use Rattle.ndjson_read.specs.Reading.{State}
use Rattle.ndjson_avro.specs.Batches.{WritesBatches}
use Rattle.ndjson_avro.specs.BatchSteps.{TakesSome}
use Rattle.ndjson_avro.specs.Rows.{all_rows, AreBatches, AreRefused, AreRows, lacks_value, rows_block, rows_blocks}
use Rattle.ndjson_avro.specs.Taken.{TakesRows}
use Rattle.ndjson_avro.specs.Target.{HasTarget}
use Rattle.ndjson_avro.specs.Values.{FirstWithout, is_object}
use Rattle.ndjson_avro.specs.declared.encoder.BlockEncoder.{BlockEncoder}

-- ---- encoding

-- JSON values are read under the row type, which names no field twice and pairs with the root, and no slot shows an interval that a
-- duration can't hold.
pub record IsRootOf (root : Schema) (row_type : DataType) : Type 0 where
  pub distinct : names_twice row_type ≡ false
  pub readable : has_reading row_type ≡ true
  pub pairs : PairsType root row_type
  pub no_interval : (x : Slot) → shows flaw.Interval root x ≡ false

-- the builders that lines are read into, if there are any, are those of the row type's fields
abbrev pub AreBuildersOf : DataType → Option (List Field) → Type 0
AreBuildersOf row_type lines = IfSome lines (λ fields. row_type ≡ types.Struct fields)

-- the plan by which lines are encoded without columns, if there is any, is that of the row type and the root
abbrev pub IsPlanFor : DataType → Schema → Option LinePlan → Type 0
IsPlanFor row_type root plan =
    IfSome plan (λ p. (fields : List Field) × (r : TheRecord) × (row_type ≡ types.Struct fields) × (root ≡ Record r) × IsLinePlanOf fields r p)

-- An encoder of the rows of these fields, and the record of the file.
pub record IsEncoderOf (fields : List Field) (name : List ℕ) (encoder : BlockEncoder) (target : TheRecord) : Type 0 where
  pub has : HasTarget fields name target
  pub row_type : encoder.row_type ≡ types.Struct fields
  pub root : encoder.root ≡ Record target
  pub is_root : IsRootOf encoder.root encoder.row_type
  pub are_lines : AreBuildersOf encoder.row_type encoder.lines
  pub is_plan : IsPlanFor encoder.row_type encoder.root encoder.plan

-- ---- reading

-- the texts are those of objects, which mean these slots under the row type
pub record AreRead (row_type : DataType) (texts : List (List ℕ)) (slots : List Slot) : Type 0 where
  pub values : List Json
  pub have : AllZip IsJson values texts
  pub objects : All (λ value. is_object value ≡ true) values
  pub meant : AreSlotsOf (reading row_type) values slots

-- why texts have no values: this is the first without one; or out of memory
abbrev pub AreNotParsed : List (List ℕ) → Error → Type 0
AreNotParsed texts e = (e ≡ OutOfMemory) ⊎ FirstWithout texts e

-- a value is no object
abbrev pub HasNonObject : List Json → Error → Type 0
HasNonObject values e = (e ≡ ExternalFormat reason.NotAnObject) × Any (λ value. is_object value ≡ false) values

-- why texts aren't read
abbrev pub AreNotRead : DataType → List (List ℕ) → Error → Type 0
AreNotRead row_type texts e =
    AreNotParsed texts e
    ⊎ ((values : List Json) × AllZip IsJson values texts × (HasNonObject values e ⊎ (All (λ value. is_object value ≡ true) values × IsRefusal row_type values e)))

-- why slots aren't encoded
abbrev pub RowsRefused : Schema → List Slot → Error → Type 0
RowsRefused root slots e = (e ≡ OutOfMemory) ⊎ ((e ≡ InvalidArgumentError reason.NullUnderRequired) × (lacks_value root slots ≡ true))

-- why rows aren't, the first reason that applies to all of them together; or out of memory
abbrev pub TextsRefused : DataType → Schema → List (List ℕ) → Error → Type 0
TextsRefused row_type root texts e = (e ≡ OutOfMemory) ⊎ AreRefused row_type root texts e

-- the texts are rows, and this is their block
pub record EncodesRows (row_type : DataType) (root : Schema) (texts : List (List ℕ)) (block : FileBlock) : Type 0 where
  pub slots : List Slot
  pub rows : AreRows row_type root texts slots
  pub is : block ≡ rows_block root slots

-- ---- writing

-- the batch of some rows; none where there is no row
abbrev pub as_batch : List Slot → List (List Slot)
as_batch [] = []
as_batch (x ∷ slots) = (x ∷ slots) ∷ []

-- the next rows were taken, `count` of them, and written as a block, if any
pub record NextWritten (row_type : DataType) (root : Schema) (marker : List ℕ) (n : ℕ) (old new : State) (held held_after : Option (List ℕ)) (count : ℕ) : Type 0 where
  pub texts : List (List ℕ)
  pub takes : TakesSome n old new texts
  pub slots : List Slot
  pub rows : AreRows row_type root texts slots
  pub written : Appends held held_after (canonical_blocks marker (rows_blocks root (as_batch slots)))
  pub counted : count ≡ length texts

-- whole batches of n rows were written so far, `count` rows in all
pub record WrittenSoFar (row_type : DataType) (root : Schema) (marker : List ℕ) (n : ℕ) (old new : State) (held held_after : Option (List ℕ)) (count : ℕ) : Type 0 where
  pub batches : List (List Slot)
  pub before : WritesBatches row_type root marker n old new held held_after batches
  pub counted : count ≡ length before.texts
  pub few : length before.texts + new.limit ≤ old.limit

-- all rows were taken, `count` of them, and written
pub record AllWritten (row_type : DataType) (root : Schema) (marker : List ℕ) (n : ℕ) (old new : State) (held held_after : Option (List ℕ)) (count : ℕ) : Type 0 where
  pub texts : List (List ℕ)
  pub takes : TakesRows old new texts
  pub end : IsAtEnd new.left
  pub batches : List (List Slot)
  pub rows : AreRows row_type root texts (all_rows batches)
  pub cut : AreBatches n batches
  pub written : Appends held held_after (canonical_blocks marker (rows_blocks root batches))
  pub counted : count ≡ length texts
