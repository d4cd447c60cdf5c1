-- Lines as rows of columns, and the rows as blocks of an Avro file.
use Rattle.std.specs.Prelude.{◌≡◌, ◌⊎◌, ℕ, ◌<◌, ◌≤◌, Bool, true, false, List, [], ◌∷◌, length, map, flat_map, All}
use Rattle.std.specs.List.{AllZip, Any, list_any}
use Rattle.arrow_core.specs.declared.error.Error.{Error}
use Rattle.arrow_core.specs.declared.error.Error.TheVariants.{ExternalFormat, InvalidArgumentError, NotYetImplemented, Overflow, OutOfMemory}
use Rattle.arrow_core.specs.declared.error.Reason.TheVariants as reason
use Rattle.arrow_core.specs.declared.slot.Slot.{Slot}
use Rattle.arrow_core.specs.declared.types.DataType.{DataType}
use Rattle.avro_container.specs.File.{FileBlock, the_block}
use Rattle.avro_encode.specs.Pairs.{Pairs}
use Rattle.avro_encode.specs.Plain.{plain}
use Rattle.avro_schema.specs.declared.schema.Schema.{Schema}
use Rattle.avro_write.specs.declared.flaws.Flaw.TheVariants as flaw
use Rattle.avro_write.specs.Flaws.{shows}
use Rattle.json_columns.specs.Faults.{TooMany}
use Rattle.json_flat.specs.Reading.{reading}
use Rattle.json_flat.specs.Columns.{AreSlotsOf, Has}
use Rattle.json_flat.specs.Meaning.{text_timestamp, unfit}
use Rattle.json_tree.specs.Meaning.{IsJson}
use Rattle.json_tree.specs.Tree.{Json}
use Rattle.ndjson_avro.specs.Values.{FirstWithout, is_object}

-- ---- the rows of a batch

-- a null stands where the root requires a value
abbrev pub lacks_value : Schema → List Slot → Bool
lacks_value root slots = list_any (shows flaw.Null root) slots

-- The texts are those of objects, which mean these slots under the row type, a Struct of the columns: a missing member is
-- a null, and a member that is no column's is passed over. No null stands where the root requires a value.
pub record AreRows (row_type : DataType) (root : Schema) (texts : List (List ℕ)) (slots : List Slot) : Type 0 where
  pub values : List Json
  pub have : AllZip IsJson values texts
  pub objects : All (λ value. is_object value ≡ true) values
  pub meant : AreSlotsOf (reading row_type) values slots
  pub complete : lacks_value root slots ≡ false
  -- each row has a canonical encoding under the root
  pub paired : All (Pairs root) slots

-- Why these values aren't written as rows, the first reason that applies to all of them together: one is no object; a text
-- stands under a timestamp; one doesn't fit its type, or there are more items or bytes than can be counted; a null stands
-- where the root requires a value (which doesn't rule out that items or bytes are too many). Out of memory may come at any
-- time.
abbrev pub AreNotWritten : DataType → Schema → List Json → Error → Type 0
AreNotWritten row_type root values (ExternalFormat reason.NotAnObject) = Any (λ value. is_object value ≡ false) values
AreNotWritten row_type root values (NotYetImplemented reason.TextTimestamp) = All (λ value. is_object value ≡ true) values × Has text_timestamp (reading row_type) values
AreNotWritten row_type root values Overflow =
    All (λ value. is_object value ≡ true) values × (Has text_timestamp (reading row_type) values → ⊥)
    × (Has unfit (reading row_type) values ⊎ TooMany row_type values)
AreNotWritten row_type root values (InvalidArgumentError reason.NullUnderRequired) =
    All (λ value. is_object value ≡ true) values × ((slots : List Slot) × AreSlotsOf (reading row_type) values slots × (lacks_value root slots ≡ true))
AreNotWritten row_type root values OutOfMemory = Unit {0}
AreNotWritten row_type root values _ = ⊥

-- why a batch of rows isn't written: one has no value, and this is the first; or all have, and they aren't written
abbrev pub AreRefused : DataType → Schema → List (List ℕ) → Error → Type 0
AreRefused row_type root texts e = FirstWithout texts e ⊎ ((values : List Json) × AllZip IsJson values texts × AreNotWritten row_type root values e)

-- ---- blocks

-- the block of some rows: their canonical encodings, one after another (Avro 1.11, "Binary Encoding")
abbrev pub rows_block : Schema → List Slot → FileBlock
rows_block root slots = the_block (length slots) (flat_map (plain root) slots)

-- of each batch
abbrev pub rows_blocks : Schema → List (List Slot) → List FileBlock
rows_blocks root batches = map (rows_block root) batches

-- the rows are cut into batches of n, of which the last one has from 1 to n
abbrev pub AreBatches : ℕ → List (List Slot) → Type 0
AreBatches n [] = Unit {0}
AreBatches n (batch ∷ []) = (0 < length batch) × (length batch ≤ n)
AreBatches n (batch ∷ next ∷ more) = (length batch ≡ n) × AreBatches n (next ∷ more)

-- the rows of batches, one batch after another
abbrev pub all_rows : List (List Slot) → List Slot
all_rows batches = flat_map (λ batch. batch) batches
