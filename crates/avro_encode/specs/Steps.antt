-- A list and a struct of an array, and the schemas that they pair with. Private contracts alone cite these.
use Rattle.std.specs.Prelude.{◌≡◌, List}
use Rattle.std.specs.List.{AllByRecursion}
use Rattle.arrow_core.specs.declared.slot.Slot.{Slot}
use Rattle.arrow_core.specs.declared.slot.Slot.TheVariants as slot
use Rattle.arrow_array.specs.declared.array.Array.{Array}
use Rattle.arrow_array.specs.Arrays.{array_type}
use Rattle.avro_schema.specs.declared.schema.AvroField.{AvroField}
use Rattle.avro_schema.specs.declared.schema.Schema.{Schema}
use Rattle.avro_encode.specs.Listed.{PairsFieldsOf, PairsListOf, PairsStructOf}
use Rattle.avro_encode.specs.Pairs.{IsCounted, Pairs}

-- the list of a slot of the array pairs with the schema of its items
pub record PairsList (item : Schema) (array : Array) (x : Slot) : Type 0 where
  pub types : PairsListOf item (array_type array)
  pub items : List Slot
  pub is : x ≡ slot.List items
  pub counted : IsCounted items
  pub slots : AllByRecursion (Pairs item) items

-- the struct of a slot of the array pairs with the fields of a record
pub record PairsStruct (fields : List AvroField) (array : Array) (x : Slot) : Type 0 where
  pub types : PairsStructOf fields (array_type array)
  pub items : List Slot
  pub is : x ≡ slot.Struct items
  pub slots : PairsFieldsOf fields items
