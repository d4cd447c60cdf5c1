-- The encoding and the pairs of unions and records in terms of the lists of members and of fields that code
-- sees; those that public contracts begin with go by recursion on a schema. Private contracts cite these, and so do the model of
-- `ColumnEncoder` and what the crates above state of whole rows and tables.
use Rattle.std.specs.Prelude.{◌≡◌, Bool, if◌then◌else◌, pos, cond, List, [], ◌∷◌, ◌++◌, ◌⊎◌, ℕ, map, Option, Some, None}
use Rattle.std.specs.List.{AllZip}
use Rattle.arrow_core.specs.declared.slot.Slot.{Slot}
use Rattle.arrow_core.specs.declared.slot.Slot.TheVariants as slot
use Rattle.arrow_core.specs.declared.types.DataType.{DataType}
use Rattle.arrow_core.specs.declared.types.Field.{Field}
use Rattle.avro_schema.specs.declared.schema.Schema.{Schema}
use Rattle.avro_schema.specs.declared.schema.AvroField.{AvroField}
use Rattle.arrow_array.specs.declared.array.Array.{Array}
use Rattle.arrow_array.specs.Arrays.{array_slots}
use Rattle.arrow_array.specs.Slots.{is_held, slot_at}
use Rattle.avro_schema.specs.Encodes.{IsNull, is_null}
use Rattle.avro_schema.specs.Carried.{IsNoUnion}
use Rattle.avro_container.specs.Shortest.{shortest}
use Rattle.avro_encode.specs.Plain.{plain}
use Rattle.avro_encode.specs.Pairs.{Pairs}
use Rattle.avro_encode.specs.PairTypes.{PairsType, column_types, item_type}

abbrev pub plain_union_of : List Schema → Slot → List ℕ
plain_union_of (s ∷ u ∷ []) x =
    cond (is_null s)
    (cond (is_held x) (shortest (pos 1) ++ plain u x) (shortest (pos 0)))
    (cond (is_held x) (shortest (pos 0) ++ plain s x) (shortest (pos 1)))
plain_union_of _ x = []

-- the byte of an index below: 0, or 2 for the index 1
abbrev pub index_byte : Bool → Bool → ℕ
index_byte null_first held = if held then (if null_first then 2 else 0) else (if null_first then 0 else 2)

-- a null has the index at which null stands, and a value the other
abbrev pub index_of : Bool → Bool → List ℕ
index_of null_first held = if held then (if null_first then shortest (pos 1) else shortest (pos 0)) else (if null_first then shortest (pos 0) else shortest (pos 1))

-- in a union of two, whether null is the first, and the other member
abbrev pub IsBesideNull : List Schema → Bool → Schema → Type 0
IsBesideNull (s ∷ u ∷ []) null_first member = (null_first ≡ is_null s) × (member ≡ (if null_first then u else s))
IsBesideNull _ null_first member = ⊥

abbrev pub plain_fields_of : List AvroField → List Slot → List ℕ
plain_fields_of [] xs = []
plain_fields_of (f ∷ fs) [] = []
plain_fields_of (f ∷ fs) (x ∷ xs) = plain f.schema x ++ plain_fields_of fs xs

abbrev pub PairsUnionOf : List Schema → Slot → Type 0
PairsUnionOf (s ∷ u ∷ []) x =
    (IsNull s × IsNoUnion u × ((x ≡ slot.Null) ⊎ Pairs u x)) ⊎ (IsNull u × IsNoUnion s × ((x ≡ slot.Null) ⊎ Pairs s x))
PairsUnionOf _ x = ⊥

abbrev pub PairsFieldsOf : List AvroField → List Slot → Type 0
PairsFieldsOf [] [] = Unit {0}
PairsFieldsOf [] (x ∷ xs) = ⊥
PairsFieldsOf (f ∷ fs) [] = ⊥
PairsFieldsOf (f ∷ fs) (x ∷ xs) = Pairs f.schema x × PairsFieldsOf fs xs

abbrev pub PairsMemberTypeOf : List Schema → DataType → Type 0
PairsMemberTypeOf (s ∷ u ∷ []) t = (IsNull s × IsNoUnion u × PairsType u t) ⊎ (IsNull u × IsNoUnion s × PairsType s t)
PairsMemberTypeOf _ t = ⊥

-- as many types in order
abbrev pub PairsTypesOf : List AvroField → List DataType → Type 0
PairsTypesOf = AllZip (λ a t. PairsType a.schema t)

abbrev pub PairsItemOf : Schema → Option DataType → Type 0
PairsItemOf item (Some t) = PairsType item t
PairsItemOf item None = ⊥

-- lists whose items pair with the schema
abbrev pub PairsListOf : Schema → DataType → Type 0
PairsListOf item t = PairsItemOf item (item_type t)

abbrev pub PairsRecordOf : List AvroField → Option (List DataType) → Type 0
PairsRecordOf fields (Some ts) = PairsTypesOf fields ts
PairsRecordOf fields None = ⊥

-- structs of as many columns, which pair with the fields in order
abbrev pub PairsStructOf : List AvroField → DataType → Type 0
PairsStructOf fields t = PairsRecordOf fields (column_types t)

-- as many columns in order
abbrev pub PairsColumns : List AvroField → List Field → Type 0
PairsColumns = AllZip (λ a f. PairsType a.schema f.data_type)

-- the slots of the arrays at an index
abbrev pub slots_across : List Array → ℕ → List Slot
slots_across children i = map (λ slots. slot_at slots i) (map array_slots children)
