-- Columns and the fields that they are written under. Private contracts and the law `decoded_is_serializable` cite these.
use Rattle.std.specs.Prelude.{List, [], ◌∷◌, map, ℕ, All}
use Rattle.std.specs.List.{AllZip}
use Rattle.arrow_core.specs.declared.slot.Slot.{Slot}
use Rattle.arrow_array.specs.declared.array.Array.{Array}
use Rattle.arrow_array.specs.Arrays.{array_slots}
use Rattle.avro_schema.specs.declared.schema.AvroField.{AvroField}
use Rattle.avro_encode.specs.Pairs.{Pairs}
use Rattle.avro_encode.specs.Plain.{plain}
use Rattle.avro_write.specs.Flaws.{IsAccepted}

-- each column can be written under the field beside it
abbrev pub AreAccepted : List AvroField → List Array → Type 0
AreAccepted = AllZip (λ f a. IsAccepted f.schema a)

-- and each of its slots has a canonical encoding under it
abbrev pub HaveEncodings : List AvroField → List Array → Type 0
HaveEncodings = AllZip (λ f a. All (Pairs f.schema) (array_slots a))

-- the canonical encodings of each column's slots
abbrev pub encodings : List AvroField → List (List Slot) → List (List (List ℕ))
encodings [] columns = []
encodings (f ∷ fields) [] = []
encodings (f ∷ fields) (slots ∷ columns) = map (plain f.schema) slots ∷ encodings fields columns
