-- The members of a union and the fields of a record as lists, for the laws that say what each definition is
-- at an array, a union and a record. The definitions themselves go by recursion on a
-- schema, whose members and fields are rows of that recursion; here the same is said of the lists that
-- code sees.
use Rattle.std.specs.Prelude.{◌≡◌, ℕ, zero, suc, ◌<◌, pos, List, [], ◌∷◌, ◌++◌, length, ◌⊎◌, ◌↔◌}
use Rattle.arrow_core.specs.declared.slot.Slot.{Slot}
use Rattle.arrow_core.specs.declared.slot.Slot.TheVariants as slot
use Rattle.avro_schema.specs.declared.schema.Schema.{Schema, Array, Union, Record}
use Rattle.avro_schema.specs.declared.schema.Record.{Record as TheRecord, out-Record}
use Rattle.avro_schema.specs.declared.schema.AvroField.{AvroField}
use Rattle.avro_schema.specs.Number.{Number}
use Rattle.avro_schema.specs.Parts.{Grammar, Then, Meaning, Measured, Blocks}
use Rattle.avro_schema.specs.Encodes.{Any, IsNull, Encodes}
use Rattle.avro_schema.specs.Skips.{Passed, nothing, seen_only, both, SkipsBlocks, Skips}
use Rattle.avro_schema.specs.Broken.{BrokenBlocks, Broken}
use Rattle.avro_schema.specs.Carried.{IsNoUnion, Carried, CarriedList}

-- the member at index k, where null has no bytes
abbrev pub EncodesMemberOf : List Schema → ℕ → Grammar Slot
EncodesMemberOf [] k bytes x = ⊥
EncodesMemberOf (s ∷ rest) zero bytes x = Encodes s bytes x ⊎ (IsNull s × (bytes ≡ []) × (x ≡ slot.Null))
EncodesMemberOf (s ∷ rest) (suc k) bytes x = EncodesMemberOf rest k bytes x

abbrev pub EncodesFieldsOf : List AvroField → Grammar (List Slot)
EncodesFieldsOf [] bytes xs = (bytes ≡ []) × (xs ≡ [])
EncodesFieldsOf (f ∷ rest) bytes xs = Then (Encodes f.schema) (λ x back ys. (more : List Slot) × (ys ≡ x ∷ more) × EncodesFieldsOf rest back more) bytes xs

abbrev pub SkipsMemberOf : List Schema → ℕ → Grammar Passed
SkipsMemberOf [] k bytes y = ⊥
SkipsMemberOf (s ∷ rest) zero bytes y = Skips s bytes y ⊎ (IsNull s × (bytes ≡ []) × (y ≡ nothing))
SkipsMemberOf (s ∷ rest) (suc k) bytes y = SkipsMemberOf rest k bytes y

abbrev pub SkipsFieldsOf : List AvroField → Grammar Passed
SkipsFieldsOf [] bytes y = (bytes ≡ []) × (y ≡ nothing)
SkipsFieldsOf (f ∷ rest) bytes y = Then (Skips f.schema) (λ p back z. (more : Passed) × (z ≡ both p more) × SkipsFieldsOf rest back more) bytes y

abbrev pub BrokenMemberOf : List Schema → ℕ → List ℕ → Type 0
BrokenMemberOf [] k bytes = ⊥
BrokenMemberOf (s ∷ rest) zero bytes = Broken s bytes
BrokenMemberOf (s ∷ rest) (suc k) bytes = BrokenMemberOf rest k bytes

abbrev pub BrokenFieldsOf : List AvroField → List ℕ → Type 0
BrokenFieldsOf [] bytes = ⊥
BrokenFieldsOf (f ∷ rest) bytes = Broken f.schema bytes ⊎ ((prefix back : List ℕ) × (bytes ≡ prefix ++ back) × (p : Passed) × Skips f.schema prefix p × BrokenFieldsOf rest back)

-- a union: the number 0 or 1, and then that member
abbrev pub EncodesUnionOf : List Schema → Grammar Slot
EncodesUnionOf members = Then Number (λ v back y. (k : ℕ) × (v ≡ pos k) × (k < 2) × EncodesMemberOf members k back y)

abbrev pub SkipsUnionOf : List Schema → Grammar Passed
SkipsUnionOf members = Then (Measured Number) (λ v back z. (k : ℕ) × (v.0 ≡ pos k) × (k < 2) × (p : Passed) × (z ≡ both (seen_only v.1) p) × SkipsMemberOf members k back p)

abbrev pub BrokenUnionOf : List Schema → List ℕ → Type 0
BrokenUnionOf members bytes = (prefix back : List ℕ) × (bytes ≡ prefix ++ back) × (k : ℕ) × (k < 2) × Number prefix (pos k) × BrokenMemberOf members k back

abbrev pub CarriedMembersOf : List Schema → Type 0
CarriedMembersOf (s ∷ t ∷ []) = (IsNull s × Carried t × IsNoUnion t) ⊎ (Carried s × IsNoUnion s × IsNull t)
CarriedMembersOf _ = ⊥

abbrev pub CarriedFieldsOf : List AvroField → Type 0
CarriedFieldsOf fields = (0 < length fields) × CarriedList fields

-- ---- what each definition says of an array, a union and a record

pub record EncodesComposites : Type 0 where
  pub array : (item : Schema) (bytes : List ℕ) (x : Slot) → Encodes (Array item) bytes x ↔ Meaning (Blocks (Encodes item)) Any slot.List bytes x
  pub union : (members : List Schema) (bytes : List ℕ) (x : Slot) → Encodes (Union members) bytes x ↔ EncodesUnionOf members bytes x
  pub fields : (r : TheRecord) (bytes : List ℕ) (x : Slot) → Encodes (Record r) bytes x ↔ Meaning (EncodesFieldsOf (out-Record r).fields) Any slot.Struct bytes x

pub record SkipsComposites : Type 0 where
  pub array : (item : Schema) (bytes : List ℕ) (p : Passed) → Skips (Array item) bytes p ↔ SkipsBlocks (Skips item) bytes p
  pub union : (members : List Schema) (bytes : List ℕ) (p : Passed) → Skips (Union members) bytes p ↔ SkipsUnionOf members bytes p
  pub fields : (r : TheRecord) (bytes : List ℕ) (p : Passed) → Skips (Record r) bytes p ↔ SkipsFieldsOf (out-Record r).fields bytes p

pub record BrokenComposites : Type 0 where
  pub array : (item : Schema) (bytes : List ℕ) → Broken (Array item) bytes ↔ BrokenBlocks (Skips item) (Broken item) bytes
  pub union : (members : List Schema) (bytes : List ℕ) → Broken (Union members) bytes ↔ BrokenUnionOf members bytes
  pub fields : (r : TheRecord) (bytes : List ℕ) → Broken (Record r) bytes ↔ BrokenFieldsOf (out-Record r).fields bytes

pub record CarriedComposites : Type 0 where
  pub array : (item : Schema) → Carried (Array item) ↔ Carried item
  pub union : (members : List Schema) → Carried (Union members) ↔ CarriedMembersOf members
  pub fields : (r : TheRecord) → Carried (Record r) ↔ CarriedFieldsOf (out-Record r).fields
