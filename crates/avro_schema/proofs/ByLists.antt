-- The definitions at arrays, unions and records, in terms of the lists of members and of fields.
use Rattle.std.proofs.Common.{◌≡◌, ℕ, zero, suc, ◌<◌, pos, List, [], ◌∷◌, ◌++◌, length, refl, sym, ap, ◌∙◌, subst, ◌↔◌, ◌⊎◌, arith}
use Rattle.std.specs.List.{AllByRecursion}
use Rattle.std.proofs.lemmas.List.Elements.{All-from_recursion, recursion_from_All}
use Rattle.arrow_core.specs.declared.slot.Slot.{Slot}
use Rattle.arrow_core.specs.declared.slot.Slot.TheVariants as slot
use Rattle.avro_schema.specs.declared.schema.AvroField.{AvroField}
use Rattle.avro_schema.specs.declared.schema.Record.{Record as TheRecord, Record', out-Record, Row_of-AvroField, end_of-AvroField, more_of-AvroField, items-the_row-AvroField, items_shown-the_row-AvroField-2}
use Rattle.avro_schema.specs.declared.schema.Schema.{Schema, Array, Union, Record}
use Rattle.avro_schema.specs.declared.schema.Schema.TheBlock.{shape-the_row-Schema-0, hidden-the_row-Schema-0, shape-the_row-Schema-1, hidden-the_row-Schema-1}
use Rattle.avro_schema.specs.declared.schema.Schema.TheViews.{outs-struct-Record}
use Rattle.avro_schema.specs.Number.{Number}
use Rattle.avro_schema.specs.Parts.{Then, Meaning, Measured, Blocks}
use Rattle.avro_schema.specs.Encodes.{Any, Encodes, EncodesMember, EncodesRecord, EncodesFields}
use Rattle.avro_schema.specs.Skips.{Passed, seen_only, both, SkipsBlocks, Skips, SkipsMember, SkipsRecord, SkipsFields}
use Rattle.avro_schema.specs.Broken.{BrokenBlocks, Broken, BrokenMember, BrokenRecord, BrokenFields}
use Rattle.avro_schema.specs.Carried.{Carried, CarriedRecord, CarriedFields, HasFields}
use Rattle.avro_schema.specs.Listed.{EncodesMemberOf, EncodesFieldsOf, EncodesUnionOf, SkipsMemberOf, SkipsFieldsOf, SkipsUnionOf, BrokenMemberOf, BrokenFieldsOf, BrokenUnionOf, CarriedMembersOf, CarriedFieldsOf}

pub moved : {A B : Type 0} → A ≡ B → A → B
moved e = subst (λ T. T) e

pub both_ways : {A B : Type 0} → A ≡ B → A ↔ B
both_ways e = (moved e, moved (sym e))

-- the fields of a record are the items of its row
abbrev pub row_fields : TheRecord → List AvroField
row_fields (Record' name namespace doc shape fields) = items-the_row-AvroField _ fields

pub fields_are : (r : TheRecord) → row_fields r ≡ (out-Record r).fields
fields_are (Record' name namespace doc shape fields) =
    sym (ap (λ o. o.fields) (outs-struct-Record name namespace doc shape fields) ∙ items_shown-the_row-AvroField-2 shape fields)

-- ---- encoded

pub encodes_array : (item : Schema) → Encodes (Array item) ≡ Meaning (Blocks (Encodes item)) Any slot.List
unfolding shape-the_row-Schema-0 hidden-the_row-Schema-0 denote.Hole.Carrier.hidden
encodes_array item = refl

encodes_member : (members : List Schema) (k : ℕ) → EncodesMember (hidden-the_row-Schema-1 members) k ≡ EncodesMemberOf members k
unfolding shape-the_row-Schema-1 hidden-the_row-Schema-1 denote.Hole.Carrier.hidden
encodes_member [] k = refl
encodes_member (s ∷ members) zero = refl
encodes_member (s ∷ members) (suc k) = encodes_member members k

pub encodes_union : (members : List Schema) → Encodes (Union members) ≡ EncodesUnionOf members
unfolding shape-the_row-Schema-1 hidden-the_row-Schema-1 denote.Hole.Carrier.hidden
encodes_union members = λ i. Then Number (λ v back y. (k : ℕ) × (v ≡ pos k) × (k < 2) × encodes_member members k i back y)

encodes_fields : {m : _} (row : Row_of-AvroField m) → EncodesFields row ≡ EncodesFieldsOf (items-the_row-AvroField _ row)
encodes_fields end_of-AvroField = refl
encodes_fields (more_of-AvroField name doc s rest) = λ i bytes xs. Then (Encodes s) (λ x back ys. (more : List Slot) × (ys ≡ x ∷ more) × encodes_fields rest i back more) bytes xs

encodes_row : (r : TheRecord) → EncodesRecord r ≡ EncodesFieldsOf (row_fields r)
encodes_row (Record' name namespace doc shape fields) = encodes_fields fields

pub encodes_record : (r : TheRecord) → Encodes (Record r) ≡ Meaning (EncodesFieldsOf (out-Record r).fields) Any slot.Struct
encodes_record r = λ i. Meaning ((encodes_row r ∙ ap EncodesFieldsOf (fields_are r)) i) Any slot.Struct

-- ---- skipped

pub skips_array : (item : Schema) → Skips (Array item) ≡ SkipsBlocks (Skips item)
unfolding shape-the_row-Schema-0 hidden-the_row-Schema-0 denote.Hole.Carrier.hidden
skips_array item = refl

skips_member : (members : List Schema) (k : ℕ) → SkipsMember (hidden-the_row-Schema-1 members) k ≡ SkipsMemberOf members k
unfolding shape-the_row-Schema-1 hidden-the_row-Schema-1 denote.Hole.Carrier.hidden
skips_member [] k = refl
skips_member (s ∷ members) zero = refl
skips_member (s ∷ members) (suc k) = skips_member members k

pub skips_union : (members : List Schema) → Skips (Union members) ≡ SkipsUnionOf members
unfolding shape-the_row-Schema-1 hidden-the_row-Schema-1 denote.Hole.Carrier.hidden
skips_union members = λ i. Then (Measured Number) (λ v back z. (k : ℕ) × (v.0 ≡ pos k) × (k < 2) × (p : Passed) × (z ≡ both (seen_only v.1) p) × skips_member members k i back p)

skips_fields : {m : _} (row : Row_of-AvroField m) → SkipsFields row ≡ SkipsFieldsOf (items-the_row-AvroField _ row)
skips_fields end_of-AvroField = refl
skips_fields (more_of-AvroField name doc s rest) = λ i bytes y. Then (Skips s) (λ p back z. (more : Passed) × (z ≡ both p more) × skips_fields rest i back more) bytes y

skips_row : (r : TheRecord) → SkipsRecord r ≡ SkipsFieldsOf (row_fields r)
skips_row (Record' name namespace doc shape fields) = skips_fields fields

pub skips_record : (r : TheRecord) → Skips (Record r) ≡ SkipsFieldsOf (out-Record r).fields
skips_record r = skips_row r ∙ ap SkipsFieldsOf (fields_are r)

-- ---- broken

pub broken_array : (item : Schema) → Broken (Array item) ≡ BrokenBlocks (Skips item) (Broken item)
unfolding shape-the_row-Schema-0 hidden-the_row-Schema-0 denote.Hole.Carrier.hidden
broken_array item = refl

broken_member : (members : List Schema) (k : ℕ) → BrokenMember (hidden-the_row-Schema-1 members) k ≡ BrokenMemberOf members k
unfolding shape-the_row-Schema-1 hidden-the_row-Schema-1 denote.Hole.Carrier.hidden
broken_member [] k = refl
broken_member (s ∷ members) zero = refl
broken_member (s ∷ members) (suc k) = broken_member members k

pub broken_union : (members : List Schema) → Broken (Union members) ≡ BrokenUnionOf members
unfolding shape-the_row-Schema-1 hidden-the_row-Schema-1 denote.Hole.Carrier.hidden
broken_union members = λ i bytes. (prefix back : List ℕ) × (bytes ≡ prefix ++ back) × (k : ℕ) × (k < 2) × Number prefix (pos k) × broken_member members k i back

broken_fields : {m : _} (row : Row_of-AvroField m) → BrokenFields row ≡ BrokenFieldsOf (items-the_row-AvroField _ row)
broken_fields end_of-AvroField = refl
broken_fields (more_of-AvroField name doc s rest) = λ i bytes. Broken s bytes ⊎ ((prefix back : List ℕ) × (bytes ≡ prefix ++ back) × (p : Passed) × Skips s prefix p × broken_fields rest i back)

broken_row : (r : TheRecord) → BrokenRecord r ≡ BrokenFieldsOf (row_fields r)
broken_row (Record' name namespace doc shape fields) = broken_fields fields

pub broken_record : (r : TheRecord) → Broken (Record r) ≡ BrokenFieldsOf (out-Record r).fields
broken_record r = broken_row r ∙ ap BrokenFieldsOf (fields_are r)

-- ---- carried

pub carried_array : (item : Schema) → Carried (Array item) ≡ Carried item
unfolding shape-the_row-Schema-0 hidden-the_row-Schema-0 denote.Hole.Carrier.hidden
carried_array item = refl

pub carried_union : (members : List Schema) → Carried (Union members) ≡ CarriedMembersOf members
unfolding shape-the_row-Schema-1 hidden-the_row-Schema-1 denote.Hole.Carrier.hidden
carried_union [] = refl
carried_union (s ∷ []) = refl
carried_union (s ∷ t ∷ []) = refl
carried_union (s ∷ t ∷ u ∷ more) = refl

carried_fields : {m : _} (row : Row_of-AvroField m) → CarriedFields row ≡ AllByRecursion (λ f. Carried f.schema) (items-the_row-AvroField _ row)
carried_fields end_of-AvroField = refl
carried_fields (more_of-AvroField name doc s rest) = ap (λ T. Carried s × T) (carried_fields rest)

abbrev FieldsByRecursion : List AvroField → Type 0
FieldsByRecursion fs = (0 < length fs) × AllByRecursion (λ f. Carried f.schema) fs

carried_row_fields : {m : _} (row : Row_of-AvroField m) → (HasFields row × CarriedFields row) ↔ FieldsByRecursion (items-the_row-AvroField _ row)
carried_row_fields end_of-AvroField = (λ h. absurd h.0, λ h. absurd (omega (arith, h.0)))
carried_row_fields (more_of-AvroField name doc s rest) =
    (λ h. (omega arith, moved (carried_fields (more_of-AvroField name doc s rest)) h.1), λ h. (tt, moved (sym (carried_fields (more_of-AvroField name doc s rest))) h.1))

carried_row : (r : TheRecord) → CarriedRecord r ↔ FieldsByRecursion (row_fields r)
carried_row (Record' name namespace doc shape fields) = carried_row_fields fields

pub carried_record : (r : TheRecord) → CarriedRecord r ↔ CarriedFieldsOf (out-Record r).fields
carried_record r =
    subst (λ fs. CarriedRecord r ↔ CarriedFieldsOf fs) (fields_are r)
    (λ h. (((carried_row r).0 h).0, All-from_recursion _ (row_fields r) ((carried_row r).0 h).1), λ h. (carried_row r).1 (h.0, recursion_from_All _ (row_fields r) h.1))
