-- The encoding and the pairs at arrays, unions and records, in terms of the lists of members and of fields.
use Rattle.std.proofs.Common.{◌≡◌, ℕ, List, [], ◌∷◌, ◌++◌, refl, sym, ap, ◌∙◌, subst}
use Rattle.std.specs.List.{AllByRecursion}
use Rattle.arrow_core.specs.declared.slot.Slot.{Slot}
use Rattle.arrow_core.specs.declared.slot.Slot.TheVariants as slot
use Rattle.avro_schema.specs.declared.schema.AvroField.{AvroField}
use Rattle.avro_schema.specs.declared.schema.Record.{Record as TheRecord, Record', out-Record, Row_of-AvroField, end_of-AvroField, more_of-AvroField, items-the_row-AvroField, items_shown-the_row-AvroField-2}
use Rattle.avro_schema.specs.declared.schema.Schema.{Schema, Array, Union, Record}
use Rattle.avro_schema.specs.declared.schema.Schema.TheBlock.{shape-the_row-Schema-0, hidden-the_row-Schema-0, shape-the_row-Schema-1, hidden-the_row-Schema-1}
use Rattle.avro_schema.specs.declared.schema.Schema.TheViews.{outs-struct-Record}
use Rattle.avro_encode.specs.Plain.{parts_of, one_block, plain, plain_record, plain_fields}
use Rattle.avro_encode.specs.Pairs.{IsCounted, Pairs, PairsRecord, PairsFields}
use Rattle.avro_encode.specs.Listed.{plain_union_of, plain_fields_of, PairsUnionOf, PairsFieldsOf}

pub moved : {A B : Type 0} → A ≡ B → A → B
moved e = subst (λ T. T) e

abbrev pub row_fields : TheRecord → List AvroField
row_fields (Record' name namespace doc shape fields) = items-the_row-AvroField _ fields

pub fields_are : (r : TheRecord) → row_fields r ≡ (out-Record r).fields
fields_are (Record' name namespace doc shape fields) =
    sym (ap (λ o. o.fields) (outs-struct-Record name namespace doc shape fields) ∙ items_shown-the_row-AvroField-2 shape fields)

-- ---- the encoding

pub plain_array : (item : Schema) (x : Slot) → plain (Array item) x ≡ one_block (plain item) (parts_of x)
unfolding shape-the_row-Schema-0 hidden-the_row-Schema-0 denote.Hole.Carrier.hidden
plain_array item x = refl

pub plain_union_is : (members : List Schema) (x : Slot) → plain (Union members) x ≡ plain_union_of members x
unfolding shape-the_row-Schema-1 hidden-the_row-Schema-1 denote.Hole.Carrier.hidden
plain_union_is [] x = refl
plain_union_is (s ∷ []) x = refl
plain_union_is (s ∷ u ∷ []) x = refl
plain_union_is (s ∷ u ∷ v ∷ more) x = refl

plain_fields_are : {m : _} (row : Row_of-AvroField m) (xs : List Slot) → plain_fields row xs ≡ plain_fields_of (items-the_row-AvroField _ row) xs
plain_fields_are end_of-AvroField xs = refl
plain_fields_are (more_of-AvroField name doc s rest) [] = refl
plain_fields_are (more_of-AvroField name doc s rest) (x ∷ xs) = ap (λ (z : List ℕ). plain s x ++ z) (plain_fields_are rest xs)

plain_row : (r : TheRecord) (xs : List Slot) → plain_record r xs ≡ plain_fields_of (row_fields r) xs
plain_row (Record' name namespace doc shape fields) xs = plain_fields_are fields xs

pub plain_record_is : (r : TheRecord) (x : Slot) → plain (Record r) x ≡ plain_fields_of (out-Record r).fields (parts_of x)
plain_record_is r x = plain_row r (parts_of x) ∙ ap (λ (fs : List AvroField). plain_fields_of fs (parts_of x)) (fields_are r)

-- ---- the pairs

abbrev pub PairsArray : Schema → Slot → Type 0
PairsArray item x = (xs : List Slot) × (x ≡ slot.List xs) × IsCounted xs × AllByRecursion (Pairs item) xs

pub pairs_array : (item : Schema) (x : Slot) → Pairs (Array item) x → PairsArray item x
unfolding shape-the_row-Schema-0 hidden-the_row-Schema-0 denote.Hole.Carrier.hidden
pairs_array item x h = h

pub pairs_union : (members : List Schema) (x : Slot) → Pairs (Union members) x → PairsUnionOf members x
unfolding shape-the_row-Schema-1 hidden-the_row-Schema-1 denote.Hole.Carrier.hidden
pairs_union [] x h = h
pairs_union (s ∷ []) x h = h
pairs_union (s ∷ u ∷ []) x h = h
pairs_union (s ∷ u ∷ v ∷ more) x h = h

pairs_fields_are : {m : _} (row : Row_of-AvroField m) (xs : List Slot) → PairsFields row xs → PairsFieldsOf (items-the_row-AvroField _ row) xs
pairs_fields_are end_of-AvroField [] h = h
pairs_fields_are end_of-AvroField (x ∷ xs) h = h
pairs_fields_are (more_of-AvroField name doc s rest) [] h = h
pairs_fields_are (more_of-AvroField name doc s rest) (x ∷ xs) h = (h.0, pairs_fields_are rest xs h.1)

pairs_row : (r : TheRecord) (xs : List Slot) → PairsRecord r xs → PairsFieldsOf (row_fields r) xs
pairs_row (Record' name namespace doc shape fields) xs h = pairs_fields_are fields xs h

pub pairs_record : (r : TheRecord) (x : Slot) → Pairs (Record r) x → (xs : List Slot) × (x ≡ slot.Struct xs) × PairsFieldsOf (out-Record r).fields xs
pairs_record r x h = (h.0, h.1, subst (λ (fs : List AvroField). PairsFieldsOf fs h.0) (fields_are r) (pairs_row r h.0 h.2))

-- ---- the pairs, backwards

pub pairs_array_back : (item : Schema) (x : Slot) → PairsArray item x → Pairs (Array item) x
unfolding shape-the_row-Schema-0 hidden-the_row-Schema-0 denote.Hole.Carrier.hidden
pairs_array_back item x h = h

pub pairs_union_back : (members : List Schema) (x : Slot) → PairsUnionOf members x → Pairs (Union members) x
unfolding shape-the_row-Schema-1 hidden-the_row-Schema-1 denote.Hole.Carrier.hidden
pairs_union_back [] x h = h
pairs_union_back (s ∷ []) x h = h
pairs_union_back (s ∷ u ∷ []) x h = h
pairs_union_back (s ∷ u ∷ v ∷ more) x h = h

pairs_fields_back : {m : _} (row : Row_of-AvroField m) (xs : List Slot) → PairsFieldsOf (items-the_row-AvroField _ row) xs → PairsFields row xs
pairs_fields_back end_of-AvroField [] h = h
pairs_fields_back end_of-AvroField (x ∷ xs) h = h
pairs_fields_back (more_of-AvroField name doc s rest) [] h = h
pairs_fields_back (more_of-AvroField name doc s rest) (x ∷ xs) h = (h.0, pairs_fields_back rest xs h.1)

pairs_row_back : (r : TheRecord) (xs : List Slot) → PairsFieldsOf (row_fields r) xs → PairsRecord r xs
pairs_row_back (Record' name namespace doc shape fields) xs h = pairs_fields_back fields xs h

pub pairs_record_back : (r : TheRecord) (x : Slot) → ((xs : List Slot) × (x ≡ slot.Struct xs) × PairsFieldsOf (out-Record r).fields xs) → Pairs (Record r) x
pairs_record_back r x h = (h.0, h.1, pairs_row_back r h.0 (subst (λ (fs : List AvroField). PairsFieldsOf fs h.0) (sym (fields_are r)) h.2))
