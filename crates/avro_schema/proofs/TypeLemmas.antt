-- The types of columns, and what their definitions say by lists.
use Rattle.std.proofs.Common.{◌≡◌, ◌↔◌, ◌⊎◌, inl, inr, List, [], ◌∷◌, Bool, true, false, refl, sym, ap, ◌∙◌, subst}
use Rattle.std.specs.Prelude.{All, Option, Some, None}
use Rattle.std.specs.List.{AllZip, AllByRecursion}
use Rattle.std.proofs.lemmas.List.Elements.{All-from_recursion, recursion_from_All}
use Rattle.arrow_core.specs.declared.types.Field.{Field}
use Rattle.arrow_core.specs.declared.types.DataType.{DataType}
use Rattle.arrow_core.specs.declared.types.DataType as data_type
use Rattle.arrow_core.specs.declared.types.DataType.TheBlock.{shape-the_row-Field-0, hidden-the_row-Field-0, shape-the_row-Field-1, hidden-the_row-Field-1}
use Rattle.avro_schema.specs.declared.schema.AvroField.{AvroField}
use Rattle.avro_schema.specs.declared.schema.BytesLogical.{BytesLogical}
use Rattle.avro_schema.specs.declared.schema.BytesLogical.TheVariants as bytes_logical
use Rattle.avro_schema.specs.declared.schema.Record.{Record as TheRecord, Record', out-Record, Row_of-AvroField, end_of-AvroField, more_of-AvroField, items-the_row-AvroField}
use Rattle.avro_schema.specs.declared.schema.Schema.{Schema, Null, Boolean, Int, Long, Float, Double, Bytes, String, Record, Enum, Array', Map', Union', Fixed, Array, Union, Row_of-Schema, end_of-Schema, more_of-Schema}
use Rattle.avro_schema.specs.declared.schema.Schema.TheBlock.{shape-the_row-Schema-0, hidden-the_row-Schema-0, shape-the_row-Schema-1, hidden-the_row-Schema-1}
use Rattle.avro_schema.specs.Carried.{Carried, CarriedRecord, CarriedItem, CarriedUnion, CarriedFields}
use Rattle.avro_schema.specs.Types.{int_type, long_type, fixed_type, symbol_type, IsString, IsBinary, IsListOf, HasBytesType, is_union, HasType, HasMemberType, HasItemType, HasRecordType, HasFieldTypes, HasColumnType}
use Rattle.avro_schema.specs.ValidBlock.{IsSmall, IsAnySmall, HasPart, AnyHasPart, RecordHasPart, FieldHasPart, IsFloat, HasTooManySymbols, EnumsFit}
use Rattle.avro_schema.specs.TypeLaws.{SmallFormsFit, CarriedHasColumn, HasMemberTypeOf, TypeComposites, FloatComposites, EnumComposites, SmallComposites}
use Rattle.avro_schema.proofs.ByLists.{row_fields, fields_are}

-- ---- small forms are forms

small_string : (t : DataType) → IsString false t → IsString true t
small_string t (inl e) = inl e
small_string t (inr h) = inr (refl, h.1)

small_binary : (t : DataType) → IsBinary false t → IsBinary true t
small_binary t (inl e) = inl e
small_binary t (inr h) = inr (refl, h.1)

small_list : (f : Field) (t : DataType) → IsListOf false f t → IsListOf true f t
small_list f t (inl e) = inl e
small_list f t (inr h) = inr (refl, h.1)

small_bytes : (logical : Option BytesLogical) (t : DataType) → HasBytesType false logical t → HasBytesType true logical t
small_bytes None t h = small_binary t h
small_bytes (Some (bytes_logical.Decimal precision scale)) t h = h

mutual
  small_type : (s : Schema) (t : DataType) → HasType false s t → HasType true s t
  small_type Null t h = h
  small_type Boolean t h = h
  small_type (Int logical) t h = h
  small_type (Long logical) t h = h
  small_type Float t h = h
  small_type Double t h = h
  small_type (Bytes logical) t h = small_bytes logical t h
  small_type (String logical) t h = small_string t h
  small_type (Record r) t h = (h.0, h.1, small_record r h.0 h.2)
  small_type (Enum e) t h = h
  small_type (Array' shape item) t h = (h.0, small_list h.0 t h.1, small_item item h.0 h.2)
  small_type (Map' shape value) t h = h
  small_type (Union' shape members) t h = small_member members t h
  small_type (Fixed f) t h = h

  small_record : (r : TheRecord) (fs : List Field) → HasRecordType false r fs → HasRecordType true r fs
  small_record (Record' name namespace doc shape fields) fs h = small_fields fields fs h

  small_item : {m : _} (row : Row_of-Schema m) (f : Field) → HasItemType false row f → HasItemType true row f
  small_item end_of-Schema f h = h
  small_item (more_of-Schema s rest) f h = (h.0, small_type s f.data_type h.1)

  small_member : {m : _} (row : Row_of-Schema m) (t : DataType) → HasMemberType false row t → HasMemberType true row t
  small_member end_of-Schema t h = h
  small_member (more_of-Schema s end_of-Schema) t h = h
  small_member (more_of-Schema s (more_of-Schema u end_of-Schema)) t (inl h) = inl (h.0, small_type u t h.1)
  small_member (more_of-Schema s (more_of-Schema u end_of-Schema)) t (inr h) = inr (small_type s t h.0, h.1)
  small_member (more_of-Schema s (more_of-Schema u (more_of-Schema v rest))) t h = h

  small_fields : {m : _} (row : Row_of-AvroField m) (fs : List Field) → HasFieldTypes false row fs → HasFieldTypes true row fs
  small_fields end_of-AvroField [] h = h
  small_fields end_of-AvroField (f ∷ fs) h = h
  small_fields (more_of-AvroField name doc s rest) [] h = h
  small_fields (more_of-AvroField name doc s rest) (f ∷ fs) h = ((h.0.0, small_type s f.data_type h.0.1), small_fields rest fs h.1)

pub small_forms_fit : SmallFormsFit
small_forms_fit s f h = (h.0, small_type s f.data_type h.1)

-- ---- each carried schema has a column

abbrev field_of : DataType → Bool → Field
field_of t nullable = record { name = []; data_type = t; is_nullable = nullable; metadata = [] }

bytes_column : (logical : Option BytesLogical) → (t : DataType) × HasBytesType false logical t
bytes_column None = (data_type.Binary, inl refl)
bytes_column (Some (bytes_logical.Decimal precision scale)) = (data_type.Decimal precision scale, refl)

mutual
  column_type : (s : Schema) → Carried s → (t : DataType) × HasType false s t
  column_type Null c = absurd c
  column_type Boolean c = (data_type.Boolean, refl)
  column_type (Int logical) c = (int_type logical, refl)
  column_type (Long logical) c = (long_type logical, refl)
  column_type Float c = (data_type.Float32, refl)
  column_type Double c = (data_type.Float64, refl)
  column_type (Bytes logical) c = bytes_column logical
  column_type (String logical) c = (data_type.Utf8, inl refl)
  column_type (Record r) c = let k = record_columns r c in (data_type.Struct k.0, (k.0, refl, k.1))
  column_type (Enum e) c = (symbol_type, refl)
  column_type (Array' shape item) c = let k = item_column item c in (data_type.List k.0, (k.0, inl refl, k.1))
  column_type (Map' shape value) c = absurd c
  column_type (Union' shape members) c = member_column members c
  column_type (Fixed f) c = (fixed_type f.size f.logical, refl)

  record_columns : (r : TheRecord) → CarriedRecord r → (fs : List Field) × HasRecordType false r fs
  record_columns (Record' name namespace doc shape fields) c = field_columns fields c.1

  item_column : {m : _} (row : Row_of-Schema m) → CarriedItem row → (f : Field) × HasItemType false row f
  item_column end_of-Schema c = absurd c
  item_column (more_of-Schema s rest) c = let k = column_type s c in (field_of k.0 (is_union s), (refl, k.1))

  member_column : {m : _} (row : Row_of-Schema m) → CarriedUnion row → (t : DataType) × HasMemberType false row t
  member_column end_of-Schema c = absurd c
  member_column (more_of-Schema s end_of-Schema) c = absurd c
  member_column (more_of-Schema s (more_of-Schema u end_of-Schema)) (inl c) = let k = column_type u c.1 in (k.0, inl (c.0, k.1))
  member_column (more_of-Schema s (more_of-Schema u end_of-Schema)) (inr c) = let k = column_type s c.0 in (k.0, inr (k.1, c.2))
  member_column (more_of-Schema s (more_of-Schema u (more_of-Schema v rest))) c = absurd c

  field_columns : {m : _} (row : Row_of-AvroField m) → CarriedFields row → (fs : List Field) × HasFieldTypes false row fs
  field_columns end_of-AvroField c = ([], tt)
  field_columns (more_of-AvroField name doc s rest) c =
      let k = column_type s c.0 in
      let more = field_columns rest c.1 in
      (field_of k.0 (is_union s) ∷ more.0, ((refl, k.1), more.1))

pub carried_has_column : CarriedHasColumn
carried_has_column s c = let k = column_type s c in (field_of k.0 (is_union s), (refl, k.1))

-- ---- by lists

moved : {A B : Type 0} → A ≡ B → A → B
moved e = subst (λ T. T) e

both_ways : {A B : Type 0} → A ≡ B → A ↔ B
both_ways e = (moved e, moved (sym e))

type_array : (large : Bool) (item : Schema) (t : DataType) → HasType large (Array item) t ≡ ((f : Field) × IsListOf large f t × HasColumnType large item f)
unfolding shape-the_row-Schema-0 hidden-the_row-Schema-0 denote.Hole.Carrier.hidden
type_array large item t = refl

type_member : (large : Bool) (members : List Schema) (t : DataType) → HasType large (Union members) t ≡ HasMemberTypeOf large members t
unfolding shape-the_row-Schema-1 hidden-the_row-Schema-1 denote.Hole.Carrier.hidden
type_member large [] t = refl
type_member large (s ∷ []) t = refl
type_member large (s ∷ u ∷ []) t = refl
type_member large (s ∷ u ∷ v ∷ rest) t = refl

abbrev FieldTypes : Bool → List AvroField → List Field → Type 0
FieldTypes large = AllZip (λ a f. HasColumnType large a.schema f)

type_row : (large : Bool) {m : _} (row : Row_of-AvroField m) (fs : List Field) → HasFieldTypes large row fs ≡ FieldTypes large (items-the_row-AvroField _ row) fs
type_row large end_of-AvroField [] = refl
type_row large end_of-AvroField (f ∷ fs) = refl
type_row large (more_of-AvroField name doc s rest) [] = refl
type_row large (more_of-AvroField name doc s rest) (f ∷ fs) = λ i. HasColumnType large s f × type_row large rest fs i

type_fields : (large : Bool) (r : TheRecord) (fs : List Field) → HasRecordType large r fs ≡ FieldTypes large (row_fields r) fs
type_fields large (Record' name namespace doc shape fields) fs = type_row large fields fs

type_record : (large : Bool) (r : TheRecord) (t : DataType) → HasType large (Record r) t ≡ ((fs : List Field) × (t ≡ data_type.Struct fs) × FieldTypes large (out-Record r).fields fs)
type_record large r t = λ i. (fs : List Field) × (t ≡ data_type.Struct fs) × (type_fields large r fs ∙ ap (λ all. FieldTypes large all fs) (fields_are r)) i

pub type_composites : TypeComposites
type_composites = record {
  array = λ large item t. both_ways (type_array large item t);
  union = λ large members t. both_ways (type_member large members t);
  fields = λ large r t. both_ways (type_record large r t);
}

-- ---- parts of schemas, among them floats and enums

neither : {A B : Type 0} → (A → ⊥) → (B → ⊥) → A ⊎ B → ⊥
neither f g (inl a) = f a
neither f g (inr b) = g b

-- a fact of all members or fields, by recursion and by index
all_ways : {A X : Type 0} (P : X → Type 0) (xs : List X) → A ↔ AllByRecursion P xs → A ↔ All P xs
all_ways P xs h = (λ a. All-from_recursion P xs (h.0 a), λ all. h.1 (recursion_from_All P xs all))

part_array : (P : Schema → Type 0) (item : Schema) → (P (Array item) → ⊥) → HasPart P (Array item) ↔ HasPart P item
unfolding shape-the_row-Schema-0 hidden-the_row-Schema-0 denote.Hole.Carrier.hidden
part_array P item apart = (one, λ h. inr (inl h))
  where
    one : P (Array item) ⊎ (HasPart P item ⊎ ⊥) → HasPart P item
    one (inl h) = absurd (apart h)
    one (inr (inl h)) = h
    one (inr (inr h)) = absurd h

no_member : (P : Schema → Type 0) (members : List Schema) → (AnyHasPart P (hidden-the_row-Schema-1 members) → ⊥) ↔ AllByRecursion (λ s. HasPart P s → ⊥) members
unfolding shape-the_row-Schema-1 hidden-the_row-Schema-1 denote.Hole.Carrier.hidden
no_member P [] = (λ h. tt, λ h k. k)
no_member P (s ∷ members) =
    let more = no_member P members in
    (λ h. (λ k. h (inl k), more.0 (λ k. h (inr k))), λ h. neither h.0 (more.1 h.1))

no_part_union : (P : Schema → Type 0) (members : List Schema) → (P (Union members) → ⊥) → (HasPart P (Union members) → ⊥) ↔ All (λ s. HasPart P s → ⊥) members
unfolding shape-the_row-Schema-1 hidden-the_row-Schema-1 denote.Hole.Carrier.hidden
no_part_union P members apart =
    let rest = no_member P members in
    all_ways (λ s. HasPart P s → ⊥) members (λ h. rest.0 (λ k. h (inr k)), λ h. neither apart (rest.1 h))

no_row : (P : Schema → Type 0) {m : _} (row : Row_of-AvroField m) → (FieldHasPart P row → ⊥) ↔ AllByRecursion (λ a. HasPart P a.schema → ⊥) (items-the_row-AvroField _ row)
no_row P end_of-AvroField = (λ h. tt, λ h k. k)
no_row P (more_of-AvroField name doc s rest) =
    let more = no_row P rest in
    (λ h. (λ k. h (inl k), more.0 (λ k. h (inr k))), λ h. neither h.0 (more.1 h.1))

no_fields : (P : Schema → Type 0) (r : TheRecord) → (RecordHasPart P r → ⊥) ↔ AllByRecursion (λ a. HasPart P a.schema → ⊥) (row_fields r)
no_fields P (Record' name namespace doc shape fields) = no_row P fields

no_part_record : (P : Schema → Type 0) (r : TheRecord) → (P (Record r) → ⊥) → (HasPart P (Record r) → ⊥) ↔ All (λ a. HasPart P a.schema → ⊥) (out-Record r).fields
no_part_record P r apart =
    let rest = subst (λ all. (RecordHasPart P r → ⊥) ↔ AllByRecursion (λ a. HasPart P a.schema → ⊥) all) (fields_are r) (no_fields P r) in
    all_ways (λ a. HasPart P a.schema → ⊥) (out-Record r).fields (λ h. rest.0 (λ k. h (inr k)), λ h. neither apart (rest.1 h))

pub float_composites : FloatComposites
float_composites = record {
  array = λ item. part_array IsFloat item (λ h. h);
  union = λ members. no_part_union IsFloat members (λ h. h);
  fields = λ r. no_part_record IsFloat r (λ h. h);
}

enum_array : (item : Schema) → EnumsFit (Array item) ↔ EnumsFit item
enum_array item =
    let part = part_array HasTooManySymbols item (λ h. h) in
    (λ h k. h (part.1 k), λ h k. h (part.0 k))

pub enum_composites : EnumComposites
enum_composites = record {
  array = enum_array;
  union = λ members. no_part_union HasTooManySymbols members (λ h. h);
  fields = λ r. no_part_record HasTooManySymbols r (λ h. h);
}

-- ---- small types

small_large_list : (item : Field) → IsSmall (data_type.LargeList item) ↔ IsSmall item.data_type
unfolding shape-the_row-Field-0 hidden-the_row-Field-0 denote.Hole.Carrier.hidden
small_large_list item = (one, λ h. inl h)
  where
    one : IsSmall item.data_type ⊎ ⊥ → IsSmall item.data_type
    one (inl h) = h
    one (inr h) = absurd h

none_small : (fs : List Field) → (IsAnySmall (hidden-the_row-Field-1 fs) → ⊥) ↔ AllByRecursion (λ f. IsSmall f.data_type → ⊥) fs
unfolding shape-the_row-Field-1 hidden-the_row-Field-1 denote.Hole.Carrier.hidden
none_small [] = (λ h. tt, λ h k. k)
none_small (f ∷ fs) =
    let more = none_small fs in
    (λ h. (λ k. h (inl k), more.0 (λ k. h (inr k))), λ h. neither h.0 (more.1 h.1))

small_struct : (fs : List Field) → (IsSmall (data_type.Struct fs) → ⊥) ↔ All (λ f. IsSmall f.data_type → ⊥) fs
unfolding shape-the_row-Field-1 hidden-the_row-Field-1 denote.Hole.Carrier.hidden
small_struct fs = all_ways (λ f. IsSmall f.data_type → ⊥) fs (none_small fs)

pub small_composites : SmallComposites
small_composites = record { large_list = small_large_list; fields = small_struct }
