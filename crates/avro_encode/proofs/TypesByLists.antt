-- The pairs of types at arrays, unions and records, in terms of the lists of members and of fields, and at the
-- types of the arrays that hold lists and structs.
use Rattle.std.proofs.Common.{◌≡◌, ◌∙◌, ℕ, Bool, true, false, List, [], ◌∷◌, Option, Some, None, map, refl, ap, subst}
use Rattle.arrow_core.specs.declared.types.DataType.{DataType}
use Rattle.arrow_core.specs.declared.types.DataType as data_type
use Rattle.arrow_core.specs.declared.types.DataType.TheBlock.{shape-the_row-Field-0, hidden-the_row-Field-0, shape-the_row-Field-1, hidden-the_row-Field-1}
use Rattle.arrow_core.specs.declared.types.DataType.TheVariants as types
use Rattle.arrow_core.specs.declared.types.Field.{Field}
use Rattle.arrow_core.specs.Layouts.{physical_type}
use Rattle.avro_schema.specs.declared.schema.AvroField.{AvroField}
use Rattle.avro_schema.specs.declared.schema.Record.{Record as TheRecord, Record', out-Record, Row_of-AvroField, end_of-AvroField, more_of-AvroField, items-the_row-AvroField}
use Rattle.avro_schema.specs.declared.schema.Schema.{Schema, Array, Union, Record}
use Rattle.avro_schema.specs.declared.schema.Schema.TheBlock.{shape-the_row-Schema-0, hidden-the_row-Schema-0, shape-the_row-Schema-1, hidden-the_row-Schema-1}
use Rattle.arrow_array.specs.declared.array.Array.{Array as AnArray}
use Rattle.arrow_array.specs.Arrays.{array_type}
use Rattle.arrow_array.specs.Lists.{IsListOf}
use Rattle.arrow_array.specs.Structs.{AreChildren, IsStructOf}
use Rattle.avro_encode.specs.Flat.{IsListKind, IsStructKind}
use Rattle.avro_encode.specs.Listed.{PairsColumns, PairsItemOf, PairsListOf, PairsMemberTypeOf, PairsRecordOf, PairsStructOf, PairsTypesOf}
use Rattle.avro_encode.specs.PairTypes.{PairsFieldTypes, PairsItemType, PairsRecordType, PairsType, column_types, item_type, row_types}
use Rattle.avro_encode.proofs.ByLists.{fields_are, moved, row_fields}

-- ---- schemas with others in them

item_of : (item : Schema) (o : Option DataType) → PairsItemType (hidden-the_row-Schema-0 item) o ≡ PairsItemOf item o
unfolding shape-the_row-Schema-0 hidden-the_row-Schema-0 denote.Hole.Carrier.hidden
item_of item (Some t) = refl
item_of item None = refl

pub array_type_is : (item : Schema) (t : DataType) → PairsType (Array item) t ≡ PairsListOf item t
unfolding shape-the_row-Schema-0 hidden-the_row-Schema-0 denote.Hole.Carrier.hidden
array_type_is item t = item_of item (item_type t)

pub union_type_is : (members : List Schema) (t : DataType) → PairsType (Union members) t ≡ PairsMemberTypeOf members t
unfolding shape-the_row-Schema-1 hidden-the_row-Schema-1 denote.Hole.Carrier.hidden
union_type_is [] t = refl
union_type_is (s ∷ []) t = refl
union_type_is (s ∷ u ∷ []) t = refl
union_type_is (s ∷ u ∷ v ∷ more) t = refl

fields_types : {m : _} (row : Row_of-AvroField m) (ts : List DataType) → PairsFieldTypes row ts ≡ PairsTypesOf (items-the_row-AvroField _ row) ts
fields_types end_of-AvroField [] = refl
fields_types end_of-AvroField (t ∷ ts) = refl
fields_types (more_of-AvroField name doc s rest) [] = refl
fields_types (more_of-AvroField name doc s rest) (t ∷ ts) = ap (λ T. PairsType s t × T) (fields_types rest ts)

record_types : (r : TheRecord) (o : Option (List DataType)) → PairsRecordType r o ≡ PairsRecordOf (row_fields r) o
record_types (Record' name namespace doc shape fields) (Some ts) = fields_types fields ts
record_types (Record' name namespace doc shape fields) None = refl

pub record_type_is : (r : TheRecord) (t : DataType) → PairsType (Record r) t ≡ PairsStructOf (out-Record r).fields t
record_type_is r t = record_types r (column_types t) ∙ ap (λ (fs : List AvroField). PairsStructOf fs t) (fields_are r)

-- ---- types with fields in them

pub list_kind : (item : Schema) (t : DataType) → PairsListOf item t → IsListKind (physical_type t)
list_kind item (data_type.List' shape field) h = tt
list_kind item (data_type.LargeList' shape field) h = tt
list_kind item _ h = absurd h

pub struct_kind : (fields : List AvroField) (t : DataType) → PairsStructOf fields t → IsStructKind (physical_type t)
struct_kind fields (data_type.Struct' shape columns) h = tt
struct_kind fields _ h = absurd h

pub list_is : (item : Schema) (f : Field) → PairsListOf item (types.List f) ≡ PairsType item f.data_type
unfolding shape-the_row-Field-0 hidden-the_row-Field-0 denote.Hole.Carrier.hidden
list_is item f = refl

pub large_list_is : (item : Schema) (f : Field) → PairsListOf item (types.LargeList f) ≡ PairsType item f.data_type
unfolding shape-the_row-Field-0 hidden-the_row-Field-0 denote.Hole.Carrier.hidden
large_list_is item f = refl

row_is : (fields : List AvroField) (fs : List Field) → PairsTypesOf fields (row_types (hidden-the_row-Field-1 fs)) ≡ PairsColumns fields fs
unfolding shape-the_row-Field-1 hidden-the_row-Field-1 denote.Hole.Carrier.hidden
row_is [] [] = refl
row_is [] (f ∷ fs) = refl
row_is (a ∷ fields) [] = refl
row_is (a ∷ fields) (f ∷ fs) = ap (λ T. PairsType a.schema f.data_type × T) (row_is fields fs)

pub struct_is : (fields : List AvroField) (fs : List Field) → PairsStructOf fields (types.Struct fs) ≡ PairsColumns fields fs
unfolding shape-the_row-Field-1 hidden-the_row-Field-1 denote.Hole.Carrier.hidden
struct_is fields fs = row_is fields fs

-- ---- arrays of lists and structs

-- the child of an array of lists
pub child_item : (item : Schema) (t child : DataType) (is_large : Bool) → PairsListOf item t → IsListOf is_large t child → PairsType item child
child_item item t child false h l = subst (PairsType item) l.2 (moved (list_is item l.0) (subst (PairsListOf item) l.1 h))
child_item item t child true h l = subst (PairsType item) l.2 (moved (large_list_is item l.0) (subst (PairsListOf item) l.1 h))

children_types : (n : ℕ) (fields : List AvroField) (fs : List Field) (children : List AnArray) → PairsColumns fields fs → AreChildren n fs children → PairsTypesOf fields (map array_type children)
children_types n [] [] [] p h = tt
children_types n fs [] (c ∷ children) p h = absurd h
children_types n fs (f ∷ more) [] p h = absurd h
children_types n [] (f ∷ fs) (c ∷ children) p h = absurd p
children_types n (a ∷ fields) [] [] p h = absurd p
children_types n (a ∷ fields) (f ∷ fs) (c ∷ children) p h = (subst (PairsType a.schema) h.0.0 p.0, children_types n fields fs children p.1 h.1)

-- the children of an array of structs
pub struct_children : (fields : List AvroField) (t : DataType) (n : ℕ) (children : List AnArray) → PairsStructOf fields t → IsStructOf t children n → PairsTypesOf fields (map array_type children)
struct_children fields t n children h l = children_types n fields l.0 children (moved (struct_is fields l.0) (subst (PairsStructOf fields) l.1 h)) l.2
