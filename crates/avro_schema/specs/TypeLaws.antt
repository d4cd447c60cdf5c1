-- Laws of the types that columns have, which are proved and need no belief, among them what the definitions say of arrays, unions and
-- records in terms of the lists of members and of fields that code sees.
use Rattle.std.specs.Prelude.{◌≡◌, ◌⊎◌, ◌↔◌, ◌&&◌, ℕ, if◌then◌else◌, List, [], ◌∷◌, Bool, true, Option, Some, None, All}
use Rattle.std.specs.List.{AllZip}
use Rattle.arrow_core.specs.declared.types.Field.{Field}
use Rattle.arrow_core.specs.declared.types.DataType.{DataType, List as ListType, LargeList, Struct}
use Rattle.avro_schema.specs.declared.schema.Schema.{Schema, Array, Union, Record}
use Rattle.avro_schema.specs.declared.schema.Record.{Record as TheRecord, out-Record}
use Rattle.avro_schema.specs.Encodes.{IsNull}
use Rattle.avro_schema.specs.Carried.{Carried}
use Rattle.avro_schema.specs.AndThen.{◌>>=◌}
use Rattle.avro_schema.specs.Types.{IsListOf, HasType, HasColumnType, Typed}
use Rattle.avro_schema.specs.Inferred.{item_name, column_field, is_item, inferred, columns_of, HasMapOrUnion}
use Rattle.avro_schema.specs.Encodes.{is_null}
use Rattle.avro_schema.specs.ValidBlock.{IsSmall, HasFloat, EnumsFit}

-- a type of small forms alone is one of small or large forms
abbrev pub SmallFormsFit : Type 0
SmallFormsFit = (s : Schema) (f : Field) → Typed s f → HasColumnType true s f

-- each carried schema has a column
abbrev pub CarriedHasColumn : Type 0
CarriedHasColumn = (s : Schema) → Carried s → (f : Field) × Typed s f

-- a column that is made from a schema has the schema's type and nullability
abbrev pub InferredIsTyped : Type 0
InferredIsTyped = (name : List ℕ) (doc : Option (List ℕ)) (s : Schema) (t : DataType) → inferred s ≡ Some t → Typed s (column_field name doc s t)

-- no column is made exactly where a map stands, or a union that is not of null and an item
abbrev pub NotInferred : Type 0
NotInferred = (s : Schema) → (inferred s ≡ None) ↔ HasMapOrUnion s

abbrev pub HasMemberTypeOf : Bool → List Schema → DataType → Type 0
HasMemberTypeOf large (s ∷ u ∷ []) t = (IsNull s × HasType large u t) ⊎ (HasType large s t × IsNull u)
HasMemberTypeOf large _ t = ⊥

pub record TypeComposites : Type 0 where
  pub array : (large : Bool) (item : Schema) (t : DataType) → HasType large (Array item) t ↔ ((f : Field) × IsListOf large f t × HasColumnType large item f)
  pub union : (large : Bool) (members : List Schema) (t : DataType) → HasType large (Union members) t ↔ HasMemberTypeOf large members t
  pub fields : (large : Bool) (r : TheRecord) (t : DataType) → HasType large (Record r) t ↔ ((fs : List Field) × (t ≡ Struct fs) × AllZip (λ a f. HasColumnType large a.schema f) (out-Record r).fields fs)

pub record FloatComposites : Type 0 where
  pub array : (item : Schema) → HasFloat (Array item) ↔ HasFloat item
  pub union : (members : List Schema) → (HasFloat (Union members) → ⊥) ↔ All (λ s. HasFloat s → ⊥) members
  pub fields : (r : TheRecord) → (HasFloat (Record r) → ⊥) ↔ All (λ a. HasFloat a.schema → ⊥) (out-Record r).fields

pub record EnumComposites : Type 0 where
  pub array : (item : Schema) → EnumsFit (Array item) ↔ EnumsFit item
  pub union : (members : List Schema) → EnumsFit (Union members) ↔ All EnumsFit members
  pub fields : (r : TheRecord) → EnumsFit (Record r) ↔ All (λ a. EnumsFit a.schema) (out-Record r).fields

pub record SmallComposites : Type 0 where
  pub large_list : (item : Field) → IsSmall (LargeList item) ↔ IsSmall item.data_type
  pub fields : (fs : List Field) → (IsSmall (Struct fs) → ⊥) ↔ All (λ f. IsSmall f.data_type → ⊥) fs

abbrev pub inferred_member_of : List Schema → Option DataType
inferred_member_of (s ∷ u ∷ []) = if is_null s && is_item u then inferred u else (if is_item s && is_null u then inferred s else None)
inferred_member_of _ = None

-- a field of a nested record keeps its own doc
pub record InferredComposites : Type 0 where
  pub array : (item : Schema) → inferred (Array item) ≡ (inferred item >>= λ t. Some (column_field item_name None item t) >>= λ f. Some (ListType f))
  pub union : (members : List Schema) → inferred (Union members) ≡ inferred_member_of members
  pub fields : (r : TheRecord) → inferred (Record r) ≡ (columns_of (λ a. a.doc) (out-Record r).fields >>= λ fs. Some (Struct fs))
