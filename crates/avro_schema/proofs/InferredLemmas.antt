-- Columns that are made from schemas.
use Rattle.std.proofs.Common.{◌≡◌, ℕ, ◌⊎◌, inl, inr, List, [], ◌∷◌, Bool, true, false, ◌&&◌, cond, Option, Some, None, refl, sym, ◌∙◌, ap, subst}
use Rattle.std.specs.Prelude.{IsTrue}
use Rattle.std.proofs.lemmas.Bool.{and_parts, both_ways, false≢true}
use Rattle.std.proofs.lemmas.Option.{none-some, same_Some}
use Rattle.arrow_core.specs.declared.types.Field.{Field}
use Rattle.arrow_core.specs.declared.types.DataType.{DataType}
use Rattle.arrow_core.specs.declared.types.DataType as data_type
use Rattle.avro_schema.specs.declared.schema.BytesLogical.{BytesLogical}
use Rattle.avro_schema.specs.declared.schema.BytesLogical.TheVariants as bytes_logical
use Rattle.avro_schema.specs.declared.schema.Record.{Record as TheRecord, Record', out-Record, items-the_row-AvroField, Row_of-AvroField, end_of-AvroField, more_of-AvroField}
use Rattle.avro_schema.specs.declared.schema.Schema.{Schema, Null, Boolean, Int, Long, Float, Double, Bytes, String, Record, Enum, Array', Map', Union', Fixed, Array, Union, Row_of-Schema, end_of-Schema, more_of-Schema}
use Rattle.avro_schema.specs.declared.schema.Schema.TheBlock.{shape-the_row-Schema-0, hidden-the_row-Schema-0, shape-the_row-Schema-1, hidden-the_row-Schema-1}
use Rattle.avro_schema.specs.Encodes.{IsNull}
use Rattle.avro_schema.specs.AndThen.{◌>>=◌}
use Rattle.avro_schema.specs.Encodes.{is_null}
use Rattle.avro_schema.specs.Types.{HasBytesType, is_union, HasType, HasMemberType, HasItemType, HasRecordType, HasFieldTypes}
use Rattle.avro_schema.specs.Inferred.{bytes_type, item_name, column_field, is_item, inferred, inferred_item, inferred_member, inferred_record, inferred_fields, columns_of, IsNullable, HasMapOrUnion, RecordHasMapOrUnion, ItemHasMapOrUnion, AnyHasMapOrUnion, FieldHasMapOrUnion}
use Rattle.avro_schema.specs.TypeLaws.{InferredIsTyped, NotInferred, inferred_member_of, InferredComposites}
use Rattle.avro_schema.proofs.ByLists.{row_fields, fields_are}
use Rattle.avro_schema.proofs.Basics.{bind_some}
use Rattle.avro_schema.proofs.Basics.{null_is}

-- ---- types

told : (t u : DataType) → Some t ≡ Some u → u ≡ t
told t u e = sym (same_Some t u e)

bytes_told : (logical : Option BytesLogical) (t : DataType) → t ≡ bytes_type logical → HasBytesType false logical t
bytes_told None t e = inl e
bytes_told (Some (bytes_logical.Decimal precision scale)) t e = e

column_type : (name : List ℕ) (doc : Option (List ℕ)) (s : Schema) (t : DataType) → (column_field name doc s t).data_type ≡ t
column_type name None s t = refl
column_type name (Some doc) s t = refl

column_nullable : (name : List ℕ) (doc : Option (List ℕ)) (s : Schema) (t : DataType) → (column_field name doc s t).is_nullable ≡ is_union s
column_nullable name None s t = refl
column_nullable name (Some doc) s t = refl

has_column : (name : List ℕ) (doc : Option (List ℕ)) (s : Schema) (t : DataType) → HasType false s t → ((column_field name doc s t).is_nullable ≡ is_union s) × HasType false s (column_field name doc s t).data_type
has_column name doc s t h = (column_nullable name doc s t, subst (HasType false s) (sym (column_type name doc s t)) h)

some_none : {A : Type 0} (x : A) → ◌≡◌ {A = Option A} (Some x) None → ⊥
some_none x e = none-some x (sym e)

two_types : (s u : Schema) (a b : Bool) (t : DataType) → (is_null s && is_item u) ≡ a → (is_item s && is_null u) ≡ b → cond a (inferred u) (cond b (inferred s) None) ≡ Some t → (inferred s ≡ Some t → HasType false s t) → (inferred u ≡ Some t → HasType false u t) → (IsNull s × HasType false u t) ⊎ (HasType false s t × IsNull u)
two_types s u true b t p q e hs hu = inl (null_is s (and_parts (is_null s) (is_item u) p).0, hu e)
two_types s u false true t p q e hs hu = inr (hs e, null_is u (and_parts (is_item s) (is_null u) q).1)
two_types s u false false t p q e hs hu = absurd (none-some t e)

mutual
  typed : (s : Schema) (t : DataType) → inferred s ≡ Some t → HasType false s t
  typed Null t e = told data_type.Null t e
  typed Boolean t e = told data_type.Boolean t e
  typed (Int logical) t e = told _ t e
  typed (Long logical) t e = told _ t e
  typed Float t e = told data_type.Float32 t e
  typed Double t e = told data_type.Float64 t e
  typed (Bytes logical) t e = bytes_told logical t (told (bytes_type logical) t e)
  typed (String logical) t e = inl (told data_type.Utf8 t e)
  typed (Record r) t e =
      let b = bind_some (inferred_record r) (λ fs. Some (data_type.Struct fs)) t e in
      (b.0, told (data_type.Struct b.0) t b.2, record_typed r b.0 b.1)
  typed (Enum k) t e = told _ t e
  typed (Array' shape item) t e =
      let b = bind_some (inferred_item item) (λ f. Some (data_type.List f)) t e in
      (b.0, inl (told (data_type.List b.0) t b.2), item_typed item b.0 b.1)
  typed (Map' shape value) t e = none-some t e
  typed (Union' shape members) t e = member_typed members t e
  typed (Fixed f) t e = told _ t e

  record_typed : (r : TheRecord) (fs : List Field) → inferred_record r ≡ Some fs → HasRecordType false r fs
  record_typed (Record' name namespace doc shape fields) fs e = fields_typed fields fs e

  item_typed : {m : _} (row : Row_of-Schema m) (f : Field) → inferred_item row ≡ Some f → HasItemType false row f
  item_typed end_of-Schema f e = none-some f e
  item_typed (more_of-Schema s rest) f e =
      let b = bind_some (inferred s) (λ t. Some (column_field item_name None s t)) f e in
      let same : column_field item_name None s b.0 ≡ f = same_Some _ f b.2 in
      subst (λ z. (z.is_nullable ≡ is_union s) × HasType false s z.data_type) same (has_column item_name None s b.0 (typed s b.0 b.1))

  member_typed : {m : _} (row : Row_of-Schema m) (t : DataType) → inferred_member row ≡ Some t → HasMemberType false row t
  member_typed end_of-Schema t e = none-some t e
  member_typed (more_of-Schema s end_of-Schema) t e = none-some t e
  member_typed (more_of-Schema s (more_of-Schema u end_of-Schema)) t e = two_types s u (is_null s && is_item u) (is_item s && is_null u) t refl refl e (typed s t) (typed u t)
  member_typed (more_of-Schema s (more_of-Schema u (more_of-Schema v rest))) t e = none-some t e

  fields_typed : {m : _} (row : Row_of-AvroField m) (fs : List Field) → inferred_fields row ≡ Some fs → HasFieldTypes false row fs
  fields_typed end_of-AvroField [] e = tt
  fields_typed end_of-AvroField (f ∷ fs) e = absurd cc
  fields_typed (more_of-AvroField name doc s rest) fs e =
      let b = bind_some (inferred s) (λ t. inferred_fields rest >>= λ fs. Some (column_field name doc s t ∷ fs)) fs e in
      let c = bind_some (inferred_fields rest) (λ fs. Some (column_field name doc s b.0 ∷ fs)) fs b.2 in
      let same : column_field name doc s b.0 ∷ c.0 ≡ fs = same_Some _ fs c.2 in
      subst (HasFieldTypes false (more_of-AvroField name doc s rest)) same (has_column name doc s b.0 (typed s b.0 b.1), fields_typed rest c.0 c.1)

pub inferred_is_typed : InferredIsTyped
inferred_is_typed name doc s t e = has_column name doc s t (typed s t e)

-- ---- where no column is made

bind_none : {A B : Type 0} (o : Option A) (f : A → Option B) → (o >>= f) ≡ None → (o ≡ None) ⊎ ((x : A) × (o ≡ Some x) × (f x ≡ None))
bind_none None f e = inl refl
bind_none (Some x) f e = inr (x, refl, e)

none_made : {A B : Type 0} (o : Option A) (f : A → B) → (o >>= λ x. Some (f x)) ≡ None → o ≡ None
none_made None f e = refl
none_made (Some x) f e = absurd (some_none (f x) e)

not_two : (s u : Schema) (a b : Bool) → (is_null s && is_item u) ≡ a → (is_item s && is_null u) ≡ b → cond a (inferred u) (cond b (inferred s) None) ≡ None → (inferred s ≡ None → HasMapOrUnion s) → (inferred u ≡ None → HasMapOrUnion u) → ((IsTrue (is_null s && is_item u) ⊎ IsTrue (is_item s && is_null u)) → ⊥) ⊎ (HasMapOrUnion s ⊎ (HasMapOrUnion u ⊎ ⊥))
not_two s u true b p q e hs hu = inr (inr (inl (hu e)))
not_two s u false true p q e hs hu = inr (inl (hs e))
not_two s u false false p q e hs hu = inl neither
  where
    neither : IsTrue (is_null s && is_item u) ⊎ IsTrue (is_item s && is_null u) → ⊥
    neither (inl h) = both_ways _ p h
    neither (inr h) = both_ways _ q h

null_has_none : (s : Schema) → is_null s ≡ true → HasMapOrUnion s → ⊥
null_has_none Null e h = h
null_has_none _ e h = false≢true e

two_none : (s u : Schema) (a b : Bool) → (is_null s && is_item u) ≡ a → (is_item s && is_null u) ≡ b → ((IsTrue (is_null s && is_item u) ⊎ IsTrue (is_item s && is_null u)) → ⊥) ⊎ (HasMapOrUnion s ⊎ (HasMapOrUnion u ⊎ ⊥)) → (HasMapOrUnion s → inferred s ≡ None) → (HasMapOrUnion u → inferred u ≡ None) → cond a (inferred u) (cond b (inferred s) None) ≡ None
two_none s u false false p q h hs hu = refl
two_none s u true b p q (inl h) hs hu = absurd (h (inl p))
two_none s u true b p q (inr (inl h)) hs hu = absurd (null_has_none s (and_parts (is_null s) (is_item u) p).0 h)
two_none s u true b p q (inr (inr (inl h))) hs hu = hu h
two_none s u true b p q (inr (inr (inr h))) hs hu = absurd h
two_none s u false true p q (inl h) hs hu = absurd (h (inr q))
two_none s u false true p q (inr (inl h)) hs hu = hs h
two_none s u false true p q (inr (inr (inl h))) hs hu = absurd (null_has_none u (and_parts (is_item s) (is_null u) q).1 h)
two_none s u false true p q (inr (inr (inr h))) hs hu = absurd h

mutual
  none_has : (s : Schema) → inferred s ≡ None → HasMapOrUnion s
  none_has Null e = some_none _ e
  none_has Boolean e = some_none _ e
  none_has (Int logical) e = some_none _ e
  none_has (Long logical) e = some_none _ e
  none_has Float e = some_none _ e
  none_has Double e = some_none _ e
  none_has (Bytes logical) e = some_none _ e
  none_has (String logical) e = some_none _ e
  none_has (Record r) e = record_has r (none_made (inferred_record r) data_type.Struct e)
  none_has (Enum k) e = some_none _ e
  none_has (Array' shape item) e = item_has item (none_made (inferred_item item) data_type.List e)
  none_has (Map' shape value) e = tt
  none_has (Union' shape members) e = member_has members e
  none_has (Fixed f) e = some_none _ e

  record_has : (r : TheRecord) → inferred_record r ≡ None → RecordHasMapOrUnion r
  record_has (Record' name namespace doc shape fields) e = fields_have fields e

  item_has : {m : _} (row : Row_of-Schema m) → inferred_item row ≡ None → ItemHasMapOrUnion row
  item_has end_of-Schema e = tt
  item_has (more_of-Schema s rest) e = none_has s (none_made (inferred s) (column_field item_name None s) e)

  member_has : {m : _} (row : Row_of-Schema m) → inferred_member row ≡ None → (IsNullable row → ⊥) ⊎ AnyHasMapOrUnion row
  member_has end_of-Schema e = inl (λ h. h)
  member_has (more_of-Schema s end_of-Schema) e = inl (λ h. h)
  member_has (more_of-Schema s (more_of-Schema u end_of-Schema)) e = not_two s u (is_null s && is_item u) (is_item s && is_null u) refl refl e (none_has s) (none_has u)
  member_has (more_of-Schema s (more_of-Schema u (more_of-Schema v rest))) e = inl (λ h. h)

  fields_have : {m : _} (row : Row_of-AvroField m) → inferred_fields row ≡ None → FieldHasMapOrUnion row
  fields_have end_of-AvroField e = some_none _ e
  fields_have (more_of-AvroField name doc s rest) e =
      elim (bind_none (inferred s) (λ t. inferred_fields rest >>= λ fs. Some (column_field name doc s t ∷ fs)) e) [
        | inl here ↦ inl (none_has s here)
        | inr there ↦ inr (fields_have rest (none_made (inferred_fields rest) (λ fs. column_field name doc s there.0 ∷ fs) there.2))
      ]

mutual
  has_none : (s : Schema) → HasMapOrUnion s → inferred s ≡ None
  has_none (Record r) h = rw (record_none r h) refl
  has_none (Array' shape item) h = rw (item_none item h) refl
  has_none (Map' shape value) h = refl
  has_none (Union' shape members) h = member_none members h
  has_none Null h = absurd h
  has_none Boolean h = absurd h
  has_none (Int logical) h = absurd h
  has_none (Long logical) h = absurd h
  has_none Float h = absurd h
  has_none Double h = absurd h
  has_none (Bytes logical) h = absurd h
  has_none (String logical) h = absurd h
  has_none (Enum k) h = absurd h
  has_none (Fixed f) h = absurd h

  record_none : (r : TheRecord) → RecordHasMapOrUnion r → inferred_record r ≡ None
  record_none (Record' name namespace doc shape fields) h = fields_none fields h

  item_none : {m : _} (row : Row_of-Schema m) → ItemHasMapOrUnion row → inferred_item row ≡ None
  item_none end_of-Schema h = refl
  item_none (more_of-Schema s rest) h = rw (has_none s h) refl

  member_none : {m : _} (row : Row_of-Schema m) → (IsNullable row → ⊥) ⊎ AnyHasMapOrUnion row → inferred_member row ≡ None
  member_none end_of-Schema h = refl
  member_none (more_of-Schema s end_of-Schema) h = refl
  member_none (more_of-Schema s (more_of-Schema u end_of-Schema)) h = two_none s u (is_null s && is_item u) (is_item s && is_null u) refl refl h (has_none s) (has_none u)
  member_none (more_of-Schema s (more_of-Schema u (more_of-Schema v rest))) h = refl

  fields_none : {m : _} (row : Row_of-AvroField m) → FieldHasMapOrUnion row → inferred_fields row ≡ None
  fields_none end_of-AvroField h = absurd h
  fields_none (more_of-AvroField name doc s rest) (inl h) = rw (has_none s h) refl
  fields_none (more_of-AvroField name doc s rest) (inr h) = skip_first (inferred s) (fields_none rest h)
    where
      skip_first : (o : Option DataType) → inferred_fields rest ≡ None → (o >>= λ t. inferred_fields rest >>= λ fs. Some (column_field name doc s t ∷ fs)) ≡ None
      skip_first None e = refl
      skip_first (Some t) e = rw e refl

pub not_inferred : NotInferred
not_inferred s = (none_has s, has_none s)

-- ---- by lists

bind_assoc : {A B C : Type 0} (o : Option A) (f : A → Option B) (g : B → Option C) → ((o >>= f) >>= g) ≡ (o >>= λ x. f x >>= g)
bind_assoc None f g = refl
bind_assoc (Some x) f g = refl

inferred_array : (item : Schema) → inferred (Array item) ≡ (inferred item >>= λ t. Some (column_field item_name None item t) >>= λ f. Some (data_type.List f))
unfolding shape-the_row-Schema-0 hidden-the_row-Schema-0 denote.Hole.Carrier.hidden
inferred_array item = bind_assoc (inferred item) (λ t. Some (column_field item_name None item t)) (λ f. Some (data_type.List f))

inferred_union : (members : List Schema) → inferred (Union members) ≡ inferred_member_of members
unfolding shape-the_row-Schema-1 hidden-the_row-Schema-1 denote.Hole.Carrier.hidden
inferred_union [] = refl
inferred_union (s ∷ []) = refl
inferred_union (s ∷ u ∷ []) = refl
inferred_union (s ∷ u ∷ v ∷ rest) = refl

columns_row : {m : _} (row : Row_of-AvroField m) → inferred_fields row ≡ columns_of (λ a. a.doc) (items-the_row-AvroField _ row)
columns_row end_of-AvroField = refl
columns_row (more_of-AvroField name doc s rest) = λ i. (inferred s >>= λ t. columns_row rest i >>= λ fs. Some (column_field name doc s t ∷ fs))

columns_all : (r : TheRecord) → inferred_record r ≡ columns_of (λ a. a.doc) (row_fields r)
columns_all (Record' name namespace doc shape fields) = columns_row fields

inferred_struct : (r : TheRecord) → inferred (Record r) ≡ (columns_of (λ a. a.doc) (out-Record r).fields >>= λ fs. Some (data_type.Struct fs))
inferred_struct r = λ i. ((columns_all r ∙ ap (columns_of (λ a. a.doc)) (fields_are r)) i >>= λ fs. Some (data_type.Struct fs))

pub inferred_composites : InferredComposites
inferred_composites = record { array = inferred_array; union = inferred_union; fields = inferred_struct }
