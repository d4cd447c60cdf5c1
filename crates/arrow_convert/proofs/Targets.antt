-- The columns of a record that was made of columns: they are carried, and come back in small form.
use Rattle.std.proofs.Common.{◌≡◌, ◌∙◌, inl, inr, ℕ, zero, suc, ◌+◌, ◌<◌, ◌≤◌, Bool, true, false, not, eqb, List, [], ◌∷◌, length, map, All, Option, Some, None, refl, sym, ap, subst, codes, cond, arith}
use Rattle.std.specs.Prelude.{nat_lt}
use Rattle.std.specs.List.{AllByRecursion, AllZip}
use Rattle.std.specs.Str.{bytes_eq}
use Rattle.std.proofs.lemmas.Bool.{and_parts, false≢true}
use Rattle.std.proofs.lemmas.List.Elements.{All-from_recursion}
use Rattle.std.proofs.lemmas.Option.{none-some, same_Some}
use Rattle.std.proofs.lemmas.Slice.Eq.{bytes_eq-Decides}
use Rattle.arrow_core.specs.declared.types.DataType.{DataType}
use Rattle.arrow_core.specs.declared.types.DataType as types
use Rattle.arrow_core.specs.declared.types.Field.{Field}
use Rattle.arrow_core.specs.declared.types.IntervalUnit.TheVariants as interval
use Rattle.arrow_core.specs.declared.types.TimeUnit.{TimeUnit}
use Rattle.arrow_core.specs.declared.types.TimeUnit.TheVariants as unit
use Rattle.avro_schema.specs.declared.schema.AvroField.{AvroField}
use Rattle.avro_schema.specs.declared.schema.LongLogical.{LongLogical}
use Rattle.avro_schema.specs.declared.schema.Record.{Record as TheRecord, out-Record, out-roll-Record}
use Rattle.avro_schema.specs.declared.schema.Schema.{Schema, Null, Long, Record, Array, Union'}
use Rattle.avro_schema.specs.AndThen.{◌>>=◌}
use Rattle.avro_schema.specs.Carried.{Carried, CarriedList, IsNoUnion}
use Rattle.avro_schema.specs.Encodes.{is_null}
use Rattle.avro_schema.specs.Inferred.{column_field, columns_of, inferred, inferred_columns, is_item, item_name, own_doc}
use Rattle.avro_schema.specs.Types.{is_union, long_type}
use Rattle.avro_schema.specs.ValidBlock.{EnumsFit, HasFloat}
use Rattle.avro_schema.proofs.Basics.{bind_some}
use Rattle.avro_schema.proofs.ByLists.{carried_array, carried_record, carried_union, moved}
use Rattle.avro_schema.proofs.InferredLemmas.{inferred_composites}
use Rattle.avro_schema.proofs.TypeLemmas.{enum_composites, float_composites}
use Rattle.avro_types.specs.Back.{small, small_field}
use Rattle.avro_types.specs.Listed.{HasNoFields, array_schema, can_serialize_all, named_all}
use Rattle.avro_types.specs.Named.{named, named_record, named_root, nameless_in}
use Rattle.avro_types.specs.Schemas.{can_serialize, column_schema, columns_fields, instants, optional, plain_field, plain_record, readings, record_name, record_of, schema_of, structs_in, timestamp}
use Rattle.avro_types.proofs.ByFields.{large_list_schema, large_list_serializable, list_schema, list_serializable, struct_schema_is, struct_serializable}
use Rattle.avro_types.proofs.Renamed.{array_named, record_named, union_named}
use Rattle.arrow_convert.proofs.ByParts.{EachType, each_by_parts}
use Rattle.arrow_convert.proofs.SmallForms.{small_item, small_large, small_list, small_struct}

-- ---- what is known of a schema that a type has

-- values of the type have the schema, and its column is of the small form
record IsSchemaOf (z : Schema) (t : DataType) : Type 0 where
  pub column : inferred z ≡ Some (small t)
  pub beside_null : is_item z ≡ true
  pub doc : (name : List ℕ) (d : Option (List ℕ)) → own_doc (record { name = name; doc = d; schema = z }) ≡ None
  pub carried : Carried z
  pub no_float : HasFloat z → ⊥
  pub enums : EnumsFit z

-- the same of a column, which may be nullable
record IsColumnOf (z : Schema) (null : Bool) (t : DataType) : Type 0 where
  pub column : inferred z ≡ Some (small t)
  pub nullable : is_union z ≡ null
  pub doc : (name : List ℕ) (d : Option (List ℕ)) → own_doc (record { name = name; doc = d; schema = z }) ≡ None
  pub carried : Carried z
  pub no_float : HasFloat z → ⊥
  pub enums : EnumsFit z

no_null : (s : Schema) → is_item s ≡ true → is_null s ≡ false
no_null s h = from (is_null s) refl (and_parts (not (is_null s)) (not (is_union s)) h).0
  where
    from : (b : Bool) → is_null s ≡ b → not (is_null s) ≡ true → is_null s ≡ false
    from false q k = q
    from true q k = absurd (false≢true (rw q at k))

no_union : (s : Schema) → is_item s ≡ true → is_union s ≡ false
no_union s h = from (is_union s) refl (and_parts (not (is_null s)) (not (is_union s)) h).1
  where
    from : (b : Bool) → is_union s ≡ b → not (is_union s) ≡ true → is_union s ≡ false
    from false q k = q
    from true q k = absurd (false≢true (rw q at k))

is_no_union : (s : Schema) → is_item s ≡ true → IsNoUnion s
is_no_union (Union' shape members) e = absurd (false≢true e)
is_no_union _ e = tt

optional_is : (b null : Bool) (z : Schema) (t : DataType) → IsSchemaOf z t → IsColumnOf (optional b null z) null t
optional_is b false z t p = record { column = p.column; nullable = no_union z p.beside_null; doc = p.doc; carried = p.carried; no_float = p.no_float; enums = p.enums }
optional_is true true z t p = record {
  column = inferred_composites.union (Null ∷ z ∷ []) ∙ (rw p.beside_null (p.column));
  nullable = refl;
  doc = λ name d. refl;
  carried = moved (sym (carried_union (Null ∷ z ∷ []))) (inl (tt, p.carried, is_no_union z p.beside_null));
  no_float = (float_composites.union (Null ∷ z ∷ [])).1 (All-from_recursion (λ s. HasFloat s → ⊥) (Null ∷ z ∷ []) ((λ h. h), (p.no_float, tt)));
  enums = (enum_composites.union (Null ∷ z ∷ [])).1 (All-from_recursion EnumsFit (Null ∷ z ∷ []) ((λ h. h), (p.enums, tt)));
}
optional_is false true z t p = record {
  column = inferred_composites.union (z ∷ Null ∷ []) ∙ (rw (no_null z p.beside_null, no_union z p.beside_null) (p.column));
  nullable = refl;
  doc = λ name d. refl;
  carried = moved (sym (carried_union (z ∷ Null ∷ []))) (inr (p.carried, is_no_union z p.beside_null, tt));
  no_float = (float_composites.union (z ∷ Null ∷ [])).1 (All-from_recursion (λ s. HasFloat s → ⊥) (z ∷ Null ∷ []) (p.no_float, ((λ h. h), tt)));
  enums = (enum_composites.union (z ∷ Null ∷ [])).1 (All-from_recursion EnumsFit (z ∷ Null ∷ []) (p.enums, ((λ h. h), tt)));
}

-- names go to the member that is no null
optional_named : (b null : Bool) (n : ℕ) (s : Schema) → (m : ℕ) × (named n (optional b null s) ≡ optional b null (named m s))
optional_named b false n s = (n, refl)
optional_named true true n s = (n + 0, union_named n (Null ∷ s ∷ []))
optional_named false true n s = (n, union_named n (s ∷ Null ∷ []))

-- ---- the fields of a record

record FieldBack (g : AvroField) (f : Field) : Type 0 where
  pub schema : IsColumnOf g.schema f.is_nullable f.data_type
  pub name : g.name ≡ f.name
  pub doc : g.doc ≡ None

abbrev FieldsBack : List AvroField → List Field → Type 0
FieldsBack = AllZip FieldBack

column_back : (g : AvroField) (f : Field) (d : Option (List ℕ)) → FieldBack g f → d ≡ None → column_field g.name d g.schema (small f.data_type) ≡ small_field f
column_back g f d h none =
    ap (λ (o : Option (List ℕ)). column_field g.name o g.schema (small f.data_type)) none
    ∙ (λ i. record { name = h.name i; data_type = small f.data_type; is_nullable = h.schema.nullable i; metadata = [] })

columns_back : (doc : AvroField → Option (List ℕ)) → ((g : AvroField) (f : Field) → FieldBack g f → doc g ≡ None) → (gs : List AvroField) (fs : List Field) → FieldsBack gs fs → columns_of doc gs ≡ Some (map small_field fs)
columns_back doc none [] [] h = refl
columns_back doc none [] (f ∷ fs) h = absurd h
columns_back doc none (g ∷ gs) [] h = absurd h
columns_back doc none (g ∷ gs) (f ∷ fs) h =
    ap (λ (o : Option DataType). (o >>= λ t. columns_of doc gs >>= λ cs. Some (column_field g.name (doc g) g.schema t ∷ cs))) h.0.schema.column
    ∙ ap (λ (o : Option (List Field)). (o >>= λ cs. Some (column_field g.name (doc g) g.schema (small f.data_type) ∷ cs))) (columns_back doc none gs fs h.1)
    ∙ ap (λ (c : Field). Some (c ∷ map small_field fs)) (column_back g f (doc g) h.0 (none g f h.0))

all_back : (P : AvroField → Type 0) → ((g : AvroField) (f : Field) → FieldBack g f → P g) → (gs : List AvroField) (fs : List Field) → FieldsBack gs fs → AllByRecursion P gs
all_back P one [] [] h = tt
all_back P one [] (f ∷ fs) h = absurd h
all_back P one (g ∷ gs) [] h = absurd h
all_back P one (g ∷ gs) (f ∷ fs) h = (one g f h.0, all_back P one gs fs h.1)

as_many : (gs : List AvroField) (fs : List Field) → FieldsBack gs fs → length gs ≡ length fs
as_many [] [] h = refl
as_many [] (f ∷ fs) h = absurd h
as_many (g ∷ gs) [] h = absurd h
as_many (g ∷ gs) (f ∷ fs) h = ap suc (as_many gs fs h.1)

module _ (gs : List AvroField) (fs : List Field) (back : FieldsBack gs fs) where
  all_carried : CarriedList gs
  all_carried = All-from_recursion (λ g. Carried g.schema) gs (all_back (λ g. Carried g.schema) (λ g f h. h.schema.carried) gs fs back)

  no_floats : All (λ g. HasFloat g.schema → ⊥) gs
  no_floats = All-from_recursion (λ g. HasFloat g.schema → ⊥) gs (all_back (λ g. HasFloat g.schema → ⊥) (λ g f h. h.schema.no_float) gs fs back)

  all_enums : All (λ g. EnumsFit g.schema) gs
  all_enums = All-from_recursion (λ g. EnumsFit g.schema) gs (all_back (λ g. EnumsFit g.schema) (λ g f h. h.schema.enums) gs fs back)

record_is : (r : TheRecord) (fs : List Field) → FieldsBack (out-Record r).fields fs → 0 < length fs → (out-Record r).doc ≡ None → IsSchemaOf (Record r) (types.Struct fs)
record_is r fs back some none =
    let gs = (out-Record r).fields in
    record {
      column =
          inferred_composites.fields r
          ∙ ap (λ (o : Option (List Field)). (o >>= λ cs. Some (types.Struct cs))) (columns_back (λ a. a.doc) (λ g f h. h.doc) gs fs back)
          ∙ ap (λ (t : DataType). Some t) (sym (small_struct fs));
      beside_null = refl;
      doc = λ name d. none;
      carried = (carried_record r).1 (omega (arith, as_many gs fs back, some), all_carried gs fs back);
      no_float = (float_composites.fields r).1 (no_floats gs fs back);
      enums = (enum_composites.fields r).1 (all_enums gs fs back);
    }

array_is : (z : Schema) (f : Field) (t : DataType) → small t ≡ types.List (small_item f) → IsColumnOf z f.is_nullable f.data_type → IsSchemaOf (Array z) t
array_is z f t is p = record {
  column =
      inferred_composites.array z
      ∙ ap (λ (o : Option DataType). (o >>= λ u. Some (column_field item_name None z u) >>= λ c. Some (types.List c))) p.column
      ∙ ap (λ (v : Bool). Some (types.List (record { name = item_name; data_type = small f.data_type; is_nullable = v; metadata = [] }))) p.nullable
      ∙ ap (λ (u : DataType). Some u) (sym is);
  beside_null = refl;
  doc = λ name d. refl;
  carried = moved (sym (carried_array z)) p.carried;
  no_float = λ h. p.no_float ((float_composites.array z).0 h);
  enums = (enum_composites.array z).1 p.enums;
}

-- ---- timestamps

reading : (u : TimeUnit) (l : LongLogical) → readings u ≡ Some l → long_type (Some l) ≡ types.Timestamp u None
reading unit.Second l e = absurd (none-some l e)
reading unit.Millisecond l e = ap (λ z. long_type (Some z)) (sym (same_Some _ l e))
reading unit.Microsecond l e = ap (λ z. long_type (Some z)) (sym (same_Some _ l e))
reading unit.Nanosecond l e = ap (λ z. long_type (Some z)) (sym (same_Some _ l e))

instant : (u : TimeUnit) (l : LongLogical) → instants u ≡ Some l → long_type (Some l) ≡ types.Timestamp u (Some (codes "00:00"))
instant unit.Second l e = absurd (none-some l e)
instant unit.Millisecond l e = ap (λ z. long_type (Some z)) (sym (same_Some _ l e))
instant unit.Microsecond l e = ap (λ z. long_type (Some z)) (sym (same_Some _ l e))
instant unit.Nanosecond l e = ap (λ z. long_type (Some z)) (sym (same_Some _ l e))

moment : (u : TimeUnit) (zone : Option (List ℕ)) (l : LongLogical) → timestamp u zone ≡ Some l → long_type (Some l) ≡ types.Timestamp u zone
moment u None l e = reading u l e
moment u (Some zone) l e = from (bytes_eq zone (codes "00:00")) refl e
  where
    from : (b : Bool) → bytes_eq zone (codes "00:00") ≡ b → cond b (instants u) None ≡ Some l → long_type (Some l) ≡ types.Timestamp u (Some zone)
    from true q h = instant u l h ∙ ap (λ (z : List ℕ). types.Timestamp u (Some z)) (sym ((bytes_eq-Decides zone (codes "00:00")).0 q))
    from false q h = absurd (none-some l h)

-- ---- every type

-- the schema of a type that can be serialized, once its fixed types have names
abbrev ComesBack : DataType → Type 0
ComesBack t = (b : Bool) (k n : ℕ) (s : Schema) → schema_of b k t ≡ Some s → can_serialize t ≡ true → IsSchemaOf (named n s) t

made : (n : ℕ) (a s : Schema) (t : DataType) → Some a ≡ Some s → IsSchemaOf (named n a) t → IsSchemaOf (named n s) t
made n a s t e p = subst (λ z. IsSchemaOf (named n z) t) (same_Some a s e) p

some_size : (size : ℕ) → nat_lt 0 size ≡ true → 1 ≤ size
some_size zero h = absurd (false≢true h)
some_size (suc size) h = omega arith

flat_back : (t : DataType) → HasNoFields t → ComesBack t
flat_back types.Boolean x b k n s e h = made n _ s types.Boolean e (record { column = refl; beside_null = refl; doc = λ m d. refl; carried = tt; no_float = λ f. f; enums = λ f. f })
flat_back types.Int32 x b k n s e h = made n _ s types.Int32 e (record { column = refl; beside_null = refl; doc = λ m d. refl; carried = tt; no_float = λ f. f; enums = λ f. f })
flat_back types.Date32 x b k n s e h = made n _ s types.Date32 e (record { column = refl; beside_null = refl; doc = λ m d. refl; carried = tt; no_float = λ f. f; enums = λ f. f })
flat_back (types.Time32 unit.Millisecond) x b k n s e h =
    made n _ s (types.Time32 unit.Millisecond) e (record { column = refl; beside_null = refl; doc = λ m d. refl; carried = tt; no_float = λ f. f; enums = λ f. f })
flat_back types.Int64 x b k n s e h = made n _ s types.Int64 e (record { column = refl; beside_null = refl; doc = λ m d. refl; carried = tt; no_float = λ f. f; enums = λ f. f })
flat_back (types.Time64 unit.Microsecond) x b k n s e h =
    made n _ s (types.Time64 unit.Microsecond) e (record { column = refl; beside_null = refl; doc = λ m d. refl; carried = tt; no_float = λ f. f; enums = λ f. f })
flat_back (types.Timestamp u zone) x b k n s e h =
    let q = bind_some (timestamp u zone) (λ logical. Some (Long (Some logical))) s e in
    made n _ s (types.Timestamp u zone) q.2
    (record { column = ap (λ (t : DataType). Some t) (moment u zone q.0 q.1); beside_null = refl; doc = λ m d. refl; carried = tt; no_float = λ f. f; enums = λ f. f })
flat_back types.Binary x b k n s e h = made n _ s types.Binary e (record { column = refl; beside_null = refl; doc = λ m d. refl; carried = tt; no_float = λ f. f; enums = λ f. f })
flat_back types.LargeBinary x b k n s e h = made n _ s types.LargeBinary e (record { column = refl; beside_null = refl; doc = λ m d. refl; carried = tt; no_float = λ f. f; enums = λ f. f })
flat_back (types.Decimal precision scale) x b k n s e h =
    made n _ s (types.Decimal precision scale) e (record { column = refl; beside_null = refl; doc = λ m d. refl; carried = tt; no_float = λ f. f; enums = λ f. f })
flat_back types.Utf8 x b k n s e h = made n _ s types.Utf8 e (record { column = refl; beside_null = refl; doc = λ m d. refl; carried = tt; no_float = λ f. f; enums = λ f. f })
flat_back types.LargeUtf8 x b k n s e h = made n _ s types.LargeUtf8 e (record { column = refl; beside_null = refl; doc = λ m d. refl; carried = tt; no_float = λ f. f; enums = λ f. f })
flat_back (types.FixedSizeBinary size) x b k n s e h =
    made n _ s (types.FixedSizeBinary size) e (record { column = refl; beside_null = refl; doc = λ m d. refl; carried = some_size size h; no_float = λ f. f; enums = λ f. f })
flat_back (types.Interval interval.MonthDayNano) x b k n s e h =
    made n _ s (types.Interval interval.MonthDayNano) e (record { column = refl; beside_null = refl; doc = λ m d. refl; carried = refl; no_float = λ f. f; enums = λ f. f })
flat_back (types.List' shape item) x b k n s e h = absurd x
flat_back (types.LargeList' shape item) x b k n s e h = absurd x
flat_back (types.Struct' shape fields) x b k n s e h = absurd x
flat_back _ x b k n s e h = absurd (false≢true h)

-- a column, by its type
column_of : (f : Field) → ComesBack f.data_type → (b : Bool) (k n : ℕ) (z : Schema) → column_schema b k f ≡ Some z → can_serialize f.data_type ≡ true → IsColumnOf (named n z) f.is_nullable f.data_type
column_of f one b k n z e h =
    let p = bind_some (schema_of b k f.data_type) (λ s. Some (optional b f.is_nullable s)) z e in
    let o = optional_named b f.is_nullable n p.0 in
    let is : named n z ≡ optional b f.is_nullable (named o.0 p.0) = ap (named n) (sym (same_Some _ z p.2)) ∙ o.1 in
    subst (λ y. IsColumnOf y f.is_nullable f.data_type) (sym is) (optional_is b f.is_nullable (named o.0 p.0) f.data_type (one b k o.0 p.0 p.1 h))

listed_back : (t : DataType) (f : Field) → small t ≡ types.List (small_item f) → ((b : Bool) (k : ℕ) → schema_of b k t ≡ array_schema b k f) → can_serialize t ≡ can_serialize f.data_type → ComesBack f.data_type → ComesBack t
listed_back t f is schema serial one b k n s e h =
    let q = bind_some (column_schema b k f) (λ z. Some (Array z)) s (sym (schema b k) ∙ e) in
    let same : named n s ≡ Array (named n q.0) = ap (named n) (sym (same_Some (Array q.0) s q.2)) ∙ array_named n q.0 in
    subst (λ y. IsSchemaOf y t) (sym same) (array_is (named n q.0) f t is (column_of f one b k n q.0 q.1 (sym serial ∙ h)))

fields_back : (fs : List Field) → EachType ComesBack fs → (b : Bool) (k n : ℕ) (gs : List AvroField) → columns_fields b k fs ≡ Some gs → can_serialize_all fs ≡ true → FieldsBack (named_all n gs) fs
fields_back [] h b k n gs e serial = subst (λ (made : List AvroField). FieldsBack (named_all n made) []) (same_Some [] gs e) tt
fields_back (f ∷ fs) h b k n gs e serial =
    let q = bind_some (column_schema b k f) (λ z. columns_fields b (k + structs_in f.data_type) fs >>= λ more. Some (plain_field f.name z ∷ more)) gs e in
    let r = bind_some (columns_fields b (k + structs_in f.data_type) fs) (λ more. Some (plain_field f.name q.0 ∷ more)) gs q.2 in
    let both = and_parts (can_serialize f.data_type) (can_serialize_all fs) serial in
    subst (λ (made : List AvroField). FieldsBack (named_all n made) (f ∷ fs)) (same_Some _ gs r.2)
    (record { schema = column_of f h.0 b k n q.0 q.1 both.0; name = refl; doc = refl }, fields_back fs h.1 b (k + structs_in f.data_type) (n + nameless_in q.0) r.0 r.1 both.1)

-- the fields of a record, once its fixed types have names
named_fields_are : (n : ℕ) (name : List ℕ) (gs : List AvroField) → (out-Record (named_record n (plain_record name gs))).fields ≡ named_all n gs
named_fields_are n name gs =
    ap (λ (r : TheRecord). (out-Record r).fields) (record_named n (plain_record name gs)) ∙ ap (λ o. o.fields) (out-roll-Record _) ∙ ap (named_all n) (ap (λ o. o.fields) (out-roll-Record _))

named_doc : (n : ℕ) (name : List ℕ) (gs : List AvroField) → (out-Record (named_record n (plain_record name gs))).doc ≡ None
named_doc n name gs = ap (λ (r : TheRecord). (out-Record r).doc) (record_named n (plain_record name gs)) ∙ ap (λ o. o.doc) (out-roll-Record _) ∙ ap (λ o. o.doc) (out-roll-Record _)

some_fields : (fs : List Field) → not (eqb (length fs) 0) ≡ true → 0 < length fs
some_fields [] h = absurd (false≢true h)
some_fields (f ∷ fs) h = omega arith

struct_back : (fs : List Field) → EachType ComesBack fs → ComesBack (types.Struct fs)
struct_back fs all b k n s e h =
    let name = record_name (k + 1) in
    let q = bind_some (columns_fields b (k + 1) fs) (λ gs. Some (Record (plain_record name gs))) s (sym (struct_schema_is b k fs) ∙ e) in
    let both = and_parts (not (eqb (length fs) 0)) (can_serialize_all fs) (sym (struct_serializable fs) ∙ h) in
    let back = subst (λ (gs : List AvroField). FieldsBack gs fs) (sym (named_fields_are n name q.0)) (fields_back fs all b (k + 1) n q.0 q.1 both.1) in
    made n (Record (plain_record name q.0)) s (types.Struct fs) q.2 (record_is (named_record n (plain_record name q.0)) fs back (some_fields fs both.0) (named_doc n name q.0))

each_back : (fs : List Field) → EachType ComesBack fs
each_back = each_by_parts ComesBack flat_back
    (λ f p. listed_back (types.List f) f (small_list f) (λ b k. list_schema b k f) (list_serializable f) p)
    (λ f p. listed_back (types.LargeList f) f (small_large f) (λ b k. large_list_schema b k f) (large_list_serializable f) p)
    struct_back

-- ---- the record of a file

-- fields of a file's record, whose columns are these in small form
pub record AreTargets (fields : List Field) (gs : List AvroField) : Type 0 where
  pub columns : inferred_columns gs ≡ Some (map small_field fields)
  pub carried : CarriedList gs
  pub no_float : All (λ g. HasFloat g.schema → ⊥) gs
  pub enums : All (λ g. EnumsFit g.schema) gs
  pub as_many : length gs ≡ length fields

pub are_targets : (fields : List Field) (name : List ℕ) (nameless target : TheRecord) → record_of true fields ≡ Some nameless → can_serialize_all fields ≡ true → target ≡ named_root name nameless → AreTargets fields (out-Record target).fields
are_targets fields name nameless target e serial is =
    let q = bind_some (columns_fields true 0 fields) (λ gs. Some (plain_record [] gs)) nameless e in
    let gs = named_all 0 q.0 in
    let back = fields_back fields (each_back fields) true 0 0 q.0 q.1 serial in
    let are : (out-Record target).fields ≡ gs =
    ap (λ (r : TheRecord). (out-Record r).fields) (is ∙ ap (named_root name) (sym (same_Some _ nameless q.2))) ∙ ap (λ o. o.fields) (out-roll-Record _) ∙ named_fields_are 0 [] q.0 in
    subst (AreTargets fields) (sym are) (record {
      columns = columns_back own_doc (λ g f h. h.schema.doc g.name g.doc) gs fields back;
      carried = all_carried gs fields back;
      no_float = no_floats gs fields back;
      enums = all_enums gs fields back;
      as_many = as_many gs fields back;
    })
