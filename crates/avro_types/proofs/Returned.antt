-- From columns to a schema and back.
use Rattle.std.proofs.Common.{◌≡◌, ◌∙◌, ℕ, suc, ◌+◌, Bool, true, false, not, cond, List, [], ◌∷◌, map, Option, Some, None, refl, sym, ap, subst, arith}
use Rattle.std.specs.Prelude.{codes, IsTrue, All}
use Rattle.std.specs.Str.{bytes_eq}
use Rattle.std.proofs.lemmas.Bool.{and_parts, false≢true}
use Rattle.std.proofs.lemmas.Option.{none-some, same_Some}
use Rattle.std.proofs.lemmas.Slice.Eq.{bytes_eq-Decides}
use Rattle.arrow_core.specs.declared.types.Field.{Field}
use Rattle.arrow_core.specs.declared.types.DataType.{DataType, Row_of-Field, end_of-Field, more_of-Field}
use Rattle.arrow_core.specs.declared.types.DataType as types
use Rattle.arrow_core.specs.declared.types.TimeUnit.{TimeUnit}
use Rattle.arrow_core.specs.declared.types.TimeUnit.TheVariants as unit
use Rattle.arrow_core.specs.declared.types.IntervalUnit.TheVariants as interval
use Rattle.avro_schema.specs.declared.schema.AvroField.{AvroField}
use Rattle.avro_schema.specs.declared.schema.Record.{Record as TheRecord, out-Record, out-roll-Record}
use Rattle.avro_schema.specs.declared.schema.Schema.{Schema, Null, Long, Record, Array}
use Rattle.avro_schema.specs.declared.schema.LongLogical.{LongLogical}
use Rattle.avro_schema.specs.AndThen.{◌>>=◌}
use Rattle.avro_schema.specs.Encodes.{is_null}
use Rattle.avro_schema.specs.Types.{long_type, is_union}
use Rattle.avro_schema.specs.Inferred.{item_name, column_field, is_item, inferred, columns_of, own_doc, inferred_columns}
use Rattle.avro_schema.proofs.Basics.{bind_some}
use Rattle.avro_schema.proofs.InferredLemmas.{inferred_composites}
use Rattle.avro_types.specs.Back.{SchemaAndBack, first_item, small, small_field, small_row}
use Rattle.avro_types.specs.Schemas.{can_serialize, can_serialize_row, column_schema, columns_fields, has_field, instants, item_schema, optional, plain_field, plain_record, readings, record_name, row_schemas, schema_of, structs_in, timestamp}

-- a schema of a type that can be serialized
record Back (s : Schema) (t : DataType) : Type 0 where
  pub column : inferred s ≡ Some (small t)
  pub beside_null : is_item s ≡ true
  pub doc : (name : List ℕ) → own_doc (plain_field name s) ≡ None

made : (a s : Schema) (t : DataType) → Some a ≡ Some s → Back a t → Back s t
made a s t e b = subst (λ z. Back z t) (same_Some a s e) b

-- ---- timestamps

reading : (u : TimeUnit) (l : LongLogical) → readings u ≡ Some l → long_type (Some l) ≡ types.Timestamp u None
reading unit.Second l e = absurd (none-some l e)
reading unit.Millisecond l e = ap (λ z. long_type (Some z)) (sym (same_Some _ l e))
reading unit.Microsecond l e = ap (λ z. long_type (Some z)) (sym (same_Some _ l e))
reading unit.Nanosecond l e = ap (λ z. long_type (Some z)) (sym (same_Some _ l e))

instant : (u : TimeUnit) (l : LongLogical) → instants u ≡ Some l → long_type (Some l) ≡ types.Timestamp u (Some (codes "00:00"))
instant unit.Second l e = absurd (none-some l e)
instant unit.Millisecond l e = ap (λ z. long_type (Some z)) (sym (same_Some _ l e))
instant unit.Microsecond l e = ap (λ z. long_type (Some z)) (sym (same_Some _ l e))
instant unit.Nanosecond l e = ap (λ z. long_type (Some z)) (sym (same_Some _ l e))

moment : (u : TimeUnit) (zone : Option (List ℕ)) (l : LongLogical) → timestamp u zone ≡ Some l → long_type (Some l) ≡ types.Timestamp u zone
moment u None l e = reading u l e
moment u (Some zone) l e = from (bytes_eq zone (codes "00:00")) refl e
  where
    from : (b : Bool) → bytes_eq zone (codes "00:00") ≡ b → cond b (instants u) None ≡ Some l → long_type (Some l) ≡ types.Timestamp u (Some zone)
    from true q h = instant u l h ∙ ap (λ (z : List ℕ). types.Timestamp u (Some z)) (sym ((bytes_eq-Decides zone (codes "00:00")).0 q))
    from false q h = absurd (none-some l h)

-- ---- unions

no_null : (s : Schema) → is_item s ≡ true → is_null s ≡ false
no_null s h = from (is_null s) refl (and_parts (not (is_null s)) (not (is_union s)) h).0
  where
    from : (b : Bool) → is_null s ≡ b → not (is_null s) ≡ true → is_null s ≡ false
    from false q k = q
    from true q k = absurd (false≢true (rw q at k))

no_union : (s : Schema) → is_item s ≡ true → is_union s ≡ false
no_union s h = from (is_union s) refl (and_parts (not (is_null s)) (not (is_union s)) h).1
  where
    from : (b : Bool) → is_union s ≡ b → not (is_union s) ≡ true → is_union s ≡ false
    from false q k = q
    from true q k = absurd (false≢true (rw q at k))

optional_column : (b null : Bool) (s : Schema) (t : DataType) → Back s t → inferred (optional b null s) ≡ Some (small t)
optional_column b false s t h = h.column
optional_column true true s t h = inferred_composites.union (Null ∷ s ∷ []) ∙ (rw h.beside_null (h.column))
optional_column false true s t h = inferred_composites.union (s ∷ Null ∷ []) ∙ (rw (no_null s h.beside_null, no_union s h.beside_null) (h.column))

optional_nullable : (b null : Bool) (s : Schema) (t : DataType) → Back s t → is_union (optional b null s) ≡ null
optional_nullable b false s t h = no_union s h.beside_null
optional_nullable true true s t h = refl
optional_nullable false true s t h = refl

optional_doc : (b null : Bool) (name : List ℕ) (s : Schema) (t : DataType) → Back s t → own_doc (plain_field name (optional b null s)) ≡ None
optional_doc b false name s t h = h.doc name
optional_doc true true name s t h = refl
optional_doc false true name s t h = refl

-- the column of a schema that may be optional
column_is : (b null : Bool) (name : List ℕ) (s : Schema) (t u : DataType) → Back s t → u ≡ small t
    → column_field name None (optional b null s) u ≡ (record { name = name; data_type = small t; is_nullable = null; metadata = [] })
column_is b null name s t u h e = λ i. record { name = name; data_type = e i; is_nullable = optional_nullable b null s t h i; metadata = [] }

array_column : (b null : Bool) (s : Schema) (t : DataType) → Back s t
    → inferred (Array (optional b null s)) ≡ Some (first_item ((record { name = []; data_type = small t; is_nullable = null; metadata = [] }) ∷ []))
array_column b null s t h =
    let z = optional b null s in
    inferred_composites.array z
    ∙ ap (λ (o : Option DataType). (o >>= λ u. Some (column_field item_name None z u) >>= λ f. Some (types.List f))) (optional_column b null s t h)
    ∙ ap (λ (f : Field). Some (types.List f)) (column_is b null item_name s t (small t) h refl)

-- ---- every type

mutual
  back : (b : Bool) (k : ℕ) (t : DataType) (s : Schema) → schema_of b k t ≡ Some s → can_serialize t ≡ true → Back s t
  back b k types.Boolean s e h = made _ s types.Boolean e (record { column = refl; beside_null = refl; doc = λ n. refl })
  back b k types.Int32 s e h = made _ s types.Int32 e (record { column = refl; beside_null = refl; doc = λ n. refl })
  back b k types.Date32 s e h = made _ s types.Date32 e (record { column = refl; beside_null = refl; doc = λ n. refl })
  back b k (types.Time32 unit.Millisecond) s e h = made _ s (types.Time32 unit.Millisecond) e (record { column = refl; beside_null = refl; doc = λ n. refl })
  back b k types.Int64 s e h = made _ s types.Int64 e (record { column = refl; beside_null = refl; doc = λ n. refl })
  back b k (types.Time64 unit.Microsecond) s e h = made _ s (types.Time64 unit.Microsecond) e (record { column = refl; beside_null = refl; doc = λ n. refl })
  back b k (types.Timestamp u zone) s e h =
      let q = bind_some (timestamp u zone) (λ logical. Some (Long (Some logical))) s e in
      made _ s (types.Timestamp u zone) q.2 (record { column = ap (λ (z : DataType). Some z) (moment u zone q.0 q.1); beside_null = refl; doc = λ n. refl })
  back b k types.Binary s e h = made _ s types.Binary e (record { column = refl; beside_null = refl; doc = λ n. refl })
  back b k types.LargeBinary s e h = made _ s types.LargeBinary e (record { column = refl; beside_null = refl; doc = λ n. refl })
  back b k (types.Decimal precision scale) s e h = made _ s (types.Decimal precision scale) e (record { column = refl; beside_null = refl; doc = λ n. refl })
  back b k types.Utf8 s e h = made _ s types.Utf8 e (record { column = refl; beside_null = refl; doc = λ n. refl })
  back b k types.LargeUtf8 s e h = made _ s types.LargeUtf8 e (record { column = refl; beside_null = refl; doc = λ n. refl })
  back b k (types.FixedSizeBinary size) s e h = made _ s (types.FixedSizeBinary size) e (record { column = refl; beside_null = refl; doc = λ n. refl })
  back b k (types.Interval interval.MonthDayNano) s e h = made _ s (types.Interval interval.MonthDayNano) e (record { column = refl; beside_null = refl; doc = λ n. refl })
  back b k (types.List' shape item) s e h =
      let q = bind_some (item_schema b k item) (λ z. Some (Array z)) s e in
      made _ s (types.List' shape item) q.2 (record { column = item_back b k item q.0 q.1 h; beside_null = refl; doc = λ n. refl })
  back b k (types.LargeList' shape item) s e h =
      let q = bind_some (item_schema b k item) (λ z. Some (Array z)) s e in
      made _ s (types.LargeList' shape item) q.2 (record { column = item_back b k item q.0 q.1 h; beside_null = refl; doc = λ n. refl })
  back b k (types.Struct' shape fields) s e h =
      let q = bind_some (row_schemas b (k + 1) fields) (λ fs. Some (Record (plain_record (record_name (k + 1)) fs))) s e in
      let r = plain_record (record_name (k + 1)) q.0 in
      let all = row_back b (k + 1) fields q.0 q.1 (and_parts (has_field fields) (can_serialize_row fields) h).1 in
      made _ s (types.Struct' shape fields) q.2 (record {
        column = inferred_composites.fields r ∙ ap (λ (o : List AvroField). (columns_of (λ a. a.doc) o >>= λ fs. Some (types.Struct fs))) (ap (λ o. o.fields) (out-roll-Record _)) ∙ (rw all refl);
        beside_null = refl;
        doc = λ n. ap (λ o. o.doc) (out-roll-Record _);
      })
  back b k _ s e h = absurd (false≢true h)

  item_back : {m : _} (b : Bool) (k : ℕ) (row : Row_of-Field m) (s : Schema) → item_schema b k row ≡ Some s → can_serialize_row row ≡ true → inferred (Array s) ≡ Some (first_item (small_row row))
  item_back b k end_of-Field s e h = absurd (none-some s e)
  item_back b k (more_of-Field name t is_nullable metadata rest) s e h =
      let q = bind_some (schema_of b k t) (λ z. Some (optional b is_nullable z)) s e in
      let p = back b k t q.0 q.1 (and_parts (can_serialize t) (can_serialize_row rest) h).0 in
      subst (λ z. inferred (Array z) ≡ Some (first_item (small_row (more_of-Field name t is_nullable metadata rest)))) (same_Some _ s q.2) (array_column b is_nullable q.0 t p)

  row_back : {m : _} (b : Bool) (k : ℕ) (row : Row_of-Field m) (fs : List AvroField) → row_schemas b k row ≡ Some fs → can_serialize_row row ≡ true → columns_of (λ a. a.doc) fs ≡ Some (small_row row)
  row_back b k end_of-Field fs e h = ap (columns_of (λ a. a.doc)) (sym (same_Some _ fs e))
  row_back b k (more_of-Field name t is_nullable metadata rest) fs e h =
      let q = bind_some (schema_of b k t) (λ z. row_schemas b (k + structs_in t) rest >>= λ more. Some (plain_field name (optional b is_nullable z) ∷ more)) fs e in
      let r = bind_some (row_schemas b (k + structs_in t) rest) (λ more. Some (plain_field name (optional b is_nullable q.0) ∷ more)) fs q.2 in
      let both = and_parts (can_serialize t) (can_serialize_row rest) h in
      let p = back b k t q.0 q.1 both.0 in
      let more = row_back b (k + structs_in t) rest r.0 r.1 both.1 in
      ap (columns_of (λ a. a.doc)) (sym (same_Some _ fs r.2))
      ∙ (rw (optional_column b is_nullable q.0 t p, more, column_is b is_nullable name q.0 t (small t) p refl) refl)

-- ---- the fields of a record

tail_all : (f : Field) (fields : List Field) → All (λ f. IsTrue (can_serialize f.data_type)) (f ∷ fields) → All (λ f. IsTrue (can_serialize f.data_type)) fields
tail_all f fields all = λ i d l. all (suc i) d (omega (arith, l))

fields_back : (b : Bool) (k : ℕ) (fields : List Field) (fs : List AvroField) → columns_fields b k fields ≡ Some fs → All (λ f. IsTrue (can_serialize f.data_type)) fields → columns_of own_doc fs ≡ Some (map small_field fields)
fields_back b k [] fs e all = ap (columns_of own_doc) (sym (same_Some _ fs e))
fields_back b k (f ∷ fields) fs e all =
    let q = bind_some (column_schema b k f) (λ z. columns_fields b (k + structs_in f.data_type) fields >>= λ more. Some (plain_field f.name z ∷ more)) fs e in
    let r = bind_some (columns_fields b (k + structs_in f.data_type) fields) (λ more. Some (plain_field f.name q.0 ∷ more)) fs q.2 in
    let c = bind_some (schema_of b k f.data_type) (λ z. Some (optional b f.is_nullable z)) q.0 q.1 in
    let p = back b k f.data_type c.0 c.1 (all 0 f (omega arith)) in
    let more = fields_back b (k + structs_in f.data_type) fields r.0 r.1 (tail_all f fields all) in
    ap (columns_of own_doc) (sym (same_Some _ fs r.2))
    ∙ ap (λ z. columns_of own_doc (plain_field f.name z ∷ r.0)) (sym (same_Some _ q.0 c.2))
    ∙ (rw (optional_column b f.is_nullable c.0 f.data_type p, more, optional_doc b f.is_nullable f.name c.0 f.data_type p, column_is b f.is_nullable f.name c.0 f.data_type (small f.data_type) p refl) refl)

pub schema_and_back : SchemaAndBack
schema_and_back b fields r e all =
    let q = bind_some (columns_fields b 0 fields) (λ fs. Some (plain_record [] fs)) r e in
    ap (λ (z : TheRecord). inferred_columns (out-Record z).fields) (sym (same_Some _ r q.2)) ∙ ap (columns_of own_doc) (ap (λ o. o.fields) (out-roll-Record _)) ∙ fields_back b 0 fields q.0 q.1 all
