-- Types that can be serialized pair with the schemas that they get.
use Rattle.std.proofs.Common.{◌≡◌, ◌∙◌, ℕ, ◌+◌, Bool, true, false, inl, inr, List, [], ◌∷◌, Some, refl, sym, ap, subst}
use Rattle.std.proofs.lemmas.Bool.{and_parts, false≢true}
use Rattle.std.proofs.lemmas.Option.{none-some, same_Some}
use Rattle.arrow_core.specs.declared.types.DataType.{DataType, Row_of-Field, end_of-Field, more_of-Field}
use Rattle.arrow_core.specs.declared.types.DataType as types
use Rattle.arrow_core.specs.declared.types.Field.{Field}
use Rattle.std.specs.List.{AllByRecursion}
use Rattle.arrow_core.specs.declared.types.TimeUnit.TheVariants as unit
use Rattle.arrow_core.specs.declared.types.IntervalUnit.TheVariants as interval
use Rattle.avro_schema.specs.declared.schema.AvroField.{AvroField}
use Rattle.avro_schema.specs.declared.schema.Record.{Record as TheRecord, out-Record, out-roll-Record}
use Rattle.avro_schema.specs.declared.schema.Schema.{Schema, Null, Long, Record, Array}
use Rattle.avro_schema.specs.AndThen.{◌>>=◌}
use Rattle.avro_schema.specs.Carried.{IsNoUnion}
use Rattle.avro_schema.proofs.Basics.{bind_some}
use Rattle.avro_types.specs.Listed.{named_all}
use Rattle.avro_types.specs.Named.{named, named_record, named_root, nameless_in}
use Rattle.avro_types.specs.Schemas.{can_serialize, can_serialize_row, column_schema, columns_fields, has_field, item_schema, optional, plain_field, plain_record, record_name, row_schemas, schema_of, structs_in, timestamp}
use Rattle.avro_types.proofs.Renamed.{array_named, record_named, union_named}
use Rattle.avro_encode.specs.Listed.{PairsColumns, PairsItemOf, PairsListOf, PairsTypesOf}
use Rattle.avro_encode.specs.PairTypes.{PairsType, first_type, row_types}
use Rattle.avro_encode.proofs.ByLists.{moved}
use Rattle.avro_encode.proofs.TypesByLists.{array_type_is, record_type_is, union_type_is}
use Rattle.avro_write.specs.Laws.{RecordPairs, SerializablePairs}

-- a schema of a type that can be serialized, and what it is once its fixed types have names
record Paired (s : Schema) (t : DataType) : Type 0 where
  pub no_union : IsNoUnion s
  pub types : PairsType s t
  pub named_no_union : (n : ℕ) → IsNoUnion (named n s)
  pub named_types : (n : ℕ) → PairsType (named n s) t

made : (a s : Schema) (t : DataType) → Some a ≡ Some s → Paired a t → Paired s t
made a s t e b = subst (λ z. Paired z t) (same_Some a s e) b

optional_types : (b null : Bool) (s : Schema) (t : DataType) → Paired s t → PairsType (optional b null s) t
optional_types b false s t p = p.types
optional_types true true s t p = moved (sym (union_type_is (Null ∷ s ∷ []) t)) (inl (tt, p.no_union, p.types))
optional_types false true s t p = moved (sym (union_type_is (s ∷ Null ∷ []) t)) (inr (tt, p.no_union, p.types))

optional_named : (b null : Bool) (n : ℕ) (s : Schema) (t : DataType) → Paired s t → PairsType (named n (optional b null s)) t
optional_named b false n s t p = p.named_types n
optional_named true true n s t p =
    subst (λ z. PairsType z t) (sym (union_named n (Null ∷ s ∷ []))) (moved (sym (union_type_is (Null ∷ named (n + 0) s ∷ []) t)) (inl (tt, p.named_no_union (n + 0), p.named_types (n + 0))))
optional_named false true n s t p =
    subst (λ z. PairsType z t) (sym (union_named n (s ∷ Null ∷ []))) (moved (sym (union_type_is (named n s ∷ Null ∷ []) t)) (inr (tt, p.named_no_union n, p.named_types n)))

-- the fields of a record, once its fixed types have names
named_fields_are : (n : ℕ) (name : List ℕ) (fs : List AvroField) → (out-Record (named_record n (plain_record name fs))).fields ≡ named_all n fs
named_fields_are n name fs =
    ap (λ (r : TheRecord). (out-Record r).fields) (record_named n (plain_record name fs)) ∙ ap (λ o. o.fields) (out-roll-Record _) ∙ ap (named_all n) (ap (λ o. o.fields) (out-roll-Record _))

array_pair : (z : Schema) (t : DataType) → PairsListOf z t × ((n : ℕ) → PairsListOf (named n z) t) → Paired (Array z) t
array_pair z t p = record {
  no_union = tt;
  types = moved (sym (array_type_is z t)) p.0;
  named_no_union = λ n. tt;
  named_types = λ n. subst (λ y. PairsType y t) (sym (array_named n z)) (moved (sym (array_type_is (named n z) t)) (p.1 n));
}

mutual
  pair : (b : Bool) (k : ℕ) (t : DataType) (s : Schema) → schema_of b k t ≡ Some s → can_serialize t ≡ true → Paired s t
  pair b k types.Boolean s e h = made _ s types.Boolean e (record { no_union = tt; types = refl; named_no_union = λ n. tt; named_types = λ n. refl })
  pair b k types.Int32 s e h = made _ s types.Int32 e (record { no_union = tt; types = refl; named_no_union = λ n. tt; named_types = λ n. refl })
  pair b k types.Date32 s e h = made _ s types.Date32 e (record { no_union = tt; types = refl; named_no_union = λ n. tt; named_types = λ n. refl })
  pair b k (types.Time32 unit.Millisecond) s e h = made _ s (types.Time32 unit.Millisecond) e (record { no_union = tt; types = refl; named_no_union = λ n. tt; named_types = λ n. refl })
  pair b k types.Int64 s e h = made _ s types.Int64 e (record { no_union = tt; types = refl; named_no_union = λ n. tt; named_types = λ n. refl })
  pair b k (types.Time64 unit.Microsecond) s e h = made _ s (types.Time64 unit.Microsecond) e (record { no_union = tt; types = refl; named_no_union = λ n. tt; named_types = λ n. refl })
  pair b k (types.Timestamp u zone) s e h =
      let q = bind_some (timestamp u zone) (λ logical. Some (Long (Some logical))) s e in
      made _ s (types.Timestamp u zone) q.2 (record { no_union = tt; types = refl; named_no_union = λ n. tt; named_types = λ n. refl })
  pair b k types.Binary s e h = made _ s types.Binary e (record { no_union = tt; types = inl refl; named_no_union = λ n. tt; named_types = λ n. inl refl })
  pair b k types.LargeBinary s e h = made _ s types.LargeBinary e (record { no_union = tt; types = inr (refl, refl); named_no_union = λ n. tt; named_types = λ n. inr (refl, refl) })
  pair b k (types.Decimal precision scale) s e h =
      made _ s (types.Decimal precision scale) e (record { no_union = tt; types = (precision, scale, refl); named_no_union = λ n. tt; named_types = λ n. (precision, scale, refl) })
  pair b k types.Utf8 s e h = made _ s types.Utf8 e (record { no_union = tt; types = inl refl; named_no_union = λ n. tt; named_types = λ n. inl refl })
  pair b k types.LargeUtf8 s e h = made _ s types.LargeUtf8 e (record { no_union = tt; types = inr (refl, refl); named_no_union = λ n. tt; named_types = λ n. inr (refl, refl) })
  pair b k (types.FixedSizeBinary size) s e h = made _ s (types.FixedSizeBinary size) e (record { no_union = tt; types = refl; named_no_union = λ n. tt; named_types = λ n. refl })
  pair b k (types.Interval interval.MonthDayNano) s e h =
      made _ s (types.Interval interval.MonthDayNano) e (record { no_union = tt; types = refl; named_no_union = λ n. tt; named_types = λ n. refl })
  pair b k (types.List' shape item) s e h =
      let q = bind_some (item_schema b k item) (λ z. Some (Array z)) s e in
      made _ s (types.List' shape item) q.2 (array_pair q.0 (types.List' shape item) (item_pair b k item q.0 q.1 h))
  pair b k (types.LargeList' shape item) s e h =
      let q = bind_some (item_schema b k item) (λ z. Some (Array z)) s e in
      made _ s (types.LargeList' shape item) q.2 (array_pair q.0 (types.LargeList' shape item) (item_pair b k item q.0 q.1 h))
  pair b k (types.Struct' shape fields) s e h =
      let q = bind_some (row_schemas b (k + 1) fields) (λ fs. Some (Record (plain_record (record_name (k + 1)) fs))) s e in
      let name = record_name (k + 1) in
      let r = plain_record name q.0 in
      let p = row_pair b (k + 1) fields q.0 q.1 (and_parts (has_field fields) (can_serialize_row fields) h).1 in
      made _ s (types.Struct' shape fields) q.2 (record {
        no_union = tt;
        types = moved (sym (record_type_is r (types.Struct' shape fields))) (subst (λ (fs : List AvroField). PairsTypesOf fs (row_types fields)) (sym (ap (λ o. o.fields) (out-roll-Record _))) p.0);
        named_no_union = λ n. tt;
        named_types = λ n. moved (sym (record_type_is (named_record n r) (types.Struct' shape fields))) (subst (λ (fs : List AvroField). PairsTypesOf fs (row_types fields)) (sym (named_fields_are n name q.0)) (p.1 n));
      })
  pair b k _ s e h = absurd (false≢true h)

  item_pair : {m : _} (b : Bool) (k : ℕ) (row : Row_of-Field m) (z : Schema) → item_schema b k row ≡ Some z → can_serialize_row row ≡ true → PairsItemOf z (first_type row) × ((n : ℕ) → PairsItemOf (named n z) (first_type row))
  item_pair b k end_of-Field z e h = absurd (none-some z e)
  item_pair b k (more_of-Field name t is_nullable metadata rest) z e h =
      let q = bind_some (schema_of b k t) (λ y. Some (optional b is_nullable y)) z e in
      let p = pair b k t q.0 q.1 (and_parts (can_serialize t) (can_serialize_row rest) h).0 in
      let same = same_Some _ z q.2 in
      (subst (λ y. PairsType y t) same (optional_types b is_nullable q.0 t p), λ n. subst (λ y. PairsType (named n y) t) same (optional_named b is_nullable n q.0 t p))

  row_pair : {m : _} (b : Bool) (k : ℕ) (row : Row_of-Field m) (fs : List AvroField) → row_schemas b k row ≡ Some fs → can_serialize_row row ≡ true → PairsTypesOf fs (row_types row) × ((n : ℕ) → PairsTypesOf (named_all n fs) (row_types row))
  row_pair b k end_of-Field fs e h =
      let same = same_Some _ fs e in (subst (λ (gs : List AvroField). PairsTypesOf gs []) same tt, λ n. subst (λ (gs : List AvroField). PairsTypesOf (named_all n gs) []) same tt)
  row_pair b k (more_of-Field name t is_nullable metadata rest) fs e h =
      let q = bind_some (schema_of b k t) (λ z. row_schemas b (k + structs_in t) rest >>= λ more. Some (plain_field name (optional b is_nullable z) ∷ more)) fs e in
      let r = bind_some (row_schemas b (k + structs_in t) rest) (λ more. Some (plain_field name (optional b is_nullable q.0) ∷ more)) fs q.2 in
      let both = and_parts (can_serialize t) (can_serialize_row rest) h in
      let p = pair b k t q.0 q.1 both.0 in
      let more = row_pair b (k + structs_in t) rest r.0 r.1 both.1 in
      let same = same_Some _ fs r.2 in
      let ts = t ∷ row_types rest in
      let z = optional b is_nullable q.0 in (
        subst (λ (gs : List AvroField). PairsTypesOf gs ts) same (optional_types b is_nullable q.0 t p, more.0),
        λ n. subst (λ (gs : List AvroField). PairsTypesOf (named_all n gs) ts) same (optional_named b is_nullable n q.0 t p, more.1 (n + nameless_in z)),
      )

pub serializable_pairs : SerializablePairs
serializable_pairs b null k n t s e h = let p = pair b k t s e h in (optional_types b null s t p, optional_named b null n s t p)

-- ---- the record of columns

abbrev CanAll : List Field → Type 0
CanAll = AllByRecursion (λ f. can_serialize f.data_type ≡ true)

columns_pair : (b : Bool) (k : ℕ) (columns : List Field) (fs : List AvroField) → columns_fields b k columns ≡ Some fs → CanAll columns → PairsColumns fs columns × ((n : ℕ) → PairsColumns (named_all n fs) columns)
columns_pair b k [] fs e h =
    let same = same_Some _ fs e in (subst (λ (gs : List AvroField). PairsColumns gs []) same tt, λ n. subst (λ (gs : List AvroField). PairsColumns (named_all n gs) []) same tt)
columns_pair b k (f ∷ rest) fs e h =
    let q = bind_some (column_schema b k f) (λ s. columns_fields b (k + structs_in f.data_type) rest >>= λ more. Some (plain_field f.name s ∷ more)) fs e in
    let r = bind_some (columns_fields b (k + structs_in f.data_type) rest) (λ more. Some (plain_field f.name q.0 ∷ more)) fs q.2 in
    let made_of = bind_some (schema_of b k f.data_type) (λ s. Some (optional b f.is_nullable s)) q.0 q.1 in
    let p = pair b k f.data_type made_of.0 made_of.1 h.0 in
    let is = same_Some _ q.0 made_of.2 in
    let more = columns_pair b (k + structs_in f.data_type) rest r.0 r.1 h.1 in
    let same = same_Some _ fs r.2 in (
      subst (λ (gs : List AvroField). PairsColumns gs (f ∷ rest)) same (subst (λ z. PairsType z f.data_type) is (optional_types b f.is_nullable made_of.0 f.data_type p), more.0),
      λ n. subst (λ (gs : List AvroField). PairsColumns (named_all n gs) (f ∷ rest)) same
          (subst (λ z. PairsType (named n z) f.data_type) is (optional_named b f.is_nullable n made_of.0 f.data_type p), more.1 (n + nameless_in q.0)),
    )

-- the fields of a record, and those once its fixed types have names
root_fields : (name : List ℕ) (fs : List AvroField) → (out-Record (named_root name (plain_record [] fs))).fields ≡ named_all 0 fs
root_fields name fs = ap (λ o. o.fields) (out-roll-Record _) ∙ named_fields_are 0 [] fs

pub record_pairs : RecordPairs
record_pairs b columns r e h =
    let q = bind_some (columns_fields b 0 columns) (λ fs. Some (plain_record [] fs)) r e in
    let p = columns_pair b 0 columns q.0 q.1 h in
    let same = same_Some _ r q.2 in (
      subst (λ z. PairsColumns (out-Record z).fields columns) same (subst (λ (fs : List AvroField). PairsColumns fs columns) (sym (ap (λ o. o.fields) (out-roll-Record _))) p.0),
      λ name. subst (λ z. PairsColumns (out-Record (named_root name z)).fields columns) same (subst (λ (fs : List AvroField). PairsColumns fs columns) (sym (root_fields name q.0)) (p.1 0)),
    )
