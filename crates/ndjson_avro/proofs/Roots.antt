-- The record of columns that JSON values are read under: rows pair with it, and show no interval.
use Rattle.std.proofs.Common.{◌≡◌, ◌∙◌, inl, inr, ℕ, ◌+◌, Bool, true, false, not, eqb, ◌&&◌, ◌||◌, List, [], ◌∷◌, length, Some, refl, sym, ap, subst}
use Rattle.std.specs.List.{list_any}
use Rattle.std.proofs.lemmas.Bool.{and_parts, false≢true}
use Rattle.std.proofs.lemmas.Option.{none-some, same_Some}
use Rattle.arrow_core.specs.declared.slot.Slot.{Slot}
use Rattle.arrow_core.specs.declared.types.DataType.{DataType, Row_of-Field, end_of-Field, more_of-Field}
use Rattle.arrow_core.specs.declared.types.DataType as types
use Rattle.arrow_core.specs.declared.types.Field.{Field}
use Rattle.arrow_core.specs.declared.types.TimeUnit.TheVariants as unit
use Rattle.arrow_core.specs.declared.types.IntervalUnit.TheVariants as interval
use Rattle.arrow_array.specs.Slots.{is_held}
use Rattle.avro_schema.specs.declared.schema.AvroField.{AvroField}
use Rattle.avro_schema.specs.declared.schema.Record.{Record as TheRecord, out-Record, out-roll-Record}
use Rattle.avro_schema.specs.declared.schema.Schema.{Schema, Null, Long, Record, Array, Union}
use Rattle.avro_schema.specs.AndThen.{◌>>=◌}
use Rattle.avro_schema.specs.Carried.{IsNoUnion}
use Rattle.avro_schema.proofs.Basics.{bind_some}
use Rattle.avro_types.specs.Listed.{named_all}
use Rattle.avro_types.specs.Named.{named, named_record, named_root, nameless_in}
use Rattle.avro_types.specs.Schemas.{column_schema, columns_fields, item_schema, optional, plain_field, plain_record, record_name, row_schemas, schema_of, structs_in, timestamp}
use Rattle.avro_types.proofs.Renamed.{array_named, record_named, union_named}
use Rattle.avro_encode.specs.Listed.{PairsColumns, PairsItemOf, PairsTypesOf}
use Rattle.avro_encode.specs.PairTypes.{PairsType, first_type, row_types}
use Rattle.avro_encode.specs.Plain.{parts_of}
use Rattle.avro_encode.proofs.ByLists.{moved}
use Rattle.avro_encode.proofs.TypesByLists.{array_type_is, record_type_is, struct_is, union_type_is}
use Rattle.avro_write.specs.declared.flaws.Flaw.TheVariants as flaw
use Rattle.avro_write.specs.Flaws.{shows}
use Rattle.avro_write.specs.Shown.{fields_show_of}
use Rattle.avro_write.proofs.Flawed.{of_array, of_null, of_record, of_union}
use Rattle.json_columns.specs.Gathered.{all_have_reading}
use Rattle.json_flat.specs.Reading.{has_reading, have_reading}
use Rattle.json_flat.specs.Reading as reading
use Rattle.json_columns.proofs.ByFields.{struct_readable}
use Rattle.ndjson_avro.specs.Steps.{IsRootOf}
use Rattle.ndjson_avro.specs.Target.{HasTarget}
use Rattle.ndjson_avro.specs.Nulls.{any_holds_null, holds_null, row_holds_null}
use Rattle.ndjson_avro.proofs.NullTypes.{struct_nulls}

or_parts : (a b : Bool) → (a || b) ≡ false → (a ≡ false) × (b ≡ false)
or_parts true b e = absurd (false≢true (sym e))
or_parts false b e = (refl, e)

and_false : (b : Bool) → (b && false) ≡ false
and_false true = refl
and_false false = refl

-- no slot shows an interval that a duration can't hold
abbrev NoInterval : Schema → Type 0
NoInterval s = (x : Slot) → shows flaw.Interval s x ≡ false

-- a null shows none
by_held : (s : Schema) → IsNoUnion s → ((x : Slot) → is_held x ≡ true → shows flaw.Interval s x ≡ false) → NoInterval s
by_held s n h x = from (is_held x) refl
  where
    from : (b : Bool) → is_held x ≡ b → shows flaw.Interval s x ≡ false
    from true e = h x e
    from false e = of_null flaw.Interval s x n e

-- What is known of a type that has a schema and a reading, and holds no Null: once the schema's fixed types have names, the
-- type pairs with it.
record Written (s : Schema) (t : DataType) : Type 0 where
  pub no_union : (n : ℕ) → IsNoUnion (named n s)
  pub pairs : (n : ℕ) → PairsType (named n s) t
  pub clean : (n : ℕ) → NoInterval (named n s)

made : (a s : Schema) (t : DataType) → Some a ≡ Some s → Written a t → Written s t
made a s t e b = subst (λ z. Written z t) (same_Some a s e) b

optional_pairs : (null : Bool) (n : ℕ) (s : Schema) (t : DataType) → Written s t → PairsType (named n (optional true null s)) t
optional_pairs false n s t p = p.pairs n
optional_pairs true n s t p =
    subst (λ z. PairsType z t) (sym (union_named n (Null ∷ s ∷ []))) (moved (sym (union_type_is (Null ∷ named (n + 0) s ∷ []) t)) (inl (tt, p.no_union (n + 0), p.pairs (n + 0))))

optional_clean : (null : Bool) (n : ℕ) (z : Schema) → ((m : ℕ) → NoInterval (named m z)) → NoInterval (named n (optional true null z))
optional_clean false n z h x = h n x
optional_clean true n z h x =
    sym (of_union flaw.Interval (named n (Union (Null ∷ z ∷ []))) (Null ∷ named (n + 0) z ∷ []) (Null ∷ named (n + 0) z ∷ []) x (union_named n (Null ∷ z ∷ [])) refl)
    ∙ ap (λ b. is_held x && b) (h (n + 0) x) ∙ and_false (is_held x)

none_among : (z : Schema) (xs : List Slot) → NoInterval z → list_any (shows flaw.Interval z) xs ≡ false
none_among z [] h = refl
none_among z (x ∷ xs) h = λ i. (h x i || none_among z xs h i)

array_clean : (z : Schema) → ((n : ℕ) → NoInterval (named n z)) → (n : ℕ) → NoInterval (named n (Array z))
array_clean z h n = subst NoInterval (sym (array_named n z)) (by_held (Array (named n z)) tt (λ x held. sym (of_array flaw.Interval (Array (named n z)) (named n z) (named n z) x refl refl held) ∙ none_among (named n z) (parts_of x) (h n)))

named_fields_are : (n : ℕ) (name : List ℕ) (fs : List AvroField) → (out-Record (named_record n (plain_record name fs))).fields ≡ named_all n fs
named_fields_are n name fs =
    ap (λ (r : TheRecord). (out-Record r).fields) (record_named n (plain_record name fs)) ∙ ap (λ o. o.fields) (out-roll-Record _) ∙ ap (named_all n) (ap (λ o. o.fields) (out-roll-Record _))

abbrev FieldsClean : List AvroField → Type 0
FieldsClean fs = (n : ℕ) (xs : List Slot) → fields_show_of flaw.Interval (named_all n fs) xs ≡ false

no_fields : FieldsClean []
no_fields n [] = refl
no_fields n (x ∷ xs) = refl

more_fields : (f : AvroField) (fs : List AvroField) → ((n : ℕ) → NoInterval (named n f.schema)) → FieldsClean fs → FieldsClean (f ∷ fs)
more_fields f fs one more n [] = refl
more_fields f fs one more n (x ∷ xs) = λ i. (one n x i || more (n + nameless_in f.schema) xs i)

record_clean : (name : List ℕ) (fs : List AvroField) → FieldsClean fs → (n : ℕ) → NoInterval (named n (Record (plain_record name fs)))
record_clean name fs h n =
    by_held (Record (named_record n (plain_record name fs))) tt
    (λ x held. sym (of_record flaw.Interval (Record (named_record n (plain_record name fs))) (named_record n (plain_record name fs)) (named_all n fs) x refl (sym (named_fields_are n name fs)) held) ∙ h n (parts_of x))

mutual
  written : (k : ℕ) (t : DataType) (s : Schema) → schema_of true k t ≡ Some s → holds_null t ≡ false → has_reading t ≡ true → Written s t
  written k types.Null s e null h = absurd (false≢true (sym null))
  written k types.Boolean s e null h = made _ s types.Boolean e (record { no_union = λ n. tt; pairs = λ n. refl; clean = λ n x. refl })
  written k types.Int8 s e null h = absurd (none-some s e)
  written k types.Int16 s e null h = absurd (none-some s e)
  written k types.Int32 s e null h = made _ s types.Int32 e (record { no_union = λ n. tt; pairs = λ n. refl; clean = λ n x. refl })
  written k types.Int64 s e null h = made _ s types.Int64 e (record { no_union = λ n. tt; pairs = λ n. refl; clean = λ n x. refl })
  written k types.UInt8 s e null h = absurd (none-some s e)
  written k types.UInt16 s e null h = absurd (none-some s e)
  written k types.UInt32 s e null h = absurd (none-some s e)
  written k types.UInt64 s e null h = absurd (none-some s e)
  written k types.Date32 s e null h = made _ s types.Date32 e (record { no_union = λ n. tt; pairs = λ n. refl; clean = λ n x. refl })
  written k types.Date64 s e null h = absurd (none-some s e)
  written k (types.Time32 unit.Second) s e null h = absurd (none-some s e)
  written k (types.Time32 unit.Millisecond) s e null h = made _ s (types.Time32 unit.Millisecond) e (record { no_union = λ n. tt; pairs = λ n. refl; clean = λ n x. refl })
  written k (types.Time32 unit.Microsecond) s e null h = absurd (none-some s e)
  written k (types.Time32 unit.Nanosecond) s e null h = absurd (none-some s e)
  written k (types.Time64 unit.Second) s e null h = absurd (none-some s e)
  written k (types.Time64 unit.Millisecond) s e null h = absurd (none-some s e)
  written k (types.Time64 unit.Microsecond) s e null h = made _ s (types.Time64 unit.Microsecond) e (record { no_union = λ n. tt; pairs = λ n. refl; clean = λ n x. refl })
  written k (types.Time64 unit.Nanosecond) s e null h = absurd (none-some s e)
  written k (types.Duration u) s e null h = absurd (none-some s e)
  written k (types.Interval interval.YearMonth) s e null h = absurd (none-some s e)
  written k (types.Timestamp u zone) s e null h =
      let q = bind_some (timestamp u zone) (λ logical. Some (Long (Some logical))) s e in
      made _ s (types.Timestamp u zone) q.2 (record { no_union = λ n. tt; pairs = λ n. refl; clean = λ n x. refl })
  written k types.Utf8 s e null h = made _ s types.Utf8 e (record { no_union = λ n. tt; pairs = λ n. inl refl; clean = λ n x. refl })
  written k types.LargeUtf8 s e null h = made _ s types.LargeUtf8 e (record { no_union = λ n. tt; pairs = λ n. inr (refl, refl); clean = λ n x. refl })
  written k types.Binary s e null h = made _ s types.Binary e (record { no_union = λ n. tt; pairs = λ n. inl refl; clean = λ n x. refl })
  written k types.LargeBinary s e null h = made _ s types.LargeBinary e (record { no_union = λ n. tt; pairs = λ n. inr (refl, refl); clean = λ n x. refl })
  written k (types.List' shape item) s e null h =
      let q = bind_some (item_schema true k item) (λ z. Some (Array z)) s e in
      let w = item_written k item q.0 q.1 null h in
      made _ s (types.List' shape item) q.2 (record {
        no_union = λ n. tt;
        pairs = λ n. subst (λ y. PairsType y (types.List' shape item)) (sym (array_named n q.0)) (moved (sym (array_type_is (named n q.0) (types.List' shape item))) (w.0 n));
        clean = array_clean q.0 w.1;
      })
  written k (types.LargeList' shape item) s e null h =
      let q = bind_some (item_schema true k item) (λ z. Some (Array z)) s e in
      let w = item_written k item q.0 q.1 null h in
      made _ s (types.LargeList' shape item) q.2 (record {
        no_union = λ n. tt;
        pairs = λ n. subst (λ y. PairsType y (types.LargeList' shape item)) (sym (array_named n q.0)) (moved (sym (array_type_is (named n q.0) (types.LargeList' shape item))) (w.0 n));
        clean = array_clean q.0 w.1;
      })
  written k (types.FixedSizeList' shape item size) s e null h = absurd (none-some s e)
  written k (types.Dictionary' key shape value is_sorted) s e null h = absurd (none-some s e)
  written k (types.Struct' shape fields) s e null h =
      let q = bind_some (row_schemas true (k + 1) fields) (λ fs. Some (Record (plain_record (record_name (k + 1)) fs))) s e in
      let name = record_name (k + 1) in
      let w = row_written (k + 1) fields q.0 q.1 null (and_parts (reading.has_field fields) (have_reading fields) h).1 in
      made _ s (types.Struct' shape fields) q.2 (record {
        no_union = λ n. tt;
        pairs = λ n. moved (sym (record_type_is (named_record n (plain_record name q.0)) (types.Struct' shape fields))) (subst (λ (fs : List AvroField). PairsTypesOf fs (row_types fields)) (sym (named_fields_are n name q.0)) (w.0 n));
        clean = record_clean name q.0 w.1;
      })
  written k _ s e null h = absurd (false≢true h)

  item_written : {m : _} (k : ℕ) (row : Row_of-Field m) (z : Schema) → item_schema true k row ≡ Some z → row_holds_null row ≡ false → have_reading row ≡ true → ((n : ℕ) → PairsItemOf (named n z) (first_type row)) × ((n : ℕ) → NoInterval (named n z))
  item_written k end_of-Field z e null h = absurd (none-some z e)
  item_written k (more_of-Field name t is_nullable metadata rest) z e null h =
      let q = bind_some (schema_of true k t) (λ y. Some (optional true is_nullable y)) z e in
      let none = or_parts (holds_null t) (row_holds_null rest) null in
      let both = and_parts (has_reading t) (have_reading rest) h in
      let one = written k t q.0 q.1 none.0 both.0 in
      let same = same_Some _ z q.2 in
      (λ n. subst (λ y. PairsType (named n y) t) same (optional_pairs is_nullable n q.0 t one), λ n. subst (λ y. NoInterval (named n y)) same (optional_clean is_nullable n q.0 one.clean))

  row_written : {m : _} (k : ℕ) (row : Row_of-Field m) (fs : List AvroField) → row_schemas true k row ≡ Some fs → row_holds_null row ≡ false → have_reading row ≡ true → ((n : ℕ) → PairsTypesOf (named_all n fs) (row_types row)) × FieldsClean fs
  row_written k end_of-Field fs e null h =
      let same = same_Some [] fs e in (λ n. subst (λ (gs : List AvroField). PairsTypesOf (named_all n gs) []) same tt, subst FieldsClean same no_fields)
  row_written k (more_of-Field name t is_nullable metadata rest) fs e null h =
      let q = bind_some (schema_of true k t) (λ z. row_schemas true (k + structs_in t) rest >>= λ more. Some (plain_field name (optional true is_nullable z) ∷ more)) fs e in
      let r = bind_some (row_schemas true (k + structs_in t) rest) (λ more. Some (plain_field name (optional true is_nullable q.0) ∷ more)) fs q.2 in
      let none = or_parts (holds_null t) (row_holds_null rest) null in
      let both = and_parts (has_reading t) (have_reading rest) h in
      let one = written k t q.0 q.1 none.0 both.0 in
      let more = row_written (k + structs_in t) rest r.0 r.1 none.1 both.1 in
      let same = same_Some _ fs r.2 in
      let z = optional true is_nullable q.0 in
      let ts = t ∷ row_types rest in (
        λ n. subst (λ (gs : List AvroField). PairsTypesOf (named_all n gs) ts) same (optional_pairs is_nullable n q.0 t one, more.0 (n + nameless_in z)),
        subst FieldsClean same (more_fields (plain_field name z) r.0 (λ n. optional_clean is_nullable n q.0 one.clean) more.1),
      )

-- ---- columns

columns_written : (k : ℕ) (columns : List Field) (fs : List AvroField) → columns_fields true k columns ≡ Some fs → any_holds_null columns ≡ false → all_have_reading columns ≡ true → ((n : ℕ) → PairsColumns (named_all n fs) columns) × FieldsClean fs
columns_written k [] fs e null h =
    let same = same_Some [] fs e in (λ n. subst (λ (gs : List AvroField). PairsColumns (named_all n gs) []) same tt, subst FieldsClean same no_fields)
columns_written k (f ∷ rest) fs e null h =
    let q = bind_some (column_schema true k f) (λ s. columns_fields true (k + structs_in f.data_type) rest >>= λ more. Some (plain_field f.name s ∷ more)) fs e in
    let r = bind_some (columns_fields true (k + structs_in f.data_type) rest) (λ more. Some (plain_field f.name q.0 ∷ more)) fs q.2 in
    let p = bind_some (schema_of true k f.data_type) (λ s. Some (optional true f.is_nullable s)) q.0 q.1 in
    let none = or_parts (holds_null f.data_type) (any_holds_null rest) null in
    let both = and_parts (has_reading f.data_type) (all_have_reading rest) h in
    let one = written k f.data_type p.0 p.1 none.0 both.0 in
    let is = same_Some _ q.0 p.2 in
    let more = columns_written (k + structs_in f.data_type) rest r.0 r.1 none.1 both.1 in
    let same = same_Some _ fs r.2 in (
      λ n. subst (λ (gs : List AvroField). PairsColumns (named_all n gs) (f ∷ rest)) same
          (subst (λ z. PairsType (named n z) f.data_type) is (optional_pairs f.is_nullable n p.0 f.data_type one), more.0 (n + nameless_in q.0)),
      subst FieldsClean same (more_fields (plain_field f.name q.0) r.0 (λ n. subst (λ z. NoInterval (named n z)) is (optional_clean f.is_nullable n p.0 one.clean)) more.1),
    )

-- the fields of a record of columns, once it has a name and its fixed types have names
root_fields : (name : List ℕ) (fs : List AvroField) → (out-Record (named_root name (plain_record [] fs))).fields ≡ named_all 0 fs
root_fields name fs = ap (λ o. o.fields) (out-roll-Record _) ∙ named_fields_are 0 [] fs

pub is_root : (fields : List Field) (name : List ℕ) (target : TheRecord) → HasTarget fields name target → IsRootOf (Record target) (types.Struct fields)
is_root fields name target h =
    let q = bind_some (columns_fields true 0 fields) (λ fs. Some (plain_record [] fs)) h.nameless h.recorded in
    let readable = and_parts (not (eqb (length fields) 0)) (all_have_reading fields) (sym (struct_readable fields) ∙ h.readable) in
    let w = columns_written 0 fields q.0 q.1 (sym (struct_nulls fields) ∙ h.no_null) readable.1 in
    let is : named_root name (plain_record [] q.0) ≡ target = ap (named_root name) (same_Some _ h.nameless q.2) ∙ sym h.named in
    let root = named_root name (plain_record [] q.0) in
    let are : (out-Record root).fields ≡ named_all 0 q.0 = root_fields name q.0 in
    subst (λ z. IsRootOf (Record z) (types.Struct fields)) is (record {
      distinct = h.distinct;
      readable = h.readable;
      pairs = moved (sym (record_type_is root (types.Struct fields) ∙ struct_is (out-Record root).fields fields)) (subst (λ (fs : List AvroField). PairsColumns fs fields) (sym are) (w.0 0));
      no_interval = by_held (Record root) tt (λ x held. sym (of_record flaw.Interval (Record root) root (named_all 0 q.0) x refl (sym are) held) ∙ w.1 0 (parts_of x));
    })
