-- The record of the columns of a record that was read: its text is UTF-8, as the text that was read is, and no part of it
-- stands in more brackets than the part of that text which it comes from.
use Rattle.std.proofs.Common.{◌≡◌, ◌∙◌, ℕ, zero, suc, ◌≤◌, Bool, true, false, ◌&&◌, cond, not, List, [], ◌∷◌, map, codes, Option, Some, None, IfSome, option_and_then, refl, sym, ap, subst, arith}
use Rattle.std.specs.Prelude.{unwrap_or}
use Rattle.std.specs.List.{AllByRecursion}
use Rattle.std.specs.Str.{IsUtf8, bytes_eq}
use Rattle.std.proofs.lemmas.Bool.{and_parts}
use Rattle.std.proofs.lemmas.Option.{none-some, same_Some}
use Rattle.arrow_core.specs.declared.types.DataType.{DataType}
use Rattle.arrow_core.specs.declared.types.DataType as types
use Rattle.arrow_core.specs.declared.types.Field.{Field}
use Rattle.json_tree.specs.Tree.{Json}
use Rattle.json_tree.specs.Keys.{value_of}
use Rattle.json_tree.specs.declared.value.Object.{Object as Attributes}
use Rattle.json_tree.specs.declared.value.Value.{Value, Value-F, out-Value}
use Rattle.json_tree.specs.declared.value.Value.TheOpen as json
use Rattle.avro_schema.specs.declared.schema.AvroField.{AvroField}
use Rattle.avro_schema.specs.declared.schema.BytesLogical.TheVariants as bytes
use Rattle.avro_schema.specs.declared.schema.Enum.{Enum as TheEnum}
use Rattle.avro_schema.specs.declared.schema.FixedLogical.{FixedLogical}
use Rattle.avro_schema.specs.declared.schema.FixedLogical.TheVariants as fixed
use Rattle.avro_schema.specs.declared.schema.IntLogical.{IntLogical}
use Rattle.avro_schema.specs.declared.schema.IntLogical.TheVariants as int
use Rattle.avro_schema.specs.declared.schema.LongLogical.{LongLogical}
use Rattle.avro_schema.specs.declared.schema.LongLogical.TheVariants as long
use Rattle.avro_schema.specs.declared.schema.Record.{Record as TheRecord, Record-F, out-Record, out-roll-Record, roll-Record}
use Rattle.avro_schema.specs.declared.schema.Schema.{Schema, Null, Boolean, Int, Long, Float, Double, Bytes, String, Record, Enum, Array, Map, Union, Fixed}
use Rattle.avro_schema.specs.declared.schema.StringLogical.{StringLogical}
use Rattle.avro_schema.specs.AndThen.{◌>>=◌}
use Rattle.avro_schema.specs.Encodes.{is_null}
use Rattle.avro_schema.specs.Inferred.{column_field, columns_of, inferred, inferred_columns, is_item, item_name, own_doc}
use Rattle.avro_schema.specs.TypeLaws.{inferred_member_of}
use Rattle.avro_schema.specs.Types.{fixed_type, int_type, is_union, long_type, symbol_type}
use Rattle.avro_schema.proofs.Basics.{bind_some}
use Rattle.avro_schema.proofs.InferredLemmas.{inferred_composites}
use Rattle.avro_file.specs.Attributes.{attribute, attributes_in, attributes_of, count_at, items_at, items_in, items_of, string_at, string_in, string_of}
use Rattle.avro_file.specs.Outcome.{Outcome, each, found, need, reference, then_for, wrong}
use Rattle.avro_file.specs.Reading.{IsSchemaText, enum_of, field, fixed_of, inner_at, named, named_by, of_layer, of_object, of_type, one_schema, reading, record_of, strings, typed, typed_as}
use Rattle.avro_file.specs.Types.{bytes_logical, decimal_of, fixed_logical, int_logical, logical_name, long_logical, primitives, string_logical}
use Rattle.avro_types.specs.Listed.{HasNoFields}
use Rattle.avro_types.proofs.ByFields.{list_schema}
use Rattle.arrow_convert.specs.Brackets.{flat_brackets}
use Rattle.arrow_convert.proofs.ReadNumbers.{OfFound, fixed_made, looked_up, of_needed, of_one_more, of_then}
use Rattle.arrow_convert.proofs.Standing.{AllStand, Holds, HoldsBare, Stands, ValuesStand, stands_bare, stands_hold, string_held, value_stands, whole_stands}
use Rattle.arrow_convert.proofs.WrittenColumns.{AreFieldsIn, ColumnIn, IsFieldIn, IsWrittenIn, flat_written, listed_written, struct_written}

-- ---- the types that a schema gives

-- the column of the schema, if it has one, nests at most d deep
abbrev Gives : ℕ → Schema → Type 0
Gives d s = (t : DataType) → inferred s ≡ Some t → ColumnIn (is_union s) d t

-- the same of a field, which stands in brackets of its own
abbrev GivesField : ℕ → AvroField → Type 0
GivesField zero g = ⊥
GivesField (suc d) g = IsUtf8 g.name × Gives d g.schema

abbrev FieldsGive : ℕ → List AvroField → Type 0
FieldsGive m = AllByRecursion (GivesField m)

-- a schema that is no union gives this one type
gives : (d : ℕ) (s : Schema) (a : DataType) → is_union s ≡ false → inferred s ≡ Some a → IsWrittenIn d a → Gives d s
gives d s a no_union is h t e = subst (λ (b : Bool). ColumnIn b d t) (sym no_union) (subst (IsWrittenIn d) (same_Some a t (sym is ∙ e)) h)

flat_gives : (d : ℕ) (s : Schema) (a : DataType) → is_union s ≡ false → inferred s ≡ Some a → HasNoFields a → flat_brackets a ≤ d → Gives d s
flat_gives d s a no_union is none l = gives d s a no_union is (flat_written d a none l)

-- a type without fields whose schema stands in a bracket
one_flat : (d : ℕ) (s : Schema) (a : DataType) → is_union s ≡ false → inferred s ≡ Some a → HasNoFields a → flat_brackets a ≤ 1 → Gives (suc d) s
one_flat d s a no_union is none l = flat_gives (suc d) s a no_union is none (omega (arith, l))

int_gives : (d : ℕ) (logical : Option IntLogical) → Gives (suc d) (Int logical)
int_gives d None = one_flat d (Int None) (int_type None) refl refl tt (omega arith)
int_gives d (Some int.Date) = one_flat d (Int (Some int.Date)) (int_type (Some int.Date)) refl refl tt (omega arith)
int_gives d (Some int.Time) = one_flat d (Int (Some int.Time)) (int_type (Some int.Time)) refl refl tt (omega arith)

long_gives : (d : ℕ) (logical : Option LongLogical) → Gives (suc d) (Long logical)
long_gives d None = one_flat d (Long None) (long_type None) refl refl tt (omega arith)
long_gives d (Some long.Time) = one_flat d (Long (Some long.Time)) (long_type (Some long.Time)) refl refl tt (omega arith)
long_gives d (Some long.TimestampMillis) = one_flat d (Long (Some long.TimestampMillis)) (long_type (Some long.TimestampMillis)) refl refl tt (omega arith)
long_gives d (Some long.TimestampMicros) = one_flat d (Long (Some long.TimestampMicros)) (long_type (Some long.TimestampMicros)) refl refl tt (omega arith)
long_gives d (Some long.TimestampNanos) = one_flat d (Long (Some long.TimestampNanos)) (long_type (Some long.TimestampNanos)) refl refl tt (omega arith)
long_gives d (Some long.LocalTimestampMillis) = one_flat d (Long (Some long.LocalTimestampMillis)) (long_type (Some long.LocalTimestampMillis)) refl refl tt (omega arith)
long_gives d (Some long.LocalTimestampMicros) = one_flat d (Long (Some long.LocalTimestampMicros)) (long_type (Some long.LocalTimestampMicros)) refl refl tt (omega arith)
long_gives d (Some long.LocalTimestampNanos) = one_flat d (Long (Some long.LocalTimestampNanos)) (long_type (Some long.LocalTimestampNanos)) refl refl tt (omega arith)

string_gives : (d : ℕ) (logical : Option StringLogical) → Gives d (String logical)
string_gives d logical = flat_gives d (String logical) types.Utf8 refl refl tt (omega arith)

plain_gives : (d : ℕ) → Gives d (Bytes None)
plain_gives d = flat_gives d (Bytes None) types.Binary refl refl tt (omega arith)

bytes_give : (d : ℕ) (o : Attributes) → Gives (suc d) (Bytes (bytes_logical o))
unfolding bytes_logical
bytes_give d o = by (bytes_eq (logical_name o) (codes "decimal")) (decimal_of o)
  where
    by : (b : Bool) (digits : Option (ℕ × ℕ)) → Gives (suc d) (Bytes (cond b (option_and_then (λ p. Some (bytes.Decimal p.0 p.1)) digits) None))
    by true None = plain_gives (suc d)
    by true (Some p) = one_flat d (Bytes (Some (bytes.Decimal p.0 p.1))) (types.Decimal p.0 p.1) refl refl tt (omega arith)
    by false digits = plain_gives (suc d)

fixed_gives : (d : ℕ) (name : List ℕ) (size : ℕ) (o : Attributes) → Gives (suc d) (Fixed (fixed_made name size o))
fixed_gives d name size o = gives (suc d) (Fixed (fixed_made name size o)) (fixed_type size (fixed_logical size o)) refl refl (by (fixed_logical size o))
  where
    by : (logical : Option FixedLogical) → IsWrittenIn (suc d) (fixed_type size logical)
    by None = flat_written (suc d) (types.FixedSizeBinary size) tt (omega arith)
    by (Some (fixed.Decimal precision scale)) = flat_written (suc d) (types.Decimal precision scale) tt (omega arith)
    by (Some fixed.Duration) = flat_written (suc d) (fixed_type size (Some fixed.Duration)) tt (omega arith)

-- a column as its field says it
column_in : (d : ℕ) (name : List ℕ) (doc : Option (List ℕ)) (s : Schema) (t : DataType) → ColumnIn (is_union s) d t → ColumnIn (column_field name doc s t).is_nullable d (column_field name doc s t).data_type
column_in d name None s t h = h
column_in d name (Some doc) s t h = h

column_name : (name : List ℕ) (doc : Option (List ℕ)) (s : Schema) (t : DataType) → name ≡ (column_field name doc s t).name
column_name name None s t = refl
column_name name (Some doc) s t = refl

array_gives : (d : ℕ) (s : Schema) → Gives d s → Gives (suc d) (Array s)
array_gives d s one t e =
    let q = bind_some (inferred s) (λ u. Some (column_field item_name None s u) >>= λ f. Some (types.List f)) t (sym (inferred_composites.array s) ∙ e) in
    let f = column_field item_name None s q.0 in
    subst (IsWrittenIn (suc d)) (same_Some (types.List f) t q.2) (listed_written d (types.List f) f (λ k. list_schema true k f) (one q.0 q.1))

-- an item of a union is no union
item_alone : (s : Schema) → is_item s ≡ true → is_union s ≡ false
item_alone s h = by (is_union s) (and_parts (not (is_null s)) (not (is_union s)) h).1
  where
    by : (b : Bool) → not b ≡ true → b ≡ false
    by true e = sym e
    by false e = refl

item_gives : (d : ℕ) (s : Schema) → Gives d s → is_item s ≡ true → (t : DataType) → inferred s ≡ Some t → IsWrittenIn d t
item_gives d s g item t e = subst (λ (b : Bool). ColumnIn b d t) (item_alone s item) (g t e)

members_give : (d : ℕ) (ms : List Schema) → AllByRecursion (Gives d) ms → (t : DataType) → inferred_member_of ms ≡ Some t → IsWrittenIn d t
members_give d [] all t e = absurd (none-some t e)
members_give d (s ∷ []) all t e = absurd (none-some t e)
members_give d (s ∷ u ∷ []) all t e = by (is_null s && is_item u) (is_item s && is_null u) refl refl e
  where
    by : (a b : Bool) → (is_null s && is_item u) ≡ a → (is_item s && is_null u) ≡ b → cond a (inferred u) (cond b (inferred s) None) ≡ Some t → IsWrittenIn d t
    by true b p q e = item_gives d u all.1.0 (and_parts (is_null s) (is_item u) p).1 t e
    by false true p q e = item_gives d s all.0 (and_parts (is_item s) (is_null u) q).0 t e
    by false false p q e = absurd (none-some t e)
members_give d (s ∷ u ∷ v ∷ more) all t e = absurd (none-some t e)

-- the types of columns, whatever their docs
columns_give : (m : ℕ) (doc : AvroField → Option (List ℕ)) (gs : List AvroField) → FieldsGive m gs → (fs : List Field) → columns_of doc gs ≡ Some fs → AreFieldsIn m fs
columns_give m doc [] all fs e = subst (AreFieldsIn m) (same_Some [] fs e) tt
columns_give m doc (g ∷ gs) all fs e =
    let one = bind_some (inferred g.schema) (λ t. columns_of doc gs >>= λ more. Some (column_field g.name (doc g) g.schema t ∷ more)) fs e in
    let two = bind_some (columns_of doc gs) (λ more. Some (column_field g.name (doc g) g.schema one.0 ∷ more)) fs one.2 in
    subst (AreFieldsIn m) (same_Some (column_field g.name (doc g) g.schema one.0 ∷ two.0) fs two.2) (in_brackets m all.0 one.0 one.1, columns_give m doc gs all.1 two.0 two.1)
  where
    in_brackets : (n : ℕ) → GivesField n g → (t : DataType) → inferred g.schema ≡ Some t → IsFieldIn n (column_field g.name (doc g) g.schema t)
    in_brackets zero h t is = absurd h
    in_brackets (suc d) h t is = (subst IsUtf8 (column_name g.name (doc g) g.schema t) h.0, column_in d g.name (doc g) g.schema t (h.1 t is))

record_gives : (m : ℕ) (r : TheRecord) → FieldsGive m (out-Record r).fields → Gives (suc (suc m)) (Record r)
record_gives m r all t e =
    let q = bind_some (columns_of (λ a. a.doc) (out-Record r).fields) (λ fs. Some (types.Struct fs)) t (sym (inferred_composites.fields r) ∙ e) in
    subst (IsWrittenIn (suc (suc m))) (same_Some (types.Struct q.0) t q.2) (struct_written m q.0 (columns_give m (λ a. a.doc) (out-Record r).fields all q.0 q.1))

-- ---- what is known of a schema that was read

-- the fields of a record, which stand in two brackets
abbrev RecordFields : ℕ → TheRecord → Type 0
RecordFields (suc (suc m)) r = FieldsGive m (out-Record r).fields
RecordFields _ r = ⊥

abbrev FieldsOf : ℕ → Schema → Type 0
FieldsOf d (Record r) = RecordFields d r
FieldsOf d _ = Unit {0}

record IsRead (d : ℕ) (s : Schema) : Type 0 where
  own : Gives d s
  fields : FieldsOf d s

alone : (d : ℕ) (s : Schema) → FieldsOf d s → Gives d s → IsRead d s
alone d s none h = record { own = h; fields = none }

array_is : (d : ℕ) (s : Schema) → Gives d s → IsRead (suc d) (Array s)
array_is d s h = alone (suc d) (Array s) tt (array_gives d s h)

map_is : (d : ℕ) (s : Schema) → IsRead d (Map s)
map_is d s = alone d (Map s) tt (λ t e. absurd (none-some t e))

union_is : (d : ℕ) (ms : List Schema) → AllByRecursion (Gives d) ms → IsRead (suc d) (Union ms)
union_is d ms all = alone (suc d) (Union ms) tt (λ t e. members_give d ms all t (sym (inferred_composites.union ms) ∙ e))

record_is : (m : ℕ) (x : Record-F Schema AvroField TheRecord) → FieldsGive m x.fields → IsRead (suc (suc m)) (Record (roll-Record x))
record_is m x h =
    let all : FieldsGive m (out-Record (roll-Record x)).fields = subst (FieldsGive m) (sym (ap (λ o. o.fields) (out-roll-Record x))) h in
    record { own = record_gives m (roll-Record x) all; fields = all }

enum_is : (d : ℕ) (e : TheEnum) → IsRead d (Enum e)
enum_is d e = alone d (Enum e) tt (flat_gives d (Enum e) symbol_type refl refl tt (omega arith))

-- ---- reading

primitive_reads : (d : ℕ) → AllByRecursion (λ (entry : List ℕ × Schema). IsRead d entry.1) primitives
primitive_reads d = (
  alone d Null tt (flat_gives d Null types.Null refl refl tt (omega arith)),
  (
    alone d Boolean tt (flat_gives d Boolean types.Boolean refl refl tt (omega arith)),
    (
      alone d (Int None) tt (flat_gives d (Int None) (int_type None) refl refl tt (omega arith)),
      (
        alone d (Long None) tt (flat_gives d (Long None) (long_type None) refl refl tt (omega arith)),
        (
          alone d Float tt (flat_gives d Float types.Float32 refl refl tt (omega arith)),
          (alone d Double tt (flat_gives d Double types.Float64 refl refl tt (omega arith)), (alone d (Bytes None) tt (plain_gives d), (alone d (String None) tt (string_gives d None), tt))),
        ),
      ),
    ),
  ),
)

named_reads : (d : ℕ) (name : List ℕ) → OfFound (IsRead d) (named name)
unfolding named
named_reads d name = by (value_of name primitives) (looked_up (IsRead d) name primitives (primitive_reads d))
  where
    by : (s : Option Schema) → IfSome s (IsRead d) → OfFound (IsRead d) (named_by s)
    by None h = tt
    by (Some s) h = h

enum_reads : (d : ℕ) (o : Attributes) → OfFound (IsRead d) (enum_of o)
unfolding enum_of
enum_reads d o =
    of_needed (IsRead d) _ (string_at (codes "name") o) (λ name _. of_needed (IsRead d) _ (items_at (codes "symbols") o) (λ items _.
    of_then (λ _. Unit {0}) (IsRead d) _ (λ symbols _. enum_is d _) (strings items) (anything (strings items))))
  where
    anything : {A : Type 0} (o : Outcome A) → OfFound (λ _. Unit {0}) o
    anything wrong = tt
    anything reference = tt
    anything (found x) = tt

fixed_reads : (d : ℕ) (o : Attributes) → OfFound (IsRead (suc d)) (fixed_of o)
unfolding fixed_of
fixed_reads d o =
    of_needed (IsRead (suc d)) _ (string_at (codes "name") o) (λ name _. of_needed (IsRead (suc d)) _ (count_at (codes "size") o) (λ size e.
    alone (suc d) (Fixed (fixed_made name size o)) tt (fixed_gives d name size o)))

-- the attribute that is a string
string_there : (d : ℕ) (key : List ℕ) (o : Attributes) (text : List ℕ) → ValuesStand d o.members → string_at key o ≡ Some text → IsUtf8 text
unfolding string_of
string_there d key o text all e = at (value_of key o.members) refl e
  where
    in_layer : (v : Json) → Stands d v → (y : Value-F Value Attributes) → out-Value v ≡ y → string_in y ≡ Some text → IsUtf8 text
    in_layer v w (json.String held) is e = subst IsUtf8 (same_Some held text e) (string_held d v w held is)
    in_layer v w json.Null is e = absurd (none-some text e)
    in_layer v w (json.Bool b) is e = absurd (none-some text e)
    in_layer v w (json.Number n) is e = absurd (none-some text e)
    in_layer v w (json.Array xs) is e = absurd (none-some text e)
    in_layer v w (json.Object o) is e = absurd (none-some text e)

    at : (v : Option Json) → value_of key o.members ≡ v → option_and_then (λ x. string_in (out-Value x)) v ≡ Some text → IsUtf8 text
    at None p e = absurd (none-some text e)
    at (Some v) p e = in_layer v (value_stands d o.members key v all p) (out-Value v) refl e

-- the items of an attribute that is an array, which stand in one bracket more
record Items (d : ℕ) (items : List Json) : Type 0 where
  below : ℕ
  is : d ≡ suc below
  stand : AllStand below items

items_there : (d : ℕ) (key : List ℕ) (o : Attributes) (items : List Json) → ValuesStand d o.members → items_at key o ≡ Some items → Items d items
unfolding items_of
items_there d key o items all e = at (value_of key o.members) refl e
  where
    in_bare : (y : Value-F Value Attributes) → HoldsBare y → items_in y ≡ Some items → Items d items
    in_bare (json.Array xs) h e = absurd h
    in_bare json.Null h e = absurd (none-some items e)
    in_bare (json.Bool b) h e = absurd (none-some items e)
    in_bare (json.Number n) h e = absurd (none-some items e)
    in_bare (json.String text) h e = absurd (none-some items e)
    in_bare (json.Object o) h e = absurd (none-some items e)

    in_layer : (m : ℕ) → d ≡ suc m → (y : Value-F Value Attributes) → Holds m y → items_in y ≡ Some items → Items d items
    in_layer m is (json.Array xs) h e = record { below = m; is = is; stand = subst (AllStand m) (same_Some xs items e) h }
    in_layer m is json.Null h e = absurd (none-some items e)
    in_layer m is (json.Bool b) h e = absurd (none-some items e)
    in_layer m is (json.Number n) h e = absurd (none-some items e)
    in_layer m is (json.String text) h e = absurd (none-some items e)
    in_layer m is (json.Object o) h e = absurd (none-some items e)

    by_depth : (n : ℕ) → d ≡ n → (v : Json) → Stands d v → items_in (out-Value v) ≡ Some items → Items d items
    by_depth zero is v w e = in_bare (out-Value v) (stands_bare v (subst (λ (k : ℕ). Stands k v) is w)) e
    by_depth (suc m) is v w e = in_layer m is (out-Value v) (stands_hold m v (subst (λ (k : ℕ). Stands k v) is w)) e

    at : (v : Option Json) → value_of key o.members ≡ v → option_and_then (λ x. items_in (out-Value x)) v ≡ Some items → Items d items
    at None p e = absurd (none-some items e)
    at (Some v) p e = by_depth d refl v (value_stands d o.members key v all p) e

-- of all that stand so deep
each_stand : {A : Type 0} (d : ℕ) (P : A → Type 0) (f : Json → Outcome A) → ((x : Json) → Stands d x → OfFound P (f x)) → (xs : List Json) → AllStand d xs → OfFound (AllByRecursion P) (each (map f xs))
each_stand d P f h [] all = tt
each_stand d P f h (x ∷ xs) all = of_one_more P (f x) (each (map f xs)) (h x all.0) (each_stand d P f h xs all.1)

module _ (inner : Json → Outcome Schema) (reads : (d : ℕ) (value : Json) → Stands d value → OfFound (IsRead d) (inner value)) where
  inner_gives : (d : ℕ) (value : Json) → Stands d value → OfFound (Gives d) (inner value)
  inner_gives d value w = by (inner value) (reads d value w)
    where
      by : (o : Outcome Schema) → OfFound (IsRead d) o → OfFound (Gives d) o
      by wrong h = tt
      by reference h = tt
      by (found s) h = h.own

  field_reads : (m : ℕ) (value : Json) → Stands m value → OfFound (GivesField m) (field inner value)
  unfolding field attributes_of
  field_reads zero value w = at (out-Value value) (stands_bare value w)
    where
      at : (y : Value-F Value Attributes) → HoldsBare y
          → OfFound (GivesField zero) (need (attributes_in y) (λ o. need (string_at (codes "name") o) (λ name. need (attribute (codes "type") o) (λ type.
          then_for (λ s. record { name = name; doc = string_at (codes "doc") o; schema = s }) (inner type)))))
      at (json.Object o) h = absurd h
      at json.Null h = tt
      at (json.Bool b) h = tt
      at (json.Number n) h = tt
      at (json.String text) h = tt
      at (json.Array items) h = absurd h
  field_reads (suc d) value w = at (out-Value value) (stands_hold d value w)
    where
      at : (y : Value-F Value Attributes) → Holds d y
          → OfFound (GivesField (suc d)) (need (attributes_in y) (λ o. need (string_at (codes "name") o) (λ name. need (attribute (codes "type") o) (λ type.
          then_for (λ s. record { name = name; doc = string_at (codes "doc") o; schema = s }) (inner type)))))
      at (json.Object o) h =
          of_needed (GivesField (suc d)) _ (string_at (codes "name") o) (λ name e. of_needed (GivesField (suc d)) _ (attribute (codes "type") o) (λ type is.
          of_then (Gives d) (GivesField (suc d)) _ (λ s g. (string_there d (codes "name") o name h e, g)) (inner type) (inner_gives d type (value_stands d o.members (codes "type") type h is))))
      at json.Null h = tt
      at (json.Bool b) h = tt
      at (json.Number n) h = tt
      at (json.String text) h = tt
      at (json.Array items) h = tt

  record_reads : (d : ℕ) (o : Attributes) → ValuesStand d o.members → OfFound (IsRead (suc d)) (record_of inner o)
  unfolding record_of
  record_reads d o all =
      of_needed (IsRead (suc d)) _ (string_at (codes "name") o) (λ name _. of_needed (IsRead (suc d)) _ (items_at (codes "fields") o) (λ items e.
      let there = items_there d (codes "fields") o items all e in
      subst (λ (n : ℕ). OfFound (IsRead (suc n)) (then_for (λ fields. Record (roll-Record (record { name = name; namespace = string_at (codes "namespace") o; doc = string_at (codes "doc") o; fields = fields }))) (each (map (field inner) items)))) (sym there.is)
      (of_then (FieldsGive there.below) (IsRead (suc (suc there.below))) (λ fields. Record (roll-Record (record { name = name; namespace = string_at (codes "namespace") o; doc = string_at (codes "doc") o; fields = fields })))
      (λ fields h. record_is there.below _ h) (each (map (field inner) items)) (each_stand there.below (GivesField there.below) (field inner) (field_reads there.below) items there.stand))))

  inner_reads : (d : ℕ) (key : List ℕ) (o : Attributes) → ValuesStand d o.members → OfFound (Gives d) (inner_at inner key o)
  unfolding inner_at
  inner_reads d key o all = of_needed (Gives d) inner (attribute key o) (λ value e. inner_gives d value (value_stands d o.members key value all e))

  typed_reads : (d : ℕ) (o : Attributes) → ValuesStand d o.members → AllByRecursion (λ (entry : List ℕ × Outcome Schema). OfFound (IsRead (suc d)) entry.1) (typed inner o)
  unfolding typed
  typed_reads d o all = (
    record_reads d o all,
    (
      enum_reads (suc d) o,
      (
        of_then (Gives d) (IsRead (suc d)) Array (array_is d) (inner_at inner (codes "items") o) (inner_reads d (codes "items") o all),
        (
          of_then (Gives d) (IsRead (suc d)) Map (λ s _. map_is (suc d) s) (inner_at inner (codes "values") o) (inner_reads d (codes "values") o all),
          (
            fixed_reads d o,
            (
              alone (suc d) (Int (int_logical o)) tt (int_gives d (int_logical o)),
              (
                alone (suc d) (Long (long_logical o)) tt (long_gives d (long_logical o)),
                (alone (suc d) (Bytes (bytes_logical o)) tt (bytes_give d o), (alone (suc d) (String (string_logical o)) tt (string_gives (suc d) (string_logical o)), tt)),
              ),
            ),
          ),
        ),
      ),
    ),
  )

  typed_as_reads : (d : ℕ) (o : Attributes) (name : List ℕ) → ValuesStand d o.members → OfFound (IsRead (suc d)) (typed_as inner o name)
  unfolding typed_as
  typed_as_reads d o name all = by (value_of name (typed inner o)) (looked_up (OfFound (IsRead (suc d))) name (typed inner o) (typed_reads d o all))
    where
      by : (v : Option (Outcome Schema)) → IfSome v (OfFound (IsRead (suc d))) → OfFound (IsRead (suc d)) (unwrap_or v (named name))
      by None h = named_reads (suc d) name
      by (Some v) h = h

  -- a schema that is given within an object is what the object is
  type_reads : (d : ℕ) (o : Attributes) (value : Json) → ValuesStand d o.members → Stands d value → OfFound (IsRead (suc d)) (of_type inner o value (out-Value value))
  type_reads d o value all w = by (out-Value value)
    where
      lifted : Stands (suc d) value
      lifted = (w.0, omega (arith, w.1), w.2, w.3, w.4)

      by : (l : Value-F Value Attributes) → OfFound (IsRead (suc d)) (of_type inner o value l)
      by (json.String name) = typed_as_reads d o name all
      by (json.Array items) = reads (suc d) value lifted
      by (json.Object more) = reads (suc d) value lifted
      by _ = tt

  object_reads : (d : ℕ) (o : Attributes) → ValuesStand d o.members → OfFound (IsRead (suc d)) (of_object inner o)
  unfolding of_object
  object_reads d o all =
      of_needed (IsRead (suc d)) (λ value. of_type inner o value (out-Value value)) (attribute (codes "type") o) (λ value e. type_reads d o value all (value_stands d o.members (codes "type") value all e))

  layer_reads : (d : ℕ) (l : Value-F Value Attributes) → Holds d l → OfFound (IsRead (suc d)) (of_layer inner l)
  layer_reads d (json.String name) h = named_reads (suc d) name
  layer_reads d (json.Array items) h = of_then (AllByRecursion (Gives d)) (IsRead (suc d)) Union (union_is d) (each (map inner items)) (each_stand d (Gives d) inner (inner_gives d) items h)
  layer_reads d (json.Object o) h = object_reads d o h
  layer_reads d json.Null h = tt
  layer_reads d (json.Bool b) h = tt
  layer_reads d (json.Number n) h = tt

  bare_reads : (l : Value-F Value Attributes) → HoldsBare l → OfFound (IsRead zero) (of_layer inner l)
  bare_reads (json.String name) h = named_reads zero name
  bare_reads (json.Array items) h = absurd h
  bare_reads (json.Object o) h = absurd h
  bare_reads json.Null h = tt
  bare_reads (json.Bool b) h = tt
  bare_reads (json.Number n) h = tt

schema_reads : (depth d : ℕ) (value : Json) → Stands d value → OfFound (IsRead d) (reading depth value)
unfolding reading one_schema
schema_reads zero d value w = tt
schema_reads (suc depth) zero value w = bare_reads (reading depth) (schema_reads depth) (out-Value value) (stands_bare value w)
schema_reads (suc depth) (suc d) value w = layer_reads (reading depth) (schema_reads depth) d (out-Value value) (stands_hold d value w)

-- the columns of a record that a text stands for
pub columns_written : (text : List ℕ) (root : TheRecord) (columns : List Field) → IsSchemaText text (Record root) → inferred_columns (out-Record root).fields ≡ Some columns → AreFieldsIn 126 columns
columns_written text root columns h e =
    let read : IsRead 128 (Record root) = subst (OfFound (IsRead 128)) h.2 (schema_reads 129 128 h.0 (whole_stands h.0 text h.1)) in
    columns_give 126 own_doc (out-Record root).fields read.fields columns e
