-- A text gives sizes up to 2147483647 alone, and decimals as the standard has them; the columns of a record that was read have
-- no others.
use Rattle.std.proofs.Common.{◌≡◌, ◌∙◌, ℕ, zero, suc, Bool, true, false, ◌&&◌, ◌==◌, cond, nat_lt, nat_le, List, [], ◌∷◌, length, map, codes, Option, Some, None, IfSome, option_and_then, refl, sym, ap, subst}
use Rattle.std.specs.List.{AllByRecursion, list_all}
use Rattle.std.specs.Prelude.{unwrap_or}
use Rattle.std.specs.Char.{is_digit}
use Rattle.std.specs.Str.{bytes_eq}
use Rattle.std.specs.Str.Parse.{digits_value}
use Rattle.std.proofs.lemmas.Bool.{and_parts}
use Rattle.std.proofs.lemmas.Option.{none-some, same_Some}
use Rattle.arrow_core.specs.declared.types.DataType.{DataType}
use Rattle.arrow_core.specs.declared.types.DataType as types
use Rattle.arrow_core.specs.declared.types.Field.{Field}
use Rattle.arrow_core.specs.declared.types.IntervalUnit.TheVariants as interval
use Rattle.json_tree.specs.Tree.{Json}
use Rattle.json_tree.specs.Keys.{value_of}
use Rattle.json_tree.specs.declared.value.Number.{Number}
use Rattle.json_tree.specs.declared.value.Number.TheVariants as number
use Rattle.json_tree.specs.declared.value.Object.{Object as Attributes}
use Rattle.json_tree.specs.declared.value.Value.{Value, Value-F, out-Value}
use Rattle.json_tree.specs.declared.value.Value.TheOpen as json
use Rattle.avro_schema.specs.declared.schema.AvroField.{AvroField}
use Rattle.avro_schema.specs.declared.schema.BytesLogical.TheVariants as bytes
use Rattle.avro_schema.specs.declared.schema.Enum.{Enum as TheEnum}
use Rattle.avro_schema.specs.declared.schema.Fixed.{Fixed as TheFixed}
use Rattle.avro_schema.specs.declared.schema.FixedLogical.{FixedLogical}
use Rattle.avro_schema.specs.declared.schema.FixedLogical.TheVariants as fixed
use Rattle.avro_schema.specs.declared.schema.IntLogical.{IntLogical}
use Rattle.avro_schema.specs.declared.schema.IntLogical.TheVariants as int
use Rattle.avro_schema.specs.declared.schema.LongLogical.{LongLogical}
use Rattle.avro_schema.specs.declared.schema.LongLogical.TheVariants as long
use Rattle.avro_schema.specs.declared.schema.Record.{Record as TheRecord, Record-F, out-Record, out-roll-Record, roll-Record}
use Rattle.avro_schema.specs.declared.schema.Schema.{Schema, Null, Boolean, Int, Long, Float, Double, Bytes, String, Record, Enum, Array, Map, Union, Fixed}
use Rattle.avro_schema.specs.declared.schema.StringLogical.{StringLogical}
use Rattle.avro_schema.specs.AndThen.{◌>>=◌}
use Rattle.avro_schema.specs.Encodes.{is_null}
use Rattle.avro_schema.specs.Inferred.{column_field, columns_of, inferred, inferred_columns, is_item, item_name, own_doc}
use Rattle.avro_schema.specs.TypeLaws.{inferred_member_of}
use Rattle.avro_schema.specs.Types.{fixed_type, int_type, long_type, symbol_type}
use Rattle.avro_schema.proofs.Basics.{bind_some}
use Rattle.avro_schema.proofs.InferredLemmas.{inferred_composites}
use Rattle.avro_file.specs.Attributes.{attribute, attributes_of, count_at, count_in, count_of, digits_count, items_at, number_count, string_at}
use Rattle.avro_file.specs.Outcome.{Outcome, each, found, need, one_more, reference, then_for, wrong}
use Rattle.avro_file.specs.Reading.{IsSchemaText, enum_of, field, fixed_of, inner_at, named, named_by, of_layer, of_object, of_type, one_schema, reading, record_of, strings, typed, typed_as}
use Rattle.avro_file.specs.Types.{bytes_logical, decimal_of, digits_of, duration_of, fixed_logical, int_logical, logical_name, long_logical, primitives, scale_of, string_logical}
use Rattle.avro_file.specs.Writable.{is_decimal, logical_fits}
use Rattle.avro_types.specs.Listed.{HasNoFields}
use Rattle.avro_types.proofs.ByFields.{list_schema}
use Rattle.arrow_convert.proofs.ByParts.{EachType}
use Rattle.arrow_convert.proofs.Fitting.{Fits, flat_fits, listed_fits, struct_fits, type_fits}

-- ---- the numbers of a text

abbrev IsSmall : ℕ → Type 0
IsSmall n = nat_le n 2147483647 ≡ true

digits_small : (mantissa exponent : List ℕ) → IfSome (digits_count mantissa exponent) IsSmall
digits_small mantissa (byte ∷ more) = tt
digits_small mantissa [] = by (nat_lt 0 (length mantissa) && (list_all (λ byte. is_digit byte 10) mantissa && nat_le (digits_value 10 mantissa) 2147483647)) refl
  where
    by : (b : Bool) → (nat_lt 0 (length mantissa) && (list_all (λ byte. is_digit byte 10) mantissa && nat_le (digits_value 10 mantissa) 2147483647)) ≡ b → IfSome (cond b (Some (digits_value 10 mantissa)) None) IsSmall
    by false e = tt
    by true e =
        let more = and_parts (nat_lt 0 (length mantissa)) (list_all (λ byte. is_digit byte 10) mantissa && nat_le (digits_value 10 mantissa) 2147483647) e in
        (and_parts (list_all (λ byte. is_digit byte 10) mantissa) (nat_le (digits_value 10 mantissa) 2147483647) more.1).1

number_small : (n : Number) → IfSome (number_count n) IsSmall
number_small (number.Integer mantissa exponent) = digits_small mantissa exponent
number_small (number.Float mantissa exponent) = tt

count_small : (value : Json) → IfSome (count_of value) IsSmall
unfolding count_of
count_small value = by (out-Value value)
  where
    by : (l : Value-F Value Attributes) → IfSome (count_in l) IsSmall
    by (json.Number n) = number_small n
    by _ = tt

at_small : (name : List ℕ) (o : Attributes) → IfSome (count_at name o) IsSmall
at_small name o = by (attribute name o)
  where
    by : (value : Option Json) → IfSome (option_and_then count_of value) IsSmall
    by None = tt
    by (Some value) = count_small value

abbrev IsDecimal : ℕ × ℕ → Type 0
IsDecimal digits = is_decimal digits.0 digits.1 ≡ true

digits_fit : (precision scale : Option ℕ) → IfSome precision IsSmall → IfSome (digits_of precision scale) IsDecimal
digits_fit None scale small = tt
digits_fit (Some precision) None small = tt
digits_fit (Some precision) (Some scale) small = by (nat_le 1 precision && nat_le scale precision) refl
  where
    by : (b : Bool) → (nat_le 1 precision && nat_le scale precision) ≡ b → IfSome (cond b (Some (precision, scale)) None) IsDecimal
    by false e = tt
    by true e = let both = and_parts (nat_le 1 precision) (nat_le scale precision) e in (rw (both.0, small, both.1) refl)

decimal_fits : (o : Attributes) → IfSome (decimal_of o) IsDecimal
decimal_fits o = digits_fit (count_at (codes "precision") o) (scale_of (attribute (codes "scale") o)) (at_small (codes "precision") o)

fixed_fits : (size : ℕ) (o : Attributes) → logical_fits size (fixed_logical size o) ≡ true
unfolding fixed_logical
fixed_fits size o = by (bytes_eq (logical_name o) (codes "decimal")) (bytes_eq (logical_name o) (codes "duration")) (decimal_of o) (decimal_fits o)
  where
    twelve : (v : Bool) → (size == 12) ≡ v → logical_fits size (cond v (Some fixed.Duration) None) ≡ true
    twelve false e = refl
    twelve true e = e

    by : (b c : Bool) (digits : Option (ℕ × ℕ)) → IfSome digits IsDecimal → logical_fits size (cond b (option_and_then (λ d. Some (fixed.Decimal d.0 d.1)) digits) (cond c (duration_of size) None)) ≡ true
    by true c None h = refl
    by true c (Some d) h = h
    by false true digits h = twelve (size == 12) refl
    by false false digits h = refl

-- ---- the types that a schema gives

-- each has a schema, if it has one, whose numbers fit
abbrev GivesFitting : Schema → Type 0
GivesFitting s = (t : DataType) → inferred s ≡ Some t → Fits t

abbrev FieldsGive : List AvroField → Type 0
FieldsGive = AllByRecursion (λ (g : AvroField). GivesFitting g.schema)

-- it gives this one type
gives : (s : Schema) (a : DataType) → inferred s ≡ Some a → Fits a → GivesFitting s
gives s a is fits t e = subst Fits (same_Some a t (sym is ∙ e)) fits

flat_gives : (s : Schema) (a : DataType) → inferred s ≡ Some a → HasNoFields a → type_fits a ≡ true → GivesFitting s
flat_gives s a is none h = gives s a is (flat_fits a none h)

int_gives : (logical : Option IntLogical) → GivesFitting (Int logical)
int_gives None = flat_gives (Int None) (int_type None) refl tt refl
int_gives (Some int.Date) = flat_gives (Int (Some int.Date)) (int_type (Some int.Date)) refl tt refl
int_gives (Some int.Time) = flat_gives (Int (Some int.Time)) (int_type (Some int.Time)) refl tt refl

long_gives : (logical : Option LongLogical) → GivesFitting (Long logical)
long_gives None = flat_gives (Long None) (long_type None) refl tt refl
long_gives (Some long.Time) = flat_gives (Long (Some long.Time)) (long_type (Some long.Time)) refl tt refl
long_gives (Some long.TimestampMillis) = flat_gives (Long (Some long.TimestampMillis)) (long_type (Some long.TimestampMillis)) refl tt refl
long_gives (Some long.TimestampMicros) = flat_gives (Long (Some long.TimestampMicros)) (long_type (Some long.TimestampMicros)) refl tt refl
long_gives (Some long.TimestampNanos) = flat_gives (Long (Some long.TimestampNanos)) (long_type (Some long.TimestampNanos)) refl tt refl
long_gives (Some long.LocalTimestampMillis) = flat_gives (Long (Some long.LocalTimestampMillis)) (long_type (Some long.LocalTimestampMillis)) refl tt refl
long_gives (Some long.LocalTimestampMicros) = flat_gives (Long (Some long.LocalTimestampMicros)) (long_type (Some long.LocalTimestampMicros)) refl tt refl
long_gives (Some long.LocalTimestampNanos) = flat_gives (Long (Some long.LocalTimestampNanos)) (long_type (Some long.LocalTimestampNanos)) refl tt refl

string_gives : (logical : Option StringLogical) → GivesFitting (String logical)
string_gives logical = flat_gives (String logical) types.Utf8 refl tt refl

plain_gives : GivesFitting (Bytes None)
plain_gives = flat_gives (Bytes None) types.Binary refl tt refl

bytes_give : (o : Attributes) → GivesFitting (Bytes (bytes_logical o))
unfolding bytes_logical
bytes_give o = by (bytes_eq (logical_name o) (codes "decimal")) (decimal_of o) (decimal_fits o)
  where
    by : (b : Bool) (digits : Option (ℕ × ℕ)) → IfSome digits IsDecimal → GivesFitting (Bytes (cond b (option_and_then (λ d. Some (bytes.Decimal d.0 d.1)) digits) None))
    by true None h = plain_gives
    by true (Some d) h = flat_gives (Bytes (Some (bytes.Decimal d.0 d.1))) (types.Decimal d.0 d.1) refl tt h
    by false digits h = plain_gives

fixed_gives : (f : TheFixed) → IsSmall f.size → logical_fits f.size f.logical ≡ true → GivesFitting (Fixed f)
fixed_gives f small h = gives (Fixed f) (fixed_type f.size f.logical) refl (by f.size f.logical small h)
  where
    by : (size : ℕ) (logical : Option FixedLogical) → IsSmall size → logical_fits size logical ≡ true → Fits (fixed_type size logical)
    by size None small h = flat_fits (types.FixedSizeBinary size) tt small
    by size (Some (fixed.Decimal precision scale)) small h = flat_fits (types.Decimal precision scale) tt h
    by size (Some fixed.Duration) small h = flat_fits (types.Interval interval.MonthDayNano) tt refl

array_gives : (s : Schema) → GivesFitting s → GivesFitting (Array s)
array_gives s one t e =
    let q = bind_some (inferred s) (λ u. Some (column_field item_name None s u) >>= λ f. Some (types.List f)) t (sym (inferred_composites.array s) ∙ e) in
    let f = column_field item_name None s q.0 in
    subst Fits (same_Some (types.List f) t q.2) (listed_fits (types.List f) f (λ k. list_schema true k f) (one q.0 q.1))

members_give : (ms : List Schema) → AllByRecursion GivesFitting ms → (t : DataType) → inferred_member_of ms ≡ Some t → Fits t
members_give [] all t e = absurd (none-some t e)
members_give (s ∷ []) all t e = absurd (none-some t e)
members_give (s ∷ u ∷ []) all t e = by (is_null s && is_item u) (is_item s && is_null u) e
  where
    by : (a b : Bool) → cond a (inferred u) (cond b (inferred s) None) ≡ Some t → Fits t
    by true b e = all.1.0 t e
    by false true e = all.0 t e
    by false false e = absurd (none-some t e)
members_give (s ∷ u ∷ v ∷ more) all t e = absurd (none-some t e)

pub column_type : (name : List ℕ) (doc : Option (List ℕ)) (s : Schema) (t : DataType) → (column_field name doc s t).data_type ≡ t
column_type name None s t = refl
column_type name (Some doc) s t = refl

-- the types of columns, whatever their docs
columns_give : (doc : AvroField → Option (List ℕ)) (gs : List AvroField) → FieldsGive gs → (fs : List Field) → columns_of doc gs ≡ Some fs → EachType Fits fs
columns_give doc [] all fs e = subst (EachType Fits) (same_Some [] fs e) tt
columns_give doc (g ∷ gs) all fs e =
    let one = bind_some (inferred g.schema) (λ t. columns_of doc gs >>= λ more. Some (column_field g.name (doc g) g.schema t ∷ more)) fs e in
    let two = bind_some (columns_of doc gs) (λ more. Some (column_field g.name (doc g) g.schema one.0 ∷ more)) fs one.2 in
    subst (EachType Fits) (same_Some (column_field g.name (doc g) g.schema one.0 ∷ two.0) fs two.2)
    (subst Fits (sym (column_type g.name (doc g) g.schema one.0)) (all.0 one.0 one.1), columns_give doc gs all.1 two.0 two.1)

record_gives : (r : TheRecord) → FieldsGive (out-Record r).fields → GivesFitting (Record r)
record_gives r all t e =
    let q = bind_some (columns_of (λ a. a.doc) (out-Record r).fields) (λ fs. Some (types.Struct fs)) t (sym (inferred_composites.fields r) ∙ e) in
    subst Fits (same_Some (types.Struct q.0) t q.2) (struct_fits q.0 (columns_give (λ a. a.doc) (out-Record r).fields all q.0 q.1))

-- ---- what is known of a schema that was read

abbrev fields_of : Schema → List AvroField
fields_of (Record r) = (out-Record r).fields
fields_of _ = []

-- the types fit that it gives, and those that its fields give, where it is a record
record IsRead (s : Schema) : Type 0 where
  pub own : GivesFitting s
  pub fields : FieldsGive (fields_of s)

-- it is no record
no_record : (s : Schema) → fields_of s ≡ [] → GivesFitting s → IsRead s
no_record s none h = record { own = h; fields = subst FieldsGive (sym none) tt }

array_is : (s : Schema) → GivesFitting s → IsRead (Array s)
array_is s h = no_record (Array s) refl (array_gives s h)

map_is : (s : Schema) → IsRead (Map s)
map_is s = no_record (Map s) refl (λ t e. absurd (none-some t e))

union_is : (ms : List Schema) → AllByRecursion GivesFitting ms → IsRead (Union ms)
union_is ms all = no_record (Union ms) refl (λ t e. members_give ms all t (sym (inferred_composites.union ms) ∙ e))

record_is : (x : Record-F Schema AvroField TheRecord) → FieldsGive x.fields → IsRead (Record (roll-Record x))
record_is x h =
    let all : FieldsGive (out-Record (roll-Record x)).fields = subst FieldsGive (sym (ap (λ o. o.fields) (out-roll-Record x))) h in
    record { own = record_gives (roll-Record x) all; fields = all }

enum_is : (e : TheEnum) → IsRead (Enum e)
enum_is e = no_record (Enum e) refl (flat_gives (Enum e) symbol_type refl tt refl)

-- ---- what holds of all that is found

abbrev pub OfFound : {A : Type 0} → (A → Type 0) → Outcome A → Type 0
OfFound P wrong = Unit {0}
OfFound P reference = Unit {0}
OfFound P (found x) = P x

pub of_then : {A B : Type 0} (P : A → Type 0) (Q : B → Type 0) (f : A → B) → ((x : A) → P x → Q (f x)) → (o : Outcome A) → OfFound P o → OfFound Q (then_for f o)
of_then P Q f h wrong p = tt
of_then P Q f h reference p = tt
of_then P Q f h (found x) p = h x p

pub of_needed : {A B : Type 0} (Q : B → Type 0) (f : A → Outcome B) (o : Option A) → ((x : A) → o ≡ Some x → OfFound Q (f x)) → OfFound Q (need o f)
of_needed Q f None h = tt
of_needed Q f (Some x) h = h x refl

pub of_one_more : {A : Type 0} (P : A → Type 0) (one : Outcome A) (more : Outcome (List A)) → OfFound P one → OfFound (AllByRecursion P) more → OfFound (AllByRecursion P) (one_more one more)
of_one_more P wrong more p q = tt
of_one_more P reference wrong p q = tt
of_one_more P reference reference p q = tt
of_one_more P reference (found xs) p q = tt
of_one_more P (found x) wrong p q = tt
of_one_more P (found x) reference p q = tt
of_one_more P (found x) (found xs) p q = (p, q)

of_each : {A X : Type 0} (P : A → Type 0) (f : X → Outcome A) → ((x : X) → OfFound P (f x)) → (xs : List X) → OfFound (AllByRecursion P) (each (map f xs))
of_each P f h [] = tt
of_each P f h (x ∷ xs) = of_one_more P (f x) (each (map f xs)) (h x) (of_each P f h xs)

pub looked_up : {V : Type 0} (P : V → Type 0) (name : List ℕ) (table : List (List ℕ × V)) → AllByRecursion (λ (entry : List ℕ × V). P entry.1) table → IfSome (value_of name table) P
looked_up P name [] all = tt
looked_up P name (entry ∷ more) all = by (bytes_eq entry.0 name) (looked_up P name more all.1)
  where
    by : (b : Bool) → IfSome (value_of name more) P → IfSome (cond b (Some entry.1) (value_of name more)) P
    by true h = all.0
    by false h = h

-- ---- reading

named_reads : (name : List ℕ) → OfFound IsRead (named name)
unfolding named
named_reads name = by (value_of name primitives) (looked_up IsRead name primitives all)
  where
    all : AllByRecursion (λ (entry : List ℕ × Schema). IsRead entry.1) primitives
    all = (
      no_record Null refl (flat_gives Null types.Null refl tt refl),
      (
        no_record Boolean refl (flat_gives Boolean types.Boolean refl tt refl),
        (
          no_record (Int None) refl (int_gives None),
          (
            no_record (Long None) refl (long_gives None),
            (
              no_record Float refl (flat_gives Float types.Float32 refl tt refl),
              (no_record Double refl (flat_gives Double types.Float64 refl tt refl), (no_record (Bytes None) refl plain_gives, (no_record (String None) refl (string_gives None), tt))),
            ),
          ),
        ),
      ),
    )

    by : (s : Option Schema) → IfSome s IsRead → OfFound IsRead (named_by s)
    by None h = tt
    by (Some s) h = h

enum_reads : (o : Attributes) → OfFound IsRead (enum_of o)
unfolding enum_of
enum_reads o =
    of_needed IsRead _ (string_at (codes "name") o) (λ name _. of_needed IsRead _ (items_at (codes "symbols") o) (λ items _.
    of_then (λ _. Unit {0}) IsRead _ (λ symbols _. enum_is _) (strings items) (anything (strings items))))
  where
    anything : {A : Type 0} (o : Outcome A) → OfFound (λ _. Unit {0}) o
    anything wrong = tt
    anything reference = tt
    anything (found x) = tt

abbrev pub fixed_made : List ℕ → ℕ → Attributes → TheFixed
fixed_made name size o = record { name = name; namespace = string_at (codes "namespace") o; doc = string_at (codes "doc") o; size = size; logical = fixed_logical size o }

fixed_reads : (o : Attributes) → OfFound IsRead (fixed_of o)
unfolding fixed_of
fixed_reads o =
    of_needed IsRead _ (string_at (codes "name") o) (λ name _. of_needed IsRead _ (count_at (codes "size") o) (λ size e.
    no_record (Fixed (fixed_made name size o)) refl (fixed_gives (fixed_made name size o) (subst (λ z. IfSome z IsSmall) e (at_small (codes "size") o)) (fixed_fits size o))))

module _ (inner : Json → Outcome Schema) (reads : (value : Json) → OfFound IsRead (inner value)) where
  inner_gives : (value : Json) → OfFound GivesFitting (inner value)
  inner_gives value = by (inner value) (reads value)
    where
      by : (o : Outcome Schema) → OfFound IsRead o → OfFound GivesFitting o
      by wrong h = tt
      by reference h = tt
      by (found s) h = h.own

  field_reads : (value : Json) → OfFound (λ (g : AvroField). GivesFitting g.schema) (field inner value)
  unfolding field
  field_reads value =
      of_needed _ _ (attributes_of value) (λ o _. of_needed _ _ (string_at (codes "name") o) (λ name _. of_needed _ _ (attribute (codes "type") o) (λ type _.
      of_then GivesFitting (λ (g : AvroField). GivesFitting g.schema) _ (λ s h. h) (inner type) (inner_gives type))))

  record_reads : (o : Attributes) → OfFound IsRead (record_of inner o)
  unfolding record_of
  record_reads o =
      of_needed IsRead _ (string_at (codes "name") o) (λ name _. of_needed IsRead _ (items_at (codes "fields") o) (λ items _.
      of_then FieldsGive IsRead _ (λ fields all. record_is _ all) (each (map (field inner) items)) (of_each (λ (g : AvroField). GivesFitting g.schema) (field inner) field_reads items)))

  inner_reads : (key : List ℕ) (o : Attributes) → OfFound GivesFitting (inner_at inner key o)
  unfolding inner_at
  inner_reads key o = of_needed GivesFitting inner (attribute key o) (λ value _. inner_gives value)

  typed_reads : (o : Attributes) → AllByRecursion (λ (entry : List ℕ × Outcome Schema). OfFound IsRead entry.1) (typed inner o)
  unfolding typed
  typed_reads o = (
    record_reads o,
    (
      enum_reads o,
      (
        of_then GivesFitting IsRead Array array_is (inner_at inner (codes "items") o) (inner_reads (codes "items") o),
        (
          of_then GivesFitting IsRead Map (λ s _. map_is s) (inner_at inner (codes "values") o) (inner_reads (codes "values") o),
          (
            fixed_reads o,
            (
              no_record (Int (int_logical o)) refl (int_gives (int_logical o)),
              (
                no_record (Long (long_logical o)) refl (long_gives (long_logical o)),
                (no_record (Bytes (bytes_logical o)) refl (bytes_give o), (no_record (String (string_logical o)) refl (string_gives (string_logical o)), tt)),
              ),
            ),
          ),
        ),
      ),
    ),
  )

  typed_as_reads : (o : Attributes) (name : List ℕ) → OfFound IsRead (typed_as inner o name)
  unfolding typed_as
  typed_as_reads o name = by (value_of name (typed inner o)) (looked_up (OfFound IsRead) name (typed inner o) (typed_reads o))
    where
      by : (v : Option (Outcome Schema)) → IfSome v (OfFound IsRead) → OfFound IsRead (unwrap_or v (named name))
      by None h = named_reads name
      by (Some v) h = h

  type_reads : (o : Attributes) (value : Json) → OfFound IsRead (of_type inner o value (out-Value value))
  type_reads o value = by (out-Value value)
    where
      by : (l : Value-F Value Attributes) → OfFound IsRead (of_type inner o value l)
      by (json.String name) = typed_as_reads o name
      by (json.Array items) = reads value
      by (json.Object more) = reads value
      by _ = tt

  object_reads : (o : Attributes) → OfFound IsRead (of_object inner o)
  unfolding of_object
  object_reads o = of_needed IsRead (λ value. of_type inner o value (out-Value value)) (attribute (codes "type") o) (λ value _. type_reads o value)

  layer_reads : (l : Value-F Value Attributes) → OfFound IsRead (of_layer inner l)
  layer_reads (json.String name) = named_reads name
  layer_reads (json.Array items) = of_then (AllByRecursion GivesFitting) IsRead Union union_is (each (map inner items)) (of_each GivesFitting inner inner_gives items)
  layer_reads (json.Object o) = object_reads o
  layer_reads _ = tt

schema_reads : (depth : ℕ) (value : Json) → OfFound IsRead (reading depth value)
unfolding reading one_schema
schema_reads zero value = tt
schema_reads (suc depth) value = layer_reads (reading depth) (schema_reads depth) (out-Value value)

-- the columns of a record that a text stands for
pub columns_fit : (text : List ℕ) (root : TheRecord) (columns : List Field) → IsSchemaText text (Record root) → inferred_columns (out-Record root).fields ≡ Some columns → EachType Fits columns
columns_fit text root columns h e =
    let read : IsRead (Record root) = subst (OfFound IsRead) h.2 (schema_reads 129 h.0) in
    columns_give own_doc (out-Record root).fields read.fields columns e
