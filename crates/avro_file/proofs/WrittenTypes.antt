-- The texts of the types in which no schema stands are read back.
use Rattle.std.proofs.Common.{◌≡◌, ℕ, zero, suc, ◌≤◌, ◌&&◌, ◌==◌, Bool, true, false, nat_le, List, [], ◌∷◌, ◌++◌, map, Option, Some, None, codes, decimal, refl, sym, ap, ◌∙◌, subst, append_assoc, arith}
use Rattle.std.specs.Str.{bytes_eq}
use Rattle.arrow_base.specs.WrittenString.{json_string}
use Rattle.json_tree.specs.Tree.{Json, string, array, object}
use Rattle.json_tree.specs.Keys.{value_of}
use Rattle.json_tree.specs.Layout.{put}
use Rattle.json_tree.specs.Grammar.{Encodes}
use Rattle.json_tree.specs.Reading.{put_together}
use Rattle.avro_schema.specs.declared.schema.Schema.{Schema, fold-roll-Schema}
use Rattle.avro_schema.specs.declared.schema.Schema.TheOpen as layer
use Rattle.avro_schema.specs.declared.schema.Schema.TheVariants as variant
use Rattle.avro_schema.specs.declared.schema.Enum.{Enum}
use Rattle.avro_schema.specs.declared.schema.Fixed.{Fixed}
use Rattle.avro_schema.specs.declared.schema.IntLogical.{IntLogical}
use Rattle.avro_schema.specs.declared.schema.IntLogical.TheVariants as int
use Rattle.avro_schema.specs.declared.schema.LongLogical.{LongLogical}
use Rattle.avro_schema.specs.declared.schema.LongLogical.TheVariants as long
use Rattle.avro_schema.specs.declared.schema.BytesLogical.{BytesLogical}
use Rattle.avro_schema.specs.declared.schema.BytesLogical.TheVariants as bytes
use Rattle.avro_schema.specs.declared.schema.StringLogical.{StringLogical}
use Rattle.avro_schema.specs.declared.schema.StringLogical.TheVariants as text
use Rattle.avro_schema.specs.declared.schema.FixedLogical.{FixedLogical}
use Rattle.avro_schema.specs.declared.schema.FixedLogical.TheVariants as fixed
use Rattle.avro_file.specs.Attributes.{string_at}
use Rattle.avro_file.specs.Outcome.{Outcome, found}
use Rattle.avro_file.specs.Reading.{reading, named, typed, typed_as}
use Rattle.avro_file.specs.Types.{int_logical, long_logical, string_logical, fixed_logical}
use Rattle.avro_file.specs.Writable.{numbers_fit, fits_step, field_fits_step, record_fits_step, logical_fits, is_decimal}
use Rattle.arrow_base.specs.Joined.{joined}
use Rattle.avro_file.specs.Writing.{schema_text_of, int_name, long_name, fixed_logical_text, given}
use Rattle.avro_file.proofs.Appends.{seven, eight}
use Rattle.avro_file.proofs.Backs.{Back, IsBack, strings_encode, strings_are}
use Rattle.avro_file.proofs.Digits.{parts, true_le}
use Rattle.avro_file.proofs.JsonTexts.{Members, MoreMembers, AllEncode, one_more_member, object_encodes, string_encodes, array_encodes, no_more}
use Rattle.avro_file.proofs.Members.{attributes_by, named_members, namespace_there, doc_there, last_there, named_encodes, name_reads, object_reads, string_there, items_there, count_there}
use Rattle.avro_file.proofs.Nesting.{nesting, nesting_step, field_nesting_step, record_nesting_step, logical_nesting}
use Rattle.avro_file.proofs.Numerals.{counted, counted_encodes}
use Rattle.avro_file.proofs.Parts.{enum_is, fixed_is}
use Rattle.avro_file.proofs.Scaled.{in_range, decimal_members, decimal_more, decimal_there, bytes_decimal, fixed_decimal}
use Rattle.avro_file.proofs.Texts.{text-Null, text-Boolean, text-Int, text-Long, text-Float, text-Double, text-Bytes, text-String, text-Enum, text-Fixed}

-- a schema is read from any depth above its brackets
abbrev pub read_schema : ℕ → Json → Outcome Schema
read_schema k = reading (suc k)

abbrev pub SchemaBack : Schema → Type 0
SchemaBack = IsBack schema_text_of read_schema numbers_fit nesting

-- ---- how many brackets

nesting-Int : (logical : Option IntLogical) → nesting (variant.Int logical) ≡ logical_nesting logical
unfolding nesting
nesting-Int logical = ap nesting (sym (variant.rolls-Int logical)) ∙ fold-roll-Schema ℕ ℕ ℕ nesting_step field_nesting_step record_nesting_step (layer.Int logical)

nesting-Long : (logical : Option LongLogical) → nesting (variant.Long logical) ≡ logical_nesting logical
unfolding nesting
nesting-Long logical = ap nesting (sym (variant.rolls-Long logical)) ∙ fold-roll-Schema ℕ ℕ ℕ nesting_step field_nesting_step record_nesting_step (layer.Long logical)

nesting-Bytes : (logical : Option BytesLogical) → nesting (variant.Bytes logical) ≡ logical_nesting logical
unfolding nesting
nesting-Bytes logical = ap nesting (sym (variant.rolls-Bytes logical)) ∙ fold-roll-Schema ℕ ℕ ℕ nesting_step field_nesting_step record_nesting_step (layer.Bytes logical)

nesting-String : (logical : Option StringLogical) → nesting (variant.String logical) ≡ logical_nesting logical
unfolding nesting
nesting-String logical = ap nesting (sym (variant.rolls-String logical)) ∙ fold-roll-Schema ℕ ℕ ℕ nesting_step field_nesting_step record_nesting_step (layer.String logical)

nesting-Enum : (e : Enum) → nesting (variant.Enum e) ≡ 2
unfolding nesting
nesting-Enum e = ap nesting (sym (variant.rolls-Enum e)) ∙ fold-roll-Schema ℕ ℕ ℕ nesting_step field_nesting_step record_nesting_step (layer.Enum e)

nesting-Fixed : (f : Fixed) → nesting (variant.Fixed f) ≡ 1
unfolding nesting
nesting-Fixed f = ap nesting (sym (variant.rolls-Fixed f)) ∙ fold-roll-Schema ℕ ℕ ℕ nesting_step field_nesting_step record_nesting_step (layer.Fixed f)

-- ---- the numbers

fits-Bytes : (precision scale : ℕ) → numbers_fit (variant.Bytes (Some (bytes.Decimal precision scale))) ≡ is_decimal precision scale
unfolding numbers_fit
fits-Bytes precision scale =
    ap numbers_fit (sym (variant.rolls-Bytes (Some (bytes.Decimal precision scale)))) ∙ fold-roll-Schema Bool Bool Bool fits_step field_fits_step record_fits_step (layer.Bytes (Some (bytes.Decimal precision scale)))

fits-Fixed : (f : Fixed) → numbers_fit (variant.Fixed f) ≡ (nat_le f.size 2147483647 && logical_fits f.size f.logical)
unfolding numbers_fit
fits-Fixed f = ap numbers_fit (sym (variant.rolls-Fixed f)) ∙ fold-roll-Schema Bool Bool Bool fits_step field_fits_step record_fits_step (layer.Fixed f)

-- ---- primitive types

back_name : (name : List ℕ) (s : Schema) → schema_text_of s ≡ json_string name → named name ≡ found s → SchemaBack s
back_name name s e n fits d l = record {
  value = string name;
  encodes = subst (λ b. Encodes d (string name) b) (sym e) (string_encodes d name);
  reads = λ k m. name_reads k name ∙ n;
}

pub back-Null : SchemaBack variant.Null
unfolding named
back-Null = back_name (codes "null") variant.Null text-Null refl

pub back-Boolean : SchemaBack variant.Boolean
unfolding named
back-Boolean = back_name (codes "boolean") variant.Boolean text-Boolean refl

pub back-Float : SchemaBack variant.Float
unfolding named
back-Float = back_name (codes "float") variant.Float text-Float refl

pub back-Double : SchemaBack variant.Double
unfolding named
back-Double = back_name (codes "double") variant.Double text-Double refl

-- an object in which no other bracket is opened
back_flat : (s : Schema) (ms : Members) → nesting s ≡ 1 → ((d : ℕ) → Encodes (suc d) (object ms) (schema_text_of s)) → ((k : ℕ) → reading (suc k) (object ms) ≡ found s) → (d : ℕ) → nesting s ≤ d → Back schema_text_of read_schema d s
back_flat s ms n encodes reads zero l = absurd (omega (arith, n, l))
back_flat s ms n encodes reads (suc d) l = record { value = object ms; encodes = encodes d; reads = λ k m. reads k }

abbrev logical_members : List ℕ → List ℕ → Members
logical_members type name = (codes "type", string type) ∷ (codes "logicalType", string name) ∷ []

logical_encodes : (type name : List ℕ) (d : ℕ) → Encodes (suc d) (object (logical_members type name)) (0x7b ∷ (json_string (codes "type") ++ 0x3a ∷ (json_string type ++ 0x2c ∷ (json_string (codes "logicalType") ++ 0x3a ∷ (json_string name ++ 0x7d ∷ [])))))
unfolding put
logical_encodes type name d =
    object_encodes d (codes "type") (string type) (json_string type) _ _ (string_encodes d type)
    (one_more_member d (codes "logicalType") (string name) (json_string name) [] (0x7d ∷ []) (string_encodes d name) (no_more d)) refl

named_logical : (type name : List ℕ) → string_at (codes "logicalType") (attributes_by (logical_members type name)) ≡ Some name
named_logical type name = string_there (logical_members type name) (codes "logicalType") (Some name) refl

int_back : (l : IntLogical) (d : ℕ) → Encodes (suc d) (object (logical_members (codes "int") (int_name l))) (schema_text_of (variant.Int (Some l)))
int_back int.Date d = subst (λ b. Encodes (suc d) (object (logical_members (codes "int") (codes "date"))) b) (sym (text-Int (Some int.Date))) (logical_encodes (codes "int") (codes "date") d)
int_back int.Time d = subst (λ b. Encodes (suc d) (object (logical_members (codes "int") (codes "time-millis"))) b) (sym (text-Int (Some int.Time))) (logical_encodes (codes "int") (codes "time-millis") d)

int_read : (l : IntLogical) (k : ℕ) → reading (suc k) (object (logical_members (codes "int") (int_name l))) ≡ found (variant.Int (Some l))
unfolding typed_as typed int_logical
int_read l k = object_reads k (logical_members (codes "int") (int_name l)) (codes "int") refl ∙ is l
  where
    is : (l : IntLogical) → found (variant.Int (int_logical (attributes_by (logical_members (codes "int") (int_name l))))) ≡ found (variant.Int (Some l))
    is int.Date = rw (named_logical (codes "int") (codes "date")) refl
    is int.Time = rw (named_logical (codes "int") (codes "time-millis")) refl

pub back-Int : (logical : Option IntLogical) → SchemaBack (variant.Int logical)
unfolding named
back-Int None = back_name (codes "int") (variant.Int None) (text-Int None) refl
back-Int (Some l) = λ fits. back_flat (variant.Int (Some l)) (logical_members (codes "int") (int_name l)) (nesting-Int (Some l)) (int_back l) (int_read l)

long_encodes : (l : LongLogical) → schema_text_of (variant.Long (Some l)) ≡ 0x7b ∷ (json_string (codes "type") ++ 0x3a ∷ (json_string (codes "long") ++ 0x2c ∷ (json_string (codes "logicalType") ++ 0x3a ∷ (json_string (long_name l) ++ 0x7d ∷ []))))
long_encodes long.Time = text-Long (Some long.Time)
long_encodes long.TimestampMillis = text-Long (Some long.TimestampMillis)
long_encodes long.TimestampMicros = text-Long (Some long.TimestampMicros)
long_encodes long.LocalTimestampMillis = text-Long (Some long.LocalTimestampMillis)
long_encodes long.LocalTimestampMicros = text-Long (Some long.LocalTimestampMicros)
long_encodes long.TimestampNanos = text-Long (Some long.TimestampNanos)
long_encodes long.LocalTimestampNanos = text-Long (Some long.LocalTimestampNanos)

long_read : (l : LongLogical) (k : ℕ) → reading (suc k) (object (logical_members (codes "long") (long_name l))) ≡ found (variant.Long (Some l))
unfolding typed_as typed long_logical
long_read l k = object_reads k (logical_members (codes "long") (long_name l)) (codes "long") refl ∙ is l
  where
    is : (l : LongLogical) → found (variant.Long (long_logical (attributes_by (logical_members (codes "long") (long_name l))))) ≡ found (variant.Long (Some l))
    is long.Time = rw (named_logical (codes "long") (codes "time-micros")) refl
    is long.TimestampMillis = rw (named_logical (codes "long") (codes "timestamp-millis")) refl
    is long.TimestampMicros = rw (named_logical (codes "long") (codes "timestamp-micros")) refl
    is long.LocalTimestampMillis = rw (named_logical (codes "long") (codes "local-timestamp-millis")) refl
    is long.LocalTimestampMicros = rw (named_logical (codes "long") (codes "local-timestamp-micros")) refl
    is long.TimestampNanos = rw (named_logical (codes "long") (codes "timestamp-nanos")) refl
    is long.LocalTimestampNanos = rw (named_logical (codes "long") (codes "local-timestamp-nanos")) refl

pub back-Long : (logical : Option LongLogical) → SchemaBack (variant.Long logical)
unfolding named
back-Long None = back_name (codes "long") (variant.Long None) (text-Long None) refl
back-Long (Some l) =
    λ fits. back_flat (variant.Long (Some l)) (logical_members (codes "long") (long_name l)) (nesting-Long (Some l))
    (λ d. subst (λ b. Encodes (suc d) (object (logical_members (codes "long") (long_name l))) b) (sym (long_encodes l)) (logical_encodes (codes "long") (long_name l) d)) (long_read l)

uuid_read : (k : ℕ) → reading (suc k) (object (logical_members (codes "string") (codes "uuid"))) ≡ found (variant.String (Some text.Uuid))
unfolding typed_as typed string_logical
uuid_read k = object_reads k (logical_members (codes "string") (codes "uuid")) (codes "string") refl ∙ is
  where
    is : found (variant.String (string_logical (attributes_by (logical_members (codes "string") (codes "uuid"))))) ≡ found (variant.String (Some text.Uuid))
    is = rw (named_logical (codes "string") (codes "uuid")) refl

pub back-String : (logical : Option StringLogical) → SchemaBack (variant.String logical)
unfolding named
back-String None = back_name (codes "string") (variant.String None) (text-String None) refl
back-String (Some text.Uuid) =
    λ fits. back_flat (variant.String (Some text.Uuid)) (logical_members (codes "string") (codes "uuid")) (nesting-String (Some text.Uuid))
    (λ d. subst (λ b. Encodes (suc d) (object (logical_members (codes "string") (codes "uuid"))) b) (sym (text-String (Some text.Uuid))) (logical_encodes (codes "string") (codes "uuid") d)) uuid_read

-- "Decimal" over bytes
abbrev bytes_members : ℕ → ℕ → Members
bytes_members precision scale = (codes "type", string (codes "bytes")) ∷ decimal_members precision scale

module _ (p s : ℕ) (fits : is_decimal p s ≡ true) where
  bytes_encodes : (d : ℕ) → Encodes (suc d) (object (bytes_members p s)) (schema_text_of (variant.Bytes (Some (bytes.Decimal p s))))
  unfolding put
  bytes_encodes d =
      let last = decimal_more p s (in_range p s fits) d in
      let all = object_encodes d (codes "type") (string (codes "bytes")) (json_string (codes "bytes")) _ _ (string_encodes d (codes "bytes")) last refl in
      subst (λ b. Encodes (suc d) (object (bytes_members p s)) b) (sym (text-Bytes (Some (bytes.Decimal p s)))) all

  bytes_read : (k : ℕ) → reading (suc k) (object (bytes_members p s)) ≡ found (variant.Bytes (Some (bytes.Decimal p s)))
  unfolding typed_as typed
  bytes_read k =
      let h = in_range p s fits in
      let name = string_there (bytes_members p s) (codes "logicalType") (Some (codes "decimal")) refl in
      let is = bytes_decimal p s h (bytes_members p s) name (decimal_there p s h (bytes_members p s) refl refl) in
      object_reads k (bytes_members p s) (codes "bytes") refl ∙ ap (λ l. found (variant.Bytes l)) is

pub back-Bytes : (logical : Option BytesLogical) → SchemaBack (variant.Bytes logical)
unfolding named
back-Bytes None = back_name (codes "bytes") (variant.Bytes None) (text-Bytes None) refl
back-Bytes (Some (bytes.Decimal p s)) = λ fits.
    let is : is_decimal p s ≡ true = sym (fits-Bytes p s) ∙ fits in
    back_flat (variant.Bytes (Some (bytes.Decimal p s))) (bytes_members p s) (nesting-Bytes (Some (bytes.Decimal p s))) (bytes_encodes p s is) (bytes_read p s is)

-- ---- "Enums"

pub array_last : (d : ℕ) (key : List ℕ) (items : List Json) (ts : List (List ℕ)) → AllEncode d items ts → MoreMembers (suc d) ((key, array items) ∷ []) (0x2c ∷ (json_string key ++ 0x3a ∷ 0x5b ∷ (joined ts ++ 0x5d ∷ 0x7d ∷ [])))
array_last d key items ts h =
    subst (λ l. MoreMembers (suc d) ((key, array items) ∷ []) (0x2c ∷ (json_string key ++ 0x3a ∷ 0x5b ∷ l))) (append_assoc (joined ts) (0x5d ∷ []) (0x7d ∷ []))
    (one_more_member (suc d) key (array items) (0x5b ∷ (joined ts ++ 0x5d ∷ [])) [] (0x7d ∷ []) (array_encodes d items ts h) (no_more (suc d)))

abbrev pub one_list : List ℕ → List Json → Members
one_list key items = (key, array items) ∷ []

pub fields_alone : (type name : List ℕ) (namespace doc : Option (List ℕ)) (items : List Json) → put_together (named_members type name namespace doc (one_list (codes "fields") items)) ≡ named_members type name namespace doc (one_list (codes "fields") items)
unfolding put
fields_alone type name None None items = refl
fields_alone type name None (Some d) items = refl
fields_alone type name (Some n) None items = refl
fields_alone type name (Some n) (Some d) items = refl

symbols_alone : (type name : List ℕ) (namespace doc : Option (List ℕ)) (items : List Json) → put_together (named_members type name namespace doc (one_list (codes "symbols") items)) ≡ named_members type name namespace doc (one_list (codes "symbols") items)
unfolding put
symbols_alone type name None None items = refl
symbols_alone type name None (Some d) items = refl
symbols_alone type name (Some n) None items = refl
symbols_alone type name (Some n) (Some d) items = refl

module _ (e : Enum) where
  abbrev enum_members : Members
  enum_members = named_members (codes "enum") e.name e.namespace e.doc (one_list (codes "symbols") (map string e.symbols))

  enum_encodes : (d : ℕ) → Encodes (suc (suc d)) (object enum_members) (schema_text_of (variant.Enum e))
  enum_encodes d =
      let last = array_last d (codes "symbols") (map string e.symbols) (map json_string e.symbols) (strings_encode d e.symbols) in
      let all = named_encodes (codes "enum") e.name (suc d) e.namespace e.doc _ _ last (symbols_alone (codes "enum") e.name e.namespace e.doc (map string e.symbols)) in
      subst (λ b. Encodes (suc (suc d)) (object enum_members) b) (sym (text-Enum e ∙ seven (codes "{\"type\":\"enum\",\"name\":") (json_string e.name) (given (codes ",\"namespace\":") e.namespace) (given (codes ",\"doc\":") e.doc) (codes ",\"symbols\":[") (joined (map json_string e.symbols)) (codes "]}"))) all

  enum_read : (k : ℕ) → reading (suc k) (object enum_members) ≡ found (variant.Enum e)
  unfolding typed_as typed
  enum_read k =
      let last = one_list (codes "symbols") (map string e.symbols) in
      let name = string_there enum_members (codes "name") (Some e.name) refl in
      let namespace = string_there enum_members (codes "namespace") e.namespace (namespace_there (codes "enum") e.name e.namespace e.doc last refl) in
      let doc = string_there enum_members (codes "doc") e.doc (doc_there (codes "enum") e.name e.namespace e.doc last refl) in
      let items = items_there enum_members (codes "symbols") (map string e.symbols) (last_there (codes "enum") e.name (codes "symbols") refl refl refl refl e.namespace e.doc last) in
      object_reads k enum_members (codes "enum") refl ∙ enum_is (attributes_by enum_members) e.name (map string e.symbols) name items ∙ rw (strings_are e.symbols, namespace, doc) refl

  pub back-Enum : SchemaBack (variant.Enum e)
  back-Enum fits zero l = absurd (omega (arith, nesting-Enum e, l))
  back-Enum fits (suc zero) l = absurd (omega (arith, nesting-Enum e, l))
  back-Enum fits (suc (suc d)) l = record { value = object enum_members; encodes = enum_encodes d; reads = λ k m. enum_read k }

-- ---- "Fixed"

abbrev logical_last : Option FixedLogical → Members
logical_last None = []
logical_last (Some (fixed.Decimal p s)) = decimal_members p s
logical_last (Some fixed.Duration) = (codes "logicalType", string (codes "duration")) ∷ []

abbrev fixed_last : ℕ → Option FixedLogical → Members
fixed_last size logical = (codes "size", counted size) ∷ logical_last logical

logical_more : (size d : ℕ) (logical : Option FixedLogical) → logical_fits size logical ≡ true → MoreMembers d (logical_last logical) (fixed_logical_text logical ++ 0x7d ∷ [])
logical_more size d None h = no_more d
logical_more size d (Some (fixed.Decimal p s)) h = decimal_more p s (in_range p s h) d
logical_more size d (Some fixed.Duration) h = one_more_member d (codes "logicalType") (string (codes "duration")) (json_string (codes "duration")) [] (0x7d ∷ []) (string_encodes d (codes "duration")) (no_more d)

fixed_alone : (name : List ℕ) (namespace doc : Option (List ℕ)) (size : ℕ) (logical : Option FixedLogical) → put_together (named_members (codes "fixed") name namespace doc (fixed_last size logical)) ≡ named_members (codes "fixed") name namespace doc (fixed_last size logical)
unfolding put
fixed_alone name None None size None = refl
fixed_alone name None (Some d) size None = refl
fixed_alone name (Some n) None size None = refl
fixed_alone name (Some n) (Some d) size None = refl
fixed_alone name None None size (Some (fixed.Decimal p s)) = refl
fixed_alone name None (Some d) size (Some (fixed.Decimal p s)) = refl
fixed_alone name (Some n) None size (Some (fixed.Decimal p s)) = refl
fixed_alone name (Some n) (Some d) size (Some (fixed.Decimal p s)) = refl
fixed_alone name None None size (Some fixed.Duration) = refl
fixed_alone name None (Some d) size (Some fixed.Duration) = refl
fixed_alone name (Some n) None size (Some fixed.Duration) = refl
fixed_alone name (Some n) (Some d) size (Some fixed.Duration) = refl

-- no name or doc stands among the last attributes
fixed_others : (size : ℕ) (logical : Option FixedLogical) → (value_of (codes "namespace") (fixed_last size logical) ≡ None) × (value_of (codes "doc") (fixed_last size logical) ≡ None)
fixed_others size None = (refl, refl)
fixed_others size (Some (fixed.Decimal p s)) = (refl, refl)
fixed_others size (Some fixed.Duration) = (refl, refl)

module _ (f : Fixed) (fits : numbers_fit (variant.Fixed f) ≡ true) where
  both_fit : (nat_le f.size 2147483647 ≡ true) × (logical_fits f.size f.logical ≡ true)
  both_fit = parts (nat_le f.size 2147483647) (logical_fits f.size f.logical) (sym (fits-Fixed f) ∙ fits)

  size_fits : f.size ≤ 2147483647
  size_fits = true_le f.size 2147483647 both_fit.0

  abbrev fixed_members : Members
  fixed_members = named_members (codes "fixed") f.name f.namespace f.doc (fixed_last f.size f.logical)

  fixed_encodes : (d : ℕ) → Encodes (suc d) (object fixed_members) (schema_text_of (variant.Fixed f))
  fixed_encodes d =
      let last = one_more_member d (codes "size") (counted f.size) (decimal f.size) (logical_last f.logical) _ (counted_encodes d f.size size_fits) (logical_more f.size d f.logical both_fit.1) in
      let all = named_encodes (codes "fixed") f.name d f.namespace f.doc _ _ last (fixed_alone f.name f.namespace f.doc f.size f.logical) in
      subst (λ b. Encodes (suc d) (object fixed_members) b) (sym (text-Fixed f ∙ eight (codes "{\"type\":\"fixed\",\"name\":") (json_string f.name) (given (codes ",\"namespace\":") f.namespace) (given (codes ",\"doc\":") f.doc) (codes ",\"size\":") (decimal f.size) (fixed_logical_text f.logical) (codes "}"))) all

  at_last : (key : List ℕ) → bytes_eq (codes "type") key ≡ false → bytes_eq (codes "name") key ≡ false → bytes_eq (codes "namespace") key ≡ false → bytes_eq (codes "doc") key ≡ false → value_of key fixed_members ≡ value_of key (fixed_last f.size f.logical)
  at_last key t n s d = last_there (codes "fixed") f.name key t n s d f.namespace f.doc (fixed_last f.size f.logical)

  logical_is : fixed_logical f.size (attributes_by fixed_members) ≡ f.logical
  unfolding fixed_logical
  logical_is = go f.logical both_fit.1 refl
    where
      go : (o : Option FixedLogical) → logical_fits f.size o ≡ true → f.logical ≡ o → fixed_logical f.size (attributes_by fixed_members) ≡ o
      go None h e =
          let name = string_there fixed_members (codes "logicalType") None (at_last (codes "logicalType") refl refl refl refl ∙ ap (λ l. value_of (codes "logicalType") (fixed_last f.size l)) e) in
          rw name refl
      go (Some (fixed.Decimal p s)) h e =
          let name = string_there fixed_members (codes "logicalType") (Some (codes "decimal")) (at_last (codes "logicalType") refl refl refl refl ∙ ap (λ l. value_of (codes "logicalType") (fixed_last f.size l)) e) in
          let precision = at_last (codes "precision") refl refl refl refl ∙ ap (λ l. value_of (codes "precision") (fixed_last f.size l)) e in
          let scale = at_last (codes "scale") refl refl refl refl ∙ ap (λ l. value_of (codes "scale") (fixed_last f.size l)) e in
          let range = in_range p s h in
          fixed_decimal p s range f.size fixed_members name (decimal_there p s range fixed_members precision scale)
      go (Some fixed.Duration) h e =
          let name = string_there fixed_members (codes "logicalType") (Some (codes "duration")) (at_last (codes "logicalType") refl refl refl refl ∙ ap (λ l. value_of (codes "logicalType") (fixed_last f.size l)) e) in
          rw (name, h) refl

  fixed_read : (k : ℕ) → reading (suc k) (object fixed_members) ≡ found (variant.Fixed f)
  unfolding typed_as typed
  fixed_read k =
      let name = string_there fixed_members (codes "name") (Some f.name) refl in
      let others = fixed_others f.size f.logical in
      let namespace = string_there fixed_members (codes "namespace") f.namespace (namespace_there (codes "fixed") f.name f.namespace f.doc (fixed_last f.size f.logical) others.0) in
      let doc = string_there fixed_members (codes "doc") f.doc (doc_there (codes "fixed") f.name f.namespace f.doc (fixed_last f.size f.logical) others.1) in
      let size = count_there fixed_members (codes "size") f.size size_fits (at_last (codes "size") refl refl refl refl) in
      object_reads k fixed_members (codes "fixed") refl ∙ fixed_is (attributes_by fixed_members) f.name f.size name size ∙ rw (namespace, doc, logical_is) refl

pub back-Fixed : (f : Fixed) → SchemaBack (variant.Fixed f)
back-Fixed f fits = back_flat (variant.Fixed f) (fixed_members f fits) (nesting-Fixed f) (fixed_encodes f fits) (fixed_read f fits)
