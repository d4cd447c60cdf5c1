-- Schemas whose texts are UTF-8 and nest so deep at most.
use Rattle.std.proofs.Common.{◌≡◌, ◌∙◌, ℕ, zero, suc, ◌+◌, ◌<◌, ◌≤◌, ◌/◌, ◌%◌, ◌==◌, Bool, true, false, T, cond, nat_lt, List, [], ◌∷◌, ◌++◌, map, codes, Option, Some, None, sym, ap, subst, arith}
use Rattle.std.specs.Prelude.{decimal, flat_map}
use Rattle.std.specs.Fmt.{digit_glyph, digits, digits_onto}
use Rattle.std.specs.List.{AllByRecursion, list_all}
use Rattle.std.specs.Str.{IsUtf8}
use Rattle.std.proofs.lemmas.Bool.Decides.{nat_tests}
use Rattle.std.proofs.lemmas.List.Elements.{All-from_recursion}
use Rattle.std.proofs.lemmas.Str.{IsUtf8-append, IsUtf8-from_ascii, IsUtf8-nil}
use Rattle.std.proofs.lemmas.Str.Ascii.{IsAscii-from_all}
use Rattle.arrow_base.specs.Joined.{joined}
use Rattle.arrow_base.specs.WrittenString.{json_string}
use Rattle.arrow_base.proofs.Decisions.{both}
use Rattle.arrow_base.proofs.ReadsBack.{reads_back}
use Rattle.avro_schema.specs.declared.schema.AvroField.{AvroField, fold-AvroField, fold_out-AvroField}
use Rattle.avro_schema.specs.declared.schema.BytesLogical.TheVariants as bytes
use Rattle.avro_schema.specs.declared.schema.Fixed.{Fixed}
use Rattle.avro_schema.specs.declared.schema.FixedLogical.{FixedLogical}
use Rattle.avro_schema.specs.declared.schema.FixedLogical.TheVariants as fixed
use Rattle.avro_schema.specs.declared.schema.IntLogical.{IntLogical}
use Rattle.avro_schema.specs.declared.schema.IntLogical.TheVariants as int
use Rattle.avro_schema.specs.declared.schema.LongLogical.{LongLogical}
use Rattle.avro_schema.specs.declared.schema.LongLogical.TheVariants as long
use Rattle.avro_schema.specs.declared.schema.Record.{Record as TheRecord, fold-Record, fold_out-Record, out-Record}
use Rattle.avro_schema.specs.declared.schema.Schema.{Schema, fold-roll-Schema}
use Rattle.avro_schema.specs.declared.schema.Schema.TheOpen as layer
use Rattle.avro_schema.specs.declared.schema.Schema.TheVariants as variant
use Rattle.avro_file.specs.Writing.{decimal_text, field_text_of, fixed_logical_text, given, int_text, long_text, schema_text_of}
use Rattle.avro_file.proofs.Nesting.{field_nesting_step, greatest, logical_nesting, nesting, nesting_step, record_nesting_step}
use Rattle.avro_file.proofs.Texts.{field-text, record-text, text-Array, text-Boolean, text-Bytes, text-Double, text-Fixed, text-Float, text-Int, text-Long, text-Null, text-Record, text-String, text-Union}
use Rattle.arrow_convert.proofs.MeantStrings.{AreAscii}

-- ---- texts that are ASCII

ascii_text : (bytes : List ℕ) → AreAscii bytes → IsUtf8 bytes
ascii_text bytes all = IsUtf8-from_ascii bytes (IsAscii-from_all bytes (All-from_recursion (λ (b : ℕ). b < 128) bytes all))

all_ascii : (bytes : List ℕ) → T (list_all (λ b. nat_lt b 128) bytes) → AreAscii bytes
all_ascii [] h = tt
all_ascii (b ∷ bs) h =
    let p = both (nat_lt b 128) (list_all (λ b. nat_lt b 128) bs) h in
    let l : T (nat_lt b 128) = p.0 in (grind (arith, nat_tests, l), all_ascii bs p.1)

-- bytes that are given, where the test computes
constant : (bytes : List ℕ) → T (list_all (λ b. nat_lt b 128) bytes) → IsUtf8 bytes
constant bytes h = ascii_text bytes (all_ascii bytes h)

glyph_ascii : (d : ℕ) → d < 10 → digit_glyph false d < 128
glyph_ascii d l = grind (arith, nat_tests, l)

digits_ascii : (k n : ℕ) (more : List ℕ) → AreAscii more → AreAscii (digits_onto k 10 false n more)
digits_ascii zero n more all = all
digits_ascii (suc k) n more all =
    let here : digit_glyph false (n % 10) < 128 = glyph_ascii (n % 10) (omega arith) in
    by (n / 10 == 0) (here, all) (digits_ascii k (n / 10) (digit_glyph false (n % 10) ∷ more) (here, all))
  where
    by : (v : Bool) → AreAscii (digit_glyph false (n % 10) ∷ more) → AreAscii (digits_onto k 10 false (n / 10) (digit_glyph false (n % 10) ∷ more))
        → AreAscii (cond v (digit_glyph false (n % 10) ∷ more) (digits_onto k 10 false (n / 10) (digit_glyph false (n % 10) ∷ more)))
    by true one other = one
    by false one other = other

pub number_utf8 : (n : ℕ) → IsUtf8 (decimal n)
unfolding digits
number_utf8 n = ascii_text (decimal n) (digits_ascii 64 n [] tt)

-- a letter and a number
pub numbered_utf8 : (letter n : ℕ) → letter < 128 → IsUtf8 (letter ∷ decimal n)
numbered_utf8 letter n l = IsUtf8-append (letter ∷ []) (decimal n) (ascii_text (letter ∷ []) (l, tt)) (number_utf8 n)

string_utf8 : (text : List ℕ) → IsUtf8 text → IsUtf8 (json_string text)
string_utf8 text u = (reads_back text u).utf8

-- texts, one after another
abbrev appended : List ℕ → List (List ℕ) → List ℕ
appended first [] = first
appended first (text ∷ texts) = appended (first ++ text) texts

chain : (first : List ℕ) → IsUtf8 first → (texts : List (List ℕ)) → AllByRecursion IsUtf8 texts → IsUtf8 (appended first texts)
chain first u [] all = u
chain first u (text ∷ texts) all = chain (first ++ text) (IsUtf8-append first text u all.0) texts all.1

joined_utf8 : (texts : List (List ℕ)) → AllByRecursion IsUtf8 texts → IsUtf8 (joined texts)
joined_utf8 [] all = IsUtf8-nil
joined_utf8 (text ∷ texts) all = IsUtf8-append text (flat_map (λ next. codes "," ++ next) texts) all.0 (rest texts all.1)
  where
    rest : (more : List (List ℕ)) → AllByRecursion IsUtf8 more → IsUtf8 (flat_map (λ next. codes "," ++ next) more)
    rest [] h = IsUtf8-nil
    rest (next ∷ more) h = IsUtf8-append (codes "," ++ next) (flat_map (λ next. codes "," ++ next) more) (IsUtf8-append (codes ",") next (constant (codes ",") tt) h.0) (rest more h.1)

-- ---- schemas

abbrev field_nesting : AvroField → ℕ
field_nesting = fold-AvroField ℕ ℕ ℕ nesting_step field_nesting_step record_nesting_step

abbrev record_nesting : TheRecord → ℕ
record_nesting = fold-Record ℕ ℕ ℕ nesting_step field_nesting_step record_nesting_step

pub record HasText (d : ℕ) (s : Schema) : Type 0 where
  pub utf8 : IsUtf8 (schema_text_of s)
  pub nested : nesting s ≤ d

pub record FieldHasText (d : ℕ) (g : AvroField) : Type 0 where
  pub utf8 : IsUtf8 (field_text_of g)
  pub nested : field_nesting g ≤ d

nesting_null : nesting variant.Null ≡ 0
unfolding nesting
nesting_null = ap nesting (sym variant.rolls-Null) ∙ fold-roll-Schema ℕ ℕ ℕ nesting_step field_nesting_step record_nesting_step layer.Null

nesting_boolean : nesting variant.Boolean ≡ 0
unfolding nesting
nesting_boolean = ap nesting (sym variant.rolls-Boolean) ∙ fold-roll-Schema ℕ ℕ ℕ nesting_step field_nesting_step record_nesting_step layer.Boolean

nesting_float : nesting variant.Float ≡ 0
unfolding nesting
nesting_float = ap nesting (sym variant.rolls-Float) ∙ fold-roll-Schema ℕ ℕ ℕ nesting_step field_nesting_step record_nesting_step layer.Float

nesting_double : nesting variant.Double ≡ 0
unfolding nesting
nesting_double = ap nesting (sym variant.rolls-Double) ∙ fold-roll-Schema ℕ ℕ ℕ nesting_step field_nesting_step record_nesting_step layer.Double

nesting_string : nesting (variant.String None) ≡ 0
unfolding nesting
nesting_string = ap nesting (sym (variant.rolls-String None)) ∙ fold-roll-Schema ℕ ℕ ℕ nesting_step field_nesting_step record_nesting_step (layer.String None)

nesting_int : (logical : Option IntLogical) → nesting (variant.Int logical) ≡ logical_nesting logical
unfolding nesting
nesting_int logical = ap nesting (sym (variant.rolls-Int logical)) ∙ fold-roll-Schema ℕ ℕ ℕ nesting_step field_nesting_step record_nesting_step (layer.Int logical)

nesting_long : (logical : Option LongLogical) → nesting (variant.Long logical) ≡ logical_nesting logical
unfolding nesting
nesting_long logical = ap nesting (sym (variant.rolls-Long logical)) ∙ fold-roll-Schema ℕ ℕ ℕ nesting_step field_nesting_step record_nesting_step (layer.Long logical)

nesting_bytes : nesting (variant.Bytes None) ≡ 0
unfolding nesting
nesting_bytes = ap nesting (sym (variant.rolls-Bytes None)) ∙ fold-roll-Schema ℕ ℕ ℕ nesting_step field_nesting_step record_nesting_step (layer.Bytes None)

nesting_decimal : (precision scale : ℕ) → nesting (variant.Bytes (Some (bytes.Decimal precision scale))) ≡ 1
unfolding nesting
nesting_decimal precision scale =
    ap nesting (sym (variant.rolls-Bytes (Some (bytes.Decimal precision scale)))) ∙ fold-roll-Schema ℕ ℕ ℕ nesting_step field_nesting_step record_nesting_step (layer.Bytes (Some (bytes.Decimal precision scale)))

nesting_fixed : (f : Fixed) → nesting (variant.Fixed f) ≡ 1
unfolding nesting
nesting_fixed f = ap nesting (sym (variant.rolls-Fixed f)) ∙ fold-roll-Schema ℕ ℕ ℕ nesting_step field_nesting_step record_nesting_step (layer.Fixed f)

nesting_array : (s : Schema) → nesting (variant.Array s) ≡ suc (nesting s)
unfolding nesting
nesting_array s = ap nesting (sym (variant.rolls-Array s)) ∙ fold-roll-Schema ℕ ℕ ℕ nesting_step field_nesting_step record_nesting_step (layer.Array s)

nesting_union : (ms : List Schema) → nesting (variant.Union ms) ≡ suc (greatest (map nesting ms))
unfolding nesting
nesting_union ms = ap nesting (sym (variant.rolls-Union ms)) ∙ fold-roll-Schema ℕ ℕ ℕ nesting_step field_nesting_step record_nesting_step (layer.Union ms)

nesting_record : (r : TheRecord) → nesting (variant.Record r) ≡ suc (suc (greatest (map field_nesting (out-Record r).fields)))
unfolding nesting
nesting_record r =
    ap nesting (sym (variant.rolls-Record r)) ∙ fold-roll-Schema ℕ ℕ ℕ nesting_step field_nesting_step record_nesting_step (layer.Record r)
    ∙ fold_out-Record ℕ ℕ ℕ nesting_step field_nesting_step record_nesting_step r

nesting_field : (g : AvroField) → field_nesting g ≡ suc (nesting g.schema)
unfolding nesting
nesting_field g = fold_out-AvroField ℕ ℕ ℕ nesting_step field_nesting_step record_nesting_step g

-- deeper still
pub deeper : (d : ℕ) (s : Schema) → HasText d s → HasText (suc d) s
deeper d s h = record { utf8 = h.utf8; nested = omega (arith, h.nested) }

pub has_null : (d : ℕ) → HasText d variant.Null
has_null d = record { utf8 = subst IsUtf8 (sym text-Null) (constant (codes "\"null\"") tt); nested = omega (arith, nesting_null) }

pub has_boolean : (d : ℕ) → HasText d variant.Boolean
has_boolean d = record { utf8 = subst IsUtf8 (sym text-Boolean) (constant (codes "\"boolean\"") tt); nested = omega (arith, nesting_boolean) }

pub has_float : (d : ℕ) → HasText d variant.Float
has_float d = record { utf8 = subst IsUtf8 (sym text-Float) (constant (codes "\"float\"") tt); nested = omega (arith, nesting_float) }

pub has_double : (d : ℕ) → HasText d variant.Double
has_double d = record { utf8 = subst IsUtf8 (sym text-Double) (constant (codes "\"double\"") tt); nested = omega (arith, nesting_double) }

pub has_string : (d : ℕ) → HasText d (variant.String None)
has_string d = record { utf8 = subst IsUtf8 (sym (text-String None)) (constant (codes "\"string\"") tt); nested = omega (arith, nesting_string) }

pub has_bytes : (d : ℕ) → HasText d (variant.Bytes None)
has_bytes d = record { utf8 = subst IsUtf8 (sym (text-Bytes None)) (constant (codes "\"bytes\"") tt); nested = omega (arith, nesting_bytes) }

int_utf8 : (logical : Option IntLogical) → IsUtf8 (int_text logical)
int_utf8 None = constant (int_text None) tt
int_utf8 (Some int.Date) = constant (int_text (Some int.Date)) tt
int_utf8 (Some int.Time) = constant (int_text (Some int.Time)) tt

pub has_int : (d : ℕ) (logical : Option IntLogical) → logical_nesting logical ≤ d → HasText d (variant.Int logical)
has_int d logical l = record { utf8 = subst IsUtf8 (sym (text-Int logical)) (int_utf8 logical); nested = omega (arith, nesting_int logical, l) }

long_utf8 : (logical : Option LongLogical) → IsUtf8 (long_text logical)
long_utf8 None = constant (long_text None) tt
long_utf8 (Some long.Time) = constant (long_text (Some long.Time)) tt
long_utf8 (Some long.TimestampMillis) = constant (long_text (Some long.TimestampMillis)) tt
long_utf8 (Some long.TimestampMicros) = constant (long_text (Some long.TimestampMicros)) tt
long_utf8 (Some long.TimestampNanos) = constant (long_text (Some long.TimestampNanos)) tt
long_utf8 (Some long.LocalTimestampMillis) = constant (long_text (Some long.LocalTimestampMillis)) tt
long_utf8 (Some long.LocalTimestampMicros) = constant (long_text (Some long.LocalTimestampMicros)) tt
long_utf8 (Some long.LocalTimestampNanos) = constant (long_text (Some long.LocalTimestampNanos)) tt

pub has_long : (d : ℕ) (logical : Option LongLogical) → logical_nesting logical ≤ d → HasText d (variant.Long logical)
has_long d logical l = record { utf8 = subst IsUtf8 (sym (text-Long logical)) (long_utf8 logical); nested = omega (arith, nesting_long logical, l) }

decimal_utf8 : (precision scale : ℕ) → IsUtf8 (codes ",\"logicalType\":\"decimal\",\"precision\":" ++ decimal precision ++ codes ",\"scale\":" ++ decimal scale)
decimal_utf8 precision scale =
    chain (codes ",\"logicalType\":\"decimal\",\"precision\":") (constant (codes ",\"logicalType\":\"decimal\",\"precision\":") tt) (decimal precision ∷ codes ",\"scale\":" ∷ decimal scale ∷ [])
    (number_utf8 precision, (constant (codes ",\"scale\":") tt, (number_utf8 scale, tt)))

pub has_decimal : (d precision scale : ℕ) → 1 ≤ d → HasText d (variant.Bytes (Some (bytes.Decimal precision scale)))
has_decimal d precision scale l = record {
  utf8 =
      subst IsUtf8 (sym (text-Bytes (Some (bytes.Decimal precision scale))))
      (chain (codes "{\"type\":\"bytes\"") (constant (codes "{\"type\":\"bytes\"") tt) (decimal_text precision scale ∷ codes "}" ∷ []) (decimal_utf8 precision scale, (constant (codes "}") tt, tt)));
  nested = omega (arith, nesting_decimal precision scale, l);
}

logical_utf8 : (logical : Option FixedLogical) → IsUtf8 (fixed_logical_text logical)
logical_utf8 None = IsUtf8-nil
logical_utf8 (Some (fixed.Decimal precision scale)) = decimal_utf8 precision scale
logical_utf8 (Some fixed.Duration) = constant (fixed_logical_text (Some fixed.Duration)) tt

-- a fixed type without a namespace and a doc
abbrev pub plain_fixed : List ℕ → ℕ → Option FixedLogical → Fixed
plain_fixed name size logical = record { name = name; namespace = None; doc = None; size = size; logical = logical }

pub has_fixed : (d : ℕ) (name : List ℕ) (size : ℕ) (logical : Option FixedLogical) → IsUtf8 name → 1 ≤ d → HasText d (variant.Fixed (plain_fixed name size logical))
has_fixed d name size logical u l = record {
  utf8 =
      subst IsUtf8 (sym (text-Fixed (plain_fixed name size logical)))
      (chain (codes "{\"type\":\"fixed\",\"name\":") (constant (codes "{\"type\":\"fixed\",\"name\":") tt)
      (json_string name ∷ [] ∷ [] ∷ codes ",\"size\":" ∷ decimal size ∷ fixed_logical_text logical ∷ codes "}" ∷ [])
      (string_utf8 name u, (IsUtf8-nil, (IsUtf8-nil, (constant (codes ",\"size\":") tt, (number_utf8 size, (logical_utf8 logical, (constant (codes "}") tt, tt))))))));
  nested = omega (arith, nesting_fixed (plain_fixed name size logical), l);
}

pub has_array : (d : ℕ) (s : Schema) → HasText d s → HasText (suc d) (variant.Array s)
has_array d s h = record {
  utf8 =
      subst IsUtf8 (sym (text-Array s))
      (chain (codes "{\"type\":\"array\",\"items\":") (constant (codes "{\"type\":\"array\",\"items\":") tt) (schema_text_of s ∷ codes "}" ∷ []) (h.utf8, (constant (codes "}") tt, tt)));
  nested = omega (arith, nesting_array s, h.nested);
}

-- a union of null and another
pub has_optional : (d : ℕ) (s : Schema) → HasText d s → HasText (suc d) (variant.Union (variant.Null ∷ s ∷ []))
has_optional d s h =
    let members = schema_text_of variant.Null ∷ schema_text_of s ∷ [] in
    record {
      utf8 =
          subst IsUtf8 (sym (text-Union (variant.Null ∷ s ∷ [])))
          (chain (codes "[") (constant (codes "[") tt) (joined members ∷ codes "]" ∷ []) (joined_utf8 members ((has_null d).utf8, (h.utf8, tt)), (constant (codes "]") tt, tt)));
      nested = omega (arith, nesting_union (variant.Null ∷ s ∷ []), nesting_null, h.nested);
    }

-- ---- records

pub has_field : (d : ℕ) (name : List ℕ) (s : Schema) → IsUtf8 name → HasText d s → FieldHasText (suc d) (record { name = name; doc = None; schema = s })
has_field d name s u h = record {
  utf8 =
      subst IsUtf8 (sym (field-text (record { name = name; doc = None; schema = s })))
      (chain (codes "{\"name\":") (constant (codes "{\"name\":") tt) (json_string name ∷ [] ∷ codes ",\"type\":" ∷ schema_text_of s ∷ codes "}" ∷ [])
      (string_utf8 name u, (IsUtf8-nil, (constant (codes ",\"type\":") tt, (h.utf8, (constant (codes "}") tt, tt))))));
  nested = omega (arith, nesting_field (record { name = name; doc = None; schema = s }), h.nested);
}

texts_utf8 : (d : ℕ) (gs : List AvroField) → AllByRecursion (FieldHasText d) gs → AllByRecursion IsUtf8 (map field_text_of gs)
texts_utf8 d [] all = tt
texts_utf8 d (g ∷ gs) all = (all.0.utf8, texts_utf8 d gs all.1)

greatest_field : (d : ℕ) (gs : List AvroField) → AllByRecursion (FieldHasText d) gs → greatest (map field_nesting gs) ≤ d
greatest_field d [] all = omega arith
greatest_field d (g ∷ gs) all = omega (arith, all.0.nested, greatest_field d gs all.1)

absent : (key : List ℕ) (o : Option (List ℕ)) → o ≡ None → IsUtf8 (given key o)
absent key o e = subst (λ z. IsUtf8 (given key z)) (sym e) IsUtf8-nil

pub has_record : (d : ℕ) (r : TheRecord) → IsUtf8 (out-Record r).name → (out-Record r).namespace ≡ None → (out-Record r).doc ≡ None → AllByRecursion (FieldHasText d) (out-Record r).fields → HasText (suc (suc d)) (variant.Record r)
has_record d r u namespace doc all =
    let o = out-Record r in
    let fields = map field_text_of o.fields in
    record {
      utf8 =
          subst IsUtf8 (sym (text-Record r ∙ record-text r))
          (chain (codes "{\"type\":\"record\",\"name\":") (constant (codes "{\"type\":\"record\",\"name\":") tt)
          (json_string o.name ∷ given (codes ",\"namespace\":") o.namespace ∷ given (codes ",\"doc\":") o.doc ∷ codes ",\"fields\":[" ∷ joined fields ∷ codes "]}" ∷ [])
          (string_utf8 o.name u, (absent (codes ",\"namespace\":") o.namespace namespace, (absent (codes ",\"doc\":") o.doc doc, (constant (codes ",\"fields\":[") tt, (joined_utf8 fields (texts_utf8 d o.fields all), (constant (codes "]}") tt, tt)))))));
      nested = omega (arith, nesting_record r, greatest_field d o.fields all);
    }
