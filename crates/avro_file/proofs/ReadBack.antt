-- The text of a writable schema is read back.
use Rattle.std.proofs.Common.{◌≡◌, ◌⊎◌, inl, inr, ℕ, zero, suc, ◌+◌, ◌≤◌, Bool, true, List, [], ◌∷◌, ◌++◌, map, Option, Some, None, codes, refl, sym, ap, ◌∙◌, subst, append-nil, arith}
use denote.Hole.Holds.{Such}
use Rattle.arrow_base.specs.WrittenString.{json_string}
use Rattle.json_tree.specs.Tree.{Json, string, array, object}
use Rattle.json_tree.specs.Keys.{value_of}
use Rattle.json_tree.specs.Layout.{put}
use Rattle.json_tree.specs.Grammar.{Encodes, IsText}
use Rattle.json_tree.specs.Reading.{put_together, text_at}
use Rattle.json_tree.specs.Reading as json
use Rattle.json_tree.proofs.Completing.{deep-too_many}
use Rattle.json_tree.proofs.Reaching.{IsDeep}
use Rattle.json_tree.proofs.TextLaws.{text-answers, json-found, deep-why}
use Rattle.avro_schema.specs.declared.schema.Schema.{Schema, roll-Schema, fold-roll-Schema}
use Rattle.avro_schema.specs.declared.schema.Schema.TheOpen as layer
use Rattle.avro_schema.specs.declared.schema.Schema.TheVariants as variant
use Rattle.avro_schema.specs.declared.schema.Schema.TheFolds as folds
use Rattle.avro_schema.specs.declared.schema.Schema.TheBlock.{the_family, member-Schema, member-AvroField, member-Record}
use Rattle.avro_schema.specs.declared.schema.Record.{Record, Record-F, roll-Record, fold-Record, fold-roll-Record}
use Rattle.avro_schema.specs.declared.schema.AvroField.{AvroField, AvroField-F, roll-AvroField, fold-AvroField, fold-roll-AvroField}
use Rattle.avro_file.specs.Outcome.{Outcome, found, then_for, each}
use Rattle.avro_file.specs.Reading.{reading, field, typed_as, typed, IsSchemaText}
use Rattle.avro_file.specs.Writable.{IsWritable, numbers_fit, fits_step, field_fits_step, record_fits_step, all_fit}
use Rattle.arrow_base.specs.Joined.{joined}
use Rattle.avro_file.specs.Writing.{schema_text_of, field_text_of, record_text_of, schema_step, field_step, record_step, given}
use Rattle.avro_file.proofs.Appends.{six, seven}
use Rattle.avro_file.proofs.Backs.{Back, AllBack, IsBack, all_back, above}
use Rattle.avro_file.proofs.JsonTexts.{Members, AllEncode, optional, one_more_member, optional_member, object_encodes, string_encodes, array_encodes, no_more}
use Rattle.avro_file.proofs.Layers.{attributes_are, schema_array}
use Rattle.avro_file.proofs.Members.{attributes_by, text_value, named_members, namespace_there, doc_there, last_there, named_encodes, object_reads, string_there, items_there}
use Rattle.avro_file.proofs.Nesting.{nesting, nesting_step, field_nesting_step, record_nesting_step, greatest}
use Rattle.avro_file.proofs.Parts.{record_is, inner_is, field_is}
use Rattle.avro_file.proofs.Stable.{stable}
use Rattle.avro_file.proofs.Texts.{text-Record, text-Array, text-Map, text-Union}
use Rattle.avro_file.proofs.WrittenTypes.{SchemaBack, read_schema, one_list, array_last, fields_alone, back-Null, back-Boolean, back-Int, back-Long, back-Float, back-Double, back-Bytes, back-String, back-Enum, back-Fixed}

abbrev read_field : ℕ → Json → Outcome AvroField
read_field k = field (reading k)

abbrev field_fits : AvroField → Bool
field_fits = fold-AvroField Bool Bool Bool fits_step field_fits_step record_fits_step

abbrev field_nesting : AvroField → ℕ
field_nesting = fold-AvroField ℕ ℕ ℕ nesting_step field_nesting_step record_nesting_step

abbrev record_fits : Record → Bool
record_fits = fold-Record Bool Bool Bool fits_step field_fits_step record_fits_step

abbrev record_nesting : Record → ℕ
record_nesting = fold-Record ℕ ℕ ℕ nesting_step field_nesting_step record_nesting_step

abbrev FieldBack : AvroField → Type 0
FieldBack = IsBack field_text_of read_field field_fits field_nesting

-- the text of the record is that of a value with at most d brackets open at once, which is read as the record
record RecordAt (d : ℕ) (r : Record) : Type 0 where
  value : Json
  encodes : Encodes d value (record_text_of r)
  reads : (k : ℕ) → d ≤ k → reading (suc k) value ≡ found (variant.Record r)

abbrev RecordBack : Record → Type 0
RecordBack r = record_fits r ≡ true → (d : ℕ) → record_nesting r ≤ d → RecordAt d r

-- ---- "Arrays" and "Maps"

abbrev holder : List ℕ → List ℕ → Json → Members
holder type key value = (codes "type", string type) ∷ (key, value) ∷ []

module _ (s : Schema) where
  fits-Array : numbers_fit (variant.Array s) ≡ numbers_fit s
  unfolding numbers_fit
  fits-Array = ap numbers_fit (sym (variant.rolls-Array s)) ∙ fold-roll-Schema Bool Bool Bool fits_step field_fits_step record_fits_step (layer.Array s)

  nesting-Array : nesting (variant.Array s) ≡ suc (nesting s)
  unfolding nesting
  nesting-Array = ap nesting (sym (variant.rolls-Array s)) ∙ fold-roll-Schema ℕ ℕ ℕ nesting_step field_nesting_step record_nesting_step (layer.Array s)

  fits-Map : numbers_fit (variant.Map s) ≡ numbers_fit s
  unfolding numbers_fit
  fits-Map = ap numbers_fit (sym (variant.rolls-Map s)) ∙ fold-roll-Schema Bool Bool Bool fits_step field_fits_step record_fits_step (layer.Map s)

  nesting-Map : nesting (variant.Map s) ≡ suc (nesting s)
  unfolding nesting
  nesting-Map = ap nesting (sym (variant.rolls-Map s)) ∙ fold-roll-Schema ℕ ℕ ℕ nesting_step field_nesting_step record_nesting_step (layer.Map s)

  array_read : (value : Json) (k : ℕ) → reading (suc k) value ≡ found s → reading (suc (suc k)) (object (holder (codes "array") (codes "items") value)) ≡ found (variant.Array s)
  unfolding typed_as typed
  array_read value k e =
      let ms = holder (codes "array") (codes "items") value in
      object_reads (suc k) ms (codes "array") refl ∙ ap (then_for variant.Array) (inner_is (attributes_by ms) (reading (suc k)) (codes "items") value refl ∙ e)

  map_read : (value : Json) (k : ℕ) → reading (suc k) value ≡ found s → reading (suc (suc k)) (object (holder (codes "map") (codes "values") value)) ≡ found (variant.Map s)
  unfolding typed_as typed
  map_read value k e =
      let ms = holder (codes "map") (codes "values") value in
      object_reads (suc k) ms (codes "map") refl ∙ ap (then_for variant.Map) (inner_is (attributes_by ms) (reading (suc k)) (codes "values") value refl ∙ e)

  array_encodes_back : (d : ℕ) (value : Json) → Encodes d value (schema_text_of s) → Encodes (suc d) (object (holder (codes "array") (codes "items") value)) (schema_text_of (variant.Array s))
  unfolding put
  array_encodes_back d value h =
      let ms = holder (codes "array") (codes "items") value in
      let last = one_more_member d (codes "items") value (schema_text_of s) [] (0x7d ∷ []) h (no_more d) in
      subst (λ b. Encodes (suc d) (object ms) b) (sym (text-Array s)) (object_encodes d (codes "type") (string (codes "array")) (json_string (codes "array")) _ _ (string_encodes d (codes "array")) last refl)

  map_encodes : (d : ℕ) (value : Json) → Encodes d value (schema_text_of s) → Encodes (suc d) (object (holder (codes "map") (codes "values") value)) (schema_text_of (variant.Map s))
  unfolding put
  map_encodes d value h =
      let ms = holder (codes "map") (codes "values") value in
      let last = one_more_member d (codes "values") value (schema_text_of s) [] (0x7d ∷ []) h (no_more d) in
      subst (λ b. Encodes (suc d) (object ms) b) (sym (text-Map s)) (object_encodes d (codes "type") (string (codes "map")) (json_string (codes "map")) _ _ (string_encodes d (codes "map")) last refl)

  module _ (is : SchemaBack s) where
    back-Array : SchemaBack (variant.Array s)
    back-Array fits zero l = absurd (omega (arith, nesting-Array, l))
    back-Array fits (suc d) l =
        let one = is (sym fits-Array ∙ fits) d (omega (arith, nesting-Array, l)) in
        record {
          value = object (holder (codes "array") (codes "items") one.value);
          encodes = array_encodes_back d one.value one.encodes;
          reads = above d (λ k. reading (suc k) (object (holder (codes "array") (codes "items") one.value)) ≡ found (variant.Array s)) (λ k m. array_read one.value k (one.reads k m));
        }

    back-Map : SchemaBack (variant.Map s)
    back-Map fits zero l = absurd (omega (arith, nesting-Map, l))
    back-Map fits (suc d) l =
        let one = is (sym fits-Map ∙ fits) d (omega (arith, nesting-Map, l)) in
        record {
          value = object (holder (codes "map") (codes "values") one.value);
          encodes = map_encodes d one.value one.encodes;
          reads = above d (λ k. reading (suc k) (object (holder (codes "map") (codes "values") one.value)) ≡ found (variant.Map s)) (λ k m. map_read one.value k (one.reads k m));
        }

-- ---- "Unions"

module _ (ms : List Schema) where
  fits-Union : numbers_fit (variant.Union ms) ≡ all_fit (map numbers_fit ms)
  unfolding numbers_fit
  fits-Union = ap numbers_fit (sym (variant.rolls-Union ms)) ∙ fold-roll-Schema Bool Bool Bool fits_step field_fits_step record_fits_step (layer.Union ms)

  nesting-Union : nesting (variant.Union ms) ≡ suc (greatest (map nesting ms))
  unfolding nesting
  nesting-Union = ap nesting (sym (variant.rolls-Union ms)) ∙ fold-roll-Schema ℕ ℕ ℕ nesting_step field_nesting_step record_nesting_step (layer.Union ms)

  union_read : (items : List Json) (k : ℕ) → each (map (read_schema k) items) ≡ found ms → reading (suc (suc k)) (array items) ≡ found (variant.Union ms)
  unfolding reading
  union_read items k e = schema_array (reading (suc k)) (array items) items refl ∙ ap (then_for variant.Union) e

  back-Union : ((d : ℕ) → all_fit (map numbers_fit ms) ≡ true → greatest (map nesting ms) ≤ d → AllBack schema_text_of read_schema d ms) → SchemaBack (variant.Union ms)
  back-Union all fits zero l = absurd (omega (arith, nesting-Union, l))
  back-Union all fits (suc d) l =
      let back = all d (sym fits-Union ∙ fits) (omega (arith, nesting-Union, l)) in
      record {
        value = array back.items;
        encodes = subst (λ b. Encodes (suc d) (array back.items) b) (sym (text-Union ms)) (array_encodes d back.items (map schema_text_of ms) back.encode);
        reads = above d (λ k. reading (suc k) (array back.items) ≡ found (variant.Union ms)) (λ k m. union_read back.items k (back.reads k m));
      }

-- ---- "Records": a field

abbrev field_members : List ℕ → Option (List ℕ) → Json → Members
field_members name doc value = (codes "name", string name) ∷ optional (codes "doc") doc ((codes "type", value) ∷ [])

field_alone : (name : List ℕ) (doc : Option (List ℕ)) (value : Json) → put_together (field_members name doc value) ≡ field_members name doc value
unfolding put
field_alone name None value = refl
field_alone name (Some d) value = refl

field_doc : (name : List ℕ) (doc : Option (List ℕ)) (value : Json) → value_of (codes "doc") (field_members name doc value) ≡ text_value doc
field_doc name None value = refl
field_doc name (Some d) value = refl

field_type : (name : List ℕ) (doc : Option (List ℕ)) (value : Json) → value_of (codes "type") (field_members name doc value) ≡ Some value
field_type name None value = refl
field_type name (Some d) value = refl

module _ (x : AvroField-F Schema AvroField Record) where
  field-fits : field_fits (roll-AvroField x) ≡ numbers_fit x.schema
  unfolding numbers_fit
  field-fits = fold-roll-AvroField Bool Bool Bool fits_step field_fits_step record_fits_step x

  field-nesting : field_nesting (roll-AvroField x) ≡ suc (nesting x.schema)
  unfolding nesting
  field-nesting = fold-roll-AvroField ℕ ℕ ℕ nesting_step field_nesting_step record_nesting_step x

  field-text : field_text_of (roll-AvroField x) ≡ codes "{\"name\":" ++ json_string x.name ++ given (codes ",\"doc\":") x.doc ++ codes ",\"type\":" ++ schema_text_of x.schema ++ codes "}"
  unfolding field_text_of schema_text_of
  field-text = fold-roll-AvroField (List ℕ) (List ℕ) (List ℕ) schema_step field_step record_step x

  field_encodes : (d : ℕ) (value : Json) → Encodes d value (schema_text_of x.schema) → Encodes (suc d) (object (field_members x.name x.doc value)) (field_text_of (roll-AvroField x))
  field_encodes d value h =
      let types = one_more_member d (codes "type") value (schema_text_of x.schema) [] (0x7d ∷ []) h (no_more d) in
      let docs = optional_member d (codes "doc") (codes ",\"doc\":") x.doc _ _ refl types in
      subst (λ b. Encodes (suc d) (object (field_members x.name x.doc value)) b) (sym (field-text ∙ six (codes "{\"name\":") (json_string x.name) (given (codes ",\"doc\":") x.doc) (codes ",\"type\":") (schema_text_of x.schema) (codes "}")))
      (object_encodes d (codes "name") (string x.name) (json_string x.name) _ _ (string_encodes d x.name) docs (field_alone x.name x.doc value))

  field_read : (value : Json) (k : ℕ) → reading (suc k) value ≡ found x.schema → field (reading (suc k)) (object (field_members x.name x.doc value)) ≡ found (roll-AvroField x)
  field_read value k e =
      let ms = field_members x.name x.doc value in
      let name = string_there ms (codes "name") (Some x.name) refl in
      let doc = string_there ms (codes "doc") x.doc (field_doc x.name x.doc value) in
      field_is (reading (suc k)) (object ms) (attributes_by ms) (attributes_are (object ms) (attributes_by ms) refl) x.name value name (field_type x.name x.doc value)
      ∙ rw (e, doc) refl

  back-field : SchemaBack x.schema → FieldBack (roll-AvroField x)
  back-field is fits zero l = absurd (omega (arith, field-nesting, l))
  back-field is fits (suc d) l =
      let one = is (sym field-fits ∙ fits) d (omega (arith, field-nesting, l)) in
      record {
        value = object (field_members x.name x.doc one.value);
        encodes = field_encodes d one.value one.encodes;
        reads = above d (λ k. field (reading k) (object (field_members x.name x.doc one.value)) ≡ found (roll-AvroField x)) (λ k m. field_read one.value k (one.reads k m));
      }

-- ---- "Records"

module _ (x : Record-F Schema AvroField Record) where
  record-fits : record_fits (roll-Record x) ≡ all_fit (map field_fits x.fields)
  record-fits = fold-roll-Record Bool Bool Bool fits_step field_fits_step record_fits_step x

  record-nesting : record_nesting (roll-Record x) ≡ suc (suc (greatest (map field_nesting x.fields)))
  record-nesting = fold-roll-Record ℕ ℕ ℕ nesting_step field_nesting_step record_nesting_step x

  record-text : record_text_of (roll-Record x) ≡ codes "{\"type\":\"record\",\"name\":" ++ json_string x.name ++ given (codes ",\"namespace\":") x.namespace ++ given (codes ",\"doc\":") x.doc ++ codes ",\"fields\":[" ++ joined (map field_text_of x.fields) ++ codes "]}"
  unfolding record_text_of field_text_of
  record-text = fold-roll-Record (List ℕ) (List ℕ) (List ℕ) schema_step field_step record_step x

  abbrev record_members : List Json → Members
  record_members items = named_members (codes "record") x.name x.namespace x.doc (one_list (codes "fields") items)

  record_encodes : (d : ℕ) (items : List Json) → AllEncode d items (map field_text_of x.fields) → Encodes (suc (suc d)) (object (record_members items)) (record_text_of (roll-Record x))
  record_encodes d items h =
      let last = array_last d (codes "fields") items (map field_text_of x.fields) h in
      subst (λ b. Encodes (suc (suc d)) (object (record_members items)) b) (sym (record-text ∙ seven (codes "{\"type\":\"record\",\"name\":") (json_string x.name) (given (codes ",\"namespace\":") x.namespace) (given (codes ",\"doc\":") x.doc) (codes ",\"fields\":[") (joined (map field_text_of x.fields)) (codes "]}")))
      (named_encodes (codes "record") x.name (suc d) x.namespace x.doc _ _ last (fields_alone (codes "record") x.name x.namespace x.doc items))

  record_read : (items : List Json) (k : ℕ) → each (map (read_field k) items) ≡ found x.fields → reading (suc k) (object (record_members items)) ≡ found (variant.Record (roll-Record x))
  unfolding typed_as typed
  record_read items k e =
      let ms = record_members items in
      let last = one_list (codes "fields") items in
      let name = string_there ms (codes "name") (Some x.name) refl in
      let namespace = string_there ms (codes "namespace") x.namespace (namespace_there (codes "record") x.name x.namespace x.doc last refl) in
      let doc = string_there ms (codes "doc") x.doc (doc_there (codes "record") x.name x.namespace x.doc last refl) in
      let fields = items_there ms (codes "fields") items (last_there (codes "record") x.name (codes "fields") refl refl refl refl x.namespace x.doc last) in
      object_reads k ms (codes "record") refl ∙ record_is (attributes_by ms) (reading k) x.name items name fields ∙ rw (e, namespace, doc) refl

  back-record : ((d : ℕ) → all_fit (map field_fits x.fields) ≡ true → greatest (map field_nesting x.fields) ≤ d → AllBack field_text_of read_field d x.fields) → RecordBack (roll-Record x)
  back-record all fits zero l = absurd (omega (arith, record-nesting, l))
  back-record all fits (suc zero) l = absurd (omega (arith, record-nesting, l))
  back-record all fits (suc (suc d)) l =
      let back = all d (sym record-fits ∙ fits) (omega (arith, record-nesting, l)) in
      record {
        value = object (record_members back.items);
        encodes = record_encodes d back.items back.encode;
        reads = λ k m. record_read back.items k (back.reads k (omega (arith, m)));
      }

module _ (r : Record) where
  fits-Record : numbers_fit (variant.Record r) ≡ record_fits r
  unfolding numbers_fit
  fits-Record = ap numbers_fit (sym (variant.rolls-Record r)) ∙ fold-roll-Schema Bool Bool Bool fits_step field_fits_step record_fits_step (layer.Record r)

  nesting-Record : nesting (variant.Record r) ≡ record_nesting r
  unfolding nesting
  nesting-Record = ap nesting (sym (variant.rolls-Record r)) ∙ fold-roll-Schema ℕ ℕ ℕ nesting_step field_nesting_step record_nesting_step (layer.Record r)

  back-Record : RecordBack r → SchemaBack (variant.Record r)
  back-Record is fits d l =
      let back = is (sym fits-Record ∙ fits) d (omega (arith, nesting-Record, l)) in
      record { value = back.value; encodes = subst (λ b. Encodes d back.value b) (sym (text-Record r)) back.encodes; reads = back.reads }

-- ---- all of them

abbrev SuchSchema : Type 0
SuchSchema = Such the_family (folds.claims SchemaBack FieldBack RecordBack) member-Schema

abbrev SuchField : Type 0
SuchField = Such the_family (folds.claims SchemaBack FieldBack RecordBack) member-AvroField

abbrev SuchRecord : Type 0
SuchRecord = Such the_family (folds.claims SchemaBack FieldBack RecordBack) member-Record

layer_back : (y : layer.Schema-F SuchSchema SuchField SuchRecord) → SchemaBack (roll-Schema (folds.map-Schema SuchSchema SuchField SuchRecord Schema AvroField Record (λ e. e.0) (λ e. e.0) (λ e. e.0) y))
layer_back layer.Null = subst SchemaBack (sym variant.rolls-Null) back-Null
layer_back layer.Boolean = subst SchemaBack (sym variant.rolls-Boolean) back-Boolean
layer_back (layer.Int logical) = subst SchemaBack (sym (variant.rolls-Int logical)) (back-Int logical)
layer_back (layer.Long logical) = subst SchemaBack (sym (variant.rolls-Long logical)) (back-Long logical)
layer_back layer.Float = subst SchemaBack (sym variant.rolls-Float) back-Float
layer_back layer.Double = subst SchemaBack (sym variant.rolls-Double) back-Double
layer_back (layer.Bytes logical) = subst SchemaBack (sym (variant.rolls-Bytes logical)) (back-Bytes logical)
layer_back (layer.String logical) = subst SchemaBack (sym (variant.rolls-String logical)) (back-String logical)
layer_back (layer.Record r) = subst SchemaBack (sym (variant.rolls-Record r.0)) (back-Record r.0 r.1)
layer_back (layer.Enum e) = subst SchemaBack (sym (variant.rolls-Enum e)) (back-Enum e)
layer_back (layer.Array s) = subst SchemaBack (sym (variant.rolls-Array s.0)) (back-Array s.0 s.1)
layer_back (layer.Map s) = subst SchemaBack (sym (variant.rolls-Map s.0)) (back-Map s.0 s.1)
layer_back (layer.Union ms) =
    subst SchemaBack (sym (variant.rolls-Union (map (λ (e : SuchSchema). e.0) ms)))
    (back-Union (map (λ (e : SuchSchema). e.0) ms) (all_back schema_text_of read_schema numbers_fit nesting (λ (e : SuchSchema). e.0) (λ e. e.1) ms))
layer_back (layer.Fixed f) = subst SchemaBack (sym (variant.rolls-Fixed f)) (back-Fixed f)

pub schema_back : (s : Schema) → SchemaBack s
schema_back =
    folds.ind-Schema SchemaBack FieldBack RecordBack
    (λ x y is. subst (λ z. SchemaBack (roll-Schema z)) is (layer_back y))
    (λ x y is. subst (λ z. FieldBack (roll-AvroField z)) is (back-field _ y.schema.1))
    (λ x y is. subst (λ z. RecordBack (roll-Record z)) is (back-record _ (all_back field_text_of read_field field_fits field_nesting (λ (e : SuchField). e.0) (λ e. e.1) y.fields)))

pub read_back : (s : Schema) → IsWritable s → IsSchemaText (schema_text_of s) s
read_back s h = at (text-answers (nesting s) 128 text back.value is)
  where
    text : List ℕ
    text = schema_text_of s

    back : Back schema_text_of read_schema (nesting s) s
    back = schema_back s h.numbers (nesting s) (omega arith)

    is : IsText (nesting s) back.value text
    is = (text, [], ([], text, tt, back.encodes, refl), tt, sym (append-nil text))

    at : (text_at 128 text ≡ json.found back.value []) ⊎ (text_at 128 text ≡ json.deep) → IsSchemaText text s
    at (inl e) =
        let j = json-found text [] back.value h.utf8 e in
        let all = stable 128 back.value (128, omega arith, j.1.2.1, j.1.2.3) 129 (suc (128 + nesting s)) (omega arith) (omega arith) in
        (back.value, j, all ∙ back.reads (128 + nesting s) (omega arith))
    at (inr e) = absurd (h.nested (deep-too_many text (subst IsDeep (append-nil text) (deep-why text [] h.utf8 e))))
