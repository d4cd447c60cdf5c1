-- Which bytes are the JSON text of an Avro schema, and why others are refused (Avro 1.11, "Schema Declaration").
use Rattle.std.specs.Prelude.{◌≡◌, ℕ, zero, suc, List, [], ◌∷◌, map, Option, Some, None, unwrap_or, codes}
use Rattle.arrow_core.specs.declared.error.Error.{Error}
use Rattle.arrow_core.specs.declared.error.Error.TheVariants.{ExternalFormat, NotYetImplemented, LimitExceeded, OutOfMemory}
use Rattle.arrow_core.specs.declared.error.Reason.TheVariants.{SchemaText, TypeReference}
use Rattle.json_tree.specs.Tree.{Json}
use Rattle.json_tree.specs.Keys.{value_of}
use Rattle.json_tree.specs.Meaning.{IsJson, HoldsTooMany}
use Rattle.json_tree.specs.declared.value.Value.{Value, out-Value, Value-F}
use Rattle.json_tree.specs.declared.value.Value.TheOpen as layer
use Rattle.json_tree.specs.declared.value.Object.{Object as Attributes}
use Rattle.avro_schema.specs.declared.schema.Schema.{Schema, Int, Long, Bytes, String, Record, Enum, Array, Map, Union, Fixed}
use Rattle.avro_schema.specs.declared.schema.Record.{roll-Record}
use Rattle.avro_schema.specs.declared.schema.AvroField.{AvroField}
use Rattle.avro_file.specs.Outcome.{Outcome, wrong, reference, found, then_for, need, each}
use Rattle.avro_file.specs.Attributes.{attribute, string_at, items_at, count_at, strings_of, attributes_of}
use Rattle.avro_file.specs.Types.{primitives, int_logical, long_logical, string_logical, bytes_logical, fixed_logical}
use Rattle.avro_file.specs.declared.fault.SchemaTextFault.{SchemaTextFault}
use Rattle.avro_file.specs.declared.fault.SchemaTextFault.TheVariants.{Form, Reference, Depth, Memory}

-- a type by its name: a primitive type, or one that is declared elsewhere ("Names")
abbrev pub named_by : Option Schema → Outcome Schema
named_by (Some schema) = found schema
named_by None = reference

unfoldable pub named : List ℕ → Outcome Schema
named name = named_by (value_of name primitives)

-- In what follows `inner` says what a schema within this one stands for.

-- a field of a record ("Records"): its default, order and aliases are passed over
unfoldable pub field : (Json → Outcome Schema) → Json → Outcome AvroField
field inner value =
    need (attributes_of value) (λ attributes. need (string_at (codes "name") attributes) (λ name. need (attribute (codes "type") attributes) (λ type.
    then_for (λ schema. record { name = name; doc = string_at (codes "doc") attributes; schema = schema }) (inner type))))

-- "Records"
unfoldable pub record_of : (Json → Outcome Schema) → Attributes → Outcome Schema
record_of inner attributes =
    need (string_at (codes "name") attributes) (λ name. need (items_at (codes "fields") attributes) (λ items.
    then_for (λ fields. Record (roll-Record (record { name = name; namespace = string_at (codes "namespace") attributes; doc = string_at (codes "doc") attributes; fields = fields }))) (each (map (field inner) items))))

-- an array of strings
abbrev pub strings : List Json → Outcome (List (List ℕ))
strings items = need (strings_of items) found

-- "Enums"
unfoldable pub enum_of : Attributes → Outcome Schema
enum_of attributes =
    need (string_at (codes "name") attributes) (λ name. need (items_at (codes "symbols") attributes) (λ items.
    then_for (λ symbols. Enum (record { name = name; namespace = string_at (codes "namespace") attributes; doc = string_at (codes "doc") attributes; symbols = symbols })) (strings items)))

-- "Arrays" and "Maps": the schema that one attribute gives
unfoldable pub inner_at : (Json → Outcome Schema) → List ℕ → Attributes → Outcome Schema
inner_at inner name attributes = need (attribute name attributes) inner

-- "Fixed"
unfoldable pub fixed_of : Attributes → Outcome Schema
fixed_of attributes =
    need (string_at (codes "name") attributes) (λ name. need (count_at (codes "size") attributes) (λ size.
    found (Fixed (record { name = name; namespace = string_at (codes "namespace") attributes; doc = string_at (codes "doc") attributes; size = size; logical = fixed_logical size attributes }))))

-- the types whose other attributes count, by the names of their types
unfoldable pub typed : (Json → Outcome Schema) → Attributes → List (List ℕ × Outcome Schema)
typed inner attributes =
    (codes "record", record_of inner attributes)
    ∷ (codes "enum", enum_of attributes)
    ∷ (codes "array", then_for Array (inner_at inner (codes "items") attributes))
    ∷ (codes "map", then_for Map (inner_at inner (codes "values") attributes))
    ∷ (codes "fixed", fixed_of attributes)
    ∷ (codes "int", found (Int (int_logical attributes)))
    ∷ (codes "long", found (Long (long_logical attributes)))
    ∷ (codes "bytes", found (Bytes (bytes_logical attributes)))
    ∷ (codes "string", found (String (string_logical attributes)))
    ∷ []

-- an object whose type has this name
unfoldable pub typed_as : (Json → Outcome Schema) → Attributes → List ℕ → Outcome Schema
typed_as inner attributes name = unwrap_or (value_of name (typed inner attributes)) (named name)

-- an object by its attribute `type`: a string names the type, and an object or an array is the schema
abbrev pub of_type : (Json → Outcome Schema) → Attributes → Json → Value-F Value Attributes → Outcome Schema
of_type inner attributes value (layer.String name) = typed_as inner attributes name
of_type inner attributes value (layer.Array items) = inner value
of_type inner attributes value (layer.Object more) = inner value
of_type inner attributes value _ = wrong

unfoldable pub of_object : (Json → Outcome Schema) → Attributes → Outcome Schema
of_object inner attributes = need (attribute (codes "type") attributes) (λ value. of_type inner attributes value (out-Value value))

-- a string names a type, an object declares one, and an array is a union of its items
abbrev pub of_layer : (Json → Outcome Schema) → Value-F Value Attributes → Outcome Schema
of_layer inner (layer.String name) = named name
of_layer inner (layer.Array items) = then_for Union (each (map inner items))
of_layer inner (layer.Object attributes) = of_object inner attributes
of_layer inner _ = wrong

unfoldable pub one_schema : (Json → Outcome Schema) → Json → Outcome Schema
one_schema inner value = of_layer inner (out-Value value)

-- what a JSON value stands for, where schemas nest at most so deep, itself counted
unfoldable pub reading : ℕ → Json → Outcome Schema
reading zero value = wrong
reading (suc depth) value = one_schema (reading depth) value

-- In a JSON text at most 128 brackets are open at once, and each schema in another stands in one more bracket: schemas nest at
-- most 129 deep.
abbrev pub schema_of : Json → Outcome Schema
schema_of = reading 129

-- the bytes are the JSON text of the schema
abbrev pub IsSchemaText : List ℕ → Schema → Type 0
IsSchemaText bytes schema = (value : Json) × IsJson value bytes × (schema_of value ≡ found schema)

-- the bytes are no text of a schema, and why
abbrev pub SchemaTextRefused : List ℕ → SchemaTextFault → Type 0
SchemaTextRefused bytes Depth = HoldsTooMany bytes
SchemaTextRefused bytes Form = (HoldsTooMany bytes → ⊥) × ((value : Json) → IsJson value bytes → schema_of value ≡ wrong)
SchemaTextRefused bytes Reference = (value : Json) × IsJson value bytes × (schema_of value ≡ reference)
SchemaTextRefused bytes Memory = Unit {0}

-- the error that a fault becomes
abbrev pub IsErrorOf : SchemaTextFault → Error → Type 0
IsErrorOf Form e = e ≡ ExternalFormat SchemaText
IsErrorOf Reference e = e ≡ NotYetImplemented TypeReference
IsErrorOf Depth e = e ≡ LimitExceeded
IsErrorOf Memory e = e ≡ OutOfMemory
