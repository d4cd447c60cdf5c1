-- The schema of columns for an Avro schema, and why none is made.
use Rattle.std.specs.Prelude.{ℕ, List, [], ◌∷◌, Option, Some, None}
use Rattle.arrow_core.specs.declared.error.Error.{Error}
use Rattle.arrow_core.specs.declared.error.Error.TheVariants.{NotYetImplemented, OutOfMemory}
use Rattle.arrow_core.specs.declared.error.Reason.TheVariants as reason
use Rattle.avro_schema.specs.declared.schema.Schema.{Schema, Record, Array', Map', Union'}
use Rattle.avro_schema.specs.Inferred.{doc_key}

-- MapOrUnion comes where P holds alone; out of memory may come at any time
abbrev pub SchemaRefused : Type 0 → Error → Type 0
SchemaRefused P (NotYetImplemented reason.MapOrUnion) = P
SchemaRefused P OutOfMemory = Unit {0}
SchemaRefused P _ = ⊥

-- the metadata of a field: its doc alone
abbrev pub doc_entries : Option (List ℕ) → List (List ℕ × List ℕ)
doc_entries None = []
doc_entries (Some doc) = (doc_key, doc) ∷ []

-- the schema has no schemas in it
abbrev pub HasNoParts : Schema → Type 0
HasNoParts (Record r) = ⊥
HasNoParts (Array' shape item) = ⊥
HasNoParts (Map' shape value) = ⊥
HasNoParts (Union' shape members) = ⊥
HasNoParts _ = Unit {0}
