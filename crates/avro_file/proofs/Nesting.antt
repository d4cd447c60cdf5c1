-- How many brackets are open at once, at most, in the text of a schema.
use Rattle.std.specs.Prelude.{ℕ, suc, max, List, [], ◌∷◌, Option, Some, None}
use Rattle.avro_schema.specs.declared.schema.Schema.{Schema, Schema-F, fold-Schema}
use Rattle.avro_schema.specs.declared.schema.Schema.TheOpen as layer
use Rattle.avro_schema.specs.declared.schema.Record.{Record-F}
use Rattle.avro_schema.specs.declared.schema.AvroField.{AvroField-F}

-- the greatest of these
abbrev pub greatest : List ℕ → ℕ
greatest [] = 0
greatest (n ∷ ns) = max n (greatest ns)

-- a logical type makes an object of a primitive type
abbrev pub logical_nesting : {A : Type 0} → Option A → ℕ
logical_nesting None = 0
logical_nesting (Some logical) = 1

abbrev pub nesting_step : Schema-F ℕ ℕ ℕ → ℕ
nesting_step (layer.Int logical) = logical_nesting logical
nesting_step (layer.Long logical) = logical_nesting logical
nesting_step (layer.Bytes logical) = logical_nesting logical
nesting_step (layer.String logical) = logical_nesting logical
nesting_step (layer.Record n) = n
nesting_step (layer.Enum e) = 2
nesting_step (layer.Array n) = suc n
nesting_step (layer.Map n) = suc n
nesting_step (layer.Union ns) = suc (greatest ns)
nesting_step (layer.Fixed f) = 1
nesting_step _ = 0

abbrev pub field_nesting_step : AvroField-F ℕ ℕ ℕ → ℕ
field_nesting_step f = suc f.schema

abbrev pub record_nesting_step : Record-F ℕ ℕ ℕ → ℕ
record_nesting_step r = suc (suc (greatest r.fields))

unfoldable pub nesting : Schema → ℕ
nesting = fold-Schema ℕ ℕ ℕ nesting_step field_nesting_step record_nesting_step
