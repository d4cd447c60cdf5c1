-- A schema without the names that words don't say, layer by layer.
use Rattle.std.proofs.Common.{◌≡◌, ◌∙◌, true, List, [], map, Some, None, refl, sym, ap}
use Rattle.std.specs.Prelude.{option_map}
use Rattle.std.proofs.lemmas.Option.{same_Some}
use Rattle.avro_schema.specs.declared.schema.AvroField.{AvroField, fold-AvroField, fold_out-AvroField, roll-AvroField, out-AvroField}
use Rattle.avro_schema.specs.declared.schema.Record.{Record as TheRecord, fold_out-Record, roll-Record, out-Record}
use Rattle.avro_schema.specs.declared.schema.Schema.{Schema, Schema-F, fold-roll-Schema, out-Schema, roll-Schema, roll-out-Schema, Null, Boolean, Int, Long, Float, Double, Bytes, String, Record, Array, Map, Union}
use Rattle.avro_schema.specs.declared.schema.Schema.TheOpen as layer
use Rattle.avro_schema.specs.declared.schema.Schema.TheVariants as variant
use Rattle.avro_schema.specs.TypeExamples.{fixed_of}
use Rattle.avro_schema.specs.Encodes.{is_null}
use Rattle.cli_words.specs.Printed.{schema_unnamed, field_unnamed, record_unnamed, unnamed, members_of, layer_members}
use Rattle.cli_words.specs.Types.{record_of, enum_of}
use Rattle.cli_words.proofs.Bytes.{false_true}

abbrev pub Layer : Type 0
Layer = Schema-F Schema AvroField TheRecord

abbrev pub unnamed_field : AvroField → AvroField
unnamed_field = fold-AvroField Schema AvroField TheRecord schema_unnamed field_unnamed record_unnamed

abbrev pub bare_fields : List AvroField → TheRecord
bare_fields fields = roll-Record (record { name = []; namespace = None; doc = None; fields = fields })

-- the schema of a layer, without names
abbrev pub without : Layer → Schema
without layer.Null = Null
without layer.Boolean = Boolean
without (layer.Int logical) = Int logical
without (layer.Long logical) = Long logical
without layer.Float = Float
without layer.Double = Double
without (layer.Bytes logical) = Bytes logical
without (layer.String logical) = String logical
without (layer.Record r) = record_of (map unnamed_field (out-Record r).fields)
without (layer.Enum e) = enum_of e.symbols
without (layer.Array item) = Array (unnamed item)
without (layer.Map value) = Map (unnamed value)
without (layer.Union members) = Union (map unnamed members)
without (layer.Fixed f) = fixed_of f.size f.logical

step : (l : Layer) → unnamed (roll-Schema l) ≡ without l
unfolding unnamed
step layer.Null = fold-roll-Schema Schema AvroField TheRecord schema_unnamed field_unnamed record_unnamed layer.Null
step layer.Boolean = fold-roll-Schema Schema AvroField TheRecord schema_unnamed field_unnamed record_unnamed layer.Boolean
step (layer.Int logical) = fold-roll-Schema Schema AvroField TheRecord schema_unnamed field_unnamed record_unnamed (layer.Int logical)
step (layer.Long logical) = fold-roll-Schema Schema AvroField TheRecord schema_unnamed field_unnamed record_unnamed (layer.Long logical)
step layer.Float = fold-roll-Schema Schema AvroField TheRecord schema_unnamed field_unnamed record_unnamed layer.Float
step layer.Double = fold-roll-Schema Schema AvroField TheRecord schema_unnamed field_unnamed record_unnamed layer.Double
step (layer.Bytes logical) = fold-roll-Schema Schema AvroField TheRecord schema_unnamed field_unnamed record_unnamed (layer.Bytes logical)
step (layer.String logical) = fold-roll-Schema Schema AvroField TheRecord schema_unnamed field_unnamed record_unnamed (layer.String logical)
step (layer.Record r) = fold-roll-Schema Schema AvroField TheRecord schema_unnamed field_unnamed record_unnamed (layer.Record r) ∙ ap Record (fold_out-Record Schema AvroField TheRecord schema_unnamed field_unnamed record_unnamed r)
step (layer.Enum e) = fold-roll-Schema Schema AvroField TheRecord schema_unnamed field_unnamed record_unnamed (layer.Enum e)
step (layer.Array item) = fold-roll-Schema Schema AvroField TheRecord schema_unnamed field_unnamed record_unnamed (layer.Array item)
step (layer.Map value) = fold-roll-Schema Schema AvroField TheRecord schema_unnamed field_unnamed record_unnamed (layer.Map value)
step (layer.Union members) = fold-roll-Schema Schema AvroField TheRecord schema_unnamed field_unnamed record_unnamed (layer.Union members)
step (layer.Fixed f) = fold-roll-Schema Schema AvroField TheRecord schema_unnamed field_unnamed record_unnamed (layer.Fixed f)

pub unnamed_is : (s : Schema) (l : Layer) → out-Schema s ≡ l → unnamed s ≡ without l
unnamed_is s l e = ap unnamed (sym (roll-out-Schema s) ∙ ap roll-Schema e) ∙ step l

field_is : (f : AvroField) → unnamed_field f ≡ roll-AvroField (record { name = (out-AvroField f).name; doc = None; schema = unnamed (out-AvroField f).schema })
unfolding unnamed
field_is f = fold_out-AvroField Schema AvroField TheRecord schema_unnamed field_unnamed record_unnamed f

pub name_is : (f : AvroField) → (unnamed_field f).name ≡ f.name
name_is f = ap (λ (g : AvroField). g.name) (field_is f)

pub doc_is : (f : AvroField) → (unnamed_field f).doc ≡ None
doc_is f = ap (λ (g : AvroField). g.doc) (field_is f)

pub schema_is : (f : AvroField) → (unnamed_field f).schema ≡ unnamed f.schema
schema_is f = ap (λ (g : AvroField). g.schema) (field_is f)

-- the layer of what is without names
abbrev pub bare : Layer → Layer
bare layer.Null = layer.Null
bare layer.Boolean = layer.Boolean
bare (layer.Int logical) = layer.Int logical
bare (layer.Long logical) = layer.Long logical
bare layer.Float = layer.Float
bare layer.Double = layer.Double
bare (layer.Bytes logical) = layer.Bytes logical
bare (layer.String logical) = layer.String logical
bare (layer.Record r) = layer.Record (bare_fields (map unnamed_field (out-Record r).fields))
bare (layer.Enum e) = layer.Enum (record { name = []; namespace = None; doc = None; symbols = e.symbols })
bare (layer.Array item) = layer.Array (unnamed item)
bare (layer.Map value) = layer.Map (unnamed value)
bare (layer.Union members) = layer.Union (map unnamed members)
bare (layer.Fixed f) = layer.Fixed (record { name = []; namespace = None; doc = None; size = f.size; logical = f.logical })

out_without : (l : Layer) → out-Schema (without l) ≡ bare l
out_without layer.Null = variant.outs-Null
out_without layer.Boolean = variant.outs-Boolean
out_without (layer.Int logical) = variant.outs-Int logical
out_without (layer.Long logical) = variant.outs-Long logical
out_without layer.Float = variant.outs-Float
out_without layer.Double = variant.outs-Double
out_without (layer.Bytes logical) = variant.outs-Bytes logical
out_without (layer.String logical) = variant.outs-String logical
out_without (layer.Record r) = variant.outs-Record _
out_without (layer.Enum e) = variant.outs-Enum _
out_without (layer.Array item) = variant.outs-Array _
out_without (layer.Map value) = variant.outs-Map _
out_without (layer.Union members) = variant.outs-Union _
out_without (layer.Fixed f) = variant.outs-Fixed _

pub out_unnamed : (s : Schema) (l : Layer) → out-Schema s ≡ l → out-Schema (unnamed s) ≡ bare l
out_unnamed s l e = ap out-Schema (unnamed_is s l e) ∙ out_without l

-- ---- null, and unions

pub null_is : (s : Schema) → is_null s ≡ true → s ≡ Null
null_is Null h = refl
null_is _ h = absurd (false_true h)

pub null_unnamed : unnamed Null ≡ Null
null_unnamed = unnamed_is Null layer.Null variant.outs-Null

bare_members : (l : Layer) → layer_members (bare l) ≡ option_map (map unnamed) (layer_members l)
bare_members layer.Null = refl
bare_members layer.Boolean = refl
bare_members (layer.Int logical) = refl
bare_members (layer.Long logical) = refl
bare_members layer.Float = refl
bare_members layer.Double = refl
bare_members (layer.Bytes logical) = refl
bare_members (layer.String logical) = refl
bare_members (layer.Record r) = refl
bare_members (layer.Enum e) = refl
bare_members (layer.Array item) = refl
bare_members (layer.Map value) = refl
bare_members (layer.Union members) = refl
bare_members (layer.Fixed f) = refl

-- the members of a union without names are those without names
pub members_unnamed : (s : Schema) → members_of (unnamed s) ≡ option_map (map unnamed) (members_of s)
members_unnamed s = ap layer_members (out_unnamed s (out-Schema s) refl) ∙ bare_members (out-Schema s)

pub members_union : (members : List Schema) → members_of (Union members) ≡ Some members
members_union members = ap layer_members (variant.outs-Union members)

-- what has these members is their union
pub union_is : (s : Schema) (members : List Schema) → members_of s ≡ Some members → s ≡ Union members
union_is s members h = from (out-Schema s) refl h
  where
    from : (l : Layer) → out-Schema s ≡ l → layer_members l ≡ Some members → s ≡ Union members
    from (layer.Union ms) e i = sym (roll-out-Schema s) ∙ ap roll-Schema e ∙ variant.rolls-Union ms ∙ ap Union (same_Some ms members i)
    from layer.Null e i = absurd cc
    from layer.Boolean e i = absurd cc
    from (layer.Int logical) e i = absurd cc
    from (layer.Long logical) e i = absurd cc
    from layer.Float e i = absurd cc
    from layer.Double e i = absurd cc
    from (layer.Bytes logical) e i = absurd cc
    from (layer.String logical) e i = absurd cc
    from (layer.Record r) e i = absurd cc
    from (layer.Enum n) e i = absurd cc
    from (layer.Array item) e i = absurd cc
    from (layer.Map value) e i = absurd cc
    from (layer.Fixed f) e i = absurd cc
