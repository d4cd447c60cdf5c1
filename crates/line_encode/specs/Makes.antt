-- Which plans are those of a data type and a schema: what stands for a value is then the canonical encoding of the slot that the
-- value means. The contracts of a `LinePlan` cite `IsLinePlanOf`, which stands on the others; contracts of private functions cite
-- those too.
use Rattle.std.specs.Prelude.{◌≡◌, ◌⊎◌, ◌<◌, ℕ, Bool, true, false, List, [], ◌∷◌, length, map, Option, None}
use Rattle.arrow_array.specs.Slots.{is_held}
use Rattle.arrow_core.specs.declared.slot.Slot.{Slot}
use Rattle.arrow_core.specs.declared.slot.Slot.TheVariants as slot
use Rattle.arrow_core.specs.declared.types.DataType.{DataType, Struct}
use Rattle.arrow_core.specs.declared.types.Field.{Field}
use Rattle.avro_encode.specs.Pairs.{Pairs}
use Rattle.avro_encode.specs.Plain.{plain}
use Rattle.avro_schema.specs.Carried.{IsNoUnion}
use Rattle.avro_schema.specs.declared.schema.AvroField.{AvroField}
use Rattle.avro_schema.specs.declared.schema.IntLogical.{IntLogical}
use Rattle.avro_schema.specs.declared.schema.LongLogical.{LongLogical}
use Rattle.avro_schema.specs.declared.schema.Record.{Record as TheRecord, out-Record}
use Rattle.avro_schema.specs.declared.schema.Schema.{Schema, Boolean, Int, Long, String, Bytes}
use Rattle.avro_schema.specs.declared.schema.StringLogical.{StringLogical}
use Rattle.json_flat.specs.Columns.{means}
use Rattle.json_flat.specs.Meaning.{bytes_in, int64_in, moment_in, slot_of, text_in, boolean_in}
use Rattle.json_flat.specs.Names.{names_of, names_twice}
use Rattle.json_flat.specs.Reading.{has_reading, int32_in, reading}
use Rattle.json_tree.specs.Layout.{distinct}
use Rattle.json_tree.specs.Tree.{Json, null, object}
use Rattle.line_encode.specs.declared.lines.LinePlan.{LinePlan}
use Rattle.line_encode.specs.declared.plan.Plan.{Plan}
use Rattle.line_encode.specs.declared.plan.Primitive.{Primitive}
use Rattle.line_encode.specs.declared.plan.Primitive.TheVariants as primitive
use Rattle.line_encode.specs.Plans.{is_nullable, Writes, WritesHeld, WritesList, WritesMembers}

-- values are read under the type, and no struct in it names a field twice
abbrev pub IsReadable : DataType → Type 0
IsReadable t = (has_reading t ≡ true) × (names_twice t ≡ false)

-- the bytes are the canonical encoding of the slot that a value means
abbrev pub Encodes : DataType → Schema → Json → List ℕ → Type 0
Encodes t s value bytes = (x : Slot) × (means (reading t) value ≡ slot_of x) × Pairs s x × (bytes ≡ plain s x)

-- the same of a slot that isn't null
abbrev pub EncodesHeld : DataType → Schema → Json → List ℕ → Type 0
EncodesHeld t s value bytes = (x : Slot) × (is_held x ≡ true) × (means (reading t) value ≡ slot_of x) × Pairs s x × (bytes ≡ plain s x)

pub record IsPlanOf (t : DataType) (s : Schema) (plan : Plan) : Type 0 where
  pub readable : IsReadable t
  pub encodes : (value : Json) (bytes : List ℕ) → Writes plan value bytes → Encodes t s value bytes

-- the same under a schema that is no union; null may stand there too, or not
pub record IsHeldPlanOf (nullable : Bool) (t : DataType) (s : Schema) (plan : Plan) : Type 0 where
  pub may : is_nullable plan ≡ nullable
  pub readable : IsReadable t
  pub encodes : (value : Json) (bytes : List ℕ) → WritesHeld plan value bytes → EncodesHeld t s value bytes
  pub null_is : means (reading t) null ≡ slot_of slot.Null
  pub no_union : IsNoUnion s

-- values without others in them
abbrev pub IsPrimitiveOf : DataType → Schema → Primitive → Type 0
IsPrimitiveOf t s primitive.Boolean = (reading t ≡ boolean_in) × (s ≡ Boolean)
IsPrimitiveOf t s primitive.Int = (reading t ≡ int32_in) × ((logical : Option IntLogical) × (s ≡ Int logical))
IsPrimitiveOf t s primitive.Long = ((reading t ≡ int64_in) ⊎ (reading t ≡ moment_in)) × ((logical : Option LongLogical) × (s ≡ Long logical))
IsPrimitiveOf t s primitive.Bytes = ((reading t ≡ text_in) × ((logical : Option StringLogical) × (s ≡ String logical))) ⊎ ((reading t ≡ bytes_in) × (s ≡ Bytes None))

-- lists of items of a type
pub record IsListPlanOf (nullable : Bool) (t : DataType) (s : Schema) (plan : Plan) : Type 0 where
  pub may : is_nullable plan ≡ nullable
  pub readable : IsReadable t
  pub encodes : (value : Json) (bytes : List ℕ) → WritesHeld plan value bytes → WritesList (Encodes t s) value bytes

-- ---- structs

-- there is a field, and no two have the same name
abbrev pub AreNamed : List Field → Type 0
AreNamed fields = (0 < length fields) × (distinct (names_of fields) ≡ true)

-- the plan of each field's values
abbrev pub ArePlansOf : List Field → List AvroField → List Plan → Type 0
ArePlansOf [] [] [] = Unit {0}
ArePlansOf (f ∷ fields) (a ∷ avro_fields) (plan ∷ plans) = IsPlanOf f.data_type a.schema plan × ArePlansOf fields avro_fields plans
ArePlansOf _ _ _ = ⊥

-- structs of these fields, by a plan of each field's values
pub record IsStructPlanOf (nullable : Bool) (fields : List Field) (avro_fields : List AvroField) (plan : Plan) : Type 0 where
  pub may : is_nullable plan ≡ nullable
  pub named : AreNamed fields
  pub plans : List Plan
  pub are : ArePlansOf fields avro_fields plans
  pub encodes : (value : Json) (bytes : List ℕ) → WritesHeld plan value bytes → (members : List (List ℕ × Json)) × (value ≡ object members) × WritesMembers (names_of fields) plans members bytes

abbrev pub IsRecordPlanOf : Bool → DataType → List AvroField → Plan → Type 0
IsRecordPlanOf nullable t avro_fields plan = (fields : List Field) × (t ≡ Struct fields) × IsStructPlanOf nullable fields avro_fields plan

-- ---- rows of lines

-- the names of the fields, and the plan of each
pub record IsLinePlanOf (fields : List Field) (root : TheRecord) (plan : LinePlan) : Type 0 where
  pub named : AreNamed fields
  pub names_are : plan.names ≡ names_of fields
  pub plans_are : ArePlansOf fields (out-Record root).fields plan.plans.items
