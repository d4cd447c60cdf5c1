-- How the values of a row's fields are read, told from their schemas once for all rows. Contracts of private functions
-- alone cite this file.
use Rattle.std.specs.Prelude.{◌≡◌, ◌<◌, ℕ, Bool, true, false, List, [], ◌∷◌, length, get_or, Option}
use Rattle.avro_schema.specs.declared.schema.AvroField.{AvroField}
use Rattle.avro_schema.specs.declared.schema.IntLogical.{IntLogical}
use Rattle.avro_schema.specs.declared.schema.LongLogical.{LongLogical}
use Rattle.avro_schema.specs.declared.schema.Schema.{Schema, Null, Boolean, Int, Long, String, Union', Row_of-Schema, end_of-Schema, more_of-Schema}
use Rattle.avro_schema.specs.declared.schema.StringLogical.{StringLogical}
use Rattle.avro_schema.specs.Encodes.{IsNull}
use Rattle.avro_decode.specs.declared.steps.Kind.{Kind}
use Rattle.avro_decode.specs.declared.steps.Kind.TheVariants as kind
use Rattle.avro_decode.specs.declared.steps.Step.{Step}
use Rattle.avro_decode.specs.declared.steps.Step.TheVariants.{Plain, Nullable}

-- the schema's values are of the kind
abbrev pub IsOfKind : Kind → Schema → Type 0
IsOfKind kind.Boolean s = s ≡ Boolean
IsOfKind kind.Int s = (logical : Option IntLogical) × (s ≡ Int logical)
IsOfKind kind.Long s = (logical : Option LongLogical) × (s ≡ Long logical)
IsOfKind kind.String s = (logical : Option StringLogical) × (s ≡ String logical)
IsOfKind kind.Any s = Unit {0}

-- where null_first, the first member is null and the second of the kind; else the first isn't null and is of the kind
abbrev pub AreOfKind : Bool → Kind → Schema → Schema → Type 0
AreOfKind true k a b = IsNull a × IsOfKind k b
AreOfKind false k a b = (IsNull a → ⊥) × IsOfKind k a

abbrev pub MembersFit : {m : _} → Bool → Kind → Row_of-Schema m → Type 0
MembersFit null_first k (more_of-Schema a (more_of-Schema b end_of-Schema)) = AreOfKind null_first k a b
MembersFit null_first k _ = ⊥

-- the step reads values of the schema
abbrev pub StepFits : Step → Schema → Type 0
StepFits (Plain k) s = IsOfKind k s
StepFits (Nullable null_first k) (Union' shape members) = MembersFit null_first k members
StepFits (Nullable null_first k) _ = ⊥

-- the same of a union by its members as a list
abbrev pub PairFits : Bool → Kind → List Schema → Type 0
PairFits null_first k (a ∷ b ∷ []) = AreOfKind null_first k a b
PairFits null_first k _ = ⊥

abbrev pub PairStepFits : Step → List Schema → Type 0
PairStepFits (Plain kind.Any) members = Unit {0}
PairStepFits (Plain _) members = ⊥
PairStepFits (Nullable null_first k) members = PairFits null_first k members

-- the member beside null
abbrev pub other_member : Bool → List Schema → Schema
other_member true (a ∷ b ∷ []) = b
other_member false (a ∷ b ∷ []) = a
other_member _ _ = Null

-- the steps are those of the fields, in order
abbrev pub StepsFit : List Step → List AvroField → Type 0
StepsFit steps fields = (i : ℕ) (step : Step) (f : AvroField) → i < length fields → StepFits (get_or steps i step) (get_or fields i f).schema
